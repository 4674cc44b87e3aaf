-- How the program ends: its exit status, and its line on standard error (own).
use Rattle.std.specs.Prelude.{ℕ, Bool, true, false, List, codes, Option, Some, None}
use Rattle.script_runner.specs.Serving.{status_of}
use Rattle.script_runner.specs.declared.Ending.{Ending}
use Rattle.script_runner.specs.declared.Ending.TheVariants as ending
use Rattle.std.specs.declared.io.ErrorKind.{ErrorKind}
use Rattle.std.specs.declared.io.ErrorKind.TheVariants.{InvalidData}
use Rattle.chsim.specs.declared.outcome.Outcome.{Outcome}
use Rattle.chsim.specs.declared.outcome.Outcome.TheVariants.{Ended, NoCommand, NoMemory, NotUtf8}

-- a command's own status; 2 where the words name none; 1 where there was no memory for the words, or one is not UTF-8
abbrev pub exit_status : Outcome → ℕ
exit_status (Ended e) = status_of e
exit_status (NoCommand whole) = 2
exit_status NoMemory = 1
exit_status NotUtf8 = 1

-- how the program ends for want of its words, by what kept them from it
abbrev pub without_words : ErrorKind → Outcome
without_words InvalidData = NotUtf8
without_words kind = NoMemory

-- nothing where all that was due was written
abbrev pub unwritten : Bool → Option (List ℕ)
unwritten true = None
unwritten false = Some (codes "chsim: standard output could not be written")

abbrev pub complaint_of_ending : Ending → Option (List ℕ)
complaint_of_ending ending.NotRead = Some (codes "chsim: standard input could not be read")
complaint_of_ending (ending.Bad whole) = unwritten whole
complaint_of_ending (ending.NoMemory whole) = unwritten whole
complaint_of_ending (ending.Done refused) = None
complaint_of_ending (ending.Stopped refused) = unwritten false
complaint_of_ending (ending.AuditFailed whole) = unwritten whole

-- there is a line just where standard output cannot tell how the program ended
abbrev pub complaint_of : Outcome → Option (List ℕ)
complaint_of (Ended e) = complaint_of_ending e
complaint_of (NoCommand whole) = unwritten whole
complaint_of NoMemory = Some (codes "chsim: there is no memory for the words")
complaint_of NotUtf8 = Some (codes "chsim: the words are not UTF-8")
