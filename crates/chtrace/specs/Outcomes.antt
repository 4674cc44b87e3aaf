-- How the program ends: its exit status, and its line on standard error (own).
use Rattle.std.specs.Prelude.{ℕ, true, false, List, codes, Option, Some, None}
use Rattle.std.specs.declared.io.ErrorKind.{ErrorKind}
use Rattle.std.specs.declared.io.ErrorKind.TheVariants.{InvalidData}
use Rattle.chtrace.specs.declared.outcome.Outcome.{Outcome}
use Rattle.chtrace.specs.declared.outcome.Outcome.TheVariants.{Done, WrongWords, Bad, Unread, Unwritten, NotUtf8, NoMemory, Unbalanced, AuditFailed}

-- 0: all was performed and written; 1: an action was refused, or there was no memory or nowhere to write; 2: words, the script or a
-- line of words are bad, or cannot be read; 3: the books do not balance
abbrev pub exit_status : Outcome → ℕ
exit_status (Done false) = 0
exit_status (Done true) = 1
exit_status Unwritten = 1
exit_status NotUtf8 = 1
exit_status NoMemory = 1
exit_status WrongWords = 2
exit_status Bad = 2
exit_status Unread = 2
exit_status (Unbalanced line) = 3
exit_status AuditFailed = 3

-- how the program ends for want of its words, by what kept them from it
abbrev pub without_words : ErrorKind → Outcome
without_words InvalidData = NotUtf8
without_words kind = NoMemory

-- there is a line where nothing else tells how the program ended
abbrev pub complaint_of : Outcome → Option (List ℕ)
complaint_of (Done refused) = None
complaint_of WrongWords = None
complaint_of Bad = None
complaint_of Unread = Some (codes "chtrace: standard input could not be read")
complaint_of Unwritten = Some (codes "chtrace: standard output could not be written")
complaint_of NotUtf8 = Some (codes "chtrace: the words are not UTF-8")
complaint_of NoMemory = Some (codes "chtrace: there is no memory")
complaint_of (Unbalanced line) = Some (codes "chtrace: the records do not account for what moved")
complaint_of AuditFailed = Some (codes "chtrace: the audit failed")
