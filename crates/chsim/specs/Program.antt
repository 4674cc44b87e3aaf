-- What the program does where its words name a command, and where they name none.
use Rattle.std.specs.Prelude.{◌≡◌, ℕ, Bool, List, Option, Some, None}
use Rattle.streams.specs.Sinks.{Seen, Puts}
use Rattle.std.specs.String.{string_bytes}
use Rattle.command_words.specs.declared.Refused.{Refused}
use Rattle.command_words.specs.declared.Refused.TheVariants as refused
use Rattle.command_words.specs.declared.Wanted.{Wanted}
use Rattle.command_words.specs.declared.Wanted.TheVariants.{Run, Race, Check}
use Rattle.command_words.specs.Plain.{plain}
use Rattle.command_words.specs.Texts.{Telling, IsTold}
use Rattle.script_runner.specs.Serving.{Serves, ServesRace, Checks, IsForMemory}
use Rattle.script_runner.specs.declared.Ending.{Ending}
use Rattle.chsim.specs.declared.outcome.Outcome.{Outcome}
use Rattle.chsim.specs.declared.outcome.Outcome.TheVariants.{Ended, NoCommand, NoMemory, NotUtf8}

-- a command ends in one way; the supply had refused a growth by its end (short)
abbrev pub Does : Bool → Wanted → Option (List ℕ) → Seen → Seen → Ending → Type 0
Does short Run input held now ending = Serves short input held now ending
Does short Race input held now ending = ServesRace short input held now ending
Does short Check input held now ending = Checks input held now ending

-- words that name no command: their text is written, or the sink failed within it; or there was no memory for the text, and nothing is
-- written
abbrev pub ShowsRefusal : Refused → Seen → Seen → Outcome → Type 0
ShowsRefusal (refused.Text text) held now (NoCommand whole) = Puts held (string_bytes text) now whole
ShowsRefusal refused.NoMemory held now NoMemory = now ≡ held
ShowsRefusal refused held now other = ⊥

abbrev pub Commands : Bool → Telling → List (List ℕ) → Option Wanted → Option (List ℕ) → Seen → Seen → Outcome → Type 0
Commands short tells words None input held now outcome = (refused : Refused) × IsTold tells words refused × ShowsRefusal refused held now outcome
Commands short tells words (Some wanted) input held now (Ended ending) = Does short wanted input held now ending
Commands short tells words (Some wanted) input held now other = ⊥

-- two words, the program's own name and a command's; of other words their text is shown, which is one of those that may be told
abbrev pub IsServed : Bool → Telling → List (List ℕ) → Option (List ℕ) → Seen → Seen → Outcome → Type 0
IsServed short tells words input held now outcome = Commands short tells words (plain words) input held now outcome

-- it ended for want of memory
abbrev pub LacksMemory : Outcome → Type 0
LacksMemory (Ended ending) = IsForMemory ending
LacksMemory (NoCommand whole) = ⊥
LacksMemory NoMemory = Unit {0}
LacksMemory NotUtf8 = ⊥
