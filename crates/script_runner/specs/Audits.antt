-- When an audit fails.
use Rattle.std.specs.Prelude.{◌≡◌, ℕ, Bool, false, true, List, Some}
use Rattle.script.specs.Pieces.{lines_of}
use Rattle.script.specs.Scripts.{ScriptContents, IsScript}
use Rattle.script.specs.declared.RaceLine.{RaceLine}
use Rattle.script_runner.specs.Acting.{Installed, IsOpening}
use Rattle.script_runner.specs.Serving.{Serves, ServesRace, RacesAfter}
use Rattle.script_runner.specs.declared.Ending.TheVariants as ending
use Rattle.streams.specs.Sinks.{Seen}

-- without a race none does: the log of the one seat is always what the history has of it
abbrev pub NoneFails : Type 0
NoneFails = (short : Bool) (text : List ℕ) (held now : Seen) (whole : Bool) → ¬ Serves short (Some text) held now (ending.AuditFailed whole)

-- the script of a text raced, and the audit of its race failed
pub record FailsByRace (short : Bool) (text : List ℕ) (held now : Seen) (whole : Bool) : Type 0 where
  pub script : ScriptContents
  pub line : RaceLine
  pub opening : Installed
  pub refused : Bool
  pub is : IsScript true (lines_of text) script
  pub asks : script.race ≡ Some line
  pub opens : IsOpening script.setup opening
  pub races : RacesAfter short opening script.lines line held now whole false refused

-- with one, only by the race
abbrev pub FailsOnlyByRace : Type 0
FailsOnlyByRace = (short : Bool) (text : List ℕ) (held now : Seen) (whole : Bool) → ServesRace short (Some text) held now (ending.AuditFailed whole) → FailsByRace short text held now whole
