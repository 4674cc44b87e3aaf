-- What a program on a CPU can see.
use Rattle.std.specs.Prelude.{ℕ, Bool, true, false, List, is_some}
use Rattle.step_records.specs.declared.script_lines.ScriptLines.{ScriptLines}
use Rattle.step_records.specs.declared.record.Record.{Record}
use Rattle.step_records.specs.declared.record.Fact.{Fact}
use Rattle.step_records.specs.declared.record.Fact.TheVariants as fact
use Rattle.step_records.specs.declared.record.RequestChange.TheVariants.{Posted}
use Rattle.step_records.specs.declared.record.ReportChange.TheVariants.{Waits}
use Rattle.step_records.specs.Lines.{line_of}
use Rattle.seen_answers.specs.Instructions.{act_of}

-- the answer to an instruction, a request for an interruption that is posted, and a channel report that waits
abbrev pub is_seen : List ℕ → Fact → Bool
is_seen line (fact.Answer outcome) = is_some (act_of line)
is_seen line (fact.Request subchannel subclass Posted) = true
is_seen line (fact.Report Waits crw) = true
is_seen line _ = false

abbrev pub is_visible : ScriptLines → Record → Bool
is_visible text told = is_seen (line_of text told.line) told.fact
