use Rattle.std.proofs.Common.{◌≡◌, ◌+◌, drop}
use Rattle.step_records.specs.Lines.{bytes_before}
use Rattle.step_records.proofs.script_lines.bytes_before.Given as goal

abbrev pub invariant-loop-index : goal.invariant-loop-index
invariant-loop-index l = bytes_before l.separator l.bytes ≡ l.index + bytes_before l.separator (drop l.index l.bytes)
