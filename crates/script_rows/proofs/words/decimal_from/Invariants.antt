use Rattle.std.proofs.Common.{◌≡◌, ◌<◌, ◌^◌, drop}
use Rattle.script_rows.specs.Words as spec
use Rattle.script_rows.proofs.words.decimal_from.Given as goal

abbrev pub invariant-loop-byte : goal.invariant-loop-byte
invariant-loop-byte l = record {
  value : spec.decimal_from l.value (drop l.byte-index l.word) ≡ spec.decimal_from 0 l.word;
  small : l.value < 10 ^ l.byte-index;
}
