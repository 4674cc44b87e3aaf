use Rattle.std.proofs.Common.{◌≡◌, ◌<◌, ◌^◌, drop}
use Rattle.script_rows.specs.Words as spec
use Rattle.script_rows.proofs.words.hex_from.Given as goal

abbrev pub invariant-loop-byte : goal.invariant-loop-byte
invariant-loop-byte l = record {
  value : spec.hex_from l.value (drop l.byte-index l.word) ≡ spec.hex_from 0 l.word;
  small : l.value < 16 ^ l.byte-index;
}
