use Rattle.std.proofs.Common.{◌≡◌, ◌≤◌, ◌+◌, ◌*◌, ◌++◌, length, Some}
use Rattle.script_rows.specs.Words as spec
use Rattle.script_rows.proofs.words.bytes_from.Given as goal

abbrev pub invariant-pairs : goal.invariant-pairs
invariant-pairs l = record {
  value : spec.bytes_from l.word ≡ spec.and_then (spec.bytes_from l.rest) (λ bs. Some (l.chunk ++ bs));
  room : length l.chunk * 2 + length l.rest ≤ 512;
}

abbrev pub decreases-pairs : goal.decreases-pairs
decreases-pairs l = length l.rest
