use Rattle.std.proofs.Common.{◌≡◌, take, nat_lt}
use Rattle.script.specs.Parsing as spec
use Rattle.script.proofs.readable.is_plain.Given as goal

-- the bytes so far are of ASCII where the greatest of them is
abbrev pub invariant-loop-byte : goal.invariant-loop-byte
invariant-loop-byte l = spec.is_ascii (take l.byte-index l.text) ≡ nat_lt l.most 128
