use Rattle.std.proofs.Common.{◌≡◌, length, take}
use Rattle.machine_model.specs.OtherSteps.{engaged_bytes}
use Rattle.io_step.proofs.others.engaged_bytes.Given as goal

-- the bytes so far are stored
abbrev pub invariant-loop-index : goal.invariant-loop-index
invariant-loop-index l = record {
  long : length l.image ≡ 32;
  done : take l.index l.image ≡ engaged_bytes l.engaged l.index;
}
