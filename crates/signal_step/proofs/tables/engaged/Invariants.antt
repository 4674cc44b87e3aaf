use Rattle.std.proofs.Common.{◌≡◌, length, take}
use Rattle.machine_model.specs.OtherSteps.{engaged_chpids}
use Rattle.signal_step.proofs.tables.engaged.Given as goal

-- the entries so far are made
abbrev pub invariant-loop-chpid : goal.invariant-loop-chpid
invariant-loop-chpid l = record {
  long : length l.table ≡ 0x100;
  done : take l.chpid l.table ≡ engaged_chpids l.subs l.chpid;
}
