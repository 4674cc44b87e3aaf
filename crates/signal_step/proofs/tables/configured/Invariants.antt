use Rattle.std.proofs.Common.{◌≡◌, length, take}
use Rattle.machine_model.specs.State.{configured_paths}
use Rattle.signal_step.proofs.tables.configured.Given as goal

-- the entries so far are made
abbrev pub invariant-loop-chpid : goal.invariant-loop-chpid
invariant-loop-chpid l = record {
  long : length l.table ≡ 0x100;
  done : take l.chpid l.table ≡ configured_paths l.chpids l.chpid;
}
