use Rattle.std.proofs.Common.{◌≡◌, take, map}
use Rattle.machine_model.specs.State.{idle_of}
use Rattle.machine.proofs.opening.idle_units.Given as goal

-- the units so far are idle
abbrev pub invariant-loop-kind : goal.invariant-loop-kind
invariant-loop-kind g l = record {
  made : l.units.items ≡ map idle_of (take l.kind-index l.kinds);
  unrefused : g.S.Supply.refused l.supply ≡ g.S.Supply.refused l.fn.supply;
}
