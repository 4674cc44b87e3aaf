use Rattle.std.proofs.Common.{◌≡◌, take, map}
use Rattle.subchannel_model.specs.Opening.{opened}
use Rattle.machine.proofs.opening.opened_all.Given as goal

-- the subchannels so far are opened
abbrev pub invariant-loop-setup : goal.invariant-loop-setup
invariant-loop-setup g l = record {
  made : l.subs.items ≡ map opened (take l.setup-index l.setups);
  unrefused : g.S.Supply.refused l.supply ≡ g.S.Supply.refused l.fn.supply;
}
