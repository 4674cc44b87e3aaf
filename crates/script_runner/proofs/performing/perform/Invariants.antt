use Rattle.std.proofs.Common.{◌≡◌, false, take}
use Rattle.script_runner.specs.Performing.{HasPerformed}
use Rattle.script_runner.proofs.performing.perform.Given as goal

abbrev pub invariant-loop-index : goal.invariant-loop-index
invariant-loop-index g l = record {
  performed : HasPerformed (g.M.Supply.refused l.supply) l.fn.installation (take l.index l.lines) (g.S.Sink.seen l.fn.sink) (g.S.Sink.seen l.sink) l.refused l.installation;
  unrefused : l.refused ≡ false → g.M.Supply.refused l.supply ≡ g.M.Supply.refused l.fn.supply;
}
