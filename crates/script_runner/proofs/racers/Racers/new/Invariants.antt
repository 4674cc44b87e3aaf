use Rattle.std.proofs.Common.{◌≡◌, ◌+◌, length}
use Rattle.script_runner.specs.Race.{AreReady}
use Rattle.script_runner.proofs.racers.Racers.new.Given as goal

abbrev pub invariant-loop-number : goal.invariant-loop-number
invariant-loop-number g l = record {
  count : length l.cpus.items ≡ l.number;
  ready : AreReady 0 l.cpus.items;
  core : l.core.value ≡ record l.fn.core.value { seats = l.fn.core.value.seats + l.number };
  unrefused : g.S.Supply.refused l.supply ≡ g.S.Supply.refused l.fn.supply;
}
