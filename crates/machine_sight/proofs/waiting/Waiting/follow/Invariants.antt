use Rattle.std.proofs.Common.{◌≡◌, take}
use Rattle.machine_sight.specs.Balance.{IsBalanced}
use Rattle.machine_sight.proofs.waiting.Waiting.follow.Given as goal

-- the facts so far are followed
abbrev pub invariant-loop-record : goal.invariant-loop-record
invariant-loop-record g l = record {
  balanced : IsBalanced l.fn.self (take l.record-index l.records) l.self;
  unrefused : g.S.Supply.refused l.supply ≡ g.S.Supply.refused l.fn.supply;
}
