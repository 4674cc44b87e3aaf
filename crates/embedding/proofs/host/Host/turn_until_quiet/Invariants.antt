use Rattle.std.proofs.Common.{◌≡◌}
use Rattle.embedding.specs.Hosts.{GoesOn, moment}
use Rattle.embedding.proofs.host.Host.turn_until_quiet.Given as goal

abbrev pub invariant-loop : goal.invariant-loop
invariant-loop g l = record {
  goes : GoesOn l.counter (moment l.fn.self.subsystem (g.M.MainStorage.contents l.fn.storage)) (moment l.self.subsystem (g.M.MainStorage.contents l.storage));
  lender : g.M.MainStorage.lender l.storage ≡ g.M.MainStorage.lender l.fn.storage;
}
