use Rattle.std.proofs.Common.{◌≡◌, take}
use Rattle.channel_subsystem.specs.Replaying.{AreRepeated}
use Rattle.channel_subsystem.proofs.hosted.ChannelSubsystem.replay_with.Given as goal

abbrev pub invariant-loop-index : goal.invariant-loop-index
invariant-loop-index g l = record {
  repeated : AreRepeated g.P.PathChoice.picks l.fn.self (g.M.MainStorage.contents l.fn.storage) (take l.index l.history) l.self (g.M.MainStorage.contents l.storage);
  lender : g.M.MainStorage.lender l.storage ≡ g.M.MainStorage.lender l.fn.storage;
  unrefused : g.S.Supply.refused l.supply ≡ g.S.Supply.refused l.fn.supply;
}
