use Rattle.std.proofs.Common.{◌≡◌, take}
use Rattle.channel_config.proofs.config.list_of.Given as goal

abbrev pub invariant-loop-chpid : goal.invariant-loop-chpid
invariant-loop-chpid l = l.chpids ≡ take l.chpid-index l.paths
