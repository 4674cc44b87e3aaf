use Rattle.std.proofs.Common.{◌≡◌, drop}
use Rattle.glance_directory.specs.PathTurns.{path_turn_among}
use Rattle.glance_directory.proofs.path_turns.path_turn_of.Given as goal

-- there is none for the subchannels so far
abbrev pub invariant-loop-index : goal.invariant-loop-index
invariant-loop-index g l = path_turn_among l.subsystem.state l.chpid l.directory.setups ≡ path_turn_among l.subsystem.state l.chpid (drop l.index l.directory.setups)
