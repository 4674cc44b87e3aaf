use Rattle.std.proofs.Common.{◌≡◌, None, take}
use Rattle.glance_directory.specs.Directory.{named_index}
use Rattle.glance_directory.proofs.directory.named_index.Given as goal

-- none of the subchannels so far has this name
abbrev pub invariant-loop-index : goal.invariant-loop-index
invariant-loop-index l = named_index l.id (take l.index l.setups) ≡ None
