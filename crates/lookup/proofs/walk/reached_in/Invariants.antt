use Rattle.std.proofs.Common.{◌≡◌, None, take}
use Rattle.subchannel_model.specs.Indices.{first_index, reaches}
use Rattle.lookup.proofs.walk.reached_in.Given as goal

-- none of the subchannels so far passes
abbrev pub invariant-loop-index : goal.invariant-loop-index
invariant-loop-index l = first_index (reaches l.«unit» l.side) (take l.index l.subs) ≡ None
