use Rattle.std.proofs.Common.{◌≡◌, None, take}
use Rattle.subchannel_model.specs.Indices.{is_named, first_index}
use Rattle.lookup.proofs.walk.index_in.Given as goal

-- none of the subchannels so far passes
abbrev pub invariant-loop-index : goal.invariant-loop-index
invariant-loop-index l = first_index (is_named l.id) (take l.index l.subs) ≡ None
