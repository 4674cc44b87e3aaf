-- What a call of a walk does, over all that was done before it.
use Rattle.std.specs.Prelude.{◌≡◌, ◌<◌, ◌^◌, ⊤}
use Rattle.orb_block.specs.declared.Orb.{Orb}
use Rattle.ccw_walk.specs.declared.program.Reading.{Reading}
use Rattle.ccw_walk.specs.declared.program.Reading.TheVariants.{Transfers}
use Rattle.ccw_walk.specs.Sequences.{Sequence, ◌▸▸◌}
use Rattle.ccw_walk.specs.Acts.{Act}
use Rattle.ccw_walk.specs.Positions.{WalkPosition, walk_position}

-- wherever what was done before led to the old position, some acts more lead to the new one
abbrev pub GoesOn : WalkPosition → Sequence Act → WalkPosition → Type 0
GoesOn old acts new = (orb : Orb) (before : Sequence Act) → old ≡ walk_position orb before → new ≡ walk_position orb (before ▸▸ acts)

-- the target of a transfer in channel has 31 bits
abbrev pub IsTargetInRange : Reading → Type 0
IsTargetInRange (Transfers target) = target < 2 ^ 31
IsTargetInRange reading = ⊤
