-- How a channel program goes on where a CCW is to be fetched (SA22-7832, chapter 15): to a CCW that takes control, to a suspension, or to a
-- check.
use Rattle.std.specs.Prelude.{ℕ, Option, None, Some}
use Rattle.storage_keys.specs.Storage.{Contents}
use Rattle.ccw_walk.specs.declared.check.Check.TheVariants.{Program}
use Rattle.ccw_walk.specs.declared.program.Reading.{Reading}
use Rattle.ccw_walk.specs.declared.program.Reading.TheVariants as reading
use Rattle.ccw_walk.specs.declared.program.Advance.{Advance}
use Rattle.ccw_walk.specs.declared.program.Advance.TheVariants.{Takes, Suspends, Stops}
use Rattle.ccw_walk.specs.Blocks.{reads}
use Rattle.ccw_walk.specs.Sequences.{Sequence, Nothing, ◌▸◌}
use Rattle.ccw_walk.specs.Acts.{Act, Block, Unfetched}
use Rattle.ccw_walk.specs.Positions.{WalkPosition, after_block, after_acts}
use Rattle.ccw_walk.specs.Fetching.{fetch_act}

-- a transfer in channel (TIC): the CCW at its target is fetched too
abbrev pub with_tic_target : Contents → WalkPosition → Reading → Sequence Act → Sequence Act
with_tic_target storage position read before =
    elim read [ reading.Transfers target ↦ before ▸ fetch_act storage position.orb position.role target | other ↦ before ]

-- the acts from the fetch of a CCW on. The target of a TIC is no TIC, so there are at most two
abbrev pub acts_from_fetch : Contents → WalkPosition → Act → Sequence Act
acts_from_fetch storage old (Block address bytes) =
    with_tic_target storage (after_block old address bytes) (reads old.orb old.role bytes) (Nothing ▸ Block address bytes)
acts_from_fetch storage old act = Nothing ▸ act

-- the acts by which a program goes on: none where no CCW is next
abbrev pub acts_from_next : Contents → WalkPosition → Option ℕ → Sequence Act
acts_from_next storage old next =
    elim next [ None ↦ Nothing | Some address ↦ acts_from_fetch storage old (fetch_act storage old.orb old.role address) ]

-- the acts by which a program goes on from its position
abbrev pub advance_acts : Contents → WalkPosition → Sequence Act
advance_acts storage old = acts_from_next storage old old.next

-- what a CCW comes to: a TIC does not let the program stand still
abbrev pub advance_of_ccw : Reading → Option Advance
advance_of_ccw read =
    elim read
    [ reading.Transfers target ↦ None | reading.Takes ccw ↦ Some (Takes ccw) | reading.Suspends ↦ Some Suspends | reading.Shows ↦ Some (Stops Program) ]

-- what a fetch comes to: a CCW, or the check of one that can't be fetched
abbrev pub advance_of_act : WalkPosition → Act → Option Advance
advance_of_act old (Block address bytes) = advance_of_ccw (reads old.orb old.role bytes)
advance_of_act old (Unfetched address check) = Some (Stops check)
advance_of_act old act = None

-- what some acts come to: the last one tells it
abbrev pub advance_of_acts : WalkPosition → Sequence Act → Option Advance
advance_of_acts old Nothing = None
advance_of_acts old (before ▸ act) = advance_of_act (after_acts old before) act
