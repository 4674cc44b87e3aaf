-- What is promised of both sides after each event (own).
use Rattle.std.specs.Prelude.{◌≡◌, ◌⊎◌, true, Option, None, Some, List, [], ◌∷◌, ◌++◌, slice_get}
use Rattle.chan_model.specs.declared.names.Side.{Side}
use Rattle.chan_model.specs.declared.hold_state.HoldPhase.{HoldPhase}
use Rattle.chan_model.specs.declared.signal.OnPath.{OnPath}
use Rattle.chan_model.specs.Signals.{Down}
use Rattle.chan_model.specs.declared.unit_state.UnitState.{UnitState}
use Rattle.chan_model.specs.Sides.{same_side}
use Rattle.chan_model.specs.UnitTable.{owns}
use Rattle.unit.specs.UnitWords.{LeavesOther, other_of}
use Rattle.agreement_laws.specs.Links.{link_of}
use Rattle.agreement_laws.specs.Claims.{IsSound, IsReset, IsResetDue, DoAgree}
use Rattle.agree.specs.declared.event.WorldEvent.{WorldEvent}
use Rattle.agree.specs.declared.event.WorldEvent.TheVariants as event
use Rattle.agree.specs.BothAgree.{DoBothAgree}
use Rattle.agree.specs.ByItsPath.{IsByItsPath}
use Rattle.agree.specs.Histories.{WorldEntry, entries_of}
use Rattle.agree.specs.OneHolder.{HasOneHolder, IsBegunOnce}
use Rattle.agree.specs.State.{WorldState, links_of, line_of, opening_world}
use Rattle.agree.specs.Results.{world_after, worlds_after}

-- both sides agree, except while a reset isn't yet taken; one path moves data; each number was accepted at most once
abbrev pub AreSound : WorldState → Type 0
AreSound w = (side : Side) → IsSound (links_of w) side

-- the event delivers the Reset of the hold, and the unit takes it
abbrev pub IsResetMet : UnitState → HoldPhase → Side → Option (OnPath Down) → Type 0
IsResetMet u phase side None = ⊥
IsResetMet u phase side (Some x) = IsReset u phase side x.signal

abbrev pub IsResetTakenBy : WorldState → WorldEvent → Side → Type 0
IsResetTakenBy w (event.Down k index keep may) side =
    (same_side k side ≡ true) × IsResetMet w.«unit» (link_of (links_of w) side).hold.phase side (slice_get (line_of w k).link.downs index)
IsResetTakenBy w e side = ⊥

-- A reset that isn't yet taken stays so, but where the unit takes it; right after that both sides agree.
abbrev pub EndsByEvent : WorldState → WorldEvent → WorldState → Type 0
EndsByEvent old e new = (side : Side) → IsResetDue (links_of old) side →
    IsResetDue (links_of new) side ⊎ (IsResetTakenBy old e side × DoAgree (links_of new) side)

-- the same of each event of a list
abbrev pub EachEnds : WorldState → List WorldEvent → Type 0
EachEnds w [] = Unit {0}
EachEnds w (e ∷ es) = EndsByEvent w e (world_after w e) × EachEnds (world_after w e) es

-- What is done at one side leaves the other: its hold, its signals and paths; and of the unit its floor, its mark of a restart, and
-- its program, and the unit gets no program of it.
pub record IsApart (side : Side) (old new : WorldState) : Type 0 where
  pub «unit» : LeavesOther side old.«unit» new.«unit»
  pub line : line_of new (other_of side) ≡ line_of old (other_of side)

-- Leave, Ask and a report are of the side whose program holds the device; a reset of the subsystem and a restart are of both
abbrev pub LeavesApart : WorldState → WorldEvent → WorldState → Type 0
LeavesApart old (event.Choose side p single) new = IsApart side old new
LeavesApart old (event.Down side index keep may) new = IsApart side old new
LeavesApart old (event.Up side index keep may) new = IsApart side old new
LeavesApart old (event.LoseDown side index) new = IsApart side old new
LeavesApart old (event.LoseUp side index) new = IsApart side old new
LeavesApart old (event.PathDown side p) new = IsApart side old new
LeavesApart old (event.PathUp side p) new = IsApart side old new
LeavesApart old (event.PathReset side p) new = IsApart side old new
LeavesApart old (event.LetGo side) new = IsApart side old new
LeavesApart old (event.Send side p signal) new = IsApart side old new
LeavesApart old (event.Clear side) new = IsApart side old new
LeavesApart old event.SubsystemReset new = Unit {0}
LeavesApart old event.Leave new = (side : Side) → owns old.«unit».own side ≡ true → IsApart side old new
LeavesApart old (event.Ask p) new = (side : Side) → owns old.«unit».own side ≡ true → IsApart side old new
LeavesApart old (event.Attention side p) new = IsApart side old new
LeavesApart old (event.Notice side p) new = IsApart side old new
LeavesApart old event.Restart new = Unit {0}
LeavesApart old (event.Report report) new = (side : Side) → owns old.«unit».own side ≡ true → IsApart side old new

-- the same of each event of a list
abbrev pub EachApart : WorldState → List WorldEvent → Type 0
EachApart w [] = Unit {0}
EachApart w (e ∷ es) = LeavesApart w e (world_after w e) × EachApart (world_after w e) es

-- what is claimed of a history by its entries alone
abbrev pub IsHistorySound : List WorldEntry → Type 0
IsHistorySound h = IsByItsPath h × HasOneHolder h × IsBegunOnce h × DoBothAgree h

-- so it is of all that happened since the opening, whatever led to this world, and of these events after it
abbrev pub GoesOnSound : WorldState → List WorldEvent → Type 0
GoesOnSound w events =
    (before : List WorldEvent) → w ≡ worlds_after opening_world before → IsHistorySound (entries_of opening_world (before ++ events))
