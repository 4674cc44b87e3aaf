-- What the subsystem does of itself for a subchannel (own).
use Rattle.std.specs.Prelude.{◌≡◌, ℕ, ◌+◌, Bool, true, false, not, ◌&&◌, if◌then◌else◌, Option, None, Some, is_some, option_and_then, option_map, unwrap_or, List, [], ◌∷◌, slice_get}
use Rattle.std.specs.List.{list_any}
use Rattle.scsw_irb.specs.declared.scsw.Scsw.{Scsw}
use Rattle.chan_model.specs.declared.hold_state.HoldPhase.{HoldPhase}
use Rattle.chan_model.specs.declared.hold_state.HoldPhase.TheVariants as hold
use Rattle.chan_model.specs.declared.hold_state.HoldState.{HoldState}
use Rattle.chan_model.specs.HoldTable.{offering, sending_reset, hold_after}
use Rattle.chan_model.specs.ResetCauses.{is_path, engaged_path}
use Rattle.allegiance.specs.Allegiances.{may_reconnect}
use Rattle.allegiance.specs.declared.path_use.PathUse.{PathUse}
use Rattle.allegiance.specs.PathUse.{reachable_paths, usable_paths, lost_paths, marked}
use Rattle.chan_model.specs.PathSets.{is_member, each_path, is_any}
use Rattle.subchannel_model.specs.declared.state.Candidate.{Candidate}
use Rattle.subchannel_model.specs.declared.state.Chosen.{Chosen}
use Rattle.subchannel_model.specs.declared.state.Chosen.TheVariants.{Idle, Resets, PerformsClear, Halts, PerformsHalt, FindsNoPath, Offers}
use Rattle.subchannel_model.specs.declared.state.Program.{Program}
use Rattle.subchannel_model.specs.declared.state.ProgramPosition.{ProgramPosition}
use Rattle.subchannel_model.specs.declared.state.SubchannelState.{SubchannelState}
use Rattle.subchannel_model.specs.declared.state.Subchannel.{Subchannel}
use Rattle.subchannel_model.specs.Store.{installed_paths, available_paths}

-- the engine of a channel path serves one subchannel: the one whose hold is offered, connected or letting go there
abbrev pub engages_at : Subchannel → Option ℕ → ℕ → Bool
engages_at sub path chpid = elim path [ None ↦ false | Some p ↦ is_path (slice_get sub.setup.paths p) chpid ]

abbrev pub engages : ℕ → Subchannel → Bool
engages chpid sub = engages_at sub (engaged_path sub.state.hold.phase) chpid

abbrev pub any_engages : List Subchannel → ℕ → Bool
any_engages subs chpid = list_any (engages chpid) subs

abbrev pub is_engaged : List Subchannel → Option ℕ → Bool
is_engaged subs None = false
is_engaged subs (Some chpid) = any_engages subs chpid

-- what decides which paths the subchannel may use
abbrev pub path_use : Subchannel → PathUse
path_use sub = record {
  logical = sub.state.pmcw.logical;
  installed = installed_paths sub;
  available = available_paths sub;
  operational = sub.state.pmcw.operational;
  not_operational = sub.state.pmcw.not_operational;
  dedicated = sub.state.dedicated;
}

-- the paths of the subchannel whose engines serve some subchannel
abbrev pub engaged_paths : List Subchannel → Subchannel → List Bool
engaged_paths subs sub = each_path (λ p. is_engaged subs (slice_get sub.setup.paths p))

-- the paths by which a program that is away may come back
abbrev pub return_paths : Subchannel → List Bool
return_paths sub = each_path (λ p. is_member (available_paths sub) p && may_reconnect sub.state.hold (available_paths sub) p)

-- a Reset that was not sent yet, by its number
abbrev pub unsent_at : HoldPhase → Option ℕ → Option ℕ
unsent_at phase path = elim phase [ hold.Reset r ↦ elim path [ None ↦ Some r | Some p ↦ None ] | other ↦ None ]

abbrev pub unsent_reset : HoldState → Option ℕ
unsent_reset h = unsent_at h.phase h.reset_path

abbrev pub is_away : HoldPhase → Bool
is_away (hold.Away t) = true
is_away phase = false

-- the paths of which one is chosen: each that is available for a Reset, those by which it may come back for a Halt of a
-- program that is away, and otherwise the usable ones
abbrev pub paths_unreset : List Subchannel → Subchannel → List Bool
paths_unreset subs sub =
    if sub.state.scsw.activity.halt_pending && is_away sub.state.hold.phase then return_paths sub
    else usable_paths (path_use sub) (engaged_paths subs sub)

abbrev pub paths_by : Option ℕ → List Subchannel → Subchannel → List Bool
paths_by unsent subs sub = elim unsent [ None ↦ paths_unreset subs sub | Some r ↦ available_paths sub ]

abbrev pub paths_to_choose : List Subchannel → Subchannel → List Bool
paths_to_choose subs sub = paths_by (unsent_reset sub.state.hold) subs sub

-- the first that there is
abbrev pub first_some : {A : Type 0} → List (Option A) → Option A
first_some [] = None
first_some (None ∷ later) = first_some later
first_some (Some x ∷ later) = Some x

-- the program that is to be offered: with start pending the one that waits, or else with resume pending the suspended one
abbrev pub starting : Bool → Option Program → Option Candidate
starting pending waiting = if pending then option_map (λ program. record { program = program; resumes = false }) waiting else None

abbrev pub resuming : Bool → Option ProgramPosition → Option Candidate
resuming pending suspended =
    if pending then option_map (λ (st : ProgramPosition). record { program = st.program; resumes = true }) suspended else None

abbrev pub candidate : SubchannelState → Option Candidate
candidate s = first_some (starting s.scsw.activity.start_pending s.waiting ∷ resuming s.scsw.activity.resume_pending s.suspended ∷ [])

-- 1. a Reset is due, and there is a path for it: it is sent
abbrev pub reset_chosen : Option ℕ → Option ℕ → Option Chosen
reset_chosen due choice = option_and_then (λ r. option_map (λ path. Resets r path) choice) due

-- 2. a Reset is due without a path for it, and a clear is pending: it is performed at once, and the hold stays as it is
abbrev pub clear_chosen : Option ℕ → Bool → Option Chosen
clear_chosen None pending = None
clear_chosen (Some r) pending = if pending then Some PerformsClear else None

-- 3. a halt is pending: the program that is connected is told by the path of its connection, one that is away by the chosen
-- path; an offer is waited for; otherwise no device is held, and the halt is performed
abbrev pub halt_at : HoldPhase → Option ℕ → Option Chosen
halt_at (hold.On t p c) choice = Some (Halts t p)
halt_at (hold.Away t) choice = option_map (λ path. Halts t path) choice
halt_at (hold.Offer t p) choice = None
halt_at phase choice = Some PerformsHalt

abbrev pub halt_chosen : Bool → HoldPhase → Option ℕ → Option Chosen
halt_chosen pending phase choice = if pending then halt_at phase choice else None

-- 4. a program is to be offered: it is, on the chosen path, where the hold is free; where the hold is free or to be reset and
-- no path is within reach, the program is over
abbrev pub over_unless : Bool → Option Chosen
over_unless reachable = if reachable then None else Some FindsNoPath

abbrev pub offer_at : HoldPhase → Candidate → Bool → Option ℕ → Option Chosen
offer_at hold.Free c reachable choice = elim choice [ None ↦ over_unless reachable | Some path ↦ Some (Offers c path) ]
offer_at (hold.Reset r) c reachable choice = over_unless reachable
offer_at phase c reachable choice = None

abbrev pub offer_chosen : HoldPhase → Option Candidate → Bool → Option ℕ → Option Chosen
offer_chosen phase found reachable choice = option_and_then (λ c. offer_at phase c reachable choice) found

-- the first that applies, otherwise nothing
abbrev pub chosen_of : List (Option Chosen) → Chosen
chosen_of acts = unwrap_or (first_some acts) Idle

abbrev pub chosen : Subchannel → Option ℕ → Chosen
chosen sub choice = chosen_of (
    reset_chosen (unsent_reset sub.state.hold) choice
    ∷ clear_chosen (unsent_reset sub.state.hold) sub.state.scsw.activity.clear_pending
    ∷ halt_chosen sub.state.scsw.activity.halt_pending sub.state.hold.phase choice
    ∷ offer_chosen sub.state.hold.phase (candidate sub.state) (is_any (reachable_paths (path_use sub))) choice
    ∷ [])

-- The fourth rule is reached where neither of the first two applies, no halt is pending and a program is to be offered. Then each
-- path that is found not operational is marked so, whatever comes of it: it leaves the path-operational mask for the
-- path-not-operational mask, and N is one where there is such a path
abbrev pub looks_for_path : SubchannelState → Option ℕ → Bool
looks_for_path s choice =
    not (is_some (reset_chosen (unsent_reset s.hold) choice))
    && (not (is_some (clear_chosen (unsent_reset s.hold) s.scsw.activity.clear_pending))
    && (not s.scsw.activity.halt_pending && is_some (candidate s)))

abbrev pub marked_state : SubchannelState → PathUse → Bool → SubchannelState
marked_state s used looks = record s {
  pmcw = record s.pmcw {
    operational = if looks then (marked used).operational else s.pmcw.operational;
    not_operational = if looks then (marked used).not_operational else s.pmcw.not_operational;
  };
  scsw = record s.scsw { path_not_operational = if looks && is_any (lost_paths used) then true else s.scsw.path_not_operational };
}

abbrev pub marked_sub : Subchannel → Option ℕ → Subchannel
marked_sub sub choice = record sub { state = marked_state sub.state (path_use sub) (looks_for_path sub.state choice) }

-- an offer is made where the hold is free, a Reset is sent where it is due, and a Halt goes to the program that is held
abbrev pub IsHeldBy : HoldPhase → ℕ → Type 0
IsHeldBy (hold.On t p c) n = n ≡ t
IsHeldBy (hold.Away t) n = n ≡ t
IsHeldBy phase n = ⊥

abbrev pub IsFitFor : Chosen → HoldState → Type 0
IsFitFor Idle h = Unit {0}
IsFitFor (Resets r path) h = h.phase ≡ hold.Reset r
IsFitFor PerformsClear h = Unit {0}
IsFitFor (Halts t path) h = IsHeldBy h.phase t
IsFitFor PerformsHalt h = Unit {0}
IsFitFor FindsNoPath h = Unit {0}
IsFitFor (Offers c path) h = h.phase ≡ hold.Free

-- the Reset is sent
abbrev pub reset_sent : SubchannelState → ℕ → SubchannelState
reset_sent s path = record s { hold = hold_after s.hold (sending_reset s.hold s.hold.phase path); last_path = Some path }

-- the Halt is sent, and no longer pending
abbrev pub halt_sent_scsw : Scsw → Scsw
halt_sent_scsw scsw = record scsw { activity = record scsw.activity { halt_pending = false } }

abbrev pub halt_sent : SubchannelState → SubchannelState
halt_sent s = record s { scsw = halt_sent_scsw s.scsw }

-- the program is offered under a fresh number
abbrev pub offered : SubchannelState → Program → ℕ → SubchannelState
offered s program path = record s {
  drawn = s.drawn + 1;
  hold = (offering s.hold (s.drawn + 1) path program.single_path).state;
  offered = program.start;
  last_path = Some path;
}
