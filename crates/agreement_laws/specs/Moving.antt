-- What may happen next to a unit and its subchannels: an act of one hold or of the unit, by their tables (own).
use Rattle.std.specs.Prelude.{◌≡◌, ℕ, ◌+◌, Bool, false, if◌then◌else◌, nat_lt, Option, None, Some, Contains}
use Rattle.chan_model.specs.declared.names.Side.{Side}
use Rattle.chan_model.specs.declared.names.Side.TheVariants.{First, Second}
use Rattle.chan_model.specs.declared.hold_state.HoldPhase.{HoldPhase}
use Rattle.chan_model.specs.declared.hold_state.HoldPhase.TheVariants.{Free}
use Rattle.chan_model.specs.declared.hold_state.HoldState.{HoldState}
use Rattle.chan_model.specs.Reports.{Report}
use Rattle.chan_model.specs.declared.signal.OnPath.{OnPath}
use Rattle.chan_model.specs.Signals.{Down}
use Rattle.chan_model.specs.declared.signal.Down.TheVariants as down
use Rattle.chan_model.specs.Signals.{Up}
use Rattle.chan_model.specs.declared.signal.Up.TheVariants as up
use Rattle.chan_model.specs.declared.unit_state.Own.{Own}
use Rattle.chan_model.specs.declared.unit_state.Own.TheVariants as own
use Rattle.chan_model.specs.declared.unit_state.UnitState.{UnitState}
use Rattle.chan_model.specs.Sides.{same_side}
use Rattle.chan_model.specs.HoldTable.{HoldStep, offering, letting_go, resetting, sending_reset, hold_takes}
use Rattle.chan_model.specs.ResetCauses.{rests_on}
use Rattle.chan_model.specs.UnitTable.{UnitStep, unit_takes, unit_after, leaving, asking, attending, restarted, noticing}
use Rattle.chan_model.specs.UnitReports.{unit_reports}
use Rattle.agreement_laws.specs.Links.{Link, Links, link_of, Carries, with_accepted}

-- what a hold does: of itself, for an instruction, with a signal that came, or for its program
pub data HoldAct : Type 0 where
  Nothing : HoldAct
  Offers : (path : ℕ) → (single : Bool) → HoldAct
  Sends_reset : (path : ℕ) → HoldAct
  Lets_go : HoldAct
  Is_reset : HoldAct
  Loses : (path : ℕ) → HoldAct
  Takes : (signal : OnPath Up) → (may : Bool) → HoldAct
  Sends : (signal : OnPath Down) → HoldAct

-- the counter and the hold after an act, and what is sent
pub record HoldActed : Type 0 where
  pub drawn : ℕ
  pub hold : HoldState
  pub sent : Option (OnPath Down)

abbrev pub still : ℕ → HoldState → HoldActed
still n h = record { drawn = n; hold = h; sent = None }

abbrev pub hold_stepped : ℕ → HoldState → Option HoldStep → HoldActed
hold_stepped n h None = still n h
hold_stepped n h (Some step) = record { drawn = n; hold = step.state; sent = step.sent }

-- a number is drawn for the offer, and for each reset
abbrev pub hold_offered : ℕ → HoldState → HoldPhase → ℕ → Bool → HoldActed
hold_offered n h Free p single = hold_stepped (n + 1) h (Some (offering h (n + 1) p single))
hold_offered n h phase p single = still n h

abbrev pub reset_again : ℕ → HoldState → HoldActed
reset_again n h = still (n + 1) (resetting h (n + 1))

-- a Notice of more restarts than are known is a cause of a reset
abbrev pub hold_taken : ℕ → HoldState → ℕ → Up → Bool → HoldActed
hold_taken n h p (up.Notice b) may = if nat_lt h.known_restarts b then reset_again n (record h { known_restarts = b }) else still n h
hold_taken n h p signal may = hold_stepped n h (hold_takes h p signal may)

abbrev pub hold_acts : ℕ → HoldState → HoldAct → HoldActed
hold_acts n h Nothing = still n h
hold_acts n h (Offers p single) = hold_offered n h h.phase p single
hold_acts n h (Sends_reset p) = hold_stepped n h (sending_reset h h.phase p)
hold_acts n h Lets_go = hold_stepped n h (letting_go h h.phase)
hold_acts n h Is_reset = reset_again n h
hold_acts n h (Loses p) = if rests_on h p then reset_again n h else still n h
hold_acts n h (Takes x may) = hold_taken n h x.path x.signal may
hold_acts n h (Sends x) = record { drawn = n; hold = h; sent = Some x }

-- the signals that a program sends while it holds the device
abbrev pub IsOfProgram : Down → Type 0
IsOfProgram (down.Command t n code room) = Unit {0}
IsOfProgram (down.Took t n s room) = Unit {0}
IsOfProgram (down.Give bytes t c n s) = Unit {0}
IsOfProgram (down.Halt t) = Unit {0}
IsOfProgram signal = ⊥

-- what a unit does: with a signal of a side, of itself, or for its device
pub data UnitAct : Type 0 where
  Takes_down : (side : Side) → (signal : OnPath Down) → (may : Bool) → UnitAct
  Leaves : UnitAct
  Asks : (path : ℕ) → UnitAct
  Attends : (side : Side) → (path : ℕ) → UnitAct
  Restarts : UnitAct
  Notices : (side : Side) → (path : ℕ) → UnitAct
  Reports : (report : Report) → UnitAct

abbrev pub unit_steps : UnitState → UnitAct → Option UnitStep
unit_steps u (Takes_down side x may) = unit_takes u side x.path x.signal may
unit_steps u Leaves = leaving u u.own
unit_steps u (Asks p) = asking u u.own p
unit_steps u (Attends side p) = attending u side p
unit_steps u Restarts = Some (record { state = restarted u; sent = None })
unit_steps u (Notices side p) = noticing u side p
unit_steps u (Reports report) = unit_reports u report

-- the side that a signal is sent to: the one that is answered or told, else that of the program that holds the device
abbrev pub is_owner_side : Own → Side → Bool
is_owner_side own.Idle side = false
is_owner_side (own.Owned k t connection) side = same_side k side

abbrev pub is_to : UnitState → UnitAct → Side → Bool
is_to u (Takes_down k x may) side = same_side k side
is_to u (Attends k p) side = same_side k side
is_to u (Notices k p) side = same_side k side
is_to u Leaves side = is_owner_side u.own side
is_to u (Asks p) side = is_owner_side u.own side
is_to u Restarts side = false
is_to u (Reports report) side = is_owner_side u.own side

abbrev pub sent_by : Option UnitStep → Option (OnPath Up)
sent_by None = None
sent_by (Some step) = step.sent

abbrev pub sent_to : Bool → Option (OnPath Up) → Option (OnPath Up)
sent_to b sent = if b then sent else None

abbrev pub up_sent : UnitState → UnitAct → Side → Option (OnPath Up)
up_sent u act side = sent_to (is_to u act side) (sent_by (unit_steps u act))

-- a link after an act of its hold, or after the unit sent it something or nothing
pub record LinkStep (old : Link) (acted : HoldActed) (sent : Option (OnPath Up)) (new : Link) : Type 0 where
  pub drawn : new.drawn ≡ acted.drawn
  pub hold : new.hold ≡ acted.hold
  pub downs : Carries old.downs acted.sent new.downs
  pub ups : Carries old.ups sent new.ups
  pub accepted : new.accepted ≡ with_accepted old.accepted sent

-- an act of one hold or of the unit
pub data LinkCause : Type 0 where
  Hold_acts : (side : Side) → (act : HoldAct) → LinkCause
  Unit_acts : (act : UnitAct) → LinkCause

-- a signal that is taken was sent and has not vanished; one that a program sends is a program's
abbrev pub IsHoldGiven : Link → HoldAct → Type 0
IsHoldGiven l (Takes x may) = Contains l.ups x
IsHoldGiven l (Sends x) = IsOfProgram x.signal
IsHoldGiven l act = Unit {0}

abbrev pub IsUnitGiven : Links → UnitAct → Type 0
IsUnitGiven w (Takes_down side x may) = Contains (link_of w side).downs x
IsUnitGiven w act = Unit {0}

abbrev pub IsGiven : Links → LinkCause → Type 0
IsGiven w (Hold_acts side act) = IsHoldGiven (link_of w side) act
IsGiven w (Unit_acts act) = IsUnitGiven w act

abbrev pub unit_moved : UnitState → LinkCause → UnitState
unit_moved u (Hold_acts side act) = u
unit_moved u (Unit_acts act) = unit_after u (unit_steps u act)

-- what is done at this side
abbrev pub act_if : Bool → HoldAct → HoldAct
act_if b act = if b then act else Nothing

abbrev pub act_at : LinkCause → Side → HoldAct
act_at (Hold_acts k act) side = act_if (same_side k side) act
act_at (Unit_acts act) side = Nothing

abbrev pub sent_at : UnitState → LinkCause → Side → Option (OnPath Up)
sent_at u (Hold_acts k act) side = None
sent_at u (Unit_acts act) side = up_sent u act side

-- one step: an act, and the signals that may still arrive after it
pub record LinksStep (old : Links) (cause : LinkCause) (new : Links) : Type 0 where
  pub given : IsGiven old cause
  pub «unit» : new.«unit» ≡ unit_moved old.«unit» cause
  pub first : LinkStep old.first (hold_acts old.first.drawn old.first.hold (act_at cause First)) (sent_at old.«unit» cause First) new.first
  pub second : LinkStep old.second (hold_acts old.second.drawn old.second.hold (act_at cause Second)) (sent_at old.«unit» cause Second) new.second
