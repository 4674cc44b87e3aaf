-- What an event does at one side (own).
use Rattle.std.specs.Prelude.{◌≡◌, ◌⊎◌, ℕ, Bool, true, false, not, ◌==◌, if◌then◌else◌, nat_lt, Option, None, Some, List, [], ◌∷◌, ◌++◌, length, filter, remove, slice_get, slice_set, Result, Ok, Err}
use Rattle.chan_model.specs.declared.fault.Fault.{Fault}
use Rattle.chan_model.specs.declared.fault.Fault.TheVariants.{NoMemory, NotSent, NotNow}
use Rattle.chan_model.specs.declared.hold_state.HoldPhase.{HoldPhase}
use Rattle.chan_model.specs.declared.hold_state.HoldPhase.TheVariants.{Free, Offer, On, Away, Letting, Reset}
use Rattle.chan_model.specs.declared.signal.OnPath.{OnPath}
use Rattle.chan_model.specs.Signals.{Down}
use Rattle.chan_model.specs.Signals.{Up}
use Rattle.chan_model.specs.declared.names.Side.{Side}
use Rattle.chan_model.specs.declared.unit_state.UnitState.{UnitState}
use Rattle.chan_model.specs.UnitTable.{UnitStep, unit_after, outcome_of}
use Rattle.agreement_laws.specs.Links.{with_accepted}
use Rattle.agreement_laws.specs.Moving.{HoldAct, HoldActed, hold_acts, Offers, Sends_reset, Lets_go, Loses, Takes, Sends, UnitAct, Takes_down, unit_steps}
use Rattle.agreement_laws.specs.Sending.{may_send}
use Rattle.agree.specs.State.{LineState, is_up}

-- the signals with one sent behind them; on a path that is down it vanishes
abbrev pub queue_with_sent : {S : Type 0} → List Bool → List (OnPath S) → Option (OnPath S) → List (OnPath S)
queue_with_sent up xs None = xs
queue_with_sent up xs (Some x) = if is_up up x.path then xs ++ x ∷ [] else xs

-- the signals that are left where one is delivered, and kept or not
abbrev pub left_after : {S : Type 0} → List (OnPath S) → ℕ → Bool → List (OnPath S)
left_after xs index keep = if keep then xs else remove xs index

-- the signals of all other paths
abbrev pub without_path : {S : Type 0} → List (OnPath S) → ℕ → List (OnPath S)
without_path xs p = filter (λ x. not (x.path == p)) xs

abbrev pub with_downs : LineState → List (OnPath Down) → LineState
with_downs l xs = record l { link = record l.link { downs = xs } }

abbrev pub with_ups : LineState → List (OnPath Up) → LineState
with_ups l xs = record l { link = record l.link { ups = xs } }

-- the side after an act of its hold
abbrev pub acted : LineState → HoldActed → LineState
acted l a = record l { link = record l.link { drawn = a.drawn; hold = a.hold; downs = queue_with_sent l.up l.link.downs a.sent } }

abbrev pub acts : LineState → HoldAct → LineState
acts l act = acted l (hold_acts l.link.drawn l.link.hold act)

-- the side after the unit sent it something or nothing
abbrev pub line_with_sent : LineState → Option (OnPath Up) → LineState
line_with_sent l sent = record l { link = record l.link { ups = queue_with_sent l.up l.link.ups sent; accepted = with_accepted l.link.accepted sent } }

abbrev pub LineResult : Type 0
LineResult = Result LineState Fault

-- Choose: an offer where nothing holds the device; the Reset where there is one to send. A subsystem sends a Reset while it
-- is unsent; here one that was sent may be sent again. So this world allows more than a subsystem does, and what is promised
-- of every list of events holds of those that a subsystem makes.
abbrev pub line_chosen : LineState → HoldPhase → ℕ → Bool → LineResult
line_chosen l Free p single = Ok (acts l (Offers p single))
line_chosen l (Reset r) p single = Ok (acts l (Sends_reset p))
line_chosen l phase p single = Err NotNow

-- the device is let go where a program is connected
abbrev pub line_let_go : LineState → HoldPhase → LineResult
line_let_go l (On t q c) = Ok (acts l Lets_go)
line_let_go l phase = Err NotNow

-- the hold sends a signal of its program on a path
abbrev pub line_sends : LineState → ℕ → Down → LineResult
line_sends l p signal = if may_send l.link.hold.phase p signal then Ok (acts l (Sends (record { path = p; signal = signal }))) else Err NotNow

-- the hold takes the signal at an index
abbrev pub line_took_up : LineState → Option (OnPath Up) → ℕ → Bool → Bool → LineResult
line_took_up l None index keep may = Err NotSent
line_took_up l (Some x) index keep may = Ok (acts (with_ups l (left_after l.link.ups index keep)) (Takes x may))

abbrev pub line_takes_up : LineState → ℕ → Bool → Bool → LineResult
line_takes_up l index keep may = line_took_up l (slice_get l.link.ups index) index keep may

-- a signal vanishes
abbrev pub loses_down : LineState → ℕ → LineResult
loses_down l index = if nat_lt index (length l.link.downs) then Ok (with_downs l (remove l.link.downs index)) else Err NotSent

abbrev pub loses_up : LineState → ℕ → LineResult
loses_up l index = if nat_lt index (length l.link.ups) then Ok (with_ups l (remove l.link.ups index)) else Err NotSent

-- all signals on a path vanish, and the hold loses it
abbrev pub cut : LineState → ℕ → LineState
cut l p = acts (with_ups (with_downs l (without_path l.link.downs p)) (without_path l.link.ups p)) (Loses p)

abbrev pub line_with_path : LineState → ℕ → Bool → LineState
line_with_path l p is_up = record l { up = slice_set l.up p is_up }

abbrev pub goes_down : LineState → ℕ → LineResult
goes_down l p = if is_up l.up p then Ok (cut (line_with_path l p false) p) else Err NotNow

abbrev pub comes_up : LineState → ℕ → LineResult
comes_up l p = if is_up l.up p then Err NotNow else Ok (line_with_path l p true)

abbrev pub is_cut : LineState → ℕ → LineResult
is_cut l p = if is_up l.up p then Ok (cut l p) else Err NotNow

-- a unit and one side of it
pub record UnitLine : Type 0 where
  pub «unit» : UnitState
  pub line : LineState

abbrev pub unit_line : UnitState → LineState → UnitLine
unit_line u l = record { «unit» = u; line = l }

-- the unit stepped, and what it sent goes to the side
abbrev pub unit_stepped : UnitLine → Option UnitStep → UnitLine
unit_stepped b step = record { «unit» = unit_after b.«unit» step; line = line_with_sent b.line (outcome_of step).sent }

-- an act of the unit, where its state allows it
abbrev pub stepping : UnitLine → Option UnitStep → Result UnitLine Fault
stepping b None = Err NotNow
stepping b (Some step) = Ok (unit_stepped b (Some step))

abbrev pub acts_for : UnitLine → UnitAct → Result UnitLine Fault
acts_for b act = stepping b (unit_steps b.«unit» act)

-- the unit takes the signal at an index
abbrev pub line_took_down : UnitLine → Side → Option (OnPath Down) → ℕ → Bool → Bool → Result UnitLine Fault
line_took_down b side None index keep may = Err NotSent
line_took_down b side (Some x) index keep may =
    Ok (unit_stepped (record b { line = with_downs b.line (left_after b.line.link.downs index keep) }) (unit_steps b.«unit» (Takes_down side x may)))

abbrev pub line_takes_down : UnitLine → Side → ℕ → Bool → Bool → Result UnitLine Fault
line_takes_down b side index keep may = line_took_down b side (slice_get b.line.link.downs index) index keep may

-- A call does as a turn says. Where it is refused, for that or for want of memory, all is as before; for want of memory it
-- is refused for a reason alone, as that a list is full.
abbrev pub GivesResult : {A S : Type 0} → S → Result S Fault → Type 0 → Result A Fault → S → Type 0
GivesResult old turn reason (Ok done) new = turn ≡ Ok new
GivesResult old turn reason (Err f) new = (new ≡ old) × (((f ≡ NoMemory) × reason) ⊎ (turn ≡ Err f))
