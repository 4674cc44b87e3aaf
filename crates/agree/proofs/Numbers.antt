-- No number rises above the count of steps.
use Rattle.std.proofs.Common.{◌≡◌, ℕ, ◌+◌, ◌≤◌, Bool, true, false, Option, None, Some, refl, arith}
use Rattle.std.specs.Prelude.{Result, Ok, Err, if◌then◌else◌, nat_lt, length, remove, slice_get}
use Rattle.chan_model.specs.declared.fault.Fault.{Fault}
use Rattle.chan_model.specs.declared.fault.Fault.TheVariants.{NotSent, NotNow}
use Rattle.chan_model.specs.declared.hold_state.HoldPhase.{HoldPhase}
use Rattle.chan_model.specs.declared.hold_state.HoldPhase.TheVariants as hold
use Rattle.chan_model.specs.declared.hold_state.HoldState.{HoldState}
use Rattle.chan_model.specs.declared.names.Side.{Side}
use Rattle.chan_model.specs.declared.names.Side.TheVariants.{First, Second}
use Rattle.chan_model.specs.declared.signal.OnPath.{OnPath}
use Rattle.chan_model.specs.Signals.{Down}
use Rattle.chan_model.specs.Signals.{Up}
use Rattle.chan_model.specs.declared.signal.Up.TheVariants as up
use Rattle.chan_model.specs.declared.unit_state.UnitState.{UnitState}
use Rattle.chan_model.specs.HoldTable.{HoldStep, hold_takes, sending_reset, letting_go}
use Rattle.chan_model.specs.ResetCauses.{rests_on}
use Rattle.chan_model.specs.UnitTable.{unit_after}
use Rattle.agreement_laws.specs.Moving.{HoldAct, Nothing, Offers, Sends_reset, Lets_go, Is_reset, Loses, Takes, Sends, hold_acts, hold_stepped, hold_offered, reset_again, still, hold_taken, UnitAct, Takes_down, Leaves, Asks, Attends, Restarts, Notices, Reports, unit_steps}
use Rattle.agree.specs.declared.event.WorldEvent.{WorldEvent}
use Rattle.agree.specs.declared.event.WorldEvent.TheVariants as event
use Rattle.agreement_laws.specs.Sending.{may_send}
use Rattle.agree.specs.State.{LineState, WorldState, line_of, with_line, is_up}
use Rattle.agree.specs.Lines as line
use Rattle.agree.specs.Lines.{LineResult, acts_for, line_chosen, line_let_go, line_sends, line_took_up, line_takes_up, line_took_down, line_takes_down, loses_down, loses_up, cut, goes_down, comes_up, is_cut, with_downs, with_ups, line_with_path}
use Rattle.agree.specs.Results.{WorldResult, at_side, at_world_unit, at_owner, both_of, on_path, path_named, world_result_of}
use Rattle.agree.specs.Bounds.{IsWorldUnitWithin, IsWorldWithin}
use Rattle.agree.proofs.Making.{OnDone, done-at_unit, done-at_owner, done-on_path, done-if, done-unless, done-stepping}
use Rattle.agree.proofs.Raising.{act-within}

-- an act of a hold draws at most one number
stepped-drawn : (n : ℕ) (h : HoldState) (s : Option HoldStep) → (hold_stepped n h s).drawn ≤ n + 1
stepped-drawn n h None = omega arith
stepped-drawn n h (Some step) = omega arith

offered-drawn : (n : ℕ) (h : HoldState) (phase : HoldPhase) (p : ℕ) (single : Bool) → (hold_offered n h phase p single).drawn ≤ n + 1
offered-drawn n h hold.Free p single = omega arith
offered-drawn n h (hold.Offer t q) p single = omega arith
offered-drawn n h (hold.On t q c) p single = omega arith
offered-drawn n h (hold.Away t) p single = omega arith
offered-drawn n h (hold.Letting t q) p single = omega arith
offered-drawn n h (hold.Reset r) p single = omega arith

if-drawn : (n : ℕ) (b : Bool) (g h : HoldState) → (if b then reset_again n g else still n h).drawn ≤ n + 1
if-drawn n true g h = omega arith
if-drawn n false g h = omega arith

taken-drawn : (n : ℕ) (h : HoldState) (p : ℕ) (signal : Up) (may : Bool) → (hold_taken n h p signal may).drawn ≤ n + 1
taken-drawn n h p (up.Accept t) may = stepped-drawn n h (hold_takes h p (up.Accept t) may)
taken-drawn n h p (up.Busy t) may = stepped-drawn n h (hold_takes h p (up.Busy t) may)
taken-drawn n h p (up.Leave t c) may = stepped-drawn n h (hold_takes h p (up.Leave t c) may)
taken-drawn n h p (up.Back t c) may = stepped-drawn n h (hold_takes h p (up.Back t c) may)
taken-drawn n h p (up.Data load t c m s) may = stepped-drawn n h (hold_takes h p (up.Data load t c m s) may)
taken-drawn n h p (up.End t m status more) may = stepped-drawn n h (hold_takes h p (up.End t m status more) may)
taken-drawn n h p (up.Released t) may = stepped-drawn n h (hold_takes h p (up.Released t) may)
taken-drawn n h p (up.Cleared r) may = stepped-drawn n h (hold_takes h p (up.Cleared r) may)
taken-drawn n h p (up.Notice b) may = if-drawn n (nat_lt h.known_restarts b) (record h { known_restarts = b }) h
taken-drawn n h p (up.Attn a status) may = stepped-drawn n h (hold_takes h p (up.Attn a status) may)

acts-drawn : (n : ℕ) (h : HoldState) (act : HoldAct) → (hold_acts n h act).drawn ≤ n + 1
acts-drawn n h Nothing = omega arith
acts-drawn n h (Offers p single) = offered-drawn n h h.phase p single
acts-drawn n h (Sends_reset p) = stepped-drawn n h (sending_reset h h.phase p)
acts-drawn n h Lets_go = stepped-drawn n h (letting_go h h.phase)
acts-drawn n h Is_reset = omega arith
acts-drawn n h (Loses p) = if-drawn n (rests_on h p) h h
acts-drawn n h (Takes x may) = taken-drawn n h x.path x.signal may
acts-drawn n h (Sends x) = omega arith

within-more : (n : ℕ) (u : UnitState) → IsWorldUnitWithin n u → IsWorldUnitWithin (n + 1) u
within-more n u h = record { restarts = omega (arith, h.restarts); attentions = omega (arith, h.attentions); connection = omega (arith, h.connection); sequence = omega (arith, h.sequence) }

-- a side that drew at most one number more
side-within : (n : ℕ) (w : WorldState) (side : Side) (l : LineState) → IsWorldWithin n w → l.link.drawn ≤ (line_of w side).link.drawn + 1 → IsWorldWithin (n + 1) (with_line w side l)
side-within n w First l h le = record { «unit» = within-more n w.«unit» h.«unit»; first = omega (arith, h.first); second = omega (arith, h.second) }
side-within n w Second l h le = record { «unit» = within-more n w.«unit» h.«unit»; first = omega (arith, h.first); second = omega (arith, h.second) }

unit-within : (n : ℕ) (w : WorldState) (side : Side) (l : LineState) (act : UnitAct) → IsWorldWithin n w → l.link.drawn ≡ (line_of w side).link.drawn →
    IsWorldWithin (n + 1) (record (with_line w side l) { «unit» = unit_after w.«unit» (unit_steps w.«unit» act) })
unit-within n w First l act h e = record { «unit» = act-within n w.«unit» act h.«unit»; first = omega (arith, h.first); second = omega (arith, h.second) }
unit-within n w Second l act h e = record { «unit» = act-within n w.«unit» act h.«unit»; first = omega (arith, h.first); second = omega (arith, h.second) }

acts-within : (n : ℕ) (w : WorldState) (side : Side) (act : UnitAct) → IsWorldWithin n w → OnDone (IsWorldWithin (n + 1)) (at_world_unit w side (acts_for (both_of w side) act))
acts-within n w side act h =
    done-at_unit (IsWorldWithin (n + 1)) w side (acts_for (both_of w side) act)
    (done-stepping (λ b. IsWorldWithin (n + 1) (record (with_line w side b.line) { «unit» = b.«unit» })) (both_of w side) (unit_steps w.«unit» act)
    (unit-within n w side _ act h refl))

owner-within : (n : ℕ) (w : WorldState) (act : UnitAct) → IsWorldWithin n w →
    OnDone (IsWorldWithin (n + 1)) (at_owner w w.«unit».own (λ side. at_world_unit w side (acts_for (both_of w side) act)))
owner-within n w act h =
    done-at_owner (IsWorldWithin (n + 1)) w w.«unit».own (λ side. at_world_unit w side (acts_for (both_of w side) act)) (λ side is. acts-within n w side act h)

-- what an event at one side draws
abbrev Draws : LineState → LineState → Type 0
Draws l m = m.link.drawn ≤ l.link.drawn + 1

turn-within : (n : ℕ) (w : WorldState) (side : Side) (turn : LineResult) → IsWorldWithin n w → OnDone (Draws (line_of w side)) turn → OnDone (IsWorldWithin (n + 1)) (at_side w side turn)
turn-within n w side (Ok l) h le = side-within n w side l h le
turn-within n w side (Err f) h le = tt

chosen-draws : (l : LineState) (phase : HoldPhase) (p : ℕ) (single : Bool) → OnDone (Draws l) (line_chosen l phase p single)
chosen-draws l hold.Free p single = acts-drawn l.link.drawn l.link.hold (Offers p single)
chosen-draws l (hold.Reset r) p single = acts-drawn l.link.drawn l.link.hold (Sends_reset p)
chosen-draws l (hold.Offer t q) p single = tt
chosen-draws l (hold.On t q c) p single = tt
chosen-draws l (hold.Away t) p single = tt
chosen-draws l (hold.Letting t q) p single = tt

device_released-draws : (l : LineState) (phase : HoldPhase) → OnDone (Draws l) (line_let_go l phase)
device_released-draws l hold.Free = tt
device_released-draws l (hold.Reset r) = tt
device_released-draws l (hold.Offer t q) = tt
device_released-draws l (hold.On t q c) = acts-drawn l.link.drawn l.link.hold Lets_go
device_released-draws l (hold.Away t) = tt
device_released-draws l (hold.Letting t q) = tt

line_took_up-draws : (l : LineState) (x : Option (OnPath Up)) (index : ℕ) (keep may : Bool) → OnDone (Draws l) (line_took_up l x index keep may)
line_took_up-draws l None index keep may = tt
line_took_up-draws l (Some x) index keep may = acts-drawn l.link.drawn l.link.hold (Takes x may)

line_took_down-within : (n : ℕ) (w : WorldState) (side : Side) (x : Option (OnPath Down)) (index : ℕ) (keep may : Bool) → IsWorldWithin n w →
    OnDone (λ b. IsWorldWithin (n + 1) (record (with_line w side b.line) { «unit» = b.«unit» })) (line_took_down (both_of w side) side x index keep may)
line_took_down-within n w side None index keep may h = tt
line_took_down-within n w side (Some x) index keep may h = unit-within n w side _ (Takes_down side x may) h refl

path-within : (n : ℕ) (named : Result ℕ Fault) (turn : ℕ → WorldResult) → ((p : ℕ) → OnDone (IsWorldWithin (n + 1)) (turn p)) → OnDone (IsWorldWithin (n + 1)) (on_path named turn)
path-within n named turn h = done-on_path (IsWorldWithin (n + 1)) named turn h

pub event-within : (n : ℕ) (w : WorldState) (e : WorldEvent) → IsWorldWithin n w → OnDone (IsWorldWithin (n + 1)) (world_result_of w e)
event-within n w (event.Choose side p single) h =
    let l : LineState = line_of w side in
    path-within n (path_named p) (λ q. at_side w side (line_chosen l l.link.hold.phase q single))
    (λ q. turn-within n w side (line_chosen l l.link.hold.phase q single) h (chosen-draws l l.link.hold.phase q single))
event-within n w (event.Down side index keep may) h =
    done-at_unit (IsWorldWithin (n + 1)) w side (line_takes_down (both_of w side) side index keep may)
    (line_took_down-within n w side (slice_get (line_of w side).link.downs index) index keep may h)
event-within n w (event.Up side index keep may) h =
    let l : LineState = line_of w side in
    turn-within n w side (line_takes_up l index keep may) h (line_took_up-draws l (slice_get l.link.ups index) index keep may)
event-within n w (event.LoseDown side index) h =
    let l : LineState = line_of w side in
    turn-within n w side (loses_down l index) h
    (done-if (Draws l) (nat_lt index (length l.link.downs)) NotSent (with_downs l (remove l.link.downs index)) (acts-drawn l.link.drawn l.link.hold Nothing))
event-within n w (event.LoseUp side index) h =
    let l : LineState = line_of w side in
    turn-within n w side (loses_up l index) h
    (done-if (Draws l) (nat_lt index (length l.link.ups)) NotSent (with_ups l (remove l.link.ups index)) (acts-drawn l.link.drawn l.link.hold Nothing))
event-within n w (event.PathDown side p) h =
    let l : LineState = line_of w side in
    path-within n (path_named p) (λ q. at_side w side (goes_down l q))
    (λ q. turn-within n w side (goes_down l q) h
    (done-if (Draws l) (is_up l.up q) NotNow (cut (line_with_path l q false) q) (acts-drawn l.link.drawn l.link.hold (Loses q))))
event-within n w (event.PathUp side p) h =
    let l : LineState = line_of w side in
    path-within n (path_named p) (λ q. at_side w side (comes_up l q))
    (λ q. turn-within n w side (comes_up l q) h (done-unless (Draws l) (is_up l.up q) NotNow (line_with_path l q true) (acts-drawn l.link.drawn l.link.hold Nothing)))
event-within n w (event.PathReset side p) h =
    let l : LineState = line_of w side in
    path-within n (path_named p) (λ q. at_side w side (is_cut l q))
    (λ q. turn-within n w side (is_cut l q) h (done-if (Draws l) (is_up l.up q) NotNow (cut l q) (acts-drawn l.link.drawn l.link.hold (Loses q))))
event-within n w (event.LetGo side) h =
    let l : LineState = line_of w side in
    turn-within n w side (line_let_go l l.link.hold.phase) h (device_released-draws l l.link.hold.phase)
event-within n w (event.Send side p signal) h =
    let l : LineState = line_of w side in
    path-within n (path_named p) (λ q. at_side w side (line_sends l q signal))
    (λ q. turn-within n w side (line_sends l q signal) h
    (done-if (Draws l) (may_send l.link.hold.phase q signal) NotNow (line.acts l (Sends (record { path = q; signal = signal }))) (acts-drawn l.link.drawn l.link.hold (Sends (record { path = q; signal = signal })))))
event-within n w (event.Clear side) h =
    let l : LineState = line_of w side in
    turn-within n w side (Ok (line.acts l Is_reset)) h (acts-drawn l.link.drawn l.link.hold Is_reset)
event-within n w event.SubsystemReset h = record { «unit» = within-more n w.«unit» h.«unit»; first = omega (arith, h.first); second = omega (arith, h.second) }
event-within n w event.Leave h = owner-within n w Leaves h
event-within n w (event.Ask p) h =
    path-within n (path_named p) (λ q. at_owner w w.«unit».own (λ side. at_world_unit w side (acts_for (both_of w side) (Asks q)))) (λ q. owner-within n w (Asks q) h)
event-within n w (event.Attention side p) h =
    path-within n (path_named p) (λ q. at_world_unit w side (acts_for (both_of w side) (Attends side q))) (λ q. acts-within n w side (Attends side q) h)
event-within n w (event.Notice side p) h =
    path-within n (path_named p) (λ q. at_world_unit w side (acts_for (both_of w side) (Notices side q))) (λ q. acts-within n w side (Notices side q) h)
event-within n w event.Restart h =
    record { «unit» = act-within n w.«unit» Restarts h.«unit»; first = omega (arith, h.first); second = omega (arith, h.second) }
event-within n w (event.Report report) h = owner-within n w (Reports report) h
