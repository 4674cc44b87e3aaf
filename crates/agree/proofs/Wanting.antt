-- Want of memory: no turn is refused for it, so that it comes of the steps and the lists alone.
use Rattle.std.proofs.Common.{◌≡◌, ◌≤◌, ℕ, inl, inr, Bool, true, false, Option, None, Some, length, refl, sym, ◌+◌, subst, arith}
use Rattle.std.specs.Prelude.{◌≢◌, Result, Ok, Err, IfErr, if◌then◌else◌, nat_lt, remove, slice_get}
use Rattle.std.proofs.lemmas.Bool.{ltb-false, cond_both}
use Rattle.chan_model.specs.declared.fault.Fault.{Fault}
use Rattle.chan_model.specs.declared.fault.Fault.TheVariants.{NoMemory, NoSuchPath, NotSent, NotNow}
use Rattle.chan_model.specs.declared.hold_state.HoldPhase.{HoldPhase}
use Rattle.chan_model.specs.declared.hold_state.HoldPhase.TheVariants as hold
use Rattle.chan_model.specs.declared.names.Side.{Side}
use Rattle.chan_model.specs.declared.names.Side.TheVariants.{First, Second}
use Rattle.chan_model.specs.declared.signal.OnPath.{OnPath}
use Rattle.chan_model.specs.Signals.{Down}
use Rattle.chan_model.specs.Signals.{Up}
use Rattle.chan_model.specs.declared.unit_state.Own.{Own}
use Rattle.chan_model.specs.declared.unit_state.Own.TheVariants.{Idle, Owned}
use Rattle.chan_model.specs.UnitTable.{UnitStep}
use Rattle.agreement_laws.specs.Moving.{Sends, UnitAct, Leaves, Asks, Attends, Notices, Reports, unit_steps}
use Rattle.agree.specs.declared.event.WorldEvent.{WorldEvent}
use Rattle.agree.specs.declared.event.WorldEvent.TheVariants as event
use Rattle.agreement_laws.specs.Sending.{may_send}
use Rattle.agree.specs.State.{LineState, WorldState, line_of, is_up}
use Rattle.agree.specs.Lines.{GivesResult, LineResult, UnitLine, acts_for, stepping, line_chosen, line_let_go, line_sends, acts, line_took_up, line_takes_up, line_took_down, line_takes_down, loses_down, loses_up, cut, goes_down, comes_up, is_cut, with_downs, with_ups, line_with_path}
use Rattle.agree.specs.Results.{WorldResult, at_side, at_world_unit, at_owner, both_of, on_path, path_named, world_result_of, counted, max_steps, world_result}
use Rattle.agree.specs.Rooms.{LineRoom, WorldRoom, LineLoses, Loses, TakesRoom, IsFullDown, IsFullUp, IsOwnerFull, IsFullFor, IsWorldSpent, line_room_of}

-- it is not refused for want of memory
abbrev Sound : {A : Type 0} → Result A Fault → Type 0
Sound r = IfErr r (λ f. f ≢ NoMemory)

sided : (w : WorldState) (side : Side) (turn : LineResult) → Sound turn → Sound (at_side w side turn)
sided w side (Ok l) h = tt
sided w side (Err f) h = h

united : (w : WorldState) (side : Side) (turn : Result UnitLine Fault) → Sound turn → Sound (at_world_unit w side turn)
united w side (Ok b) h = tt
united w side (Err f) h = h

owned : (w : WorldState) (o : Own) (turn : Side → WorldResult) → ((side : Side) → Sound (turn side)) → Sound (at_owner w o turn)
owned w Idle turn h = λ f. cc f
owned w (Owned side t connection) turn h = h side

named : (x : Result ℕ Fault) (turn : ℕ → WorldResult) → Sound x → ((q : ℕ) → Sound (turn q)) → Sound (on_path x turn)
named (Ok p) turn s h = h p
named (Err f) turn s h = s

on_one : (p : ℕ) (turn : ℕ → WorldResult) → ((q : ℕ) → Sound (turn q)) → Sound (on_path (path_named p) turn)
on_one p turn h = named (path_named p) turn (cond_both (nat_lt p 8) (Ok p) (Err NoSuchPath) (λ r. Sound r) (λ e. tt) (λ e f. cc f)) h

chosen_sound : (l : LineState) (phase : HoldPhase) (p : ℕ) (single : Bool) → Sound (line_chosen l phase p single)
chosen_sound l hold.Free p single = tt
chosen_sound l (hold.Reset r) p single = tt
chosen_sound l (hold.Offer t q) p single = λ f. cc f
chosen_sound l (hold.On t q c) p single = λ f. cc f
chosen_sound l (hold.Away t) p single = λ f. cc f
chosen_sound l (hold.Letting t q) p single = λ f. cc f

let_go_sound : (l : LineState) (phase : HoldPhase) → Sound (line_let_go l phase)
let_go_sound l hold.Free = λ f. cc f
let_go_sound l (hold.Reset r) = λ f. cc f
let_go_sound l (hold.Offer t q) = λ f. cc f
let_go_sound l (hold.On t q c) = tt
let_go_sound l (hold.Away t) = λ f. cc f
let_go_sound l (hold.Letting t q) = λ f. cc f

line_took_up_sound : (l : LineState) (x : Option (OnPath Up)) (index : ℕ) (keep may : Bool) → Sound (line_took_up l x index keep may)
line_took_up_sound l None index keep may = λ f. cc f
line_took_up_sound l (Some x) index keep may = tt

line_took_down_sound : (b : UnitLine) (side : Side) (x : Option (OnPath Down)) (index : ℕ) (keep may : Bool) → Sound (line_took_down b side x index keep may)
line_took_down_sound b side None index keep may = λ f. cc f
line_took_down_sound b side (Some x) index keep may = tt

stepping_sound : (b : UnitLine) (step : Option UnitStep) → Sound (stepping b step)
stepping_sound b None = λ f. cc f
stepping_sound b (Some step) = tt

unit_sound : (w : WorldState) (side : Side) (act : UnitAct) → Sound (at_world_unit w side (acts_for (both_of w side) act))
unit_sound w side act =
    united w side (acts_for (both_of w side) act) (stepping_sound (both_of w side) (unit_steps w.«unit» act))

owner_sound : (w : WorldState) (act : UnitAct) → Sound (at_owner w w.«unit».own (λ side. at_world_unit w side (acts_for (both_of w side) act)))
owner_sound w act = owned w w.«unit».own (λ side. at_world_unit w side (acts_for (both_of w side) act)) (λ side. unit_sound w side act)

never : (w : WorldState) (e : WorldEvent) → Sound (world_result_of w e)
never w (event.Choose side p single) =
    let l : LineState = line_of w side in
    on_one p (λ q. at_side w side (line_chosen l l.link.hold.phase q single))
    (λ q. sided w side (line_chosen l l.link.hold.phase q single) (chosen_sound l l.link.hold.phase q single))
never w (event.Down side index keep may) =
    united w side (line_takes_down (both_of w side) side index keep may)
    (line_took_down_sound (both_of w side) side (slice_get (line_of w side).link.downs index) index keep may)
never w (event.Up side index keep may) =
    let l : LineState = line_of w side in
    sided w side (line_takes_up l index keep may) (line_took_up_sound l (slice_get l.link.ups index) index keep may)
never w (event.LoseDown side index) =
    let l : LineState = line_of w side in
    sided w side (loses_down l index)
    (cond_both (nat_lt index (length l.link.downs)) (Ok (with_downs l (remove l.link.downs index))) (Err NotSent) (λ r. Sound r) (λ e. tt) (λ e f. cc f))
never w (event.LoseUp side index) =
    let l : LineState = line_of w side in
    sided w side (loses_up l index)
    (cond_both (nat_lt index (length l.link.ups)) (Ok (with_ups l (remove l.link.ups index))) (Err NotSent) (λ r. Sound r) (λ e. tt) (λ e f. cc f))
never w (event.PathDown side p) =
    let l : LineState = line_of w side in
    on_one p (λ q. at_side w side (goes_down l q))
    (λ q. sided w side (goes_down l q) (cond_both (is_up l.up q) (Ok (cut (line_with_path l q false) q)) (Err NotNow) (λ r. Sound r) (λ e. tt) (λ e f. cc f)))
never w (event.PathUp side p) =
    let l : LineState = line_of w side in
    on_one p (λ q. at_side w side (comes_up l q))
    (λ q. sided w side (comes_up l q) (cond_both (is_up l.up q) (Err NotNow) (Ok (line_with_path l q true)) (λ r. Sound r) (λ e f. cc f) (λ e. tt)))
never w (event.PathReset side p) =
    let l : LineState = line_of w side in
    on_one p (λ q. at_side w side (is_cut l q))
    (λ q. sided w side (is_cut l q) (cond_both (is_up l.up q) (Ok (cut l q)) (Err NotNow) (λ r. Sound r) (λ e. tt) (λ e f. cc f)))
never w (event.LetGo side) =
    let l : LineState = line_of w side in
    sided w side (line_let_go l l.link.hold.phase) (let_go_sound l l.link.hold.phase)
never w (event.Send side p signal) =
    let l : LineState = line_of w side in
    on_one p (λ q. at_side w side (line_sends l q signal))
    (λ q. sided w side (line_sends l q signal)
    (cond_both (may_send l.link.hold.phase q signal) (Ok (acts l (Sends (record { path = q; signal = signal })))) (Err NotNow) (λ r. Sound r) (λ e. tt) (λ e f. cc f)))
never w (event.Clear side) = tt
never w event.SubsystemReset = tt
never w event.Leave = owner_sound w Leaves
never w (event.Ask p) =
    on_one p (λ q. at_owner w w.«unit».own (λ side. at_world_unit w side (acts_for (both_of w side) (Asks q))))
    (λ q. owner_sound w (Asks q))
never w (event.Attention side p) =
    on_one p (λ q. at_world_unit w side (acts_for (both_of w side) (Attends side q))) (λ q. unit_sound w side (Attends side q))
never w (event.Notice side p) =
    on_one p (λ q. at_world_unit w side (acts_for (both_of w side) (Notices side q))) (λ q. unit_sound w side (Notices side q))
never w event.Restart = tt
never w (event.Report report) = owner_sound w (Reports report)

counted_sound : (n : ℕ) (turn : WorldResult) → Sound turn → Sound (counted n turn)
counted_sound n (Ok w) h = tt
counted_sound n (Err f) h = h

bounded : (b : Bool) (turn : WorldResult) → Sound turn → (if b then turn else Err NoMemory) ≡ Err NoMemory → b ≡ false
bounded true turn sound is = absurd (subst (λ r. Sound r) is sound refl)
bounded false turn sound is = refl

steps-spent : (w : WorldState) (e : WorldEvent) → world_result w e ≡ Err NoMemory → max_steps ≤ w.steps
steps-spent w e is =
    let none : nat_lt w.steps max_steps ≡ false =
    bounded (nat_lt w.steps max_steps) (counted w.steps (world_result_of w e)) (counted_sound w.steps (world_result_of w e) (never w e)) is in
    ltb-false w.steps max_steps none

-- a call that does as a turn says, and is refused for want of memory
pub given-spent : {A : Type 0} → (w : WorldState) (room : WorldRoom) (e : WorldEvent) (new : WorldState) (r : Result A Fault) →
    GivesResult w (world_result w e) (IsFullFor w room e) r new → r ≡ Err NoMemory → IsWorldSpent (record { world = new; room = room }) e
given-spent w room e new (Ok done) given is = absurd (cc is)
given-spent w room e new (Err f) given is =
    let want : f ≡ NoMemory = cc in
    subst (λ (x : WorldState). IsWorldSpent (record { world = x; room = room }) e) (sym given.0)
    (elim given.1 [
      | inl full ↦ inr full.1
      | inr turn ↦ inl (steps-spent w e (subst (λ (g : Fault). world_result w e ≡ Err g) want turn))
    ])

-- where no room was lost, a list that is full was full
down-before : (a b : LineRoom) → LineLoses 0 a b → IsFullDown b → IsFullDown a
down-before a b h full = omega (arith, h.downs, full)

up-before : (a b : LineRoom) → LineLoses 0 a b → IsFullUp b → IsFullUp a
up-before a b h (inl full) = inl (omega (arith, h.ups, full))
up-before a b h (inr full) = inr (omega (arith, h.accepted, full))

line-loses : (n : ℕ) (a b : WorldRoom) (side : Side) → Loses n a b → LineLoses n (line_room_of a side) (line_room_of b side)
line-loses n a b First h = h.first
line-loses n a b Second h = h.second

owner-before : (a b : WorldRoom) (o : Own) → Loses 0 a b → IsOwnerFull b o → IsOwnerFull a o
owner-before a b Idle h full = full
owner-before a b (Owned side t connection) h full = up-before (line_room_of a side) (line_room_of b side) (line-loses 0 a b side h) full

full-before : (w : WorldState) (a b : WorldRoom) (e : WorldEvent) → Loses 0 a b → IsFullFor w b e → IsFullFor w a e
full-before w a b (event.Choose side p single) h full = down-before (line_room_of a side) (line_room_of b side) (line-loses 0 a b side h) full
full-before w a b (event.Down side index keep may) h full = up-before (line_room_of a side) (line_room_of b side) (line-loses 0 a b side h) full
full-before w a b (event.Up side index keep may) h full = down-before (line_room_of a side) (line_room_of b side) (line-loses 0 a b side h) full
full-before w a b (event.LoseDown side index) h full = full
full-before w a b (event.LoseUp side index) h full = full
full-before w a b (event.PathDown side p) h full = full
full-before w a b (event.PathUp side p) h full = full
full-before w a b (event.PathReset side p) h full = full
full-before w a b (event.LetGo side) h full = down-before (line_room_of a side) (line_room_of b side) (line-loses 0 a b side h) full
full-before w a b (event.Send side p signal) h full = down-before (line_room_of a side) (line_room_of b side) (line-loses 0 a b side h) full
full-before w a b (event.Clear side) h full = full
full-before w a b event.SubsystemReset h full = full
full-before w a b event.Leave h full = owner-before a b w.«unit».own h full
full-before w a b (event.Ask p) h full = owner-before a b w.«unit».own h full
full-before w a b (event.Attention side p) h full = up-before (line_room_of a side) (line_room_of b side) (line-loses 0 a b side h) full
full-before w a b (event.Notice side p) h full = up-before (line_room_of a side) (line_room_of b side) (line-loses 0 a b side h) full
full-before w a b event.Restart h full = full
full-before w a b (event.Report report) h full = owner-before a b w.«unit».own h full

-- where there was room for the event, only the steps can be wanting
pub given-room : {A : Type 0} → (w : WorldState) (a b : WorldRoom) (e : WorldEvent) (new : WorldState) (r : Result A Fault) → (IsFullFor w a e → ⊥) → TakesRoom r a b →
    GivesResult w (world_result w e) (IsFullFor w b e) r new → r ≡ Err NoMemory → max_steps ≤ w.steps
given-room w a b e new (Ok done) none taken given is = absurd (cc is)
given-room w a b e new (Err f) none taken given is =
    let want : f ≡ NoMemory = cc in
    elim given.1 [
      | inl full ↦ absurd (none (full-before w a b e taken full.1))
      | inr turn ↦ steps-spent w e (subst (λ (g : Fault). world_result w e ≡ Err g) want turn)
    ]

-- room that is lost bit by bit
line-more : (n m : ℕ) (a b c : LineRoom) → LineLoses n a b → LineLoses m b c → LineLoses (n + m) a c
line-more n m a b c h k = record {
  downs = omega (arith, h.downs, k.downs);
  ups = omega (arith, h.ups, k.ups);
  accepted = omega (arith, h.accepted, k.accepted);
}

world-more : (n m : ℕ) (a b c : WorldRoom) → Loses n a b → Loses m b c → Loses (n + m) a c
world-more n m a b c h k = record {
  first = line-more n m a.first b.first c.first h.first k.first;
  second = line-more n m a.second b.second c.second h.second k.second;
}

line-weaker : (n m : ℕ) (a b : LineRoom) → n ≤ m → LineLoses n a b → LineLoses m a b
line-weaker n m a b le h = record {
  downs = omega (arith, le, h.downs);
  ups = omega (arith, le, h.ups);
  accepted = omega (arith, le, h.accepted);
}

loses-weaker : (n m : ℕ) (a b : WorldRoom) → n ≤ m → Loses n a b → Loses m a b
loses-weaker n m a b le h = record {
  first = line-weaker n m a.first b.first le h.first;
  second = line-weaker n m a.second b.second le h.second;
}

pub taken-more : {A F : Type 0} → (n : ℕ) (a b c : WorldRoom) (r : Result A F) → Loses n a b → TakesRoom r b c → Loses (n + 1) a c
taken-more n a b c (Ok done) h k = world-more n 1 a b c h k
taken-more n a b c (Err f) h k = world-more n 1 a b c h (loses-weaker 0 1 b c (omega arith) k)

pub taken-after : {A F : Type 0} → (a b c : WorldRoom) (r : Result A F) → Loses 0 a b → TakesRoom r b c → TakesRoom r a c
taken-after a b c (Ok done) h k = world-more 0 1 a b c h k
taken-after a b c (Err f) h k = world-more 0 0 a b c h k
