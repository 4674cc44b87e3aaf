-- What a unit does with the signal that waits first, told by what is seen of it: what is due, and what it is then.
use Rattle.std.proofs.Common.{◌≡◌, refl, sym, ◌∙◌, ap, subst, ℕ, suc, ◌+◌, ◌&&◌, nat_lt, Bool, true, false, not, Option, None, Some, Result, List, [], ◌∷◌, length, map, slice_get, IfOk, if◌then◌else◌, inl, inr, arith}
use Rattle.std.specs.Prelude.{◌⊎◌}
use Rattle.chan_events.specs.Replies.{Reply}
use Rattle.chan_events.specs.declared.reply.Reply.TheVariants as reply
use Rattle.chan_model.specs.declared.fault.Fault.{Fault}
use Rattle.chan_model.specs.declared.names.Side.{Side}
use Rattle.chan_model.specs.Signals.{Down, Up}
use Rattle.chan_model.specs.declared.signal.OnPath.{OnPath}
use Rattle.chan_model.specs.declared.unit_state.UnitState.{UnitState}
use Rattle.chan_model.specs.UnitTable as unit_table
use Rattle.chan_model.specs.UnitTable.{UnitStep, unit_takes, unit_after, is_idle}
use Rattle.channel_config.specs.declared.names.SubchannelId.{SubchannelId}
use Rattle.channel_config.specs.declared.parts.SubchannelSetup.{SubchannelSetup}
use Rattle.control_units.specs.declared.Member.{Member}
use Rattle.control_units.specs.Units.{may_serve}
use Rattle.wires.specs.Queues.{queue}
use Rattle.subchannel_model.specs.declared.state.Subchannel.{Subchannel}
use Rattle.subchannel_model.specs.Opening.{opened}
use Rattle.subchannel_model.specs.Indices.{is_named, index_in, index_of_id, one_later}
use Rattle.subchannel_model.specs.Sending.{carried_by, finds_full}
use Rattle.machine_model.specs.DownSteps.{with_answer, asks_at, down_front, down_sub}
use Rattle.machine_model.specs.Sharing.{is_asked_for, may_take}
use Rattle.machine_model.specs.State.{State}
use Rattle.machine_model.specs.Results.{DownResult}
use Rattle.run_laws.specs.Devices.{setup_named, held_met}
use Rattle.run_laws.specs.StateClaims.{is_same_id}
use Rattle.std.specs.List.{find}
use Rattle.run_laws.specs.OneHolder.{IsAnswerNumbered, reply_due}
use Rattle.run_laws.specs.Agreeing.{AreAbove}
use Rattle.agreement_laws.proofs.SeenSignals.{IsResetAbove}
use Rattle.run_laws.proofs.Signals.Holdings.{holding_of, reply_of, Turns, IsAsked, takes-turns}
use Rattle.run_laws.proofs.Signals.MemberSteps.{IsSunk}
use Rattle.run_laws.proofs.Signals.Sharers.{asked-holds, idle-stays}

-- how the subchannels were set up
abbrev pub setups : List Subchannel → List SubchannelSetup
setups subs = map (λ (sub : Subchannel). sub.setup) subs

pub opened-setups : (subs : List SubchannelSetup) → setups (map opened subs) ≡ subs
opened-setups [] = refl
opened-setups (x ∷ xs) = ap (λ (ys : List SubchannelSetup). x ∷ ys) (opened-setups xs)

-- the subchannel that a word names is set up as the first of its name
pub first-cases : (b : Bool) (later : Option ℕ) (index : ℕ) → (if b then Some 0 else one_later later) ≡ Some index →
    ((b ≡ true) × (index ≡ 0)) ⊎ ((b ≡ false) × ((i : ℕ) × (later ≡ Some i) × (index ≡ suc i)))
first-cases true later index e = let z : 0 ≡ index = cc e in inl (refl, sym z)
first-cases false None index e = absurd (cc e)
first-cases false (Some i) index e = let z : i + 1 ≡ index = cc e in inr (refl, (i, refl, omega (arith, z)))

abbrev setup_of : SubchannelId → List SubchannelSetup → Option SubchannelSetup
setup_of id subs = find (λ x. is_same_id x.id id) subs

first-is : (id : SubchannelId) (subs : List Subchannel) (index : ℕ) (sub : Subchannel) → index_in id subs ≡ Some index → slice_get subs index ≡ Some sub →
    setup_of id (setups subs) ≡ Some sub.setup
first-is id [] index sub e there = absurd (cc e)
first-is id (x ∷ xs) index sub e there =
    elim (first-cases (is_named id x) (index_in id xs) index e) [
      | inl h ↦
          let same : x ≡ sub = cc (subst (λ (k : ℕ). slice_get (x ∷ xs) k ≡ Some sub) h.1 there) in
          ap (λ (b : Bool). if b then Some x.setup else setup_of id (setups xs)) h.0 ∙ ap (λ (y : Subchannel). Some y.setup) same
      | inr h ↦
          ap (λ (b : Bool). if b then Some x.setup else setup_of id (setups xs)) h.0
          ∙ first-is id xs h.1.0 sub h.1.1 (subst (λ (k : ℕ). slice_get (x ∷ xs) k ≡ Some sub) h.1.2 there)
    ]

pub setup-is : (subs : List Subchannel) (x : Option SubchannelId) (index : ℕ) (sub : Subchannel) → index_of_id subs x ≡ Some index → slice_get subs index ≡ Some sub →
    setup_named (setups subs) x ≡ Some sub.setup
setup-is subs None index sub e there = absurd (cc e)
setup-is subs (Some id) index sub e there = first-is id subs index sub e there

-- steps of the unit
pub if-ok : {A : Type 0} (P : A → Type 0) (b : Bool) (x y : Result A Fault) → IfOk x P → IfOk y P → IfOk (if b then x else y) P
if-ok P true x y e f = e
if-ok P false x y e f = f

-- a Reset that waits first, where the unit would take it, is above the floor
abbrev AreAboveFor : Subchannel → UnitState → Type 0
AreAboveFor sub u = (p : ℕ) (d : Down) → slice_get (queue sub.wires.down p) 0 ≡ Some d → IsResetAbove u sub.setup.side d

above-for : (s : State) (index : ℕ) (sub : Subchannel) (u : UnitState) → AreAbove s → slice_get s.subs index ≡ Some sub → slice_get s.units sub.setup.«unit» ≡ Some u → AreAboveFor sub u
above-for s index sub u above there found p d front r b is e = above index sub u p r b there found (front ∙ ap (λ (x : Down). Some x) is) e

-- what its front signal does, and whether the control unit is asked
pub record IsMet (sub : Subchannel) (path : ℕ) (u : UnitState) (may : Bool) (t : DownResult) : Type 0 where
  pub signal : Down
  pub front : slice_get (queue sub.wires.down path) 0 ≡ Some signal
  pub reply : t.reply ≡ reply_of signal (unit_takes u sub.setup.side path signal may)
  pub «unit» : t.«unit» ≡ unit_after u (unit_takes u sub.setup.side path signal may)
  pub left : t.sub ≡ with_answer sub path (unit_table.outcome_of (unit_takes u sub.setup.side path signal may)).sent

front-met : (may : Bool) (sub : Subchannel) (path : ℕ) (u : UnitState) (front : Option Down) → slice_get (queue sub.wires.down path) 0 ≡ front → IfOk (down_front may sub path u front) (IsMet sub path u may)
front-met may sub path u None e = tt
front-met may sub path u (Some d) e =
    if-ok (IsMet sub path u may) (finds_full sub.wires.up (carried_by sub (unit_table.outcome_of (unit_takes u sub.setup.side path d may)).sent)) _ _ tt
    (record { signal = d; front = e; reply = refl; «unit» = refl; left = refl })

downs-met : (may : Bool) (sub : Subchannel) (path : ℕ) (u : UnitState) → IfOk (down_sub may sub path u) (IsMet sub path u may)
downs-met may sub path u =
    if-ok (IsMet sub path u may) (nat_lt path (length sub.setup.paths)) (down_front may sub path u (slice_get (queue sub.wires.down path) 0)) _
    (front-met may sub path u (slice_get (queue sub.wires.down path) 0) refl) tt

asks-front : (sub : Subchannel) (path : ℕ) (u : UnitState) (d : Down) → slice_get (queue sub.wires.down path) 0 ≡ Some d → asks_at sub path u ≡ is_asked_for u sub.setup.side d
asks-front sub path u d e = ap (λ (o : Option Down). elim o [ None ↦ false | Some signal ↦ is_asked_for u sub.setup.side signal ]) e

may-asked : (members : List Member) (at : ℕ) (asks : Bool) → asks ≡ true → may_take members at asks ≡ may_serve members at
may-asked members at true e = refl
may-asked members at false e = absurd (cc e)

free-asked : (u : UnitState) (side : Side) (d : Down) (members : List Member) (at : ℕ) (asks : Bool) → asks ≡ is_asked_for u side d → (is_asked_for u side d ≡ true → is_idle u.own ≡ true) →
    IsAsked u side d (may_take members at asks) (is_idle u.own && may_serve members at)
free-asked u side d members at asks e idle = record {
  asks = λ f. may-asked members at asks (e ∙ f) ∙ ap (λ (b : Bool). b && may_serve members at) (sym (idle f));
  held = λ f. ap (λ (b : Bool). b && may_serve members at) f;
}

-- the signal that is taken, what is due, and what the unit is then
pub record IsTurned (s : State) (word path : ℕ) (r : Reply) (new : State) (k : IsSunk s word path r new) : Type 0 where
  pub signal : Down
  pub taken : Bool
  pub sent : Option (OnPath Up)
  pub front : slice_get (queue k.sub.wires.down path) 0 ≡ Some signal
  pub replied : r ≡ reply.Down signal taken sent
  pub due : reply.Down signal taken sent ≡ reply_due (holding_of k.«unit») k.sub.setup.side path (is_idle k.«unit».own && may_serve s.members k.sub.setup.«unit») signal
  pub numbered : IsAnswerNumbered (holding_of k.«unit») k.sub.setup.side sent
  pub next : holding_of k.turn.«unit» ≡ held_met k.sub.setup.side path r (holding_of k.«unit»)
  pub left : k.turn.sub ≡ with_answer k.sub path sent
  pub begins : asks_at k.sub path k.«unit» ≡ true → (is_idle k.«unit».own ≡ true) × (is_idle k.turn.«unit».own ≡ not (may_serve s.members k.sub.setup.«unit»))
  pub rests : asks_at k.sub path k.«unit» ≡ false → is_idle k.«unit».own ≡ true → is_idle k.turn.«unit».own ≡ true

pub sunk-turned : (s : State) (word path : ℕ) (r : Reply) (new : State) (k : IsSunk s word path r new) → AreAbove s → IsTurned s word path r new k
sunk-turned s word path r new k above =
    let sub : Subchannel = k.sub in
    let at : ℕ = sub.setup.«unit» in
    let side : Side = sub.setup.side in
    let u : UnitState = k.«unit» in
    let asks : Bool = asks_at sub path u in
    let may : Bool = may_take s.members at asks in
    let met : IsMet sub path u may k.turn = subst (λ (x : Result DownResult Fault). IfOk x (IsMet sub path u may)) k.ok (downs-met may sub path u) in
    let d : Down = met.signal in
    let step : Option UnitStep = unit_takes u side path d may in
    let asked : asks ≡ is_asked_for u side d = asks-front sub path u d met.front in
    let turns : Turns u side path d step (reply_due (holding_of u) side path (is_idle u.own && may_serve s.members at) d) =
    takes-turns u side path d may (is_idle u.own && may_serve s.members at) (above-for s k.index sub u above k.there k.found path d met.front)
    (free-asked u side d s.members at asks asked (λ e. (asked-holds u side path d may e).0)) in
    let replied : r ≡ reply_of d step = k.reply ∙ met.reply in
    let idle : is_idle k.turn.«unit».own ≡ is_idle (unit_after u step).own = ap (λ (v : UnitState). is_idle v.own) met.«unit» in
    record {
      signal = d;
      taken = (unit_table.outcome_of step).taken;
      sent = (unit_table.outcome_of step).sent;
      front = met.front;
      replied = replied;
      due = turns.replies;
      numbered = turns.numbered;
      next = ap holding_of met.«unit» ∙ (turns.next ∙ ap (λ (x : Reply). held_met side path x (holding_of u)) (sym replied));
      left = met.left;
      begins = λ e. let h = asked-holds u side path d may (sym asked ∙ e) in (h.0, idle ∙ (h.1 ∙ ap not (may-asked s.members at asks e)));
      rests = λ e i. idle ∙ idle-stays u side path d may (sym asked ∙ e) i;
    }
