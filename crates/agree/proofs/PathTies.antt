-- How what is seen of a side's paths is tied to its hold, to the unit and to the signals between them.
use Rattle.std.proofs.Common.{◌≡◌, refl, sym, ◌∙◌, ap, subst, ℕ, ◌<◌, ◌≤◌, ◌==◌, ◌&&◌, Bool, true, false, Option, None, Some, List, [], ◌∷◌, inl, inr, arith}
use Rattle.std.specs.Prelude.{◌⊎◌, if◌then◌else◌, Contains, IfSome}
use Rattle.std.proofs.lemmas.Bool.{eqb-true, eqb-false, and_parts}
use Rattle.std.proofs.lemmas.List.Elements.{All-contains}
use Rattle.chan_model.specs.declared.hold_state.HoldPhase.{HoldPhase}
use Rattle.chan_model.specs.declared.hold_state.HoldPhase.TheVariants as hold
use Rattle.chan_model.specs.declared.hold_state.HoldState.{HoldState}
use Rattle.chan_model.specs.declared.names.Side.{Side}
use Rattle.chan_model.specs.Signals.{Down}
use Rattle.chan_model.specs.declared.signal.OnPath.{OnPath}
use Rattle.chan_model.specs.Signals.{Up}
use Rattle.chan_model.specs.declared.signal.Up.TheVariants as up
use Rattle.chan_model.specs.declared.unit_state.Connection.{Connection}
use Rattle.chan_model.specs.declared.unit_state.Connection.TheVariants as connection
use Rattle.chan_model.specs.declared.unit_state.UnitState.{UnitState}
use Rattle.unit.specs.UnitWords.{connection_of}
use Rattle.agreement_laws.specs.Links.{Link, Carries}
use Rattle.agreement_laws.specs.Moving.{HoldActed, still, LinkStep}
use Rattle.agreement_laws.specs.PathsSeen.{Connected, linked, Offered, SeenPaths, way_of}
use Rattle.agreement_laws.proofs.SeenSignals.{IsDownTied, tied-more}
use Rattle.agree.proofs.UnitPaths.{Held, holds, floor_of, IsStill}

-- ways
pub same-true : (n : ℕ) → (n == n) ≡ true
same-true n = by (n == n) refl
  where
    by : (b : Bool) → (n == n) ≡ b → b ≡ true
    by true e = refl
    by false e = absurd (eqb-false n n e refl)

pub way-new : (t p c : ℕ) (ks : List Connected) → way_of (linked t p c ∷ ks) t c ≡ Some p
way-new t p c ks =
    ap (λ (b : Bool). if b && (c == c) then Some p else way_of ks t c) (same-true t) ∙ ap (λ (b : Bool). if b then Some p else way_of ks t c) (same-true c)

pub way-kept : (k : Connected) (ks : List Connected) (t c p : ℕ) → way_of ks k.number k.connection ≡ None → way_of ks t c ≡ Some p → way_of (k ∷ ks) t c ≡ Some p
way-kept k ks t c p none is = by ((k.number == t) && (k.connection == c)) refl
  where
    by : (b : Bool) → ((k.number == t) && (k.connection == c)) ≡ b → (if b then Some k.path else way_of ks t c) ≡ Some p
    by true e =
        let both = and_parts (k.number == t) (k.connection == c) e in
        let gone : way_of ks t c ≡ None = ap (λ (n : ℕ). way_of ks n c) (sym (eqb-true k.number t both.0)) ∙ (ap (λ (n : ℕ). way_of ks k.number n) (sym (eqb-true k.connection c both.1)) ∙ none) in
        absurd (cc (gone, is))
    by false e = is

-- of each of them
abbrev pub Each : (Connected → Type 0) → List Connected → Type 0
Each P [] = Unit {0}
Each P (k ∷ ks) = P k × Each P ks

pub each-weaker : (P Q : Connected → Type 0) → ((k : Connected) → P k → Q k) → (ks : List Connected) → Each P ks → Each Q ks
each-weaker P Q f [] h = tt
each-weaker P Q f (k ∷ ks) h = (f k h.0, each-weaker P Q f ks h.1)

if-none : (b : Bool) (p : ℕ) (o : Option ℕ) → (b ≡ true → ⊥) → o ≡ None → (if b then Some p else o) ≡ None
if-none true p o f e = absurd (f refl)
if-none false p o f e = e

pub none-above : (f t c : ℕ) → f < t → (ks : List Connected) → Each (λ k. k.number ≤ f) ks → way_of ks t c ≡ None
none-above f t c l [] h = refl
none-above f t c l (k ∷ ks) h =
    if-none ((k.number == t) && (k.connection == c)) k.path (way_of ks t c)
    (λ e. let n : k.number ≡ t = eqb-true k.number t (and_parts (k.number == t) (k.connection == c) e).0 in let b : k.number ≤ f = h.0 in absurd (omega (arith, n, b, l)))
    (none-above f t c l ks h.1)

pub none-beyond : (t d c : ℕ) → d < c → (ks : List Connected) → Each (λ k. k.number ≡ t → k.connection ≤ d) ks → way_of ks t c ≡ None
none-beyond t d c l [] h = refl
none-beyond t d c l (k ∷ ks) h =
    if-none ((k.number == t) && (k.connection == c)) k.path (way_of ks t c)
    (λ e.
    let both = and_parts (k.number == t) (k.connection == c) e in
    let n : k.connection ≡ c = eqb-true k.connection c both.1 in
    let b : k.connection ≤ d = h.0 (eqb-true k.number t both.0) in absurd (omega (arith, n, b, l)))
    (none-beyond t d c l ks h.1)

-- the tie
abbrev pub IsOfferTied : HoldPhase → Option Offered → Type 0
IsOfferTied (hold.Offer t q) o = o ≡ Some (record { number = t; path = q })
IsOfferTied phase o = Unit {0}

abbrev pub IsPhaseTied : HoldPhase → Option Connected → Type 0
IsPhaseTied (hold.On t q c) m = m ≡ Some (linked t q c)
IsPhaseTied (hold.Reset r) m = Unit {0}
IsPhaseTied phase m = m ≡ None

abbrev pub IsAnswerTied : HoldPhase → ℕ → ℕ → Type 0
IsAnswerTied (hold.On t q c) seen n = seen ≡ n
IsAnswerTied (hold.Away t) seen n = seen ≡ n
IsAnswerTied phase seen n = Unit {0}

pub answer-same : (phase : HoldPhase) (n : ℕ) → IsAnswerTied phase n n
answer-same hold.Free n = tt
answer-same (hold.Offer t q) n = tt
answer-same (hold.On t q c) n = refl
answer-same (hold.Away t) n = refl
answer-same (hold.Letting t q) n = tt
answer-same (hold.Reset r) n = tt

abbrev pub IsPhaseWay : List Connected → HoldPhase → Type 0
IsPhaseWay ks (hold.On t q c) = way_of ks t c ≡ Some q
IsPhaseWay ks phase = Unit {0}

abbrev pub moving_at : ℕ → Connection → Option Connected
moving_at t (connection.On p c) = Some (linked t p c)
moving_at t (connection.Ask p c) = None
moving_at t (connection.Away c) = None

abbrev pub moving_of : Option Held → Option Connected
moving_of None = None
moving_of (Some h) = moving_at h.number h.connection

abbrev pub IsConnectionWay : List Connected → ℕ → Connection → Type 0
IsConnectionWay ks t (connection.On p c) = way_of ks t c ≡ Some p
IsConnectionWay ks t (connection.Ask p c) = way_of ks t c ≡ Some p
IsConnectionWay ks t (connection.Away c) = Unit {0}

abbrev pub IsHeldWay : List Connected → Option Held → Type 0
IsHeldWay ks None = Unit {0}
IsHeldWay ks (Some h) = IsConnectionWay ks h.number h.connection

abbrev pub IsLast : List Connected → Option Held → Type 0
IsLast ks None = Unit {0}
IsLast ks (Some h) = Each (λ k. k.number ≡ h.number → k.connection ≤ connection_of h.connection) ks

abbrev pub IsMine : ℕ → Option Held → Type 0
IsMine f None = Unit {0}
IsMine f (Some h) = h.number ≤ f

pub mine-higher : (f g : ℕ) (h : Option Held) → f ≤ g → IsMine f h → IsMine g h
mine-higher f g None le m = tt
mine-higher f g (Some h) le m = omega (arith, le, m)

abbrev pub IsOfferOn : HoldPhase → ℕ → ℕ → Type 0
IsOfferOn (hold.Offer u q) t p = u ≡ t → p ≡ q
IsOfferOn phase t p = Unit {0}

abbrev pub IsUpTied : List Connected → HoldPhase → ℕ → Up → Type 0
IsUpTied ks phase p (up.Accept t) = (way_of ks t 0 ≡ Some p) × IsOfferOn phase t p
IsUpTied ks phase p (up.Data load t c n s) = way_of ks t c ≡ Some p
IsUpTied ks phase p (up.Leave t c) = way_of ks t c ≡ Some p
IsUpTied ks phase p (up.Back t c) = way_of ks t c ≡ Some p
IsUpTied ks phase p x = Unit {0}

pub record Tied (side : Side) (u : UnitState) (l : Link) (k : SeenPaths) : Type 0 where
  pub offered : IsOfferTied l.hold.phase k.offered
  pub connected : IsPhaseTied l.hold.phase k.connected
  pub answered : IsAnswerTied l.hold.phase l.hold.seen k.answered
  pub moving : k.moving ≡ moving_of (holds u side)
  pub hold_way : IsPhaseWay k.ways l.hold.phase
  pub unit_way : IsHeldWay k.ways (holds u side)
  pub below : Each (λ x. x.number ≤ floor_of u side) k.ways
  pub last : IsLast k.ways (holds u side)
  pub mine : IsMine (floor_of u side) (holds u side)
  pub downs : (x : OnPath Down) → Contains l.downs x → IsDownTied k.ways x.path x.signal
  pub ups : (x : OnPath Up) → Contains l.ups x → IsUpTied k.ways l.hold.phase x.path x.signal

-- what may arrive now might have arrived before, or is sent now
pub carried-each : {A : Type 0} (P Q : A → Type 0) (old : List A) (sent : Option A) (new : List A) →
    ((x : A) → Contains old x → P x) → ((x : A) → Contains old x → P x → Q x) → IfSome sent Q → Carries old sent new → (x : A) → Contains new x → Q x
carried-each {A} P Q old sent new all weaker s c x there =
    elim (All-contains (λ y. Contains old y ⊎ (sent ≡ Some y)) new x c there) [
      | inl y ↦ weaker x y (all x y)
      | inr e ↦ let R : Option A → Type 0 = λ o. IfSome o Q in subst R e s
    ]

-- after an act of the hold
pub hold-after : (side : Side) (u : UnitState) (l new : Link) (k : SeenPaths) (acted : HoldActed) (o : Option Offered) (m : Option Connected) (n : ℕ) →
    Tied side u l k → LinkStep l acted None new → IsOfferTied acted.hold.phase o → IsPhaseTied acted.hold.phase m → IsAnswerTied acted.hold.phase acted.hold.seen n → IsPhaseWay k.ways acted.hold.phase →
    IfSome acted.sent (λ x. IsDownTied k.ways x.path x.signal) →
    ((x : OnPath Up) → Contains l.ups x → IsUpTied k.ways l.hold.phase x.path x.signal → IsUpTied k.ways acted.hold.phase x.path x.signal) →
    Tied side u new (record k { offered = o; connected = m; answered = n })
hold-after side u l new k acted o m n t s offered connected answered way sent ups = record {
  offered = subst (λ (h : HoldState). IsOfferTied h.phase o) (sym s.hold) offered;
  connected = subst (λ (h : HoldState). IsPhaseTied h.phase m) (sym s.hold) connected;
  answered = subst (λ (h : HoldState). IsAnswerTied h.phase h.seen n) (sym s.hold) answered;
  moving = t.moving;
  hold_way = subst (λ (h : HoldState). IsPhaseWay k.ways h.phase) (sym s.hold) way;
  unit_way = t.unit_way;
  below = t.below;
  last = t.last;
  mine = t.mine;
  downs = carried-each (λ x. IsDownTied k.ways x.path x.signal) (λ x. IsDownTied k.ways x.path x.signal) l.downs acted.sent new.downs t.downs (λ x c h. h) sent s.downs;
  ups =
      subst (λ (h : HoldState). (x : OnPath Up) → Contains new.ups x → IsUpTied k.ways h.phase x.path x.signal) (sym s.hold)
      (carried-each (λ x. IsUpTied k.ways l.hold.phase x.path x.signal) (λ x. IsUpTied k.ways acted.hold.phase x.path x.signal) l.ups None new.ups t.ups ups tt s.ups);
}

-- the same where the phase stays
pub hold-stays : (side : Side) (u : UnitState) (l new : Link) (k : SeenPaths) (acted : HoldActed) → Tied side u l k → LinkStep l acted None new → acted.hold.phase ≡ l.hold.phase → acted.hold.seen ≡ l.hold.seen →
    IfSome acted.sent (λ x. IsDownTied k.ways x.path x.signal) → Tied side u new k
hold-stays side u l new k acted t s same seen sent =
    hold-after side u l new k acted k.offered k.connected k.answered t s (subst (λ (h : HoldPhase). IsOfferTied h k.offered) (sym same) t.offered)
    (subst (λ (h : HoldPhase). IsPhaseTied h k.connected) (sym same) t.connected)
    (subst (λ (h : HoldPhase). IsAnswerTied h acted.hold.seen k.answered) (sym same) (subst (λ (n : ℕ). IsAnswerTied l.hold.phase n k.answered) (sym seen) t.answered)) (subst (λ (h : HoldPhase). IsPhaseWay k.ways h) (sym same) t.hold_way) sent
    (λ x c h. subst (λ (y : HoldPhase). IsUpTied k.ways y x.path x.signal) (sym same) h)

-- no program is offered then
abbrev pub IsNoOffer : HoldPhase → Type 0
IsNoOffer (hold.Offer t q) = ⊥
IsNoOffer phase = Unit {0}

no-offer-on : (phase : HoldPhase) (t p : ℕ) → IsNoOffer phase → IsOfferOn phase t p
no-offer-on hold.Free t p n = tt
no-offer-on (hold.Offer u q) t p n = absurd n
no-offer-on (hold.On u q c) t p n = tt
no-offer-on (hold.Away u) t p n = tt
no-offer-on (hold.Letting u q) t p n = tt
no-offer-on (hold.Reset r) t p n = tt

pub no-offer-tied : (phase : HoldPhase) (o : Option Offered) → IsNoOffer phase → IsOfferTied phase o
no-offer-tied hold.Free o n = tt
no-offer-tied (hold.Offer u q) o n = absurd n
no-offer-tied (hold.On u q c) o n = tt
no-offer-tied (hold.Away u) o n = tt
no-offer-tied (hold.Letting u q) o n = tt
no-offer-tied (hold.Reset r) o n = tt

pub no-offer-up : (ks : List Connected) (old phase : HoldPhase) (p : ℕ) (x : Up) → IsNoOffer phase → IsUpTied ks old p x → IsUpTied ks phase p x
no-offer-up ks old phase p (up.Accept t) n h = (h.0, no-offer-on phase t p n)
no-offer-up ks old phase p (up.Busy t) n h = tt
no-offer-up ks old phase p (up.Leave t c) n h = h
no-offer-up ks old phase p (up.Back t c) n h = h
no-offer-up ks old phase p (up.Data load t c m s) n h = h
no-offer-up ks old phase p (up.End t m status more) n h = tt
no-offer-up ks old phase p (up.Released t) n h = tt
no-offer-up ks old phase p (up.Cleared r) n h = tt
no-offer-up ks old phase p (up.Notice b) n h = tt
no-offer-up ks old phase p (up.Attn a status) n h = tt

-- after an act of the hold that offers nothing
pub hold-turns : (side : Side) (u : UnitState) (l new : Link) (k : SeenPaths) (acted : HoldActed) (o : Option Offered) (m : Option Connected) (n : ℕ) → IsNoOffer acted.hold.phase →
    Tied side u l k → LinkStep l acted None new → IsPhaseTied acted.hold.phase m → IsAnswerTied acted.hold.phase acted.hold.seen n → IsPhaseWay k.ways acted.hold.phase →
    IfSome acted.sent (λ x. IsDownTied k.ways x.path x.signal) → Tied side u new (record k { offered = o; connected = m; answered = n })
hold-turns side u l new k acted o m n none t s connected answered way sent =
    hold-after side u l new k acted o m n t s (no-offer-tied acted.hold.phase o none) connected answered way sent
    (λ x c h. no-offer-up k.ways l.hold.phase acted.hold.phase x.path x.signal none h)

-- after an act of the unit, with no new way
pub unit-after-same : (side : Side) (u v : UnitState) (l new : Link) (k : SeenPaths) (m : Option Connected) (sent : Option (OnPath Up)) →
    Tied side u l k → LinkStep l (still l.drawn l.hold) sent new → floor_of u side ≤ floor_of v side → m ≡ moving_of (holds v side) → IsHeldWay k.ways (holds v side) → IsLast k.ways (holds v side) → IsMine (floor_of v side) (holds v side) →
    IfSome sent (λ x. IsUpTied k.ways l.hold.phase x.path x.signal) → Tied side v new (record k { moving = m })
unit-after-same side u v l new k m sent t s floor moving way last mine one = record {
  offered = subst (λ (h : HoldState). IsOfferTied h.phase k.offered) (sym s.hold) t.offered;
  connected = subst (λ (h : HoldState). IsPhaseTied h.phase k.connected) (sym s.hold) t.connected;
  answered = subst (λ (h : HoldState). IsAnswerTied h.phase h.seen k.answered) (sym s.hold) t.answered;
  moving = moving;
  hold_way = subst (λ (h : HoldState). IsPhaseWay k.ways h.phase) (sym s.hold) t.hold_way;
  unit_way = way;
  below = each-weaker (λ x. x.number ≤ floor_of u side) (λ x. x.number ≤ floor_of v side) (λ x h. omega (arith, h, floor)) k.ways t.below;
  last = last;
  mine = mine;
  downs = carried-each (λ x. IsDownTied k.ways x.path x.signal) (λ x. IsDownTied k.ways x.path x.signal) l.downs None new.downs t.downs (λ x c h. h) tt s.downs;
  ups =
      subst (λ (h : HoldState). (x : OnPath Up) → Contains new.ups x → IsUpTied k.ways h.phase x.path x.signal) (sym s.hold)
      (carried-each (λ x. IsUpTied k.ways l.hold.phase x.path x.signal) (λ x. IsUpTied k.ways l.hold.phase x.path x.signal) l.ups sent new.ups t.ups (λ x c h. h) one s.ups);
}

-- with one way more
more-phase : (ks : List Connected) (one : Connected) (phase : HoldPhase) → way_of ks one.number one.connection ≡ None → IsPhaseWay ks phase → IsPhaseWay (one ∷ ks) phase
more-phase ks one hold.Free n h = tt
more-phase ks one (hold.Offer u q) n h = tt
more-phase ks one (hold.On u q c) n h = way-kept one ks u c q n h
more-phase ks one (hold.Away u) n h = tt
more-phase ks one (hold.Letting u q) n h = tt
more-phase ks one (hold.Reset r) n h = tt

more-down : (ks : List Connected) (one : Connected) (p : ℕ) (d : Down) → way_of ks one.number one.connection ≡ None → IsDownTied ks p d → IsDownTied (one ∷ ks) p d
more-down ks one p d n h = tied-more ks (one ∷ ks) p d (λ t c. way-kept one ks t c p n) h

more-up : (ks : List Connected) (one : Connected) (phase : HoldPhase) (p : ℕ) (x : Up) → way_of ks one.number one.connection ≡ None → IsUpTied ks phase p x → IsUpTied (one ∷ ks) phase p x
more-up ks one phase p (up.Accept t) n h = (way-kept one ks t 0 p n h.0, h.1)
more-up ks one phase p (up.Busy t) n h = tt
more-up ks one phase p (up.Leave t c) n h = way-kept one ks t c p n h
more-up ks one phase p (up.Back t c) n h = way-kept one ks t c p n h
more-up ks one phase p (up.Data load t c m s) n h = way-kept one ks t c p n h
more-up ks one phase p (up.End t m status more) n h = tt
more-up ks one phase p (up.Released t) n h = tt
more-up ks one phase p (up.Cleared r) n h = tt
more-up ks one phase p (up.Notice b) n h = tt
more-up ks one phase p (up.Attn a status) n h = tt

pub unit-after-more : (side : Side) (u v : UnitState) (l new : Link) (k : SeenPaths) (one : Connected) (m : Option Connected) (sent : Option (OnPath Up)) →
    Tied side u l k → LinkStep l (still l.drawn l.hold) sent new → way_of k.ways one.number one.connection ≡ None → floor_of u side ≤ floor_of v side → one.number ≤ floor_of v side →
    m ≡ moving_of (holds v side) → IsHeldWay (one ∷ k.ways) (holds v side) → IsLast (one ∷ k.ways) (holds v side) → IsMine (floor_of v side) (holds v side) →
    IfSome sent (λ x. IsUpTied (one ∷ k.ways) l.hold.phase x.path x.signal) → Tied side v new (record k { moving = m; ways = one ∷ k.ways })
unit-after-more side u v l new k one m sent t s none floor number moving way last mine it = record {
  offered = subst (λ (h : HoldState). IsOfferTied h.phase k.offered) (sym s.hold) t.offered;
  connected = subst (λ (h : HoldState). IsPhaseTied h.phase k.connected) (sym s.hold) t.connected;
  answered = subst (λ (h : HoldState). IsAnswerTied h.phase h.seen k.answered) (sym s.hold) t.answered;
  moving = moving;
  hold_way = subst (λ (h : HoldState). IsPhaseWay (one ∷ k.ways) h.phase) (sym s.hold) (more-phase k.ways one l.hold.phase none t.hold_way);
  unit_way = way;
  below = (number, each-weaker (λ x. x.number ≤ floor_of u side) (λ x. x.number ≤ floor_of v side) (λ x h. omega (arith, h, floor)) k.ways t.below);
  last = last;
  mine = mine;
  downs =
      carried-each (λ x. IsDownTied k.ways x.path x.signal) (λ x. IsDownTied (one ∷ k.ways) x.path x.signal) l.downs None new.downs t.downs
      (λ x c h. more-down k.ways one x.path x.signal none h) tt s.downs;
  ups =
      subst (λ (h : HoldState). (x : OnPath Up) → Contains new.ups x → IsUpTied (one ∷ k.ways) h.phase x.path x.signal) (sym s.hold)
      (carried-each (λ x. IsUpTied k.ways l.hold.phase x.path x.signal) (λ x. IsUpTied (one ∷ k.ways) l.hold.phase x.path x.signal) l.ups sent new.ups t.ups
      (λ x c h. more-up k.ways one l.hold.phase x.path x.signal none h) it s.ups);
}

-- the unit is where it was
pub unit-stays : (side : Side) (u v : UnitState) (l new : Link) (k : SeenPaths) (sent : Option (OnPath Up)) → Tied side u l k → LinkStep l (still l.drawn l.hold) sent new → IsStill u v side →
    IfSome sent (λ x. IsUpTied k.ways l.hold.phase x.path x.signal) → Tied side v new k
unit-stays side u v l new k sent t s is one =
    unit-after-same side u v l new k k.moving sent t s is.floor (t.moving ∙ ap moving_of (sym is.held)) (subst (λ (h : Option Held). IsHeldWay k.ways h) (sym is.held) t.unit_way)
    (subst (λ (h : Option Held). IsLast k.ways h) (sym is.held) t.last)
    (subst (λ (h : Option Held). IsMine (floor_of v side) h) (sym is.held) (mine-higher (floor_of u side) (floor_of v side) (holds u side) is.floor t.mine)) one
