-- What a hold does is right by what is seen of its paths, and keeps the tie.
use Rattle.std.proofs.Common.{◌≡◌, ◌<◌, refl, sym, ◌∙◌, ap, subst, ℕ, ◌≤◌, ◌+◌, ◌==◌, ◌&&◌, nat_lt, Bool, true, false, Option, None, Some, List, inl, inr, arith}
use Rattle.std.specs.Prelude.{◌⊎◌, ◌||◌, if◌then◌else◌, Contains, IfSome}
use Rattle.std.proofs.lemmas.Bool.{eqb-true, ltb-true, and_parts}
use Rattle.chan_model.specs.declared.hold_state.HoldPhase.{HoldPhase}
use Rattle.chan_model.specs.declared.hold_state.HoldPhase.TheVariants as hold
use Rattle.chan_model.specs.declared.hold_state.HoldState.{HoldState}
use Rattle.chan_model.specs.declared.names.Side.{Side}
use Rattle.chan_model.specs.Signals.{Down}
use Rattle.chan_model.specs.declared.signal.Down.TheVariants as down
use Rattle.chan_model.specs.Signals.{Load}
use Rattle.chan_model.specs.declared.signal.OnPath.{OnPath}
use Rattle.chan_model.specs.Signals.{Up}
use Rattle.chan_model.specs.declared.signal.Up.TheVariants as up
use Rattle.chan_model.specs.declared.unit_state.UnitState.{UnitState}
use Rattle.chan_model.specs.HoldTable.{HoldStep, hold_quietly, program_begun, offer_accepted, found_busy, left, refusing, granting, asked_back, released, reset_cleared, attended, outcome_of, is_connected, is_on, letting_go, sending_reset}
use Rattle.chan_model.specs.ResetCauses.{is_path, engaged_path, rests_on}
use Rattle.agreement_laws.specs.Links.{Link}
use Rattle.agreement_laws.specs.Moving.{HoldAct, Nothing, Offers, Sends_reset, Lets_go, Is_reset, Loses, Takes, Sends, HoldActed, still, hold_stepped, hold_offered, reset_again, hold_taken, hold_acts, LinkStep}
use Rattle.agreement_laws.proofs.SeenSignals.{IsSent, Commands, Answers, Gives, Halts, sent-as}
use Rattle.agree.specs.declared.reply.WorldReply.TheVariants as reply
use Rattle.agreement_laws.specs.PathsSeen.{Offered, IsOffered, Connected, linked, SeenPaths, way_of, sent_down, answered_down, taken_up, IsConnected, IsNumber, IsHaltOn, GoesRight, ArrivesRight, ComesRight}
use Rattle.agree.specs.ByItsPath.{cleared, cut_offer, cut_connected, cut_at, seen_here, IsHereRight}
use Rattle.agree.specs.Replies.{is_taken}
use Rattle.agreement_laws.specs.Sending.{is_on_path, is_away, may_send}
use Rattle.agree.proofs.PathTies.{IsOfferTied, IsPhaseTied, IsAnswerTied, answer-same, IsPhaseWay, IsUpTied, Tied, hold-after, hold-stays, hold-turns}

-- what the hold sent of itself or for its program is right, and the tie goes on
pub record Told (side : Side) (u : UnitState) (new : Link) (k : SeenPaths) (sent : Option (OnPath Down)) : Type 0 where
  pub right : IfSome sent (λ x. GoesRight k.connected x.path x.signal)
  pub tied : Tied side u new (answered_down sent k)

abbrev HoldSent : Side → UnitState → Link → SeenPaths → HoldActed → Type 0
HoldSent side u l k acted = (new : Link) → LinkStep l acted None new → Told side u new k acted.sent

-- numbers of Accepts that may arrive
abbrev pub IsNumbered : ℕ → Up → Type 0
IsNumbered n (up.Accept t) = t ≤ n
IsNumbered n x = Unit {0}

abbrev pub AreNumbered : Link → Type 0
AreNumbered l = (x : OnPath Up) → Contains l.ups x → IsNumbered l.drawn x.signal

offered-up : (ks : List Connected) (old : HoldPhase) (n q p : ℕ) (x : Up) → IsNumbered n x → IsUpTied ks old p x → IsUpTied ks (hold.Offer (n + 1) q) p x
offered-up ks old n q p (up.Accept t) le h = (h.0, λ e. absurd (omega (arith, e, le)))
offered-up ks old n q p (up.Busy t) le h = tt
offered-up ks old n q p (up.Leave t c) le h = h
offered-up ks old n q p (up.Back t c) le h = h
offered-up ks old n q p (up.Data load t c m s) le h = h
offered-up ks old n q p (up.End t m status more) le h = tt
offered-up ks old n q p (up.Released t) le h = tt
offered-up ks old n q p (up.Cleared r) le h = tt
offered-up ks old n q p (up.Notice b) le h = tt
offered-up ks old n q p (up.Attn a status) le h = tt

quiet-told : (side : Side) (u : UnitState) (l : Link) (k : SeenPaths) → Tied side u l k → HoldSent side u l k (still l.drawn l.hold)
quiet-told side u l k t new s = record { right = tt; tied = hold-stays side u l new k (still l.drawn l.hold) t s refl refl tt }

-- by the phase
of-phase : (P : HoldPhase → Type 0) (l : Link) (phase : HoldPhase) → l.hold.phase ≡ phase → P l.hold.phase → P phase
of-phase P l phase e h = subst P e h

offers-told : (side : Side) (u : UnitState) (l : Link) (k : SeenPaths) (phase : HoldPhase) (p : ℕ) (single : Bool) → l.hold.phase ≡ phase → AreNumbered l → Tied side u l k →
    HoldSent side u l k (hold_offered l.drawn l.hold phase p single)
offers-told side u l k hold.Free p single e numbered t = λ new s.
    let none : k.connected ≡ None = of-phase (λ h. IsPhaseTied h k.connected) l hold.Free e t.connected in
    record {
      right = none;
      tied =
          hold-after side u l new k (hold_offered l.drawn l.hold hold.Free p single) (Some (record { number = l.drawn + 1; path = p })) k.connected k.answered t s refl none tt tt tt
          (λ x c h. offered-up k.ways l.hold.phase l.drawn p x.path x.signal (numbered x c) h);
    }
offers-told side u l k (hold.Offer v q) p single e numbered t = quiet-told side u l k t
offers-told side u l k (hold.On v q c) p single e numbered t = quiet-told side u l k t
offers-told side u l k (hold.Away v) p single e numbered t = quiet-told side u l k t
offers-told side u l k (hold.Letting v q) p single e numbered t = quiet-told side u l k t
offers-told side u l k (hold.Reset r) p single e numbered t = quiet-told side u l k t

sends_reset-told : (side : Side) (u : UnitState) (l : Link) (k : SeenPaths) (phase : HoldPhase) (p : ℕ) → Tied side u l k →
    HoldSent side u l k (hold_stepped l.drawn l.hold (sending_reset l.hold phase p))
sends_reset-told side u l k (hold.Reset r) p t = λ new s. record { right = tt; tied = hold-stays side u l new k _ t s refl refl tt }
sends_reset-told side u l k hold.Free p t = quiet-told side u l k t
sends_reset-told side u l k (hold.Offer v q) p t = quiet-told side u l k t
sends_reset-told side u l k (hold.On v q c) p t = quiet-told side u l k t
sends_reset-told side u l k (hold.Away v) p t = quiet-told side u l k t
sends_reset-told side u l k (hold.Letting v q) p t = quiet-told side u l k t

connected-by : (m : Option Connected) (t q c : ℕ) → m ≡ Some (linked t q c) → IsConnected m t q
connected-by m t q c e = subst (λ (x : Option Connected). IsConnected x t q) (sym e) (refl, refl)

lets_go-told : (side : Side) (u : UnitState) (l : Link) (k : SeenPaths) (phase : HoldPhase) → l.hold.phase ≡ phase → Tied side u l k →
    HoldSent side u l k (hold_stepped l.drawn l.hold (letting_go l.hold phase))
lets_go-told side u l k (hold.On v q c) e t = λ new s.
    let on : k.connected ≡ Some (linked v q c) = of-phase (λ h. IsPhaseTied h k.connected) l (hold.On v q c) e t.connected in
    record {
      right = connected-by k.connected v q c on;
      tied = hold-turns side u l new k (hold_stepped l.drawn l.hold (letting_go l.hold (hold.On v q c))) k.offered None k.answered tt t s refl tt tt tt;
    }
lets_go-told side u l k hold.Free e t = quiet-told side u l k t
lets_go-told side u l k (hold.Offer v q) e t = quiet-told side u l k t
lets_go-told side u l k (hold.Away v) e t = quiet-told side u l k t
lets_go-told side u l k (hold.Letting v q) e t = quiet-told side u l k t
lets_go-told side u l k (hold.Reset r) e t = quiet-told side u l k t

reset-told : (side : Side) (u : UnitState) (l : Link) (k : SeenPaths) → Tied side u l k → HoldSent side u l k (reset_again l.drawn l.hold)
reset-told side u l k t new s = record { right = tt; tied = hold-turns side u l new k (reset_again l.drawn l.hold) k.offered k.connected k.answered tt t s tt tt tt tt }

-- after a clear nothing is connected
pub cleared-tied : (side : Side) (u : UnitState) (l new : Link) (k : SeenPaths) → Tied side u l k → LinkStep l (reset_again l.drawn l.hold) None new → Tied side u new (cleared k)
cleared-tied side u l new k t s = hold-turns side u l new k (reset_again l.drawn l.hold) None None k.answered tt t s tt tt tt tt

loses-told : (side : Side) (u : UnitState) (l : Link) (k : SeenPaths) (b : Bool) → Tied side u l k → HoldSent side u l k (if b then reset_again l.drawn l.hold else still l.drawn l.hold)
loses-told side u l k true t = reset-told side u l k t
loses-told side u l k false t = quiet-told side u l k t

-- after the loss of a path nothing is offered or connected on it
no-path : (a b : Bool) → (a || b) ≡ false → a ≡ false
no-path true b e = absurd (cc e)
no-path false b e = refl

cut-offer-tied : (h : HoldState) (phase : HoldPhase) (p : ℕ) (o : Option Offered) → h.phase ≡ phase → rests_on h p ≡ false → IsOfferTied phase o → IsOfferTied phase (cut_offer p o)
cut-offer-tied h (hold.Offer t q) p o e n tie =
    let off : (q == p) ≡ false = ap (λ (x : HoldPhase). is_path (engaged_path x) p) (sym e) ∙ no-path (is_path (engaged_path h.phase) p) _ n in
    ap (cut_offer p) tie ∙ ap (λ (b : Bool). if b then None else Some (record { number = t; path = q })) off
cut-offer-tied h hold.Free p o e n tie = tt
cut-offer-tied h (hold.On t q c) p o e n tie = tt
cut-offer-tied h (hold.Away t) p o e n tie = tt
cut-offer-tied h (hold.Letting t q) p o e n tie = tt
cut-offer-tied h (hold.Reset r) p o e n tie = tt

cut-connected-tied : (h : HoldState) (phase : HoldPhase) (p : ℕ) (m : Option Connected) → h.phase ≡ phase → rests_on h p ≡ false → IsPhaseTied phase m → IsPhaseTied phase (cut_connected p m)
cut-connected-tied h (hold.On t q c) p m e n tie =
    let off : (q == p) ≡ false = ap (λ (x : HoldPhase). is_path (engaged_path x) p) (sym e) ∙ no-path (is_path (engaged_path h.phase) p) _ n in
    ap (cut_connected p) tie ∙ ap (λ (b : Bool). if b then None else Some (linked t q c)) off
cut-connected-tied h hold.Free p m e n tie = ap (cut_connected p) tie
cut-connected-tied h (hold.Offer t q) p m e n tie = ap (cut_connected p) tie
cut-connected-tied h (hold.Away t) p m e n tie = ap (cut_connected p) tie
cut-connected-tied h (hold.Letting t q) p m e n tie = ap (cut_connected p) tie
cut-connected-tied h (hold.Reset r) p m e n tie = tt

cut-by : (side : Side) (u : UnitState) (l new : Link) (k : SeenPaths) (p : ℕ) (b : Bool) → rests_on l.hold p ≡ b → Tied side u l k →
    LinkStep l (if b then reset_again l.drawn l.hold else still l.drawn l.hold) None new → Tied side u new (cut_at p k)
cut-by side u l new k p true e t s = hold-turns side u l new k (reset_again l.drawn l.hold) (cut_offer p k.offered) (cut_connected p k.connected) k.answered tt t s tt tt tt tt
cut-by side u l new k p false e t s =
    hold-after side u l new k (still l.drawn l.hold) (cut_offer p k.offered) (cut_connected p k.connected) k.answered t s
    (cut-offer-tied l.hold l.hold.phase p k.offered refl e t.offered) (cut-connected-tied l.hold l.hold.phase p k.connected refl e t.connected) t.answered t.hold_way tt (λ x c h. h)

pub cut-tied : (side : Side) (u : UnitState) (l new : Link) (k : SeenPaths) (p : ℕ) → Tied side u l k → LinkStep l (hold_acts l.drawn l.hold (Loses p)) None new → Tied side u new (cut_at p k)
cut-tied side u l new k p t s = cut-by side u l new k p (rests_on l.hold p) refl t s

-- for its program
on-path : (phase : HoldPhase) (m : Option Connected) (t p : ℕ) → is_on_path phase t p ≡ true → IsPhaseTied phase m → IsConnected m t p
on-path hold.Free m t p e h = absurd (cc e)
on-path (hold.Offer v q) m t p e h = absurd (cc e)
on-path (hold.On v q c) m t p e h =
    let both = and_parts (t == v) (p == q) e in
    subst (λ (x : Option Connected). IsConnected x t p) (sym h) (sym (eqb-true t v both.0), sym (eqb-true p q both.1))
on-path (hold.Away v) m t p e h = absurd (cc e)
on-path (hold.Letting v q) m t p e h = absurd (cc e)
on-path (hold.Reset r) m t p e h = absurd (cc e)

on-connection : (phase : HoldPhase) (ks : List Connected) (m : Option Connected) (t p c : ℕ) → is_connected phase p t c ≡ true → IsPhaseTied phase m → IsPhaseWay ks phase →
    (m ≡ Some (linked t p c)) × (way_of ks t c ≡ Some p)
on-connection hold.Free ks m t p c e h w = absurd (cc e)
on-connection (hold.Offer v q) ks m t p c e h w = absurd (cc e)
on-connection (hold.On v q d) ks m t p c e h w =
    let both = and_parts (t == v) ((p == q) && (c == d)) e in
    let more = and_parts (p == q) (c == d) both.1 in
    let n : v ≡ t = sym (eqb-true t v both.0) in
    let a : q ≡ p = sym (eqb-true p q more.0) in
    let b : d ≡ c = sym (eqb-true c d more.1) in (
      h ∙ (ap (λ (x : ℕ). Some (linked x q d)) n ∙ (ap (λ (x : ℕ). Some (linked t x d)) a ∙ ap (λ (x : ℕ). Some (linked t p x)) b)),
      ap (λ (x : ℕ). way_of ks x c) (sym n) ∙ (ap (λ (x : ℕ). way_of ks v x) (sym b) ∙ (w ∙ ap (λ (x : ℕ). Some x) a)),
    )
on-connection (hold.Away v) ks m t p c e h w = absurd (cc e)
on-connection (hold.Letting v q) ks m t p c e h w = absurd (cc e)
on-connection (hold.Reset r) ks m t p c e h w = absurd (cc e)

halt-of : (m : Option Connected) (t p : ℕ) → IsConnected m t p → IsHaltOn m t p
halt-of None t p h = tt
halt-of (Some k) t p h = h

halt-away : (phase : HoldPhase) (m : Option Connected) (t p : ℕ) → is_away phase t ≡ true → IsPhaseTied phase m → IsHaltOn m t p
halt-away hold.Free m t p e h = absurd (cc e)
halt-away (hold.Offer v q) m t p e h = absurd (cc e)
halt-away (hold.On v q c) m t p e h = absurd (cc e)
halt-away (hold.Away v) m t p e h = subst (λ (x : Option Connected). IsHaltOn x t p) (sym h) tt
halt-away (hold.Letting v q) m t p e h = absurd (cc e)
halt-away (hold.Reset r) m t p e h = absurd (cc e)

either : (a b : Bool) → (a || b) ≡ true → (a ≡ true) ⊎ (b ≡ true)
either true b e = inl refl
either false b e = inr e

sending : (l : Link) (p : ℕ) (d : Down) → HoldActed
sending l p d = record { drawn = l.drawn; hold = l.hold; sent = Some (record { path = p; signal = d }) }

sent-told : (side : Side) (u : UnitState) (l : Link) (k : SeenPaths) (p : ℕ) (d : Down) → IsSent l.hold.phase p d → Tied side u l k →
    HoldSent side u l k (hold_acts l.drawn l.hold (Sends (record { path = p; signal = d })))
sent-told side u l k p _ (Commands v n code room is) t new s = record { right = on-path l.hold.phase k.connected v p is t.connected; tied = hold-stays side u l new k _ t s refl refl tt }
sent-told side u l k p _ (Answers v n c room is) t new s = record { right = on-path l.hold.phase k.connected v p is t.connected; tied = hold-stays side u l new k _ t s refl refl tt }
sent-told side u l k p _ (Gives bytes v c n m is) t new s =
    let on = on-connection l.hold.phase k.ways k.connected v p c is t.connected t.hold_way in record { right = on.0; tied = hold-stays side u l new k _ t s refl refl on.1 }
sent-told side u l k p _ (Halts v there) t new s =
    record {
      right =
          elim (either (is_on_path l.hold.phase v p) (is_away l.hold.phase v) there) [
            | inl on ↦ halt-of k.connected v p (on-path l.hold.phase k.connected v p on t.connected)
            | inr away ↦ halt-away l.hold.phase k.connected v p away t.connected
          ];
      tied = hold-stays side u l new k _ t s refl refl tt;
    }

abbrev pub IsSendable : HoldPhase → HoldAct → Type 0
IsSendable phase (Takes x may) = ⊥
IsSendable phase (Sends x) = may_send phase x.path x.signal ≡ true
IsSendable phase act = Unit {0}

pub acts-told : (side : Side) (u : UnitState) (l : Link) (k : SeenPaths) (act : HoldAct) → IsSendable l.hold.phase act → AreNumbered l → Tied side u l k → HoldSent side u l k (hold_acts l.drawn l.hold act)
acts-told side u l k Nothing g numbered t = quiet-told side u l k t
acts-told side u l k (Offers p single) g numbered t = offers-told side u l k l.hold.phase p single refl numbered t
acts-told side u l k (Sends_reset p) g numbered t = sends_reset-told side u l k l.hold.phase p t
acts-told side u l k Lets_go g numbered t = lets_go-told side u l k l.hold.phase refl t
acts-told side u l k Is_reset g numbered t = reset-told side u l k t
acts-told side u l k (Loses p) g numbered t = loses-told side u l k (rests_on l.hold p) t
acts-told side u l k (Takes x may) g numbered t = absurd g
acts-told side u l k (Sends x) g numbered t = sent-told side u l k x.path x.signal (sent-as l.hold.phase x.path x.signal g) t

-- a signal that arrives is taken or not
pub record Heard (side : Side) (u : UnitState) (new : Link) (k : SeenPaths) (x : OnPath Up) (taken : Bool) (sent : Option (OnPath Down)) : Type 0 where
  pub right : IsHereRight (reply.Up side x taken sent) k
  pub tied : Tied side u new (seen_here (reply.Up side x taken sent) k)

abbrev HoldTook : Side → UnitState → Link → SeenPaths → OnPath Up → Option HoldStep → Type 0
HoldTook side u l k x step = (new : Link) → LinkStep l (hold_stepped l.drawn l.hold step) None new → Heard side u new k x (outcome_of step).taken (hold_stepped l.drawn l.hold step).sent

if-line_took_up : (side : Side) (u : UnitState) (l : Link) (k : SeenPaths) (x : OnPath Up) (b : Bool) (a c : Option HoldStep) → (b ≡ true → HoldTook side u l k x a) → HoldTook side u l k x c → HoldTook side u l k x (if b then a else c)
if-line_took_up side u l k x true a c f g = f refl
if-line_took_up side u l k x false a c f g = g

arrives : (ks : List Connected) (k : SeenPaths) (phase : HoldPhase) (p : ℕ) (x : Up) → k.ways ≡ ks → IsUpTied ks phase p x → ArrivesRight k p x
arrives ks k phase p (up.Accept t) e h = tt
arrives ks k phase p (up.Busy t) e h = tt
arrives ks k phase p (up.Leave t c) e h = ap (λ (w : List Connected). way_of w t c) e ∙ h
arrives ks k phase p (up.Back t c) e h = ap (λ (w : List Connected). way_of w t c) e ∙ h
arrives ks k phase p (up.Data load t c m s) e h = ap (λ (w : List Connected). way_of w t c) e ∙ h
arrives ks k phase p (up.End t m status more) e h = tt
arrives ks k phase p (up.Released t) e h = tt
arrives ks k phase p (up.Cleared r) e h = tt
arrives ks k phase p (up.Notice b) e h = tt
arrives ks k phase p (up.Attn a status) e h = tt

ignored : (side : Side) (u : UnitState) (l : Link) (k : SeenPaths) (x : OnPath Up) → ArrivesRight k x.path x.signal → Tied side u l k → HoldTook side u l k x None
ignored side u l k x a t new s = record { right = (a, refl); tied = hold-stays side u l new k (still l.drawn l.hold) t s refl refl tt }

-- Accept
begun-line_took_up : (side : Side) (u : UnitState) (l : Link) (k : SeenPaths) (t q : ℕ) (may : Bool) → k.offered ≡ Some (record { number = t; path = q }) → way_of k.ways t 0 ≡ Some q → Tied side u l k →
    HoldTook side u l k (record { path = q; signal = up.Accept t }) (Some (program_begun l.hold t q may))
begun-line_took_up side u l k t q true o w tie new s = record { right = (tt, o, tt); tied = hold-turns side u l new k _ None (Some (linked t q 0)) 0 tt tie s refl refl w tt }
begun-line_took_up side u l k t q false o w tie new s = record { right = (tt, o, refl); tied = hold-turns side u l new k _ None None 0 tt tie s refl tt tt tt }

accept-line_took_up : (side : Side) (u : UnitState) (l : Link) (k : SeenPaths) (p t : ℕ) (may : Bool) (phase : HoldPhase) → l.hold.phase ≡ phase → IsUpTied k.ways phase p (up.Accept t) → Tied side u l k →
    HoldTook side u l k (record { path = p; signal = up.Accept t }) (offer_accepted l.hold phase t may)
accept-line_took_up side u l k p t may (hold.Offer v q) e h tie =
    let x : OnPath Up = record { path = p; signal = up.Accept t } in
    if-line_took_up side u l k x (t == v) (Some (program_begun l.hold v q may)) None
    (λ f.
    let n : t ≡ v = eqb-true t v f in
    let a : p ≡ q = h.1 (sym n) in
    let o : k.offered ≡ Some (record { number = v; path = q }) = of-phase (λ y. IsOfferTied y k.offered) l (hold.Offer v q) e tie.offered in
    subst (λ (y : OnPath Up). HoldTook side u l k y (Some (program_begun l.hold v q may))) (sym (ap (λ (m : ℕ). record { path = m; signal = up.Accept t }) a ∙ ap (λ (m : ℕ). record { path = q; signal = up.Accept m }) n))
    (begun-line_took_up side u l k v q may o (ap (λ (m : ℕ). way_of k.ways m 0) (sym n) ∙ (h.0 ∙ ap (λ (m : ℕ). Some m) a)) tie))
    (ignored side u l k x tt tie)
accept-line_took_up side u l k p t may hold.Free e h tie = ignored side u l k (record { path = p; signal = up.Accept t }) tt tie
accept-line_took_up side u l k p t may (hold.On v q c) e h tie = ignored side u l k (record { path = p; signal = up.Accept t }) tt tie
accept-line_took_up side u l k p t may (hold.Away v) e h tie = ignored side u l k (record { path = p; signal = up.Accept t }) tt tie
accept-line_took_up side u l k p t may (hold.Letting v q) e h tie = ignored side u l k (record { path = p; signal = up.Accept t }) tt tie
accept-line_took_up side u l k p t may (hold.Reset r) e h tie = ignored side u l k (record { path = p; signal = up.Accept t }) tt tie

-- Busy
busy-line_took_up : (side : Side) (u : UnitState) (l : Link) (k : SeenPaths) (p t : ℕ) (phase : HoldPhase) → l.hold.phase ≡ phase → Tied side u l k →
    HoldTook side u l k (record { path = p; signal = up.Busy t }) (found_busy l.hold phase t)
busy-line_took_up side u l k p t (hold.Offer v q) e tie =
    let x : OnPath Up = record { path = p; signal = up.Busy t } in
    if-line_took_up side u l k x (t == v) _ None
    (λ f new s.
    let o : k.offered ≡ Some (record { number = v; path = q }) = of-phase (λ y. IsOfferTied y k.offered) l (hold.Offer v q) e tie.offered in
    record {
      right = (tt, subst (λ (y : Option Offered). IsOffered y t) (sym o) (sym (eqb-true t v f)), tt);
      tied = hold-turns side u l new k _ None k.connected k.answered tt tie s (of-phase (λ y. IsPhaseTied y k.connected) l (hold.Offer v q) e tie.connected) tt tt tt;
    })
    (ignored side u l k x tt tie)
busy-line_took_up side u l k p t hold.Free e tie = ignored side u l k (record { path = p; signal = up.Busy t }) tt tie
busy-line_took_up side u l k p t (hold.On v q c) e tie = ignored side u l k (record { path = p; signal = up.Busy t }) tt tie
busy-line_took_up side u l k p t (hold.Away v) e tie = ignored side u l k (record { path = p; signal = up.Busy t }) tt tie
busy-line_took_up side u l k p t (hold.Letting v q) e tie = ignored side u l k (record { path = p; signal = up.Busy t }) tt tie
busy-line_took_up side u l k p t (hold.Reset r) e tie = ignored side u l k (record { path = p; signal = up.Busy t }) tt tie

-- Leave
some-path : (p q : ℕ) → Some p ≡ Some q → p ≡ q
some-path p q e = cc e

left-connected : (ks : List Connected) (m : Option Connected) (v q d t p c : ℕ) → m ≡ Some (linked v q d) → way_of ks v d ≡ Some q → way_of ks t c ≡ Some p → t ≡ v → c ≡ d → m ≡ Some (linked t p c)
left-connected ks m v q d t p c h w way n b =
    let same : q ≡ p = some-path q p (sym w ∙ (ap (λ (x : ℕ). way_of ks x d) (sym n) ∙ (ap (λ (x : ℕ). way_of ks t x) (sym b) ∙ way))) in
    h ∙ (ap (λ (x : ℕ). Some (linked x q d)) (sym n) ∙ (ap (λ (x : ℕ). Some (linked t x d)) same ∙ ap (λ (x : ℕ). Some (linked t p x)) (sym b)))

leave-line_took_up : (side : Side) (u : UnitState) (l : Link) (k : SeenPaths) (p t c : ℕ) (phase : HoldPhase) → l.hold.phase ≡ phase → way_of k.ways t c ≡ Some p → Tied side u l k →
    HoldTook side u l k (record { path = p; signal = up.Leave t c }) (left l.hold phase t c)
leave-line_took_up side u l k p t c (hold.On v q d) e way tie =
    let x : OnPath Up = record { path = p; signal = up.Leave t c } in
    if-line_took_up side u l k x ((t == v) && (c == d)) _ None
    (λ f new s.
    let both = and_parts (t == v) (c == d) f in
    record {
      right = (
        way,
        left-connected k.ways k.connected v q d t p c (of-phase (λ y. IsPhaseTied y k.connected) l (hold.On v q d) e tie.connected)
            (of-phase (λ y. IsPhaseWay k.ways y) l (hold.On v q d) e tie.hold_way) way (eqb-true t v both.0) (eqb-true c d both.1),
        tt,
      );
      tied = hold-turns side u l new k _ k.offered None k.answered tt tie s refl (of-phase (λ y. IsAnswerTied y l.hold.seen k.answered) l (hold.On v q d) e tie.answered) tt tt;
    })
    (ignored side u l k x way tie)
leave-line_took_up side u l k p t c hold.Free e way tie = ignored side u l k (record { path = p; signal = up.Leave t c }) way tie
leave-line_took_up side u l k p t c (hold.Offer v q) e way tie = ignored side u l k (record { path = p; signal = up.Leave t c }) way tie
leave-line_took_up side u l k p t c (hold.Away v) e way tie = ignored side u l k (record { path = p; signal = up.Leave t c }) way tie
leave-line_took_up side u l k p t c (hold.Letting v q) e way tie = ignored side u l k (record { path = p; signal = up.Leave t c }) way tie
leave-line_took_up side u l k p t c (hold.Reset r) e way tie = ignored side u l k (record { path = p; signal = up.Leave t c }) way tie

-- Back
refused-line_took_up : (side : Side) (u : UnitState) (l : Link) (k : SeenPaths) (p t c : ℕ) → k.answered < c → way_of k.ways t c ≡ Some p → Tied side u l k →
    HoldTook side u l k (record { path = p; signal = up.Back t c }) (Some (refusing l.hold p t c))
refused-line_took_up side u l k p t c above way tie new s =
    record {
      right = (way, above, refl);
      tied = hold-after side u l new k _ k.offered k.connected c tie s tie.offered tie.connected (answer-same l.hold.phase c) tie.hold_way tt (λ x a h. h);
    }

granted-line_took_up : (side : Side) (u : UnitState) (l : Link) (k : SeenPaths) (p t c : ℕ) (may : Bool) → k.answered < c → k.connected ≡ None → way_of k.ways t c ≡ Some p → Tied side u l k →
    HoldTook side u l k (record { path = p; signal = up.Back t c }) (if may then Some (granting l.hold p t c) else Some (refusing l.hold p t c))
granted-line_took_up side u l k p t c true above none way tie =
    λ new s. record { right = (way, above, (refl, none)); tied = hold-turns side u l new k _ k.offered (Some (linked t p c)) c tt tie s refl refl way way }
granted-line_took_up side u l k p t c false above none way tie = refused-line_took_up side u l k p t c above way tie

above-seen : (seen n c : ℕ) → seen ≡ n → nat_lt seen c ≡ true → n < c
above-seen seen n c e l = let lt : seen < c = ltb-true seen c l in omega (arith, e, lt)

back-line_took_up : (side : Side) (u : UnitState) (l : Link) (k : SeenPaths) (p t c : ℕ) (may : Bool) (phase : HoldPhase) → l.hold.phase ≡ phase → way_of k.ways t c ≡ Some p → Tied side u l k →
    HoldTook side u l k (record { path = p; signal = up.Back t c }) (asked_back l.hold phase p t c may)
back-line_took_up side u l k p t c may (hold.On v q d) e way tie =
    let x : OnPath Up = record { path = p; signal = up.Back t c } in
    if-line_took_up side u l k x ((t == v) && nat_lt l.hold.seen c) _ None
    (λ f.
    let both = and_parts (t == v) (nat_lt l.hold.seen c) f in
    let above : k.answered < c = above-seen l.hold.seen k.answered c (of-phase (λ y. IsAnswerTied y l.hold.seen k.answered) l (hold.On v q d) e tie.answered) both.1 in
    subst (λ (m : ℕ). HoldTook side u l k x (Some (refusing l.hold p m c))) (eqb-true t v both.0) (refused-line_took_up side u l k p t c above way tie))
    (ignored side u l k x way tie)
back-line_took_up side u l k p t c may (hold.Away v) e way tie =
    let x : OnPath Up = record { path = p; signal = up.Back t c } in
    if-line_took_up side u l k x ((t == v) && nat_lt l.hold.seen c) _ None
    (λ f.
    let both = and_parts (t == v) (nat_lt l.hold.seen c) f in
    let above : k.answered < c = above-seen l.hold.seen k.answered c (of-phase (λ y. IsAnswerTied y l.hold.seen k.answered) l (hold.Away v) e tie.answered) both.1 in
    subst (λ (m : ℕ). HoldTook side u l k x (if may then Some (granting l.hold p m c) else Some (refusing l.hold p m c))) (eqb-true t v both.0)
    (granted-line_took_up side u l k p t c may above (of-phase (λ y. IsPhaseTied y k.connected) l (hold.Away v) e tie.connected) way tie))
    (ignored side u l k x way tie)
back-line_took_up side u l k p t c may hold.Free e way tie = ignored side u l k (record { path = p; signal = up.Back t c }) way tie
back-line_took_up side u l k p t c may (hold.Offer v q) e way tie = ignored side u l k (record { path = p; signal = up.Back t c }) way tie
back-line_took_up side u l k p t c may (hold.Letting v q) e way tie = ignored side u l k (record { path = p; signal = up.Back t c }) way tie
back-line_took_up side u l k p t c may (hold.Reset r) e way tie = ignored side u l k (record { path = p; signal = up.Back t c }) way tie

-- Released, Cleared, Attn
released-line_took_up : (side : Side) (u : UnitState) (l : Link) (k : SeenPaths) (p t : ℕ) (phase : HoldPhase) → l.hold.phase ≡ phase → Tied side u l k →
    HoldTook side u l k (record { path = p; signal = up.Released t }) (released l.hold phase t)
released-line_took_up side u l k p t (hold.Letting v q) e tie =
    let x : OnPath Up = record { path = p; signal = up.Released t } in
    if-line_took_up side u l k x (t == v) _ None
    (λ f new s. record { right = (tt, tt, tt); tied = hold-turns side u l new k _ k.offered k.connected k.answered tt tie s (of-phase (λ y. IsPhaseTied y k.connected) l (hold.Letting v q) e tie.connected) tt tt tt })
    (ignored side u l k x tt tie)
released-line_took_up side u l k p t hold.Free e tie = ignored side u l k (record { path = p; signal = up.Released t }) tt tie
released-line_took_up side u l k p t (hold.Offer v q) e tie = ignored side u l k (record { path = p; signal = up.Released t }) tt tie
released-line_took_up side u l k p t (hold.On v q c) e tie = ignored side u l k (record { path = p; signal = up.Released t }) tt tie
released-line_took_up side u l k p t (hold.Away v) e tie = ignored side u l k (record { path = p; signal = up.Released t }) tt tie
released-line_took_up side u l k p t (hold.Reset r) e tie = ignored side u l k (record { path = p; signal = up.Released t }) tt tie

cleared-line_took_up : (side : Side) (u : UnitState) (l : Link) (k : SeenPaths) (p r : ℕ) (phase : HoldPhase) → Tied side u l k →
    HoldTook side u l k (record { path = p; signal = up.Cleared r }) (reset_cleared l.hold phase r)
cleared-line_took_up side u l k p r (hold.Reset v) tie =
    let x : OnPath Up = record { path = p; signal = up.Cleared r } in
    if-line_took_up side u l k x (r == v) _ None (λ f new s. record { right = (tt, tt, tt); tied = hold-turns side u l new k _ None None k.answered tt tie s refl tt tt tt }) (ignored side u l k x tt tie)
cleared-line_took_up side u l k p r hold.Free tie = ignored side u l k (record { path = p; signal = up.Cleared r }) tt tie
cleared-line_took_up side u l k p r (hold.Offer v q) tie = ignored side u l k (record { path = p; signal = up.Cleared r }) tt tie
cleared-line_took_up side u l k p r (hold.On v q c) tie = ignored side u l k (record { path = p; signal = up.Cleared r }) tt tie
cleared-line_took_up side u l k p r (hold.Away v) tie = ignored side u l k (record { path = p; signal = up.Cleared r }) tt tie
cleared-line_took_up side u l k p r (hold.Letting v q) tie = ignored side u l k (record { path = p; signal = up.Cleared r }) tt tie

attn-line_took_up : (side : Side) (u : UnitState) (l : Link) (k : SeenPaths) (x : OnPath Up) (a : ℕ) (may : Bool) (phase : HoldPhase) → IsUpTied k.ways l.hold.phase x.path x.signal →
    ArrivesRight k x.path x.signal → ComesRight k x.path x.signal → taken_up x k ≡ k → Tied side u l k → HoldTook side u l k x (attended l.hold phase x.path a may)
attn-line_took_up side u l k x a true hold.Free h arrived comes same tie = λ new s.
    record { right = (arrived, comes, refl); tied = subst (λ (y : SeenPaths). Tied side u new (sent_down (record { path = x.path; signal = down.Got a }) y)) (sym same) (hold-stays side u l new k _ tie s refl refl tt) }
attn-line_took_up side u l k x a false hold.Free h arrived comes same tie = ignored side u l k x arrived tie
attn-line_took_up side u l k x a may (hold.Offer v q) h arrived comes same tie = ignored side u l k x arrived tie
attn-line_took_up side u l k x a may (hold.On v q c) h arrived comes same tie = ignored side u l k x arrived tie
attn-line_took_up side u l k x a may (hold.Away v) h arrived comes same tie = ignored side u l k x arrived tie
attn-line_took_up side u l k x a may (hold.Letting v q) h arrived comes same tie = ignored side u l k x arrived tie
attn-line_took_up side u l k x a may (hold.Reset r) h arrived comes same tie = ignored side u l k x arrived tie

-- Notice
notice-line_took_up : (side : Side) (u : UnitState) (l new : Link) (k : SeenPaths) (p b : ℕ) (more : Bool) → Tied side u l k →
    LinkStep l (if more then reset_again l.drawn (record l.hold { known_restarts = b }) else still l.drawn l.hold) None new →
    Heard side u new k (record { path = p; signal = up.Notice b }) (outcome_of (if more then Some (hold_quietly (record l.hold { known_restarts = b })) else None)).taken
    (if more then reset_again l.drawn (record l.hold { known_restarts = b }) else still l.drawn l.hold).sent
notice-line_took_up side u l new k p b true tie s = record { right = (tt, tt, tt); tied = hold-turns side u l new k _ None None k.answered tt tie s tt tt tt tt }
notice-line_took_up side u l new k p b false tie s = record { right = (tt, refl); tied = hold-stays side u l new k (still l.drawn l.hold) tie s refl refl tt }

-- Data and End leave the hold
data-line_took_up : (side : Side) (u : UnitState) (l new : Link) (k : SeenPaths) (p t c n m : ℕ) (load : Load) (may b : Bool) → (is_connected l.hold.phase p t c && may) ≡ b → way_of k.ways t c ≡ Some p → Tied side u l k →
    LinkStep l (still l.drawn l.hold) None new → Heard side u new k (record { path = p; signal = up.Data load t c n m }) b None
data-line_took_up side u l new k p t c n m load may true e way tie s =
    record {
      right = (way, (on-connection l.hold.phase k.ways k.connected t p c (and_parts (is_connected l.hold.phase p t c) may e).0 tie.connected tie.hold_way).0, tt);
      tied = hold-stays side u l new k (still l.drawn l.hold) tie s refl refl tt;
    }
data-line_took_up side u l new k p t c n m load may false e way tie s = record { right = (way, refl); tied = hold-stays side u l new k (still l.drawn l.hold) tie s refl refl tt }

on-number : (phase : HoldPhase) (m : Option Connected) (t : ℕ) → is_on phase t ≡ true → IsPhaseTied phase m → IsNumber m t
on-number hold.Free m t e h = absurd (cc e)
on-number (hold.Offer v q) m t e h = absurd (cc e)
on-number (hold.On v q c) m t e h = subst (λ (x : Option Connected). IsNumber x t) (sym h) (sym (eqb-true t v e))
on-number (hold.Away v) m t e h = absurd (cc e)
on-number (hold.Letting v q) m t e h = absurd (cc e)
on-number (hold.Reset r) m t e h = absurd (cc e)

end-line_took_up : (side : Side) (u : UnitState) (l new : Link) (k : SeenPaths) (x : OnPath Up) (t : ℕ) (may b : Bool) → (is_on l.hold.phase t && may) ≡ b → ArrivesRight k x.path x.signal →
    (IsNumber k.connected t → ComesRight k x.path x.signal) → taken_up x k ≡ k → Tied side u l k → LinkStep l (still l.drawn l.hold) None new → Heard side u new k x b None
end-line_took_up side u l new k x t may true e arrived comes same tie s =
    record {
      right = (arrived, comes (on-number l.hold.phase k.connected t (and_parts (is_on l.hold.phase t) may e).0 tie.connected), tt);
      tied = subst (λ (y : SeenPaths). Tied side u new y) (sym same) (hold-stays side u l new k (still l.drawn l.hold) tie s refl refl tt);
    }
end-line_took_up side u l new k x t may false e arrived comes same tie s = record { right = (arrived, refl); tied = hold-stays side u l new k (still l.drawn l.hold) tie s refl refl tt }

pub takes-line_took_up : (side : Side) (u : UnitState) (l new : Link) (k : SeenPaths) (p : ℕ) (x : Up) (may : Bool) → IsUpTied k.ways l.hold.phase p x → Tied side u l k →
    LinkStep l (hold_taken l.drawn l.hold p x may) None new → Heard side u new k (record { path = p; signal = x }) (is_taken l.hold p x may) (hold_taken l.drawn l.hold p x may).sent
takes-line_took_up side u l new k p (up.Accept t) may h tie s = accept-line_took_up side u l k p t may l.hold.phase refl h tie new s
takes-line_took_up side u l new k p (up.Busy t) may h tie s = busy-line_took_up side u l k p t l.hold.phase refl tie new s
takes-line_took_up side u l new k p (up.Leave t c) may h tie s = leave-line_took_up side u l k p t c l.hold.phase refl h tie new s
takes-line_took_up side u l new k p (up.Back t c) may h tie s = back-line_took_up side u l k p t c may l.hold.phase refl h tie new s
takes-line_took_up side u l new k p (up.Data load t c n m) may h tie s = data-line_took_up side u l new k p t c n m load may (is_connected l.hold.phase p t c && may) refl h tie s
takes-line_took_up side u l new k p (up.End t n status more) may h tie s =
    end-line_took_up side u l new k (record { path = p; signal = up.End t n status more }) t may (is_on l.hold.phase t && may) refl tt (λ y. y) refl tie s
takes-line_took_up side u l new k p (up.Released t) may h tie s = released-line_took_up side u l k p t l.hold.phase refl tie new s
takes-line_took_up side u l new k p (up.Cleared r) may h tie s = cleared-line_took_up side u l k p r l.hold.phase tie new s
takes-line_took_up side u l new k p (up.Notice b) may h tie s = notice-line_took_up side u l new k p b (nat_lt l.hold.known_restarts b) tie s
takes-line_took_up side u l new k p (up.Attn a status) may h tie s = attn-line_took_up side u l k (record { path = p; signal = up.Attn a status }) a may l.hold.phase h tt tt refl tie new s
