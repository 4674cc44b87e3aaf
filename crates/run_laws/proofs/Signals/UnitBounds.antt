-- What the unit's steps leave of the signals between a subchannel and its unit.
use Rattle.std.proofs.Common.{◌≡◌, ◌≢◌, refl, sym, ◌∙◌, subst, ℕ, ◌<◌, ◌≤◌, Bool, Option, None, Some, List, slice_get, inl, inr, arith}
use Rattle.std.specs.Prelude.{◌⊎◌}
use Rattle.agreement_laws.specs.Invariant.{IsSelectGood}
use Rattle.chan_model.specs.declared.hold_state.HoldPhase.{HoldPhase}
use Rattle.chan_model.specs.declared.hold_state.HoldPhase.TheVariants as hold
use Rattle.chan_model.specs.declared.names.Side.{Side}
use Rattle.chan_model.specs.Signals.{Down, Up}
use Rattle.chan_model.specs.declared.signal.Down.TheVariants as down
use Rattle.chan_model.specs.declared.signal.OnPath.{OnPath}
use Rattle.chan_model.specs.declared.signal.Up.TheVariants as up
use Rattle.chan_model.specs.declared.unit_state.UnitState.{UnitState}
use Rattle.step_laws.proofs.Indices.{same-or-not}
use Rattle.wires.specs.Queues.{queue, taken}
use Rattle.subchannel_model.specs.Sending.{carried, with_any_sent}
use Rattle.agreement_laws.specs.PathsSeen.{Connected}
use Rattle.run_laws.proofs.Machine.WaitingSignals.{Each, each-front, each-weaker}
use Rattle.run_laws.proofs.Signals.Lists.{after-front, after-none, taken-others, OnSent}
use Rattle.run_laws.proofs.Signals.Ties.{linked, IsAt}
use Rattle.run_laws.proofs.Signals.UnitMoves.{on_side, floor_of, IsLess}
use Rattle.run_laws.proofs.Signals.UnitSends.{ArePlainUp, IsOfConnection, sends_up, Takes, Rests, Accepts, Joins, Answers, Acts, Idles, Leaves, Sends}
use Rattle.run_laws.proofs.Signals.Bounds.{IsUpBelow, IsDownBelow, IsOwnBelow, IsNot, IsLeave, IsNoLeave, IsGrant, IsNoGrant, IsGrantAt, IsOff_for, EachUp, EachDown, Tied, Parted, Joint, IsBound, each-taken, each-sent, after-sent, each-none, plain-not, not-at, not-leave, at-no-grant, below-not, below-no-grant, plain-below, up-below, down-below, no-grant-at}
use Rattle.run_laws.proofs.Signals.BoundSteps.{AreNot, tied-taken-down, tied-sent-up, tied-off, parted-sent-up, joint-taken-down, joint-sent-plain, bound-less}

-- a Select that is above the floor is that of the offer
abbrev pub IsSelectAt : HoldPhase → ℕ → ℕ → Down → Type 0
IsSelectAt phase f p (down.Select t) = IsSelectGood phase f p t
IsSelectAt phase f p d = Unit {0}

-- the unit's program is on the path of the hold, by its connection
abbrev pub IsPlaced : HoldPhase → Option Connected → Type 0
IsPlaced (hold.Offer t q) (Some k) = k.number ≡ t → (k.path ≡ q) × (k.connection ≡ 0)
IsPlaced (hold.On t q c) (Some k) = k.number ≡ t → (k.path ≡ q) × (k.connection ≡ c)
IsPlaced phase o = Unit {0}

plains-not : (t : ℕ) (one : Option (OnPath Up)) → ArePlainUp one → AreNot t one
plains-not t None a = tt
plains-not t (Some s) a = plain-not t s.signal a

plains-below : (f : ℕ) (one : Option (OnPath Up)) → ArePlainUp one → OnSent (λ p. IsUpBelow f) one
plains-below f None a = tt
plains-below f (Some s) a = plain-below f s.signal a

-- signals that say nothing of a connection
bound-plain : (phase : HoldPhase) (us : List (List Up)) (ds : List (List Down)) (side : Side) (u v : UnitState) (available : List Bool) (one : Option (OnPath Up)) → ArePlainUp one → IsLess u v side →
    IsBound phase us ds (floor_of u side) (on_side u.own side) → IsBound phase (with_any_sent us (carried available one)) ds (floor_of v side) (on_side v.own side)
bound-plain phase us ds side u v available one a l b =
    let x : IsBound phase us ds (floor_of v side) (on_side v.own side) = bound-less phase us ds side u v l b in
    record {
      above = each-sent (λ p. IsUpBelow (floor_of v side)) us available one (plains-below (floor_of v side) one a) x.above;
      below = x.below;
      own = x.own;
      joint = joint-sent-plain phase us ds (on_side v.own side) available one (λ t. plains-not t one a) x.joint;
    }

-- Accept
accept-ties : (t f p q : ℕ) (us : List (List Up)) (ds : List (List Down)) (available : List Bool) → f < t → p ≡ q → EachUp (λ r. IsUpBelow f) us → EachDown (λ r. IsDownBelow f) ds →
    Tied t q 0 (with_any_sent us (carried available (sends_up p (up.Accept t)))) ds (Some (linked t p 0))
accept-ties t f p q us ds available l path above below =
    let one : Option (OnPath Up) = sends_up p (up.Accept t) in
    let none : EachUp (λ r. IsNot t) us = λ r. each-weaker (IsUpBelow f) (IsNot t) (queue us r) (λ x k. below-not t f x l k) (above r) in
    let grants : EachDown (λ r. IsNoGrant t) ds = λ r. each-weaker (IsDownBelow f) (IsNoGrant t) (queue ds r) (λ d k. below-no-grant t f d l k) (below r) in
    let leaves : EachUp (λ r. IsNoLeave t) us = λ r. each-weaker (IsNot t) (IsNoLeave t) (queue us r) (not-leave t) (none r) in
    record {
      ups = each-sent (IsAt t q 0) us available one (λ e. path) (λ r. each-weaker (IsNot t) (IsAt t q 0 r) (queue us r) (not-at t q 0 r) (none r));
      order = after-sent (IsLeave t) (IsNot t) us available one (each-none (IsLeave t) (IsNot t (up.Accept t)) (queue us p) (leaves p))
          (λ r. after-none (IsLeave t) (IsNot t) (queue us r) (leaves r));
      downs = λ r. each-weaker (IsNoGrant t) (IsGrantAt t q 0 r) (queue ds r) (no-grant-at t q 0 r) (grants r);
      once = λ r. after-none (IsGrant t) (IsNoGrant t) (queue ds r) (grants r);
      grant = inl grants;
      leave = inl (each-sent (λ r. IsNoLeave t) us available one (λ e. e) leaves);
    }

accept-joint : (phase : HoldPhase) (t f p : ℕ) (us : List (List Up)) (ds : List (List Down)) (available : List Bool) → f < t → IsSelectGood phase f p t →
    EachUp (λ r. IsUpBelow f) us → EachDown (λ r. IsDownBelow f) ds →
    Joint phase (with_any_sent us (carried available (sends_up p (up.Accept t)))) ds (Some (linked t p 0))
accept-joint (hold.Offer u q) t f p us ds available l (inl e) above below = absurd (omega (arith, l, e))
accept-joint (hold.Offer u q) t f p us ds available l (inr e) above below =
    subst (λ (n : ℕ). Tied n q 0 (with_any_sent us (carried available (sends_up p (up.Accept t)))) ds (Some (linked t p 0))) (sym e.0)
    (accept-ties t f p q us ds available l (sym e.1) above below)
accept-joint (hold.On u q c) t f p us ds available l good above below = absurd (omega (arith, l, good))
accept-joint (hold.Away u) t f p us ds available l good above below = absurd (omega (arith, l, good))
accept-joint other t f p us ds available l good above below = tt

-- Grant: no other is left
no-grants : (t q c p : ℕ) (d : Down) (us : List (List Up)) (ds : List (List Down)) (o : Option Connected) → slice_get (queue ds p) 0 ≡ Some d → IsGrant t d → p ≡ q → Tied t q c us ds o →
    EachDown (λ r. IsNoGrant t) (taken ds p)
no-grants t q c p d us ds o front g path x =
    taken-others (λ r xs. Each (IsNoGrant t) xs) ds p (after-front (IsGrant t) (IsNoGrant t) (queue ds p) d (x.once p) front g)
    (λ r n. each-weaker (IsGrantAt t q c r) (IsNoGrant t) (queue ds r) (λ y a. at-no-grant t q c r y (λ e. n (e ∙ sym path)) a) (x.downs r))

join-ties : (u r d t c p q : ℕ) (us : List (List Up)) (ds : List (List Down)) (o : Option Connected) → slice_get (queue ds p) 0 ≡ Some (down.Grant t c) → Tied u r d us ds o →
    Tied u r d us (taken ds p) (Some (linked t q c))
join-ties u r d t c p q us ds o front x =
    let y : Tied u r d us (taken ds p) o = tied-taken-down u r d p us ds o x in
    elim (same-or-not t u) [
      | inl e ↦
          let at : (p ≡ r) × (c ≡ d) = each-front (IsGrantAt u r d p) (queue ds p) (down.Grant t c) (x.downs p) front e.0 in
          record {
            ups = y.ups;
            order = y.order;
            downs = y.downs;
            once = y.once;
            grant = inl (no-grants u r d p (down.Grant t c) us ds o front e.0 at.0 x);
            leave = elim x.grant [
              | inl g ↦ absurd (each-front (IsNoGrant u) (queue ds p) (down.Grant t c) (g p) front e.0)
              | inr g ↦ inl g.0
            ];
          }
      | inr n ↦ tied-off u r d us (taken ds p) o (Some (linked t q c)) (λ k. n.0) y
    ]

join-joint : (phase : HoldPhase) (t c p q : ℕ) (us : List (List Up)) (ds : List (List Down)) (o : Option Connected) → slice_get (queue ds p) 0 ≡ Some (down.Grant t c) → Joint phase us ds o →
    Joint phase us (taken ds p) (Some (linked t q c))
join-joint (hold.Offer u r) t c p q us ds o front x = join-ties u r 0 t c p q us ds o front x
join-joint (hold.On u r d) t c p q us ds o front x = join-ties u r d t c p q us ds o front x
join-joint (hold.Away u) t c p q us ds o front x = record {
  ups = x.ups;
  downs = each-taken (λ r. IsNoGrant u) ds p x.downs;
  off = λ e. each-front (IsNoGrant u) (queue ds p) (down.Grant t c) (x.downs p) front e;
}
join-joint other t c p q us ds o front x = tt

-- an older Grant is answered by Leave
answer-ties : (u r d t c p : ℕ) (us : List (List Up)) (ds : List (List Down)) (o : Option Connected) (available : List Bool) → slice_get (queue ds p) 0 ≡ Some (down.Grant t c) → Tied u r d us ds o →
    Tied u r d (with_any_sent us (carried available (sends_up p (up.Leave t c)))) (taken ds p) o
answer-ties u r d t c p us ds o available front x =
    let one : Option (OnPath Up) = sends_up p (up.Leave t c) in
    let y : Tied u r d us (taken ds p) o = tied-taken-down u r d p us ds o x in
    elim (same-or-not t u) [
      | inl e ↦
          let at : (p ≡ r) × (c ≡ d) = each-front (IsGrantAt u r d p) (queue ds p) (down.Grant t c) (x.downs p) front e.0 in
          let rest : EachUp (λ q. IsNoLeave u) us × IsOff_for u o = elim x.grant [
            | inl g ↦ absurd (each-front (IsNoGrant u) (queue ds p) (down.Grant t c) (g p) front e.0)
            | inr g ↦ g
          ] in
          record {
            ups = each-sent (IsAt u r d) us available one (λ h. at) x.ups;
            order = after-sent (IsLeave u) (IsNot u) us available one (each-none (IsLeave u) (IsNot u (up.Leave t c)) (queue us p) (rest.0 p)) x.order;
            downs = y.downs;
            once = y.once;
            grant = inl (no-grants u r d p (down.Grant t c) us ds o front e.0 at.0 x);
            leave = inr rest.1;
          }
      | inr n ↦ tied-sent-up u r d us (taken ds p) o available one n.0 y
    ]

answer-joint : (phase : HoldPhase) (t c p : ℕ) (us : List (List Up)) (ds : List (List Down)) (o : Option Connected) (available : List Bool) → slice_get (queue ds p) 0 ≡ Some (down.Grant t c) → Joint phase us ds o →
    Joint phase (with_any_sent us (carried available (sends_up p (up.Leave t c)))) (taken ds p) o
answer-joint (hold.Offer u r) t c p us ds o available front x = answer-ties u r 0 t c p us ds o available front x
answer-joint (hold.On u r d) t c p us ds o available front x = answer-ties u r d t c p us ds o available front x
answer-joint (hold.Away u) t c p us ds o available front x = record {
  ups = each-sent (λ r. IsNot u) us available (sends_up p (up.Leave t c)) (λ e. each-front (IsNoGrant u) (queue ds p) (down.Grant t c) (x.downs p) front e) x.ups;
  downs = each-taken (λ r. IsNoGrant u) ds p x.downs;
  off = x.off;
}
answer-joint other t c p us ds o available front x = tt

pub bound-takes : (phase : HoldPhase) (us : List (List Up)) (ds : List (List Down)) (side : Side) (u : UnitState) (p : ℕ) (d : Down) (one : Option (OnPath Up)) (v : UnitState) (available : List Bool) →
    Takes side u p d one v → slice_get (queue ds p) 0 ≡ Some d → IsSelectAt phase (floor_of u side) p d → IsBound phase us ds (floor_of u side) (on_side u.own side) →
    IsBound phase (with_any_sent us (carried available one)) (taken ds p) (floor_of v side) (on_side v.own side)
bound-takes phase us ds side u p _ _ _ available (Rests d one v plain less) front good b =
    bound-plain phase us (taken ds p) side u v available one plain less
    (record { above = b.above; below = each-taken (λ q. IsDownBelow (floor_of u side)) ds p b.below; own = b.own; joint = joint-taken-down phase p us ds (on_side u.own side) b.joint })
bound-takes phase us ds side u p _ _ _ available (Accepts t v above floor on) front good b =
    subst (λ (o : Option Connected). IsBound phase (with_any_sent us (carried available (sends_up p (up.Accept t)))) (taken ds p) (floor_of v side) o) (sym on)
    (subst (λ (f : ℕ). IsBound phase (with_any_sent us (carried available (sends_up p (up.Accept t)))) (taken ds p) f (Some (linked t p 0))) (sym floor)
    (record {
      above = each-sent (λ q. IsUpBelow t) us available (sends_up p (up.Accept t)) (omega arith) (λ q. each-weaker (IsUpBelow (floor_of u side)) (IsUpBelow t) (queue us q) (λ x k. up-below (floor_of u side) t x (omega (arith, above)) k) (b.above q));
      below = each-taken (λ q. IsDownBelow t) ds p (λ q. each-weaker (IsDownBelow (floor_of u side)) (IsDownBelow t) (queue ds q) (λ x k. down-below (floor_of u side) t x (omega (arith, above)) k) (b.below q));
      own = omega arith;
      joint = accept-joint phase t (floor_of u side) p us (taken ds p) available above good b.above (each-taken (λ q. IsDownBelow (floor_of u side)) ds p b.below);
    }))
bound-takes phase us ds side u p _ _ _ available (Joins t c q v floor on) front good b =
    subst (λ (o : Option Connected). IsBound phase us (taken ds p) (floor_of v side) o) (sym on)
    (subst (λ (f : ℕ). IsBound phase us (taken ds p) f (Some (linked t q c))) (sym floor)
    (record {
      above = b.above;
      below = each-taken (λ r. IsDownBelow (floor_of u side)) ds p b.below;
      own = each-front (IsDownBelow (floor_of u side)) (queue ds p) (down.Grant t c) (b.below p) front;
      joint = join-joint phase t c p q us ds (on_side u.own side) front b.joint;
    }))
bound-takes phase us ds side u p _ _ _ available (Answers t c) front good b =
    record {
      above = each-sent (λ r. IsUpBelow (floor_of u side)) us available (sends_up p (up.Leave t c)) (each-front (IsDownBelow (floor_of u side)) (queue ds p) (down.Grant t c) (b.below p) front) b.above;
      below = each-taken (λ r. IsDownBelow (floor_of u side)) ds p b.below;
      own = b.own;
      joint = answer-joint phase t c p us ds (on_side u.own side) available front b.joint;
    }

-- what the unit does of itself or for its device
on-off : (t n p c : ℕ) (o : Option Connected) → o ≡ Some (linked n p c) → n ≡ t → IsOff_for t o → ⊥
on-off t n p c o on e k = subst (IsOff_for t) on k e

placed-on : (t q d n p c : ℕ) (o : Option Connected) → o ≡ Some (linked n p c) → IsPlaced (hold.On t q d) o → n ≡ t → (p ≡ q) × (c ≡ d)
placed-on t q d n p c o on k e = subst (IsPlaced (hold.On t q d)) on k e

-- a signal of the program t and its connection
abbrev pub IsCarried : ℕ → ℕ → Up → Type 0
IsCarried t c (up.Data load u d n s) = (u ≡ t) × (d ≡ c)
IsCarried t c (up.End u n status more) = u ≡ t
IsCarried t c (up.Leave u d) = (u ≡ t) × (d ≡ c)
IsCarried t c x = ⊥

carried-at : (n c u r d p : ℕ) (x : Up) → IsCarried n c x → (n ≡ u → (p ≡ r) × (c ≡ d)) → IsAt u r d p x
carried-at n c u r d p (up.Accept t) k f = absurd k
carried-at n c u r d p (up.Busy t) k f = tt
carried-at n c u r d p (up.Leave t e) k f = λ h. let g = f (sym k.0 ∙ h) in (g.0, k.1 ∙ g.1)
carried-at n c u r d p (up.Back t e) k f = tt
carried-at n c u r d p (up.Data load t e m s) k f = λ h. let g = f (sym k.0 ∙ h) in (g.0, k.1 ∙ g.1)
carried-at n c u r d p (up.End t m status more) k f = λ h. (f (sym k ∙ h)).0
carried-at n c u r d p (up.Released t) k f = tt
carried-at n c u r d p (up.Cleared t) k f = tt
carried-at n c u r d p (up.Notice b) k f = tt
carried-at n c u r d p (up.Attn b status) k f = tt

carried-not : (n c u : ℕ) (x : Up) → IsCarried n c x → n ≢ u → IsNot u x
carried-not n c u (up.Accept t) k f = absurd k
carried-not n c u (up.Busy t) k f = tt
carried-not n c u (up.Leave t e) k f = λ h. f (sym k.0 ∙ h)
carried-not n c u (up.Back t e) k f = tt
carried-not n c u (up.Data load t e m s) k f = λ h. f (sym k.0 ∙ h)
carried-not n c u (up.End t m status more) k f = λ h. f (sym k ∙ h)
carried-not n c u (up.Released t) k f = tt
carried-not n c u (up.Cleared t) k f = tt
carried-not n c u (up.Notice b) k f = tt
carried-not n c u (up.Attn b status) k f = tt

carried-below : (n c f : ℕ) (x : Up) → IsCarried n c x → n ≤ f → IsUpBelow f x
carried-below n c f (up.Accept t) k l = absurd k
carried-below n c f (up.Busy t) k l = tt
carried-below n c f (up.Leave t e) k l = let h : t ≡ n = k.0 in omega (arith, h, l)
carried-below n c f (up.Back t e) k l = tt
carried-below n c f (up.Data load t e m s) k l = let h : t ≡ n = k.0 in omega (arith, h, l)
carried-below n c f (up.End t m status more) k l = omega (arith, k, l)
carried-below n c f (up.Released t) k l = tt
carried-below n c f (up.Cleared t) k l = tt
carried-below n c f (up.Notice b) k l = tt
carried-below n c f (up.Attn b status) k l = tt

of-carried : (t c : ℕ) (x : Up) → IsOfConnection t c x → IsCarried t c x
of-carried t c (up.Accept u) k = k
of-carried t c (up.Busy u) k = k
of-carried t c (up.Leave u d) k = absurd k
of-carried t c (up.Back u d) k = k
of-carried t c (up.Data load u d n s) k = k
of-carried t c (up.End u n status more) k = k
of-carried t c (up.Released u) k = k
of-carried t c (up.Cleared r) k = k
of-carried t c (up.Notice b) k = k
of-carried t c (up.Attn b status) k = k

of-no-leave : (t c u : ℕ) (x : Up) → IsOfConnection t c x → IsNoLeave u x
of-no-leave t c u (up.Accept v) k l = l
of-no-leave t c u (up.Busy v) k l = l
of-no-leave t c u (up.Leave v d) k l = k
of-no-leave t c u (up.Back v d) k l = l
of-no-leave t c u (up.Data load v d n s) k l = l
of-no-leave t c u (up.End v n status more) k l = l
of-no-leave t c u (up.Released v) k l = l
of-no-leave t c u (up.Cleared r) k l = l
of-no-leave t c u (up.Notice b) k l = l
of-no-leave t c u (up.Attn b status) k l = l

-- the unit's program stays connected after it, or it left
abbrev pub IsKeptOn : ℕ → Up → Option Connected → Option Connected → Type 0
IsKeptOn u x o p = (IsNoLeave u x × (p ≡ o)) ⊎ (p ≡ None)

kept-off : (u : ℕ) (x : Up) (o p : Option Connected) → IsKeptOn u x o p → IsOff_for u o → IsOff_for u p
kept-off u x o p (inl k) f = subst (IsOff_for u) (sym k.1) f
kept-off u x o p (inr k) f = subst (IsOff_for u) (sym k) tt

send-leave : (u : ℕ) (us : List (List Up)) (available : List Bool) (q : ℕ) (x : Up) (o p : Option Connected) → IsKeptOn u x o p → EachUp (λ r. IsNoLeave u) us →
    EachUp (λ r. IsNoLeave u) (with_any_sent us (carried available (sends_up q x))) ⊎ IsOff_for u p
send-leave u us available q x o p (inl k) none = inl (each-sent (λ r. IsNoLeave u) us available (sends_up q x) k.0 none)
send-leave u us available q x o p (inr k) none = inr (subst (IsOff_for u) (sym k) tt)

send-ties : (u r d n q c : ℕ) (x : Up) (us : List (List Up)) (ds : List (List Down)) (o p : Option Connected) (available : List Bool) → o ≡ Some (linked n q c) → IsCarried n c x →
    (n ≡ u → (q ≡ r) × (c ≡ d)) → IsKeptOn u x o p → Tied u r d us ds o → Tied u r d (with_any_sent us (carried available (sends_up q x))) ds p
send-ties u r d n q c x us ds o p available on carries at keeps y =
    elim (same-or-not n u) [
      | inl e ↦
          let leaves : EachUp (λ s. IsNoLeave u) us = elim y.leave [
            | inl l ↦ l
            | inr l ↦ absurd (on-off u n q c o on e.0 l)
          ] in
          record {
            ups = each-sent (IsAt u r d) us available (sends_up q x) (carried-at n c u r d q x carries at) y.ups;
            order = after-sent (IsLeave u) (IsNot u) us available (sends_up q x) (each-none (IsLeave u) (IsNot u x) (queue us q) (leaves q)) y.order;
            downs = y.downs;
            once = y.once;
            grant = elim y.grant [
              | inl g ↦ inl g
              | inr g ↦ absurd (on-off u n q c o on e.0 g.1)
            ];
            leave = send-leave u us available q x o p keeps leaves;
          }
      | inr m ↦ tied-off u r d (with_any_sent us (carried available (sends_up q x))) ds o p (kept-off u x o p keeps)
          (tied-sent-up u r d us ds o available (sends_up q x) (carried-not n c u x carries m.0) y)
    ]

send-joint : (phase : HoldPhase) (n q c : ℕ) (x : Up) (us : List (List Up)) (ds : List (List Down)) (o p : Option Connected) (available : List Bool) → o ≡ Some (linked n q c) → IsCarried n c x →
    IsPlaced phase o → ((u : ℕ) → IsKeptOn u x o p) → Joint phase us ds o → Joint phase (with_any_sent us (carried available (sends_up q x))) ds p
send-joint (hold.Offer u r) n q c x us ds o p available on carries placed keeps j =
    send-ties u r 0 n q c x us ds o p available on carries (λ e. subst (IsPlaced (hold.Offer u r)) on placed e) (keeps u) j
send-joint (hold.On u r d) n q c x us ds o p available on carries placed keeps j =
    send-ties u r d n q c x us ds o p available on carries (placed-on u r d n q c o on placed) (keeps u) j
send-joint (hold.Away u) n q c x us ds o p available on carries placed keeps j =
    let y : Parted u (with_any_sent us (carried available (sends_up q x))) ds o =
    parted-sent-up u us ds o available (sends_up q x) (carried-not n c u x carries (λ e. on-off u n q c o on e j.off)) j in
    record { ups = y.ups; downs = y.downs; off = kept-off u x o p (keeps u) y.off }
send-joint other n q c x us ds o p available on carries placed keeps j = tt

send-bound : (phase : HoldPhase) (us : List (List Up)) (ds : List (List Down)) (f n q c : ℕ) (x : Up) (o p : Option Connected) (available : List Bool) → o ≡ Some (linked n q c) → IsCarried n c x →
    IsPlaced phase o → ((u : ℕ) → IsKeptOn u x o p) → IsOwnBelow f p → IsBound phase us ds f o → IsBound phase (with_any_sent us (carried available (sends_up q x))) ds f p
send-bound phase us ds f n q c x o p available on carries placed keeps own b = record {
  above = each-sent (λ r. IsUpBelow f) us available (sends_up q x) (carried-below n c f x carries (subst (IsOwnBelow f) on b.own)) b.above;
  below = b.below;
  own = own;
  joint = send-joint phase n q c x us ds o p available on carries placed keeps b.joint;
}

pub bound-acts : (phase : HoldPhase) (us : List (List Up)) (ds : List (List Down)) (side : Side) (u : UnitState) (one : Option (OnPath Up)) (v : UnitState) (available : List Bool) →
    Acts side u one v → IsPlaced phase (on_side u.own side) → IsBound phase us ds (floor_of u side) (on_side u.own side) →
    IsBound phase (with_any_sent us (carried available one)) ds (floor_of v side) (on_side v.own side)
bound-acts phase us ds side u _ _ available (Idles one v plain less) placed b = bound-plain phase us ds side u v available one plain less b
bound-acts phase us ds side u _ _ available (Leaves t p c v on floor off) placed b =
    subst (λ (f : ℕ). IsBound phase (with_any_sent us (carried available (sends_up p (up.Leave t c)))) ds f (on_side v.own side)) (sym floor)
    (send-bound phase us ds (floor_of u side) t p c (up.Leave t c) (on_side u.own side) (on_side v.own side) available on (refl, refl) placed (λ n. inr off)
    (subst (IsOwnBelow (floor_of u side)) (sym off) tt) b)
bound-acts phase us ds side u _ _ available (Sends t p c x v of on floor same) placed b =
    subst (λ (f : ℕ). IsBound phase (with_any_sent us (carried available (sends_up p x))) ds f (on_side v.own side)) (sym floor)
    (send-bound phase us ds (floor_of u side) t p c x (on_side u.own side) (on_side v.own side) available on (of-carried t c x of) placed (λ n. inl (of-no-leave t c n x of, same))
    (subst (IsOwnBelow (floor_of u side)) (sym same) b.own) b)
