-- Signals between a subchannel and its unit stay so bound as signals are taken, lost or sent, and as the hold meets one.
use Rattle.std.proofs.Common.{◌≡◌, refl, sym, ◌∙◌, subst, ℕ, ◌<◌, ◌≤◌, Bool, Option, None, Some, List, slice_get, inl, inr, arith}
use Rattle.chan_model.specs.declared.hold_state.HoldPhase.{HoldPhase}
use Rattle.chan_model.specs.declared.hold_state.HoldPhase.TheVariants as hold
use Rattle.chan_model.specs.declared.names.Side.{Side}
use Rattle.chan_model.specs.Signals.{Down, Up}
use Rattle.chan_model.specs.declared.signal.Down.TheVariants as down
use Rattle.chan_model.specs.declared.signal.OnPath.{OnPath}
use Rattle.chan_model.specs.declared.signal.Up.TheVariants as up
use Rattle.chan_model.specs.declared.unit_state.UnitState.{UnitState}
use Rattle.wires.specs.Queues.{queue, taken, lost}
use Rattle.subchannel_model.specs.Sending.{carried, with_any_sent}
use Rattle.agreement_laws.specs.PathsSeen.{Connected}
use Rattle.run_laws.proofs.Machine.WaitingSignals.{Each, each-front, each-weaker}
use Rattle.run_laws.proofs.Signals.Lists.{after-front, after-none, taken-others, OnSent}
use Rattle.run_laws.proofs.Signals.Meets.{Meets, Ignored, Turns, Begins, Declines, Moves, Ends, Ends_last, Grants, IsGone, Stays}
use Rattle.run_laws.proofs.Signals.Meets as meet
use Rattle.run_laws.proofs.Signals.Ties.{IsAt, SuitsPhase}
use Rattle.run_laws.proofs.Signals.UnitMoves.{on_side, IsOff, floor_of, IsLess}
use Rattle.run_laws.proofs.Signals.Bounds.{IsUpBelow, IsDownBelow, IsOwnBelow, IsNot, IsLeave, IsNoLeave, IsGrant, IsNoGrant, IsGrantAt, IsOff_for, EachUp, EachDown, Tied, Parted, Joint, IsBound, each-taken, after-taken, each-lost, after-lost, on-sent, each-sent, after-sent, each-to, each-none, not-at, not-leave, at-not, below-not, below-no-grant, up-below, down-below, IsOtherDown, other-no-grant, no-grant-at, other-below, AreOtherDowns, plain-others, commands-other, data-others}

-- a program that is tied stays so as signals are taken, lost, or sent that say nothing of its connection
tied-taken-up : (t q c k : ℕ) (us : List (List Up)) (ds : List (List Down)) (o : Option Connected) → Tied t q c us ds o → Tied t q c (taken us k) ds o
tied-taken-up t q c k us ds o x = record {
  ups = each-taken (IsAt t q c) us k x.ups;
  order = after-taken (IsLeave t) (IsNot t) us k x.order;
  downs = x.downs;
  once = x.once;
  grant = elim x.grant [
    | inl g ↦ inl g
    | inr g ↦ inr (each-taken (λ p. IsNoLeave t) us k g.0, g.1)
  ];
  leave = elim x.leave [
    | inl l ↦ inl (each-taken (λ p. IsNoLeave t) us k l)
    | inr l ↦ inr l
  ];
}

pub tied-taken-down : (t q c k : ℕ) (us : List (List Up)) (ds : List (List Down)) (o : Option Connected) → Tied t q c us ds o → Tied t q c us (taken ds k) o
tied-taken-down t q c k us ds o x = record {
  ups = x.ups;
  order = x.order;
  downs = each-taken (IsGrantAt t q c) ds k x.downs;
  once = after-taken (IsGrant t) (IsNoGrant t) ds k x.once;
  grant = elim x.grant [
    | inl g ↦ inl (each-taken (λ p. IsNoGrant t) ds k g)
    | inr g ↦ inr g
  ];
  leave = x.leave;
}

tied-lost : (t q c k : ℕ) (us : List (List Up)) (ds : List (List Down)) (o : Option Connected) → Tied t q c us ds o → Tied t q c (lost us k) (lost ds k) o
tied-lost t q c k us ds o x = record {
  ups = each-lost (IsAt t q c) us k x.ups;
  order = after-lost (IsLeave t) (IsNot t) us k x.order;
  downs = each-lost (IsGrantAt t q c) ds k x.downs;
  once = after-lost (IsGrant t) (IsNoGrant t) ds k x.once;
  grant = elim x.grant [
    | inl g ↦ inl (each-lost (λ p. IsNoGrant t) ds k g)
    | inr g ↦ inr (each-lost (λ p. IsNoLeave t) us k g.0, g.1)
  ];
  leave = elim x.leave [
    | inl l ↦ inl (each-lost (λ p. IsNoLeave t) us k l)
    | inr l ↦ inr l
  ];
}

tied-sent-down : (t q c : ℕ) (us : List (List Up)) (ds : List (List Down)) (o : Option Connected) (available : List Bool) (one : Option (OnPath Down)) → AreOtherDowns one →
    Tied t q c us ds o → Tied t q c us (with_any_sent ds (carried available one)) o
tied-sent-down t q c us ds o available one a x = record {
  ups = x.ups;
  order = x.order;
  downs = each-sent (IsGrantAt t q c) ds available one
      (on-sent (λ p. IsOtherDown) (IsGrantAt t q c) one (λ p d k. no-grant-at t q c p d (other-no-grant t d k)) a) x.downs;
  once = after-sent (IsGrant t) (IsNoGrant t) ds available one
      (on-sent (λ p. IsOtherDown) (λ p d. Each (λ y. IsGrant t y → IsNoGrant t d) (queue ds p)) one
      (λ p d k. each-to (IsGrant t) (IsNoGrant t d) (queue ds p) (other-no-grant t d k)) a) x.once;
  grant = elim x.grant [
    | inl g ↦ inl (each-sent (λ p. IsNoGrant t) ds available one (on-sent (λ p. IsOtherDown) (λ p. IsNoGrant t) one (λ p d k. other-no-grant t d k) a) g)
    | inr g ↦ inr g
  ];
  leave = x.leave;
}

abbrev pub AreNot : ℕ → Option (OnPath Up) → Type 0
AreNot t one = OnSent (λ p. IsNot t) one

pub tied-sent-up : (t q c : ℕ) (us : List (List Up)) (ds : List (List Down)) (o : Option Connected) (available : List Bool) (one : Option (OnPath Up)) → AreNot t one →
    Tied t q c us ds o → Tied t q c (with_any_sent us (carried available one)) ds o
tied-sent-up t q c us ds o available one a x = record {
  ups = each-sent (IsAt t q c) us available one (on-sent (λ p. IsNot t) (IsAt t q c) one (λ p y k. not-at t q c p y k) a) x.ups;
  order = after-sent (IsLeave t) (IsNot t) us available one
      (on-sent (λ p. IsNot t) (λ p y. Each (λ z. IsLeave t z → IsNot t y) (queue us p)) one (λ p y k. each-to (IsLeave t) (IsNot t y) (queue us p) k) a) x.order;
  downs = x.downs;
  once = x.once;
  grant = elim x.grant [
    | inl g ↦ inl g
    | inr g ↦ inr (each-sent (λ p. IsNoLeave t) us available one (on-sent (λ p. IsNot t) (λ p. IsNoLeave t) one (λ p y k. not-leave t y k) a) g.0, g.1)
  ];
  leave = elim x.leave [
    | inl l ↦ inl (each-sent (λ p. IsNoLeave t) us available one (on-sent (λ p. IsNot t) (λ p. IsNoLeave t) one (λ p y k. not-leave t y k) a) l)
    | inr l ↦ inr l
  ];
}

-- where the unit's program is, or is no more
pub off-less : (t : ℕ) (o p : Option Connected) → IsOff o p → IsOff_for t o → IsOff_for t p
off-less t o p (inl e) k = subst (IsOff_for t) (sym e) k
off-less t o p (inr e) k = subst (IsOff_for t) (sym e) tt

pub tied-off : (t q c : ℕ) (us : List (List Up)) (ds : List (List Down)) (o p : Option Connected) → (IsOff_for t o → IsOff_for t p) → Tied t q c us ds o → Tied t q c us ds p
tied-off t q c us ds o p f x = record {
  ups = x.ups;
  order = x.order;
  downs = x.downs;
  once = x.once;
  grant = elim x.grant [
    | inl g ↦ inl g
    | inr g ↦ inr (g.0, f g.1)
  ];
  leave = elim x.leave [
    | inl l ↦ inl l
    | inr l ↦ inr (f l)
  ];
}

parted-taken-up : (t k : ℕ) (us : List (List Up)) (ds : List (List Down)) (o : Option Connected) → Parted t us ds o → Parted t (taken us k) ds o
parted-taken-up t k us ds o x = record { ups = each-taken (λ p. IsNot t) us k x.ups; downs = x.downs; off = x.off }

pub parted-sent-up : (t : ℕ) (us : List (List Up)) (ds : List (List Down)) (o : Option Connected) (available : List Bool) (one : Option (OnPath Up)) → AreNot t one →
    Parted t us ds o → Parted t (with_any_sent us (carried available one)) ds o
parted-sent-up t us ds o available one a x = record { ups = each-sent (λ p. IsNot t) us available one a x.ups; downs = x.downs; off = x.off }

-- by the phase of the hold
pub joint-taken-up : (phase : HoldPhase) (k : ℕ) (us : List (List Up)) (ds : List (List Down)) (o : Option Connected) → Joint phase us ds o → Joint phase (taken us k) ds o
joint-taken-up (hold.Offer t q) k us ds o x = tied-taken-up t q 0 k us ds o x
joint-taken-up (hold.On t q c) k us ds o x = tied-taken-up t q c k us ds o x
joint-taken-up (hold.Away t) k us ds o x = parted-taken-up t k us ds o x
joint-taken-up other k us ds o x = tt

pub joint-taken-down : (phase : HoldPhase) (k : ℕ) (us : List (List Up)) (ds : List (List Down)) (o : Option Connected) → Joint phase us ds o → Joint phase us (taken ds k) o
joint-taken-down (hold.Offer t q) k us ds o x = tied-taken-down t q 0 k us ds o x
joint-taken-down (hold.On t q c) k us ds o x = tied-taken-down t q c k us ds o x
joint-taken-down (hold.Away t) k us ds o x = record { ups = x.ups; downs = each-taken (λ p. IsNoGrant t) ds k x.downs; off = x.off }
joint-taken-down other k us ds o x = tt

joint-lost : (phase : HoldPhase) (k : ℕ) (us : List (List Up)) (ds : List (List Down)) (o : Option Connected) → Joint phase us ds o → Joint phase (lost us k) (lost ds k) o
joint-lost (hold.Offer t q) k us ds o x = tied-lost t q 0 k us ds o x
joint-lost (hold.On t q c) k us ds o x = tied-lost t q c k us ds o x
joint-lost (hold.Away t) k us ds o x = record { ups = each-lost (λ p. IsNot t) us k x.ups; downs = each-lost (λ p. IsNoGrant t) ds k x.downs; off = x.off }
joint-lost other k us ds o x = tt

joint-sent-down : (phase : HoldPhase) (us : List (List Up)) (ds : List (List Down)) (o : Option Connected) (available : List Bool) (one : Option (OnPath Down)) → AreOtherDowns one →
    Joint phase us ds o → Joint phase us (with_any_sent ds (carried available one)) o
joint-sent-down (hold.Offer t q) us ds o available one a x = tied-sent-down t q 0 us ds o available one a x
joint-sent-down (hold.On t q c) us ds o available one a x = tied-sent-down t q c us ds o available one a x
joint-sent-down (hold.Away t) us ds o available one a x = record {
  ups = x.ups;
  downs = each-sent (λ p. IsNoGrant t) ds available one (on-sent (λ p. IsOtherDown) (λ p. IsNoGrant t) one (λ p d k. other-no-grant t d k) a) x.downs;
  off = x.off;
}
joint-sent-down other us ds o available one a x = tt

pub joint-sent-plain : (phase : HoldPhase) (us : List (List Up)) (ds : List (List Down)) (o : Option Connected) (available : List Bool) (one : Option (OnPath Up)) →
    ((t : ℕ) → AreNot t one) → Joint phase us ds o → Joint phase (with_any_sent us (carried available one)) ds o
joint-sent-plain (hold.Offer t q) us ds o available one a x = tied-sent-up t q 0 us ds o available one (a t) x
joint-sent-plain (hold.On t q c) us ds o available one a x = tied-sent-up t q c us ds o available one (a t) x
joint-sent-plain (hold.Away t) us ds o available one a x = parted-sent-up t us ds o available one (a t) x
joint-sent-plain other us ds o available one a x = tt

pub joint-off : (phase : HoldPhase) (us : List (List Up)) (ds : List (List Down)) (o p : Option Connected) → IsOff o p → Joint phase us ds o → Joint phase us ds p
joint-off (hold.Offer t q) us ds o p f x = tied-off t q 0 us ds o p (off-less t o p f) x
joint-off (hold.On t q c) us ds o p f x = tied-off t q c us ds o p (off-less t o p f) x
joint-off (hold.Away t) us ds o p f x = record { ups = x.ups; downs = x.downs; off = off-less t o p f x.off }
joint-off other us ds o p f x = tt

joint-gone : (phase : HoldPhase) (us : List (List Up)) (ds : List (List Down)) (o : Option Connected) → IsGone phase → Joint phase us ds o
joint-gone (hold.Offer t q) us ds o g = absurd g
joint-gone (hold.On t q c) us ds o g = absurd g
joint-gone (hold.Away t) us ds o g = absurd g
joint-gone other us ds o g = tt

joint-stays : (phase next : HoldPhase) (us : List (List Up)) (ds : List (List Down)) (o : Option Connected) → Stays phase next → Joint phase us ds o → Joint next us ds o
joint-stays phase next us ds o (inl e) x = subst (λ (y : HoldPhase). Joint y us ds o) (sym e) x
joint-stays phase next us ds o (inr g) x = joint-gone next us ds o g

-- it leaves its path, and comes back
leave-parts : (t q c p d : ℕ) (us : List (List Up)) (ds : List (List Down)) (o : Option Connected) → slice_get (queue us p) 0 ≡ Some (up.Leave t d) → Tied t q c us ds o →
    Parted t (taken us p) ds o
leave-parts t q c p d us ds o front x =
    let path : p ≡ q = (each-front (IsAt t q c p) (queue us p) (up.Leave t d) (x.ups p) front refl).0 in
    record {
      ups = taken-others (λ r xs. Each (IsNot t) xs) us p (after-front (IsLeave t) (IsNot t) (queue us p) (up.Leave t d) (x.order p) front refl)
          (λ r n. each-weaker (IsAt t q c r) (IsNot t) (queue us r) (λ y a. at-not t q c r y (λ e. n (e ∙ sym path)) a) (x.ups r));
      downs = elim x.grant [
        | inl g ↦ g
        | inr g ↦ absurd (each-front (IsNoLeave t) (queue us p) (up.Leave t d) (g.0 p) front refl)
      ];
      off = elim x.leave [
        | inl l ↦ absurd (each-front (IsNoLeave t) (queue us p) (up.Leave t d) (l p) front refl)
        | inr l ↦ l
      ];
    }

parted-no-leave : (t : ℕ) (us : List (List Up)) (ds : List (List Down)) (o : Option Connected) → Parted t us ds o → EachUp (λ p. IsNoLeave t) us
parted-no-leave t us ds o x p = each-weaker (IsNot t) (IsNoLeave t) (queue us p) (not-leave t) (x.ups p)

grant-ties : (t p c : ℕ) (us : List (List Up)) (ds : List (List Down)) (o : Option Connected) (available : List Bool) → Parted t us ds o →
    Tied t p c us (with_any_sent ds (carried available (Some (record { path = p; signal = down.Grant t c })))) o
grant-ties t p c us ds o available x =
    let one : Option (OnPath Down) = Some (record { path = p; signal = down.Grant t c }) in
    record {
      ups = λ r. each-weaker (IsNot t) (IsAt t p c r) (queue us r) (not-at t p c r) (x.ups r);
      order = λ r. after-none (IsLeave t) (IsNot t) (queue us r) (parted-no-leave t us ds o x r);
      downs = each-sent (IsGrantAt t p c) ds available one (λ e. (refl, refl)) (λ r. each-weaker (IsNoGrant t) (IsGrantAt t p c r) (queue ds r) (no-grant-at t p c r) (x.downs r));
      once = after-sent (IsGrant t) (IsNoGrant t) ds available one (each-none (IsGrant t) (IsNoGrant t (down.Grant t c)) (queue ds p) (x.downs p))
          (λ r. after-none (IsGrant t) (IsNoGrant t) (queue ds r) (x.downs r));
      grant = inr (parted-no-leave t us ds o x, x.off);
      leave = inl (parted-no-leave t us ds o x);
    }

-- a Back is not of a number above the floor
abbrev pub IsBackBelow : ℕ → Up → Type 0
IsBackBelow f (up.Back t c) = t ≤ f
IsBackBelow f x = Unit {0}

below-others : (f : ℕ) (one : Option (OnPath Down)) → AreOtherDowns one → OnSent (λ p. IsDownBelow f) one
below-others f one a = on-sent (λ p. IsOtherDown) (λ p. IsDownBelow f) one (λ p d k. other-below f d k) a

met-below : (p f : ℕ) (x : Up) (phase : HoldPhase) (taken : Bool) (sent : Option (OnPath Down)) (next : HoldPhase) → Meets p x phase taken sent next → IsBackBelow f x →
    OnSent (λ p. IsDownBelow f) sent
met-below p f _ _ _ _ _ (Turns x phase next sent plain stays quiet) b = below-others f sent (plain-others sent quiet)
met-below p f _ _ _ _ _ (Begins t q sent commands) b = below-others f sent (commands-other t q sent commands)
met-below p f _ _ _ _ _ (Moves t c n s load sent answers) b = below-others f sent (data-others t p c sent answers)
met-below p f _ _ _ _ _ (Ends x t q c sent commands) b = below-others f sent (commands-other t p sent commands)
met-below p f _ _ _ _ _ (Grants t c) b = b
met-below p f _ _ _ _ _ other b = tt

met-joint : (p : ℕ) (x : Up) (phase : HoldPhase) (outcome : Bool) (sent : Option (OnPath Down)) (next : HoldPhase) (us : List (List Up)) (ds : List (List Down)) (o : Option Connected)
    (available : List Bool) → Meets p x phase outcome sent next → slice_get (queue us p) 0 ≡ Some x → Joint phase us ds o → Joint next (taken us p) (with_any_sent ds (carried available sent)) o
met-joint p _ _ _ _ _ us ds o available (Ignored x phase) front j = joint-taken-up phase p us ds o j
met-joint p _ _ _ _ _ us ds o available (Turns x phase next sent plain stays quiet) front j =
    joint-stays phase next (taken us p) (with_any_sent ds (carried available sent)) o stays
    (joint-sent-down phase (taken us p) ds o available sent (plain-others sent quiet) (joint-taken-up phase p us ds o j))
met-joint p _ _ _ _ _ us ds o available (Begins t q sent commands) front j =
    tied-sent-down t q 0 (taken us p) ds o available sent (commands-other t q sent commands) (tied-taken-up t q 0 p us ds o j)
met-joint p _ _ _ _ _ us ds o available (Declines t q) front j = tt
met-joint p _ _ _ _ _ us ds o available (Moves t c n s load sent answers) front j =
    tied-sent-down t p c (taken us p) ds o available sent (data-others t p c sent answers) (tied-taken-up t p c p us ds o j)
met-joint p _ _ _ _ _ us ds o available (Ends x t q c sent commands) front j =
    tied-sent-down t q c (taken us p) ds o available sent (commands-other t p sent commands) (tied-taken-up t q c p us ds o j)
met-joint p _ _ _ _ _ us ds o available (Ends_last x t q c) front j = tt
met-joint p _ _ _ _ _ us ds o available (meet.Leaves t q c) front j = leave-parts t q c p c us ds o front j
met-joint p _ _ _ _ _ us ds o available (Grants t c) front j = grant-ties t p c (taken us p) ds o available (parted-taken-up t p us ds o j)

pub bound-met : (p : ℕ) (x : Up) (phase : HoldPhase) (outcome : Bool) (sent : Option (OnPath Down)) (next : HoldPhase) (us : List (List Up)) (ds : List (List Down)) (f : ℕ) (o : Option Connected)
    (available : List Bool) → Meets p x phase outcome sent next → slice_get (queue us p) 0 ≡ Some x → IsBackBelow f x → IsBound phase us ds f o →
    IsBound next (taken us p) (with_any_sent ds (carried available sent)) f o
bound-met p x phase outcome sent next us ds f o available m front back b = record {
  above = each-taken (λ q. IsUpBelow f) us p b.above;
  below = each-sent (λ q. IsDownBelow f) ds available sent (met-below p f x phase outcome sent next m back) b.below;
  own = b.own;
  joint = met-joint p x phase outcome sent next us ds o available m front b.joint;
}

-- the front of a wire up suits the hold
pub suits-phase : (phase : HoldPhase) (us : List (List Up)) (ds : List (List Down)) (o : Option Connected) (p : ℕ) (x : Up) → slice_get (queue us p) 0 ≡ Some x → Joint phase us ds o → SuitsPhase phase p x
suits-phase (hold.Offer t q) us ds o p x front j = each-front (IsAt t q 0 p) (queue us p) x (j.ups p) front
suits-phase (hold.On t q c) us ds o p x front j = each-front (IsAt t q c p) (queue us p) x (j.ups p) front
suits-phase other us ds o p x front j = tt

-- the hold alone changes, and perhaps a signal is sent
pub bound-quiet : (phase next : HoldPhase) (us : List (List Up)) (ds : List (List Down)) (f : ℕ) (o : Option Connected) (available : List Bool) (one : Option (OnPath Down)) → AreOtherDowns one →
    Stays phase next → IsBound phase us ds f o → IsBound next us (with_any_sent ds (carried available one)) f o
bound-quiet phase next us ds f o available one a stays b = record {
  above = b.above;
  below = each-sent (λ q. IsDownBelow f) ds available one (below-others f one a) b.below;
  own = b.own;
  joint = joint-stays phase next us (with_any_sent ds (carried available one)) o stays (joint-sent-down phase us ds o available one a b.joint);
}

pub bound-lost : (phase next : HoldPhase) (us : List (List Up)) (ds : List (List Down)) (f : ℕ) (o : Option Connected) (k : ℕ) → Stays phase next → IsBound phase us ds f o →
    IsBound next (lost us k) (lost ds k) f o
bound-lost phase next us ds f o k stays b = record {
  above = each-lost (λ q. IsUpBelow f) us k b.above;
  below = each-lost (λ q. IsDownBelow f) ds k b.below;
  own = b.own;
  joint = joint-stays phase next (lost us k) (lost ds k) o stays (joint-lost phase k us ds o b.joint);
}

pub bound-offered : (phase : HoldPhase) (us : List (List Up)) (ds : List (List Down)) (f t q : ℕ) (o : Option Connected) (available : List Bool) (one : Option (OnPath Down)) → f < t →
    AreOtherDowns one → IsBound phase us ds f o → IsBound (hold.Offer t q) us (with_any_sent ds (carried available one)) f o
bound-offered phase us ds f t q o available one l a b =
    let none : EachUp (λ p. IsNot t) us = λ p. each-weaker (IsUpBelow f) (IsNot t) (queue us p) (λ x k. below-not t f x l k) (b.above p) in
    let grants : EachDown (λ p. IsNoGrant t) ds = λ p. each-weaker (IsDownBelow f) (IsNoGrant t) (queue ds p) (λ d k. below-no-grant t f d l k) (b.below p) in
    let leaves : EachUp (λ p. IsNoLeave t) us = λ p. each-weaker (IsNot t) (IsNoLeave t) (queue us p) (not-leave t) (none p) in
    record {
      above = b.above;
      below = each-sent (λ q. IsDownBelow f) ds available one (below-others f one a) b.below;
      own = b.own;
      joint = tied-sent-down t q 0 us ds o available one a
          (record {
            ups = λ p. each-weaker (IsNot t) (IsAt t q 0 p) (queue us p) (not-at t q 0 p) (none p);
            order = λ p. after-none (IsLeave t) (IsNot t) (queue us p) (leaves p);
            downs = λ p. each-weaker (IsNoGrant t) (IsGrantAt t q 0 p) (queue ds p) (no-grant-at t q 0 p) (grants p);
            once = λ p. after-none (IsGrant t) (IsNoGrant t) (queue ds p) (grants p);
            grant = inl grants;
            leave = inl leaves;
          });
    }

-- the unit is seen otherwise, with no more connected
pub own-less : (f g : ℕ) (o p : Option Connected) → f ≤ g → IsOff o p → IsOwnBelow f o → IsOwnBelow g p
own-less f g None p l (inl e) b = subst (IsOwnBelow g) (sym e) tt
own-less f g (Some k) p l (inl e) b = subst (IsOwnBelow g) (sym e) (let n : k.number ≤ f = b in omega (arith, l, n))
own-less f g o p l (inr e) b = subst (IsOwnBelow g) (sym e) tt

pub bound-less : (phase : HoldPhase) (us : List (List Up)) (ds : List (List Down)) (side : Side) (u v : UnitState) → IsLess u v side →
    IsBound phase us ds (floor_of u side) (on_side u.own side) → IsBound phase us ds (floor_of v side) (on_side v.own side)
bound-less phase us ds side u v l b = record {
  above = λ p. each-weaker (IsUpBelow (floor_of u side)) (IsUpBelow (floor_of v side)) (queue us p) (λ x k. up-below (floor_of u side) (floor_of v side) x l.floor k) (b.above p);
  below = λ p. each-weaker (IsDownBelow (floor_of u side)) (IsDownBelow (floor_of v side)) (queue ds p) (λ x k. down-below (floor_of u side) (floor_of v side) x l.floor k) (b.below p);
  own = own-less (floor_of u side) (floor_of v side) (on_side u.own side) (on_side v.own side) l.floor l.off b.own;
  joint = joint-off phase us ds (on_side u.own side) (on_side v.own side) l.off b.joint;
}
