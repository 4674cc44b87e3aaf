-- Links that only grow: every signal that was sent may still arrive.
use Rattle.std.proofs.Common.{◌≡◌, refl, ◌∙◌, ap, subst, ℕ, zero, suc, Option, None, Some, List, [], ◌∷◌, ◌++◌, inl, inr, arith, Bool, true, false}
use Rattle.std.specs.Prelude.{◌⊎◌, slice_get, slice_set, drop, All, Contains, IfSome}
use Rattle.std.proofs.lemmas.List.Elements.{All-weaker, All-push, All-drop, All-contains_itself, Contains-append_left, Contains-append_right}
use Rattle.std.proofs.lemmas.Option.{slice_get_within, get_or_from_slice_get}
use Rattle.chan_model.specs.declared.names.Side.{Side}
use Rattle.chan_model.specs.declared.names.Side.TheVariants.{First, Second}
use Rattle.chan_model.specs.declared.hold_state.HoldState.{HoldState}
use Rattle.chan_model.specs.declared.signal.OnPath.{OnPath}
use Rattle.chan_model.specs.Signals.{Down, Up}
use Rattle.chan_model.specs.declared.signal.Up.TheVariants as up
use Rattle.chan_model.specs.declared.unit_state.UnitState.{UnitState}
use Rattle.wires.specs.Queues.{queue, taken}
use Rattle.agreement_laws.specs.Claims.{IsSound, IsPassed, EndsByReset, IsResetDue}
use Rattle.agreement_laws.specs.Links.{Link, Links, link_of, Carries, with_accepted}
use Rattle.agreement_laws.specs.Moving.{HoldAct, HoldActed, still, hold_acts, LinkStep, LinkCause, Hold_acts, IsHoldGiven, LinksStep}
use Rattle.agreement_laws.specs.Invariant.{IsGood}
use Rattle.step_laws.specs.Walks.{AreWalks}
use Rattle.subchannel_model.specs.declared.state.Subchannel.{Subchannel}
use Rattle.subchannel_model.specs.declared.state.SubchannelState.{SubchannelState}
use Rattle.chan_model.specs.PathSets.{is_member}
use Rattle.subchannel_model.specs.Sending.{carried, carried_by, with_any_sent, carried_where}

-- a signal more, where one is sent
abbrev pub with_one : {A : Type 0} → List A → Option A → List A
with_one xs None = xs
with_one xs (Some x) = xs ++ x ∷ []

abbrev pub Wider : {A : Type 0} → List A → List A → Type 0
Wider {A} xs ys = (x : A) → Contains xs x → Contains ys x

pub one-wider : {A : Type 0} (xs : List A) (one : Option A) → Wider xs (with_one xs one)
one-wider xs None x c = c
one-wider xs (Some y) x c = Contains-append_left xs (y ∷ []) x c

pub one-within : {A : Type 0} (xs : List A) (one : Option A) → IfSome one (λ x. Contains (with_one xs one) x)
one-within xs None = tt
one-within xs (Some y) = Contains-append_right xs (y ∷ []) y (0, omega arith, refl)

carries : {A : Type 0} (xs : List A) (one : Option A) → Carries xs one (with_one xs one)
carries {A} xs None = let none : Option A = None in All-weaker (Contains xs) (λ s. Contains xs s ⊎ (none ≡ Some s)) (λ s c. inl c) xs (All-contains_itself xs)
carries xs (Some x) =
    All-push (λ s. Contains xs s ⊎ (Some x ≡ Some s)) xs x
    (All-weaker (Contains xs) (λ s. Contains xs s ⊎ (Some x ≡ Some s)) (λ s c. inl c) xs (All-contains_itself xs)) (inr refl)

-- each signal that waits on a wire may arrive by its path
abbrev pub Covers : {A : Type 0} → List (OnPath A) → List (List A) → Type 0
Covers l queues = (p : ℕ) → All (λ x. Contains l (record { path = p; signal = x })) (queue queues p)

pub covers-wider : {A : Type 0} (l m : List (OnPath A)) (queues : List (List A)) → Wider l m → Covers l queues → Covers m queues
covers-wider l m queues w c p =
    All-weaker (λ x. Contains l (record { path = p; signal = x })) (λ x. Contains m (record { path = p; signal = x }))
    (λ x h. w (record { path = p; signal = x }) h) (queue queues p) (c p)

pub queue-set : {A : Type 0} (P : ℕ → A → Type 0) (queues : List (List A)) (k : ℕ) (xs : List A) → ((p : ℕ) → All (P p) (queue queues p)) → All (P k) xs →
    (p : ℕ) → All (P p) (queue (slice_set queues k xs) p)
queue-set P [] k xs all h p = all p
queue-set P (ys ∷ queues) zero xs all h zero = h
queue-set P (ys ∷ queues) zero xs all h (suc p) = all (suc p)
queue-set P (ys ∷ queues) (suc k) xs all h zero = all zero
queue-set P (ys ∷ queues) (suc k) xs all h (suc p) = queue-set (λ n. P (suc n)) queues k xs (λ n. all (suc n)) h p

pub covers-taken : {A : Type 0} (l : List (OnPath A)) (queues : List (List A)) (k : ℕ) → Covers l queues → Covers l (taken queues k)
covers-taken l queues k c =
    queue-set (λ p x. Contains l (record { path = p; signal = x })) queues k (drop 1 (queue queues k)) c
    (All-drop (λ x. Contains l (record { path = k; signal = x })) 1 (queue queues k) (c k))

pub covers-sent : {A : Type 0} (l : List (OnPath A)) (queues : List (List A)) (one : Option (OnPath A)) → IfSome one (λ x. Contains l x) → Covers l queues →
    Covers l (with_any_sent queues one)
covers-sent l queues None h c = c
covers-sent l queues (Some s) h c =
    queue-set (λ p x. Contains l (record { path = p; signal = x })) queues s.path (queue queues s.path ++ s.signal ∷ []) c
    (All-push (λ x. Contains l (record { path = s.path; signal = x })) (queue queues s.path) s.signal (c s.path) h)

-- what holds of a signal that is sent holds of it where its path is up
carried-where-if : {A : Type 0} (P : OnPath A → Type 0) (available : Bool) (s : OnPath A) → P s → IfSome (carried_where available s) P
carried-where-if P true s h = h
carried-where-if P false s h = tt

pub carried-if : {A : Type 0} (P : OnPath A → Type 0) (available : List Bool) (one : Option (OnPath A)) → IfSome one P → IfSome (carried available one) P
carried-if P available None h = tt
carried-if P available (Some s) h = carried-where-if P (is_member available s.path) s h

pub covers-first : {A : Type 0} (l : List (OnPath A)) (queues : List (List A)) (k : ℕ) (x : A) → Covers l queues → slice_get (queue queues k) 0 ≡ Some x →
    Contains l (record { path = k; signal = x })
covers-first {A} l queues k x c e =
    subst (λ (y : A). Contains l (record { path = k; signal = y })) (get_or_from_slice_get (queue queues k) 0 x x e) (c k 0 x (slice_get_within (queue queues k) 0 x e))

-- a link that stands for a subchannel: its numbers, and at least the signals on its wires
pub record IsLink (sub : Subchannel) (l : Link) : Type 0 where
  pub drawn : l.drawn ≡ sub.state.drawn
  pub hold : l.hold ≡ sub.state.hold
  pub downs : Covers l.downs sub.wires.down
  pub ups : Covers l.ups sub.wires.up

pub record IsWider (l m : Link) : Type 0 where
  pub drawn : m.drawn ≡ l.drawn
  pub hold : m.hold ≡ l.hold
  pub downs : Wider l.downs m.downs
  pub ups : Wider l.ups m.ups

pub link-wider : (sub : Subchannel) (l m : Link) → IsWider l m → IsLink sub l → IsLink sub m
link-wider sub l m w k =
    record {
      drawn = w.drawn ∙ k.drawn;
      hold = w.hold ∙ k.hold;
      downs = covers-wider l.downs m.downs sub.wires.down w.downs k.downs;
      ups = covers-wider l.ups m.ups sub.wires.up w.ups k.ups;
    }

-- a link after an act of its hold, and after its unit sent it something or nothing
abbrev pub held : Link → HoldActed → Link
held l acted = record { drawn = acted.drawn; hold = acted.hold; downs = with_one l.downs acted.sent; ups = l.ups; accepted = l.accepted }

abbrev pub told : Link → Option (OnPath Up) → Link
told l one = record l { ups = with_one l.ups one; accepted = with_accepted l.accepted one }

held-step : (l : Link) (acted : HoldActed) → LinkStep l acted None (held l acted)
held-step l acted = record { drawn = refl; hold = refl; downs = carries l.downs acted.sent; ups = carries l.ups None; accepted = refl }

pub told-step : (l : Link) (one : Option (OnPath Up)) → LinkStep l (still l.drawn l.hold) one (told l one)
told-step l one = record { drawn = refl; hold = refl; downs = carries l.downs None; ups = carries l.ups one; accepted = refl }

-- a unit with the link of a side, and the other
abbrev pub links_of : Side → UnitState → Link → Link → Links
links_of First u l other = record { «unit» = u; first = l; second = other }
links_of Second u l other = record { «unit» = u; first = other; second = l }

-- each step keeps what holds of a unit and its links
abbrev pub Keeps : Type 0
Keeps = (old : Links) (cause : LinkCause) (new : Links) → IsGood old → LinksStep old cause new → IsGood new × ((j : Side) → EndsByReset old cause new j)

-- what both sides are sound by; a Busy that may arrive is passed, and what is passed stays so
pub record AreLaws : Type 0 where
  pub walks : AreWalks
  pub keeps : Keeps
  pub means : (w : Links) (side : Side) → IsGood w → IsSound w side
  pub busy : (w : Links) (side : Side) (x : OnPath Up) (t : ℕ) → IsGood w → Contains (link_of w side).ups x → x.signal ≡ up.Busy t → IsPassed w side t
  pub stays : (old : Links) (cause : LinkCause) (new : Links) (side : Side) (t : ℕ) → IsGood old → LinksStep old cause new → IsPassed old side t → IsPassed new side t

pub laws-of : AreWalks → ((old : Links) (cause : LinkCause) (new : Links) → IsGood old → LinksStep old cause new → IsGood new) →
    ((old : Links) (cause : LinkCause) (new : Links) (j : Side) → IsGood old → LinksStep old cause new → EndsByReset old cause new j) →
    ((w : Links) (side : Side) → IsGood w → IsSound w side) →
    ((w : Links) (side : Side) (x : OnPath Up) (t : ℕ) → IsGood w → Contains (link_of w side).ups x → x.signal ≡ up.Busy t → IsPassed w side t) →
    ((old : Links) (cause : LinkCause) (new : Links) (side : Side) (t : ℕ) → IsGood old → LinksStep old cause new → IsPassed old side t → IsPassed new side t) → AreLaws
laws-of walks keeps resets means busy stays = record {
  walks = walks;
  keeps = λ old cause new g s. (keeps old cause new g s, λ j. resets old cause new j g s);
  means = means;
  busy = busy;
  stays = stays;
}

-- what holds with a link holds with another, by acts of the hold
pub record IsLed (v w : Links) : Type 0 where
  pub good : IsGood w
  pub due : (j : Side) → IsResetDue v j → IsResetDue w j

not-taken : (v w : Links) (k : Side) (act : HoldAct) → IsGood w × ((j : Side) → EndsByReset v (Hold_acts k act) w j) → IsLed v w
not-taken v w k act x =
    record {
      good = x.0;
      due = λ j d.
          elim (x.1 j d) [
            | inl y ↦ y
            | inr p ↦ absurd p.0
          ];
    }

abbrev pub Leads : Link → Link → Type 0
Leads l m = (side : Side) (u : UnitState) (other : Link) → IsGood (links_of side u l other) → IsLed (links_of side u l other) (links_of side u m other)

act-leads : Keeps → (l : Link) (act : HoldAct) → IsHoldGiven l act → Leads l (held l (hold_acts l.drawn l.hold act))
act-leads keeps l act given First u other g =
    not-taken _ _ First act (keeps _ (Hold_acts First act) (links_of First u (held l (hold_acts l.drawn l.hold act)) other) g
    (record { given = given; «unit» = refl; first = held-step l (hold_acts l.drawn l.hold act); second = told-step other None }))
act-leads keeps l act given Second u other g =
    not-taken _ _ Second act (keeps _ (Hold_acts Second act) (links_of Second u (held l (hold_acts l.drawn l.hold act)) other) g
    (record { given = given; «unit» = refl; first = told-step other None; second = held-step l (hold_acts l.drawn l.hold act) }))

-- the counter and the hold of a link
pub record IsAt (l : Link) (n : ℕ) (h : HoldState) : Type 0 where
  pub drawn : l.drawn ≡ n
  pub hold : l.hold ≡ h

-- acts of the hold lead from a link to these, and something or nothing is sent
pub record Reaches (l : Link) (acted : HoldActed) : Type 0 where
  pub link : Link
  pub leads : Leads l link
  pub at : IsAt link acted.drawn acted.hold
  pub downs : Wider l.downs link.downs
  pub sent : IfSome acted.sent (λ x. Contains link.downs x)
  pub ups : Wider l.ups link.ups
  pub accepted : link.accepted ≡ l.accepted

pub stays : (l : Link) (n : ℕ) (h : HoldState) → IsAt l n h → Reaches l (still n h)
stays l n h at = record { link = l; leads = λ side u other g. record { good = g; due = λ j d. d }; at = at; downs = λ x c. c; sent = tt; ups = λ x c. c; accepted = refl }

-- one act
acts-at : (l : Link) (n : ℕ) (h : HoldState) (act : HoldAct) → IsAt l n h → hold_acts l.drawn l.hold act ≡ hold_acts n h act
acts-at l n h act at = ap (λ (k : ℕ). hold_acts k l.hold act) at.drawn ∙ ap (λ (g : HoldState). hold_acts n g act) at.hold

pub acts : Keeps → (l : Link) (n : ℕ) (h : HoldState) (act : HoldAct) (acted : HoldActed) → IsHoldGiven l act → IsAt l n h → hold_acts n h act ≡ acted → Reaches l acted
acts keeps l n h act acted given at e =
    subst (λ (a : HoldActed). Reaches l a) (acts-at l n h act at ∙ e)
    (record {
      link = held l (hold_acts l.drawn l.hold act);
      leads = act-leads keeps l act given;
      at = record { drawn = refl; hold = refl };
      downs = one-wider l.downs (hold_acts l.drawn l.hold act).sent;
      sent = one-within l.downs (hold_acts l.drawn l.hold act).sent;
      ups = λ x c. c;
      accepted = refl;
    })

-- one after another
pub chain : (l : Link) (first second : HoldActed) → Reaches l first → ((m : Link) → IsAt m first.drawn first.hold → Reaches m second) → Reaches l second
chain l first second a f =
    let b : Reaches a.link second = f a.link a.at in
    record {
      link = b.link;
      leads = λ side u other g.
          let x = a.leads side u other g in
          let y = b.leads side u other x.good in
          record { good = y.good; due = λ j d. y.due j (x.due j d) };
      at = b.at;
      downs = λ x c. b.downs x (a.downs x c);
      sent = b.sent;
      ups = λ x c. b.ups x (a.ups x c);
      accepted = b.accepted ∙ a.accepted;
    }

-- what is left of a subchannel is a link that is led to
pub record IsReached (l : Link) (new : Subchannel) : Type 0 where
  pub link : Link
  pub leads : Leads l link
  pub is : IsLink new link
  pub accepted : link.accepted ≡ l.accepted

pub reached-by : (sub : Subchannel) (l : Link) (s : SubchannelState) (one : Option (OnPath Down)) (downs : List (List Down)) (ups : List (List Up)) → IsLink sub l →
    (r : Reaches l (record { drawn = s.drawn; hold = s.hold; sent = one })) → (Covers r.link.downs sub.wires.down → Covers r.link.downs downs) →
    ((m : List (OnPath Up)) → Covers m sub.wires.up → Covers m ups) → IsReached l (record sub { state = s; wires = record { down = downs; up = ups } })
reached-by sub l s one downs ups k r d f =
    record {
      link = r.link;
      leads = r.leads;
      is = record {
        drawn = r.at.drawn;
        hold = r.at.hold;
        downs = d (covers-wider l.downs r.link.downs sub.wires.down r.downs k.downs);
        ups = f r.link.ups (covers-wider l.ups r.link.ups sub.wires.up r.ups k.ups);
      };
      accepted = r.accepted;
    }

pub reached : (sub : Subchannel) (l : Link) (s : SubchannelState) (one : Option (OnPath Down)) (ups : List (List Up)) → IsLink sub l →
    Reaches l (record { drawn = s.drawn; hold = s.hold; sent = one }) → ((m : List (OnPath Up)) → Covers m sub.wires.up → Covers m ups) →
    IsReached l (record sub { state = s; wires = record { down = with_any_sent sub.wires.down (carried_by sub one); up = ups } })
reached sub l s one ups k r f =
    reached-by sub l s one (with_any_sent sub.wires.down (carried_by sub one)) ups k r
    (covers-sent r.link.downs sub.wires.down (carried_by sub one) (carried-if (λ x. Contains r.link.downs x) sub.state.pmcw.available one r.sent)) f
