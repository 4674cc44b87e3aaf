-- What is seen of a subchannel's program is where its hold has it, after a path of it is lost, and after a reset.
use Rattle.std.proofs.Common.{◌≡◌, refl, sym, ◌∙◌, ap, subst, ℕ, ◌+◌, ◌≤◌, ◌==◌, ◌&&◌, ◌||◌, Bool, true, false, Option, None, Some, if◌then◌else◌, inl, inr, arith}
use Rattle.std.proofs.lemmas.Bool.{and_parts}
use Rattle.chan_model.specs.declared.hold_state.HoldPhase.{HoldPhase}
use Rattle.chan_model.specs.declared.hold_state.HoldPhase.TheVariants as hold
use Rattle.chan_model.specs.declared.hold_state.HoldState.{HoldState}
use Rattle.chan_model.specs.HoldTable.{resetting}
use Rattle.chan_model.specs.ResetCauses.{is_path, rests_on}
use Rattle.run_laws.specs.Links.{Link, Apart, used_by, is_apart, SubSeen, sub_reset}
use Rattle.run_laws.proofs.Signals.LinkHolds.{Stands, link_at, IsHeldAs, phased}

-- the hold is to be reset under a fresh number
pub reset-held : (k : SubSeen) (h : HoldState) (n : ℕ) → IsHeldAs k h n → IsHeldAs (sub_reset k) (resetting h (n + 1)) (n + 1)
reset-held k h n tie =
    let l : k.drawn ≤ n = tie.drawn in
    record { stands = inl refl; asked = tie.asked; first = tie.first; known_restarts = tie.known_restarts; drawn = omega (arith, l); due = (omega (arith, l), omega arith); single = tt }

-- the hold as it was
abbrev with_doubt : SubSeen → Bool → SubSeen
with_doubt k b = record k { doubt = b }

kept-held : (k : SubSeen) (h : HoldState) (n : ℕ) (b : Bool) → (k.doubt ≡ true → b ≡ true) → IsHeldAs k h n → IsHeldAs (with_doubt k b) h n
kept-held k h n b f tie = record {
  stands = elim tie.stands [
    | inl e ↦ inl e
    | inr d ↦ inr (record { doubt = f d.doubt; number = d.number; apart = d.apart; reset = d.reset; is_reset = d.is_reset; unsent = d.unsent })
  ];
  asked = tie.asked;
  first = tie.first;
  known_restarts = tie.known_restarts;
  drawn = tie.drawn;
  due = tie.due;
  single = tie.single;
}

-- a reset is due that no reply tells
doubtful-held : (k : SubSeen) (h : HoldState) (n t : ℕ) (b : Bool) → b ≡ true → k.link ≡ Apart t → IsHeldAs k h n → IsHeldAs (with_doubt k b) (resetting h (n + 1)) (n + 1)
doubtful-held k h n t b now e tie =
    let l : k.drawn ≤ n = tie.drawn in
    record {
      stands = inr (record { doubt = now; number = t; apart = e; reset = n + 1; is_reset = refl; unsent = refl });
      asked = tie.asked;
      first = tie.first;
      known_restarts = tie.known_restarts;
      drawn = omega (arith, l);
      due = (omega (arith, l), omega arith);
      single = tt;
    }

-- where a reset is due by what is seen, it is; and where it is due unseen, the program is apart and was accepted by that path
pub record IsUnseen (k : SubSeen) (p : ℕ) : Type 0 where
  pub number : ℕ
  pub apart : k.link ≡ Apart number
  pub first : is_path k.first p ≡ true

pub record Agree (k : SubSeen) (h : HoldState) (p : ℕ) : Type 0 where
  pub seen : is_path (used_by k.link) p ≡ true → rests_on h p ≡ true
  pub unseen : is_path (used_by k.link) p ≡ false → rests_on h p ≡ true → IsUnseen k p

used-is : (k : SubSeen) (link : Link) (p : ℕ) → k.link ≡ link → is_path (used_by k.link) p ≡ is_path (used_by link) p
used-is k link p e = ap (λ (l : Link). is_path (used_by l) p) e

or-true : (a b : Bool) → a ≡ true → (a || b) ≡ true
or-true a b e = ap (λ (x : Bool). x || b) e

or-false : (a b : Bool) → a ≡ false → (a || b) ≡ true → b ≡ true
or-false a b e f = sym (ap (λ (x : Bool). x || b) e) ∙ f

or-none : (a : Bool) → (a || false) ≡ true → a ≡ true
or-none true e = refl
or-none false e = e

no-rest : (k : SubSeen) (h : HoldState) (p : ℕ) → is_path (used_by k.link) p ≡ false → rests_on h p ≡ false → Agree k h p
no-rest k h p used rests = record { seen = λ e. absurd (cc (sym used ∙ e)); unseen = λ e f. absurd (cc (sym rests ∙ f)) }

engaged-rest : (k : SubSeen) (h : HoldState) (p q : ℕ) (more : Bool) → is_path (used_by k.link) p ≡ (q == p) → rests_on h p ≡ ((q == p) || more) → (((q == p) ≡ false) → more ≡ true → ⊥) → Agree k h p
engaged-rest k h p q more used rests n = record {
  seen = λ e. rests ∙ or-true (q == p) more (sym used ∙ e);
  unseen = λ e f. absurd (n (sym used ∙ e) (or-false (q == p) more (sym used ∙ e) (sym rests ∙ f)));
}

-- in single-path mode the path of the Accept is that of the connection
first-only : (single : Bool) (first : Option ℕ) (p q : ℕ) → (single ≡ true → first ≡ Some q) → (q == p) ≡ false → ((single && is_path first p) || false) ≡ true → ⊥
first-only single first p q f n e =
    let both = and_parts single (is_path first p) (or-none (single && is_path first p) e) in
    cc (sym n ∙ sym (ap (λ (o : Option ℕ). is_path o p) (f both.0)) ∙ both.1)

agree-at : (k : SubSeen) (h : HoldState) (n p : ℕ) (phase : HoldPhase) → IsHeldAs k (phased h phase) n → k.link ≡ link_at phase h.reset_path → Agree k (phased h phase) p
agree-at k h n p hold.Free tie e = no-rest k (phased h hold.Free) p (used-is k _ p e) refl
agree-at k h n p (hold.Offer t q) tie e = engaged-rest k (phased h (hold.Offer t q)) p q false (used-is k _ p e) refl (λ x y. cc y)
agree-at k h n p (hold.On t q c) tie e =
    engaged-rest k (phased h (hold.On t q c)) p q ((h.single_path && is_path h.first_path p) || false) (used-is k _ p e) refl (λ x y. first-only h.single_path h.first_path p q tie.single x y)
agree-at k h n p (hold.Away t) tie e = record {
  seen = λ f. absurd (cc (sym (used-is k _ p e) ∙ f));
  unseen = λ f g. record {
    number = t;
    apart = e;
    first = ap (λ (o : Option ℕ). is_path o p) tie.first ∙ (and_parts h.single_path (is_path h.first_path p) (or-none (h.single_path && is_path h.first_path p) g)).1;
  };
}
agree-at k h n p (hold.Letting t q) tie e = engaged-rest k (phased h (hold.Letting t q)) p q false (used-is k _ p e) refl (λ x y. cc y)
agree-at k h n p (hold.Reset r) tie e = reset-agree h.reset_path e
  where
    reset-agree : (sent : Option ℕ) → k.link ≡ link_at (hold.Reset r) sent → Agree k (record h { phase = hold.Reset r; reset_path = sent }) p
    reset-agree None f = no-rest k _ p (used-is k _ p f) refl
    reset-agree (Some q) f = record { seen = λ g. sym (used-is k _ p f) ∙ g; unseen = λ g x. absurd (cc (sym (sym (used-is k _ p f) ∙ g) ∙ x)) }

doubt-agree : (k : SubSeen) (h : HoldState) (p r : ℕ) (phase : HoldPhase) (sent : Option ℕ) (t : ℕ) → phase ≡ hold.Reset r → sent ≡ None → k.link ≡ Apart t → Agree k (record h { phase = phase; reset_path = sent }) p
doubt-agree k h p r phase sent t e f apart =
    subst (λ (y : HoldPhase). Agree k (record h { phase = y; reset_path = sent }) p) (sym e)
    (subst (λ (o : Option ℕ). Agree k (record h { phase = hold.Reset r; reset_path = o }) p) (sym f) (no-rest k _ p (used-is k (Apart t) p apart) refl))

pub agree : (k : SubSeen) (h : HoldState) (n p : ℕ) → IsHeldAs k h n → Stands k h.phase h.reset_path → Agree k h p
agree k h n p tie (inl e) = agree-at k h n p h.phase tie e
agree k h n p tie (inr d) = doubt-agree k h p d.reset h.phase h.reset_path d.number d.is_reset d.unsent d.apart

-- a path is lost
abbrev pub lost_at : SubSeen → Bool → Bool → SubSeen
lost_at k used first = if used then sub_reset k else with_doubt k (k.doubt || (is_apart k.link && first))

pub record IsLostAs (k : SubSeen) (h : HoldState) (n : ℕ) (p : ℕ) (rests : Bool) : Type 0 where
  pub held : IsHeldAs (lost_at k (is_path (used_by k.link) p) (is_path k.first p)) (if rests then resetting h (n + 1) else h) (if rests then n + 1 else n)

keeps-doubt : (a b : Bool) → a ≡ true → (a || b) ≡ true
keeps-doubt a b e = or-true a b e

new-doubt : (a b : Bool) → b ≡ true → (a || b) ≡ true
new-doubt true b e = refl
new-doubt false b e = e

lost-by : (k : SubSeen) (h : HoldState) (n p : ℕ) (used rests : Bool) → IsHeldAs k h n → (used ≡ true → rests ≡ true) → (used ≡ false → rests ≡ true → IsUnseen k p) →
    IsHeldAs (lost_at k used (is_path k.first p)) (if rests then resetting h (n + 1) else h) (if rests then n + 1 else n)
lost-by k h n p true true tie f g = reset-held k h n tie
lost-by k h n p true false tie f g = absurd (cc (f refl))
lost-by k h n p false true tie f g =
    let u : IsUnseen k p = g refl refl in
    doubtful-held k h n u.number _
    (new-doubt k.doubt (is_apart k.link && is_path k.first p) (ap (λ (l : Link). is_apart l && is_path k.first p) u.apart ∙ u.first)) u.apart tie
lost-by k h n p false false tie f g = kept-held k h n _ (λ e. keeps-doubt k.doubt (is_apart k.link && is_path k.first p) e) tie

pub lost-held : (k : SubSeen) (h : HoldState) (n p : ℕ) → IsHeldAs k h n → IsLostAs k h n p (rests_on h p)
lost-held k h n p tie =
    let a : Agree k h p = agree k h n p tie tie.stands in record { held = lost-by k h n p (is_path (used_by k.link) p) (rests_on h p) tie a.seen a.unseen }

-- no path of it is
pub off-held : (k : SubSeen) (h : HoldState) (n : ℕ) (used first : Bool) → used ≡ false → IsHeldAs k h n → IsHeldAs (lost_at k used first) h n
off-held k h n true first e tie = absurd (cc e)
off-held k h n false first e tie = kept-held k h n _ (λ f. keeps-doubt k.doubt (is_apart k.link && first) f) tie
