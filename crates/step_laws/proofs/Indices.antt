-- Elements of lists: where one was set or mapped, where at most one passes a test, and the first that passes one; and which
-- subchannel reaches a side of a unit that is lawfully set up.
use Rattle.std.proofs.Common.{◌≡◌, ◌≢◌, refl, sym, ◌∙◌, ap, subst, ℕ, ◌+◌, ◌≤◌, ◌==◌, ◌&&◌, zero, suc, Bool, true, false, Option, None, Some, List, [], ◌∷◌, map, inl, inr, arith}
use Rattle.std.specs.Prelude.{◌⊎◌, slice_get, slice_set, option_map, count_by, cond, if◌then◌else◌}
use Rattle.std.proofs.lemmas.Bool.{eq-eqb, eqb-true, and_parts}
use Rattle.std.proofs.lemmas.List.Sums.{sum_by-cons}
use Rattle.std.proofs.lemmas.Option.{slice_get-map}
use Rattle.chan_model.proofs.OneSide.{same-side, one-side}
use Rattle.chan_model.specs.declared.names.Side.{Side}
use Rattle.chan_model.specs.declared.names.Side.TheVariants.{First, Second}
use Rattle.chan_model.specs.Sides.{same_side}
use Rattle.channel_config.specs.declared.parts.SubchannelSetup.{SubchannelSetup}
use Rattle.channel_config.specs.Lawful.{IsShared, uses_by}
use Rattle.subchannel_model.specs.declared.state.Subchannel.{Subchannel}
use Rattle.subchannel_model.specs.Indices.{Found, found_at, first_index, reaches, found_with, one_later}

-- an element of a list in which one was set
pub set-get : {A : Type 0} (xs : List A) (k : ℕ) (y : A) (i : ℕ) (x : A) → slice_get (slice_set xs k y) i ≡ Some x →
    ((i ≡ k) × (x ≡ y)) ⊎ ((i ≢ k) × (slice_get xs i ≡ Some x))
set-get [] k y i x e = absurd (cc e)
set-get (z ∷ xs) zero y zero x e = inl (refl, cc e)
set-get (z ∷ xs) zero y (suc i) x e = inr (λ h. absurd (omega (arith, h)), e)
set-get (z ∷ xs) (suc k) y zero x e = inr (λ h. absurd (omega (arith, h)), e)
set-get (z ∷ xs) (suc k) y (suc i) x e =
    elim (set-get xs k y i x e) [
      | inl p ↦ inl (ap suc p.0, p.1)
      | inr p ↦ inr (λ h. p.0 (omega (arith, h)), p.1)
    ]

pub get-set : {A : Type 0} (xs : List A) (k : ℕ) (x y : A) → slice_get xs k ≡ Some x → slice_get (slice_set xs k y) k ≡ Some y
get-set [] k x y e = absurd (cc e)
get-set (z ∷ xs) zero x y e = refl
get-set (z ∷ xs) (suc k) x y e = get-set xs k x y e

pub get-other : {A : Type 0} (xs : List A) (k : ℕ) (y : A) (i : ℕ) → i ≢ k → slice_get (slice_set xs k y) i ≡ slice_get xs i
get-other (z ∷ xs) zero y zero n = absurd (n refl)
get-other (z ∷ xs) (suc k) y (suc i) n = get-other xs k y i (λ h. n (ap suc h))
get-other other k y i n = refl

-- an element of a list that was mapped
some-mapped : {A B : Type 0} (f : A → B) (o : Option A) (y : B) → option_map f o ≡ Some y → (x : A) × (o ≡ Some x) × (f x ≡ y)
some-mapped f None y e = absurd (cc e)
some-mapped f (Some x) y e = (x, refl, cc e)

pub map-get : {A B : Type 0} (f : A → B) (xs : List A) (i : ℕ) (y : B) → slice_get (map f xs) i ≡ Some y → (x : A) × (slice_get xs i ≡ Some x) × (f x ≡ y)
map-get f xs i y e = some-mapped f (slice_get xs i) y (sym (slice_get-map f xs i) ∙ e)

-- where at most one element passes a test, those that pass it are at one index
count-more : {A : Type 0} (test : A → Bool) (x : A) (xs : List A) → count_by test xs ≤ count_by test (x ∷ xs)
count-more test x xs = let e : count_by test (x ∷ xs) ≡ cond (test x) 1 0 + count_by test xs = sum_by-cons (λ y. cond (test y) 1 0) x xs in omega (arith, e)

count-one : {A : Type 0} (test : A → Bool) (x : A) (xs : List A) → test x ≡ true → count_by test (x ∷ xs) ≡ 1 + count_by test xs
count-one test x xs e = sum_by-cons (λ y. cond (test y) 1 0) x xs ∙ ap (λ (b : Bool). cond b 1 0 + count_by test xs) e

counted : {A : Type 0} (test : A → Bool) (xs : List A) (i : ℕ) (x : A) → slice_get xs i ≡ Some x → test x ≡ true → 1 ≤ count_by test xs
counted test [] i x e h = absurd (cc e)
counted test (z ∷ xs) zero x e h = let same : z ≡ x = cc e in let n : count_by test (z ∷ xs) ≡ 1 + count_by test xs = count-one test z xs (ap test same ∙ h) in omega (arith, n)
counted test (z ∷ xs) (suc i) x e h = let n : 1 ≤ count_by test xs = counted test xs i x e h in let m : count_by test xs ≤ count_by test (z ∷ xs) = count-more test z xs in omega (arith, n, m)

pub alone : {A : Type 0} (test : A → Bool) (xs : List A) (i j : ℕ) (x y : A) → count_by test xs ≤ 1 → slice_get xs i ≡ Some x → slice_get xs j ≡ Some y →
    test x ≡ true → test y ≡ true → i ≡ j
alone test [] i j x y le e f g h = absurd (cc e)
alone test (z ∷ xs) zero zero x y le e f g h = refl
alone test (z ∷ xs) zero (suc j) x y le e f g h =
    let same : z ≡ x = cc e in
    let one : count_by test (z ∷ xs) ≡ 1 + count_by test xs = count-one test z xs (ap test same ∙ g) in
    let other : 1 ≤ count_by test xs = counted test xs j y f h in
    absurd (omega (arith, le, one, other))
alone test (z ∷ xs) (suc i) zero x y le e f g h =
    let same : z ≡ y = cc f in
    let one : count_by test (z ∷ xs) ≡ 1 + count_by test xs = count-one test z xs (ap test same ∙ h) in
    let other : 1 ≤ count_by test xs = counted test xs i x e g in
    absurd (omega (arith, le, one, other))
alone test (z ∷ xs) (suc i) (suc j) x y le e f g h =
    let more : count_by test xs ≤ count_by test (z ∷ xs) = count-more test z xs in
    ap suc (alone test xs i j x y (omega (arith, le, more)) e f g h)

pub both-true : (a b : Bool) → a ≡ true → b ≡ true → (a && b) ≡ true
both-true true b e f = f
both-true false b e f = absurd (cc e)

-- each side of a unit is reached by one subchannel at most
is-used : (s x : SubchannelSetup) → x.«unit» ≡ s.«unit» → same_side x.side s.side ≡ true → (x.«unit» == s.«unit» && same_side x.side s.side) ≡ true
is-used s x e f = both-true (x.«unit» == s.«unit») (same_side x.side s.side) (eq-eqb x.«unit» s.«unit» e) f

used-once : (subs : List SubchannelSetup) (index : ℕ) (side : Side) → IsShared subs index → uses_by subs index side ≤ 1
used-once subs index First k = k.first
used-once subs index Second k = omega (arith, k.first, k.second)

pub one-index : (subs : List SubchannelSetup) (i j : ℕ) (x y : SubchannelSetup) → ((n : ℕ) → IsShared subs n) → slice_get subs i ≡ Some x → slice_get subs j ≡ Some y →
    x.«unit» ≡ y.«unit» → same_side x.side y.side ≡ true → i ≡ j
one-index subs i j x y shared e f u k =
    alone (λ sub. sub.«unit» == y.«unit» && same_side sub.side y.side) subs i j x y (used-once subs y.«unit» y.side (shared y.«unit»)) e f
    (is-used y x u k) (is-used y y refl (same-side y.side))

-- the subchannel at the first index that passes a test passes it
first-cases : (b : Bool) (o : Option ℕ) (index : ℕ) → (if b then Some 0 else one_later o) ≡ Some index →
    ((b ≡ true) × (index ≡ zero)) ⊎ ((i : ℕ) × (o ≡ Some i) × (index ≡ suc i))
first-cases true o index e = let z : 0 ≡ index = cc e in inl (refl, omega (arith, z))
first-cases false None index e = absurd (cc e)
first-cases false (Some i) index e = let z : i + 1 ≡ index = cc e in inr (i, refl, omega (arith, z))

pub first-passes : (test : Subchannel → Bool) (subs : List Subchannel) (index : ℕ) (sub : Subchannel) → first_index test subs ≡ Some index →
    slice_get subs index ≡ Some sub → test sub ≡ true
first-passes test [] index sub e there = absurd (cc e)
first-passes test (x ∷ xs) index sub e there =
    elim (first-cases (test x) (first_index test xs) index e) [
      | inl h ↦ let same : x ≡ sub = cc (subst (λ (k : ℕ). slice_get (x ∷ xs) k ≡ Some sub) h.1 there) in sym (ap test same) ∙ h.0
      | inr h ↦ first-passes test xs h.0 sub h.1 (subst (λ (k : ℕ). slice_get (x ∷ xs) k ≡ Some sub) h.2 there)
    ]

-- two numbers are the same or not
pub same-or-not : (i k : ℕ) → ((i ≡ k) × ((i == k) ≡ true)) ⊎ ((i ≢ k) × ((i == k) ≡ false))
same-or-not i k = by (i == k) refl
  where
    by : (b : Bool) → (i == k) ≡ b → ((i ≡ k) × ((i == k) ≡ true)) ⊎ ((i ≢ k) × ((i == k) ≡ false))
    by true e = inl (eqb-true i k e, e)
    by false e = inr (λ h. absurd (cc (sym (eq-eqb i k h) ∙ e)), e)

-- a subchannel that was found for a side of a unit is of that unit and side
pub reached-there : (index : ℕ) (side : Side) (sub : Subchannel) → reaches index side sub ≡ true → (sub.setup.«unit» ≡ index) × (sub.setup.side ≡ side)
reached-there index side sub e =
    let both : ((sub.setup.«unit» == index) ≡ true) × (same_side sub.setup.side side ≡ true) = and_parts (sub.setup.«unit» == index) (same_side sub.setup.side side) e in
    (eqb-true sub.setup.«unit» index both.0, one-side sub.setup.side side both.1)

-- a subchannel that was found stands at its place
found_with-there : (index : ℕ) (o : Option Subchannel) (f : Found) → found_with index o ≡ Some f → (index ≡ f.index) × (o ≡ Some f.sub)
found_with-there index None f e = absurd (cc e)
found_with-there index (Some sub) f e =
    let same : record { index = index; sub = sub } ≡ f = cc e in (ap (λ (x : Found). x.index) same, ap (λ (x : Found). Some x.sub) same)

pub found-there : (subs : List Subchannel) (p : Option ℕ) (f : Found) → found_at subs p ≡ Some f → (p ≡ Some f.index) × (slice_get subs f.index ≡ Some f.sub)
found-there subs None f e = absurd (cc e)
found-there subs (Some index) f e =
    let there : (index ≡ f.index) × (slice_get subs index ≡ Some f.sub) = found_with-there index (slice_get subs index) f e in
    (ap (λ (k : ℕ). Some k) there.0, subst (λ (k : ℕ). slice_get subs k ≡ Some f.sub) there.0 there.1)
