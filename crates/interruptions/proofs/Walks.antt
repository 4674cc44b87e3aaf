-- Paths through functions that are changed at a number, and what a walk along a path finds.
use Rattle.std.proofs.Common.{◌≡◌, refl, sym, ◌∙◌, ap, subst, ℕ, suc, zero, ◌<◌, Bool, true, false, not, cond, List, [], ◌∷◌, ◌++◌, length, nat_eq, ◌==◌, eqb-true, eq-eqb, true≢false, arith}
use Rattle.std.specs.Prelude.{if◌then◌else◌}
use Rattle.std.specs.List.{IsDistinct}
use Rattle.std.proofs.lemmas.Map.Keys.{IsDistinct-tail}
use Rattle.interruptions.specs.Paths.{IsPath, follow, has, without}
use Rattle.interruptions.proofs.Members.{apart, by-other, differ, first-false, flipped, head-apart, neither, second-false, without-none}

-- a function changed at one number
abbrev pub changed : (ℕ → ℕ) → ℕ → ℕ → ℕ → ℕ
changed f i v k = if nat_eq i k then v else f k

pub changed-at : (f : ℕ → ℕ) (i v k : ℕ) → i ≡ k → changed f i v k ≡ v
changed-at f i v k e = ap (λ (b : Bool). if b then v else f k) (eq-eqb i k e)

pub changed-other : (f : ℕ → ℕ) (i v k : ℕ) → nat_eq i k ≡ false → changed f i v k ≡ f k
changed-other f i v k e = ap (λ (b : Bool). if b then v else f k) e

pub same-path : (n f m g : ℕ → ℕ) (a : ℕ) (xs : List ℕ) (b : ℕ) → ((k : ℕ) → m k ≡ n k) → ((k : ℕ) → g k ≡ f k) → IsPath n f a xs b → IsPath m g a xs b
same-path n f m g a [] b p q h = (p a ∙ h.0, q b ∙ h.1)
same-path n f m g a (x ∷ xs) b p q h = (p a ∙ h.0, (q x ∙ h.1.0, same-path n f m g x xs b p q h.1.1))

-- what is changed elsewhere does not matter
pub frame-next : (n f : ℕ → ℕ) (a : ℕ) (xs : List ℕ) (b q v : ℕ) → IsPath n f a xs b → has q (a ∷ xs) ≡ false → IsPath (changed n q v) f a xs b
frame-next n f a [] b q v h k = (changed-other n q v a (first-false (nat_eq q a) false k) ∙ h.0, h.1)
frame-next n f a (x ∷ xs) b q v h k =
    (changed-other n q v a (first-false (nat_eq q a) (has q (x ∷ xs)) k) ∙ h.0, (h.1.0, frame-next n f x xs b q v h.1.1 (second-false (nat_eq q a) (has q (x ∷ xs)) k)))

pub frame-former : (n f : ℕ → ℕ) (a : ℕ) (xs : List ℕ) (b q v : ℕ) → IsPath n f a xs b → has q xs ≡ false → nat_eq q b ≡ false → IsPath n (changed f q v) a xs b
frame-former n f a [] b q v h k e = (h.0, changed-other f q v b e ∙ h.1)
frame-former n f a (x ∷ xs) b q v h k e =
    (h.0, (changed-other f q v x (first-false (nat_eq q x) (has q xs) k) ∙ h.1.0, frame-former n f x xs b q v h.1.1 (second-false (nat_eq q x) (has q xs) k) e))

-- a number whose next one is not on the path, and one whose former is not
pub not-source : (n f : ℕ → ℕ) (a : ℕ) (xs : List ℕ) (b q : ℕ) → IsPath n f a xs b → has (n q) xs ≡ false → nat_eq (n q) b ≡ false → has q (a ∷ xs) ≡ false
not-source n f a [] b q h k e = neither (differ q a (λ same. apart (n q) b e (ap n same ∙ h.0))) refl
not-source n f a (x ∷ xs) b q h k e =
    neither (differ q a (λ same. apart (n q) x (first-false (nat_eq (n q) x) (has (n q) xs) k) (ap n same ∙ h.0)))
    (not-source n f x xs b q h.1.1 (second-false (nat_eq (n q) x) (has (n q) xs) k) e)

pub not-target : (n f : ℕ → ℕ) (a : ℕ) (xs : List ℕ) (b q : ℕ) → IsPath n f a xs b → has (f q) (a ∷ xs) ≡ false → (has q xs ≡ false) × (nat_eq q b ≡ false)
not-target n f a [] b q h k = (refl, differ q b (λ same. apart (f q) a (first-false (nat_eq (f q) a) false k) (ap f same ∙ h.1)))
not-target n f a (x ∷ xs) b q h k =
    let rest = not-target n f x xs b q h.1.1 (second-false (nat_eq (f q) a) (has (f q) (x ∷ xs)) k) in
    (neither (differ q x (λ same. apart (f q) a (first-false (nat_eq (f q) a) (has (f q) (x ∷ xs)) k) (ap f same ∙ h.1.0))) rest.0, rest.1)

-- the last number before the end
abbrev pub last_of : ℕ → List ℕ → ℕ
last_of a [] = a
last_of a (x ∷ xs) = last_of x xs

pub last-is : (n f : ℕ → ℕ) (a : ℕ) (xs : List ℕ) (b : ℕ) → IsPath n f a xs b → f b ≡ last_of a xs
last-is n f a [] b h = h.1
last-is n f a (x ∷ xs) b h = last-is n f x xs b h.1.1

pub last-next : (n f : ℕ → ℕ) (a : ℕ) (xs : List ℕ) (b : ℕ) → IsPath n f a xs b → n (f b) ≡ b
last-next n f a [] b h = ap n h.1 ∙ h.0
last-next n f a (x ∷ xs) b h = last-next n f x xs b h.1.1

last-other : (q x : ℕ) (xs : List ℕ) → has q (x ∷ xs) ≡ false → nat_eq (last_of x xs) q ≡ false
last-other q x [] h = flipped q x (first-false (nat_eq q x) false h)
last-other q x (y ∷ xs) h = last-other q y xs (second-false (nat_eq q x) (has q (y ∷ xs)) h)

-- a number is put before the end
pub pushed-path : (n f : ℕ → ℕ) (a : ℕ) (xs : List ℕ) (b p : ℕ) → IsPath n f a xs b → IsDistinct nat_eq (a ∷ xs) → has b xs ≡ false → has p (a ∷ xs) ≡ false → nat_eq p b ≡ false
    → IsPath (changed (changed n (last_of a xs) p) p b) (changed (changed f p (last_of a xs)) b p) a (xs ++ p ∷ []) b
pushed-path n f a [] b p h d k other e = (
  changed-other (changed n a p) p b a (first-false (nat_eq p a) false other) ∙ changed-at n a p a refl,
  (
    changed-other (changed f p a) b p p (flipped p b e) ∙ changed-at f p a p refl,
    (changed-at (changed n a p) p b p refl, changed-at (changed f p a) b p b refl),
  ),
)
pushed-path n f a (x ∷ xs) b p h d k other e =
    let t = last_of x xs in
    let rest = second-false (nat_eq p a) (has p (x ∷ xs)) other in (
      changed-other (changed n t p) p b a (first-false (nat_eq p a) (has p (x ∷ xs)) other) ∙ changed-other n t p a (last-other a x xs (head-apart a (x ∷ xs) d)) ∙ h.0,
      (
        changed-other (changed f p t) b p x (first-false (nat_eq b x) (has b xs) k) ∙ changed-other f p t x (first-false (nat_eq p x) (has p xs) rest) ∙ h.1.0,
        pushed-path n f x xs b p h.1.1 (IsDistinct-tail nat_eq a (x ∷ xs) d) (second-false (nat_eq b x) (has b xs) k) rest e,
      ),
    )

-- a number that stands there
pub next-former : (n f : ℕ → ℕ) (a : ℕ) (xs : List ℕ) (b p : ℕ) → IsPath n f a xs b → has p xs ≡ true → n (f p) ≡ p
next-former n f a [] b p h k = cc
next-former n f a (x ∷ xs) b p h k =
    elim (nat_eq p x) as (λ v. nat_eq p x ≡ v → n (f p) ≡ p) [
      | true ↦ λ same. let e = eqb-true p x same in ap n (ap f e ∙ h.1.0) ∙ h.0 ∙ sym e
      | false ↦ λ other. next-former n f x xs b p h.1.1 (by-other (nat_eq p x) k other)
    ] refl

head-former : (n f : ℕ → ℕ) (x : ℕ) (xs : List ℕ) (b : ℕ) → IsPath n f x xs b → f (n x) ≡ x
head-former n f x [] b h = ap f h.0 ∙ h.1
head-former n f x (y ∷ xs) b h = ap f h.0 ∙ h.1.0

pub former-next : (n f : ℕ → ℕ) (a : ℕ) (xs : List ℕ) (b p : ℕ) → IsPath n f a xs b → has p xs ≡ true → f (n p) ≡ p
former-next n f a [] b p h k = cc
former-next n f a (x ∷ xs) b p h k =
    elim (nat_eq p x) as (λ v. nat_eq p x ≡ v → f (n p) ≡ p) [
      | true ↦ λ same. let e = eqb-true p x same in ap (λ (y : ℕ). f (n y)) e ∙ head-former n f x xs b h.1.1 ∙ sym e
      | false ↦ λ other. former-next n f x xs b p h.1.1 (by-other (nat_eq p x) k other)
    ] refl

-- it is not linked to itself
first-moves : (n f : ℕ → ℕ) (x : ℕ) (xs : List ℕ) (b : ℕ) → IsPath n f x xs b → has x xs ≡ false → nat_eq b x ≡ false → nat_eq (n x) x ≡ false
first-moves n f x [] b h none e = ap (λ (z : ℕ). nat_eq z x) h.0 ∙ e
first-moves n f x (y ∷ xs) b h none e = ap (λ (z : ℕ). nat_eq z x) h.0 ∙ flipped x y (first-false (nat_eq x y) (has x xs) none)

pub moves : (n f : ℕ → ℕ) (a : ℕ) (xs : List ℕ) (b p : ℕ) → IsPath n f a xs b → IsDistinct nat_eq xs → has b xs ≡ false → has p xs ≡ true → nat_eq (n p) p ≡ false
moves n f a [] b p h d k found = cc
moves n f a (x ∷ xs) b p h d k found =
    elim (nat_eq p x) as (λ v. nat_eq p x ≡ v → nat_eq (n p) p ≡ false) [
      | true ↦ λ same. ap (λ (z : ℕ). nat_eq (n z) z) (eqb-true p x same) ∙ first-moves n f x xs b h.1.1 (head-apart x xs d) (first-false (nat_eq b x) (has b xs) k)
      | false ↦ λ other. moves n f x xs b p h.1.1 (IsDistinct-tail nat_eq x xs d) (second-false (nat_eq b x) (has b xs) k) (by-other (nat_eq p x) found other)
    ] refl

-- the first number of a path is passed over
skipped : (n f : ℕ → ℕ) (a x : ℕ) (xs : List ℕ) (b : ℕ) → IsPath n f x xs b → has a xs ≡ false → IsDistinct nat_eq xs → has b xs ≡ false → IsPath (changed n a (n x)) (changed f (n x) a) a xs b
skipped n f a x [] b h k d e = (changed-at n a (n x) a refl ∙ h.0, changed-at f (n x) a b h.0)
skipped n f a x (y ∷ ys) b h k d e =
    let moved : nat_eq (n x) b ≡ false = ap (λ (z : ℕ). nat_eq z b) h.0 ∙ flipped b y (first-false (nat_eq b y) (has b ys) e) in
    let gone : has (n x) ys ≡ false = ap (λ (z : ℕ). has z ys) h.0 ∙ head-apart y ys d in (
      changed-at n a (n x) a refl ∙ h.0,
      (
        changed-at f (n x) a y h.0,
        frame-former (changed n a (n x)) f y ys b (n x) a (frame-next n f y ys b a (n x) h.1.1 k) gone moved,
      ),
    )

-- a number is taken out
pub taken-path : (n f : ℕ → ℕ) (a : ℕ) (xs : List ℕ) (b p : ℕ) → IsPath n f a xs b → IsDistinct nat_eq (a ∷ xs) → has b xs ≡ false → has p xs ≡ true
    → IsPath (changed n (f p) (n p)) (changed f (n p) (f p)) a (without p xs) b
taken-path n f a [] b p h d e k = cc
taken-path n f a (x ∷ xs) b p h d e k =
    elim (nat_eq p x) as (λ v. nat_eq p x ≡ v → IsPath (changed n (f p) (n p)) (changed f (n p) (f p)) a (cond (not v) (x ∷ without p xs) (without p xs)) b) [
      | true ↦ λ same.
          let is : p ≡ x = eqb-true p x same in
          let before : f p ≡ a = ap f is ∙ h.1.0 in
          let none : without p xs ≡ xs = without-none p xs (ap (λ (z : ℕ). has z xs) is ∙ head-apart x xs (IsDistinct-tail nat_eq a (x ∷ xs) d)) in
          subst (λ (ys : List ℕ). IsPath (changed n (f p) (n p)) (changed f (n p) (f p)) a ys b) (sym none)
          (subst (λ (z : ℕ). IsPath (changed n z (n p)) (changed f (n p) z) a xs b) (sym before)
          (subst (λ (z : ℕ). IsPath (changed n a (n z)) (changed f (n z) a) a xs b) (sym is)
          (skipped n f a x xs b h.1.1 (second-false (nat_eq a x) (has a xs) (head-apart a (x ∷ xs) d)) (IsDistinct-tail nat_eq x xs (IsDistinct-tail nat_eq a (x ∷ xs) d)) (second-false (nat_eq b x) (has b xs) e))))
      | false ↦ λ other.
          let in_rest : has p xs ≡ true = by-other (nat_eq p x) k other in
          let source : nat_eq (f p) a ≡ false = differ (f p) a (λ z. apart p x other (sym (next-former n f x xs b p h.1.1 in_rest) ∙ ap n z ∙ h.0)) in
          let target : nat_eq (n p) x ≡ false = differ (n p) x (λ z.
          true≢false (sym in_rest ∙ ap (λ (y : ℕ). has y xs) (sym (former-next n f x xs b p h.1.1 in_rest) ∙ ap f z ∙ h.1.0) ∙ second-false (nat_eq a x) (has a xs) (head-apart a (x ∷ xs) d))) in (
            changed-other n (f p) (n p) a source ∙ h.0,
            (
              changed-other f (n p) (f p) x target ∙ h.1.0,
              taken-path n f x xs b p h.1.1 (IsDistinct-tail nat_eq a (x ∷ xs) d) (second-false (nat_eq b x) (has b xs) e) in_rest,
            ),
          )
    ] refl

-- what a walk finds
pub follow-is : (n f : ℕ → ℕ) (a : ℕ) (xs : List ℕ) (b most : ℕ) → IsPath n f a xs b → has b xs ≡ false → length xs < most → follow n most a b ≡ xs
follow-is n f a xs b zero h e room = absurd (omega (arith, room))
follow-is n f a [] b (suc most) h e room = ap (λ (t : Bool). if t then [] else n a ∷ follow n most (n a) b) (eq-eqb (n a) b h.0)
follow-is n f a (x ∷ xs) b (suc most) h e room =
    let other : (x == b) ≡ false = flipped b x (first-false (nat_eq b x) (has b xs) e) in
    ap (λ (z : ℕ). if z == b then [] else z ∷ follow n most z b) h.0
    ∙ ap (λ (t : Bool). if t then [] else x ∷ follow n most x b) other
    ∙ ap (λ (ys : List ℕ). x ∷ ys) (follow-is n f x xs b most h.1.1 (second-false (nat_eq b x) (has b xs) e) (omega (arith, room)))
