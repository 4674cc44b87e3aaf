-- Where no path is lost, the masks stay.
use Rattle.std.proofs.Common.{◌≡◌, refl, ap₂, Bool, true, false, List, [], ◌∷◌}
use Rattle.std.specs.Prelude.{◌&&◌, ◌||◌, not, length}
use Rattle.chan_model.specs.PathSets.{each_path, is_member, is_any, without, joined}

or-first : (x y : Bool) → x || y ≡ false → x ≡ false
or-first true y e = absurd (cc e)
or-first false y e = refl

or-second : (x y : Bool) → x || y ≡ false → y ≡ false
or-second true y e = absurd (cc e)
or-second false y e = e

keeps : (x l : Bool) → l ≡ false → (x && not l) ≡ x
keeps true true e = absurd (cc e)
keeps true false e = refl
keeps false l e = refl

adds : (x l : Bool) → l ≡ false → (x || l) ≡ x
adds true l e = refl
adds false l e = e

abbrev also : Bool → List Bool → List Bool
also x xs = x ∷ xs

-- what leaves a member as it is where the other set has none at its path leaves a set as it is where the other is empty
kept : (op : Bool → Bool → Bool) → ((x l : Bool) → l ≡ false → op x l ≡ x) → (set lost : List Bool) → length set ≡ 8 → is_any lost ≡ false →
    each_path (λ p. op (is_member set p) (is_member lost p)) ≡ set
kept op same [] lost whole none = absurd (cc whole)
kept op same (a ∷ []) lost whole none = absurd (cc whole)
kept op same (a ∷ b ∷ []) lost whole none = absurd (cc whole)
kept op same (a ∷ b ∷ c ∷ []) lost whole none = absurd (cc whole)
kept op same (a ∷ b ∷ c ∷ d ∷ []) lost whole none = absurd (cc whole)
kept op same (a ∷ b ∷ c ∷ d ∷ e ∷ []) lost whole none = absurd (cc whole)
kept op same (a ∷ b ∷ c ∷ d ∷ e ∷ f ∷ []) lost whole none = absurd (cc whole)
kept op same (a ∷ b ∷ c ∷ d ∷ e ∷ f ∷ g ∷ []) lost whole none = absurd (cc whole)
kept op same (a ∷ b ∷ c ∷ d ∷ e ∷ f ∷ g ∷ h ∷ []) lost whole none =
    let r1 = or-second (is_member lost 0) _ none in
    let r2 = or-second (is_member lost 1) _ r1 in
    let r3 = or-second (is_member lost 2) _ r2 in
    let r4 = or-second (is_member lost 3) _ r3 in
    let r5 = or-second (is_member lost 4) _ r4 in
    let r6 = or-second (is_member lost 5) _ r5 in
    let r7 = or-second (is_member lost 6) _ r6 in
    ap₂ also (same a (is_member lost 0) (or-first (is_member lost 0) _ none)) (ap₂ also (same b (is_member lost 1) (or-first (is_member lost 1) _ r1)) (ap₂ also (same c (is_member lost 2) (or-first (is_member lost 2) _ r2)) (ap₂ also (same d (is_member lost 3) (or-first (is_member lost 3) _ r3)) (ap₂ also (same e (is_member lost 4) (or-first (is_member lost 4) _ r4)) (ap₂ also (same f (is_member lost 5) (or-first (is_member lost 5) _ r5)) (ap₂ also (same g (is_member lost 6) (or-first (is_member lost 6) _ r6)) (ap₂ also (same h (is_member lost 7) r7) refl)))))))
kept op same (a ∷ b ∷ c ∷ d ∷ e ∷ f ∷ g ∷ h ∷ i ∷ rest) lost whole none = absurd (cc whole)

pub kept_without : (set lost : List Bool) → length set ≡ 8 → is_any lost ≡ false → without set lost ≡ set
kept_without = kept (λ x l. x && not l) keeps

pub kept_joined : (set lost : List Bool) → length set ≡ 8 → is_any lost ≡ false → joined set lost ≡ set
kept_joined = kept (λ x l. x || l) adds
