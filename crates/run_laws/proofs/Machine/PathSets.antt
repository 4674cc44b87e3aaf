-- Which paths are in the sets that a path is chosen from.
use Rattle.std.proofs.Common.{◌≡◌, refl, sym, ◌∙◌, ℕ, zero, suc, ◌<◌, Bool, true, false, not, ◌&&◌, List, arith}
use Rattle.std.proofs.lemmas.Bool.{and_parts, and_from}
use Rattle.std.proofs.lemmas.Option.{get_or_from_slice_get}
use Rattle.chan_model.specs.PathSets.{is_member, each_path, in_both, without}
use Rattle.path_select.specs.Choice.{IsUsable}

pub each-true : (f : ℕ → Bool) (p : ℕ) → is_member (each_path f) p ≡ true → f p ≡ true
each-true f zero e = e
each-true f (suc zero) e = e
each-true f (suc (suc zero)) e = e
each-true f (suc (suc (suc zero))) e = e
each-true f (suc (suc (suc (suc zero)))) e = e
each-true f (suc (suc (suc (suc (suc zero))))) e = e
each-true f (suc (suc (suc (suc (suc (suc zero)))))) e = e
each-true f (suc (suc (suc (suc (suc (suc (suc zero))))))) e = e
each-true f (suc (suc (suc (suc (suc (suc (suc (suc p)))))))) e = absurd (cc e)

pub each-from : (f : ℕ → Bool) (p : ℕ) → p < 8 → f p ≡ true → is_member (each_path f) p ≡ true
each-from f zero l e = e
each-from f (suc zero) l e = e
each-from f (suc (suc zero)) l e = e
each-from f (suc (suc (suc zero))) l e = e
each-from f (suc (suc (suc (suc zero)))) l e = e
each-from f (suc (suc (suc (suc (suc zero))))) l e = e
each-from f (suc (suc (suc (suc (suc (suc zero)))))) l e = e
each-from f (suc (suc (suc (suc (suc (suc (suc zero))))))) l e = e
each-from f (suc (suc (suc (suc (suc (suc (suc (suc p)))))))) l e = absurd (omega (arith, l))

pub both-parts : (a b : List Bool) (p : ℕ) → is_member (in_both a b) p ≡ true → (is_member a p ≡ true) × (is_member b p ≡ true)
both-parts a b p e = and_parts (is_member a p) (is_member b p) (each-true (λ q. is_member a q && is_member b q) p e)

not-true : (b : Bool) → not b ≡ true → b ≡ false
not-true true e = absurd (cc e)
not-true false e = refl

pub without-parts : (a b : List Bool) (p : ℕ) → is_member (without a b) p ≡ true → (is_member a p ≡ true) × (not (is_member b p) ≡ true)
without-parts a b p e = and_parts (is_member a p) (not (is_member b p)) (each-true (λ q. is_member a q && not (is_member b q)) p e)

pub usable-member : (set : List Bool) (p : ℕ) → IsUsable set p → is_member set p ≡ true
usable-member set p u = get_or_from_slice_get set p true false u.1

pub each-within : (f : ℕ → Bool) (p : ℕ) → is_member (each_path f) p ≡ true → p < 8
each-within f zero e = omega arith
each-within f (suc zero) e = omega arith
each-within f (suc (suc zero)) e = omega arith
each-within f (suc (suc (suc zero))) e = omega arith
each-within f (suc (suc (suc (suc zero)))) e = omega arith
each-within f (suc (suc (suc (suc (suc zero))))) e = omega arith
each-within f (suc (suc (suc (suc (suc (suc zero)))))) e = omega arith
each-within f (suc (suc (suc (suc (suc (suc (suc zero))))))) e = omega arith
each-within f (suc (suc (suc (suc (suc (suc (suc (suc p)))))))) e = absurd (cc e)

pub each-not : (f : ℕ → Bool) (p : ℕ) → p < 8 → not (is_member (each_path f) p) ≡ true → f p ≡ false
each-not f p within e = by (f p) refl
  where
    by : (b : Bool) → f p ≡ b → f p ≡ false
    by true h = absurd (cc (sym (not-true (is_member (each_path f) p) e) ∙ each-from f p within h))
    by false h = h

pub both-from : (f : ℕ → Bool) (b : List Bool) (p : ℕ) → is_member (each_path f) p ≡ true → is_member b p ≡ true → is_member (in_both (each_path f) b) p ≡ true
both-from f b p e g =
    each-from (λ q. is_member (each_path f) q && is_member b q) p (each-within f p e) (and_from (is_member (each_path f) p) (is_member b p) e g)
