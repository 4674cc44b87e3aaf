-- Where no other unit is begun, none of the group is.
use Rattle.std.proofs.Common.{◌≡◌, ℕ, ◌+◌, Bool, true, false, ◌&&◌, ◌||◌, ◌==◌, List, [], ◌∷◌, take, drop, refl}
use Rattle.std.specs.List.{list_any}
use Rattle.control_units.specs.declared.Member.{Member}
use Rattle.control_units.specs.Units.{any_other, is_begun, is_begun_in}

pub or-left : (a b : Bool) → (a || b) ≡ false → a ≡ false
or-left true b h = h
or-left false b h = refl

pub or-right : (a b : Bool) → (a || b) ≡ false → b ≡ false
or-right true b h = absurd (cc)
or-right false b h = h

and-left : (a b : Bool) → a ≡ false → (a && b) ≡ false
and-left true b h = absurd (cc)
and-left false b h = refl

neither : (a b : Bool) → a ≡ false → b ≡ false → (a || b) ≡ false
neither true b h k = absurd (cc)
neither false b h k = k

none-in : (g : ℕ) (xs : List Member) → list_any is_begun xs ≡ false → list_any (is_begun_in g) xs ≡ false
none-in g [] h = refl
none-in g (x ∷ xs) h =
    neither (is_begun_in g x) (list_any (is_begun_in g) xs)
    (and-left x.begun (x.group == g) (or-left x.begun (list_any is_begun xs) h))
    (none-in g xs (or-right x.begun (list_any is_begun xs) h))

pub none-other : (g : ℕ) (ms : List Member) (index : ℕ) → any_other is_begun ms index ≡ false → any_other (is_begun_in g) ms index ≡ false
none-other g ms index h =
    let front = none-in g (take index ms) (or-left (list_any is_begun (take index ms)) (list_any is_begun (drop (index + 1) ms)) h) in
    let back = none-in g (drop (index + 1) ms) (or-right (list_any is_begun (take index ms)) (list_any is_begun (drop (index + 1) ms)) h) in
    neither (list_any (is_begun_in g) (take index ms)) (list_any (is_begun_in g) (drop (index + 1) ms)) front back
