-- The bytes of STORE CHANNEL PATH STATUS, as they are made one after another.
use Rattle.std.proofs.Common.{◌≡◌, refl, sym, ◌∙◌, ap, ℕ, ◌+◌, ◌<◌, Bool, List, [], ◌∷◌, ◌++◌, length, take, slice_set, arith}
use Rattle.std.proofs.lemmas.List.{take_more_set}
use Rattle.std.proofs.lemmas.List.FromFn.{map-range_with_len_more}
use Rattle.machine_model.specs.OtherSteps.{engaged_byte, engaged_bytes}

pub engaged-none : (engaged : List Bool) → [] ≡ engaged_bytes engaged 0
unfolding engaged_bytes
engaged-none engaged = refl

engaged-next : (engaged : List Bool) (index : ℕ) → engaged_bytes engaged index ++ engaged_byte engaged index ∷ [] ≡ engaged_bytes engaged (index + 1)
unfolding engaged_bytes
engaged-next engaged index = sym (map-range_with_len_more (engaged_byte engaged) 0 index index (omega arith))

pub engaged-more : (engaged : List Bool) (image : List ℕ) (index byte : ℕ) → index < length image → take index image ≡ engaged_bytes engaged index →
    byte ≡ engaged_byte engaged index → take (index + 1) (slice_set image index byte) ≡ engaged_bytes engaged (index + 1)
engaged-more engaged image index byte within done is =
    take_more_set image index byte within
    ∙ (ap (λ (b : ℕ). take index image ++ b ∷ []) is ∙ (ap (λ (bs : List ℕ). bs ++ engaged_byte engaged index ∷ []) done ∙ engaged-next engaged index))
