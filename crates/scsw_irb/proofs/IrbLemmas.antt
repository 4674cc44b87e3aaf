-- The sixteen words of an interruption-response block, from its parts.
use Rattle.std.proofs.Common.{◌≡◌, ℕ, List, [], ◌∷◌, ◌++◌, length, slice_index, drop, map, refl, ap, ◌∙◌, arith}
use Rattle.std.specs.Prelude.{replicate}
use Rattle.zbits.specs.Layout.{word_of}
use Rattle.scsw_irb.specs.declared.irb.Irb.{Irb}
use Rattle.scsw_irb.specs.ScswTable.{scsw_tables, extended_table, irb_tables}

first_four : (words : List ℕ) → length words ≡ 16
    → words ≡ slice_index words 0 ∷ slice_index words 1 ∷ slice_index words 2 ∷ slice_index words 3 ∷ drop 4 words
first_four (a ∷ b ∷ c ∷ d ∷ rest) l = refl
first_four [] l = absurd (omega (arith, l))
first_four (a ∷ []) l = absurd (omega (arith, l))
first_four (a ∷ b ∷ []) l = absurd (omega (arith, l))
first_four (a ∷ b ∷ c ∷ []) l = absurd (omega (arith, l))

pub irb_words : (words : List ℕ) (irb : Irb) → length words ≡ 16
    → slice_index words 0 ∷ slice_index words 1 ∷ slice_index words 2 ∷ [] ≡ map word_of (scsw_tables irb.scsw)
    → slice_index words 3 ≡ word_of (extended_table irb.last_path_used)
    → drop 4 words ≡ replicate 12 0
    → words ≡ map word_of (irb_tables irb)
irb_words words irb l status path rest =
    let front = map word_of (scsw_tables irb.scsw) in
    first_four words l
    ∙ ap (λ (xs : List ℕ). xs ++ slice_index words 3 ∷ drop 4 words) status
    ∙ ap (λ (x : ℕ). front ++ x ∷ drop 4 words) path
    ∙ ap (λ (xs : List ℕ). front ++ word_of (extended_table irb.last_path_used) ∷ xs) rest
