-- The words of a block, one by one.
use Rattle.std.proofs.Common.{◌≡◌, ◌<◌, ℕ, List, [], ◌∷◌, slice_index, length, lit<, arith}
use Rattle.zbits.specs.declared.layout.BitField.{BitField}
use Rattle.zbits.specs.Layout.{AllShow}
use Rattle.zbits.specs.Words.{word_at, words_from, words_of}

-- the first seven of the words
pub first_seven : (image words : List ℕ) → ((index : ℕ) → index < 13 → slice_index words index ≡ word_at image index)
    → slice_index words 0 ∷ slice_index words 1 ∷ slice_index words 2 ∷ slice_index words 3 ∷ slice_index words 4 ∷ slice_index words 5 ∷ slice_index words 6 ∷ [] ≡ words_of 7 image
unfolding words_from
first_seven image words same =
    let a = same 0 (lit< tt) in
    let b = same 1 (lit< tt) in
    let c = same 2 (lit< tt) in
    let d = same 3 (lit< tt) in
    let e = same 4 (lit< tt) in
    let f = same 5 (lit< tt) in
    let g = same 6 (lit< tt) in
    cc

-- the three of the subchannel-status word
pub status_three : (image words : List ℕ) → ((index : ℕ) → index < 13 → slice_index words index ≡ word_at image index)
    → slice_index words 7 ∷ slice_index words 8 ∷ slice_index words 9 ∷ [] ≡ words_from 7 3 image
unfolding words_from
status_three image words same =
    let a = same 7 (lit< tt) in
    let b = same 8 (lit< tt) in
    let c = same 9 (lit< tt) in
    cc

-- seven words show what their items show
pub seven_shown : (xs : List ℕ) (tables : List (List BitField)) → length xs ≡ 7
    → AllShow (slice_index xs 0 ∷ slice_index xs 1 ∷ slice_index xs 2 ∷ slice_index xs 3 ∷ slice_index xs 4 ∷ slice_index xs 5 ∷ slice_index xs 6 ∷ []) tables
    → AllShow xs tables
seven_shown (a ∷ b ∷ c ∷ d ∷ e ∷ f ∷ g ∷ []) tables n shown = shown
seven_shown [] tables n shown = absurd (omega (arith, n))
seven_shown (a ∷ []) tables n shown = absurd (omega (arith, n))
seven_shown (a ∷ b ∷ []) tables n shown = absurd (omega (arith, n))
seven_shown (a ∷ b ∷ c ∷ []) tables n shown = absurd (omega (arith, n))
seven_shown (a ∷ b ∷ c ∷ d ∷ []) tables n shown = absurd (omega (arith, n))
seven_shown (a ∷ b ∷ c ∷ d ∷ e ∷ []) tables n shown = absurd (omega (arith, n))
seven_shown (a ∷ b ∷ c ∷ d ∷ e ∷ f ∷ []) tables n shown = absurd (omega (arith, n))
seven_shown (a ∷ b ∷ c ∷ d ∷ e ∷ f ∷ g ∷ h ∷ xs) tables n shown = absurd (omega (arith, n))
