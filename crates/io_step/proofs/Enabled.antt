-- The path-management-control word with ISC, D and E one placed in it.
use Rattle.std.proofs.Common.{◌≡◌, ◌<◌, ◌%◌, ◌∙◌, ℕ, Bool, true, false, List, [], ◌∷◌, slice_index, ap, lit<, subst}
use Rattle.std.proofs.Math.Bridge.{le_prop}
use Rattle.std.proofs.lemmas.Nat.{mod_below}
use Rattle.zbits.specs.Bits.{field_of}
use Rattle.schib_block.specs.declared.pmcw.Pmcw.{Pmcw}
use Rattle.schib_block.specs.Modify.{modified}
use Rattle.schib_block.specs.Reading.{flag_of, pmcw_of_words, subclass-lt}
use Rattle.subchannel_model.specs.Enable.{enabling}

keyed : (F : (k : ℕ) → k < 8 → Pmcw) (a b : ℕ) (p : a < 8) (q : b < 8) → a ≡ b → F a p ≡ F b q
keyed F a b p q e = subst (λ (x : ℕ). (h : x < 8) → F a p ≡ F x h) e (λ h. ap (F a) (le_prop p h)) q

abbrev given : List ℕ → ℕ → List ℕ
given words controls = slice_index words 0 ∷ controls ∷ slice_index words 2 ∷ slice_index words 3 ∷ 0 ∷ 0 ∷ 0 ∷ []

enabled-words : (words : List ℕ) (controls subclass : ℕ) (multipath : Bool) → field_of controls 2 4 ≡ subclass % 8 → flag_of controls 8 ≡ true → flag_of controls 13 ≡ multipath →
    modified false (pmcw_of_words words) (pmcw_of_words (given words controls)) ≡ enabling (pmcw_of_words words) subclass multipath
enabled-words words controls subclass multipath s e d =
    let q = pmcw_of_words words in
    keyed (λ k h. record q { subclass = k; subclass_fits = h; enabled = flag_of controls 8; multipath = flag_of controls 13 })
    (field_of controls 2 4) (subclass % 8) (subclass-lt controls) (mod_below subclass 8 (lit< tt)) s
    ∙ (ap (λ (b : Bool). record (enabling q subclass multipath) { enabled = b; multipath = flag_of controls 13 }) e
    ∙ ap (λ (b : Bool). enabling q subclass b) d)

pub enabled-is : (p : Pmcw) (words : List ℕ) (controls subclass : ℕ) (multipath : Bool) → pmcw_of_words words ≡ p →
    field_of controls 2 4 ≡ subclass % 8 → flag_of controls 8 ≡ true → flag_of controls 13 ≡ multipath →
    modified false p (pmcw_of_words (given words controls)) ≡ enabling p subclass multipath
enabled-is p words controls subclass multipath same s e d =
    subst (λ (q : Pmcw). modified false q (pmcw_of_words (given words controls)) ≡ enabling q subclass multipath) same
    (enabled-words words controls subclass multipath s e d)
