-- Rows: blanks that wait, and how far a row goes on.
use Rattle.std.proofs.Common.{◌≡◌, ℕ, zero, suc, ◌+◌, ◌-◌, ◌<◌, ◌≤◌, ◌==◌, Bool, true, false, List, [], ◌∷◌, ◌++◌, length, take, replicate, refl, sym, ap, ◌∙◌, subst, arith, add-one, append-nil, append_assoc, if◌then◌else◌}
use Rattle.std.proofs.KnownBytes.{Appends-nil}
use Rattle.std.proofs.lemmas.List.{replicate_more, take-replicate}
use Rattle.std.proofs.lemmas.Bool.{eqb-true, eqb-false}
use Rattle.streams.specs.Sinks.{Seen, TakesText, FailsIn, Puts}
use Rattle.streams.proofs.Sinking.{takes_then, fails_then}
use Rattle.text_cells.specs.Characters.{without_last, is_cut, repeated, after_blanks, still_waiting, shown}

-- a text so many times, as it grows
pub repeated_none : (o : Seen) (text : List ℕ) → TakesText o (repeated 0 text) o
unfolding repeated
repeated_none o text = record { bytes = Appends-nil o.bytes; failed = refl }

repeated-next : (text : List ℕ) (times : ℕ) → repeated (suc times) text ≡ repeated times text ++ text
unfolding repeated
repeated-next text times = refl

repeated-more : (text : List ℕ) (times : ℕ) → repeated (times + 1) text ≡ repeated times text ++ text
repeated-more text times = ap (λ (n : ℕ). repeated n text) (add-one times) ∙ repeated-next text times

pub repeated_goes_on : (o m n : Seen) (text : List ℕ) (times : ℕ) (whole : Bool)
    → TakesText o (repeated times text) m → Puts m text n whole → Puts o (repeated (times + 1) text) n whole
repeated_goes_on o m n text times whole t p =
    subst (λ (all : List ℕ). Puts o all n whole) (sym (repeated-more text times)) (takes_then o m n (repeated times text) text whole t p)

failed_later : (o n : Seen) (text : List ℕ) (times all more : ℕ) → all ≡ times + more
    → FailsIn o (repeated times text) n → FailsIn o (repeated all text) n
failed_later o n text times all zero is f = subst (λ (c : ℕ). FailsIn o (repeated c text) n) (omega (arith, is)) f
failed_later o n text times all (suc more) is f =
    failed_later o n text (times + 1) all more (omega (arith, is))
    (subst (λ (all : List ℕ). FailsIn o all n) (sym (repeated-more text times)) (fails_then o n (repeated times text) text f))

pub repeated_failed : (o m n : Seen) (text : List ℕ) (times all : ℕ) → times < all
    → TakesText o (repeated times text) m → Puts m text n false → Puts o (repeated all text) n false
repeated_failed o m n text times all lt t p =
    failed_later o n text (times + 1) all (all - (times + 1)) (omega (arith, lt)) (repeated_goes_on o m n text times false t p)

-- a byte so many times
repeated-byte : (byte count : ℕ) → repeated count (byte ∷ []) ≡ replicate count byte
unfolding repeated
repeated-byte byte zero = refl
repeated-byte byte (suc count) = ap (λ (t : List ℕ). t ++ byte ∷ []) (repeated-byte byte count) ∙ replicate_more count byte ∙ ap (λ (n : ℕ). replicate n byte) (add-one count)

pub few_blanks : (o n : Seen) (count : ℕ) (whole : Bool) → count ≤ 64 → Puts o (take count (replicate 64 32)) n whole → Puts o (repeated count (32 ∷ [])) n whole
few_blanks o n count whole few p =
    subst (λ (text : List ℕ). Puts o text n whole) (take-replicate count 64 32 few ∙ sym (repeated-byte 32 count)) p

-- blanks before a text
pub empty_text : (o : Seen) (blanks : ℕ) (text : List ℕ) → (length text == 0) ≡ true → Puts o (after_blanks blanks text) o true
empty_text o blanks [] is = record { bytes = Appends-nil o.bytes; failed = refl }
empty_text o blanks (byte ∷ rest) is = absurd (omega (arith, eqb-true (length (byte ∷ rest)) 0 is))

pub some_text : (o n : Seen) (blanks : ℕ) (text : List ℕ) (whole : Bool) → (length text == 0) ≡ false
    → Puts o (repeated blanks (32 ∷ []) ++ text) n whole → Puts o (after_blanks blanks text) n whole
some_text o n blanks [] whole is p = absurd (eqb-false 0 0 is refl)
some_text o n blanks (byte ∷ rest) whole is p = p

pub some_left : (blanks : ℕ) (text : List ℕ) → (length text == 0) ≡ false → 0 ≡ still_waiting blanks text
some_left blanks [] is = absurd (eqb-false 0 0 is refl)
some_left blanks (byte ∷ rest) is = refl

-- a text and then another
pub then_more : (o m n : Seen) (blanks : ℕ) (text more : List ℕ) (whole : Bool) → TakesText o (after_blanks blanks text) m
    → Puts m (after_blanks (still_waiting blanks text) more) n whole → Puts o (after_blanks blanks (text ++ more)) n whole
unfolding repeated
then_more o m n blanks [] more whole t p = takes_then o m n [] (after_blanks blanks more) whole t p
then_more o m n blanks (byte ∷ rest) [] whole t p =
    subst (λ (all : List ℕ). Puts o all n whole) (append_assoc (repeated blanks (32 ∷ [])) (byte ∷ rest) [])
    (takes_then o m n (repeated blanks (32 ∷ []) ++ byte ∷ rest) [] whole t p)
then_more o m n blanks (byte ∷ rest) (b ∷ bs) whole t p =
    subst (λ (all : List ℕ). Puts o all n whole) (append_assoc (repeated blanks (32 ∷ [])) (byte ∷ rest) (b ∷ bs))
    (takes_then o m n (repeated blanks (32 ∷ []) ++ byte ∷ rest) (b ∷ bs) whole t p)

-- the text of a cell that was cut, and its mark
pub cut_text : (o m n : Seen) (blanks waiting : ℕ) (failed : Bool) (text first mark : List ℕ) (whole : Bool)
    → is_cut failed text ≡ true → first ≡ shown failed text [] → waiting ≡ still_waiting blanks first
    → TakesText o (after_blanks blanks first) m → Puts m (after_blanks waiting mark) n whole
    → Puts o (after_blanks blanks (shown failed text mark)) n whole
cut_text o m n blanks waiting failed text first mark whole e is w t p =
    let kept : first ≡ without_last text = is ∙ ap (λ (b : Bool). if b then without_last text ++ [] else text) e ∙ append-nil (without_last text) in
    subst (λ (all : List ℕ). Puts o (after_blanks blanks all) n whole)
    (ap (λ (xs : List ℕ). xs ++ mark) kept ∙ sym (ap (λ (b : Bool). if b then without_last text ++ mark else text) e))
    (then_more o m n blanks first mark whole t (subst (λ (k : ℕ). Puts m (after_blanks k mark) n whole) w p))
