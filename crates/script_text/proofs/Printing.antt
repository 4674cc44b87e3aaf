-- Texts of a list's items, put one after the other.
use Rattle.std.proofs.Common.{◌≡◌, refl, ℕ, zero, suc, ◌+◌, ◌-◌, ◌<◌, arith, add-one, Bool, false, List, [], ◌∷◌, ◌++◌, take, drop, length, get_or, sym, ap, ◌∙◌, subst, append-nil}
use Rattle.std.specs.List.{flat_map}
use Rattle.std.proofs.lemmas.List.{take_more, take-append-drop}
use Rattle.std.proofs.lemmas.Grind.{flat_map-append}
use Rattle.std.proofs.KnownBytes.{Appends-nil}
use Rattle.streams.specs.Sinks.{Seen, TakesText, FailsIn, Puts}
use Rattle.streams.proofs.Sinking.{takes_then, fails_then}
use Rattle.script_text.specs.Text.{path_text, engaged_text}

pub same_text : (o n : Seen) (a b : List ℕ) (whole : Bool) → a ≡ b → Puts o a n whole → Puts o b n whole
same_text o n a b whole e p = subst (λ (text : List ℕ). Puts o text n whole) e p

pub failed_so : (o m : Seen) (a b : List ℕ) (whole : Bool) → whole ≡ false → FailsIn o a m → Puts o (a ++ b) m whole
failed_so o m a b whole e f = subst (λ (r : Bool). Puts o (a ++ b) m r) (sym e) (fails_then o m a b f)

flat-more : (f : ℕ → List ℕ) (xs : List ℕ) (x : ℕ) → flat_map f (xs ++ x ∷ []) ≡ flat_map f xs ++ f x
flat-more f xs x = flat_map-append f xs (x ∷ []) ∙ ap (λ (t : List ℕ). flat_map f xs ++ t) (append-nil (f x))

front : (f : ℕ → List ℕ) (xs : List ℕ) (i : ℕ) → i < length xs → flat_map f (take (i + 1) xs) ≡ flat_map f (take i xs) ++ f (get_or xs i 0)
front f xs i lt = ap (flat_map f) (take_more xs i 0 lt) ∙ flat-more f (take i xs) (get_or xs i 0)

pub failed_within : (o m n : Seen) (f : ℕ → List ℕ) (xs : List ℕ) (i : ℕ) → i < length xs
    → TakesText o (flat_map f (take i xs)) m → Puts m (f (get_or xs i 0)) n false → Puts o (flat_map f xs) n false
failed_within o m n f xs i lt t p =
    let whole : flat_map f xs ≡ (flat_map f (take i xs) ++ f (get_or xs i 0)) ++ flat_map f (drop (i + 1) xs) =
    ap (flat_map f) (sym (take-append-drop (i + 1) xs)) ∙ flat_map-append f (take (i + 1) xs) (drop (i + 1) xs)
    ∙ ap (λ (text : List ℕ). text ++ flat_map f (drop (i + 1) xs)) (front f xs i lt) in
    subst (λ (text : List ℕ). Puts o text n false) (sym whole) (fails_then o n _ _ (takes_then o m n _ _ false t p))

-- the text of the channel paths below a number, as it grows
pub took_nothing : (o : Seen) (engaged : List ℕ) → TakesText o (engaged_text engaged 0) o
unfolding engaged_text
took_nothing o engaged = record { bytes = Appends-nil o.bytes; failed = refl }

engaged-next : (engaged : List ℕ) (count : ℕ) → engaged_text engaged (suc count) ≡ engaged_text engaged count ++ path_text engaged count
unfolding engaged_text
engaged-next engaged count = refl

engaged-more : (engaged : List ℕ) (count : ℕ) → engaged_text engaged (count + 1) ≡ engaged_text engaged count ++ path_text engaged count
engaged-more engaged count = ap (engaged_text engaged) (add-one count) ∙ engaged-next engaged count

pub engaged_goes_on : (o m n : Seen) (engaged : List ℕ) (count path : ℕ) (whole : Bool) → path ≡ count
    → TakesText o (engaged_text engaged count) m → Puts m (path_text engaged path) n whole → Puts o (engaged_text engaged (count + 1)) n whole
engaged_goes_on o m n engaged count path whole is t p =
    subst (λ (text : List ℕ). Puts o text n whole) (sym (engaged-more engaged count ∙ ap (λ (k : ℕ). engaged_text engaged count ++ path_text engaged k) (sym is)))
    (takes_then o m n _ _ whole t p)

failed_later : (o n : Seen) (engaged : List ℕ) (count all more : ℕ) → all ≡ count + more
    → FailsIn o (engaged_text engaged count) n → FailsIn o (engaged_text engaged all) n
failed_later o n engaged count all zero is f = subst (λ (c : ℕ). FailsIn o (engaged_text engaged c) n) (omega (arith, is)) f
failed_later o n engaged count all (suc more) is f =
    failed_later o n engaged (count + 1) all more (omega (arith, is))
    (subst (λ (text : List ℕ). FailsIn o text n) (sym (engaged-more engaged count)) (fails_then o n _ (path_text engaged count) f))

-- a sink that fails at one of the channel paths fails in the text of all
pub engaged_failed : (o m n : Seen) (engaged : List ℕ) (count path : ℕ) → count < 256 → path ≡ count
    → TakesText o (engaged_text engaged count) m → Puts m (path_text engaged path) n false → FailsIn o (engaged_text engaged 256) n
engaged_failed o m n engaged count path lt is t p =
    failed_later o n engaged (count + 1) 256 (255 - count) (omega (arith, lt)) (engaged_goes_on o m n engaged count path false is t p)
