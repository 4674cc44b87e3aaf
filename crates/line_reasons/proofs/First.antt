-- What is told first, and of what nothing is told.
use Rattle.std.proofs.Common.{◌≡◌, ℕ, ◌+◌, ◌-◌, ◌<◌, ◌≤◌, Bool, true, false, List, [], ◌∷◌, ◌++◌, length, ap, ◌∙◌, refl, sym, suc, zero, arith, append_assoc, append-nil, subst, inl, inr, add-one}
use Rattle.std.specs.Prelude.{Option, None, Some}
use Rattle.std.specs.List.{list_any}
use Rattle.script_rows.specs.declared.words.LineRule.{LineRule}
use Rattle.script_rows.specs.declared.words.LineRule.TheVariants.{StorageNotFirst}
use Rattle.script.specs.Parsing.{has_words}
use Rattle.script.specs.Scripts.{fault_at, AreClean, IsFirstBad, IsBad, IsScript, ScriptContents}
use Rattle.line_reasons.specs.Telling.{Told, told_of, told_at, told_until, told, first_told, or_wordless}

worded-at : (lines : List (List ℕ)) (n : ℕ) → list_any has_words lines ≡ true → told_at lines n ≡ fault_at false lines n
worded-at lines n w = ap (λ (b : Bool). or_wordless b (n + 1) (fault_at false lines n)) w

-- of clean lines nothing is told
clean-told : (lines : List (List ℕ)) (n : ℕ) → list_any has_words lines ≡ true → AreClean false lines n → told_until lines n ≡ []
clean-told lines zero w clean = refl
clean-told lines (suc n) w clean =
    ap (λ (ts : List Told). ts ++ told_of (n + 1) (told_at lines n)) (clean-told lines n w (λ k lt. clean k (omega arith)))
    ∙ ap (told_of (n + 1)) (worded-at lines n w ∙ clean n (omega arith))

pub script-told : (lines : List (List ℕ)) (s : ScriptContents) → IsScript false lines s → told lines ≡ []
script-told lines s is = clean-told lines (length lines) is.begun is.clean

first-kept : (ts us : List Told) (t : Told) → first_told ts ≡ Some t → first_told (ts ++ us) ≡ Some t
first-kept [] us t e = absurd (cc e)
first-kept (x ∷ xs) us t e = e

-- what is told first stays the first
first-stays : (lines : List (List ℕ)) (n more : ℕ) (t : Told) → first_told (told_until lines n) ≡ Some t → first_told (told_until lines (n + more)) ≡ Some t
first-stays lines n zero t e =
    let at : n + zero ≡ n = omega arith in
    ap (λ (m : ℕ). first_told (told_until lines m)) at ∙ e
first-stays lines n (suc more) t e =
    let at : n + suc more ≡ suc (n + more) = omega arith in
    ap (λ (m : ℕ). first_told (told_until lines m)) at
    ∙ first-kept (told_until lines (n + more)) (told_of (n + more + 1) (told_at lines (n + more))) t (first-stays lines n more t e)

first-of-all : (lines : List (List ℕ)) (n : ℕ) (t : Told) → n ≤ length lines → first_told (told_until lines n) ≡ Some t → first_told (told lines) ≡ Some t
first-of-all lines n t le e =
    let at : n + (length lines - n) ≡ length lines = omega arith in
    ap (λ (m : ℕ). first_told (told_until lines m)) (sym at) ∙ first-stays lines n (length lines - n) t e

first-bad : (lines : List (List ℕ)) (line : ℕ) (rule : LineRule) → list_any has_words lines ≡ true → IsFirstBad false lines line rule →
    first_told (told lines) ≡ Some (record { line = line; rule = rule })
first-bad lines line rule w is =
    let n = is.before in
    first-of-all lines (suc n) _ (omega (arith, is.within))
    (ap (λ (ts : List Told). first_told (ts ++ told_of (n + 1) (told_at lines n))) (clean-told lines n w is.clean)
    ∙ ap (λ (r : Option LineRule). first_told (told_of (n + 1) r)) (worded-at lines n w ∙ is.broken)
    ∙ ap (λ (m : ℕ). Some (record { line = m; rule = rule })) (sym is.number))

wordless : (lines : List (List ℕ)) → 0 < length lines → list_any has_words lines ≡ false → first_told (told lines) ≡ Some (record { line = 1; rule = StorageNotFirst })
wordless lines some w =
    first-of-all lines 1 _ (omega (arith, some))
    (ap (λ (b : Bool). first_told (told_of 1 (or_wordless b 1 (fault_at false lines 0)))) w)

-- what is told first is the first bad line
pub bad-told : (lines : List (List ℕ)) (line : ℕ) (rule : LineRule) → 0 < length lines → IsBad false lines line rule →
    first_told (told lines) ≡ Some (record { line = line; rule = rule })
bad-told lines line rule some bad = elim bad [
  | inl h ↦ first-bad lines line rule h.0 h.1
  | inr h ↦ wordless lines some h.0
      ∙ ap (λ (n : ℕ). Some (record { line = n; rule = StorageNotFirst })) (sym h.1)
      ∙ ap (λ (r : LineRule). Some (record { line = line; rule = r })) (sym h.2)
]
