-- The lines of a text, one after the other.
use Rattle.std.proofs.Common.{◌≡◌, ℕ, ◌+◌, ◌<◌, ◌≤◌, Bool, true, false, ◌||◌, List, [], ◌∷◌, ◌++◌, length, take, drop, get_or, map, ap, ◌∙◌, refl, sym, suc, zero, arith, append_assoc, append-nil, subst, inl, inr, add-one}
use Rattle.std.specs.Prelude.{not, ◌&&◌, if◌then◌else◌, Option, None, Some, Result, Ok, Err, is_some, ◌==◌}
use Rattle.std.specs.List.{list_any, flat_map}
use Rattle.std.proofs.lemmas.List.{take_more, length-drop, length-take-le}
use Rattle.std.proofs.lemmas.List.Folds.{list_any-append}
use Rattle.std.proofs.lemmas.Grind.{flat_map-append}
use Rattle.channel_config.specs.Setup.{Setup, no_setup}
use Rattle.script_rows.specs.declared.settings.Setting.{Setting}
use Rattle.script_rows.specs.declared.words.LineRule.{LineRule}
use Rattle.script_rows.specs.Settings.{configured}
use Rattle.script.specs.Parsing.{parsed, has_words}
use Rattle.script.specs.Scripts.{setup_kept, setting_of, is_action, set_up, fault, fault_at, may_race, context_of}
use Rattle.line_reasons.specs.declared.checker.Checking.{Checking}
use Rattle.line_reasons.specs.declared.checker.Checking.TheVariants.{Text}
use Rattle.line_reasons.specs.Verdicts.{Checked, context, counted, spoken_of, after, after_spoken, unchecked}
use Rattle.line_reasons.specs.Telling.{Told, told_of, told_at, told_next, told_until, told, or_wordless}
use Rattle.line_reasons.proofs.Judging.{acted-after, settings-after}

or-false : (a : Bool) → (a || false) ≡ a
or-false true = refl
or-false false = refl

any-more : {A : Type 0} (f : A → Bool) (xs : List A) (x : A) → list_any f (xs ++ x ∷ []) ≡ (list_any f xs || f x)
any-more f xs x = list_any-append f xs (x ∷ []) ∙ ap (λ (b : Bool). list_any f xs || b) (or-false (f x))

flat-more : {A B : Type 0} (f : A → List B) (xs : List A) (x : A) → flat_map f (xs ++ x ∷ []) ≡ flat_map f xs ++ f x
flat-more {A} {B} f xs x = flat_map-append f xs (x ∷ []) ∙ ap (λ (t : List B). flat_map f xs ++ t) (append-nil (f x))

set_up-append : (s : Setup) (xs ys : List Setting) → set_up s (xs ++ ys) ≡ set_up (set_up s xs) ys
set_up-append s [] ys = refl
set_up-append s (x ∷ xs) ys = set_up-append (setup_kept s (configured s x)) xs ys

-- what the first i lines of a text have made, bad ones too
pub record IsCheckedAt (lines : List (List ℕ)) (i : ℕ) (c : Checked) : Type 0 where
  pub checking : c.checking ≡ Text
  pub begun : c.begun ≡ list_any has_words (take i lines)
  pub acted : is_some c.first_action ≡ list_any (λ line. is_action (parsed line)) (take i lines)
  pub setup : c.setup ≡ set_up no_setup (flat_map (λ line. setting_of (parsed line)) (take i lines))

pub unchecked-at : (lines : List (List ℕ)) (c : Checked) → c ≡ unchecked Text → IsCheckedAt lines 0 c
unchecked-at lines c e = subst (IsCheckedAt lines 0) (sym e) (record { checking = refl; begun = refl; acted = refl; setup = refl })

counted-next : (lines : List (List ℕ)) (i n : ℕ) (old : Checked) (line : List ℕ) → i < length lines → line ≡ get_or lines i [] →
    IsCheckedAt lines i old → IsCheckedAt lines (i + 1) (counted old n (spoken_of line))
counted-next lines i n old line lt e h =
    let grown : take (i + 1) lines ≡ take i lines ++ line ∷ [] = take_more lines i [] lt ∙ ap (λ (l : List ℕ). take i lines ++ l ∷ []) (sym e) in
    record {
      checking = h.checking;
      begun = ap (λ (b : Bool). b || has_words line) h.begun ∙ sym (any-more has_words (take i lines) line) ∙ ap (list_any has_words) (sym grown);
      acted = acted-after old.first_action n line ∙ ap (λ (b : Bool). b || is_action (parsed line)) h.acted
          ∙ sym (any-more (λ l. is_action (parsed l)) (take i lines) line) ∙ ap (list_any (λ l. is_action (parsed l))) (sym grown);
      setup = ap (set_up old.setup) (settings-after line) ∙ ap (λ (s : Setup). set_up s (setting_of (parsed line))) h.setup
          ∙ sym (set_up-append no_setup (flat_map (λ l. setting_of (parsed l)) (take i lines)) (setting_of (parsed line)))
          ∙ ap (set_up no_setup) (sym (flat-more (λ l. setting_of (parsed l)) (take i lines) line))
          ∙ ap (λ (ls : List (List ℕ)). set_up no_setup (flat_map (λ l. setting_of (parsed l)) ls)) (sym grown);
    }

pub checked-next : (lines : List (List ℕ)) (i n : ℕ) (old new : Checked) (line : List ℕ) → i < length lines → line ≡ get_or lines i [] →
    IsCheckedAt lines i old → new ≡ after old n line → IsCheckedAt lines (i + 1) new
checked-next lines i n old new line lt e h step =
    subst (IsCheckedAt lines (i + 1)) (sym (step ∙ ap (λ (k : Checking). after_spoken old k n (spoken_of line)) h.checking))
    (counted-next lines i n old line lt e h)

same_context : (b b' a a' : Bool) (s s' : Setup) → b ≡ b' → a ≡ a' → s ≡ s'
    → fault (record { begun = b; acted = a; setup = s }) ≡ fault (record { begun = b'; acted = a'; setup = s' })
same_context b b' a a' s s' e f g =
    ap (λ (x : Bool). fault (record { begun = x; acted = a; setup = s })) e ∙ ap (λ (x : Bool). fault (record { begun = b'; acted = x; setup = s })) f
    ∙ ap (λ (x : Setup). fault (record { begun = b'; acted = a'; setup = x })) g

-- what the checker finds is what all the lines before say
same-fault : (lines : List (List ℕ)) (i : ℕ) (c : Checked) (line : List ℕ) → line ≡ get_or lines i [] → IsCheckedAt lines i c →
    fault (context c) false line ≡ fault_at false lines i
same-fault lines i c line e h =
    ap (fault (context c) false) e
    ∙ ap (λ (f : Bool → List ℕ → Option LineRule). f false (get_or lines i [])) (same_context _ _ _ _ _ _ h.begun h.acted h.setup)

-- one line more is told
pub told-next : (lines : List (List ℕ)) (i n : ℕ) (some_words : Bool) (c : Checked) (line : List ℕ) (before now : List Told) →
    n ≡ i + 1 → some_words ≡ list_any has_words lines → line ≡ get_or lines i [] → IsCheckedAt lines i c → before ≡ told_until lines i →
    now ≡ before ++ told_of n (told_next some_words c n line) → now ≡ told_until lines (i + 1)
told-next lines i n some_words c line before now num words e h so step =
    step ∙ ap (λ (ts : List Told). ts ++ told_of n (told_next some_words c n line)) so
    ∙ ap (λ (r : Option LineRule). told_until lines i ++ told_of n (or_wordless some_words n r)) (same-fault lines i c line e h)
    ∙ ap (λ (w : Bool). told_until lines i ++ told_of n (or_wordless w n (fault_at false lines i))) words
    ∙ ap (λ (m : ℕ). told_until lines i ++ told_of m (or_wordless (list_any has_words lines) m (fault_at false lines i))) num
    ∙ ap (told_until lines) (sym (add-one i))

-- behind the last line all is told
pub told-all : (lines : List (List ℕ)) (i n : ℕ) (some_words : Bool) (c : Checked) (line : List ℕ) (before now : List Told) →
    n ≡ i + 1 → some_words ≡ list_any has_words lines → line ≡ get_or lines i [] → IsCheckedAt lines i c → before ≡ told_until lines i →
    now ≡ before ++ told_of n (told_next some_words c n line) → i < length lines → [] ≡ drop (i + 1) lines → now ≡ told lines
told-all lines i n some_words c line before now num words e h so step less none =
    let empty : 0 ≡ length (drop (i + 1) lines) = ap length none in
    let at : i + 1 ≡ length lines = omega (arith, empty, less, length-drop (i + 1) lines) in
    told-next lines i n some_words c line before now num words e h so step ∙ ap (told_until lines) at
