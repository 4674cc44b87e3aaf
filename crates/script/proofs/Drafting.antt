-- One more line of a draft.
use Rattle.std.proofs.Common.{◌≡◌, ℕ, ◌+◌, ◌<◌, Bool, true, false, ◌||◌, List, [], ◌∷◌, ◌++◌, length, take, drop, get_or, ap, ◌∙◌, refl, sym, suc, arith, append_assoc, append-nil, subst, inl, inr}
use Rattle.std.specs.Prelude.{not, ◌&&◌, nat_lt, if◌then◌else◌, Option, None, Some, Result, Ok, Err, IfErr, OnOk}
use Rattle.std.specs.List.{list_any, flat_map}
use Rattle.std.proofs.lemmas.List.{take_more, length-drop, length-take-le}
use Rattle.std.proofs.lemmas.List.Folds.{list_any-append}
use Rattle.std.proofs.lemmas.Grind.{flat_map-append}
use Rattle.std.proofs.lemmas.Bool.Decides.{eqb_tells}
use Rattle.channel_config.specs.Setup.{Setup, no_setup}
use Rattle.script_rows.specs.declared.settings.Setting.{Setting}
use Rattle.script_rows.specs.Settings.{configured}
use Rattle.script.specs.declared.Line.{Line}
use Rattle.script.specs.declared.RaceLine.{RaceLine}
use Rattle.script.specs.declared.draft.ScriptBuilder.{ScriptBuilder}
use Rattle.script.specs.Parsing.{Parsed, Nothing, Sets, first_is_storage, parsed, has_words, parsed_words}
use Rattle.script.specs.Pieces.{words_between_blanks}
use Rattle.script_rows.specs.Faults.{Says}
use Rattle.std.specs.Str.{is_utf8}
use Rattle.script.specs.Scripts.{setup_kept, setting_of, action_of, race_of, is_action, set_up, actions_from, latest, race_from, may_race, broken_by, AreClean, fault_at, fault}
use Rattle.script_rows.specs.declared.words.LineFault.{LineFault}
use Rattle.script_rows.specs.declared.words.LineFault.TheVariants as line_fault
use Rattle.script_rows.specs.declared.words.LineRule.{LineRule}
use Rattle.script_rows.specs.declared.words.LineRule.TheVariants.{BadWord, StorageNotFirst}
use Rattle.script.specs.Reading.{BadIn, BreaksRule, bad_by}
use Rattle.script.specs.Drafts.{context, TakesLine, IsNext, IsDraftOf}

or-false : (a : Bool) → (a || false) ≡ a
or-false true = refl
or-false false = refl

any-more : {A : Type 0} (f : A → Bool) (xs : List A) (x : A) → list_any f (xs ++ x ∷ []) ≡ (list_any f xs || f x)
any-more f xs x = list_any-append f xs (x ∷ []) ∙ ap (λ (b : Bool). list_any f xs || b) (or-false (f x))

flat-more : {A B : Type 0} (f : A → List B) (xs : List A) (x : A) → flat_map f (xs ++ x ∷ []) ≡ flat_map f xs ++ f x
flat-more {A} {B} f xs x = flat_map-append f xs (x ∷ []) ∙ ap (λ (t : List B). flat_map f xs ++ t) (append-nil (f x))

set_up-append : (s : Setup) (xs ys : List Setting) → set_up s (xs ++ ys) ≡ set_up (set_up s xs) ys
set_up-append s [] ys = refl
set_up-append s (x ∷ xs) ys = set_up-append (setup_kept s (configured s x)) xs ys

actions-more : (n : ℕ) (xs : List (List ℕ)) (x : List ℕ) → actions_from n (xs ++ x ∷ []) ≡ actions_from n xs ++ action_of (n + length xs) (parsed x)
actions-more n [] x =
    let e : n ≡ n + 0 = omega arith in
    append-nil (action_of n (parsed x)) ∙ ap (λ (m : ℕ). action_of m (parsed x)) e
actions-more n (y ∷ ys) x =
    let e : n + 1 + length ys ≡ n + suc (length ys) = omega arith in
    ap (λ (t : List Line). action_of n (parsed y) ++ t) (actions-more (n + 1) ys x ∙ ap (λ (m : ℕ). actions_from (n + 1) ys ++ action_of m (parsed x)) e)
    ∙ sym (append_assoc (action_of n (parsed y)) (actions_from (n + 1) ys) (action_of (n + suc (length ys)) (parsed x)))

latest-twice : (a b c : Option RaceLine) → latest a (latest b c) ≡ latest (latest a b) c
latest-twice a b None = refl
latest-twice a b (Some c) = refl

latest-none : (a : Option RaceLine) → latest None a ≡ a
latest-none None = refl
latest-none (Some a) = refl

race-more : (n : ℕ) (xs : List (List ℕ)) (x : List ℕ) → race_from n (xs ++ x ∷ []) ≡ latest (race_from n xs) (race_of (n + length xs) (parsed x))
race-more n [] x =
    let e : n ≡ n + 0 = omega arith in
    ap (λ (m : ℕ). race_of m (parsed x)) e ∙ sym (latest-none (race_of (n + 0) (parsed x)))
race-more n (y ∷ ys) x =
    let e : n + 1 + length ys ≡ n + suc (length ys) = omega arith in
    ap (latest (race_of n (parsed y))) (race-more (n + 1) ys x ∙ ap (λ (m : ℕ). latest (race_from (n + 1) ys) (race_of m (parsed x))) e)
    ∙ latest-twice (race_of n (parsed y)) (race_from (n + 1) ys) (race_of (n + suc (length ys)) (parsed x))

same_context : (b b' a a' : Bool) (s s' : Setup) → b ≡ b' → a ≡ a' → s ≡ s'
    → fault (record { begun = b; acted = a; setup = s }) ≡ fault (record { begun = b'; acted = a'; setup = s' })
same_context b b' a a' s s' e f g =
    ap (λ (x : Bool). fault (record { begun = x; acted = a; setup = s })) e ∙ ap (λ (x : Bool). fault (record { begun = b'; acted = x; setup = s })) f
    ∙ ap (λ (x : Setup). fault (record { begun = b'; acted = a'; setup = x })) g

-- what the code's draft finds is what the lines before say
same_fault : (races : Bool) (lines : List (List ℕ)) (i : ℕ) (d : ScriptBuilder) (line : List ℕ) (later : List (List ℕ)) → IsDraftOf races lines i d →
    line ≡ get_or lines i [] → later ≡ drop (i + 1) lines → fault (context d) (may_race races later) line ≡ fault_at races lines i
same_fault races lines i d line later h e after =
    ap (fault (context d) (may_race races later)) e
    ∙ ap (λ (ls : List (List ℕ)). fault (context d) (may_race races ls) (get_or lines i [])) after
    ∙ ap (λ (f : Bool → List ℕ → Option LineRule). f (may_race races (drop (i + 1) lines)) (get_or lines i [])) (same_context _ _ _ _ _ _ h.begun h.acted h.setup)

clean-more : (races : Bool) (lines : List (List ℕ)) (i : ℕ) → AreClean races lines i → fault_at races lines i ≡ None → AreClean races lines (i + 1)
clean-more races lines i h e = λ k lt. elim (eqb_tells k i) [
  | inl w ↦ ap (fault_at races lines) w.1 ∙ e
  | inr w ↦ let ne = w.1 in let lower : k < i = omega arith in h k lower
]

-- the first line that breaks a rule
pub first-bad : (races : Bool) (lines : List (List ℕ)) (i n : ℕ) (f : LineFault) (d : ScriptBuilder) (line : List ℕ) (later : List (List ℕ)) → i < length lines → n ≡ i + 1 →
    line ≡ get_or lines i [] → later ≡ drop (i + 1) lines → IsDraftOf races lines i d → BreaksRule f (fault (context d) (may_race races later) line) →
    BadIn (bad_by n f) races lines
first-bad races lines i n line_fault.NoMemory d line later lt num e after h f = tt
first-bad races lines i n (line_fault.Rule rule) d line later lt num e after h f =
    record { before = i; number = num; within = lt; clean = h.clean; broken = sym (same_fault races lines i d line later h e after) ∙ f }

pub drafted : (races : Bool) (lines : List (List ℕ)) (i n : ℕ) (old new : ScriptBuilder) (line : List ℕ) (later : List (List ℕ)) → i < length lines → n ≡ i + 1 →
    line ≡ get_or lines i [] → later ≡ drop (i + 1) lines → IsDraftOf races lines i old → fault (context old) (may_race races later) line ≡ None →
    IsNext old n line new → IsDraftOf races lines (i + 1) new
drafted races lines i n old new line later lt num e after h f t =
    let grown : take (i + 1) lines ≡ take i lines ++ line ∷ [] = take_more lines i [] lt ∙ ap (λ (l : List ℕ). take i lines ++ l ∷ []) (sym e) in
    let len : length (take i lines) ≡ i = length-take-le i lines (omega arith) in
    let at : n ≡ 1 + length (take i lines) = omega arith in
    record {
      clean = clean-more races lines i h.clean (sym (same_fault races lines i old line later h e after) ∙ f);
      begun = t.begun ∙ ap (λ (b : Bool). b || has_words line) h.begun ∙ sym (any-more has_words (take i lines) line) ∙ ap (list_any has_words) (sym grown);
      acted = t.acted ∙ ap (λ (b : Bool). b || is_action (parsed line)) h.acted ∙ sym (any-more (λ l. is_action (parsed l)) (take i lines) line)
          ∙ ap (list_any (λ l. is_action (parsed l))) (sym grown);
      setup = t.setup ∙ ap (λ (s : Setup). set_up s (setting_of (parsed line))) h.setup
          ∙ sym (set_up-append no_setup (flat_map (λ l. setting_of (parsed l)) (take i lines)) (setting_of (parsed line)))
          ∙ ap (set_up no_setup) (sym (flat-more (λ l. setting_of (parsed l)) (take i lines) line))
          ∙ ap (λ (ls : List (List ℕ)). set_up no_setup (flat_map (λ l. setting_of (parsed l)) ls)) (sym grown);
      lines = t.lines ∙ ap (λ (ls : List Line). ls ++ action_of n (parsed line)) h.lines ∙ ap (λ (m : ℕ). actions_from 1 (take i lines) ++ action_of m (parsed line)) at
          ∙ sym (actions-more 1 (take i lines) line) ∙ ap (actions_from 1) (sym grown);
      race = t.race ∙ ap (λ (r : Option RaceLine). latest r (race_of n (parsed line))) h.race
          ∙ ap (λ (m : ℕ). latest (race_from 1 (take i lines)) (race_of m (parsed line))) at
          ∙ sym (race-more 1 (take i lines) line) ∙ ap (race_from 1) (sym grown);
    }

-- a setting that is taken or refused is what the line says
pub set-ok : (r : Result Unit LineFault) (old new : ScriptBuilder) (setting : Setting) (number : ℕ) (may : Bool) (what : Result Parsed LineRule) → what ≡ Ok (Sets setting) →
    OnOk r ((n : ℕ) (m : Bool) → (broken_by (context old) m (Ok (Sets setting)) ≡ None) × TakesLine old n (Ok (Sets setting)) new) →
    OnOk r ((broken_by (context old) may what ≡ None) × TakesLine old number what new)
set-ok (Ok done) old new setting number may what e h =
    subst (λ (w : Result Parsed LineRule). (broken_by (context old) may w ≡ None) × TakesLine old number w new) (sym e) (h number may)
set-ok (Err fault) old new setting number may what e h = tt

pub set-err : (r : Result Unit LineFault) (old : ScriptBuilder) (setting : Setting) (may : Bool) (what : Result Parsed LineRule) → what ≡ Ok (Sets setting) →
    IfErr r (λ f. (m : Bool) → BreaksRule f (broken_by (context old) m (Ok (Sets setting)))) →
    IfErr r (λ f. BreaksRule f (broken_by (context old) may what))
set-err (Ok done) old setting may what e h = tt
set-err (Err fault) old setting may what e h = subst (λ (w : Result Parsed LineRule). BreaksRule fault (broken_by (context old) may w)) (sym e) (h may)

pub says-of : (r : Option Setting) (setting : Setting) (what : Option (Result Setting LineRule)) → r ≡ Some setting → Says (Ok r) what → what ≡ Some (Ok setting)
says-of r setting what e h = subst (λ (x : Option Setting). Says (Ok x) what) e h

or-true : (b : Bool) → (b || true) ≡ true
or-true true = refl
or-true false = refl

-- a line that has words, and breaks no rule, is taken as its words say
pub record IsWorded (old : ScriptBuilder) (line : List ℕ) (parts : List (List ℕ)) : Type 0 where
  pub worded : has_words line ≡ true
  pub begun : (not old.begun && not (first_is_storage (words_between_blanks line))) ≡ false
  pub readable : (nat_lt 1024 (length line) || not (is_utf8 line)) ≡ false
  pub words : parts ≡ words_between_blanks line

parsed-worded : (old : ScriptBuilder) (line : List ℕ) (words : List (List ℕ)) → IsWorded old line words → parsed line ≡ parsed_words words
parsed-worded old line words is =
    ap (λ (b : Bool). if b then Err BadWord else (if has_words line then parsed_words (words_between_blanks line) else Ok Nothing)) is.readable
    ∙ ap (λ (b : Bool). if b then parsed_words (words_between_blanks line) else Ok Nothing) is.worded ∙ ap parsed_words (sym is.words)

pub taken-clean : (old : ScriptBuilder) (line : List ℕ) (words : List (List ℕ)) (may : Bool) → IsWorded old line words →
    broken_by (context old) may (parsed_words words) ≡ None → fault (context old) may line ≡ None
taken-clean old line words may is none =
    let other = broken_by (context old) may (parsed line) in
    ap (λ (b : Bool). if b && (not old.begun && not (first_is_storage (words_between_blanks line))) then Some StorageNotFirst else other) is.worded
    ∙ ap (λ (b : Bool). if b then Some StorageNotFirst else other) is.begun
    ∙ ap (broken_by (context old) may) (parsed-worded old line words is) ∙ none

pub taken-next : (old mid : ScriptBuilder) (n : ℕ) (line : List ℕ) (words : List (List ℕ)) → IsWorded old line words → TakesLine old n (parsed_words words) mid →
    IsNext old n line (record { config = mid.config; begun = true; acted = mid.acted; lines = mid.lines; race = mid.race })
taken-next old mid n line words is h =
    let what = sym (parsed-worded old line words is) in
    record {
      begun = sym (ap (λ (b : Bool). old.begun || b) is.worded ∙ or-true old.begun);
      acted = h.acted ∙ ap (λ (w : Result Parsed LineRule). old.acted || is_action w) what;
      setup = h.setup ∙ ap (λ (w : Result Parsed LineRule). set_up old.config (setting_of w)) what;
      lines = h.lines ∙ ap (λ (w : Result Parsed LineRule). old.lines ++ action_of n w) what;
      race = h.race ∙ ap (λ (w : Result Parsed LineRule). latest old.race (race_of n w)) what;
    }

-- the draft of all lines, behind the last of which no line follows
pub all-drafted : (races : Bool) (lines : List (List ℕ)) (i : ℕ) (d : ScriptBuilder) → i < length lines → [] ≡ drop (i + 1) lines → IsDraftOf races lines (i + 1) d →
    IsDraftOf races lines (length lines) d
all-drafted races lines i d less e h =
    let none : 0 ≡ length (drop (i + 1) lines) = ap length e in
    let at : i + 1 ≡ length lines = omega (arith, none, length-drop (i + 1) lines) in
    subst (λ (n : ℕ). IsDraftOf races lines n d) at h
