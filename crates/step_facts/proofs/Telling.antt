-- What is told where one fact is added.
use Rattle.std.proofs.Common.{◌≡◌, ◌≤◌, ◌∙◌, refl, ap, ℕ, Bool, true, List, [], ◌∷◌, ◌++◌, drop, length, map, take, append_assoc, Option, Some}
use Rattle.std.proofs.lemmas.List.{append-nil, drop-append-le, map-append, take-append-le}
use Rattle.std.proofs.lemmas.List.Elements.{filter-append, filter_map-append}
use Rattle.std.proofs.lemmas.Option.{same_Some}
use Rattle.std.specs.List.{filter}
use Rattle.step_records.specs.declared.record.Fact.{Fact}
use Rattle.step_records.specs.declared.record.Fact.TheVariants as fact
use Rattle.step_records.specs.declared.record.Record.{Record}
use Rattle.step_records.specs.declared.record.Wire.{Wire}
use Rattle.step_records.specs.declared.record.Moved.{Moved}
use Rattle.step_records.specs.declared.record.Signal.{Signal}
use Rattle.chan_model.specs.declared.hold_state.HoldState.{HoldState}
use Rattle.step_facts.specs.Told.{AnsweredLine, Told, answered_by, facts_where, is_hold, is_move, is_other, only, told_behind, told_of, told_with, with_holds, with_moves}

facts-push : (is : Fact → Bool) (rs : List Record) (r : Record) → facts_where is (rs ++ r ∷ []) ≡ facts_where is rs ++ only is r.fact
facts-push is rs r = ap (filter is) (map-append (λ (x : Record). x.fact) rs (r ∷ [])) ∙ filter-append is (map (λ (x : Record). x.fact) rs) (r.fact ∷ [])

from_parts : (line : ℕ) (before : List Record) (a b : List AnsweredLine) (m n h k : List Fact) → a ≡ b → m ≡ n → h ≡ k →
    (let one : Told = record { line = line; before = before; answers = a; moves = m; holds = h } in
    let two : Told = record { line = line; before = before; answers = b; moves = n; holds = k } in one ≡ two)
from_parts line before a b m n h k p q r = λ i. record { line = line; before = before; answers = p i; moves = q i; holds = r i }

push-behind : (line : ℕ) (before rs : List Record) (f : Fact) →
    told_behind line before (rs ++ record { line = line; fact = f } ∷ []) ≡ told_with (told_behind line before rs) f
push-behind line before rs f =
    let r : Record = record { line = line; fact = f } in
    from_parts line before _ _ _ _ _ _ (filter_map-append (λ (x : Record). answered_by x.line x.fact) rs (r ∷ [])) (facts-push is_move rs r) (facts-push is_hold rs r)

pub told_push : (line first : ℕ) (rs : List Record) (f : Fact) → first ≤ length rs →
    told_of line first (rs ++ record { line = line; fact = f } ∷ []) ≡ told_with (told_of line first rs) f
told_push line first rs f le =
    let r : Record = record { line = line; fact = f } in
    ap (λ (t : List Record). told_behind line t (drop first (rs ++ r ∷ []))) (take-append-le first rs (r ∷ []) le)
    ∙ (ap (λ (t : List Record). told_behind line (take first rs) t) (drop-append-le first rs (r ∷ []) le)
    ∙ push-behind line (take first rs) (drop first rs) f)

-- a fact of no kind tells nothing
pub told_quiet : (told : Told) (f : Fact) → is_other f ≡ true → told_with told f ≡ told
told_quiet told (fact.Answer o) h = cc
told_quiet told (fact.Signal w m s) h = cc
told_quiet told (fact.Hold s b a) h = cc
told_quiet told f h = from_parts told.line told.before _ _ _ _ _ _ (append-nil told.answers) (append-nil told.moves) (append-nil told.holds)

pub told_move : (told : Told) (w : Wire) (m : Moved) (s : Signal) → told_with told (fact.Signal w m s) ≡ with_moves told (fact.Signal w m s ∷ [])
told_move told w m s = from_parts told.line told.before _ _ _ _ _ _ (append-nil told.answers) refl (append-nil told.holds)

pub told_hold : (told : Told) (n : ℕ) (b a : HoldState) → told_with told (fact.Hold n b a) ≡ with_holds told (fact.Hold n b a ∷ [])
told_hold told n b a = from_parts told.line told.before _ _ _ _ _ _ (append-nil told.answers) (append-nil told.moves) refl

pub no_moves : (told : Told) → with_moves told [] ≡ told
no_moves told = from_parts told.line told.before _ _ _ _ _ _ refl (append-nil told.moves) refl

pub same_some : (m n : ℕ) → (let a : Option ℕ = Some m in let b : Option ℕ = Some n in a ≡ b) → m ≡ n
same_some m n = same_Some m n

pub no_holds : (told : Told) → with_holds told [] ≡ told
no_holds told = from_parts told.line told.before _ _ _ _ _ _ refl refl (append-nil told.holds)

pub two_holds : (told : Told) (xs ys : List Fact) → with_holds (with_holds told xs) ys ≡ with_holds told (xs ++ ys)
two_holds told xs ys = from_parts told.line told.before _ _ _ _ _ _ refl refl (append_assoc told.holds xs ys)

pub two_moves : (told : Told) (xs ys : List Fact) → with_moves (with_moves told xs) ys ≡ with_moves told (xs ++ ys)
two_moves told xs ys = from_parts told.line told.before _ _ _ _ _ _ refl (append_assoc told.moves xs ys) refl
