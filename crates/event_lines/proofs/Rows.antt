-- The words behind `report`, where they are as many as there should be.
use Rattle.std.proofs.Common.{◌≡◌, ℕ, ◌-◌, ◌<◌, ◌≤◌, List, [], ◌∷◌, Bor, length, map, take, drop, refl, ap, arith}
use Rattle.std.specs.Prelude.{Err, slice_index_or}
use Rattle.std.proofs.lemmas.List.{take_all}
use Rattle.event_lines.specs.ReportLines.{answer_row, report_of, report_row}
use Rattle.script_rows.specs.declared.words.LineRule.TheVariants.{WrongCount}

abbrev pub Word : Type 0
Word = Bor (List ℕ)

pub too_few : (ws : List Word) → length ws < 6 → Err WrongCount ≡ report_row (map (λ w. w.now) ws)
too_few [] few = refl
too_few (a ∷ []) few = refl
too_few (a ∷ b ∷ []) few = refl
too_few (a ∷ b ∷ c ∷ []) few = refl
too_few (a ∷ b ∷ c ∷ d ∷ []) few = refl
too_few (a ∷ b ∷ c ∷ d ∷ e ∷ []) few = refl
too_few (a ∷ b ∷ c ∷ d ∷ e ∷ f ∷ ws) few = absurd (omega arith)

pub enough : (ws : List Word) (none : Word) → 6 ≤ length ws
    → report_of (slice_index_or ws 0 none).now (slice_index_or ws 1 none).now (slice_index_or ws 2 none).now (slice_index_or ws 3 none).now (slice_index_or ws 4 none).now
    (answer_row (slice_index_or ws 5 none).now (map (λ w. w.now) (take (length ws - 6) (drop 6 ws))))
    ≡ report_row (map (λ w. w.now) ws)
enough [] none many = absurd (omega arith)
enough (a ∷ []) none many = absurd (omega arith)
enough (a ∷ b ∷ []) none many = absurd (omega arith)
enough (a ∷ b ∷ c ∷ []) none many = absurd (omega arith)
enough (a ∷ b ∷ c ∷ d ∷ []) none many = absurd (omega arith)
enough (a ∷ b ∷ c ∷ d ∷ e ∷ []) none many = absurd (omega arith)
enough (a ∷ b ∷ c ∷ d ∷ e ∷ f ∷ ws) none many =
    ap (λ (rest : List Word). report_of a.now b.now c.now d.now e.now (answer_row f.now (map (λ w. w.now) rest))) (take_all (length (a ∷ b ∷ c ∷ d ∷ e ∷ f ∷ ws) - 6) ws (omega arith))
