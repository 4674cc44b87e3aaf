use Rattle.std.proofs.Common.{◌∙◌, ◌+◌, ap, sym, List, ℕ, ◌∷◌, take, drop, get_or, map, eqb, arith}
use Rattle.std.proofs.lemmas.List.{drop_more, length-take-le}
use lib.Lanes.{mask_l}
use lib.Count.{count_trailing_zeros}
use Rattle.script.specs.Pieces.{pieces}
use Rattle.script.proofs.Parting.{cut, left}
use Rattle.script.proofs.Seeking.{first_of, first_within, marks-behind}
use Rattle.script.proofs.pieces.split_word.Goals as goal

pub slice_bounds-result-end : goal.slice_bounds-result-end
slice_bounds-result-end c =
    let within = first_within c.args.line.now c.args.blanks c.requires.few c.requires.marked c.requires.some in
    sym (length-take-le (count_trailing_zeros 64 c.args.blanks) c.args.line.now (omega (arith, within)))

pub returns-clause-parts : goal.returns-clause-parts
returns-clause-parts c =
    let line = c.args.line.now in
    let index = count_trailing_zeros 64 c.args.blanks in
    let first = first_of line 32 c.args.blanks c.requires.few c.requires.marked c.requires.some in
    cut 32 line index (get_or line index 0) (drop (index + 1) line) first.before (λ lt. first.found) (drop_more line index 0 first.within)
    ∙ ap (λ (ys : List ℕ). take index line ∷ pieces 32 ys) (sym (left line (index + 1)))

pub returns-clause-marked : goal.returns-clause-marked
returns-clause-marked c =
    let line = c.args.line.now in
    let index = count_trailing_zeros 64 c.args.blanks in
    marks-behind line 32 (index + 1) c.args.blanks c.requires.marked
    ∙ ap (λ (ys : List ℕ). mask_l (map (λ x. eqb x 32) ys)) (sym (left line (index + 1)))
