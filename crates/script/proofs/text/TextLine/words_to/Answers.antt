use Rattle.std.proofs.Common.{◌∙◌, ap, sym, List, ℕ, map, eqb, arith}
use lib.Lanes.{mask_l}
use Rattle.script.specs.Following.{LineSeen}
use Rattle.script.proofs.Seeking.{marks-before}
use Rattle.script.proofs.text.TextLine.words_to.Goals as goal

pub marked_words_to-requires-clause-marked : goal.marked_words_to-requires-clause-marked
marked_words_to-requires-clause-marked g c =
    marks-before c.self.inside.text.now 32 c.self.inside.length c.marks.result (omega arith) c.marks.ensures
    ∙ ap (λ (xs : List ℕ). mask_l (map (λ x. eqb x 32) xs)) (ap (λ (l : LineSeen). l.line) c.self.view_is ∙ sym c.bytes-2.ensures)
