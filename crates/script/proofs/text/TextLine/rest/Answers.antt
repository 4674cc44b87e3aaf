use Rattle.std.proofs.Common.{◌∙◌, ap, sym}
use Rattle.script.specs.Following.{LineSeen}
use Rattle.script.proofs.Following.{none-later, some-later}
use Rattle.script.proofs.text.TextLine.rest.Goals as goal

pub returns-in-empty : goal.returns-in-empty
returns-in-empty c =
    sym (ap (λ (l : LineSeen). l.later) c.self.view_is) ∙ none-later c.self.inside.text.now c.self.inside.length c.self.invariant c.in-empty.len_below

pub returns-in-len1-up : goal.returns-in-len1-up
returns-in-len1-up c =
    sym (ap (λ (l : LineSeen). l.later) c.self.view_is) ∙ some-later c.self.inside.text.now c.self.inside.length c.self.invariant c.in-len1-up.len_at_least
