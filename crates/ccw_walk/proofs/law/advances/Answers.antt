use Rattle.std.proofs.Common.{◌∙◌, ap}
use Rattle.ccw_walk.specs.Advancing.{acts_from_next}
use Rattle.ccw_walk.proofs.Advances.{follows, advance_stands, rests}
use Rattle.ccw_walk.proofs.law.advances.Goals as goal

pub returns-clause-two : goal.returns-clause-two
returns-clause-two c = λ storage old address target there moves next.
    ap (acts_from_next storage old) there ∙ follows storage old address target moves next

pub returns-clause-stands : goal.returns-clause-stands
returns-clause-stands c = λ storage old. (rests storage old old.next, advance_stands storage old old.next)
