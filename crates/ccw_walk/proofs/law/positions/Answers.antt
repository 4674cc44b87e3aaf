use Rattle.ccw_walk.proofs.Advances.{after_acts-position}
use Rattle.ccw_walk.proofs.law.positions.Goals as goal

pub returns : goal.returns
returns c = after_acts-position
