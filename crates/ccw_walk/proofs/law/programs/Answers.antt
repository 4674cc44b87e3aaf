use Rattle.std.proofs.Common.{refl}
use Rattle.ccw_walk.specs.Programs.{next}
use Rattle.ccw_walk.proofs.Advances.{program_advance}
use Rattle.ccw_walk.proofs.law.programs.Goals as goal

pub returns : goal.returns
returns c = λ storage orb before program. program_advance storage orb before (next orb before) refl program
