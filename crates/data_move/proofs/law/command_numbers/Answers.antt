use Rattle.std.specs.Prelude.{◌+◌, true}
use Rattle.ccw_walk.specs.Positions.{after_command_end}
use Rattle.data_move.proofs.Numbers.{goes_to-new, begun-same, located-same, given-same, absorbed-later, brought-later}
use Rattle.data_move.proofs.law.command_numbers.Goals as goal

pub returns-clause-first : goal.returns-clause-first
returns-clause-first c = λ storage walk. goes_to-new storage 1 walk

pub returns-clause-next : goal.returns-clause-next
returns-clause-next c = λ storage t modifier. goes_to-new storage (t.command + 1) (after_command_end t.walk (record { goes_on = true; modifier = modifier }))

pub returns-clause-begun : goal.returns-clause-begun
returns-clause-begun c = begun-same

pub returns-clause-room : goal.returns-clause-room
returns-clause-room c = located-same

pub returns-clause-given : goal.returns-clause-given
returns-clause-given c = given-same

pub returns-clause-absorbed : goal.returns-clause-absorbed
returns-clause-absorbed c = absorbed-later

pub returns-clause-brought : goal.returns-clause-brought
returns-clause-brought c = brought-later
