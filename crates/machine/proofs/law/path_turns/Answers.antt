use Rattle.machine.proofs.Choosable.{turn-chooses, turn-rests}
use Rattle.machine.proofs.law.path_turns.Goals as goal

pub returns : goal.returns
returns c = record { chooses = turn-chooses; rests = turn-rests }
