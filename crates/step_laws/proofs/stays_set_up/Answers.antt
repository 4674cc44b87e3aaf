use Rattle.step_laws.proofs.Blocks.{step-chpids, step-groups, step-return, step-room}
use Rattle.step_laws.proofs.stays_set_up.Goals as goal

pub returns : goal.returns
returns c = record { chpids = step-chpids; groups = step-groups; requests = step-room; path_return = step-return }
