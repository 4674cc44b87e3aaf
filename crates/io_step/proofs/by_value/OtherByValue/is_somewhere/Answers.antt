use Rattle.io_step.proofs.Somewhere.{has-room-for}
use Rattle.io_step.proofs.by_value.OtherByValue.is_somewhere.Goals as goal

pub returns : goal.returns
returns c = has-room-for c.args.self
