use Rattle.subsystem.specs.Keeping.{answer_of}
use Rattle.script_runner.proofs.Entering.{enters}
use Rattle.script_runner.proofs.scripted_machine.enter_from.Goals as goal

pub returns-clause-past : goal.returns-clause-past
returns-clause-past g c =
    let k = c.perform_with in
    enters c.args.core.now k.new.self c.args.seat.now k.new.seat c.args.event.now (answer_of k.result k.new.self.value.history) k.ensures.entered
