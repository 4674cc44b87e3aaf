use Rattle.std.proofs.lemmas.Result.{err_from_is_err_and}
use Rattle.std.specs.Prelude.{slice_get}
use Rattle.machine_model.specs.State.{unit_turn_of}
use Rattle.script_runner.proofs.Starving.{turn_has_memory}
use Rattle.script_runner.proofs.scripted_machine.ScriptedMachine.take_turn.Goals as goal

pub returns-in_err-write_report-clause-memory : goal.returns-in_err-write_report-clause-memory
returns-in_err-write_report-clause-memory g c =
    let p = err_from_is_err_and c.from_residual.result c.from_residual.ensures.1 in
    let i = c.args.self.now in
    let at = c.args.«unit» in
    let err = c.in_err-write_report in
    rw (p.1, p.2) (λ is. absurd (turn_has_memory i.devices at (slice_get i.waiting at) (unit_turn_of i.past.state at) err.field-0.0 err.ensures.report is))
