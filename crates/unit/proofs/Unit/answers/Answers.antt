use Rattle.std.proofs.Common.{◌∙◌, sym, ap}
use Rattle.chan_model.specs.Lent.{lent_down}
use Rattle.chan_model.specs.declared.unit_state.UnitState.{UnitState}
use Rattle.chan_model.specs.UnitTable.{unit_takes}
use Rattle.unit.proofs.Answered.{sends_one, sends_one-unit_takes}
use Rattle.unit.proofs.AnswerPaths.{takes-path}
use Rattle.unit.proofs.Unit.answers.Goals as goal

pub returns-clause-answers : goal.returns-clause-answers
returns-clause-answers c = λ path may.
    (c.answers.ensures ∙ sym (sends_one-unit_takes c.self.inside.state c.args.side path (lent_down c.args.signal.now) may))
    ∙ ap (λ (u : UnitState). sends_one (unit_takes u c.args.side path (lent_down c.args.signal.now) may)) c.self.view_is

pub returns-clause-path : goal.returns-clause-path
returns-clause-path c = λ path may. takes-path c.args.self.now c.args.side (lent_down c.args.signal.now) path may
