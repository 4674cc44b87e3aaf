use Rattle.std.proofs.Common.{◌∙◌, ap}
use Rattle.chan_model.specs.declared.names.Side.{Side}
use Rattle.chan_model.specs.UnitTable.{outcome_of, unit_takes}
use Rattle.chan_model.specs.Lent.{lent_down}
use Rattle.std.specs.Prelude.{is_some}
use Rattle.unit.proofs.AnswerPaths.{takes-path}
use Rattle.signal_step.proofs.Answered.{tells_answered, tells_room}
use Rattle.signal_step.proofs.turns.answer_finds_full.Goals as goal

pub returns-else-finds_up_full : goal.returns-else-finds_up_full
returns-else-finds_up_full c = λ may.
    let sub = c.args.sub.now in
    let signal = lent_down c.args.signal.now in
    tells_room sub.state.pmcw.available sub.wires.up (outcome_of (unit_takes c.args.unit.now sub.setup.side c.args.path signal may)).sent c.args.path c.finds_up_full.result
    c.if-finds_up_full.false (takes-path c.args.unit.now sub.setup.side signal c.args.path may) c.finds_up_full.ensures

pub returns-then-finds_up_full : goal.returns-then-finds_up_full
returns-then-finds_up_full c = λ may.
    let sub = c.args.sub.now in
    let signal = lent_down c.args.signal.now in
    tells_answered sub.state.pmcw.available sub.wires.up (outcome_of (unit_takes c.args.unit.now sub.setup.side c.args.path signal may)).sent c.args.path c.finds_up_full.result c.answers.result
    c.if-finds_up_full.true
    (c.answers.ensures.answers c.args.path may ∙ ap (λ (side : Side). is_some (outcome_of (unit_takes c.args.unit.now side c.args.path signal may)).sent) c.reached_side.ensures)
    (takes-path c.args.unit.now sub.setup.side signal c.args.path may) c.finds_up_full.ensures
