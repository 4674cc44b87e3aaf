use Rattle.std.proofs.Common.{sym, ◌∙◌, ap, List, Option, Some}
use Rattle.chan_model.specs.UnitReports.{unit_work}
use Rattle.chan_model.specs.declared.names.Side.TheVariants.{First, Second}
use Rattle.subchannel_model.specs.declared.state.Subchannel.{Subchannel}
use Rattle.subchannel_model.specs.Indices.{reached_sub}
use Rattle.machine_model.specs.State.{takes_from, turn_by_work, turn_or}
use Rattle.machine_model.specs.UnitTurns.{UnitTurn}
use Rattle.signal_step.proofs.unit_turns.turn_of_unit.Goals as goal

pub returns-in-None : goal.returns-in-None
returns-in-None c = λ s same.
    let u = c.args.unit.now in
    let second = turn_or (takes_from (reached_sub c.args.number Second s.subs)) (turn_by_work s c.args.number u (unit_work u)) in
    ap (λ (t : UnitTurn). Some t) (sym (c.turn_of_second.ensures s same
    ∙ ap (λ (t : Option UnitTurn). turn_or t second)
    (sym c.in-None.ensures ∙ ap (λ (subs : List Subchannel). takes_from (reached_sub c.args.number First subs)) (sym same))))
