use Rattle.std.proofs.Common.{sym, ◌∙◌, ap, List, Option}
use Rattle.chan_model.specs.UnitReports.{unit_work}
use Rattle.chan_model.specs.declared.names.Side.TheVariants.{Second}
use Rattle.subchannel_model.specs.declared.state.Subchannel.{Subchannel}
use Rattle.subchannel_model.specs.Indices.{reached_sub}
use Rattle.machine_model.specs.State.{takes_from, turn_by_work, turn_or}
use Rattle.machine_model.specs.UnitTurns.{UnitTurn}
use Rattle.signal_step.proofs.unit_turns.turn_of_second.Goals as goal

pub returns-in-None : goal.returns-in-None
returns-in-None c = λ s same.
    let u = c.args.unit.now in
    c.turn_of_work.ensures s same
    ∙ ap (λ (t : Option UnitTurn). turn_or t (turn_by_work s c.args.number u (unit_work u)))
    (sym c.in-None.ensures ∙ ap (λ (subs : List Subchannel). takes_from (reached_sub c.args.number Second subs)) (sym same))
