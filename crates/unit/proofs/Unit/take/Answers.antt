use Rattle.std.proofs.Common.{◌∙◌, ap, is_some, sym}
use Rattle.chan_model.specs.Lent.{lent_down, plain_up}
use Rattle.chan_model.specs.Signals.{Up}
use Rattle.chan_model.specs.declared.signal.Taken.{Taken}
use Rattle.chan_model.specs.declared.unit_state.UnitState.{UnitState}
use Rattle.chan_model.specs.UnitTable.{unit_takes}
use Rattle.unit.proofs.Answered.{is_some-map_sent, sends_one, sends_one-unit_takes}
use Rattle.unit.proofs.Apart.{leaves-unit_takes}
use Rattle.unit.proofs.Unit.take.Goals as goal

pub returns-clause-answered : goal.returns-clause-answered
returns-clause-answered c =
    sym (is_some-map_sent plain_up c.takes.result.sent)
    ∙ (ap (λ (t : Taken Up). is_some t.sent) c.takes.ensures.outcome
    ∙ (ap (λ (u : UnitState). sends_one (unit_takes u c.args.side c.args.path (lent_down c.args.signal.now) c.args.may)) c.self.view_is
    ∙ sends_one-unit_takes c.args.self.now c.args.side c.args.path (lent_down c.args.signal.now) c.args.may))

pub returns-clause-other : goal.returns-clause-other
returns-clause-other c =
    rw (c.takes.ensures.state, c.self.view_is)
    (leaves-unit_takes c.args.side c.args.self.now c.args.path (lent_down c.args.signal.now) c.args.may)
