use Rattle.std.proofs.Common.{sym, ◌∙◌}
use Rattle.chan_model.specs.HoldTable.{hold_takes}
use Rattle.chan_model.specs.Lent.{lent_up}
use Rattle.subchannel.proofs.Returned.{back_refused}
use Rattle.subchannel.proofs.returning.come_back.Goals as goal

-- where no Grant was sent
pub returns-else-is_granted-clause-step : goal.returns-else-is_granted-clause-step
returns-else-is_granted-clause-step c =
    back_refused c.args.state.now.state c.args.path (hold_takes c.args.state.now.state.hold c.args.path (lent_up c.args.signal.now) c.args.returns)
    c.by_hold-met.new.state.state c.by_hold-met.result c.by_hold-met.new.sent c.by_hold-met.ensures.step (sym c.is_granted.ensures ∙ c.if-is_granted.false)
