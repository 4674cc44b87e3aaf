use Rattle.std.proofs.Common.{sym, ◌∙◌, ap}
use Rattle.chan_model.specs.UnitReports.{report_on}
use Rattle.lookup.specs.Tables.{engaged}
use Rattle.subchannel_model.specs.declared.state.Subchannel.{Subchannel}
use Rattle.signal_step.proofs.Turning.{report-done}
use Rattle.chan_model.specs.Lent.{lent_up}
use Rattle.chan_model.specs.Signals.{map_taken}
use Rattle.signal_step.proofs.turns.report_from.Goals as goal

pub returns : goal.returns
returns c =
    let u = c.args.unit.now in
    let step = report_on u c.args.report.now.number c.args.connection.now u.current c.args.report.now in
    let path = c.path_from-path.ensures c.args.report.now.number in
    record {
      engaged = ap engaged c.send_any_up.ensures;
      state = ap (λ (s : Subchannel). s.state) c.send_any_up.ensures;
      gives = report-done c.args.sub.now c.send_any_up.new.sub u c.report_from-reported.new.self step (map_taken lent_up c.lend-outcome.result)
          (λ e. c.in_default.not-Refused (path ∙ e)) (c.if-report_finds_full.ensures step (sym path)).0
          (c.lend-outcome.ensures ∙ c.report_from-reported.ensures.outcome) c.send_any_up.ensures c.report_from-reported.ensures.state;
    }
