use Rattle.std.proofs.Common.{◌∙◌, sym, ap, ◌++◌}
use Rattle.chan_model.specs.Reports.{Report, report_in}
use Rattle.chan_events.specs.Events.{Event, event_bytes}
use Rattle.chan_events.specs.declared.event.Event.TheVariants as event
use Rattle.chan_events.proofs.event.Event.keep_in.Goals as goal

pub returns-in-Report-clause-kept : goal.returns-in-Report-clause-kept
returns-in-Report-clause-kept c rest =
    ap (λ (e : Event). event.Report c.in-Report.unit (report_in c.keep.result (event_bytes e ++ rest))) c.in-Report.is
    ∙ (ap (λ (r : Report). event.Report c.in-Report.unit r) (c.keep.ensures.kept rest) ∙ sym c.in-Report.is)
