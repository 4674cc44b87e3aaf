-- The steps in which a unit takes its device's answer, and sends what comes of it to the subchannel of its side (own).
use Rattle.std.specs.Prelude.{ℕ, if◌then◌else◌, Option, None, Some, Result, Ok, Err}
use Rattle.chan_model.specs.declared.fault.Fault.{Fault}
use Rattle.chan_model.specs.declared.fault.Fault.TheVariants as fault
use Rattle.chan_model.specs.declared.signal.OnPath.{OnPath}
use Rattle.chan_model.specs.Signals.{Up}
use Rattle.chan_model.specs.declared.unit_state.UnitState.{UnitState}
use Rattle.chan_model.specs.Reports.{Report}
use Rattle.chan_events.specs.declared.reply.Reply.TheVariants as reply
use Rattle.chan_model.specs.UnitTable.{UnitStep}
use Rattle.chan_model.specs.UnitReports.{unit_reports}
use Rattle.subchannel_model.specs.declared.state.Subchannel.{Subchannel}
use Rattle.machine_model.specs.State.{State}
use Rattle.subchannel_model.specs.Indices.{Found, found_at, reached_in}
use Rattle.machine_model.specs.Results.{Outcome, DownResult, at_unit}
use Rattle.subchannel_model.specs.Sending.{carried_by, finds_full, with_any_sent}

-- a report that is taken may send nothing
abbrev pub with_any_up : Subchannel → Option (OnPath Up) → Subchannel
with_any_up sub sends = record sub { wires = record sub.wires { up = with_any_sent sub.wires.up (carried_by sub sends) } }

abbrev pub report_taken : Subchannel → Option UnitStep → Result DownResult Fault
report_taken sub None = Err fault.NotNow
report_taken sub (Some step) =
    if finds_full sub.wires.up (carried_by sub step.sent) then Err fault.WireFull
    else Ok (record { reply = reply.Done; sub = with_any_up sub step.sent; «unit» = step.state })

abbrev pub report_sub : Subchannel → UnitState → Report → Result DownResult Fault
report_sub sub u report = report_taken sub (unit_reports u report)

abbrev pub report_to : State → ℕ → UnitState → Report → Option Found → Outcome
report_to s index u report None = Err fault.NotNow
report_to s index u report (Some f) = at_unit s f.index index (report_sub f.sub u report)

abbrev pub report_at : State → ℕ → Option UnitState → Report → Outcome
report_at s index None report = Err fault.NoSuchUnit
report_at s index (Some u) report = report_to s index u report (found_at s.subs (reached_in index report.side s.subs))
