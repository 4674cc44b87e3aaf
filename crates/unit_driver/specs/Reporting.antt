-- What a unit is to report next, and the report of what its device answered (own).
use Rattle.std.specs.Prelude.{◌≡◌, ℕ, Option, None, Some}
use Rattle.chan_model.specs.Reports.{Call, DeviceAnswer, Report, Work, lent_call}
use Rattle.chan_model.specs.declared.chunk.Bytes.{Bytes}
use Rattle.chan_model.specs.declared.report.Call as declared_call
use Rattle.chan_model.specs.declared.names.Side.{Side}
use Rattle.chan_model.specs.declared.report.Work.TheVariants as work
use Rattle.machine_model.specs.UnitTurns.{UnitTurn}
use Rattle.machine_model.specs.declared.state.UnitTurn.TheVariants.{Takes, Works, Away, Rests}
use Rattle.unit_driver.specs.declared.waiting.WaitingReport.{WaitingReport}
use Rattle.unit_driver.specs.declared.reporting.NextReport.{NextReport}
use Rattle.unit_driver.specs.declared.reporting.NextReport.TheVariants.{Told, Asked, Nothing}
use Rattle.unit_driver.specs.declared.turns.OwedCall.{OwedCall}

-- the report of what a device answered to a call that was owed, of the command and chunk of the call
abbrev pub report_of : OwedCall → DeviceAnswer → WaitingReport
report_of owed answer = record {
  «unit» = owed.«unit»;
  report = record { side = owed.side; number = owed.number; command = owed.command; sequence = owed.sequence; answer = answer };
}

-- the call that is owed is made, by the relation of the device between the device before it, the call, its answer and the device after
-- it; this is the report
abbrev pub IsMade : {D : Type 0} → (D → Call → DeviceAnswer → D → Type 0) → OwedCall → D → WaitingReport → D → Type 0
IsMade answers owed old waiting new = (answer : DeviceAnswer) × answers old owed.call answer new × (waiting ≡ report_of owed answer)

-- a call of a unit's device that is asked for, with the command and chunk that it is of
pub record AskedCall : Type 0 where
  pub side : Side
  pub number : ℕ
  pub command : ℕ
  pub sequence : ℕ
  pub call : Call

-- the report of what the device answered to it
abbrev pub answered : AskedCall → DeviceAnswer → Report
answered asked answer = record { side = asked.side; number = asked.number; command = asked.command; sequence = asked.sequence; answer = answer }

-- what the work of a unit is to report: its own report, or the answer to a call
abbrev pub next_by_work : Work → NextReport Report AskedCall
next_by_work (work.Report own) = Told own
next_by_work (work.Call side number command sequence call) =
    Asked (record { side = side; number = number; command = command; sequence = sequence; call = call })

-- what a unit is to report next: what waits for it, else that of its work; nothing where it is to take a signal, is away or rests
abbrev pub next_of : Option WaitingReport → UnitTurn → NextReport Report AskedCall
next_of (Some waiting) turn = Told waiting.report
next_of None (Takes id path) = Nothing
next_of None (Works w) = next_by_work w
next_of None (Away path) = Nothing
next_of None Rests = Nothing

-- what a slot for a report has of it: all, or the command and chunk of the call that is still to be answered
abbrev pub call_in : Report → Call → AskedCall
call_in report call = record { side = report.side; number = report.number; command = report.command; sequence = report.sequence; call = call }

abbrev pub next_in : NextReport Unit (declared_call.Call Bytes) → Report → NextReport Report AskedCall
next_in (Told all) report = Told report
next_in (Asked call) report = Asked (call_in report (lent_call call))
next_in Nothing report = Nothing

-- the report that a unit hands in next, for which its device is called where it is what that answers; none where there is none
abbrev pub IsReported : {D : Type 0} → (D → Call → DeviceAnswer → D → Type 0) → NextReport Report AskedCall → D → Option Report → D → Type 0
IsReported answers (Told own) old report new = (report ≡ Some own) × (new ≡ old)
IsReported answers (Asked asked) old report new = (answer : DeviceAnswer) × answers old asked.call answer new × (report ≡ Some (answered asked answer))
IsReported answers Nothing old report new = (report ≡ None) × (new ≡ old)
