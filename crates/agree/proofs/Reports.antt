-- What a report does: it leaves all but the command at hand, whose last number rises by at most one.
use Rattle.std.proofs.Common.{◌≤◌, ℕ, ◌+◌, Bool, true, false, Option, None, Some, List, arith}
use Rattle.std.specs.Prelude.{if◌then◌else◌, nat_le, ◌==◌, ◌&&◌, length}
use Rattle.scsw_irb.specs.declared.status.DeviceStatus.{DeviceStatus}
use Rattle.chan_model.specs.Signals.{Load}
use Rattle.chan_model.specs.declared.signal.OnPath.{OnPath}
use Rattle.chan_model.specs.Signals.{Up}
use Rattle.chan_model.specs.Reports.{DeviceAnswer}
use Rattle.chan_model.specs.declared.report.DeviceAnswer.TheVariants.{Begins, Absorbed, Supplied, Again, Ended}
use Rattle.chan_model.specs.Reports.{Report}
use Rattle.chan_model.specs.declared.unit_state.Connection.{Connection}
use Rattle.chan_model.specs.declared.unit_state.Connection.TheVariants.{On, Ask, Away}
use Rattle.chan_model.specs.declared.unit_state.Own.{Own}
use Rattle.chan_model.specs.declared.unit_state.Own.TheVariants.{Idle, Owned}
use Rattle.chan_model.specs.declared.unit_state.Progress.{Progress}
use Rattle.chan_model.specs.declared.unit_state.Progress.TheVariants as progress
use Rattle.chan_model.specs.declared.unit_state.CurrentCommand.{CurrentCommand}
use Rattle.chan_model.specs.declared.unit_state.UnitState.{UnitState}
use Rattle.chan_model.specs.Sides.{same_side}
use Rattle.chan_model.specs.UnitTable.{UnitStep}
use Rattle.chan_model.specs.UnitReports.{unit_reports, report_of, report_on, answer_taken, command_begun, report_supplied, end_sent, may_end, shown_end, is_outward, is_to_supply, most_of, report_absorbed, sent_again}
use Rattle.unit.specs.UnitWords.{last_sequence}

-- what holds of none, and of each step to another state of the command at hand, holds of what a unit does with a report
module _ (P : Option UnitStep → Type 0) (u : UnitState) (none : P None)
    (by : (y : CurrentCommand) (sent : Option (OnPath Up)) → y.sequence ≤ last_sequence u.current + 1 → P (Some (record { state = record u { current = Some y }; sent = sent }))) where
  by_if : (b : Bool) (s t : Option UnitStep) → P s → P t → P (if b then s else t)
  by_if true s t h k = h
  by_if false s t h k = k

  at_begin : (p t c : ℕ) (x : CurrentCommand) → x.sequence ≤ last_sequence u.current → P (command_begun u p t c x)
  at_begin p t c x le = by_if (is_outward x.code) _ _ (by _ _ (omega arith)) (by _ None (omega arith))

  at_bytes : (p t c : ℕ) (x : CurrentCommand) (given : Option (List ℕ)) (count : ℕ) → x.sequence ≤ last_sequence u.current → P (report_absorbed u p t c x given count)
  at_bytes p t c x None count le = none
  at_bytes p t c x (Some bytes) count le = by_if (nat_le count (length bytes)) _ None (by _ _ (omega arith)) none

  at_supplied : (p t c : ℕ) (x : CurrentCommand) (bytes : List ℕ) → x.sequence ≤ last_sequence u.current → P (report_supplied u p t c x bytes)
  at_supplied p t c x bytes le = by_if (is_to_supply x && nat_le (length bytes) (most_of x)) _ None (by _ _ (omega arith)) none

  at_again : (p t c : ℕ) (x : CurrentCommand) (load : Option Load) → x.sequence ≤ last_sequence u.current → P (sent_again u p t c x load)
  at_again p t c x None le = none
  at_again p t c x (Some load) le = by_if x.again _ None (by _ _ (omega arith)) none

  at_end : (p t : ℕ) (x : CurrentCommand) (b : Bool) (status : DeviceStatus) (more : Bool) → x.sequence ≤ last_sequence u.current → P (if b then end_sent u p t x status more else None)
  at_end p t x b status more le = by_if b (end_sent u p t x status more) None (by _ _ (omega arith)) none

  at_answer : (p t c : ℕ) (x : CurrentCommand) (at : Progress) (answer : DeviceAnswer) → x.sequence ≤ last_sequence u.current → P (answer_taken u p t c x at answer)
  at_answer p t c x progress.New (Ended status more) le = at_end p t x (may_end u.halted x progress.New status more) (shown_end progress.New status) more le
  at_answer p t c x progress.Working (Ended status more) le = at_end p t x (may_end u.halted x progress.Working status more) (shown_end progress.Working status) more le
  at_answer p t c x progress.ChannelEnded (Ended status more) le = at_end p t x (may_end u.halted x progress.ChannelEnded status more) (shown_end progress.ChannelEnded status) more le
  at_answer p t c x progress.Ended (Ended status more) le = none
  at_answer p t c x progress.New Begins le = at_begin p t c x le
  at_answer p t c x progress.Working Begins le = none
  at_answer p t c x progress.ChannelEnded Begins le = none
  at_answer p t c x progress.Ended Begins le = none
  at_answer p t c x progress.New (Absorbed count) le = none
  at_answer p t c x progress.Working (Absorbed count) le = at_bytes p t c x x.unabsorbed count le
  at_answer p t c x progress.ChannelEnded (Absorbed count) le = none
  at_answer p t c x progress.Ended (Absorbed count) le = none
  at_answer p t c x progress.New (Supplied bytes) le = none
  at_answer p t c x progress.Working (Supplied bytes) le = at_supplied p t c x bytes le
  at_answer p t c x progress.ChannelEnded (Supplied bytes) le = none
  at_answer p t c x progress.Ended (Supplied bytes) le = none
  at_answer p t c x progress.New Again le = none
  at_answer p t c x progress.Working Again le = at_again p t c x x.unanswered le
  at_answer p t c x progress.ChannelEnded Again le = none
  at_answer p t c x progress.Ended Again le = none

  at_index : (t : ℕ) (connection : Connection) (current : Option CurrentCommand) (r : Report) → last_sequence current ≤ last_sequence u.current → P (report_on u t connection current r)
  at_index t (On p c) (Some x) r le = by_if (r.sequence == x.sequence) _ None (at_answer p t c x x.progress r.answer le) none
  at_index t (On p c) None r le = none
  at_index t (Ask p c) (Some x) r le = none
  at_index t (Ask p c) None r le = none
  at_index t (Away c) (Some x) r le = none
  at_index t (Away c) None r le = none

  at_own : (o : Own) (r : Report) → P (report_of u o r)
  at_own Idle r = none
  at_own (Owned k t connection) r =
      by_if (same_side k r.side && ((r.number == t) && (r.command == u.last_command))) _ None (at_index t connection u.current r (omega arith)) none

  pub at_report : (r : Report) → P (unit_reports u r)
  at_report r = at_own u.own r
