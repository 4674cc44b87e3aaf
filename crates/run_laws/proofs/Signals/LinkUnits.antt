-- A unit sends Cleared as an answer to its Reset alone: no Cleared has a number of a Reset that was not sent.
use Rattle.std.proofs.Common.{ℕ, ◌≤◌, ◌==◌, ◌&&◌, nat_le, Bool, true, false, not, Option, None, Some, List, length, if◌then◌else◌}
use Rattle.chan_model.specs.declared.names.Side.{Side}
use Rattle.chan_model.specs.Reports.{DeviceAnswer, Report}
use Rattle.chan_model.specs.declared.report.DeviceAnswer.TheVariants as answer
use Rattle.chan_model.specs.Signals.{Down, Load, Up}
use Rattle.chan_model.specs.declared.signal.Down.TheVariants as down
use Rattle.chan_model.specs.declared.signal.OnPath.{OnPath}
use Rattle.chan_model.specs.declared.unit_state.CurrentCommand.{CurrentCommand}
use Rattle.chan_model.specs.declared.unit_state.Own.{Own}
use Rattle.chan_model.specs.declared.unit_state.Own.TheVariants as own
use Rattle.chan_model.specs.declared.unit_state.Connection.{Connection}
use Rattle.chan_model.specs.declared.unit_state.Connection.TheVariants as connection
use Rattle.chan_model.specs.declared.unit_state.Progress.{Progress}
use Rattle.chan_model.specs.declared.unit_state.Progress.TheVariants as progress
use Rattle.chan_model.specs.declared.unit_state.UnitState.{UnitState}
use Rattle.chan_model.specs.Sides.{same_side}
use Rattle.chan_model.specs.UnitReports.{is_outward, may_end, most_of, is_to_supply, command_begun, answer_taken, report_on, report_of, unit_reports, report_absorbed, sent_again}
use Rattle.chan_model.specs.UnitTable.{UnitStep, outcome_of, side_of, telling, unit_takes, leaving_from, leaving, asking_from, asking, is_idle}
use Rattle.chan_model.proofs.TakenSignals.{Takes, Ignores, Notices, Accepts, Denies, Begins, Joins, Leaves, Parts, Answers, Gives, Halts, Frees, Resets, Forgets, takes-by}
use Rattle.chan_events.specs.declared.event.UnitAct.{UnitAct}
use Rattle.chan_events.specs.declared.event.UnitAct.TheVariants as act
use Rattle.machine_model.specs.ActSteps.{acts}
use Rattle.run_laws.proofs.Signals.LinkMeets.{IsSeenUp}

-- the number of a Reset is one that was seen to be sent
abbrev pub IsSeenDown : ℕ → Down → Type 0
IsSeenDown n (down.Reset r b) = r ≤ n
IsSeenDown n d = Unit {0}

abbrev pub AreSeenUp : ℕ → Option (OnPath Up) → Type 0
AreSeenUp n None = Unit {0}
AreSeenUp n (Some s) = IsSeenUp n s.signal

abbrev Sends : ℕ → Option UnitStep → Type 0
Sends n step = AreSeenUp n (outcome_of step).sent

if-sends : (n : ℕ) (b : Bool) (x y : Option UnitStep) → Sends n x → Sends n y → Sends n (if b then x else y)
if-sends n true x y k l = k
if-sends n false x y k l = l

taken-seen : (n : ℕ) (u : UnitState) (side : Side) (p : ℕ) (d : Down) (step : Option UnitStep) → IsSeenDown n d → Takes u side p d step → Sends n step
taken-seen n u side p _ _ seen (Ignores d) = tt
taken-seen n u side p _ _ seen (Notices d fresh) = tt
taken-seen n u side p _ _ seen (Accepts t above idle) = tt
taken-seen n u side p _ _ seen (Denies t above) = tt
taken-seen n u side p _ _ seen (Begins t m code room at is next) = tt
taken-seen n u side p _ _ seen (Joins t c q is) = tt
taken-seen n u side p _ _ seen (Leaves t c at is) = tt
taken-seen n u side p _ _ seen (Parts t c q is) = tt
taken-seen n u side p _ _ seen (Answers t s room at x load is hand last loaded) = tt
taken-seen n u side p _ _ seen (Gives bytes t c s q x is hand next) = tt
taken-seen n u side p _ _ seen (Halts t at is first) = tt
taken-seen n u side p _ _ seen (Frees t at is) = tt
taken-seen n u side p _ _ seen (Resets r b is) = seen
taken-seen n u side p _ _ seen (Forgets a) = tt

pub takes-seen : (n : ℕ) (u : UnitState) (side : Side) (p : ℕ) (d : Down) (may : Bool) → IsSeenDown n d → AreSeenUp n (outcome_of (unit_takes u side p d may)).sent
takes-seen n u side p d may seen = taken-seen n u side p d _ seen (takes-by u side p d may)

-- none sends Cleared of itself
begun-sends : (n : ℕ) (u : UnitState) (p t c : ℕ) (x : CurrentCommand) → Sends n (command_begun u p t c x)
begun-sends n u p t c x = if-sends n (is_outward x.code) _ _ tt tt

absorbed-sends : (n : ℕ) (u : UnitState) (p t c : ℕ) (x : CurrentCommand) (given : Option (List ℕ)) (count : ℕ) → Sends n (report_absorbed u p t c x given count)
absorbed-sends n u p t c x None count = tt
absorbed-sends n u p t c x (Some bytes) count = if-sends n (nat_le count (length bytes)) _ None tt tt

again-sends : (n : ℕ) (u : UnitState) (p t c : ℕ) (x : CurrentCommand) (load : Option Load) → Sends n (sent_again u p t c x load)
again-sends n u p t c x None = tt
again-sends n u p t c x (Some load) = if-sends n x.again _ None tt tt

answer-sends : (n : ℕ) (u : UnitState) (p t c : ℕ) (x : CurrentCommand) (at : Progress) (a : DeviceAnswer) → Sends n (answer_taken u p t c x at a)
answer-sends n u p t c x at (answer.Ended status more) = if-sends n (may_end u.halted x at status more) _ None tt tt
answer-sends n u p t c x progress.New answer.Begins = begun-sends n u p t c x
answer-sends n u p t c x progress.New (answer.Absorbed count) = tt
answer-sends n u p t c x progress.New (answer.Supplied bytes) = tt
answer-sends n u p t c x progress.New answer.Again = tt
answer-sends n u p t c x progress.Working answer.Begins = tt
answer-sends n u p t c x progress.Working (answer.Absorbed count) = absorbed-sends n u p t c x x.unabsorbed count
answer-sends n u p t c x progress.Working (answer.Supplied bytes) = if-sends n (is_to_supply x && nat_le (length bytes) (most_of x)) _ None tt tt
answer-sends n u p t c x progress.Working answer.Again = again-sends n u p t c x x.unanswered
answer-sends n u p t c x progress.Ended answer.Begins = tt
answer-sends n u p t c x progress.Ended (answer.Absorbed count) = tt
answer-sends n u p t c x progress.Ended (answer.Supplied bytes) = tt
answer-sends n u p t c x progress.Ended answer.Again = tt
answer-sends n u p t c x progress.ChannelEnded other = tt

report_on-sends : (n : ℕ) (u : UnitState) (t : ℕ) (at : Connection) (x : Option CurrentCommand) (r : Report) → Sends n (report_on u t at x r)
report_on-sends n u t (connection.On p c) None r = tt
report_on-sends n u t (connection.On p c) (Some x) r =
    if-sends n (r.sequence == x.sequence) (answer_taken u p t c x x.progress r.answer) None (answer-sends n u p t c x x.progress r.answer) tt
report_on-sends n u t (connection.Ask p c) x r = tt
report_on-sends n u t (connection.Away c) x r = tt

report_of-sends : (n : ℕ) (u : UnitState) (o : Own) (r : Report) → Sends n (report_of u o r)
report_of-sends n u own.Idle r = tt
report_of-sends n u (own.Owned k t at) r =
    if-sends n (same_side k r.side && ((r.number == t) && (r.command == u.last_command))) (report_on u t at u.current r) None
    (report_on-sends n u t at u.current r) tt

pub reports-seen : (n : ℕ) (u : UnitState) (r : Report) → AreSeenUp n (outcome_of (unit_reports u r)).sent
reports-seen n u r = report_of-sends n u u.own r

leaving_from-sends : (n : ℕ) (u : UnitState) (side : Side) (t : ℕ) (at : Connection) → Sends n (leaving_from u side t at)
leaving_from-sends n u side t (connection.On p c) = tt
leaving_from-sends n u side t (connection.Ask p c) = tt
leaving_from-sends n u side t (connection.Away c) = tt

leaving-sends : (n : ℕ) (u : UnitState) (o : Own) → Sends n (leaving u o)
leaving-sends n u own.Idle = tt
leaving-sends n u (own.Owned k t at) = leaving_from-sends n u k t at

asking_from-sends : (n : ℕ) (u : UnitState) (side : Side) (t : ℕ) (at : Connection) (p : ℕ) → Sends n (asking_from u side t at p)
asking_from-sends n u side t (connection.On q c) p = tt
asking_from-sends n u side t (connection.Ask q c) p = tt
asking_from-sends n u side t (connection.Away c) p = tt

asking-sends : (n : ℕ) (u : UnitState) (o : Own) (p : ℕ) → Sends n (asking u o p)
asking-sends n u own.Idle p = tt
asking-sends n u (own.Owned k t at) p = asking_from-sends n u k t at p

pub acts-seen : (n : ℕ) (u : UnitState) (side : Side) (what : UnitAct) → AreSeenUp n (outcome_of (acts u side what)).sent
acts-seen n u side act.Leave = leaving-sends n u u.own
acts-seen n u side (act.Ask p) = asking-sends n u u.own p
acts-seen n u side (act.Attention p named) = if-sends n (is_idle u.own && not (side_of u side).fresh) _ None tt tt
acts-seen n u side (act.Notice p named) = if-sends n (side_of u side).fresh (telling u p) None tt tt
