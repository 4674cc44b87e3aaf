-- What a unit sends: it accepts a program only as an answer to its Select, on the same path.
use Rattle.std.proofs.Common.{◌≡◌, refl, ℕ, ◌==◌, ◌&&◌, nat_le, Bool, true, false, not, Option, None, Some, List, length, if◌then◌else◌}
use Rattle.chan_model.specs.declared.names.Side.{Side}
use Rattle.chan_model.specs.Reports.{DeviceAnswer, Report}
use Rattle.chan_model.specs.declared.report.DeviceAnswer.TheVariants as answer
use Rattle.chan_model.specs.Signals.{Down, Load, Up}
use Rattle.chan_model.specs.declared.signal.Down.TheVariants as down
use Rattle.chan_model.specs.declared.signal.OnPath.{OnPath}
use Rattle.chan_model.specs.declared.signal.Up.TheVariants as up
use Rattle.chan_model.specs.declared.unit_state.CurrentCommand.{CurrentCommand}
use Rattle.chan_model.specs.declared.unit_state.Own.{Own}
use Rattle.chan_model.specs.declared.unit_state.Own.TheVariants as own
use Rattle.chan_model.specs.declared.unit_state.Connection.{Connection}
use Rattle.chan_model.specs.declared.unit_state.Connection.TheVariants as connection
use Rattle.chan_model.specs.declared.unit_state.Progress.{Progress}
use Rattle.chan_model.specs.declared.unit_state.Progress.TheVariants as progress
use Rattle.chan_model.specs.declared.unit_state.UnitState.{UnitState}
use Rattle.chan_model.specs.Sides.{same_side}
use Rattle.chan_model.specs.UnitReports.{is_outward, may_end, most_of, is_to_supply, command_begun, answer_taken, report_on, report_of, unit_reports, report_absorbed, sent_again}
use Rattle.chan_model.specs.UnitTable.{UnitStep, outcome_of, side_of, telling, unit_takes, leaving_from, leaving, asking_from, asking, is_idle}
use Rattle.chan_model.proofs.TakenSignals.{Takes, Ignores, Notices, Accepts, Denies, Begins, Joins, Leaves, Parts, Answers, Gives, Halts, Frees, Resets, Forgets, takes-by}
use Rattle.chan_events.specs.declared.event.UnitAct.{UnitAct}
use Rattle.chan_events.specs.declared.event.UnitAct.TheVariants as act
use Rattle.machine_model.specs.ActSteps.{acts}

-- the answer to a signal that came by p
abbrev pub IsEcho : ℕ → Down → ℕ → Up → Type 0
IsEcho p d q (up.Accept t) = (d ≡ down.Select t) × (q ≡ p)
IsEcho p d q x = Unit {0}

abbrev pub AreEchoes : ℕ → Down → Option (OnPath Up) → Type 0
AreEchoes p d None = Unit {0}
AreEchoes p d (Some s) = IsEcho p d s.path s.signal

-- any other signal
abbrev pub IsOther : Up → Type 0
IsOther (up.Accept t) = ⊥
IsOther x = Unit {0}

abbrev pub AreOthers : Option (OnPath Up) → Type 0
AreOthers None = Unit {0}
AreOthers (Some s) = IsOther s.signal

abbrev Sends : Option UnitStep → Type 0
Sends step = AreOthers (outcome_of step).sent

other-echo : (p : ℕ) (d : Down) (q : ℕ) (x : Up) → IsOther x → IsEcho p d q x
other-echo p d q (up.Accept t) other = absurd other
other-echo p d q (up.Busy t) other = tt
other-echo p d q (up.Leave t c) other = tt
other-echo p d q (up.Back t c) other = tt
other-echo p d q (up.Data load t c n s) other = tt
other-echo p d q (up.End t n status more) other = tt
other-echo p d q (up.Released t) other = tt
other-echo p d q (up.Cleared r) other = tt
other-echo p d q (up.Notice b) other = tt
other-echo p d q (up.Attn a status) other = tt

pub others-echo : (p : ℕ) (d : Down) (one : Option (OnPath Up)) → AreOthers one → AreEchoes p d one
others-echo p d None others = tt
others-echo p d (Some s) others = other-echo p d s.path s.signal others

if-sends : (b : Bool) (x y : Option UnitStep) → Sends x → Sends y → Sends (if b then x else y)
if-sends true x y k l = k
if-sends false x y k l = l

-- the signals from the subchannel
taken-echo : (u : UnitState) (side : Side) (p : ℕ) (d : Down) (step : Option UnitStep) → Takes u side p d step → AreEchoes p d (outcome_of step).sent
taken-echo u side p _ _ (Ignores d) = tt
taken-echo u side p _ _ (Notices d fresh) = tt
taken-echo u side p _ _ (Accepts t above idle) = (refl, refl)
taken-echo u side p _ _ (Denies t above) = tt
taken-echo u side p _ _ (Begins t n code room at is next) = tt
taken-echo u side p _ _ (Joins t c q is) = tt
taken-echo u side p _ _ (Leaves t c at is) = tt
taken-echo u side p _ _ (Parts t c q is) = tt
taken-echo u side p _ _ (Answers t s room at x load is hand last loaded) = tt
taken-echo u side p _ _ (Gives bytes t c s q x is hand next) = tt
taken-echo u side p _ _ (Halts t at is first) = tt
taken-echo u side p _ _ (Frees t at is) = tt
taken-echo u side p _ _ (Resets r b is) = tt
taken-echo u side p _ _ (Forgets a) = tt

pub takes-echo : (u : UnitState) (side : Side) (p : ℕ) (d : Down) (may : Bool) → AreEchoes p d (outcome_of (unit_takes u side p d may)).sent
takes-echo u side p d may = taken-echo u side p d _ (takes-by u side p d may)

-- its reports
begun-sends : (u : UnitState) (p t c : ℕ) (x : CurrentCommand) → Sends (command_begun u p t c x)
begun-sends u p t c x = if-sends (is_outward x.code) _ _ tt tt

absorbed-sends : (u : UnitState) (p t c : ℕ) (x : CurrentCommand) (given : Option (List ℕ)) (count : ℕ) → Sends (report_absorbed u p t c x given count)
absorbed-sends u p t c x None count = tt
absorbed-sends u p t c x (Some bytes) count = if-sends (nat_le count (length bytes)) _ None tt tt

again-sends : (u : UnitState) (p t c : ℕ) (x : CurrentCommand) (load : Option Load) → Sends (sent_again u p t c x load)
again-sends u p t c x None = tt
again-sends u p t c x (Some load) = if-sends x.again _ None tt tt

answer-sends : (u : UnitState) (p t c : ℕ) (x : CurrentCommand) (at : Progress) (a : DeviceAnswer) → Sends (answer_taken u p t c x at a)
answer-sends u p t c x at (answer.Ended status more) = if-sends (may_end u.halted x at status more) _ None tt tt
answer-sends u p t c x progress.New answer.Begins = begun-sends u p t c x
answer-sends u p t c x progress.New (answer.Absorbed count) = tt
answer-sends u p t c x progress.New (answer.Supplied bytes) = tt
answer-sends u p t c x progress.New answer.Again = tt
answer-sends u p t c x progress.Working answer.Begins = tt
answer-sends u p t c x progress.Working (answer.Absorbed count) = absorbed-sends u p t c x x.unabsorbed count
answer-sends u p t c x progress.Working (answer.Supplied bytes) = if-sends (is_to_supply x && nat_le (length bytes) (most_of x)) _ None tt tt
answer-sends u p t c x progress.Working answer.Again = again-sends u p t c x x.unanswered
answer-sends u p t c x progress.Ended answer.Begins = tt
answer-sends u p t c x progress.Ended (answer.Absorbed count) = tt
answer-sends u p t c x progress.Ended (answer.Supplied bytes) = tt
answer-sends u p t c x progress.Ended answer.Again = tt
answer-sends u p t c x progress.ChannelEnded other = tt

report_on-sends : (u : UnitState) (t : ℕ) (at : Connection) (x : Option CurrentCommand) (r : Report) → Sends (report_on u t at x r)
report_on-sends u t (connection.On p c) None r = tt
report_on-sends u t (connection.On p c) (Some x) r =
    if-sends (r.sequence == x.sequence) (answer_taken u p t c x x.progress r.answer) None (answer-sends u p t c x x.progress r.answer) tt
report_on-sends u t (connection.Ask p c) x r = tt
report_on-sends u t (connection.Away c) x r = tt

report_of-sends : (u : UnitState) (o : Own) (r : Report) → Sends (report_of u o r)
report_of-sends u own.Idle r = tt
report_of-sends u (own.Owned k t at) r =
    if-sends (same_side k r.side && ((r.number == t) && (r.command == u.last_command))) (report_on u t at u.current r) None
    (report_on-sends u t at u.current r) tt

pub reports-send : (u : UnitState) (r : Report) → AreOthers (outcome_of (unit_reports u r)).sent
reports-send u r = report_of-sends u u.own r

-- its acts
leaving_from-sends : (u : UnitState) (side : Side) (t : ℕ) (at : Connection) → Sends (leaving_from u side t at)
leaving_from-sends u side t (connection.On p c) = tt
leaving_from-sends u side t (connection.Ask p c) = tt
leaving_from-sends u side t (connection.Away c) = tt

leaving-sends : (u : UnitState) (o : Own) → Sends (leaving u o)
leaving-sends u own.Idle = tt
leaving-sends u (own.Owned k t at) = leaving_from-sends u k t at

asking_from-sends : (u : UnitState) (side : Side) (t : ℕ) (at : Connection) (p : ℕ) → Sends (asking_from u side t at p)
asking_from-sends u side t (connection.On q c) p = tt
asking_from-sends u side t (connection.Ask q c) p = tt
asking_from-sends u side t (connection.Away c) p = tt

asking-sends : (u : UnitState) (o : Own) (p : ℕ) → Sends (asking u o p)
asking-sends u own.Idle p = tt
asking-sends u (own.Owned k t at) p = asking_from-sends u k t at p

pub acts-send : (u : UnitState) (side : Side) (what : UnitAct) → AreOthers (outcome_of (acts u side what)).sent
acts-send u side act.Leave = leaving-sends u u.own
acts-send u side (act.Ask p) = asking-sends u u.own p
acts-send u side (act.Attention p named) = if-sends (is_idle u.own && not (side_of u side).fresh) _ None tt tt
acts-send u side (act.Notice p named) = if-sends (side_of u side).fresh (telling u p) None tt tt
