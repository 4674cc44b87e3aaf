-- Each event raises the numbers of a unit by one at most: that of its last chunk, of its last connection and of its last
-- attention, and how often it was restarted.
use Rattle.std.proofs.Common.{◌≡◌, refl, sym, ◌∙◌, subst, ℕ, ◌+◌, ◌≤◌, Bool, true, false, ◌==◌, ◌&&◌, not, nat_le, length, Option, None, Some, List, arith}
use Rattle.std.specs.Prelude.{if◌then◌else◌}
use Rattle.chan_model.specs.declared.names.Side.{Side}
use Rattle.chan_model.specs.declared.names.Side.TheVariants.{First, Second}
use Rattle.scsw_irb.specs.declared.status.DeviceStatus.{DeviceStatus}
use Rattle.chan_model.specs.Reports.{DeviceAnswer, Report}
use Rattle.chan_model.specs.declared.report.DeviceAnswer.TheVariants as answer
use Rattle.chan_model.specs.Signals.{Down, Load}
use Rattle.chan_model.specs.declared.unit_state.CurrentCommand.{CurrentCommand}
use Rattle.chan_model.specs.declared.unit_state.Own.{Own}
use Rattle.chan_model.specs.declared.unit_state.Own.TheVariants as own
use Rattle.chan_model.specs.declared.unit_state.Connection.{Connection}
use Rattle.chan_model.specs.declared.unit_state.Connection.TheVariants.{On, Ask, Away}
use Rattle.chan_model.specs.declared.unit_state.Progress.{Progress}
use Rattle.chan_model.specs.declared.unit_state.Progress.TheVariants as progress
use Rattle.chan_model.specs.declared.unit_state.SideState.{SideState}
use Rattle.chan_model.specs.declared.unit_state.UnitState.{UnitState}
use Rattle.chan_model.specs.Sides.{same_side}
use Rattle.chan_model.specs.UnitTable.{UnitStep, side_of, with_side, owns, freed, raised, unit_takes, unit_after, is_idle, marked_again, leaving_from, leaving, asking_from, asking, restarted, reset_side, without_side}
use Rattle.chan_model.specs.UnitReports.{is_outward, is_to_supply, most_of, may_end, shown_end, end_sent, command_begun, with_supplied, report_supplied, answer_taken, report_on, report_of, unit_reports, report_absorbed, sent_again}
use Rattle.chan_model.proofs.TakenSignals.{Takes, Ignores, Notices, Accepts, Denies, Begins, Joins, Leaves, Parts, Answers, Gives, Halts, Frees, Resets, Forgets, takes-by}
use Rattle.chan_events.specs.declared.event.UnitAct.{UnitAct}
use Rattle.chan_events.specs.declared.event.UnitAct.TheVariants as act
use Rattle.machine_model.specs.Bounds.{IsAtWithin, IsConnectionWithin, IsOwnWithin}
use Rattle.machine_model.specs.ActSteps.{acts}
use Rattle.machine_model.specs.Sharing.{owing}

-- a unit after a step
pub record IsPlain (old new : UnitState) : Type 0 where
  pub within : (n : ℕ) → IsAtWithin n old.current → IsAtWithin (n + 1) new.current
  pub connection : (n : ℕ) → IsOwnWithin n old.own → IsOwnWithin (n + 1) new.own
  pub attentions : new.attentions ≤ old.attentions + 1
  pub restarts : new.restarts ≤ old.restarts + 1

abbrev pub IsPlainStep : UnitState → Option UnitStep → Type 0
IsPlainStep u step = IsPlain u (unit_after u step)

at-later : (n : ℕ) (x : Option CurrentCommand) → IsAtWithin n x → IsAtWithin (n + 1) x
at-later n None w = tt
at-later n (Some x) w = omega (arith, w)

connection-later : (n : ℕ) (connection : Connection) → IsConnectionWithin n connection → IsConnectionWithin (n + 1) connection
connection-later n (On p c) w = omega (arith, w)
connection-later n (Ask p c) w = omega (arith, w)
connection-later n (Away c) w = omega (arith, w)

own-later : (n : ℕ) (o : Own) → IsOwnWithin n o → IsOwnWithin (n + 1) o
own-later n own.Idle w = tt
own-later n (own.Owned side t connection) w = connection-later n connection w

-- where it was not restarted, nor asked for attention
plain : (u v : UnitState) → v.restarts ≡ u.restarts → v.attentions ≡ u.attentions → ((n : ℕ) → IsOwnWithin n u.own → IsOwnWithin (n + 1) v.own) →
    ((n : ℕ) → IsAtWithin n u.current → IsAtWithin (n + 1) v.current) → IsPlain u v
plain u v r a o h = record { within = h; connection = o; attentions = omega (arith, a); restarts = omega (arith, r) }

own-stays : (u v : UnitState) → v.own ≡ u.own → (n : ℕ) → IsOwnWithin n u.own → IsOwnWithin (n + 1) v.own
own-stays u v o n w = subst (IsOwnWithin (n + 1)) (sym o) (own-later n u.own w)

hand-stays : (u v : UnitState) → v.current ≡ u.current → (n : ℕ) → IsAtWithin n u.current → IsAtWithin (n + 1) v.current
hand-stays u v h n w = subst (IsAtWithin (n + 1)) (sym h) (at-later n u.current w)

-- the command at hand stays, is none, or has the same last chunk
same-hand : (u v : UnitState) → v.restarts ≡ u.restarts → v.attentions ≡ u.attentions → v.own ≡ u.own → v.current ≡ u.current → IsPlain u v
same-hand u v r a o h = plain u v r a (own-stays u v o) (hand-stays u v h)

pub stays : (u : UnitState) → IsPlain u u
stays u = same-hand u u refl refl refl refl

-- the program that holds the device moves to another index, by a connection that is not later
moved-on : (u v : UnitState) (o : Own) → v.restarts ≡ u.restarts → v.attentions ≡ u.attentions → v.current ≡ u.current → u.own ≡ o →
    ((n : ℕ) → IsOwnWithin n o → IsOwnWithin (n + 1) v.own) → IsPlain u v
moved-on u v o r a h e f = plain u v r a (λ n w. f n (subst (IsOwnWithin n) e w)) (hand-stays u v h)

if-plain : (u : UnitState) (c : Bool) (x y : Option UnitStep) → IsPlainStep u x → IsPlainStep u y → IsPlainStep u (if c then x else y)
if-plain u true x y e f = e
if-plain u false x y e f = f

side-restarts : (u : UnitState) (side : Side) (s : SideState) → (with_side u side s).restarts ≡ u.restarts
side-restarts u First s = refl
side-restarts u Second s = refl

side-attentions : (u : UnitState) (side : Side) (s : SideState) → (with_side u side s).attentions ≡ u.attentions
side-attentions u First s = refl
side-attentions u Second s = refl

side-own : (u : UnitState) (side : Side) (s : SideState) → (with_side u side s).own ≡ u.own
side-own u First s = refl
side-own u Second s = refl

side-hand : (u : UnitState) (side : Side) (s : SideState) → (with_side u side s).current ≡ u.current
side-hand u First s = refl
side-hand u Second s = refl

-- with another command at hand
with-hand : (u : UnitState) (x : CurrentCommand) → ((n : ℕ) → IsAtWithin n u.current → x.sequence ≤ n + 1) → IsPlain u (record u { current = Some x })
with-hand u x f = plain u (record u { current = Some x }) refl refl (λ n w. own-later n u.own w) f

without-restarts : (u : UnitState) (c : Bool) → (if c then freed u else u).restarts ≡ u.restarts
without-restarts u true = refl
without-restarts u false = refl

without-attentions : (u : UnitState) (c : Bool) → (if c then freed u else u).attentions ≡ u.attentions
without-attentions u true = refl
without-attentions u false = refl

without-own : (u : UnitState) (c : Bool) (n : ℕ) → IsOwnWithin n u.own → IsOwnWithin (n + 1) (if c then freed u else u).own
without-own u true n w = tt
without-own u false n w = own-later n u.own w

without-hand : (u : UnitState) (c : Bool) (n : ℕ) → IsAtWithin n u.current → IsAtWithin (n + 1) (if c then freed u else u).current
without-hand u true n w = tt
without-hand u false n w = at-later n u.current w

-- a side whose floor was raised
raised-plain : (u : UnitState) (side : Side) (t : ℕ) → IsPlain u (raised u side t)
raised-plain u side t = same-hand u _ (side-restarts u side _) (side-attentions u side _) (side-own u side _) (side-hand u side _)

reset-plain : (u : UnitState) (side : Side) (r : ℕ) → IsPlain u (reset_side u side r)
reset-plain u side r =
    plain u _ (side-restarts (without_side u side) side _ ∙ without-restarts u (owns u.own side)) (side-attentions (without_side u side) side _ ∙ without-attentions u (owns u.own side))
    (λ n w. subst (IsOwnWithin (n + 1)) (sym (side-own (without_side u side) side _)) (without-own u (owns u.own side) n w))
    (λ n w. subst (IsAtWithin (n + 1)) (sym (side-hand (without_side u side) side _)) (without-hand u (owns u.own side) n w))

next-hand : (u : UnitState) (x y : CurrentCommand) → u.current ≡ Some x → y.sequence ≤ x.sequence + 1 → IsPlain u (record u { current = Some y })
next-hand u x y hand le = with-hand u y (λ n w. let w : x.sequence ≤ n = subst (IsAtWithin n) hand w in omega (arith, w, le))

taken-plain : (u : UnitState) (side : Side) (p : ℕ) (d : Down) (step : Option UnitStep) → Takes u side p d step → IsPlainStep u step
taken-plain u side p _ _ (Ignores d) = stays u
taken-plain u side p _ _ (Notices d fresh) = stays u
taken-plain u side p _ _ (Accepts t above idle) = plain u _ (side-restarts u side _) (side-attentions u side _) (λ n w. omega arith) (λ n w. tt)
taken-plain u side p _ _ (Denies t above) = raised-plain u side t
taken-plain u side p _ _ (Begins t n code room at is next) = plain u _ refl refl (λ m w. own-later m u.own w) (λ m w. omega arith)
taken-plain u side p _ _ (Joins t c q is) = moved-on u _ _ refl refl refl is (λ n w. omega (arith, w))
taken-plain u side p _ _ (Leaves t c at is) = stays u
taken-plain u side p _ _ (Parts t c q is) = moved-on u _ _ refl refl refl is (λ n w. omega (arith, w))
taken-plain u side p _ _ (Answers t s room at x load is hand last loaded) = next-hand u x _ hand (omega arith)
taken-plain u side p _ _ (Gives bytes t c s q x is hand next) = next-hand u x _ hand (omega (arith, next))
taken-plain u side p _ _ (Halts t at is first) = same-hand u _ refl refl refl refl
taken-plain u side p _ _ (Frees t at is) = plain u _ refl refl (λ n w. tt) (λ n w. tt)
taken-plain u side p _ _ (Resets r b is) = reset-plain u side r
taken-plain u side p _ _ (Forgets a) = same-hand u _ refl refl refl refl

pub takes-plain : (u : UnitState) (side : Side) (p : ℕ) (d : Down) (may : Bool) → IsPlainStep u (unit_takes u side p d may)
takes-plain u side p d may = taken-plain u side p d _ (takes-by u side p d may)

-- reports
hand-same : (u : UnitState) (x y : CurrentCommand) → u.current ≡ Some x → y.sequence ≡ x.sequence → IsPlain u (record u { current = Some y })
hand-same u x y h e = with-hand u y (λ n w. let w : x.sequence ≤ n = subst (IsAtWithin n) h w in omega (arith, w, e))

absorbed-plain : (u : UnitState) (p t c : ℕ) (x : CurrentCommand) (given : Option (List ℕ)) (count : ℕ) → u.current ≡ Some x → IsPlainStep u (report_absorbed u p t c x given count)
absorbed-plain u p t c x None count h = stays u
absorbed-plain u p t c x (Some bytes) count h = if-plain u (nat_le count (length bytes)) _ None (hand-same u x _ h refl) (stays u)

again-plain : (u : UnitState) (p t c : ℕ) (x : CurrentCommand) (load : Option Load) → u.current ≡ Some x → IsPlainStep u (sent_again u p t c x load)
again-plain u p t c x None h = stays u
again-plain u p t c x (Some load) h = if-plain u x.again _ None (hand-same u x _ h refl) (stays u)

supplied-plain : (u : UnitState) (p t c : ℕ) (x : CurrentCommand) (bytes : List ℕ) → u.current ≡ Some x → IsPlainStep u (report_supplied u p t c x bytes)
supplied-plain u p t c x bytes h =
    if-plain u (is_to_supply x && nat_le (length bytes) (most_of x)) _ None
    (with-hand u (with_supplied x bytes) (λ n w. let w : x.sequence ≤ n = subst (IsAtWithin n) h w in omega (arith, w))) (stays u)

begun-plain : (u : UnitState) (p t c : ℕ) (x : CurrentCommand) → u.current ≡ Some x → IsPlainStep u (command_begun u p t c x)
begun-plain u p t c x h = if-plain u (is_outward x.code) _ _ (hand-same u x _ h refl) (hand-same u x _ h refl)

ended-plain : (u : UnitState) (p t : ℕ) (x : CurrentCommand) (may : Bool) (status : DeviceStatus) (more : Bool) → u.current ≡ Some x →
    IsPlainStep u (if may then end_sent u p t x status more else None)
ended-plain u p t x true status more h = hand-same u x _ h refl
ended-plain u p t x false status more h = stays u

answer-plain : (u : UnitState) (p t c : ℕ) (x : CurrentCommand) (at : Progress) (a : DeviceAnswer) → u.current ≡ Some x → IsPlainStep u (answer_taken u p t c x at a)
answer-plain u p t c x progress.New answer.Begins h = begun-plain u p t c x h
answer-plain u p t c x progress.Working answer.Begins h = stays u
answer-plain u p t c x progress.ChannelEnded answer.Begins h = stays u
answer-plain u p t c x progress.Ended answer.Begins h = stays u
answer-plain u p t c x progress.New (answer.Absorbed count) h = stays u
answer-plain u p t c x progress.Working (answer.Absorbed count) h = absorbed-plain u p t c x x.unabsorbed count h
answer-plain u p t c x progress.ChannelEnded (answer.Absorbed count) h = stays u
answer-plain u p t c x progress.Ended (answer.Absorbed count) h = stays u
answer-plain u p t c x progress.New (answer.Supplied bytes) h = stays u
answer-plain u p t c x progress.Working (answer.Supplied bytes) h = supplied-plain u p t c x bytes h
answer-plain u p t c x progress.ChannelEnded (answer.Supplied bytes) h = stays u
answer-plain u p t c x progress.Ended (answer.Supplied bytes) h = stays u
answer-plain u p t c x progress.New answer.Again h = stays u
answer-plain u p t c x progress.Working answer.Again h = again-plain u p t c x x.unanswered h
answer-plain u p t c x progress.ChannelEnded answer.Again h = stays u
answer-plain u p t c x progress.Ended answer.Again h = stays u
answer-plain u p t c x other (answer.Ended status more) h = ended-plain u p t x (may_end u.halted x other status more) (shown_end other status) more h

report_on-plain : (u : UnitState) (t : ℕ) (connection : Connection) (x : Option CurrentCommand) (r : Report) → u.current ≡ x → IsPlainStep u (report_on u t connection x r)
report_on-plain u t (On p c) (Some x) r h = if-plain u (r.sequence == x.sequence) _ None (answer-plain u p t c x x.progress r.answer h) (stays u)
report_on-plain u t (On p c) None r h = stays u
report_on-plain u t (Ask p c) x r h = stays u
report_on-plain u t (Away c) x r h = stays u

report_of-plain : (u : UnitState) (o : Own) (r : Report) → IsPlainStep u (report_of u o r)
report_of-plain u own.Idle r = stays u
report_of-plain u (own.Owned k t connection) r =
    if-plain u (same_side k r.side && ((r.number == t) && (r.command == u.last_command))) _ None (report_on-plain u t connection u.current r refl) (stays u)

pub report-plain : (u : UnitState) (r : Report) → IsPlainStep u (unit_reports u r)
report-plain u r = report_of-plain u u.own r

-- acts of the unit of itself
again-within : (n : ℕ) (x : Option CurrentCommand) → IsAtWithin n x → IsAtWithin (n + 1) (marked_again x)
again-within n None w = tt
again-within n (Some x) w = omega (arith, w)

leaving_from-plain : (u : UnitState) (side : Side) (t : ℕ) (connection : Connection) → u.own ≡ own.Owned side t connection → IsPlainStep u (leaving_from u side t connection)
leaving_from-plain u side t (On p c) e =
    plain u _ refl refl (λ n w. let at : c ≤ n = subst (IsOwnWithin n) e w in omega (arith, at)) (λ n w. again-within n u.current w)
leaving_from-plain u side t (Ask p c) e = stays u
leaving_from-plain u side t (Away c) e = stays u

leaving-plain : (u : UnitState) (o : Own) → u.own ≡ o → IsPlainStep u (leaving u o)
leaving-plain u own.Idle e = stays u
leaving-plain u (own.Owned side t connection) e = leaving_from-plain u side t connection e

asking_from-plain : (u : UnitState) (side : Side) (t : ℕ) (connection : Connection) (p : ℕ) → u.own ≡ own.Owned side t connection → IsPlainStep u (asking_from u side t connection p)
asking_from-plain u side t (On q c) p e = stays u
asking_from-plain u side t (Ask q c) p e = moved-on u _ _ refl refl refl e (λ n w. omega (arith, w))
asking_from-plain u side t (Away c) p e = moved-on u _ _ refl refl refl e (λ n w. omega (arith, w))

asking-plain : (u : UnitState) (o : Own) (p : ℕ) → u.own ≡ o → IsPlainStep u (asking u o p)
asking-plain u own.Idle p e = stays u
asking-plain u (own.Owned side t connection) p e = asking_from-plain u side t connection p e

attends-plain : (u : UnitState) (side : Side) → IsPlain u (record u { attentions = u.attentions + 1; attention = Some (record { number = u.attentions + 1; side = side }); end_owed = false })
attends-plain u side = record { within = λ n w. at-later n u.current w; connection = λ n w. own-later n u.own w; attentions = omega arith; restarts = omega arith }

pub act-plain : (u : UnitState) (side : Side) (what : UnitAct) → IsPlainStep u (acts u side what)
act-plain u side act.Leave = leaving-plain u u.own refl
act-plain u side (act.Ask p) = asking-plain u u.own p refl
act-plain u side (act.Attention p named) = if-plain u (is_idle u.own && not (side_of u side).fresh) _ None (attends-plain u side) (stays u)
act-plain u side (act.Notice p named) = if-plain u (side_of u side).fresh _ None (stays u) (stays u)

-- what a unit owes is no number of it
pub owing-plain : (owed : Bool) (u v : UnitState) → IsPlain u v → IsPlain u (owing owed v)
owing-plain owed u v k = record { within = k.within; connection = k.connection; attentions = k.attentions; restarts = k.restarts }

pub restart-plain : (u : UnitState) → IsPlain u (restarted u)
restart-plain u = record { within = λ n w. tt; connection = λ n w. tt; attentions = omega arith; restarts = omega arith }
