-- What a unit does with a signal or a report leaves the number of each side, and the program that holds it, as they were,
-- but for a Select, a Command and a Reset of that side.
use Rattle.std.proofs.Common.{◌≡◌, refl, sym, ◌∙◌, ap, ℕ, Bool, true, false, ◌==◌, ◌&&◌, nat_le, length, Option, None, Some, List, inl, inr}
use Rattle.std.specs.Prelude.{◌⊎◌, if◌then◌else◌}
use Rattle.scsw_irb.specs.declared.status.DeviceStatus.{DeviceStatus}
use Rattle.chan_model.specs.declared.names.Side.{Side}
use Rattle.chan_model.specs.declared.names.Side.TheVariants.{First, Second}
use Rattle.chan_model.specs.Reports.{DeviceAnswer, Report}
use Rattle.chan_model.specs.declared.report.DeviceAnswer.TheVariants as answer
use Rattle.chan_model.specs.Signals.{Down, Load}
use Rattle.chan_model.specs.declared.signal.Down.TheVariants as down
use Rattle.chan_model.specs.declared.unit_state.CurrentCommand.{CurrentCommand}
use Rattle.chan_model.specs.declared.unit_state.Own.{Own}
use Rattle.chan_model.specs.declared.unit_state.Own.TheVariants as own
use Rattle.chan_model.specs.declared.unit_state.Connection.{Connection}
use Rattle.chan_model.specs.declared.unit_state.Connection.TheVariants.{On, Ask, Away}
use Rattle.chan_model.specs.declared.unit_state.Progress.{Progress}
use Rattle.chan_model.specs.declared.unit_state.Progress.TheVariants as progress
use Rattle.chan_model.specs.declared.unit_state.SideState.{SideState}
use Rattle.chan_model.specs.declared.unit_state.UnitState.{UnitState}
use Rattle.chan_model.specs.Sides.{same_side}
use Rattle.chan_model.specs.UnitTable.{UnitStep, current_answered, with_given, side_of, with_side, owns, is_owner, freed, raised, unit_takes, unit_after, held, reset_side, without_side}
use Rattle.chan_model.proofs.TakenSignals.{IsAt, Takes, Ignores, Notices, Accepts, Denies, Begins, Joins, Leaves, Parts, Answers, Gives, Halts, Frees, Resets, Forgets, takes-by}
use Rattle.chan_model.specs.UnitReports.{is_outward, is_to_supply, most_of, may_end, shown_end, end_sent, command_begun, report_supplied, answer_taken, report_on, report_of, unit_reports, report_absorbed, sent_again}

-- what is kept of a side is as it was, and a program of it that holds the device held it before, with the same last command
pub record IsStill (side : Side) (u v : UnitState) : Type 0 where
  pub side_state : side_of v side ≡ side_of u side
  pub owner : (t : ℕ) → is_owner v.own side t ≡ true → (is_owner u.own side t ≡ true) × (v.last_command ≡ u.last_command)

abbrev pub IsStillStep : Side → UnitState → Option UnitStep → Type 0
IsStillStep side u step = IsStill side u (unit_after u step)

pub still : (side : Side) (u : UnitState) → IsStill side u u
still side u = record { side_state = refl; owner = λ t e. (e, refl) }

if-still : (side : Side) (u : UnitState) (c : Bool) (x y : Option UnitStep) → IsStillStep side u x → IsStillStep side u y → IsStillStep side u (if c then x else y)
if-still side u true x y e f = e
if-still side u false x y e f = f

-- the sides and the owner are as they were
pub same-own : (side : Side) (u v : UnitState) → side_of v side ≡ side_of u side → v.own ≡ u.own → v.last_command ≡ u.last_command → IsStill side u v
same-own side u v s o l = record { side_state = s; owner = λ t e. (ap (λ (x : Own). is_owner x side t) (sym o) ∙ e, l) }

pub same-sides : (side : Side) (u v : UnitState) → v.first ≡ u.first → v.second ≡ u.second → side_of v side ≡ side_of u side
same-sides First u v e f = e
same-sides Second u v e f = f

-- the connection alone is another
pub same-program : (side k : Side) (n : ℕ) (connection to : Connection) (u : UnitState) → u.own ≡ own.Owned k n connection → IsStill side u (record u { own = own.Owned k n to })
same-program side k n connection to u o = record {
  side_state = same-sides side u (record u { own = own.Owned k n to }) refl refl;
  owner = λ t e. (ap (λ (x : Own). is_owner x side t) o ∙ e, refl);
}

-- no program holds the device
no-owner : (side : Side) (u v : UnitState) → side_of v side ≡ side_of u side → v.own ≡ own.Idle → IsStill side u v
no-owner side u v s o = record { side_state = s; owner = λ t e. absurd (cc (sym (ap (λ (x : Own). is_owner x side t) o) ∙ e)) }

-- with another command at hand
with-hand : (side : Side) (u : UnitState) (x : Option CurrentCommand) → IsStill side u (record u { current = x })
with-hand side u x = same-own side u (record u { current = x }) (same-sides side u (record u { current = x }) refl refl) refl refl

-- the other side is changed
other-side : (side k : Side) (u : UnitState) (s : SideState) → same_side k side ≡ false → side_of (with_side u k s) side ≡ side_of u side
other-side First First u s e = absurd (cc e)
other-side First Second u s e = refl
other-side Second First u s e = refl
other-side Second Second u s e = absurd (cc e)

pub side-own : (k : Side) (u : UnitState) (s : SideState) → (with_side u k s).own ≡ u.own
side-own First u s = refl
side-own Second u s = refl

side-last : (k : Side) (u : UnitState) (s : SideState) → (with_side u k s).last_command ≡ u.last_command
side-last First u s = refl
side-last Second u s = refl

pub same-raised : (side k : Side) (u : UnitState) (s : SideState) → same_side k side ≡ false → IsStill side u (with_side u k s)
same-raised side k u s e = same-own side u (with_side u k s) (other-side side k u s e) (side-own k u s) (side-last k u s)

pub other-owner : (side k : Side) (n t : ℕ) (connection : Connection) → same_side k side ≡ false → is_owner (own.Owned k n connection) side t ≡ true → ⊥
other-owner First First n t connection e f = absurd (cc e)
other-owner First Second n t connection e f = absurd (cc f)
other-owner Second First n t connection e f = absurd (cc f)
other-owner Second Second n t connection e f = absurd (cc e)

halted-still : (side : Side) (u : UnitState) → IsStill side u (record u { halted = true })
halted-still side u = same-own side u (record u { halted = true }) (same-sides side u (record u { halted = true }) refl refl) refl refl

freed-still : (side : Side) (u : UnitState) → IsStill side u (freed u)
freed-still side u = no-owner side u (freed u) (same-sides side u (freed u) refl refl) refl

-- the signals that are no Select, Command or Reset
abbrev pub IsMild : Down → Type 0
IsMild (down.Select t) = ⊥
IsMild (down.Command t n code room) = ⊥
IsMild (down.Reset r b) = ⊥
IsMild d = Unit {0}

freed-where : (side : Side) (u : UnitState) (c : Bool) → IsStill side u (if c then freed u else u)
freed-where side u true = freed-still side u
freed-where side u false = still side u

still-after : (side : Side) (u v w : UnitState) → IsStill side u v → IsStill side v w → IsStill side u w
still-after side u v w a b = record {
  side_state = b.side_state ∙ a.side_state;
  owner = λ t e. let f = b.owner t e in let g = a.owner t f.0 in (g.0, f.1 ∙ g.1);
}

reset-other : (side : Side) (u : UnitState) (k : Side) (r : ℕ) → same_side k side ≡ false → IsStill side u (reset_side u k r)
reset-other side u k r e =
    still-after side u (without_side u k) (reset_side u k r) (freed-where side u (owns u.own k)) (same-raised side k (without_side u k) _ e)

-- a program of the other side
begun-other : (side k : Side) (u : UnitState) (t p : ℕ) → same_side k side ≡ false → IsStill side u (held (raised u k t) k t p)
begun-other side k u t p e = record { side_state = held-side side k e; owner = λ n f. absurd (other-owner side k t n (On p 0) e f) }
  where
    held-side : (side k : Side) → same_side k side ≡ false → side_of (held (raised u k t) k t p) side ≡ side_of u side
    held-side First First e = absurd (cc e)
    held-side First Second e = refl
    held-side Second First e = refl
    held-side Second Second e = absurd (cc e)

commanded-other : (side k : Side) (u : UnitState) (t n : ℕ) (connection : Connection) (x : Option CurrentCommand) → same_side k side ≡ false → IsAt u k t connection → IsStill side u (record u { last_command = n; current = x })
commanded-other side k u t n connection x e is = record {
  side_state = same-sides side u (record u { last_command = n; current = x }) refl refl;
  owner = λ m f. absurd (other-owner side k t m connection e (sym (ap (λ (o : Own). is_owner o side m) is) ∙ f));
}

-- a mild signal, and every signal of the other side, leaves it
taken-still : (side : Side) (u : UnitState) (k : Side) (p : ℕ) (d : Down) (step : Option UnitStep) → IsMild d ⊎ (same_side k side ≡ false) → Takes u k p d step → IsStillStep side u step
taken-still side u k p _ _ h (Ignores d) = still side u
taken-still side u k p _ _ h (Notices d fresh) = still side u
taken-still side u k p _ _ (inl m) (Accepts t above idle) = absurd m
taken-still side u k p _ _ (inr e) (Accepts t above idle) = begun-other side k u t p e
taken-still side u k p _ _ (inl m) (Denies t above) = absurd m
taken-still side u k p _ _ (inr e) (Denies t above) = same-raised side k u _ e
taken-still side u k p _ _ (inl m) (Begins t n code room index is next) = absurd m
taken-still side u k p _ _ (inr e) (Begins t n code room index is next) = commanded-other side k u t n index _ e is
taken-still side u k p _ _ h (Joins t c q is) = same-program side k t (Ask q c) (On q c) u is
taken-still side u k p _ _ h (Leaves t c index is) = still side u
taken-still side u k p _ _ h (Parts t c q is) = same-program side k t (Ask q c) (Away c) u is
taken-still side u k p _ _ h (Answers t s room index x load is hand last loaded) = with-hand side u (Some (current_answered x load room))
taken-still side u k p _ _ h (Gives bytes t c s q x is hand next) = with-hand side u (Some (with_given x s bytes))
taken-still side u k p _ _ h (Halts t index is first) = halted-still side u
taken-still side u k p _ _ h (Frees t index is) = freed-still side u
taken-still side u k p _ _ (inl m) (Resets r b is) = absurd m
taken-still side u k p _ _ (inr e) (Resets r b is) = reset-other side u k r e
taken-still side u k p _ _ h (Forgets a) = same-own side u (record u { attention = None }) (same-sides side u (record u { attention = None }) refl refl) refl refl

pub mild-still : (side : Side) (u : UnitState) (k : Side) (p : ℕ) (d : Down) (may : Bool) → IsMild d → IsStillStep side u (unit_takes u k p d may)
mild-still side u k p d may m = taken-still side u k p d _ (inl m) (takes-by u k p d may)

pub other-still : (side : Side) (u : UnitState) (k : Side) (p : ℕ) (d : Down) (may : Bool) → same_side k side ≡ false → IsStillStep side u (unit_takes u k p d may)
other-still side u k p d may e = taken-still side u k p d _ (inr e) (takes-by u k p d may)

-- a report is of the command at hand alone
begun-still : (side : Side) (u : UnitState) (p t c : ℕ) (x : CurrentCommand) → IsStillStep side u (command_begun u p t c x)
begun-still side u p t c x = if-still side u (is_outward x.code) _ _ (with-hand side u _) (with-hand side u _)

absorbed-still : (side : Side) (u : UnitState) (p t c : ℕ) (x : CurrentCommand) (bytes : Option (List ℕ)) (count : ℕ) → IsStillStep side u (report_absorbed u p t c x bytes count)
absorbed-still side u p t c x None count = still side u
absorbed-still side u p t c x (Some bytes) count = if-still side u (nat_le count (length bytes)) _ None (with-hand side u _) (still side u)

supplied-still : (side : Side) (u : UnitState) (p t c : ℕ) (x : CurrentCommand) (bytes : List ℕ) → IsStillStep side u (report_supplied u p t c x bytes)
supplied-still side u p t c x bytes = if-still side u (is_to_supply x && nat_le (length bytes) (most_of x)) _ None (with-hand side u _) (still side u)

again-still : (side : Side) (u : UnitState) (p t c : ℕ) (x : CurrentCommand) (load : Option Load) → IsStillStep side u (sent_again u p t c x load)
again-still side u p t c x None = still side u
again-still side u p t c x (Some load) = if-still side u x.again _ None (with-hand side u _) (still side u)

ended-still : (side : Side) (u : UnitState) (p t : ℕ) (x : CurrentCommand) (may : Bool) (status : DeviceStatus) (more : Bool) → IsStillStep side u (if may then end_sent u p t x status more else None)
ended-still side u p t x may status more = if-still side u may (end_sent u p t x status more) None (with-hand side u _) (still side u)

answer-still : (side : Side) (u : UnitState) (p t c : ℕ) (x : CurrentCommand) (at : Progress) (a : DeviceAnswer) → IsStillStep side u (answer_taken u p t c x at a)
answer-still side u p t c x progress.New answer.Begins = begun-still side u p t c x
answer-still side u p t c x progress.Working answer.Begins = still side u
answer-still side u p t c x progress.ChannelEnded answer.Begins = still side u
answer-still side u p t c x progress.Ended answer.Begins = still side u
answer-still side u p t c x progress.New (answer.Absorbed count) = still side u
answer-still side u p t c x progress.Working (answer.Absorbed count) = absorbed-still side u p t c x x.unabsorbed count
answer-still side u p t c x progress.ChannelEnded (answer.Absorbed count) = still side u
answer-still side u p t c x progress.Ended (answer.Absorbed count) = still side u
answer-still side u p t c x progress.New (answer.Supplied bytes) = still side u
answer-still side u p t c x progress.Working (answer.Supplied bytes) = supplied-still side u p t c x bytes
answer-still side u p t c x progress.ChannelEnded (answer.Supplied bytes) = still side u
answer-still side u p t c x progress.Ended (answer.Supplied bytes) = still side u
answer-still side u p t c x progress.New answer.Again = still side u
answer-still side u p t c x progress.Working answer.Again = again-still side u p t c x x.unanswered
answer-still side u p t c x progress.ChannelEnded answer.Again = still side u
answer-still side u p t c x progress.Ended answer.Again = still side u
answer-still side u p t c x other (answer.Ended status more) = ended-still side u p t x (may_end u.halted x other status more) (shown_end other status) more

report_on-still : (side : Side) (u : UnitState) (t : ℕ) (connection : Connection) (x : Option CurrentCommand) (r : Report) → IsStillStep side u (report_on u t connection x r)
report_on-still side u t (On p c) (Some x) r = if-still side u (r.sequence == x.sequence) _ None (answer-still side u p t c x x.progress r.answer) (still side u)
report_on-still side u t (On p c) None r = still side u
report_on-still side u t (Ask p c) x r = still side u
report_on-still side u t (Away c) x r = still side u

report_of-still : (side : Side) (u : UnitState) (o : Own) (r : Report) → IsStillStep side u (report_of u o r)
report_of-still side u own.Idle r = still side u
report_of-still side u (own.Owned k t connection) r =
    if-still side u (same_side k r.side && ((r.number == t) && (r.command == u.last_command))) _ None (report_on-still side u t connection u.current r) (still side u)

pub report-still : (side : Side) (u : UnitState) (r : Report) → IsStillStep side u (unit_reports u r)
report-still side u r = report_of-still side u u.own r
