-- What a unit does with a signal, or of itself or for its device, told by the program that holds it and by the numbers it answered.
use Rattle.std.proofs.Common.{◌≡◌, refl, sym, ◌∙◌, ap, ℕ, ◌<◌, ◌+◌, ◌==◌, ◌&&◌, nat_le, Bool, true, false, not, Option, None, Some, List, length}
use Rattle.std.specs.Prelude.{if◌then◌else◌}
use Rattle.std.proofs.lemmas.Bool.{eqb-true, and_parts}
use Rattle.chan_model.specs.declared.names.Side.{Side}
use Rattle.chan_model.specs.declared.names.Side.TheVariants.{First, Second}
use Rattle.chan_model.specs.Reports.{DeviceAnswer}
use Rattle.chan_model.specs.declared.report.DeviceAnswer.TheVariants as answer
use Rattle.chan_model.specs.Reports.{Report}
use Rattle.chan_model.specs.Signals.{Down}
use Rattle.chan_model.specs.declared.signal.Down.TheVariants as down
use Rattle.chan_model.specs.Signals.{Load}
use Rattle.chan_model.specs.declared.signal.Up.TheVariants as up
use Rattle.chan_model.specs.declared.unit_state.CurrentCommand.{CurrentCommand}
use Rattle.chan_model.specs.declared.unit_state.Own.{Own}
use Rattle.chan_model.specs.declared.unit_state.Own.TheVariants as own
use Rattle.chan_model.specs.declared.unit_state.Connection.{Connection}
use Rattle.chan_model.specs.declared.unit_state.Connection.TheVariants as connection
use Rattle.chan_model.specs.declared.unit_state.Progress.{Progress}
use Rattle.chan_model.specs.declared.unit_state.Progress.TheVariants as progress
use Rattle.chan_model.specs.declared.unit_state.SideState.{SideState}
use Rattle.chan_model.specs.declared.unit_state.UnitState.{UnitState}
use Rattle.chan_model.specs.Sides.{same_side}
use Rattle.chan_model.specs.UnitReports.{is_outward, may_end, most_of, is_to_supply, answer_taken, report_on, report_of, unit_reports, report_absorbed, sent_again}
use Rattle.chan_model.specs.UnitTable.{UnitStep, outcome_of, unit_after, sends, side_of, with_side, freed, raised, owns, resets, telling, noticing, unit_takes, leaving_from, leaving, asking_from, asking, attending, is_idle, reset_side}
use Rattle.chan_model.proofs.TakenSignals.{Takes, Ignores, Notices, Accepts, Denies, Begins, Joins, Leaves, Parts, Answers, Gives, Halts, Frees, Resets, Forgets, takes-by, takes-fresh}
use Rattle.agreement_laws.proofs.SeenSignals.{IsResetAbove}
use Rattle.agreement_laws.specs.Holders.{SideAnswered}
use Rattle.agreement_laws.specs.HolderSeen.{Holder, Holding, side_seen, with_seen, with_answered, let_go, is_held_by, held_met, IsMetRight, IsTold}
use Rattle.agree.proofs.UnitPaths.{floor_of}

-- what a unit keeps of it
abbrev pub holder_of : Own → Option Holder
holder_of own.Idle = None
holder_of (own.Owned side t at) = Some (record { side = side; number = t })

abbrev pub seen_of : SideState → SideAnswered
seen_of s = record { number = s.floor; restarted = s.fresh }

abbrev pub holding_of : UnitState → Holding
holding_of u = record { restarts = u.restarts; holder = holder_of u.own; command = u.last_command; first = seen_of u.first; second = seen_of u.second }

-- a signal was taken: the entry is right, and tells what the unit keeps
pub record Turns (u : UnitState) (side : Side) (d : Down) (step : Option UnitStep) : Type 0 where
  pub right : IsMetRight side d (outcome_of step).taken (outcome_of step).sent (holding_of u)
  pub next : holding_of (unit_after u step) ≡ held_met side d (outcome_of step).taken (outcome_of step).sent (holding_of u)

none-turns : (u : UnitState) (side : Side) (d : Down) → Turns u side d None
none-turns u side d = record { right = refl; next = refl }

-- numbers
above-answered : (u : UnitState) (side : Side) (t : ℕ) → floor_of u side < t → (side_seen (holding_of u) side).number < t
above-answered u First t e = e
above-answered u Second t e = e

raised-next : (u : UnitState) (side : Side) (t : ℕ) → holding_of (raised u side t) ≡ with_answered (holding_of u) side t
raised-next u First t = refl
raised-next u Second t = refl

begun-next : (u : UnitState) (side : Side) (t p : ℕ) →
    holding_of (record (freed (raised u side t)) { own = own.Owned side t (connection.On p 0) }) ≡ record (with_answered (holding_of u) side t) { holder = Some (record { side = side; number = t }); command = 0 }
begun-next u First t p = refl
begun-next u Second t p = refl

own-next : (u : UnitState) (o : Own) → holder_of o ≡ holder_of u.own → holding_of (record u { own = o }) ≡ holding_of u
own-next u o e = ap (λ (h : Option Holder). record { restarts = u.restarts; holder = h; command = u.last_command; first = seen_of u.first; second = seen_of u.second }) e

-- Reset
owns-is : (o : Own) (side : Side) → owns o side ≡ is_held_by (holder_of o) side
owns-is own.Idle side = refl
owns-is (own.Owned k t at) side = refl

cleared-next : (u : UnitState) (side : Side) (r : ℕ) (b : Bool) →
    holding_of (with_side (if b then freed u else u) side (record { floor = r; fresh = false })) ≡ with_seen (if b then let_go (holding_of u) else holding_of u) side (record { number = r; restarted = false })
cleared-next u First r true = refl
cleared-next u First r false = refl
cleared-next u Second r true = refl
cleared-next u Second r false = refl

pub fresh-seen : (u : UnitState) (side : Side) → (side_of u side).fresh ≡ true → (side_seen (holding_of u) side).restarted ≡ true
fresh-seen u First e = e
fresh-seen u Second e = e

seen-fresh : (u : UnitState) (side : Side) → (side_seen (holding_of u) side).restarted ≡ true → (side_of u side).fresh ≡ true
seen-fresh u First e = e
seen-fresh u Second e = e

telling-turns : (u : UnitState) (side : Side) (p : ℕ) (d : Down) → (side_of u side).fresh ≡ true → Turns u side d (telling u p)
telling-turns u side p d e = record { right = (refl, fresh-seen u side e); next = refl }

reset-turns : (u : UnitState) (side : Side) (p r b : ℕ) → resets u side r b ≡ true → floor_of u side < r → Turns u side (down.Reset r b) (sends (reset_side u side r) p (up.Cleared r))
reset-turns u side p r b is above = record {
  right = (ap (down.Reset r) (eqb-true b u.restarts (and_parts (b == u.restarts) _ is).0), above-answered u side r above);
  next = cleared-next u side r (owns u.own side) ∙ ap (λ (x : Bool). with_seen (if x then let_go (holding_of u) else holding_of u) side (record { number = r; restarted = false })) (owns-is u.own side);
}

taken-turns : (u : UnitState) (side : Side) (p : ℕ) (d : Down) (step : Option UnitStep) → IsResetAbove u side d → Takes u side p d step → Turns u side d step
taken-turns u side p _ _ above (Ignores d) = none-turns u side d
taken-turns u side p _ _ above (Notices d fresh) = telling-turns u side p d fresh
taken-turns u side p _ _ above (Accepts t high idle) = record { right = (refl, ap holder_of idle, above-answered u side t high); next = begun-next u side t p }
taken-turns u side p _ _ above (Denies t high) = record { right = (refl, above-answered u side t high); next = raised-next u side t }
taken-turns u side p _ _ above (Begins t n code room at is next) = record { right = (ap holder_of is, next); next = refl }
taken-turns u side p _ _ above (Joins t c q is) = record { right = ap holder_of is; next = own-next u (own.Owned side t (connection.On q c)) (sym (ap holder_of is)) }
taken-turns u side p _ _ above (Leaves t c at is) = record { right = (refl, ap holder_of is); next = refl }
taken-turns u side p _ _ above (Parts t c q is) = record { right = ap holder_of is; next = own-next u (own.Owned side t (connection.Away c)) (sym (ap holder_of is)) }
taken-turns u side p _ _ above (Answers t s room at x load is hand last loaded) = record { right = (ap holder_of is, refl); next = refl }
taken-turns u side p _ _ above (Gives bytes t c s q x is hand next) = record { right = (ap holder_of is, refl); next = refl }
taken-turns u side p _ _ above (Halts t at is first) = record { right = ap holder_of is; next = refl }
taken-turns u side p _ _ above (Frees t at is) = record { right = (refl, ap holder_of is); next = refl }
taken-turns u side p _ _ above (Resets r b is) = reset-turns u side p r b is (above r b refl is)
taken-turns u side p _ _ above (Forgets a) = record { right = tt; next = refl }

pub takes-turns : (u : UnitState) (side : Side) (p : ℕ) (d : Down) (may : Bool) → IsResetAbove u side d → Turns u side d (unit_takes u side p d may)
takes-turns u side p d may above = taken-turns u side p d _ above (takes-by u side p d may)

-- after a restart
abbrev AreTold : Option UnitStep → Type 0
AreTold step = IsTold (outcome_of step).taken (outcome_of step).sent

pub takes-told-after : (u : UnitState) (side : Side) (p : ℕ) (d : Down) (may : Bool) → (side_seen (holding_of u) side).restarted ≡ true → IsTold (outcome_of (unit_takes u side p d may)).taken (outcome_of (unit_takes u side p d may)).sent
takes-told-after u side p d may e = takes-fresh AreTold u side p d may (seen-fresh u side e) tt (λ r. tt)

-- reports and acts leave it
abbrev pub Keeps : UnitState → Option UnitStep → Type 0
Keeps u step = holding_of (unit_after u step) ≡ holding_of u

if-keeps : (u : UnitState) (b : Bool) (x y : Option UnitStep) → Keeps u x → Keeps u y → Keeps u (if b then x else y)
if-keeps u true x y e f = e
if-keeps u false x y e f = f

absorbed-keeps : (u : UnitState) (p t c : ℕ) (x : CurrentCommand) (given : Option (List ℕ)) (count : ℕ) → Keeps u (report_absorbed u p t c x given count)
absorbed-keeps u p t c x None count = refl
absorbed-keeps u p t c x (Some bytes) count = if-keeps u (nat_le count (length bytes)) _ None refl refl

again-keeps : (u : UnitState) (p t c : ℕ) (x : CurrentCommand) (load : Option Load) → Keeps u (sent_again u p t c x load)
again-keeps u p t c x None = refl
again-keeps u p t c x (Some load) = if-keeps u x.again _ None refl refl

answer-keeps : (u : UnitState) (p t c : ℕ) (x : CurrentCommand) (at : Progress) (a : DeviceAnswer) → Keeps u (answer_taken u p t c x at a)
answer-keeps u p t c x at (answer.Ended status more) = if-keeps u (may_end u.halted x at status more) _ None refl refl
answer-keeps u p t c x progress.New answer.Begins = if-keeps u (is_outward x.code) _ _ refl refl
answer-keeps u p t c x progress.New (answer.Absorbed count) = refl
answer-keeps u p t c x progress.New (answer.Supplied bytes) = refl
answer-keeps u p t c x progress.New answer.Again = refl
answer-keeps u p t c x progress.Working answer.Begins = refl
answer-keeps u p t c x progress.Working (answer.Absorbed count) = absorbed-keeps u p t c x x.unabsorbed count
answer-keeps u p t c x progress.Working (answer.Supplied bytes) = if-keeps u (is_to_supply x && nat_le (length bytes) (most_of x)) _ None refl refl
answer-keeps u p t c x progress.Working answer.Again = again-keeps u p t c x x.unanswered
answer-keeps u p t c x progress.ChannelEnded answer.Begins = refl
answer-keeps u p t c x progress.ChannelEnded (answer.Absorbed count) = refl
answer-keeps u p t c x progress.ChannelEnded (answer.Supplied bytes) = refl
answer-keeps u p t c x progress.ChannelEnded answer.Again = refl
answer-keeps u p t c x progress.Ended answer.Begins = refl
answer-keeps u p t c x progress.Ended (answer.Absorbed count) = refl
answer-keeps u p t c x progress.Ended (answer.Supplied bytes) = refl
answer-keeps u p t c x progress.Ended answer.Again = refl

report_on-keeps : (u : UnitState) (t : ℕ) (at : Connection) (x : Option CurrentCommand) (r : Report) → Keeps u (report_on u t at x r)
report_on-keeps u t (connection.On p c) None r = refl
report_on-keeps u t (connection.On p c) (Some x) r = if-keeps u (r.sequence == x.sequence) (answer_taken u p t c x x.progress r.answer) None (answer-keeps u p t c x x.progress r.answer) refl
report_on-keeps u t (connection.Ask p c) x r = refl
report_on-keeps u t (connection.Away c) x r = refl

report_of-keeps : (u : UnitState) (o : Own) (r : Report) → Keeps u (report_of u o r)
report_of-keeps u own.Idle r = refl
report_of-keeps u (own.Owned k t at) r =
    if-keeps u (same_side k r.side && ((r.number == t) && (r.command == u.last_command))) (report_on u t at u.current r) None (report_on-keeps u t at u.current r) refl

pub reports-keep : (u : UnitState) (r : Report) → Keeps u (unit_reports u r)
reports-keep u r = report_of-keeps u u.own r

leaving_from-keeps : (u : UnitState) (side : Side) (t : ℕ) (at : Connection) → holder_of u.own ≡ Some (record { side = side; number = t }) → Keeps u (leaving_from u side t at)
leaving_from-keeps u side t (connection.On p c) e = own-next u (own.Owned side t (connection.Away c)) (sym e)
leaving_from-keeps u side t (connection.Ask p c) e = refl
leaving_from-keeps u side t (connection.Away c) e = refl

pub leaving-keeps : (u : UnitState) (o : Own) → u.own ≡ o → Keeps u (leaving u o)
leaving-keeps u own.Idle e = refl
leaving-keeps u (own.Owned k t at) e = leaving_from-keeps u k t at (ap holder_of e)

asking_from-keeps : (u : UnitState) (side : Side) (t : ℕ) (at : Connection) (p : ℕ) → holder_of u.own ≡ Some (record { side = side; number = t }) → Keeps u (asking_from u side t at p)
asking_from-keeps u side t (connection.On q c) p e = refl
asking_from-keeps u side t (connection.Ask q c) p e = own-next u (own.Owned side t (connection.Ask p (c + 1))) (sym e)
asking_from-keeps u side t (connection.Away c) p e = own-next u (own.Owned side t (connection.Ask p (c + 1))) (sym e)

pub asking-keeps : (u : UnitState) (o : Own) (p : ℕ) → u.own ≡ o → Keeps u (asking u o p)
asking-keeps u own.Idle p e = refl
asking-keeps u (own.Owned k t at) p e = asking_from-keeps u k t at p (ap holder_of e)

pub attending-keeps : (u : UnitState) (side : Side) (p : ℕ) → Keeps u (attending u side p)
attending-keeps u side p = if-keeps u (is_idle u.own && not (side_of u side).fresh) _ None refl refl

pub noticing-keeps : (u : UnitState) (side : Side) (p : ℕ) → Keeps u (noticing u side p)
noticing-keeps u side p = if-keeps u (side_of u side).fresh (telling u p) None refl refl

-- the program of a side that holds the device is its holder
pub idle-unheld : (o : Own) → is_idle o ≡ true → holder_of o ≡ None
idle-unheld own.Idle e = refl
idle-unheld (own.Owned k t at) e = absurd (cc e)

pub side-restarted : (u : UnitState) (side : Side) → (side_seen (holding_of u) side).restarted ≡ (side_of u side).fresh
side-restarted u First = refl
side-restarted u Second = refl
