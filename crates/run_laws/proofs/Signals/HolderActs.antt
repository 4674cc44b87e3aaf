-- What a unit does of itself or for its device, told by what is seen of it.
use Rattle.std.proofs.Common.{◌≡◌, refl, sym, ◌∙◌, ap, subst, ℕ, ◌==◌, ◌&&◌, ◌||◌, nat_le, Bool, true, false, not, Option, None, Some, is_some, List, length}
use Rattle.std.specs.Prelude.{if◌then◌else◌}
use Rattle.std.proofs.lemmas.Bool.{and_parts}
use Rattle.chan_events.specs.declared.event.UnitAct.{UnitAct}
use Rattle.chan_events.specs.declared.event.UnitAct.TheVariants as act
use Rattle.chan_model.specs.declared.names.Side.{Side}
use Rattle.chan_model.specs.declared.names.Side.TheVariants.{First, Second}
use Rattle.chan_model.specs.Reports.{DeviceAnswer, Report}
use Rattle.chan_model.specs.declared.report.DeviceAnswer.TheVariants as answer
use Rattle.chan_model.specs.Signals.{Load}
use Rattle.chan_model.specs.declared.signal.Load.TheVariants as load
use Rattle.chan_model.specs.declared.unit_state.CurrentCommand.{CurrentCommand}
use Rattle.chan_model.specs.declared.unit_state.Own.{Own}
use Rattle.chan_model.specs.declared.unit_state.Own.TheVariants as own
use Rattle.chan_model.specs.declared.unit_state.Connection.{Connection}
use Rattle.chan_model.specs.declared.unit_state.Connection.TheVariants as connection
use Rattle.chan_model.specs.declared.unit_state.Progress.{Progress}
use Rattle.chan_model.specs.declared.unit_state.Progress.TheVariants as progress
use Rattle.chan_model.specs.declared.unit_state.UnitState.{UnitState}
use Rattle.chan_model.specs.Sides.{same_side}
use Rattle.chan_model.specs.UnitReports.{is_outward, may_end, most_of, is_to_supply, data_sent, with_absorbed, with_supplied, shown_end, progress_after_end, answer_taken, report_on, report_of, unit_reports, report_absorbed, sent_again}
use Rattle.chan_model.specs.UnitTable.{UnitStep, changes, marked_again, side_of, telling, leaving_from, leaving, asking_from, asking, is_idle}
use Rattle.machine_model.specs.ActSteps.{acts}
use Rattle.step_laws.specs.Walks.{IsOfSide}
use Rattle.run_laws.specs.Devices as seen
use Rattle.run_laws.specs.Devices.{Apart, Transfer, Held, side_seen, with_holder, with_transfer, reported, parted, moved, acted_after}
use Rattle.run_laws.specs.OneHolder.{holds_and, is_connected, IsReportRight, is_held_and, IsActRight}
use Rattle.run_laws.proofs.Signals.Holdings.{seen_connection, transfer_of, transfer_in, holder_in, held_with, holding_of, changed-next, hand-next}

-- what a unit does of itself or for its device
abbrev pub IfStep : Option UnitStep → (UnitState → Type 0) → Type 0
IfStep None P = Unit {0}
IfStep (Some step) P = P step.state

any-step : (step : Option UnitStep) (P : UnitState → Type 0) → ((v : UnitState) → P v) → IfStep step P
any-step None P f = tt
any-step (Some step) P f = f step.state

if-step : (b : Bool) (step : Option UnitStep) (P : UnitState → Type 0) → (b ≡ true → IfStep step P) → IfStep (if b then step else None) P
if-step true step P f = f refl
if-step false step P f = tt

-- reports: they tell how far the bytes of the command are
abbrev IsCurrent : UnitState → (Transfer → Transfer) → UnitState → Type 0
IsCurrent u f v = holding_of v ≡ with_holder (with_transfer f) (holding_of u)

abbrev Hands : UnitState → DeviceAnswer → Option UnitStep → Type 0
Hands u a step = IfStep step (IsCurrent u (reported a))

if-hands : (u : UnitState) (a : DeviceAnswer) (b : Bool) (x y : Option UnitStep) → Hands u a x → Hands u a y → Hands u a (if b then x else y)
if-hands u a true x y e f = e
if-hands u a false x y e f = f

absorbed-hands : (u : UnitState) (p t c : ℕ) (x : CurrentCommand) (given : Option (List ℕ)) (count : ℕ) → u.current ≡ Some x → Hands u (answer.Absorbed count) (report_absorbed u p t c x given count)
absorbed-hands u p t c x None count e = tt
absorbed-hands u p t c x (Some bytes) count e =
    if-hands u (answer.Absorbed count) (nat_le count (length bytes)) _ None (hand-next u x (with_absorbed x count) (reported (answer.Absorbed count)) e refl) tt

again-hands : (u : UnitState) (p t c : ℕ) (x : CurrentCommand) (load : Option Load) → u.current ≡ Some x → Hands u answer.Again (sent_again u p t c x load)
again-hands u p t c x None e = tt
again-hands u p t c x (Some load) e = if-hands u answer.Again x.again _ None (hand-next u x (record x { again = false }) (reported answer.Again) e refl) tt

begun-outward : (x : CurrentCommand) → is_outward x.code ≡ true → transfer_of (with_absorbed x 0) ≡ reported answer.Begins (transfer_of x)
begun-outward x e = ap (λ (b : Bool). record { sequence = x.sequence; unanswered = b || is_some x.unanswered; outward = is_outward x.code }) (sym e)

begun-inward : (x : CurrentCommand) → is_outward x.code ≡ false → transfer_of x ≡ reported answer.Begins (transfer_of x)
begun-inward x e = ap (λ (b : Bool). record { sequence = x.sequence; unanswered = b || is_some x.unanswered; outward = is_outward x.code }) (sym e)

begun-hands : (u : UnitState) (p t c : ℕ) (x : CurrentCommand) (b : Bool) → is_outward x.code ≡ b → u.current ≡ Some x →
    Hands u answer.Begins (if b then data_sent u p t c (with_absorbed x 0) (load.Absorbed 0) else changes (record u { current = Some (record x { progress = progress.Working }) }))
begun-hands u p t c x true e h = hand-next u x (with_absorbed x 0) (reported answer.Begins) h (begun-outward x e)
begun-hands u p t c x false e h = hand-next u x (record x { progress = progress.Working }) (reported answer.Begins) h (begun-inward x e)

answer-hands : (u : UnitState) (p t c : ℕ) (x : CurrentCommand) (at : Progress) (a : DeviceAnswer) → u.current ≡ Some x → Hands u a (answer_taken u p t c x at a)
answer-hands u p t c x at (answer.Ended status more) e =
    if-hands u (answer.Ended status more) (may_end u.halted x at status more) _ None (hand-next u x (record x { progress = progress_after_end (shown_end at status) }) (reported (answer.Ended status more)) e refl) tt
answer-hands u p t c x progress.New answer.Begins e = begun-hands u p t c x (is_outward x.code) refl e
answer-hands u p t c x progress.New (answer.Absorbed count) e = tt
answer-hands u p t c x progress.New (answer.Supplied bytes) e = tt
answer-hands u p t c x progress.New answer.Again e = tt
answer-hands u p t c x progress.Working answer.Begins e = tt
answer-hands u p t c x progress.Working (answer.Absorbed count) e = absorbed-hands u p t c x x.unabsorbed count e
answer-hands u p t c x progress.Working (answer.Supplied bytes) e =
    if-hands u (answer.Supplied bytes) (is_to_supply x && nat_le (length bytes) (most_of x)) _ None (hand-next u x (with_supplied x bytes) (reported (answer.Supplied bytes)) e refl) tt
answer-hands u p t c x progress.Working answer.Again e = again-hands u p t c x x.unanswered e
answer-hands u p t c x progress.Ended answer.Begins e = tt
answer-hands u p t c x progress.Ended (answer.Absorbed count) e = tt
answer-hands u p t c x progress.Ended (answer.Supplied bytes) e = tt
answer-hands u p t c x progress.Ended answer.Again e = tt
answer-hands u p t c x progress.ChannelEnded other e = tt

report_on-hands : (u : UnitState) (t : ℕ) (at : Connection) (x : Option CurrentCommand) (r : Report) → u.current ≡ x → Hands u r.answer (report_on u t at x r)
report_on-hands u t (connection.On p c) None r e = tt
report_on-hands u t (connection.On p c) (Some x) r e = if-hands u r.answer (r.sequence == x.sequence) (answer_taken u p t c x x.progress r.answer) None (answer-hands u p t c x x.progress r.answer e) tt
report_on-hands u t (connection.Ask p c) x r e = tt
report_on-hands u t (connection.Away c) x r e = tt

report_of-hands : (u : UnitState) (o : Own) (r : Report) → Hands u r.answer (report_of u o r)
report_of-hands u own.Idle r = tt
report_of-hands u (own.Owned k t at) r =
    if-hands u r.answer (same_side k r.side && ((r.number == t) && (r.command == u.last_command))) (report_on u t at u.current r) None (report_on-hands u t at u.current r refl) tt

pub reports-hand : (u : UnitState) (r : Report) → Hands u r.answer (unit_reports u r)
reports-hand u r = report_of-hands u u.own r

-- and are of the program that holds the device
report_on-right : (u : UnitState) (t : ℕ) (at : Connection) (x : Option CurrentCommand) (r : Report) (C : Type 0) → (is_connected (seen_connection at) ≡ true → C) → IfStep (report_on u t at x r) (λ v. C)
report_on-right u t (connection.On p c) x r C f = any-step (report_on u t (connection.On p c) x r) (λ v. C) (λ v. f refl)
report_on-right u t (connection.Ask p c) x r C f = tt
report_on-right u t (connection.Away c) x r C f = tt

abbrev IsOfHolder : UnitState → Own → Report → Type 0
IsOfHolder u o r = holds_and (λ h. is_connected h.connection && (r.command == h.command)) (holder_in u o) r.side r.number ≡ true

report-build : (a b c d : Bool) → (a && (b && c)) ≡ true → d ≡ true → ((a && b) && (d && c)) ≡ true
report-build true true true true e f = refl
report-build true true true false e f = absurd (cc f)
report-build true true false d e f = absurd (cc e)
report-build true false c d e f = absurd (cc e)
report-build false b c d e f = absurd (cc e)

report_of-right : (u : UnitState) (o : Own) (r : Report) → IfStep (report_of u o r) (λ v. IsOfHolder u o r)
report_of-right u own.Idle r = tt
report_of-right u (own.Owned k t at) r =
    if-step (same_side k r.side && ((r.number == t) && (r.command == u.last_command))) (report_on u t at u.current r) (λ v. IsOfHolder u (own.Owned k t at) r)
    (λ e. report_on-right u t at u.current r (IsOfHolder u (own.Owned k t at) r)
    (λ f. report-build (same_side k r.side) (r.number == t) (r.command == u.last_command) (is_connected (seen_connection at)) e f))

pub reports-right : (u : UnitState) (r : Report) → IfStep (unit_reports u r) (λ v. IsReportRight (holding_of u) r)
reports-right u r = report_of-right u u.own r

-- acts
abbrev pub IsActed : UnitState → UnitAct → UnitState → Type 0
IsActed u what v = IsActRight (holding_of u) what × (holding_of v ≡ acted_after what (holding_of u))

held-is : (u : UnitState) (o : Own) (test : Held → Bool) (b : Bool) → u.own ≡ o → is_held_and test (holder_in u o) ≡ b → is_held_and test (holding_of u).holder ≡ b
held-is u o test b e f = ap (λ (x : Own). is_held_and test (holder_in u x)) e ∙ f

marked-transfer : (o : Option CurrentCommand) → transfer_in (marked_again o) ≡ transfer_in o
marked-transfer None = refl
marked-transfer (Some x) = refl

leaving_from-acted : (u : UnitState) (side : Side) (t : ℕ) (at : Connection) → u.own ≡ own.Owned side t at → IfStep (leaving_from u side t at) (IsActed u act.Leave)
leaving_from-acted u side t (connection.On p c) e = (
  held-is u (own.Owned side t (connection.On p c)) (λ h. is_connected h.connection) true e refl,
  ap (λ (y : Option Transfer). held_with u (Some (record { side = side; number = t; connection = Apart c; command = u.last_command; transfer = y; halted = u.halted }))) (marked-transfer u.current)
      ∙ changed-next u (own.Owned side t (connection.On p c)) (moved parted) _ e refl,
)
leaving_from-acted u side t (connection.Ask p c) e = tt
leaving_from-acted u side t (connection.Away c) e = tt

leaving-acted : (u : UnitState) (o : Own) → u.own ≡ o → IfStep (leaving u o) (IsActed u act.Leave)
leaving-acted u own.Idle e = tt
leaving-acted u (own.Owned k t at) e = leaving_from-acted u k t at e

asking_from-acted : (u : UnitState) (side : Side) (t : ℕ) (at : Connection) (p : ℕ) → u.own ≡ own.Owned side t at → IfStep (asking_from u side t at p) (IsActed u (act.Ask p))
asking_from-acted u side t (connection.On q c) p e = tt
asking_from-acted u side t other p e =
    (held-is u (own.Owned side t other) (λ h. not (is_connected h.connection)) true e refl, changed-next u (own.Owned side t other) (moved (seen.asking p)) _ e refl)

asking-acted : (u : UnitState) (o : Own) (p : ℕ) → u.own ≡ o → IfStep (asking u o p) (IsActed u (act.Ask p))
asking-acted u own.Idle p e = tt
asking-acted u (own.Owned k t at) p e = asking_from-acted u k t at p e

pub idle-none : (u : UnitState) (o : Own) → is_idle o ≡ true → holder_in u o ≡ None
idle-none u own.Idle e = refl
idle-none u (own.Owned k t at) e = absurd (cc e)

fresh-is : (u : UnitState) (side : Side) (b : Bool) → (side_of u side).fresh ≡ b → (side_seen (holding_of u) side).restarted ≡ b
fresh-is u First b e = e
fresh-is u Second b e = e

not-true : (b : Bool) → not b ≡ true → b ≡ false
not-true true e = absurd (cc e)
not-true false e = refl

some-side : (a b : Side) → Some a ≡ Some b → a ≡ b
some-side a b e = cc e

pub acts-acted : (u : UnitState) (side : Side) (what : UnitAct) → IsOfSide u side what → IfStep (acts u side what) (IsActed u what)
acts-acted u side act.Leave its = leaving-acted u u.own refl
acts-acted u side (act.Ask p) its = asking-acted u u.own p refl
acts-acted u side (act.Attention p named) its =
    subst (λ (k : Side). IfStep (acts u side (act.Attention p k)) (IsActed u (act.Attention p k))) (sym (some-side named side its))
    (if-step (is_idle u.own && not (side_of u side).fresh) _ (IsActed u (act.Attention p side))
    (λ e.
    let both = and_parts (is_idle u.own) (not (side_of u side).fresh) e in
    ((idle-none u u.own both.0, fresh-is u side false (not-true (side_of u side).fresh both.1)), refl)))
acts-acted u side (act.Notice p named) its =
    if-step (side_of u side).fresh (telling u p) (IsActed u (act.Notice p named))
    (λ e. (subst (λ (k : Side). (side_seen (holding_of u) k).restarted ≡ true) (sym (some-side named side its)) (fresh-is u side true e), refl))
