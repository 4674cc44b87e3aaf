-- What an event at one subchannel comes to, by what its parts come to.
use Rattle.std.proofs.Common.{◌≡◌, refl, sym, ◌∙◌, ap, ℕ, Bool, true, false, nat_lt, if◌then◌else◌, Option, None, Some, Result, Ok, Err, List, length}
use Rattle.std.specs.Prelude.{slice_get}
use Rattle.chan_model.specs.declared.fault.Fault.{Fault}
use Rattle.chan_model.specs.declared.fault.Fault.TheVariants as fault
use Rattle.chan_model.specs.Signals.{Down}
use Rattle.chan_model.specs.declared.signal.Taken.{Taken}
use Rattle.chan_model.specs.Signals.{Up}
use Rattle.chan_model.specs.declared.unit_state.UnitState.{UnitState}
use Rattle.chan_model.specs.UnitReports.{report_path}
use Rattle.chan_model.specs.UnitTable.{UnitStep, outcome_of, unit_after}
use Rattle.chan_model.specs.declared.report.ReportPath.TheVariants.{Refused}
use Rattle.chan_events.specs.declared.reply.Reply.TheVariants as reply
use Rattle.control_units.specs.declared.Member.{Member}
use Rattle.wires.specs.Queues.{queue}
use Rattle.subchannel_model.specs.declared.state.Subchannel.{Subchannel}
use Rattle.subchannel_model.specs.Sending.{carried_by, finds_full}
use Rattle.machine_model.specs.DownSteps.{down_front, down_shared, down_with, share_with, with_answer, asks_front}
use Rattle.machine_model.specs.ReportSteps.{report_taken, with_any_up}
use Rattle.machine_model.specs.Sharing.{may_take, members_after, owing_after}
use Rattle.machine_model.specs.Results.{DownResult, SharedResult}

-- a test that is known
if-true : {A : Type 0} (b : Bool) (x y : A) → true ≡ b → (if b then x else y) ≡ x
if-true true x y e = refl
if-true false x y e = absurd (cc e)

if-false : {A : Type 0} (b : Bool) (x y : A) → false ≡ b → (if b then x else y) ≡ y
if-false true x y e = absurd (cc e)
if-false false x y e = refl

-- a signal that came down
pub down-fronted : (members : List Member) (sub : Subchannel) (path : ℕ) (u : UnitState) (front : Option Down) → nat_lt path (length sub.setup.paths) ≡ true →
    slice_get (queue sub.wires.down path) 0 ≡ front →
    down_shared members sub path u
    ≡ share_with members sub.setup.«unit» (asks_front u sub.setup.side front) u
    (down_front (may_take members sub.setup.«unit» (asks_front u sub.setup.side front)) sub path u front)
down-fronted members sub path u front e is =
    ap (λ (o : Option Down). share_with members sub.setup.«unit» (asks_front u sub.setup.side o) u
    (if nat_lt path (length sub.setup.paths) then down_front (may_take members sub.setup.«unit» (asks_front u sub.setup.side o)) sub path u o else Err fault.NoSuchPath)) is
    ∙ ap (λ (b : Bool). share_with members sub.setup.«unit» (asks_front u sub.setup.side front) u
    (if b then down_front (may_take members sub.setup.«unit» (asks_front u sub.setup.side front)) sub path u front else Err fault.NoSuchPath)) e

abbrev pub downed : Down → Taken Up → Subchannel → UnitState → List Member → Result SharedResult Fault
downed signal outcome sub u members = Ok (record { turn = record { reply = reply.Down signal outcome.taken outcome.sent; sub = sub; «unit» = u }; members = members })

abbrev unshared : Down → Subchannel → ℕ → UnitState → Option UnitStep → Result DownResult Fault
unshared signal sub path u step = Ok (record {
  reply = reply.Down signal (outcome_of step).taken (outcome_of step).sent;
  sub = with_answer sub path (outcome_of step).sent;
  «unit» = unit_after u step;
})

pub down-done : (members later : List Member) (k : ℕ) (asks : Bool) (u v : UnitState) (sub new : Subchannel) (path : ℕ) (signal : Down) (step : Option UnitStep) (outcome : Taken Up) →
    false ≡ finds_full sub.wires.up (carried_by sub (outcome_of step).sent) → outcome ≡ outcome_of step → new ≡ with_answer sub path outcome.sent →
    v ≡ owing_after members k u (unit_after u step) → later ≡ members_after members k asks u (unit_after u step) →
    share_with members k asks u (down_with sub path signal u step) ≡ downed signal outcome new v later
down-done members later k asks u v sub new path signal step outcome e same is owes kept =
    let owed = owing_after members k u (unit_after u step) in
    let left = members_after members k asks u (unit_after u step) in
    ap (share_with members k asks u) (if-false (finds_full sub.wires.up (carried_by sub (outcome_of step).sent)) (Err fault.WireFull) (unshared signal sub path u step) e)
    ∙ (ap (λ (x : Taken Up). downed signal x (with_answer sub path x.sent) owed left) (sym same)
    ∙ (ap (λ (x : Subchannel). downed signal outcome x owed left) (sym is)
    ∙ (ap (λ (x : UnitState). downed signal outcome new x left) (sym owes)
    ∙ ap (λ (x : List Member). downed signal outcome new v x) (sym kept))))

-- what a unit sends of itself
abbrev pub reported : Subchannel → UnitState → Result DownResult Fault
reported sub u = Ok (record { reply = reply.Done; sub = sub; «unit» = u })

pub report-full : (sub : Subchannel) (step : Option UnitStep) → true ≡ finds_full sub.wires.up (carried_by sub (outcome_of step).sent) →
    report_taken sub step ≡ Err fault.WireFull
report-full sub None e = absurd (cc e)
report-full sub (Some step) e =
    if-true (finds_full sub.wires.up (carried_by sub step.sent)) (Err fault.WireFull) (reported (with_any_up sub step.sent) step.state) e

pub report-done : (sub new : Subchannel) (u v : UnitState) (step : Option UnitStep) (outcome : Taken Up) → (report_path step ≡ Refused → ⊥) →
    false ≡ finds_full sub.wires.up (carried_by sub (outcome_of step).sent) → outcome ≡ outcome_of step → new ≡ with_any_up sub outcome.sent → v ≡ unit_after u step →
    report_taken sub step ≡ reported new v
report-done sub new u v None outcome taken e same is left = absurd (taken refl)
report-done sub new u v (Some step) outcome taken e same is left =
    if-false (finds_full sub.wires.up (carried_by sub step.sent)) (Err fault.WireFull) (reported (with_any_up sub step.sent) step.state) e
    ∙ (ap (λ (x : Taken Up). reported (with_any_up sub x.sent) step.state) (sym same)
    ∙ (ap (λ (x : Subchannel). reported x step.state) (sym is)
    ∙ ap (λ (x : UnitState). reported new x) (sym left)))
