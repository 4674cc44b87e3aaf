-- What a step is to a unit and to control units: a unit takes a signal, its device's report or an act, or is restarted.
use Rattle.std.proofs.Common.{◌≡◌, refl, sym, ◌∙◌, ap, subst, ℕ, Bool, true, false, Option, None, Some, Ok, Err, slice_get, slice_set, if◌then◌else◌}
use Rattle.chan_model.specs.declared.fault.Fault.TheVariants as fault
use Rattle.chan_model.specs.declared.names.Side.{Side}
use Rattle.chan_model.specs.Reports.{Report}
use Rattle.chan_model.specs.declared.unit_state.UnitState.{UnitState}
use Rattle.chan_model.specs.UnitReports.{unit_reports}
use Rattle.chan_model.specs.UnitTable.{UnitStep, restarted}
use Rattle.chan_events.specs.declared.event.Event.TheVariants as event
use Rattle.chan_events.specs.declared.event.UnitAct.{UnitAct}
use Rattle.chan_events.specs.Replies.{Reply}
use Rattle.chan_events.specs.declared.reply.Reply.TheVariants as reply
use Rattle.subchannel_model.specs.declared.state.Subchannel.{Subchannel}
use Rattle.subchannel_model.specs.Indices.{reaches, reached_in}
use Rattle.subchannel_model.specs.Sending.{carried_by, finds_full}
use Rattle.machine_model.specs.State.{State, index_of, with_sub, state_with_unit}
use Rattle.machine_model.specs.Results.{DownResult}
use Rattle.machine_model.specs.DownSteps.{asks_at, down_sub}
use Rattle.machine_model.specs.ReportSteps.{with_any_up, report_taken}
use Rattle.machine_model.specs.Sharing.{may_take, is_let_go, members_over, members_after, owing_after}
use Rattle.machine_model.specs.ActSteps.{has_path_of_act, acts}
use Rattle.step_laws.proofs.Indices.{first-passes, reached-there}
use Rattle.step_laws.specs.Walks.{IsOfSide}
use Rattle.interruptions.specs.Requests.{WaitingRequests}
use Rattle.step_laws.proofs.Results as turn
use Rattle.step_laws.proofs.Results.{ResultOf}

-- a unit takes a signal
pub record IsSunk (s : State) (word path : ℕ) (r : Reply) (new : State) : Type 0 where
  pub index : ℕ
  pub sub : Subchannel
  pub «unit» : UnitState
  pub turn : DownResult
  pub named : index_of s word ≡ Some index
  pub there : slice_get s.subs index ≡ Some sub
  pub found : slice_get s.units sub.setup.«unit» ≡ Some «unit»
  pub ok : down_sub (may_take s.members sub.setup.«unit» (asks_at sub path «unit»)) sub path «unit» ≡ Ok turn
  pub reply : r ≡ turn.reply
  pub units : new.units ≡ slice_set s.units sub.setup.«unit» (owing_after s.members sub.setup.«unit» «unit» turn.«unit»)
  pub members : new.members ≡ members_after s.members sub.setup.«unit» (asks_at sub path «unit») «unit» turn.«unit»
  pub subs : new.subs ≡ slice_set s.subs index turn.sub

pub turn-sunk : (s : State) (word path : ℕ) (r : Reply) (new : State) (waiting : WaitingRequests) → ResultOf s (event.Down word path) r new → IsSunk s word path r (record new { requests = waiting })
turn-sunk s _ _ _ _ waiting (turn.Takes word path index sub u t named there found ok) =
    record { index = index; sub = sub; «unit» = u; turn = t; named = named; there = there; found = found; ok = ok; reply = refl; units = refl; members = refl; subs = refl }

-- a unit is restarted
pub record IsRestarted (s : State) (index : ℕ) (new : State) : Type 0 where
  pub «unit» : UnitState
  pub found : slice_get s.units index ≡ Some «unit»
  pub units : new.units ≡ slice_set s.units index (owing_after s.members index «unit» (restarted «unit»))
  pub members : new.members ≡ members_over s.members index (is_let_go «unit» (restarted «unit»))
  pub subs : new.subs ≡ s.subs

pub turn-restarted : (s : State) (index : ℕ) (r : Reply) (new : State) (waiting : WaitingRequests) → ResultOf s (event.Restart index) r new → IsRestarted s index (record new { requests = waiting })
turn-restarted s _ _ _ waiting (turn.Restarts index u found) = record { «unit» = u; found = found; units = refl; members = refl; subs = refl }

-- a unit takes a report, or acts: of the side of its subchannel
pub record IsStepped (s : State) (at : ℕ) (side : Side) (new : State) (steps : UnitState → Option UnitStep) : Type 0 where
  pub index : ℕ
  pub sub : Subchannel
  pub «unit» : UnitState
  pub step : UnitStep
  pub found : slice_get s.units at ≡ Some «unit»
  pub there : slice_get s.subs index ≡ Some sub
  pub its_unit : sub.setup.«unit» ≡ at
  pub its_side : sub.setup.side ≡ side
  pub taken : steps «unit» ≡ Some step
  pub units : new.units ≡ slice_set s.units at step.state
  pub members : new.members ≡ s.members
  pub subs : new.subs ≡ slice_set s.subs index (with_any_up sub step.sent)

-- what is sent by a step that was taken
record IsSent (sub : Subchannel) (o : Option UnitStep) (t : DownResult) : Type 0 where
  step : UnitStep
  taken : o ≡ Some step
  reply : t ≡ record { reply = reply.Done; sub = with_any_up sub step.sent; «unit» = step.state }

taken-sent : (sub : Subchannel) (o : Option UnitStep) (t : DownResult) → report_taken sub o ≡ Ok t → IsSent sub o t
taken-sent sub None t ok = absurd (cc ok)
taken-sent sub (Some step) t ok = by (finds_full sub.wires.up (carried_by sub step.sent)) ok
  where
    by : (b : Bool) → (if b then Err fault.WireFull else Ok (record { reply = reply.Done; sub = with_any_up sub step.sent; «unit» = step.state })) ≡ Ok t → IsSent sub (Some step) t
    by true e = absurd (cc e)
    by false e = record { step = step; taken = refl; reply = cc e }

sent-stepped : (s : State) (at index : ℕ) (side : Side) (sub : Subchannel) (u : UnitState) (steps : UnitState → Option UnitStep) (t : DownResult) (waiting : WaitingRequests) →
    slice_get s.units at ≡ Some u → reached_in at side s.subs ≡ Some index → slice_get s.subs index ≡ Some sub → report_taken sub (steps u) ≡ Ok t →
    IsStepped s at side (record (state_with_unit (with_sub s index t.sub) at t.«unit») { requests = waiting }) steps
sent-stepped s at index side sub u steps t waiting found first there ok =
    let sent : IsSent sub (steps u) t = taken-sent sub (steps u) t ok in
    let its : (sub.setup.«unit» ≡ at) × (sub.setup.side ≡ side) = reached-there at side sub (first-passes (reaches at side) s.subs index sub first there) in
    record {
      index = index;
      sub = sub;
      «unit» = u;
      step = sent.step;
      found = found;
      there = there;
      its_unit = its.0;
      its_side = its.1;
      taken = sent.taken;
      units = ap (λ (x : DownResult). slice_set s.units at x.«unit») sent.reply;
      members = refl;
      subs = ap (λ (x : DownResult). slice_set s.subs index x.sub) sent.reply;
    }

pub turn-reported : (s : State) (at : ℕ) (report : Report) (r : Reply) (new : State) (waiting : WaitingRequests) → ResultOf s (event.Report at report) r new →
    IsStepped s at report.side (record new { requests = waiting }) (λ u. unit_reports u report)
turn-reported s _ _ _ _ waiting (turn.Reports at index sub u report t found first there ok) =
    sent-stepped s at index report.side sub u (λ v. unit_reports v report) t waiting found first there ok

pub record IsActing (s : State) (at : ℕ) (what : UnitAct) (new : State) : Type 0 where
  pub side : Side
  pub its : (u : UnitState) → slice_get s.units at ≡ Some u → IsOfSide u side what
  pub steps : IsStepped s at side new (λ u. acts u side what)

only-unit : (s : State) (at : ℕ) (u : UnitState) (side : Side) (what : UnitAct) → slice_get s.units at ≡ Some u → IsOfSide u side what → (v : UnitState) → slice_get s.units at ≡ Some v → IsOfSide v side what
only-unit s at u side what found its v e = let same : u ≡ v = cc (sym found ∙ e) in subst (λ (x : UnitState). IsOfSide x side what) same its

-- the path that an act names is one of the subchannel's
path-taken : (sub : Subchannel) (o : Option UnitStep) (b : Bool) (t : DownResult) → (if b then report_taken sub o else Err fault.NoSuchPath) ≡ Ok t → report_taken sub o ≡ Ok t
path-taken sub o true t ok = ok
path-taken sub o false t ok = absurd (cc ok)

pub turn-acting : (s : State) (at : ℕ) (what : UnitAct) (r : Reply) (new : State) (waiting : WaitingRequests) → ResultOf s (event.Act at what) r new →
    IsActing s at what (record new { requests = waiting })
turn-acting s _ _ _ _ waiting (turn.Acts at index sub u what side t found is first there ok) =
    let its : (sub.setup.«unit» ≡ at) × (sub.setup.side ≡ side) = reached-there at side sub (first-passes (reaches at side) s.subs index sub first there) in
    record {
      side = side;
      its = only-unit s at u side what found is;
      steps = sent-stepped s at index side sub u (λ v. acts v side what) t waiting found first there
          (subst (λ (k : Side). report_taken sub (acts u k what) ≡ Ok t) its.1 (path-taken sub (acts u sub.setup.side what) (has_path_of_act sub what) t ok));
    }
