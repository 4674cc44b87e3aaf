-- What signals that pass between a subchannel and its unit leave of the subchannel.
use Rattle.std.proofs.Common.{◌≡◌, refl, sym, subst, ℕ, Bool, true, nat_lt, Option, None, Some, List, length, slice_get, IfOk, inl, inr}
use Rattle.chan_events.specs.declared.event.UnitAct.{UnitAct}
use Rattle.chan_events.specs.declared.reply.Reply.TheVariants as reply
use Rattle.chan_model.specs.declared.hold_state.HoldPhase.{HoldPhase}
use Rattle.chan_model.specs.Reports.{Report}
use Rattle.chan_model.specs.Signals.{Down, Up}
use Rattle.chan_model.specs.declared.signal.Down.TheVariants as down
use Rattle.chan_model.specs.declared.signal.OnPath.{OnPath}
use Rattle.chan_model.specs.declared.signal.Up.TheVariants as up
use Rattle.chan_model.specs.declared.unit_state.UnitState.{UnitState}
use Rattle.chan_model.specs.ResetCauses.{is_held}
use Rattle.chan_model.specs.UnitReports.{unit_reports}
use Rattle.chan_model.specs.UnitTable.{UnitStep, unit_takes}
use Rattle.chan_model.specs.UnitTable as unit_table
use Rattle.storage_keys.specs.Storage.{Contents}
use Rattle.wires.specs.Queues.{queue, taken}
use Rattle.subchannel_model.specs.declared.state.Subchannel.{Subchannel}
use Rattle.subchannel_model.specs.declared.state.UpStep.{UpStep}
use Rattle.subchannel_model.specs.Sending.{carried_by, finds_full, with_any_sent}
use Rattle.subchannel_model.specs.Taking.{takes_up}
use Rattle.machine_model.specs.ActSteps.{has_path_of_act, acts, act_sub}
use Rattle.machine_model.specs.DownSteps.{with_answer, down_front, down_sub}
use Rattle.machine_model.specs.ReportSteps.{with_any_up, report_taken, report_sub}
use Rattle.machine_model.specs.Results.{UpResult, DownResult}
use Rattle.machine_model.specs.UpSteps.{with_met, up_front, up_sub}
use Rattle.run_laws.specs.Returns.{accepted_by, granted_path}
use Rattle.run_laws.proofs.Machine.WaitingSignals.{OnSent, each-front, taken-each, carried-each}
use Rattle.run_laws.proofs.Machine.Told.{IsTiedDown, IsTiedUp, IsLater, downs-later, ups-later}
use Rattle.run_laws.proofs.Machine.Meeting.{IsAnswer, AreAnswers, IsMet, takes-met, answers-granted}
use Rattle.run_laws.proofs.Machine.Units.{IsEcho, AreEchoes, AreOthers, others-echo, takes-echo, reports-send, acts-send}
use Rattle.run_laws.proofs.Machine.Moves.{if-ok}
use Rattle.run_laws.proofs.Machine.Moving.{IsOnAvailable, IsCarried, IsFree, IsMoved, Same, same-available, on-available}

-- a signal that came up
answer-tied : (returns : Bool) (p : ℕ) (phase : HoldPhase) (drawn : ℕ) (next : HoldPhase) (q : ℕ) (d : Down) → IsAnswer returns p phase q d → IsTiedDown drawn next q d
answer-tied returns p phase drawn next q (down.Select t) a = absurd a
answer-tied returns p phase drawn next q (down.Command t n code room) a = tt
answer-tied returns p phase drawn next q (down.Grant t c) a = tt
answer-tied returns p phase drawn next q (down.Refuse t c) a = tt
answer-tied returns p phase drawn next q (down.Took t n s room) a = tt
answer-tied returns p phase drawn next q (down.Give bytes t c n s) a = tt
answer-tied returns p phase drawn next q (down.Halt t) a = tt
answer-tied returns p phase drawn next q (down.Release t) a = tt
answer-tied returns p phase drawn next q (down.Reset r b) a = tt
answer-tied returns p phase drawn next q (down.Got a) b = tt

answers-tied : (returns : Bool) (p : ℕ) (phase : HoldPhase) (drawn : ℕ) (next : HoldPhase) (available : List Bool) (one : Option (OnPath Down)) →
    AreAnswers returns p phase one → OnSent (IsTiedDown drawn next) available one
answers-tied returns p phase drawn next available None a = tt
answers-tied returns p phase drawn next available (Some s) a = λ e. answer-tied returns p phase drawn next s.path s.signal a

met-carried : (sub : Subchannel) (path : ℕ) (step : UpStep) → step.state.pmcw.available ≡ sub.state.pmcw.available → IsCarried sub → IsCarried (with_met sub path step)
met-carried sub path step e c = record {
  downs = same-available sub.state.pmcw.available step.state.pmcw.available (with_any_sent sub.wires.down (carried_by sub step.outcome.sent)) e
      (carried-each (IsOnAvailable sub.state.pmcw.available) sub.wires.down sub.state.pmcw.available step.outcome.sent
      (on-available sub.state.pmcw.available step.outcome.sent) c.downs);
  ups = same-available sub.state.pmcw.available step.state.pmcw.available (taken sub.wires.up path) e
      (taken-each (IsOnAvailable sub.state.pmcw.available) sub.wires.up path c.ups);
}

met-moved : (subs : List Subchannel) (returns : Bool) (sub : Subchannel) (path : ℕ) (x : Up) (step : UpStep) → (returns ≡ true → IsFree subs sub path) →
    slice_get (queue sub.wires.up path) 0 ≡ Some x → IsMet returns path x sub.state step →
    IsMoved subs (λ accepted. accepted_by (reply.Up x step.outcome.taken step.outcome.sent) path accepted) sub (with_met sub path step)
met-moved subs returns sub path x step free front m =
    let later : IsLater sub.state.drawn step.state.drawn sub.state.hold.phase step.state.hold.phase = record { rises = m.drawn; offered = λ t p le e. m.offered t p e } in
    record {
      setup = refl;
      available = m.available;
      engaged = λ q e. elim (m.engaged q e) [
        | inl h ↦ inl h
        | inr h ↦ inr (subst (λ (r : ℕ). IsFree subs sub r) (sym h.1) (free h.0))
      ];
      carried = met-carried sub path step m.available;
      told = λ accepted t. record {
        remembers = m.remembers accepted (each-front (IsTiedUp sub.state.drawn sub.state.hold.phase path) (queue sub.wires.up path) x (t.ups path) front) t.remembers;
        downs = carried-each (IsTiedDown step.state.drawn step.state.hold.phase) sub.wires.down sub.state.pmcw.available step.outcome.sent
            (answers-tied returns path sub.state.hold.phase step.state.drawn step.state.hold.phase sub.state.pmcw.available step.outcome.sent m.sent)
            (downs-later sub.state.drawn step.state.drawn sub.state.hold.phase step.state.hold.phase sub.wires.down later t.downs);
        ups = taken-each (IsTiedUp step.state.drawn step.state.hold.phase) sub.wires.up path
            (ups-later sub.state.drawn step.state.drawn sub.state.hold.phase step.state.hold.phase sub.wires.up later t.ups);
      };
    }

abbrev pub IsUpMoved : List Subchannel → Subchannel → ℕ → UpResult → Type 0
IsUpMoved subs sub path t = IsMoved subs (λ accepted. accepted_by t.reply path accepted) sub t.sub

front-moved : (subs : List Subchannel) (returns : Bool) (storage : Contents) (sub : Subchannel) (path : ℕ) (front : Option Up) → (returns ≡ true → IsFree subs sub path) →
    slice_get (queue sub.wires.up path) 0 ≡ front → IfOk (up_front returns storage sub path front) (IsUpMoved subs sub path)
front-moved subs returns storage sub path None free e = tt
front-moved subs returns storage sub path (Some x) free e =
    let step : UpStep = (takes_up returns storage sub.state path x).step in
    if-ok (IsUpMoved subs sub path) (finds_full sub.wires.down (carried_by sub step.outcome.sent)) _ _ tt
    (met-moved subs returns sub path x step free e (takes-met returns storage sub.state path x))

pub up-moved : (subs : List Subchannel) (returns : Bool) (storage : Contents) (sub : Subchannel) (path : ℕ) → (returns ≡ true → IsFree subs sub path) →
    IfOk (up_sub returns storage sub path) (IsUpMoved subs sub path)
up-moved subs returns storage sub path free =
    if-ok (IsUpMoved subs sub path) (nat_lt path (length sub.setup.paths)) (up_front returns storage sub path (slice_get (queue sub.wires.up path) 0)) _
    (front-moved subs returns storage sub path (slice_get (queue sub.wires.up path) 0) free refl) tt

-- a Grant goes by the path of its Back, to a program that is held and may come back
abbrev pub IsGranted : Bool → Subchannel → ℕ → UpResult → Type 0
IsGranted returns sub path t = (q : ℕ) → granted_path t.reply ≡ Some q → (returns ≡ true) × (q ≡ path) × (is_held sub.state.hold.phase ≡ true)

front-granted : (returns : Bool) (storage : Contents) (sub : Subchannel) (path : ℕ) (front : Option Up) →
    IfOk (up_front returns storage sub path front) (IsGranted returns sub path)
front-granted returns storage sub path None = tt
front-granted returns storage sub path (Some x) =
    let step : UpStep = (takes_up returns storage sub.state path x).step in
    if-ok (IsGranted returns sub path) (finds_full sub.wires.down (carried_by sub step.outcome.sent)) _ _ tt
    (λ q e. answers-granted returns path sub.state.hold.phase step.outcome.sent q (takes-met returns storage sub.state path x).sent e)

pub up-granted : (returns : Bool) (storage : Contents) (sub : Subchannel) (path : ℕ) → IfOk (up_sub returns storage sub path) (IsGranted returns sub path)
up-granted returns storage sub path =
    if-ok (IsGranted returns sub path) (nat_lt path (length sub.setup.paths)) (up_front returns storage sub path (slice_get (queue sub.wires.up path) 0)) _
    (front-granted returns storage sub path (slice_get (queue sub.wires.up path) 0)) tt

-- a signal that the unit sends
echo-tied : (drawn : ℕ) (phase : HoldPhase) (p : ℕ) (d : Down) (q : ℕ) (x : Up) → IsEcho p d q x → IsTiedDown drawn phase p d → IsTiedUp drawn phase q x
echo-tied drawn phase p d q (up.Accept t) a tied =
    subst (λ (r : ℕ). IsTiedUp drawn phase r (up.Accept t)) (sym a.1) (subst (λ (y : Down). IsTiedDown drawn phase p y) a.0 tied)
echo-tied drawn phase p d q (up.Busy t) a tied = tt
echo-tied drawn phase p d q (up.Leave t c) a tied = tt
echo-tied drawn phase p d q (up.Back t c) a tied = tt
echo-tied drawn phase p d q (up.Data load t c n s) a tied = tt
echo-tied drawn phase p d q (up.End t n status more) a tied = tt
echo-tied drawn phase p d q (up.Released t) a tied = tt
echo-tied drawn phase p d q (up.Cleared r) a tied = tt
echo-tied drawn phase p d q (up.Notice b) a tied = tt
echo-tied drawn phase p d q (up.Attn b status) a tied = tt

echoes-tied : (drawn : ℕ) (phase : HoldPhase) (available : List Bool) (p : ℕ) (d : Down) (one : Option (OnPath Up)) → AreEchoes p d one → IsTiedDown drawn phase p d →
    OnSent (IsTiedUp drawn phase) available one
echoes-tied drawn phase available p d None a tied = tt
echoes-tied drawn phase available p d (Some s) a tied = λ e. echo-tied drawn phase p d s.path s.signal a tied

others-tied : (drawn : ℕ) (phase : HoldPhase) (available : List Bool) (one : Option (OnPath Up)) → AreOthers one → OnSent (IsTiedUp drawn phase) available one
others-tied drawn phase available one others = echoes-tied drawn phase available 0 (down.Got 0) one (others-echo 0 (down.Got 0) one others) tt

answered-moved : (subs : List Subchannel) (sub : Subchannel) (path : ℕ) (d : Down) (one : Option (OnPath Up)) → slice_get (queue sub.wires.down path) 0 ≡ Some d →
    AreEchoes path d one → IsMoved subs Same sub (with_answer sub path one)
answered-moved subs sub path d one front a = record {
  setup = refl;
  available = refl;
  engaged = λ q e. inl e;
  carried = λ c. record {
    downs = taken-each (IsOnAvailable sub.state.pmcw.available) sub.wires.down path c.downs;
    ups = carried-each (IsOnAvailable sub.state.pmcw.available) sub.wires.up sub.state.pmcw.available one (on-available sub.state.pmcw.available one) c.ups;
  };
  told = λ accepted t. record {
    remembers = t.remembers;
    downs = taken-each (IsTiedDown sub.state.drawn sub.state.hold.phase) sub.wires.down path t.downs;
    ups = carried-each (IsTiedUp sub.state.drawn sub.state.hold.phase) sub.wires.up sub.state.pmcw.available one
        (echoes-tied sub.state.drawn sub.state.hold.phase sub.state.pmcw.available path d one a
        (each-front (IsTiedDown sub.state.drawn sub.state.hold.phase path) (queue sub.wires.down path) d (t.downs path) front)) t.ups;
  };
}

told-moved : (subs : List Subchannel) (sub : Subchannel) (one : Option (OnPath Up)) → AreOthers one → IsMoved subs Same sub (with_any_up sub one)
told-moved subs sub one others = record {
  setup = refl;
  available = refl;
  engaged = λ q e. inl e;
  carried = λ c. record {
    downs = c.downs;
    ups = carried-each (IsOnAvailable sub.state.pmcw.available) sub.wires.up sub.state.pmcw.available one (on-available sub.state.pmcw.available one) c.ups;
  };
  told = λ accepted t. record {
    remembers = t.remembers;
    downs = t.downs;
    ups = carried-each (IsTiedUp sub.state.drawn sub.state.hold.phase) sub.wires.up sub.state.pmcw.available one
        (others-tied sub.state.drawn sub.state.hold.phase sub.state.pmcw.available one others) t.ups;
  };
}

abbrev pub IsUnitMoved : List Subchannel → Subchannel → DownResult → Type 0
IsUnitMoved subs sub t = IsMoved subs Same sub t.sub

down_front-moved : (subs : List Subchannel) (may : Bool) (sub : Subchannel) (path : ℕ) (u : UnitState) (front : Option Down) →
    slice_get (queue sub.wires.down path) 0 ≡ front → IfOk (down_front may sub path u front) (IsUnitMoved subs sub)
down_front-moved subs may sub path u None e = tt
down_front-moved subs may sub path u (Some d) e =
    let one : Option (OnPath Up) = (unit_table.outcome_of (unit_takes u sub.setup.side path d may)).sent in
    if-ok (IsUnitMoved subs sub) (finds_full sub.wires.up (carried_by sub one)) _ _ tt (answered-moved subs sub path d one e (takes-echo u sub.setup.side path d may))

pub down-moved : (subs : List Subchannel) (may : Bool) (sub : Subchannel) (path : ℕ) (u : UnitState) → IfOk (down_sub may sub path u) (IsUnitMoved subs sub)
down-moved subs may sub path u =
    if-ok (IsUnitMoved subs sub) (nat_lt path (length sub.setup.paths)) (down_front may sub path u (slice_get (queue sub.wires.down path) 0)) _
    (down_front-moved subs may sub path u (slice_get (queue sub.wires.down path) 0) refl) tt

step-moved : (subs : List Subchannel) (sub : Subchannel) (step : Option UnitStep) → AreOthers (unit_table.outcome_of step).sent → IfOk (report_taken sub step) (IsUnitMoved subs sub)
step-moved subs sub None others = tt
step-moved subs sub (Some step) others =
    if-ok (IsUnitMoved subs sub) (finds_full sub.wires.up (carried_by sub step.sent)) _ _ tt (told-moved subs sub step.sent others)

pub report-moved : (subs : List Subchannel) (sub : Subchannel) (u : UnitState) (r : Report) → IfOk (report_sub sub u r) (IsUnitMoved subs sub)
report-moved subs sub u r = step-moved subs sub (unit_reports u r) (reports-send u r)

pub act-moved : (subs : List Subchannel) (sub : Subchannel) (u : UnitState) (what : UnitAct) → IfOk (act_sub sub u what) (IsUnitMoved subs sub)
act-moved subs sub u what =
    if-ok (IsUnitMoved subs sub) (has_path_of_act sub what) (report_taken sub (acts u sub.setup.side what)) _
    (step-moved subs sub (acts u sub.setup.side what) (acts-send u sub.setup.side what)) tt
