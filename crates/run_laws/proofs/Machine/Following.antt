-- What each step does to what is cleared of a subchannel, and to the reset of its hold.
use Rattle.std.proofs.Common.{◌≡◌, refl, sym, ◌∙◌, ap, subst, ℕ, suc, ◌+◌, ◌==◌, ◌&&◌, nat_lt, not, Bool, true, false, Option, None, Some, Result, List, [], ◌∷◌, map, inl, inr, length, arith}
use Rattle.std.specs.Prelude.{◌⊎◌, slice_get, slice_set, if◌then◌else◌, IfOk}
use Rattle.std.proofs.lemmas.Bool.{eqb-true, ltb-true}
use Rattle.std.proofs.lemmas.Option.{same_Some}
use Rattle.schib_block.specs.declared.pmcw.Pmcw as block
use Rattle.scsw_irb.specs.declared.scsw.Scsw.{Scsw}
use Rattle.orb_block.specs.declared.Orb.{Orb}
use Rattle.chan_model.specs.declared.answer.ConditionCode.{ConditionCode}
use Rattle.chan_model.specs.declared.answer.ConditionCode.TheVariants as code
use Rattle.chan_model.specs.declared.fault.Fault.{Fault}
use Rattle.chan_model.specs.declared.hold_state.HoldPhase.{HoldPhase}
use Rattle.chan_model.specs.declared.hold_state.HoldPhase.TheVariants as hold
use Rattle.chan_model.specs.declared.hold_state.HoldState.{HoldState}
use Rattle.chan_model.specs.Signals.{Down, Up}
use Rattle.chan_model.specs.declared.signal.Down.TheVariants as down
use Rattle.chan_model.specs.declared.signal.Up.TheVariants as up
use Rattle.chan_model.specs.declared.unit_state.UnitState.{UnitState}
use Rattle.chan_model.specs.HoldTable.{hold_after, reset_cleared, sending_reset}
use Rattle.chan_model.specs.ResetCauses.{rests_on}
use Rattle.chan_model.specs.UnitReports.{unit_reports}
use Rattle.chan_model.specs.UnitTable as unit_table
use Rattle.chan_model.specs.UnitTable.{UnitStep, unit_takes}
use Rattle.chan_events.specs.Events.{Event}
use Rattle.chan_events.specs.declared.event.Event.TheVariants as event
use Rattle.chan_events.specs.declared.event.Instruction.TheVariants as instruction
use Rattle.chan_events.specs.declared.event.UnitAct.{UnitAct}
use Rattle.chan_events.specs.Replies.{Reply}
use Rattle.chan_events.specs.declared.reply.Reply.TheVariants as reply
use Rattle.wires.specs.Queues.{queue}
use Rattle.subchannel_model.specs.declared.cause.StatusCause.TheVariants as cause
use Rattle.subchannel_model.specs.declared.state.Chosen.{Chosen}
use Rattle.subchannel_model.specs.declared.state.Chosen.TheVariants as chosen_is
use Rattle.subchannel_model.specs.declared.state.PmcwState.{PmcwState}
use Rattle.subchannel_model.specs.declared.state.Subchannel.{Subchannel}
use Rattle.subchannel_model.specs.declared.state.SubchannelState.{SubchannelState}
use Rattle.subchannel_model.specs.declared.state.UpStep.{UpStep}
use Rattle.subchannel_model.specs.Choosing.{IsFitFor, chosen, marked_sub, reset_sent, halt_sent, offered}
use Rattle.subchannel_model.specs.Halt.{drops_status, status_dropped, halt_begun}
use Rattle.subchannel_model.specs.Losing.{is_offered_or_held, reset_for, path_index, loses_at, loses, shows_at, available_pmcw}
use Rattle.subchannel_model.specs.Modify.{modified_state}
use Rattle.subchannel_model.specs.Programs.{without_programs, has_any}
use Rattle.subchannel_model.specs.Sending.{carried_by, finds_full}
use Rattle.subchannel_model.specs.Start.{started}
use Rattle.subchannel_model.specs.Indices.{one_later}
use Rattle.subchannel_model.specs.Taking.{takes_up}
use Rattle.subchannel_model.specs.Notice.{with_known}
use Rattle.subchannel_model.specs.Outcomes.{signal_ignored, signal_taken}
use Rattle.subchannel_model.specs.Cleared.{takes_cleared}
use Rattle.subchannel_model.specs.Status.{intermediate_alone, without_status}
use Rattle.subchannel_model.specs.SystemReset.{state_reset}
use Rattle.subchannel_model.specs.Test.{ended_scsw, suspended_scsw, intermediate_cleared, ends_suspended, tested, tested_wholly}
use Rattle.machine_model.specs.State.{State, index_of}
use Rattle.machine_model.specs.declared.state.Sweep.{Sweep}
use Rattle.machine_model.specs.declared.state.Sweep.TheVariants as sweep
use Rattle.machine_model.specs.ActSteps.{has_path_of_act, acts, act_sub}
use Rattle.machine_model.specs.ChooseSteps.{choose_sub}
use Rattle.machine_model.specs.DownSteps.{down_front, down_sub}
use Rattle.machine_model.specs.InstructionSteps.{test_with, function_sub}
use Rattle.machine_model.specs.PathSteps.{swept}
use Rattle.machine_model.specs.ReportSteps.{report_taken}
use Rattle.machine_model.specs.Results.{SubResult, UpResult, DownResult}
use Rattle.machine_model.specs.UpSteps.{up_front, up_sub}
use Rattle.step_laws.specs.Walks as walked
use Rattle.step_laws.specs.Walks.{Walked, Function, Resumes, Halts, Clears, Cancels, instruction_of, effect_of, sweep_event}
use Rattle.step_laws.proofs.Indices.{set-get, map-get}
use Rattle.run_laws.specs.Clearing.{IsClearing}
use Rattle.run_laws.specs.Resets.{RestsOn, IsResetCause, IsCleared}
use Rattle.run_laws.proofs.Machine.Moves.{if-ok}
use Rattle.run_laws.proofs.Machine.CalmStatus.{IsAsReset, as-same, Counts, counts-same, counts-zero, IsCalm, calm-same, cause-calm, clear_performed-calm, reset-phase, reset-cleared, reset-counts, clear_performed-phase}
use Rattle.run_laws.proofs.Machine.CalmSignals.{takes-calm}

-- a hold that is to be reset is so still and no other is, or is reset for a cause under a fresh number, or its reset ends
pub data Change (C : Type 0) (D : ℕ → Type 0) (s x : SubchannelState) : Type 0 where
  Keeps : IsAsReset s.hold.phase x.hold.phase → Change C D s x
  Resets : C → x.hold.phase ≡ hold.Reset (s.drawn + 1) → Change C D s x
  Ends : (n : ℕ) → D n → s.hold.phase ≡ hold.Reset n → x.hold.phase ≡ hold.Free → Change C D s x

-- what is cleared stays or is moved by its causes, and so is the reset
pub record Follows (s : State) (e : Event) (r : Reply) (index : ℕ) (sub : Subchannel) (x : SubchannelState) : Type 0 where
  pub clears : (x.serials.cleared ≡ sub.state.serials.cleared) ⊎ IsClearing s e r index sub
  pub change : Change (IsResetCause s e r index sub) (IsCleared s e r index) sub.state x
  pub counts : Counts sub.state x

-- the index of a channel path of a subchannel
index-there : (chpid x p : ℕ) (xs : List ℕ) (same : Bool) (o : Option ℕ) → (x == chpid) ≡ same →
    ((i : ℕ) → o ≡ Some i → slice_get xs i ≡ Some chpid) →
    (if same then Some 0 else one_later o) ≡ Some p → slice_get (x ∷ xs) p ≡ Some chpid
index-there chpid x p xs true o e f h =
    let z : 0 ≡ p = cc h in subst (λ (k : ℕ). slice_get (x ∷ xs) k ≡ Some chpid) z (ap (λ (k : ℕ). Some k) (eqb-true x chpid e))
index-there chpid x p xs false None e f h = absurd (cc h)
index-there chpid x p xs false (Some i) e f h =
    let z : i + 1 ≡ p = cc h in
    let k : suc i ≡ p = omega (arith, z) in
    subst (λ (k : ℕ). slice_get (x ∷ xs) k ≡ Some chpid) k (f i refl)

path-there : (chpid p : ℕ) (xs : List ℕ) → path_index chpid xs ≡ Some p → slice_get xs p ≡ Some chpid
path-there chpid p [] e = absurd (cc e)
path-there chpid p (x ∷ xs) e = index-there chpid x p xs (x == chpid) (path_index chpid xs) refl (λ i k. path-there chpid i xs k) e

-- TEST and HALT leave the hold
tested-phase : (s : SubchannelState) (ends : Bool) → (if ends then without_programs (tested s) else tested s).hold.phase ≡ s.hold.phase
tested-phase s true = refl
tested-phase s false = refl

halted-phase : (s : SubchannelState) (drops : Bool) → (if drops then status_dropped (halt_begun s) else halt_begun s).hold.phase ≡ s.hold.phase
halted-phase s true = refl
halted-phase s false = refl

-- neither makes status, and both leave the count
intermediate-count : (scsw : Scsw) (alone halt : Bool) →
    (if alone then without_status scsw else (if halt then ended_scsw scsw else suspended_scsw scsw)).count ≡ scsw.count
intermediate-count scsw true halt = refl
intermediate-count scsw false true = refl
intermediate-count scsw false false = refl

test-count : (scsw : Scsw) (quiet alone : Bool) →
    (if quiet then scsw else (if alone then intermediate_cleared scsw else ended_scsw scsw)).count ≡ scsw.count
test-count scsw true alone = refl
test-count scsw false true = intermediate-count scsw (not scsw.activity.suspended) scsw.functions.halt
test-count scsw false false = refl

tested-count : (s : SubchannelState) (ends : Bool) → (if ends then without_programs (tested s) else tested s).scsw.count ≡ s.scsw.count
tested-count s true = test-count s.scsw (not s.scsw.status.pending) (intermediate_alone s.scsw.status)
tested-count s false = test-count s.scsw (not s.scsw.status.pending) (intermediate_alone s.scsw.status)

tested-made : (s : SubchannelState) (ends : Bool) → (if ends then without_programs (tested s) else tested s).serials.made ≡ s.serials.made
tested-made s true = refl
tested-made s false = refl

halted-counts : (s : SubchannelState) (drops : Bool) → Counts s (if drops then status_dropped (halt_begun s) else halt_begun s)
halted-counts s true = counts-same s (status_dropped (halt_begun s)) refl refl
halted-counts s false = counts-same s (halt_begun s) refl refl

halted-clears : (s : SubchannelState) (drops : Bool) → drops_status s.scsw ≡ drops →
    ((if drops then status_dropped (halt_begun s) else halt_begun s).serials.cleared ≡ s.serials.cleared) ⊎ (drops_status s.scsw ≡ true)
halted-clears s true e = inr e
halted-clears s false e = inl refl

-- the Reset is sent
sending-as : (h : HoldState) (phase : HoldPhase) (p : ℕ) → h.phase ≡ phase → IsAsReset phase (hold_after h (sending_reset h phase p)).phase
sending-as h hold.Free p e = as-same hold.Free h.phase e
sending-as h other p e = as-same other h.phase e

-- what the subsystem does of itself for a subchannel is calm
abbrev OkCalm : Subchannel → Result SubResult Fault → Type 0
OkCalm sub r = IfOk r (λ t. IsCalm sub.state t.sub.state)

choose-calm : (sub : Subchannel) (c : Chosen) → IsFitFor c sub.state.hold → OkCalm sub (choose_sub sub c)
choose-calm sub chosen_is.Idle fit = calm-same sub.state sub.state refl refl refl refl
choose-calm sub (chosen_is.Resets r path) fit =
    if-ok (λ t. IsCalm sub.state t.sub.state)
    (finds_full sub.wires.down (carried_by sub (Some (record { path = path; signal = down.Reset r sub.state.hold.known_restarts })))) _ _ tt
    (record { cleared = refl; reset = sending-as sub.state.hold sub.state.hold.phase path refl; counts = counts-same sub.state (reset_sent sub.state path) refl refl })
choose-calm sub chosen_is.PerformsClear fit = cause-calm sub.state cause.ClearDone
choose-calm sub (chosen_is.Halts t path) fit =
    if-ok (λ t. IsCalm sub.state t.sub.state)
    (finds_full sub.wires.down (carried_by sub (Some (record { path = path; signal = down.Halt t })))) _ _ tt
    (calm-same sub.state (halt_sent sub.state) refl refl refl refl)
choose-calm sub chosen_is.PerformsHalt fit = cause-calm sub.state cause.HaltDone
choose-calm sub chosen_is.FindsNoPath fit = cause-calm sub.state cause.NoPath
choose-calm sub (chosen_is.Offers c path) fit =
    if-ok (λ t. IsCalm sub.state t.sub.state)
    (finds_full sub.wires.down (carried_by sub (Some (record { path = path; signal = down.Select (sub.state.drawn + 1) })))) _ _ tt
    (record {
      cleared = refl;
      reset = record { still = λ n k. absurd (cc (sym fit ∙ k)); was = λ n k. absurd (cc k) };
      counts = counts-same sub.state (offered sub.state c.program path) refl refl;
    })

marked-calm : (sub : Subchannel) (choice : Option ℕ) (x : SubchannelState) → IsCalm (marked_sub sub choice).state x → IsCalm sub.state x
marked-calm sub choice x k = record { cleared = k.cleared; reset = k.reset; counts = k.counts }

-- the unit's side leaves the state
abbrev OkSame : Subchannel → Result DownResult Fault → Type 0
OkSame sub r = IfOk r (λ t. t.sub.state ≡ sub.state)

down_front-same : (may : Bool) (sub : Subchannel) (path : ℕ) (u : UnitState) (front : Option Down) → OkSame sub (down_front may sub path u front)
down_front-same may sub path u None = tt
down_front-same may sub path u (Some signal) =
    if-ok (λ t. t.sub.state ≡ sub.state)
    (finds_full sub.wires.up (carried_by sub (unit_table.outcome_of (unit_takes u sub.setup.side path signal may)).sent)) _ _ tt refl

down-same : (may : Bool) (sub : Subchannel) (path : ℕ) (u : UnitState) → OkSame sub (down_sub may sub path u)
down-same may sub path u =
    if-ok (λ t. t.sub.state ≡ sub.state) (nat_lt path (length sub.setup.paths))
    (down_front may sub path u (slice_get (queue sub.wires.down path) 0)) _
    (down_front-same may sub path u (slice_get (queue sub.wires.down path) 0)) tt

report-same : (sub : Subchannel) (step : Option UnitStep) → OkSame sub (report_taken sub step)
report-same sub None = tt
report-same sub (Some step) = if-ok (λ t. t.sub.state ≡ sub.state) (finds_full sub.wires.up (carried_by sub step.sent)) _ _ tt refl

act-same : (sub : Subchannel) (u : UnitState) (what : UnitAct) → OkSame sub (act_sub sub u what)
act-same sub u what =
    if-ok (λ t. t.sub.state ≡ sub.state) (has_path_of_act sub what) (report_taken sub (acts u sub.setup.side what)) _
    (report-same sub (acts u sub.setup.side what)) tt

module _ (s : State) where
  calm-follows : (e : Event) (r : Reply) (index : ℕ) (sub : Subchannel) (x : SubchannelState) → IsCalm sub.state x → Follows s e r index sub x
  calm-follows e r index sub x k = record { clears = inl k.cleared; change = Keeps k.reset; counts = k.counts }

  same-follows : (e : Event) (r : Reply) (index : ℕ) (sub : Subchannel) (x : SubchannelState) → x ≡ sub.state → Follows s e r index sub x
  same-follows e r index sub x k =
      calm-follows e r index sub x
      (calm-same sub.state x (ap (λ (y : SubchannelState). y.serials.cleared) k) (ap (λ (y : SubchannelState). y.hold.phase) k)
      (ap (λ (y : SubchannelState). y.serials.made) k) (ap (λ (y : SubchannelState). y.scsw.count) k))

  -- the instructions
  start-follows : (e : Event) (r : Reply) (index : ℕ) (sub : Subchannel) (orb : Orb) (c : ConditionCode) →
      Follows s e r index sub (function_sub sub c (started sub.state orb)).sub.state
  start-follows e r index sub orb code.Zero =
      calm-follows e r index sub (started sub.state orb) (record { cleared = refl; reset = as-same sub.state.hold.phase _ refl; counts = counts-zero sub.state (started sub.state orb) refl refl })
  start-follows e r index sub orb c = same-follows e r index sub sub.state refl

  test-follows : (cpu word address index : ℕ) (sub : Subchannel) (c : ConditionCode) → index_of s word ≡ Some index →
      Follows s (event.Execute cpu (instruction.Tsch word address)) (test_with sub c).reply index sub (test_with sub c).sub.state
  test-follows cpu word address index sub code.Zero at =
      record {
        clears = inr at;
        change = Keeps (as-same sub.state.hold.phase _ (tested-phase sub.state (ends_suspended sub.state.scsw)));
        counts = counts-same sub.state (tested_wholly sub.state) (tested-made sub.state (ends_suspended sub.state.scsw)) (tested-count sub.state (ends_suspended sub.state.scsw));
      }
  test-follows cpu word address index sub c at = same-follows (event.Execute cpu (instruction.Tsch word address)) _ index sub sub.state refl

  modify-follows : (e : Event) (r : Reply) (index : ℕ) (sub : Subchannel) (given : block.Pmcw) (c : ConditionCode) →
      Follows s e r index sub (function_sub sub c (modified_state sub given)).sub.state
  modify-follows e r index sub given code.Zero =
      calm-follows e r index sub (modified_state sub given) (calm-same sub.state (modified_state sub given) refl refl refl refl)
  modify-follows e r index sub given c = same-follows e r index sub sub.state refl

  effect-follows : (cpu word index : ℕ) (sub : Subchannel) (f : Function) → index_of s word ≡ Some index →
      Follows s (event.Execute cpu (instruction_of f word)) (function_sub sub code.Zero (effect_of f sub.state)).reply index sub
      (effect_of f sub.state)
  effect-follows cpu word index sub Resumes at =
      calm-follows (event.Execute cpu (instruction.Rsch word)) _ index sub (effect_of Resumes sub.state)
      (calm-same sub.state (effect_of Resumes sub.state) refl refl refl refl)
  effect-follows cpu word index sub Halts at =
      record {
        clears = elim (halted-clears sub.state (drops_status sub.state.scsw) refl) [
          | inl k ↦ inl k
          | inr k ↦ inr (at, k)
        ];
        change = Keeps (as-same sub.state.hold.phase _ (halted-phase sub.state (drops_status sub.state.scsw)));
        counts = halted-counts sub.state (drops_status sub.state.scsw);
      }
  effect-follows cpu word index sub Clears at =
      record { clears = inr at; change = Resets at refl; counts = counts-zero sub.state (effect_of Clears sub.state) refl refl }
  effect-follows cpu word index sub Cancels at =
      calm-follows (event.Execute cpu (instruction.Xsch word)) _ index sub (effect_of Cancels sub.state)
      (calm-same sub.state (effect_of Cancels sub.state) refl refl refl refl)

  function-follows : (cpu word index : ℕ) (sub : Subchannel) (f : Function) (c : ConditionCode) → index_of s word ≡ Some index →
      Follows s (event.Execute cpu (instruction_of f word)) (function_sub sub c (effect_of f sub.state)).reply index sub
      (function_sub sub c (effect_of f sub.state)).sub.state
  function-follows cpu word index sub f code.Zero at = effect-follows cpu word index sub f at
  function-follows cpu word index sub f c at = same-follows (event.Execute cpu (instruction_of f word)) _ index sub sub.state refl

  -- a signal that came up
  abbrev FollowsUp : ℕ → ℕ → ℕ → Subchannel → Up → UpStep → Type 0
  FollowsUp word path index sub x step = Follows s (event.Up word path) (reply.Up x step.outcome.taken step.outcome.sent) index sub step.state

  clearing-follows : (word path index : ℕ) (sub : Subchannel) (r n : ℕ) (same : Bool) → index_of s word ≡ Some index →
      sub.state.hold.phase ≡ hold.Reset n → (r == n) ≡ same →
      FollowsUp word path index sub (up.Cleared r)
      (takes_cleared sub.state
      (if same then Some (record { state = record sub.state.hold { phase = hold.Free; reset_path = None }; sent = None }) else None))
  clearing-follows word path index sub r n true at h e =
      let x : SubchannelState = record sub.state { hold = record sub.state.hold { phase = hold.Free; reset_path = None } } in
      record { clears = inl (clear_performed-calm x).cleared; change = Ends n (at, eqb-true r n e) h (clear_performed-phase x); counts = (clear_performed-calm x).counts }
  clearing-follows word path index sub r n false at h e =
      same-follows (event.Up word path) (reply.Up (up.Cleared r) false None) index sub sub.state refl

  cleared-follows : (word path index : ℕ) (sub : Subchannel) (phase : HoldPhase) (r : ℕ) → index_of s word ≡ Some index →
      sub.state.hold.phase ≡ phase →
      FollowsUp word path index sub (up.Cleared r) (takes_cleared sub.state (reset_cleared sub.state.hold phase r))
  cleared-follows word path index sub (hold.Reset n) r at h = clearing-follows word path index sub r n (r == n) at h refl
  cleared-follows word path index sub other r at h =
      same-follows (event.Up word path) (reply.Up (up.Cleared r) false None) index sub sub.state refl

  notice-follows : (word path index : ℕ) (sub : Subchannel) (b : ℕ) (more : Bool) → index_of s word ≡ Some index →
      nat_lt sub.state.hold.known_restarts b ≡ more →
      FollowsUp word path index sub (up.Notice b) (if more then signal_taken (reset_for (with_known sub.state b)) else signal_ignored sub.state)
  notice-follows word path index sub b true at e =
      let shows : Bool = is_offered_or_held sub.state.hold.phase && has_any sub.state.waiting sub.state.begun sub.state.suspended in
      record {
        clears = inl (reset-cleared (with_known sub.state b) shows);
        change = Resets (at, ltb-true sub.state.hold.known_restarts b e) (reset-phase (with_known sub.state b) shows);
        counts = reset-counts (with_known sub.state b) shows;
      }
  notice-follows word path index sub b false at e = same-follows (event.Up word path) (reply.Up (up.Notice b) false None) index sub sub.state refl

  takes-follow : (returns : Bool) (word path index : ℕ) (sub : Subchannel) (x : Up) → index_of s word ≡ Some index →
      FollowsUp word path index sub x (takes_up returns s.storage sub.state path x).step
  takes-follow returns word path index sub (up.Cleared r) at = cleared-follows word path index sub sub.state.hold.phase r at refl
  takes-follow returns word path index sub (up.Notice b) at = notice-follows word path index sub b (nat_lt sub.state.hold.known_restarts b) at refl
  takes-follow returns word path index sub (up.Accept t) at =
      calm-follows (event.Up word path) _ index sub _ (takes-calm returns s.storage sub.state path (up.Accept t) tt)
  takes-follow returns word path index sub (up.Busy t) at =
      calm-follows (event.Up word path) _ index sub _ (takes-calm returns s.storage sub.state path (up.Busy t) tt)
  takes-follow returns word path index sub (up.Leave t c) at =
      calm-follows (event.Up word path) _ index sub _ (takes-calm returns s.storage sub.state path (up.Leave t c) tt)
  takes-follow returns word path index sub (up.Back t c) at =
      calm-follows (event.Up word path) _ index sub _ (takes-calm returns s.storage sub.state path (up.Back t c) tt)
  takes-follow returns word path index sub (up.Data load t c n seq) at =
      calm-follows (event.Up word path) _ index sub _ (takes-calm returns s.storage sub.state path (up.Data load t c n seq) tt)
  takes-follow returns word path index sub (up.End t n status more) at =
      calm-follows (event.Up word path) _ index sub _ (takes-calm returns s.storage sub.state path (up.End t n status more) tt)
  takes-follow returns word path index sub (up.Released t) at =
      calm-follows (event.Up word path) _ index sub _ (takes-calm returns s.storage sub.state path (up.Released t) tt)
  takes-follow returns word path index sub (up.Attn a status) at =
      calm-follows (event.Up word path) _ index sub _ (takes-calm returns s.storage sub.state path (up.Attn a status) tt)

  abbrev OkUp : ℕ → ℕ → ℕ → Subchannel → Result UpResult Fault → Type 0
  OkUp word path index sub r = IfOk r (λ t. Follows s (event.Up word path) t.reply index sub t.sub.state)

  up_front-follows : (returns : Bool) (word path index : ℕ) (sub : Subchannel) (front : Option Up) → index_of s word ≡ Some index →
      OkUp word path index sub (up_front returns s.storage sub path front)
  up_front-follows returns word path index sub None at = tt
  up_front-follows returns word path index sub (Some x) at =
      if-ok (λ t. Follows s (event.Up word path) t.reply index sub t.sub.state)
      (finds_full sub.wires.down (carried_by sub (takes_up returns s.storage sub.state path x).step.outcome.sent)) _ _ tt
      (takes-follow returns word path index sub x at)

  up-follows : (returns : Bool) (word path index : ℕ) (sub : Subchannel) → index_of s word ≡ Some index →
      OkUp word path index sub (up_sub returns s.storage sub path)
  up-follows returns word path index sub at =
      if-ok (λ t. Follows s (event.Up word path) t.reply index sub t.sub.state) (nat_lt path (length sub.setup.paths))
      (up_front returns s.storage sub path (slice_get (queue sub.wires.up path) 0)) _
      (up_front-follows returns word path index sub (slice_get (queue sub.wires.up path) 0) at) tt

  -- a channel path that is lost
  lost-follows : (e : Event) (r : Reply) (index : ℕ) (sub : Subchannel) (chpid p : ℕ) (rests : Bool) →
      (RestsOn sub chpid → IsResetCause s e r index sub) →
      slice_get sub.setup.paths p ≡ Some chpid → rests_on sub.state.hold p ≡ rests →
      Follows s e r index sub (if rests then reset_for sub.state else sub.state)
  lost-follows e r index sub chpid p true f there k =
      let shows : Bool = is_offered_or_held sub.state.hold.phase && has_any sub.state.waiting sub.state.begun sub.state.suspended in
      record { clears = inl (reset-cleared sub.state shows); change = Resets (f (p, there, k)) (reset-phase sub.state shows); counts = reset-counts sub.state shows }
  lost-follows e r index sub chpid p false f there k = same-follows e r index sub sub.state refl

  loses-follows : (e : Event) (r : Reply) (index : ℕ) (sub : Subchannel) (chpid : ℕ) (q : Option ℕ) →
      (RestsOn sub chpid → IsResetCause s e r index sub) →
      path_index chpid sub.setup.paths ≡ q → Follows s e r index sub (loses_at q sub).state
  loses-follows e r index sub chpid None f there = same-follows e r index sub sub.state refl
  loses-follows e r index sub chpid (Some p) f there =
      lost-follows e r index sub chpid p (rests_on sub.state.hold p) f (path-there chpid p sub.setup.paths there) refl

  -- the path-available mask is nothing to either
  change-shown : (C : Type 0) (D : ℕ → Type 0) (x y : SubchannelState) (pmcw : PmcwState) → Change C D x y → Change C D x (record y { pmcw = pmcw })
  change-shown C D x y pmcw (Keeps k) = Keeps k
  change-shown C D x y pmcw (Resets c k) = Resets c k
  change-shown C D x y pmcw (Ends n d k free) = Ends n d k free

  shows-follows : (e : Event) (r : Reply) (index : ℕ) (sub new : Subchannel) (q : Option ℕ) (up : Bool) → Follows s e r index sub new.state →
      Follows s e r index sub (shows_at q up new).state
  shows-follows e r index sub new None up k = k
  shows-follows e r index sub new (Some p) up k =
      record {
        clears = k.clears;
        change =
            change-shown (IsResetCause s e r index sub) (IsCleared s e r index) sub.state new.state (available_pmcw new.state.pmcw p up) k.change;
        counts = k.counts;
      }

  swept-follows : (r : Reply) (what : Sweep) (index : ℕ) (sub : Subchannel) → Follows s (sweep_event what) r index sub (swept what sub).state
  swept-follows r (sweep.GoesDown chpid) index sub =
      shows-follows (event.PathDown chpid) r index sub (loses chpid sub) (path_index chpid (loses chpid sub).setup.paths) false
      (loses-follows (event.PathDown chpid) r index sub chpid (path_index chpid sub.setup.paths) (λ k. k) refl)
  swept-follows r (sweep.ComesUp chpid) index sub =
      shows-follows (event.PathUp chpid) r index sub sub (path_index chpid sub.setup.paths) true
      (same-follows (event.PathUp chpid) r index sub sub.state refl)
  swept-follows r (sweep.PathReset chpid) index sub =
      loses-follows (event.PathReset chpid) r index sub chpid (path_index chpid sub.setup.paths) (λ k. k) refl
  swept-follows r sweep.SystemReset index sub =
      record { clears = inr tt; change = Resets tt refl; counts = counts-same sub.state (state_reset sub.state) refl refl }

  -- the subchannel of the index that was changed, or another
  abbrev Followed : Event → Reply → State → Type 0
  Followed e r new =
      (index : ℕ) (sub after : Subchannel) → slice_get s.subs index ≡ Some sub → slice_get new.subs index ≡ Some after →
      Follows s e r index sub after.state

  same-followed : (e : Event) (r : Reply) (new : State) → new.subs ≡ s.subs → Followed e r new
  same-followed e r new same index sub after there left =
      same-follows e r index sub after.state
      (ap (λ (x : Subchannel). x.state) (same_Some after sub (sym left ∙ ap (λ (xs : List Subchannel). slice_get xs index) same ∙ there)))

  one-followed : (e : Event) (r : Reply) (new : State) (at : ℕ) (x y : Subchannel) → slice_get s.subs at ≡ Some x → new.subs ≡ slice_set s.subs at y →
      Follows s e r at x y.state → Followed e r new
  one-followed e r new at x y found set k index sub after there left =
      elim (set-get s.subs at y index after (sym (ap (λ (xs : List Subchannel). slice_get xs index) set) ∙ left)) [
        | inl p ↦
            let same : x ≡ sub = same_Some x sub (sym found ∙ ap (λ (i : ℕ). slice_get s.subs i) (sym p.0) ∙ there) in
            subst (λ (z : Subchannel). Follows s e r index sub z.state) (sym p.1)
            (subst (λ (z : Subchannel). Follows s e r index z y.state) same (subst (λ (i : ℕ). Follows s e r i x y.state) (sym p.0) k))
        | inr p ↦ same-follows e r index sub after.state (ap (λ (z : Subchannel). z.state) (same_Some after sub (sym p.1 ∙ there)))
      ]

  swept-followed : (e : Event) (r : Reply) (what : Sweep) (new : State) → new.subs ≡ map (swept what) s.subs → e ≡ sweep_event what → Followed e r new
  swept-followed e r what new set k index sub after there left =
      let got : (x : Subchannel) × (slice_get s.subs index ≡ Some x) × (swept what x ≡ after) =
      map-get (swept what) s.subs index after (sym (ap (λ (xs : List Subchannel). slice_get xs index) set) ∙ left) in
      let same : got.0 ≡ sub = same_Some got.0 sub (sym got.1 ∙ there) in
      subst (λ (v : Event). Follows s v r index sub after.state) (sym k)
      (subst (λ (z : Subchannel). Follows s (sweep_event what) r index sub z.state) got.2
      (subst (λ (z : Subchannel). Follows s (sweep_event what) r index z (swept what got.0).state) same (swept-follows r what index got.0)))

  pub step-follows : (e : Event) (r : Reply) (new : State) → Walked s e r new → Followed e r new
  step-follows _ _ _ (walked.Stays e r new q sets subs units up) = same-followed e r new subs
  step-follows _ _ _ (walked.Started cpu word address index sub orb c new n one) =
      one-followed (event.Execute cpu (instruction.Ssch word address)) _ new index sub _ one.there one.subs
      (start-follows (event.Execute cpu (instruction.Ssch word address)) _ index sub orb c)
  step-follows _ _ _ (walked.Tested e r index sub c new q one address by answers) =
      one-followed e r new index sub _ one.there one.subs
      (subst (λ (v : Event). Follows s v r index sub (test_with sub c).sub.state) (sym by.event)
      (subst (λ (a : Reply). Follows s (event.Execute by.cpu (instruction.Tsch by.word address)) a index sub (test_with sub c).sub.state) (sym answers)
      (test-follows by.cpu by.word address index sub c by.at)))
  step-follows _ _ _ (walked.Modified e r index sub given c new q one) =
      one-followed e r new index sub _ one.there one.subs (modify-follows e r index sub given c)
  step-follows _ _ _ (walked.Performed e r index sub f c new q one by answers) =
      one-followed e r new index sub _ one.there one.subs
      (subst (λ (v : Event). Follows s v r index sub (function_sub sub c (effect_of f sub.state)).sub.state) (sym by.event)
      (subst (λ (a : Reply). Follows s (event.Execute by.cpu (instruction_of f by.word)) a index sub
      (function_sub sub c (effect_of f sub.state)).sub.state) (sym answers)
      (function-follows by.cpu by.word index sub f c by.at)))
  step-follows _ _ _ (walked.Chosen word index sub choice t new n x w h one) =
      one-followed (event.Choose word) t.reply new index sub t.sub one.there one.subs
      (calm-follows (event.Choose word) t.reply index sub t.sub.state
      (marked-calm sub choice t.sub.state (subst (OkCalm (marked_sub sub choice)) h (choose-calm (marked_sub sub choice) (chosen sub choice) w.fits))))
  step-follows _ _ _ (walked.Met word path returns index sub t new n h one may) =
      one-followed (event.Up word path) t.reply new index sub t.sub one.there one.subs
      (subst (OkUp word path index sub) h (up-follows returns word path index sub n))
  step-follows _ _ _ (walked.Sunk word path may owed index sub u t new n h one) =
      one-followed (event.Down word path) t.reply new index sub t.sub one.there one.subs
      (same-follows (event.Down word path) t.reply index sub t.sub.state (subst (OkSame sub) h (down-same may sub path u)))
  step-follows _ _ _ (walked.Reported at index sub u report t new n k h one) =
      one-followed (event.Report at report) t.reply new index sub t.sub one.there one.subs
      (same-follows (event.Report at report) t.reply index sub t.sub.state (subst (OkSame sub) h (report-same sub (unit_reports u report))))
  step-follows _ _ _ (walked.Acted at index sub u what t new side its h one) =
      one-followed (event.Act at what) t.reply new index sub t.sub one.there one.subs
      (same-follows (event.Act at what) t.reply index sub t.sub.state (subst (OkSame sub) h (act-same sub u what)))
  step-follows _ _ _ (walked.Restarted at owed u r new found sets subs units up) = same-followed (event.Restart at) r new subs
  step-follows _ _ _ (walked.Swept e r what new q sets subs units by) = swept-followed e r what new subs by.event
