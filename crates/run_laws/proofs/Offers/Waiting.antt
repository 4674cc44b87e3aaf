-- In no step but a START SUBCHANNEL does a start begin to wait.
use Rattle.std.proofs.Common.{◌≡◌, refl, sym, subst, ℕ, ◌+◌, ◌&&◌, Bool, Option, None, Some, Result, List, inl, inr}
use Rattle.std.specs.Prelude.{nat_lt, slice_get, slice_set, length, IfOk}
use Rattle.storage_keys.specs.Storage.{Contents}
use Rattle.chan_model.specs.declared.answer.ConditionCode.{ConditionCode}
use Rattle.chan_model.specs.declared.answer.ConditionCode.TheVariants as code
use Rattle.chan_model.specs.declared.fault.Fault.{Fault}
use Rattle.chan_model.specs.declared.signal.Down.TheVariants as down
use Rattle.chan_model.specs.Signals.{Up}
use Rattle.chan_model.specs.declared.unit_state.UnitState.{UnitState}
use Rattle.chan_model.specs.UnitReports.{unit_reports}
use Rattle.chan_events.specs.Events.{Event}
use Rattle.chan_events.specs.declared.event.Event.TheVariants as event
use Rattle.chan_events.specs.declared.event.Instruction.TheVariants as instruction
use Rattle.chan_events.specs.Replies.{Reply}
use Rattle.schib_block.specs.declared.pmcw.Pmcw as block
use Rattle.wires.specs.Queues.{queue}
use Rattle.subchannel_model.specs.declared.cause.StatusCause.TheVariants as cause
use Rattle.subchannel_model.specs.declared.state.Chosen.{Chosen}
use Rattle.subchannel_model.specs.declared.state.Chosen.TheVariants.{Idle, Resets, PerformsClear, Halts, PerformsHalt, FindsNoPath, Offers}
use Rattle.subchannel_model.specs.declared.state.Program.{Program}
use Rattle.subchannel_model.specs.declared.state.Subchannel.{Subchannel}
use Rattle.subchannel_model.specs.declared.state.SubchannelState.{SubchannelState}
use Rattle.subchannel_model.specs.Choosing.{chosen, marked_sub}
use Rattle.subchannel_model.specs.Losing.{is_offered_or_held}
use Rattle.subchannel_model.specs.Modify.{modified_state}
use Rattle.subchannel_model.specs.Programs.{has_any}
use Rattle.subchannel_model.specs.Sending.{carried_by, finds_full}
use Rattle.subchannel_model.specs.Taking.{takes_up}
use Rattle.machine_model.specs.ChooseSteps.{choose_sub}
use Rattle.machine_model.specs.InstructionSteps.{function_sub, test_with}
use Rattle.machine_model.specs.PathSteps.{swept}
use Rattle.machine_model.specs.State.{State}
use Rattle.machine_model.specs.Results.{SubResult, UpResult, DownResult}
use Rattle.machine_model.specs.UpSteps.{up_front, up_sub}
use Rattle.machine_model.specs.declared.state.Sweep.{Sweep}
use Rattle.step_laws.specs.Walks as walked
use Rattle.step_laws.specs.Walks.{Walked, Function, Resumes, Clears, Cancels, effect_of, OneSub, OneUnit}
use Rattle.step_laws.proofs.Indices.{set-get, map-get}
use Rattle.run_laws.proofs.Signals.OwnSteps.{IsApart, down-apart, step-apart, act-apart}
use Rattle.run_laws.proofs.Traces.Sweeps.{swept-kept}
use Rattle.run_laws.proofs.Units.UnitActs.{if-ok}
use Rattle.run_laws.proofs.Links.Vanishing.{send-ok}
use Rattle.run_laws.proofs.Offers.Waits.{cause-waits, reset-waits, takes-waits, test-waits, halt-waits}

module _ (P : Option Program → Type 0) (none : P None) where
  abbrev Stays : Subchannel → Subchannel → Type 0
  Stays sub after = P sub.state.waiting → P after.state.waiting

  -- instructions
  test-stays : (sub : Subchannel) (c : ConditionCode) → Stays sub (test_with sub c).sub
  test-stays sub code.Zero k = test-waits P none sub.state k
  test-stays sub c k = k

  modify-stays : (sub : Subchannel) (given : block.Pmcw) (c : ConditionCode) → Stays sub (function_sub sub c (modified_state sub given)).sub
  modify-stays sub given code.Zero k = k
  modify-stays sub given c k = k

  effect-waits : (s : SubchannelState) (f : Function) → P s.waiting → P (effect_of f s).waiting
  effect-waits s Resumes k = k
  effect-waits s walked.Halts k = halt-waits P none s k
  effect-waits s Clears k = none
  effect-waits s Cancels k = none

  function-stays : (sub : Subchannel) (f : Function) (c : ConditionCode) → Stays sub (function_sub sub c (effect_of f sub.state)).sub
  function-stays sub f code.Zero k = effect-waits sub.state f k
  function-stays sub f c k = k

  -- Choose
  choose-stays : (sub : Subchannel) (c : Chosen) → IfOk (choose_sub sub c) (λ t. Stays sub t.sub)
  choose-stays sub Idle = λ k. k
  choose-stays sub (Resets r path) = send-ok (λ t. Stays sub t.sub) sub _ path (down.Reset r sub.state.hold.known_restarts) _ (λ k. k)
  choose-stays sub PerformsClear = λ k. cause-waits P none sub.state cause.ClearDone k
  choose-stays sub (Halts t path) = send-ok (λ t. Stays sub t.sub) sub _ path (down.Halt t) _ (λ k. k)
  choose-stays sub PerformsHalt = λ k. cause-waits P none sub.state cause.HaltDone k
  choose-stays sub FindsNoPath = λ k. cause-waits P none sub.state cause.NoPath k
  choose-stays sub (Offers c path) = send-ok (λ t. Stays sub t.sub) sub _ path (down.Select (sub.state.drawn + 1)) _ (λ k. k)

  -- a signal that comes up
  front-stays : (returns : Bool) (storage : Contents) (sub : Subchannel) (path : ℕ) (front : Option Up) → IfOk (up_front returns storage sub path front) (λ t. Stays sub t.sub)
  front-stays returns storage sub path None = tt
  front-stays returns storage sub path (Some x) =
      if-ok (λ (t : UpResult). Stays sub t.sub) (finds_full sub.wires.down (carried_by sub (takes_up returns storage sub.state path x).step.outcome.sent)) _ _ tt
      (λ k. takes-waits P none returns storage sub.state path x k)

  up-stays : (returns : Bool) (storage : Contents) (sub : Subchannel) (path : ℕ) → IfOk (up_sub returns storage sub path) (λ t. Stays sub t.sub)
  up-stays returns storage sub path =
      if-ok (λ (t : UpResult). Stays sub t.sub) (nat_lt path (length sub.setup.paths)) (up_front returns storage sub path (slice_get (queue sub.wires.up path) 0)) _
      (front-stays returns storage sub path (slice_get (queue sub.wires.up path) 0)) tt

  apart-stays : (sub : Subchannel) (t : DownResult) → IsApart sub t → Stays sub t.sub
  apart-stays sub t m k = subst (λ (x : SubchannelState). P x.waiting) (sym m.state) k

  -- what befalls all subchannels
  swept-stays : (what : Sweep) (x : Subchannel) → Stays x (swept what x)
  swept-stays what x k =
      swept-kept x (λ y. P y.state.waiting) (λ y path up g. g) (λ path g. g)
      (λ wires g. reset-waits P none x.state (is_offered_or_held x.state.hold.phase && has_any x.state.waiting x.state.begun x.state.suspended) g) (λ g. none) what k

  -- at an index
  abbrev WaitsAt : List Subchannel → ℕ → Subchannel → Type 0
  WaitsAt subs index sub = (old : Subchannel) × (slice_get subs index ≡ Some old) × (P old.state.waiting → P sub.state.waiting)

  same-at : (s new : State) (index : ℕ) (sub : Subchannel) → new.subs ≡ s.subs → slice_get new.subs index ≡ Some sub → WaitsAt s.subs index sub
  same-at s new index sub e at = (sub, subst (λ (xs : List Subchannel). slice_get xs index ≡ Some sub) e at, λ k. k)

  set-at : (subs : List Subchannel) (at index : ℕ) (x after sub : Subchannel) → slice_get subs at ≡ Some x → Stays x after → slice_get (slice_set subs at after) index ≡ Some sub → WaitsAt subs index sub
  set-at subs at index x after sub there stays here =
      elim (set-get subs at after index sub here) [
        | inl p ↦ (
          x,
          subst (λ (i : ℕ). slice_get subs i ≡ Some x) (sym p.0) there,
          λ k. subst (λ (y : Subchannel). P y.state.waiting) (sym p.1) (stays k),
        )
        | inr p ↦ (sub, p.1, λ k. k)
      ]

  one-at : (s new : State) (at index : ℕ) (x after sub : Subchannel) → OneSub s new at x after → Stays x after → slice_get new.subs index ≡ Some sub → WaitsAt s.subs index sub
  one-at s new at index x after sub one stays here =
      set-at s.subs at index x after sub one.there stays (subst (λ (xs : List Subchannel). slice_get xs index ≡ Some sub) one.subs here)

  unit-at : (s new : State) (at index i : ℕ) (x : Subchannel) (t : DownResult) (u v : UnitState) (sub : Subchannel) → OneUnit s new at x t.sub i u v → IsApart x t →
      slice_get new.subs index ≡ Some sub → WaitsAt s.subs index sub
  unit-at s new at index i x t u v sub one m here =
      set-at s.subs at index x t.sub sub one.there (apart-stays x t m) (subst (λ (xs : List Subchannel). slice_get xs index ≡ Some sub) one.subs here)

  pub walk-waits : (s : State) (e : Event) (r : Reply) (new : State) → Walked s e r new → ((cpu word address : ℕ) → e ≡ event.Execute cpu (instruction.Ssch word address) → ⊥) →
      (index : ℕ) (sub : Subchannel) → slice_get new.subs index ≡ Some sub → WaitsAt s.subs index sub
  walk-waits s _ _ _ (walked.Stays e r new q sets subs units up) not index sub here = same-at s new index sub subs here
  walk-waits s _ _ _ (walked.Started cpu word address at x orb c new n one) not index sub here = absurd (not cpu word address refl)
  walk-waits s _ _ _ (walked.Tested e r at x c new q one address by answers) not index sub here = one-at s new at index x _ sub one (test-stays x c) here
  walk-waits s _ _ _ (walked.Modified e r at x given c new q one) not index sub here = one-at s new at index x _ sub one (modify-stays x given c) here
  walk-waits s _ _ _ (walked.Performed e r at x f c new q one by answers) not index sub here = one-at s new at index x _ sub one (function-stays x f c) here
  walk-waits s _ _ _ (walked.Chosen word at x choice t new n y w ok one) not index sub here =
      one-at s new at index x t.sub sub one
      (subst (λ (r : Result SubResult Fault). IfOk r (λ t. Stays (marked_sub x choice) t.sub)) ok (choose-stays (marked_sub x choice) (chosen x choice))) here
  walk-waits s _ _ _ (walked.Met word path returns at x t new n ok one may) not index sub here =
      one-at s new at index x t.sub sub one (subst (λ (r : Result UpResult Fault). IfOk r (λ t. Stays x t.sub)) ok (up-stays returns s.storage x path)) here
  walk-waits s _ _ _ (walked.Sunk word path may owed at x u t new n ok one) not index sub here =
      unit-at s new at index _ x t u _ sub one (subst (λ (r : Result DownResult Fault). IfOk r (IsApart x)) ok (down-apart may x path u)) here
  walk-waits s _ _ _ (walked.Reported i at x u report t new n reached ok one) not index sub here =
      unit-at s new at index i x t u _ sub one (subst (λ (r : Result DownResult Fault). IfOk r (IsApart x)) ok (step-apart x (unit_reports u report))) here
  walk-waits s _ _ _ (walked.Acted i at x u what t new side its ok one) not index sub here =
      unit-at s new at index i x t u _ sub one (subst (λ (r : Result DownResult Fault). IfOk r (IsApart x)) ok (act-apart x u what)) here
  walk-waits s _ _ _ (walked.Restarted at owed u r new found sets subs units up) not index sub here = same-at s new index sub subs here
  walk-waits s _ _ _ (walked.Swept e r what new q sets subs units by) not index sub here =
      let p = map-get (swept what) s.subs index sub (subst (λ (xs : List Subchannel). slice_get xs index ≡ Some sub) subs here) in
      (p.0, p.1, λ k. subst (λ (y : Subchannel). P y.state.waiting) p.2 (swept-stays what p.0 k))
