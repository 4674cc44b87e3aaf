-- While the start function is in progress, the logical-path mask is that of the operation-request block of the start that was accepted
-- last; and a start or a resume is pending only where it is in progress. No signal and no instruction but START SUBCHANNEL changes that.
use Rattle.std.proofs.Common.{◌≡◌, refl, sym, ◌∙◌, subst, ℕ, ◌&&◌, ◌||◌, not, Bool, true, false, Option, None, Some, List, ap}
use Rattle.std.specs.Prelude.{if◌then◌else◌}
use Rattle.orb_block.specs.declared.Orb.{Orb}
use Rattle.schib_block.specs.declared.pmcw.Pmcw as block
use Rattle.scsw_irb.specs.Empty.{no_status}
use Rattle.scsw_irb.specs.declared.scsw.ActivityControl.{ActivityControl}
use Rattle.scsw_irb.specs.declared.scsw.FunctionControl.{FunctionControl}
use Rattle.scsw_irb.specs.declared.scsw.Scsw.{Scsw}
use Rattle.scsw_irb.specs.declared.status.DeviceStatus.{DeviceStatus}
use Rattle.chan_model.specs.declared.answer.ConditionCode.{ConditionCode}
use Rattle.chan_model.specs.declared.answer.ConditionCode.TheVariants as code
use Rattle.chan_model.specs.PathSets.{paths_of_mask}
use Rattle.chan_model.specs.Signals.{Up}
use Rattle.chan_model.specs.UnitReports.{is_last_end}
use Rattle.ccw_walk.specs.Positions.{WalkPosition}
use Rattle.storage_keys.specs.Storage.{Contents}
use Rattle.data_move.specs.declared.transfer.Transfer.{Transfer}
use Rattle.subchannel_model.specs.declared.cause.StatusCause.{StatusCause}
use Rattle.subchannel_model.specs.declared.cause.StatusCause.TheVariants as cause
use Rattle.subchannel_model.specs.declared.state.ActiveProgram.{ActiveProgram}
use Rattle.subchannel_model.specs.declared.state.Program.{Program}
use Rattle.subchannel_model.specs.declared.state.SubchannelState.{SubchannelState}
use Rattle.subchannel_model.specs.Causes.{row_of, scsw_before, with_cause}
use Rattle.subchannel_model.specs.Conditions.{any_function, start_alone, left_by, found_operational}
use Rattle.subchannel_model.specs.Ends.{work_shown, last_shown}
use Rattle.subchannel_model.specs.Halt.{halted, drops_status, status_dropped, halt_begun}
use Rattle.subchannel_model.specs.Losing.{reset_with}
use Rattle.subchannel_model.specs.Modify.{modified_state, msch_code}
use Rattle.subchannel_model.specs.Suspension.{suspended_alone, with_suspended_program}
use Rattle.subchannel_model.specs.Programs.{without_programs}
use Rattle.subchannel_model.specs.Resume.{resumed, rsch_code}
use Rattle.subchannel_model.specs.declared.state.Subchannel.{Subchannel}
use Rattle.subchannel_model.specs.declared.state.PmcwState.{PmcwState}
use Rattle.subchannel_model.specs.declared.status.StatusRow.{StatusRow}
use Rattle.subchannel_model.specs.Status.{scsw_made, with_joined, no_device_status, no_subchannel_status, intermediate_alone, without_status}
use Rattle.subchannel_model.specs.Test.{ended_scsw, suspended_scsw, tested, tested_wholly, ends_suspended}
use Rattle.subchannel_model.specs.Accept.{with_program_at_work, working_activity}
use Rattle.subchannel_model.specs.Taking.{takes_up}
use Rattle.machine_model.specs.InstructionSteps.{code_at}
use Rattle.run_laws.proofs.Traces.Signals.{signal-kept, reset-kept}
use Rattle.run_laws.proofs.Shown.Fitting.{zero-two}
use Rattle.run_laws.proofs.Machine.Beside.{left-beside}

abbrev pub IsMaskOf : Option Orb → List Bool → Type 0
IsMaskOf started logical = (orb : Orb) × (started ≡ Some orb) × (logical ≡ paths_of_mask orb.paths)

-- a start or a resume is pending
abbrev pub is_pending : ActivityControl → Bool
is_pending activity = activity.start_pending || activity.resume_pending

pub record Masks (started : Option Orb) (logical : List Bool) (functions : FunctionControl) (activity : ActivityControl) : Type 0 where
  pub mask : functions.start ≡ true → IsMaskOf started logical
  pub pending : is_pending activity ≡ true → functions.start ≡ true

abbrev pub Masked : Option Orb → SubchannelState → Type 0
Masked started s = Masks started s.pmcw.logical s.scsw.functions s.scsw.activity

-- a status that is made leaves the mask, turns no function on, and but for an intermediate status that was asked for leaves nothing pending
left-logical : (s : SubchannelState) (c : StatusCause) → (row_of s c).left.pmcw.logical ≡ s.pmcw.logical
left-logical s c = ap (λ (p : PmcwState). p.logical) (left-beside s c).pmcw

before-start : (enabled : Bool) (scsw : Scsw) (c : StatusCause) → (if enabled then scsw_before scsw c else scsw).functions.start ≡ true → scsw.functions.start ≡ true
before-start false scsw c e = e
before-start true scsw cause.ClearDone e = absurd (cc e)
before-start true scsw c e = e

end-idle : (scsw : Scsw) (b : ActiveProgram) (w : Option Program) (status : DeviceStatus) (more last : Bool) →
    is_pending (if last then last_shown scsw b w status more else work_shown scsw b status more false).activity ≡ false
end-idle scsw b w status more false = refl
end-idle scsw b None status more true = refl
end-idle scsw b (Some w) status more true = refl

-- condition code 0
no-start : (f : FunctionControl) → any_function f ≡ false → f.start ≡ true → ⊥
no-start f n e = cc (sym (subst (λ (b : Bool). (b || (f.halt || f.clear)) ≡ true) (sym e) refl) ∙ n)

is-start : (start alone other : Bool) → (not (start && alone) || other) ≡ false → start ≡ true
is-start true alone other e = refl
is-start false alone other e = absurd (cc e)

pending-more : (start other : Bool) → (start || false) ≡ true → (start || other) ≡ true
pending-more true other e = refl
pending-more false other e = absurd (cc e)

resumed-logical : (suspended : Bool) (pmcw : PmcwState) → (if suspended then found_operational pmcw else pmcw).logical ≡ pmcw.logical
resumed-logical true pmcw = refl
resumed-logical false pmcw = refl

abbrev tested_by : Bool → Bool → Bool → Bool → Scsw → Scsw
tested_by pending alone suspended halts scsw =
    if not pending then scsw
    else (if alone then (if not suspended then without_status scsw else (if halts then ended_scsw scsw else suspended_scsw scsw)) else ended_scsw scsw)

module _ (started : Option Orb) where
  if-masked : (b : Bool) (x y : SubchannelState) → Masked started x → Masked started y → Masked started (if b then x else y)
  if-masked true x y e f = e
  if-masked false x y e f = f

  -- nothing is pending any more
  idle : (logical : List Bool) (functions : FunctionControl) (was activity : ActivityControl) → is_pending activity ≡ false → Masks started logical functions was → Masks started logical functions activity
  idle logical functions was activity n k = record { mask = k.mask; pending = λ e. absurd (cc (sym e ∙ n)) }

  -- a status that is made
  joined-masked : (b : Bool) (logical : List Bool) (x y : Scsw) → Masks started logical x.functions x.activity → Masks started logical y.functions y.activity →
      Masks started logical (if b then x else y).functions (if b then x else y).activity
  joined-masked true logical x y e f = e
  joined-masked false logical x y e f = f

  made-masked : (enabled : Bool) (logical : List Bool) (scsw : Scsw) (shown : StatusRow) → Masks started logical scsw.functions shown.activity →
      Masks started logical (scsw_made enabled scsw shown).functions (scsw_made enabled scsw shown).activity
  made-masked true logical scsw shown k =
      joined-masked scsw.status.pending logical (with_joined scsw scsw.status scsw.device_status scsw.subchannel_status shown)
      (with_joined scsw no_status no_device_status no_subchannel_status shown) k k
  made-masked false logical scsw shown k = k

  abbrev Joins : SubchannelState → StatusCause → Type 0
  Joins s c = Masks started s.pmcw.logical (if s.pmcw.enabled then scsw_before s.scsw c else s.scsw).functions (row_of s c).shown.activity

  shows-idle : (s : SubchannelState) (c : StatusCause) → is_pending (row_of s c).shown.activity ≡ false → Masked started s → Joins s c
  shows-idle s c n k = record { mask = λ e. k.mask (before-start s.pmcw.enabled s.scsw c e); pending = λ e. absurd (cc (sym e ∙ n)) }

  shows-asked : (enabled : Bool) (logical : List Bool) (scsw : Scsw) → Masks started logical scsw.functions scsw.activity →
      Masks started logical (if enabled then scsw else scsw).functions scsw.activity
  shows-asked true logical scsw k = k
  shows-asked false logical scsw k = k

  joins : (s : SubchannelState) (c : StatusCause) → Masked started s → Joins s c
  joins s (cause.End b status more) k = shows-idle s (cause.End b status more) (end-idle s.scsw b s.waiting status more (is_last_end status)) k
  joins s (cause.Pci tried count) k = shows-asked s.pmcw.enabled s.pmcw.logical s.scsw k
  joins s other k = shows-idle s other refl k

  pub cause-masked : (s : SubchannelState) (c : StatusCause) → Masked started s → Masked started (with_cause s c)
  cause-masked s c k =
      subst (λ (logical : List Bool). Masks started logical (with_cause s c).scsw.functions (with_cause s c).scsw.activity) (sym (left-logical s c))
      (made-masked (row_of s c).left.pmcw.enabled s.pmcw.logical (if s.pmcw.enabled then scsw_before s.scsw c else s.scsw) (row_of s c).shown (joins s c k))

  -- a signal that comes up, and a hold that is to be reset
  same-masked : (s x : SubchannelState) → x.waiting ≡ s.waiting → x.scsw ≡ s.scsw → x.pmcw.logical ≡ s.pmcw.logical → Masked started s → Masked started x
  same-masked s x w e l k =
      subst (λ (y : Scsw). Masks started x.pmcw.logical y.functions y.activity) (sym e) (subst (λ (logical : List Bool). Masks started logical s.scsw.functions s.scsw.activity) (sym l) k)

  takes-masked : (s : SubchannelState) (program : Program) (transfer : Transfer) → Masked started s → Masked started (with_program_at_work s program transfer)
  takes-masked s program transfer k = idle s.pmcw.logical s.scsw.functions s.scsw.activity (working_activity s.scsw.activity) refl k

  alone-masked : (s : SubchannelState) (program : Program) (walk : WalkPosition) (count : ℕ) → Masked started s → Masked started (record (with_suspended_program s program walk count) { scsw = suspended_alone s.scsw })
  alone-masked s program walk count k = idle s.pmcw.logical s.scsw.functions s.scsw.activity (suspended_alone s.scsw).activity refl k

  pub signal-masked : (returns : Bool) (storage : Contents) (s : SubchannelState) (p : ℕ) (x : Up) → Masked started s → Masked started (takes_up returns storage s p x).step.state
  signal-masked = signal-kept (Masked started) same-masked cause-masked takes-masked (λ s program walk count k. k) alone-masked

  pub reset-masked : (s : SubchannelState) (shows : Bool) → Masked started s → Masked started (reset_with s shows)
  reset-masked = reset-kept (Masked started) same-masked cause-masked takes-masked (λ s program walk count k. k) alone-masked

  -- instructions
  tested-masked : (pending alone suspended halts : Bool) (logical : List Bool) (scsw : Scsw) → Masks started logical scsw.functions scsw.activity →
      Masks started logical (tested_by pending alone suspended halts scsw).functions (tested_by pending alone suspended halts scsw).activity
  tested-masked false alone suspended halts logical scsw k = k
  tested-masked true false suspended halts logical scsw k = record { mask = λ e. absurd (cc e); pending = λ e. absurd (cc e) }
  tested-masked true true false halts logical scsw k = k
  tested-masked true true true true logical scsw k = record { mask = λ e. absurd (cc e); pending = λ e. absurd (cc e) }
  tested-masked true true true false logical scsw k = record { mask = k.mask; pending = λ e. k.pending (pending-more scsw.activity.start_pending scsw.activity.resume_pending e) }

  pub test-masked : (s : SubchannelState) → Masked started s → Masked started (tested_wholly s)
  test-masked s k =
      let after = tested-masked s.scsw.status.pending (intermediate_alone s.scsw.status) s.scsw.activity.suspended s.scsw.functions.halt s.pmcw.logical s.scsw k in
      if-masked (ends_suspended s.scsw) (without_programs (tested s)) (tested s) after after

  pub halt-masked : (s : SubchannelState) → Masked started s → Masked started (halted s)
  halt-masked s k =
      let after : Masked started (halt_begun s) = record { mask = k.mask; pending = k.pending } in
      if-masked (drops_status s.scsw) (status_dropped (halt_begun s)) (halt_begun s) after after

  -- with code 0, MODIFY finds no function in progress, and RESUME the start function
  pub modify-masked : (sub : Subchannel) (given : block.Pmcw) → code_at msch_code sub ≡ code.Zero → Masked started sub.state → Masked started (modified_state sub given)
  modify-masked sub given e k =
      let f : FunctionControl = sub.state.scsw.functions in
      let none : any_function f ≡ false = zero-two true sub.state.scsw.status.pending (any_function f) e in
      record { mask = λ h. absurd (no-start f none h); pending = k.pending }

  pub resume-masked : (sub : Subchannel) → code_at rsch_code sub ≡ code.Zero → Masked started sub.state → Masked started (resumed sub.state)
  resume-masked sub e k =
      let s : SubchannelState = sub.state in
      let other : Bool = s.scsw.activity.resume_pending || not s.scsw.suspend in
      let start : s.scsw.functions.start ≡ true =
      is-start s.scsw.functions.start (not s.scsw.functions.halt && not s.scsw.functions.clear) other
      (zero-two s.pmcw.enabled s.scsw.status.pending (not (start_alone s.scsw.functions) || other) e) in
      subst (λ (logical : List Bool). Masks started logical s.scsw.functions (resumed s).scsw.activity) (sym (resumed-logical s.scsw.activity.suspended s.pmcw))
      (record { mask = k.mask; pending = λ h. start })

  -- what an instruction leaves
  pub left-masked : (c : ConditionCode) (s effect : SubchannelState) → Masked started s → (c ≡ code.Zero → Masked started effect) → Masked started (left_by c s effect)
  left-masked code.Zero s effect k f = f refl
  left-masked c s effect k f = k
