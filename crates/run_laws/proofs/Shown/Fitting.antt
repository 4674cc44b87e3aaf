-- Of each subchannel: with clear pending the clear function alone is in progress, and with start pending a program waits.
use Rattle.std.proofs.Common.{◌≡◌, refl, sym, ◌∙◌, ap, subst, ℕ, ◌&&◌, ◌||◌, not, Bool, true, false, Option, None, Some, List}
use Rattle.std.specs.Prelude.{if◌then◌else◌, is_some, slice_get}
use Rattle.scsw_irb.specs.declared.scsw.ActivityControl.{ActivityControl}
use Rattle.scsw_irb.specs.declared.scsw.FunctionControl.{FunctionControl}
use Rattle.scsw_irb.specs.declared.scsw.Scsw.{Scsw}
use Rattle.scsw_irb.specs.declared.status.DeviceStatus.{DeviceStatus}
use Rattle.scsw_irb.specs.Empty.{no_functions}
use Rattle.chan_events.specs.Events.{Event}
use Rattle.chan_events.specs.declared.event.Instruction.{Instruction}
use Rattle.chan_events.specs.declared.event.Instruction.TheVariants as instruction
use Rattle.chan_events.specs.declared.reply.Entry.{Entry}
use Rattle.chan_events.specs.Replies.{Reply}
use Rattle.chan_model.specs.declared.answer.ConditionCode.{ConditionCode}
use Rattle.chan_model.specs.declared.answer.ConditionCode.TheVariants as code
use Rattle.chan_model.specs.Signals.{Up}
use Rattle.chan_model.specs.ConditionCodes.{in_order}
use Rattle.chan_model.specs.ResetCauses.{rests_on}
use Rattle.chan_model.specs.UnitReports.{is_last_end}
use Rattle.channel_config.specs.declared.names.SubchannelId.{SubchannelId}
use Rattle.channel_config.specs.Setup.{Setup, set_count}
use Rattle.storage_keys.specs.Storage.{Contents}
use Rattle.machine_model.specs.declared.state.Sweep.{Sweep}
use Rattle.machine_model.specs.declared.state.Sweep.TheVariants as sweep
use Rattle.machine_model.specs.PathSteps.{swept}
use Rattle.machine_model.specs.State.{State, opening_of}
use Rattle.machine_model.specs.Steps.{Run}
use Rattle.subchannel_model.specs.declared.cause.StatusCause.{StatusCause}
use Rattle.subchannel_model.specs.declared.cause.StatusCause.TheVariants as cause
use Rattle.subchannel_model.specs.declared.state.ActiveProgram.{ActiveProgram}
use Rattle.subchannel_model.specs.declared.state.Chosen.{Chosen}
use Rattle.subchannel_model.specs.declared.state.Chosen.TheVariants.{PerformsClear, Halts, PerformsHalt, FindsNoPath}
use Rattle.subchannel_model.specs.declared.state.Program.{Program}
use Rattle.subchannel_model.specs.declared.state.Subchannel.{Subchannel}
use Rattle.subchannel_model.specs.declared.state.SubchannelState.{SubchannelState}
use Rattle.subchannel_model.specs.Causes.{row_of, scsw_before, with_cause, scsw_joined}
use Rattle.subchannel_model.specs.Choosing.{chosen, marked_sub}
use Rattle.subchannel_model.specs.Conditions.{start_alone, left_by}
use Rattle.subchannel_model.specs.Ends.{last_shown, work_shown}
use Rattle.subchannel_model.specs.Halt.{drops_status, status_dropped, halt_begun}
use Rattle.subchannel_model.specs.Losing.{path_lost, path_index, loses_at, loses, shows_at}
use Rattle.subchannel_model.specs.Opening.{opening_subchannel}
use Rattle.subchannel_model.specs.Indices.{index_in}
use Rattle.subchannel_model.specs.Programs.{without_programs}
use Rattle.subchannel_model.specs.Status.{intermediate_alone, without_status}
use Rattle.subchannel_model.specs.Test.{tested, ended_scsw, suspended_scsw, tested_wholly}
use Rattle.run_laws.proofs.Shown.Chosen.{clear-chosen, nopath-chosen}
use Rattle.run_laws.proofs.Shown.Effects.{Seen, seen, of_seen, IsTimely, Effect, Nothing, Causes, Takes, TakesAsking, Moves, MovesAsking, Suspends, SuspendsShowing, SendsHalt, causes, made-activity, made-functions, joined-functions}
use Rattle.step_laws.proofs.Executed.{IsEffect, code_for}
use Rattle.run_laws.proofs.Shown.Holding.{Held, not-held}
use Rattle.run_laws.proofs.Shown.Runs.{AreLaws, run-keeps}
use Rattle.run_laws.proofs.Shown.Signals.{Comes, Ignored, Taken, lost-goes, takes-comes}
use Rattle.run_laws.proofs.Shown.Turned.{Turned, Executes, Chooses, Meets, Sweeps, Rests, met, state_chosen}

abbrev pub clear_alone : FunctionControl
clear_alone = record no_functions { clear = true }

pub record Fits (k : Seen) : Type 0 where
  pub clears : k.scsw.activity.clear_pending ≡ true → k.scsw.functions ≡ clear_alone
  pub starts : k.scsw.activity.start_pending ≡ true → is_some k.waiting ≡ true

-- where neither is pending
idle-fits : (k : Seen) → k.scsw.activity.clear_pending ≡ false → k.scsw.activity.start_pending ≡ false → Fits k
idle-fits k c s = record { clears = λ e. absurd (cc (sym e ∙ c)); starts = λ e. absurd (cc (sym e ∙ s)) }

-- where both stay, and a program that waits
same-fits : (k y : Seen) → y.scsw.activity.clear_pending ≡ k.scsw.activity.clear_pending → y.scsw.activity.start_pending ≡ k.scsw.activity.start_pending →
    y.scsw.functions ≡ k.scsw.functions → y.waiting ≡ k.waiting → Fits k → Fits y
same-fits k y c s f w fits = record {
  clears = λ e. f ∙ fits.clears (sym c ∙ e);
  starts = λ e. ap (λ (o : Option Program). is_some o) w ∙ fits.starts (sym s ∙ e);
}

-- a status that is made
abbrev IsIdle : ActivityControl → Type 0
IsIdle a = (a.clear_pending ≡ false) × (a.start_pending ≡ false)

end-idle : (scsw : Scsw) (b : ActiveProgram) (w : Option Program) (status : DeviceStatus) (more last : Bool) →
    IsIdle (if last then last_shown scsw b w status more else work_shown scsw b status more false).activity
end-idle scsw b None status more true = (refl, refl)
end-idle scsw b (Some w) status more true = (refl, refl)
end-idle scsw b w status more false = (refl, refl)

abbrev IsAsked : StatusCause → Type 0
IsAsked (cause.Pci tried count) = ⊥
IsAsked c = Unit {0}

cause-idle : (s : SubchannelState) (c : StatusCause) → IsAsked c → IsIdle (row_of s c).shown.activity
cause-idle s (cause.End b status more) a = end-idle s.scsw b s.waiting status more (is_last_end status)
cause-idle s (cause.Pci tried count) a = absurd a
cause-idle s other a = (refl, refl)

pub cause-activity : (s : SubchannelState) (c : StatusCause) → (with_cause s c).scsw.activity ≡ (row_of s c).shown.activity
cause-activity s c =
    made-activity (row_of s c).left.pmcw.enabled (scsw_joined s.pmcw.enabled s.scsw (scsw_before s.scsw c)) (row_of s c).shown

pub asked-functions : (s : SubchannelState) (tried count : ℕ) → (with_cause s (cause.Pci tried count)).scsw.functions ≡ s.scsw.functions
asked-functions s tried count =
    made-functions s.pmcw.enabled (scsw_joined s.pmcw.enabled s.scsw s.scsw) (row_of s (cause.Pci tried count)).shown
    ∙ joined-functions s.pmcw.enabled s.scsw s.scsw refl

caused-fits : (s : SubchannelState) (c : StatusCause) → IsAsked c → Fits (seen (with_cause s c))
caused-fits s c a =
    idle-fits (seen (with_cause s c))
    (ap (λ (x : ActivityControl). x.clear_pending) (cause-activity s c) ∙ (cause-idle s c a).0)
    (ap (λ (x : ActivityControl). x.start_pending) (cause-activity s c) ∙ (cause-idle s c a).1)

timely-asked : (H : Type 0) (k : Seen) (c : StatusCause) → IsTimely H k c → IsAsked c
timely-asked H k (cause.Pci tried count) t = t
timely-asked H k other t = tt

pub effect-fits : (H : Type 0) (k : Seen) (n : ℕ) (y : Seen) → Effect H k n y → Fits k → Fits y
effect-fits H k _ _ Nothing fits = fits
effect-fits H k _ _ (Causes c timely) fits = caused-fits (of_seen k) c (timely-asked H k c timely)
effect-fits H k _ _ (Takes program transfer stands none) fits = record { clears = fits.clears; starts = λ e. absurd (cc e) }
effect-fits H k _ _ (TakesAsking program transfer tried count stands none) fits =
    let x = Rattle.run_laws.proofs.Shown.Effects.taken_over k program transfer in
    let a : (with_cause x (cause.Pci tried count)).scsw.activity ≡ x.scsw.activity = cause-activity x (cause.Pci tried count) in
    record {
      clears = λ e.
          asked-functions x tried count
          ∙ fits.clears (sym (ap (λ (z : ActivityControl). z.clear_pending) a) ∙ e);
      starts = λ e. absurd (cc (sym (ap (λ (z : ActivityControl). z.start_pending) a) ∙ e));
    }
effect-fits H k _ _ (Moves b transfer e chains) fits = record { clears = fits.clears; starts = fits.starts }
effect-fits H k _ _ (MovesAsking b transfer tried count e chains) fits =
    let x = Rattle.run_laws.proofs.Shown.Effects.moved k b transfer in
    let a : (with_cause x (cause.Pci tried count)).scsw.activity ≡ x.scsw.activity = cause-activity x (cause.Pci tried count) in
    same-fits k (seen (with_cause x (cause.Pci tried count))) (ap (λ (z : ActivityControl). z.clear_pending) a) (ap (λ (z : ActivityControl). z.start_pending) a)
    (asked-functions x tried count) refl fits
effect-fits H k _ _ (Suspends program walk count runs) fits = idle-fits _ refl refl
effect-fits H k _ _ (SuspendsShowing program walk count runs) fits =
    caused-fits (Rattle.run_laws.proofs.Shown.Effects.still k program walk count) (cause.Suspension walk.tried count) tt
effect-fits H k _ _ SendsHalt fits = record { clears = fits.clears; starts = fits.starts }

pub met-fits : (returns : Bool) (storage : Contents) (sub : Subchannel) (path : ℕ) (x : Up) → Fits (seen sub.state) → Fits (seen (met returns storage sub path x).step.state)
met-fits returns storage sub path x fits = by (takes-comes returns storage sub.state path x)
  where
    by : Comes (Held sub.state) (seen sub.state) x (met returns storage sub path x).step → Fits (seen (met returns storage sub path x).step.state)
    by (Ignored e same) = subst Fits (sym same) fits
    by (Taken n e effect due) = effect-fits (Held sub.state) (seen sub.state) n (seen (met returns storage sub path x).step.state) effect fits

-- choices
pub chosen-effect : (sub : Subchannel) (choice : Option ℕ) (c : Chosen) → c ≡ chosen sub choice →
    (n : ℕ) × Effect (Held sub.state) (seen (marked_sub sub choice).state) n (seen (state_chosen (marked_sub sub choice).state c))
chosen-effect sub choice PerformsClear e = (1, causes (Held sub.state) (marked_sub sub choice).state cause.ClearDone (clear-chosen sub choice (sym e)))
chosen-effect sub choice (Halts t path) e = (0, SendsHalt)
chosen-effect sub choice PerformsHalt e = (1, causes (Held sub.state) (marked_sub sub choice).state cause.HaltDone tt)
chosen-effect sub choice FindsNoPath e = (1, causes (Held sub.state) (marked_sub sub choice).state cause.NoPath (λ h. not-held sub.state h (nopath-chosen sub choice (sym e))))
chosen-effect sub choice other e = (0, Nothing)

pub marked-fits : (sub : Subchannel) (choice : Option ℕ) → Fits (seen sub.state) → Fits (seen (marked_sub sub choice).state)
marked-fits sub choice fits = record { clears = fits.clears; starts = fits.starts }

-- instructions
-- an instruction leaves its effect where its code is 0
left-fits : (c : ConditionCode) (s effect : SubchannelState) → Fits (seen s) → (c ≡ code.Zero → Fits (seen effect)) → Fits (seen (left_by c s effect))
left-fits code.Zero s effect fits f = f refl
left-fits c s effect fits f = fits

pub zero-two : (operational one two : Bool) → in_order operational one two ≡ code.Zero → two ≡ false
zero-two true false false e = refl
zero-two true false true e = absurd (cc e)
zero-two true true two e = absurd (cc e)
zero-two false one two e = absurd (cc e)

-- TEST
module _ (s : SubchannelState) (fits : Fits (seen s)) where
  test-kept : (scsw : Scsw) (x : SubchannelState) → x.scsw ≡ scsw → x.waiting ≡ s.waiting → scsw.activity.clear_pending ≡ s.scsw.activity.clear_pending →
      scsw.activity.start_pending ≡ s.scsw.activity.start_pending → scsw.functions ≡ s.scsw.functions → Fits (seen x)
  test-kept scsw x e w c a f =
      same-fits (seen s) (seen x) (ap (λ (y : Scsw). y.activity.clear_pending) e ∙ c) (ap (λ (y : Scsw). y.activity.start_pending) e ∙ a)
      (ap (λ (y : Scsw). y.functions) e ∙ f) w fits

  test-ended : (x : SubchannelState) → x.scsw ≡ ended_scsw s.scsw → Fits (seen x)
  test-ended x e = idle-fits (seen x) (ap (λ (y : Scsw). y.activity.clear_pending) e) (ap (λ (y : Scsw). y.activity.start_pending) e)

  test-by : (pending alone suspended halt : Bool) (t : SubchannelState) →
      t.scsw ≡ (if not pending then s.scsw else (if alone then (if not suspended then without_status s.scsw else (if halt then ended_scsw s.scsw else suspended_scsw s.scsw)) else ended_scsw s.scsw)) →
      t.waiting ≡ s.waiting → Fits (seen (if pending && (alone && (suspended && halt)) then without_programs t else t))
  test-by false alone suspended halt t e w = test-kept s.scsw t e w refl refl refl
  test-by true true false halt t e w = test-kept (without_status s.scsw) t e w refl refl refl
  test-by true true true true t e w = test-ended (without_programs t) e
  test-by true true true false t e w = test-kept (suspended_scsw s.scsw) t e w refl refl refl
  test-by true false suspended halt t e w = test-ended t e

  pub test-fits : Fits (seen (tested_wholly s))
  test-fits = test-by s.scsw.status.pending (intermediate_alone s.scsw.status) s.scsw.activity.suspended s.scsw.functions.halt (tested s) refl refl

halt-by : (s : SubchannelState) (drops : Bool) → (s.scsw.activity.clear_pending ≡ false) → Fits (seen s) → Fits (seen (if drops then status_dropped (halt_begun s) else halt_begun s))
halt-by s true c fits = record { clears = λ e. absurd (cc (sym e ∙ c)); starts = fits.starts }
halt-by s false c fits = record { clears = λ e. absurd (cc (sym e ∙ c)); starts = fits.starts }

-- no clear is pending where the code of HALT or CANCEL is 0
not-clear : (s : SubchannelState) (two : FunctionControl → Bool) → Fits (seen s) → two clear_alone ≡ true → two s.scsw.functions ≡ false → s.scsw.activity.clear_pending ≡ false
not-clear s two fits e f = by s.scsw.activity.clear_pending refl
  where
    by : (b : Bool) → s.scsw.activity.clear_pending ≡ b → s.scsw.activity.clear_pending ≡ false
    by false h = h
    by true h = absurd (cc (sym f ∙ ap two (fits.clears h) ∙ e))

effect-left : (i : Instruction) (sub : Subchannel) (effect : SubchannelState) → IsEffect i sub effect → Fits (seen sub.state) → code_for i sub ≡ code.Zero → Fits (seen effect)
effect-left (instruction.Ssch word address) sub effect is fits e =
    subst (λ (x : SubchannelState). Fits (seen x)) (sym is.1) (record { clears = λ h. absurd (cc h); starts = λ h. refl })
effect-left (instruction.Tsch word address) sub effect is fits e = subst (λ (x : SubchannelState). Fits (seen x)) (sym is) (test-fits sub.state fits)
effect-left (instruction.Stsch word address) sub effect is fits e = subst (λ (x : SubchannelState). Fits (seen x)) (sym is) fits
effect-left (instruction.Msch word address) sub effect is fits e =
    subst (λ (x : SubchannelState). Fits (seen x)) (sym is.1) (record { clears = fits.clears; starts = fits.starts })
effect-left (instruction.Enable word subclass multipath) sub effect is fits e =
    subst (λ (x : SubchannelState). Fits (seen x)) (sym is) (record { clears = fits.clears; starts = fits.starts })
effect-left (instruction.Rsch word) sub effect is fits e =
    subst (λ (x : SubchannelState). Fits (seen x)) (sym is) (record { clears = fits.clears; starts = fits.starts })
effect-left (instruction.Hsch word) sub effect is fits e =
    subst (λ (x : SubchannelState). Fits (seen x)) (sym is)
    (halt-by sub.state (drops_status sub.state.scsw) (not-clear sub.state (λ f. f.halt || f.clear) fits refl (zero-two _ _ _ e)) fits)
effect-left (instruction.Csch word) sub effect is fits e =
    subst (λ (x : SubchannelState). Fits (seen x)) (sym is) (record { clears = λ h. refl; starts = λ h. absurd (cc h) })
effect-left (instruction.Xsch word) sub effect is fits e =
    subst (λ (x : SubchannelState). Fits (seen x)) (sym is)
    (idle-fits _ (not-clear sub.state (λ f. not (start_alone f)) fits refl (or-left _ _ (zero-two _ _ _ e))) refl)
  where
    or-left : (a b : Bool) → (a || b) ≡ false → a ≡ false
    or-left false b h = refl
    or-left true b h = absurd (cc h)

-- lost paths
lost-fits : (s : SubchannelState) (p : ℕ) → Fits (seen s) → Fits (seen (path_lost s p))
lost-fits s p fits = let g = lost-goes (Held s) s (rests_on s.hold p) in effect-fits (Held s) (seen s) g.0 (seen (path_lost s p)) g.1 fits

loses-fits : (o : Option ℕ) (sub : Subchannel) → Fits (seen sub.state) → Fits (seen (loses_at o sub).state)
loses-fits None sub fits = fits
loses-fits (Some p) sub fits = lost-fits sub.state p fits

shows-fits : (o : Option ℕ) (up : Bool) (sub : Subchannel) → Fits (seen sub.state) → Fits (seen (shows_at o up sub).state)
shows-fits None up sub fits = fits
shows-fits (Some p) up sub fits = record { clears = fits.clears; starts = fits.starts }

swept-fits : (what : Sweep) (sub : Subchannel) → Fits (seen sub.state) → Fits (seen (swept what sub).state)
swept-fits (sweep.GoesDown chpid) sub fits = shows-fits (path_index chpid (loses chpid sub).setup.paths) false (loses chpid sub) (loses-fits (path_index chpid sub.setup.paths) sub fits)
swept-fits (sweep.ComesUp chpid) sub fits = shows-fits (path_index chpid sub.setup.paths) true sub fits
swept-fits (sweep.PathReset chpid) sub fits = loses-fits (path_index chpid sub.setup.paths) sub fits
swept-fits sweep.SystemReset sub fits = idle-fits _ refl refl

pub fits-opens : Fits (seen opening_subchannel)
fits-opens = idle-fits _ refl refl

pub turned-fits : (sets : ℕ) (id : SubchannelId) (e : Event) (r : Reply) (sub : Subchannel) (after : SubchannelState) → Fits (seen sub.state) → Turned sets id e r sub after →
    Fits (seen after)
turned-fits sets id _ _ _ _ fits (Executes cpu i sub effect named is) = left-fits (code_for i sub) sub.state effect fits (effect-left i sub effect is fits)
turned-fits sets id _ _ _ _ fits (Chooses word sub choice named away) =
    let g = chosen-effect sub choice (chosen sub choice) refl in
    effect-fits (Held sub.state) (seen (marked_sub sub choice).state) g.0 (seen (state_chosen (marked_sub sub choice).state (chosen sub choice))) g.1 (marked-fits sub choice fits)
turned-fits sets id _ _ _ _ fits (Meets word path returns storage sub x named) = met-fits returns storage sub path x fits
turned-fits sets id _ _ _ _ fits (Sweeps what r sub) = swept-fits what sub fits
turned-fits sets id _ _ _ _ fits (Rests e r sub about) = fits

pub run-fits : AreLaws → (setup : Setup) (id : SubchannelId) (h : List Entry) (s : State) → Run (opening_of setup) h s → (index : ℕ) (sub : Subchannel) →
    index_in id s.subs ≡ Some index → slice_get s.subs index ≡ Some sub → Fits (seen sub.state)
run-fits laws setup id = run-keeps laws setup id (λ h s. Fits (seen s)) fits-opens (λ h e r sub after fits turned. turned-fits (set_count setup) id e r sub after fits turned)
