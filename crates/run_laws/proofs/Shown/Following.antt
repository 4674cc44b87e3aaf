-- The functions and the activity after each step, and that the status stays where nothing may change it.
use Rattle.std.proofs.Common.{◌≡◌, refl, sym, ◌∙◌, ap, ℕ, ◌&&◌, not, Bool, true, false, Option, None, Some, List}
use Rattle.std.specs.Prelude.{if◌then◌else◌}
use Rattle.scsw_irb.specs.declared.scsw.ActivityControl.{ActivityControl}
use Rattle.scsw_irb.specs.declared.scsw.FunctionControl.{FunctionControl}
use Rattle.scsw_irb.specs.declared.scsw.Scsw.{Scsw}
use Rattle.scsw_irb.specs.declared.serials.Serials.{Serials}
use Rattle.scsw_irb.specs.Empty.{no_functions, no_activity}
use Rattle.chan_events.specs.Events.{Event}
use Rattle.chan_events.specs.declared.event.Event.TheVariants as event
use Rattle.chan_events.specs.declared.event.Instruction.{Instruction}
use Rattle.chan_events.specs.declared.event.Instruction.TheVariants as instruction
use Rattle.chan_events.specs.declared.reply.Entry.{Entry}
use Rattle.chan_events.specs.Replies.{Reply}
use Rattle.chan_events.specs.declared.reply.Reply.TheVariants as reply
use Rattle.chan_model.specs.declared.answer.ConditionCode.{ConditionCode}
use Rattle.chan_model.specs.declared.answer.ConditionCode.TheVariants as code
use Rattle.chan_model.specs.Signals.{Up}
use Rattle.chan_model.specs.ConditionCodes.{answer_of_code, in_order}
use Rattle.chan_model.specs.ResetCauses.{rests_on}
use Rattle.channel_config.specs.declared.names.SubchannelId.{SubchannelId}
use Rattle.channel_config.specs.Setup.{Setup, set_count}
use Rattle.storage_keys.specs.Storage.{Contents}
use Rattle.machine_model.specs.declared.state.Sweep.{Sweep}
use Rattle.machine_model.specs.declared.state.Sweep.TheVariants as sweep
use Rattle.chan_events.specs.Instructions.{subchannel_word}
use Rattle.machine_model.specs.PathSteps.{swept}
use Rattle.machine_model.specs.State.{State, opening_of}
use Rattle.machine_model.specs.Steps.{Run}
use Rattle.step_laws.specs.Walks.{sweep_event}
use Rattle.subchannel_model.specs.declared.cause.StatusCause.{StatusCause}
use Rattle.subchannel_model.specs.declared.cause.StatusCause.TheVariants as cause
use Rattle.subchannel_model.specs.declared.state.Chosen.{Chosen}
use Rattle.subchannel_model.specs.declared.state.Chosen.TheVariants.{PerformsClear, PerformsHalt, FindsNoPath}
use Rattle.subchannel_model.specs.declared.state.Subchannel.{Subchannel}
use Rattle.subchannel_model.specs.declared.state.SubchannelState.{SubchannelState}
use Rattle.subchannel_model.specs.Causes.{row_of, scsw_before, with_cause, scsw_joined}
use Rattle.subchannel_model.specs.Choosing.{chosen, marked_sub}
use Rattle.subchannel_model.specs.Conditions.{left_by}
use Rattle.subchannel_model.specs.Halt.{drops_status, status_dropped, halt_begun}
use Rattle.subchannel_model.specs.Losing.{path_lost, path_index, loses_at, loses, shows_at}
use Rattle.subchannel_model.specs.Programs.{without_programs}
use Rattle.subchannel_model.specs.Status.{intermediate_alone, without_status}
use Rattle.subchannel_model.specs.Test.{tested, tested_scsw, ended_scsw, suspended_scsw, ends_suspended}
use Rattle.scsw_irb.specs.declared.status.DeviceStatus.{DeviceStatus}
use Rattle.chan_model.specs.UnitReports.{is_last_end}
use Rattle.data_move.specs.declared.transfer.Transfer.{Transfer}
use Rattle.subchannel_model.specs.declared.state.ActiveProgram.{ActiveProgram}
use Rattle.subchannel_model.specs.declared.state.Program.{Program}
use Rattle.subchannel_model.specs.Ends.{last_shown, work_shown}
use Rattle.run_laws.specs.Functions.{IsNoNew, functions_by, active_alone, activity_by, activity_chosen, changes_status, Follows, DoFunctionsFollow}
use Rattle.run_laws.specs.Shown.{StoredStatus, names, is_about, is_accepted}
use Rattle.run_laws.proofs.Shown.Effects.{Seen, seen, of_seen, IsTimely, Effect, Nothing, Causes, Takes, TakesAsking, Moves, MovesAsking, Suspends, SuspendsShowing, SendsHalt, taken_over, moved, still, made-functions, joined-functions}
use Rattle.step_laws.proofs.Executed.{IsEffect, reply_of, code_for, state_left}
use Rattle.run_laws.proofs.Shown.Fitting.{Fits, cause-activity, asked-functions, chosen-effect, marked-fits, run-fits}
use Rattle.run_laws.proofs.Shown.Holding.{Held}
use Rattle.run_laws.proofs.Shown.Runs.{AreLaws, status_of, run-between}
use Rattle.run_laws.proofs.Shown.Signals.{Comes, Ignored, Taken, lost-goes, takes-comes}
use Rattle.run_laws.proofs.Shown.Turned.{Turned, Executes, Chooses, Meets, Sweeps, Rests, met, reply_met, reply_chosen, state_chosen}

-- functions stay, whatever status is made
before-functions : (H : Type 0) (k : Seen) (c : StatusCause) → IsTimely H k c → Fits k → (scsw_before k.scsw c).functions ≡ k.scsw.functions
before-functions H k cause.ClearDone t fits = sym (fits.clears t)
before-functions H k other t fits = refl

cause-functions : (s : SubchannelState) (c : StatusCause) → (scsw_before s.scsw c).functions ≡ s.scsw.functions → (with_cause s c).scsw.functions ≡ s.scsw.functions
cause-functions s c e =
    made-functions (row_of s c).left.pmcw.enabled (scsw_joined s.pmcw.enabled s.scsw (scsw_before s.scsw c)) (row_of s c).shown
    ∙ joined-functions s.pmcw.enabled s.scsw (scsw_before s.scsw c) e

effect-functions : (H : Type 0) (k : Seen) (n : ℕ) (y : Seen) → Effect H k n y → Fits k → y.scsw.functions ≡ k.scsw.functions
effect-functions H k _ _ (Causes c timely) fits = cause-functions (of_seen k) c (before-functions H k c timely fits)
effect-functions H k _ _ (TakesAsking program transfer tried count stands none) fits = asked-functions (taken_over k program transfer) tried count
effect-functions H k _ _ (MovesAsking b transfer tried count e chains) fits = asked-functions (moved k b transfer) tried count
effect-functions H k _ _ (SuspendsShowing program walk count runs) fits =
    cause-functions (still k program walk count) (cause.Suspension walk.tried count) refl
effect-functions H k _ _ other fits = refl

-- nothing becomes pending, whatever status is made
same-new : (a b : ActivityControl) → a ≡ b → IsNoNew b a
same-new a b e = record {
  start = λ h. sym (ap (λ (x : ActivityControl). x.start_pending) e) ∙ h;
  resume = λ h. sym (ap (λ (x : ActivityControl). x.resume_pending) e) ∙ h;
  halt = λ h. sym (ap (λ (x : ActivityControl). x.halt_pending) e) ∙ h;
  clear = λ h. sym (ap (λ (x : ActivityControl). x.clear_pending) e) ∙ h;
}

next-new : (a b c : ActivityControl) → IsNoNew a b → IsNoNew b c → IsNoNew a c
next-new a b c x y = record { start = λ h. x.start (y.start h); resume = λ h. x.resume (y.resume h); halt = λ h. x.halt (y.halt h); clear = λ h. x.clear (y.clear h) }

idle-new : (a b : ActivityControl) → (b.start_pending ≡ false) → (b.resume_pending ≡ false) → (b.halt_pending ≡ false) → (b.clear_pending ≡ false) → IsNoNew a b
idle-new a b s r h c = record {
  start = λ e. absurd (cc (sym e ∙ s));
  resume = λ e. absurd (cc (sym e ∙ r));
  halt = λ e. absurd (cc (sym e ∙ h));
  clear = λ e. absurd (cc (sym e ∙ c));
}

end-new : (a : ActivityControl) (scsw : Scsw) (b : ActiveProgram) (w : Option Program) (status : DeviceStatus) (more last : Bool) →
    IsNoNew a (if last then last_shown scsw b w status more else work_shown scsw b status more false).activity
end-new a scsw b None status more true = idle-new a (work_shown scsw b status more true).activity refl refl refl refl
end-new a scsw b (Some w) status more true = idle-new a (work_shown scsw b status more true).activity refl refl refl refl
end-new a scsw b w status more false = idle-new a (work_shown scsw b status more false).activity refl refl refl refl

shown-new : (s : SubchannelState) (c : StatusCause) → IsNoNew s.scsw.activity (row_of s c).shown.activity
shown-new s (cause.End b status more) = end-new s.scsw.activity s.scsw b s.waiting status more (is_last_end status)
shown-new s (cause.Pci tried count) = same-new s.scsw.activity s.scsw.activity refl
shown-new s (cause.Suspension tried count) = idle-new s.scsw.activity (record no_activity { suspended = true }) refl refl refl refl
shown-new s other = idle-new s.scsw.activity no_activity refl refl refl refl

cause-new : (s : SubchannelState) (c : StatusCause) → IsNoNew s.scsw.activity (with_cause s c).scsw.activity
cause-new s c =
    next-new s.scsw.activity (row_of s c).shown.activity (with_cause s c).scsw.activity (shown-new s c)
    (same-new (with_cause s c).scsw.activity (row_of s c).shown.activity (cause-activity s c))

taken-new : (k : Seen) (program : Program) (transfer : Transfer) → IsNoNew k.scsw.activity (taken_over k program transfer).scsw.activity
taken-new k program transfer = record { start = λ e. absurd (cc e); resume = λ e. absurd (cc e); halt = λ e. e; clear = λ e. e }

effect-new : (H : Type 0) (k : Seen) (n : ℕ) (y : Seen) → Effect H k n y → IsNoNew k.scsw.activity y.scsw.activity
effect-new H k _ _ Nothing = same-new k.scsw.activity k.scsw.activity refl
effect-new H k _ _ (Causes c timely) = cause-new (of_seen k) c
effect-new H k _ _ (Takes program transfer stands none) = taken-new k program transfer
effect-new H k _ _ (TakesAsking program transfer tried count stands none) =
    let x : SubchannelState = taken_over k program transfer in
    next-new k.scsw.activity x.scsw.activity (with_cause x (cause.Pci tried count)).scsw.activity (taken-new k program transfer) (cause-new x (cause.Pci tried count))
effect-new H k _ _ (Moves b transfer e chains) = same-new k.scsw.activity k.scsw.activity refl
effect-new H k _ _ (MovesAsking b transfer tried count e chains) = cause-new (moved k b transfer) (cause.Pci tried count)
effect-new H k _ _ (Suspends program walk count runs) = idle-new k.scsw.activity (record no_activity { suspended = true }) refl refl refl refl
effect-new H k _ _ (SuspendsShowing program walk count runs) = cause-new (still k program walk count) (cause.Suspension walk.tried count)
effect-new H k _ _ SendsHalt = record { start = λ e. e; resume = λ e. e; halt = λ e. absurd (cc e); clear = λ e. e }

-- code 0
abbrev pub is_zero : ConditionCode → Bool
is_zero code.Zero = true
is_zero c = false

plain-accepted : (c : ConditionCode) (x : Serials) → is_accepted (reply.Code (answer_of_code c x)) ≡ is_zero c
plain-accepted code.Zero x = refl
plain-accepted c x = refl

pub reply-accepted : (i : Instruction) (c : ConditionCode) (before after : SubchannelState) → is_accepted (reply_of i c before after) ≡ is_zero c
reply-accepted (instruction.Tsch word address) code.Zero before after = refl
reply-accepted (instruction.Tsch word address) code.One before after = refl
reply-accepted (instruction.Tsch word address) code.Two before after = refl
reply-accepted (instruction.Tsch word address) code.Three before after = refl
reply-accepted (instruction.Stsch word address) code.Zero before after = refl
reply-accepted (instruction.Stsch word address) code.One before after = refl
reply-accepted (instruction.Stsch word address) code.Two before after = refl
reply-accepted (instruction.Stsch word address) code.Three before after = refl
reply-accepted i c before after = plain-accepted c after.serials

-- what is so of the effect with code 0 is so of what is left, and nothing changes with another
pub left-is : {A : Type 0} (f : SubchannelState → A) (c : ConditionCode) (s effect : SubchannelState) (x : A) → (c ≡ code.Zero → f effect ≡ x) →
    f (left_by c s effect) ≡ (if is_zero c then x else f s)
left-is f code.Zero s effect x e = e refl
left-is f c s effect x e = refl

pub both-is : (a b c : Bool) → a ≡ true → b ≡ c → (a && b) ≡ c
both-is true b c e f = f
both-is false b c e f = absurd (cc e)

-- TEST, where status is pending
test-functions : (s : SubchannelState) (scsw : Scsw) (pending alone suspended halt : Bool) → pending ≡ true →
    (if not pending then scsw else (if alone then (if not suspended then without_status scsw else (if halt then ended_scsw scsw else suspended_scsw scsw)) else ended_scsw scsw)).functions
    ≡ (if alone && not (suspended && halt) then scsw.functions else no_functions)
test-functions s scsw false alone suspended halt e = absurd (cc e)
test-functions s scsw true true false halt e = refl
test-functions s scsw true true true true e = refl
test-functions s scsw true true true false e = refl
test-functions s scsw true false suspended halt e = refl

test-activity : (scsw : Scsw) (pending alone suspended halt : Bool) → pending ≡ true →
    (if not pending then scsw else (if alone then (if not suspended then without_status scsw else (if halt then ended_scsw scsw else suspended_scsw scsw)) else ended_scsw scsw)).activity
    ≡ (if alone && not (suspended && halt) then (if suspended then record scsw.activity { resume_pending = false } else scsw.activity) else active_alone scsw.activity)
test-activity scsw false alone suspended halt e = absurd (cc e)
test-activity scsw true true false halt e = refl
test-activity scsw true true true true e = refl
test-activity scsw true true true false e = refl
test-activity scsw true false suspended halt e = refl

wholly-scsw : (s : SubchannelState) (b : Bool) → (if b then without_programs (tested s) else tested s).scsw ≡ tested_scsw s.scsw
wholly-scsw s true = refl
wholly-scsw s false = refl

zero-one : (operational one two : Bool) → in_order operational (not one) two ≡ code.Zero → one ≡ true
zero-one true true two e = refl
zero-one true false two e = absurd (cc e)
zero-one false one two e = absurd (cc e)

halted-functions : (s : SubchannelState) (b : Bool) → (if b then status_dropped (halt_begun s) else halt_begun s).scsw.functions ≡ record s.scsw.functions { halt = true }
halted-functions s true = refl
halted-functions s false = refl

halted-activity : (s : SubchannelState) (b : Bool) → (if b then status_dropped (halt_begun s) else halt_begun s).scsw.activity ≡ record s.scsw.activity { halt_pending = true }
halted-activity s true = refl
halted-activity s false = refl

abbrev functions : SubchannelState → FunctionControl
functions s = s.scsw.functions

abbrev activity : SubchannelState → ActivityControl
activity s = s.scsw.activity

effect-left : (i : Instruction) (sub : Subchannel) (effect : SubchannelState) → IsEffect i sub effect → code_for i sub ≡ code.Zero →
    (effect.scsw.functions ≡ functions_by i sub.state.scsw) × (effect.scsw.activity ≡ activity_by i sub.state.scsw)
effect-left (instruction.Ssch word address) sub effect is e = (ap functions is.1, ap activity is.1)
effect-left (instruction.Tsch word address) sub effect is e =
    let s : SubchannelState = sub.state in
    let pending : s.scsw.status.pending ≡ true = zero-one _ _ false e in (
      ap functions is
          ∙ ap (λ (x : Scsw). x.functions) (wholly-scsw s (ends_suspended s.scsw))
          ∙ test-functions s s.scsw s.scsw.status.pending (intermediate_alone s.scsw.status) s.scsw.activity.suspended s.scsw.functions.halt pending,
      ap activity is
          ∙ ap (λ (x : Scsw). x.activity) (wholly-scsw s (ends_suspended s.scsw))
          ∙ test-activity s.scsw s.scsw.status.pending (intermediate_alone s.scsw.status) s.scsw.activity.suspended s.scsw.functions.halt pending,
    )
effect-left (instruction.Msch word address) sub effect is e = (ap functions is.1, ap activity is.1)
effect-left (instruction.Hsch word) sub effect is e =
    (ap functions is ∙ halted-functions sub.state (drops_status sub.state.scsw), ap activity is ∙ halted-activity sub.state (drops_status sub.state.scsw))
effect-left i sub effect is e = (ap functions is, ap activity is)

effect-same : (i : Instruction) (sub : Subchannel) (effect : SubchannelState) → IsEffect i sub effect → changes_status i ≡ false → status_of effect ≡ status_of sub.state
effect-same (instruction.Stsch word address) sub effect is e = ap status_of is
effect-same (instruction.Msch word address) sub effect is e = ap status_of is.1
effect-same (instruction.Enable word subclass multipath) sub effect is e = ap status_of is
effect-same i sub effect is e = absurd (cc e)

left-same : (c : ConditionCode) (s effect : SubchannelState) (changes : Bool) → (changes ≡ false → status_of effect ≡ status_of s) → (is_zero c && changes) ≡ false →
    status_of (left_by c s effect) ≡ status_of s
left-same code.Zero s effect changes f e = f e
left-same c s effect changes f e = refl

if-same : {A : Type 0} (a b : Bool) (x y : A) → a ≡ b → (if a then x else y) ≡ (if b then x else y)
if-same a b x y e = ap (λ (c : Bool). if c then x else y) e

if-else : {A : Type 0} (b : Bool) (x y : A) → b ≡ false → y ≡ (if b then x else y)
if-else true x y e = absurd (cc e)
if-else false x y e = refl

if-then : {A : Type 0} (b : Bool) (x y z : A) → b ≡ true → z ≡ x → z ≡ (if b then x else y)
if-then true x y z e f = f
if-then false x y z e f = absurd (cc e)

module _ (sets : ℕ) (id : SubchannelId) where
  executed-follows : (cpu : ℕ) (i : Instruction) (sub : Subchannel) (effect : SubchannelState) → names sets id (subchannel_word i) ≡ true → IsEffect i sub effect →
      Follows sets id (status_of sub.state) (event.Execute cpu i) (reply_of i (code_for i sub) sub.state (state_left i sub effect)) (status_of (state_left i sub effect))
  executed-follows cpu i sub effect named is =
      let c : ConditionCode = code_for i sub in
      let s : SubchannelState = sub.state in
      let after : SubchannelState = state_left i sub effect in
      let r : Reply = reply_of i c s after in
      let accepted : (names sets id (subchannel_word i) && is_accepted r) ≡ is_zero c =
      both-is (names sets id (subchannel_word i)) (is_accepted r) (is_zero c) named (reply-accepted i c s after) in
      record {
        functions = left-is functions c s effect (functions_by i s.scsw) (λ e. (effect-left i sub effect is e).0)
            ∙ if-same (is_zero c) (names sets id (subchannel_word i) && is_accepted r) (functions_by i s.scsw) s.scsw.functions (sym accepted);
        activity = left-is activity c s effect (activity_by i s.scsw) (λ e. (effect-left i sub effect is e).1)
            ∙ if-same (is_zero c) (names sets id (subchannel_word i) && is_accepted r) (activity_by i s.scsw) s.scsw.activity (sym accepted);
        stays = λ e.
            left-same c s effect (changes_status i) (effect-same i sub effect is)
            (ap (λ (b : Bool). b && changes_status i) (sym (reply-accepted i c s after))
            ∙ sym (both-is (names sets id (subchannel_word i)) (is_accepted r && changes_status i) (is_accepted r && changes_status i) named refl) ∙ e);
      }

  chosen-activity : (m : SubchannelState) (c : Chosen) → (state_chosen m c).scsw.activity ≡ activity_chosen (reply_chosen m c) m.scsw.activity
  chosen-activity m PerformsClear = cause-activity m cause.ClearDone
  chosen-activity m PerformsHalt = cause-activity m cause.HaltDone
  chosen-activity m FindsNoPath = cause-activity m cause.NoPath
  chosen-activity m other = refl

  chosen-follows : (word : ℕ) (sub : Subchannel) (choice : Option ℕ) → names sets id word ≡ true → Fits (seen sub.state) →
      Follows sets id (status_of sub.state) (event.Choose word) (reply_chosen (marked_sub sub choice).state (chosen sub choice))
      (status_of (state_chosen (marked_sub sub choice).state (chosen sub choice)))
  chosen-follows word sub choice named fits =
      let m : SubchannelState = (marked_sub sub choice).state in
      let c : Chosen = chosen sub choice in
      let g = chosen-effect sub choice c refl in
      record {
        functions = effect-functions (Held sub.state) (seen m) g.0 (seen (state_chosen m c)) g.1 (marked-fits sub choice fits);
        activity = if-then (names sets id word) (activity_chosen (reply_chosen m c) sub.state.scsw.activity) sub.state.scsw.activity (state_chosen m c).scsw.activity named (chosen-activity m c);
        stays = λ e. absurd (cc (sym named ∙ e));
      }

  met-follows : (word path : ℕ) (returns : Bool) (storage : Contents) (sub : Subchannel) (x : Up) → names sets id word ≡ true → Fits (seen sub.state) →
      Follows sets id (status_of sub.state) (event.Up word path) (reply_met x (met returns storage sub path x)) (status_of (met returns storage sub path x).step.state)
  met-follows word path returns storage sub x named fits = by (takes-comes returns storage sub.state path x)
    where
      by : Comes (Held sub.state) (seen sub.state) x (met returns storage sub path x).step →
          Follows sets id (status_of sub.state) (event.Up word path) (reply_met x (met returns storage sub path x)) (status_of (met returns storage sub path x).step.state)
      by (Ignored e same) = record {
        functions = ap (λ (k : Seen). k.scsw.functions) same;
        activity = same-new (met returns storage sub path x).step.state.scsw.activity sub.state.scsw.activity (ap (λ (k : Seen). k.scsw.activity) same);
        stays = λ n. ap (λ (k : Seen). record { scsw = k.scsw; serials = k.serials }) same;
      }
      by (Taken n e effect due) = record {
        functions = effect-functions (Held sub.state) (seen sub.state) n (seen (met returns storage sub path x).step.state) effect fits;
        activity = effect-new (Held sub.state) (seen sub.state) n (seen (met returns storage sub path x).step.state) effect;
        stays = λ h. absurd (cc (sym (both-is (names sets id word) (met returns storage sub path x).step.outcome.taken true named e) ∙ h));
      }

  lost-functions : (o : Option ℕ) (sub : Subchannel) → Fits (seen sub.state) → (loses_at o sub).state.scsw.functions ≡ sub.state.scsw.functions
  lost-functions None sub fits = refl
  lost-functions (Some p) sub fits =
      let g = lost-goes (Held sub.state) sub.state (rests_on sub.state.hold p) in effect-functions (Held sub.state) (seen sub.state) g.0 (seen (path_lost sub.state p)) g.1 fits

  lost-new : (o : Option ℕ) (sub : Subchannel) → IsNoNew sub.state.scsw.activity (loses_at o sub).state.scsw.activity
  lost-new None sub = same-new sub.state.scsw.activity sub.state.scsw.activity refl
  lost-new (Some p) sub =
      let g = lost-goes (Held sub.state) sub.state (rests_on sub.state.hold p) in effect-new (Held sub.state) (seen sub.state) g.0 (seen (path_lost sub.state p)) g.1

  shows-same : (o : Option ℕ) (up : Bool) (sub : Subchannel) → status_of (shows_at o up sub).state ≡ status_of sub.state
  shows-same None up sub = refl
  shows-same (Some p) up sub = refl

  swept-follows : (what : Sweep) (r : Reply) (sub : Subchannel) → Fits (seen sub.state) →
      Follows sets id (status_of sub.state) (sweep_event what) r (status_of (swept what sub).state)
  swept-follows (sweep.GoesDown chpid) r sub fits = record {
    functions = ap (λ (k : StoredStatus). k.scsw.functions) (shows-same (path_index chpid (loses chpid sub).setup.paths) false (loses chpid sub))
        ∙ lost-functions (path_index chpid sub.setup.paths) sub fits;
    activity = next-new sub.state.scsw.activity (loses chpid sub).state.scsw.activity (swept (sweep.GoesDown chpid) sub).state.scsw.activity
        (lost-new (path_index chpid sub.setup.paths) sub)
        (same-new (swept (sweep.GoesDown chpid) sub).state.scsw.activity (loses chpid sub).state.scsw.activity
        (ap (λ (k : StoredStatus). k.scsw.activity) (shows-same (path_index chpid (loses chpid sub).setup.paths) false (loses chpid sub))));
    stays = λ e. absurd (cc e);
  }
  swept-follows (sweep.ComesUp chpid) r sub fits = record {
    functions = ap (λ (k : StoredStatus). k.scsw.functions) (shows-same (path_index chpid sub.setup.paths) true sub);
    activity = same-new (swept (sweep.ComesUp chpid) sub).state.scsw.activity sub.state.scsw.activity
        (ap (λ (k : StoredStatus). k.scsw.activity) (shows-same (path_index chpid sub.setup.paths) true sub));
    stays = λ e. shows-same (path_index chpid sub.setup.paths) true sub;
  }
  swept-follows (sweep.PathReset chpid) r sub fits =
      record { functions = lost-functions (path_index chpid sub.setup.paths) sub fits; activity = lost-new (path_index chpid sub.setup.paths) sub; stays = λ e. absurd (cc e) }
  swept-follows sweep.SystemReset r sub fits = record { functions = refl; activity = refl; stays = λ e. absurd (cc e) }

  rests-follows : (e : Event) (r : Reply) (k : StoredStatus) → is_about sets id e ≡ false → Follows sets id k e r k
  rests-follows (event.Execute cpu i) r k about =
      let n : (names sets id (subchannel_word i) && is_accepted r) ≡ false = ap (λ (b : Bool). b && is_accepted r) about in
      record {
        functions = if-else (names sets id (subchannel_word i) && is_accepted r) (functions_by i k.scsw) k.scsw.functions n;
        activity = if-else (names sets id (subchannel_word i) && is_accepted r) (activity_by i k.scsw) k.scsw.activity n;
        stays = λ e. refl;
      }
  rests-follows (event.Choose word) r k about =
      record { functions = refl; activity = if-else (names sets id word) (activity_chosen r k.scsw.activity) k.scsw.activity about; stays = λ e. refl }
  rests-follows (event.PathDown chpid) r k about = absurd (cc about)
  rests-follows (event.PathReset chpid) r k about = absurd (cc about)
  rests-follows event.SystemReset r k about = absurd (cc about)
  rests-follows v r k about = record { functions = refl; activity = same-new k.scsw.activity k.scsw.activity refl; stays = λ e. refl }

  pub turned-follows : (e : Event) (r : Reply) (sub : Subchannel) (after : SubchannelState) → Fits (seen sub.state) → Turned sets id e r sub after →
      Follows sets id (status_of sub.state) e r (status_of after)
  turned-follows _ _ _ _ fits (Executes cpu i sub effect named is) = executed-follows cpu i sub effect named is
  turned-follows _ _ _ _ fits (Chooses word sub choice named away) = chosen-follows word sub choice named fits
  turned-follows _ _ _ _ fits (Meets word path returns storage sub x named) = met-follows word path returns storage sub x named fits
  turned-follows _ _ _ _ fits (Sweeps what r sub) = swept-follows what r sub fits
  turned-follows _ _ _ _ fits (Rests e r sub about) = rests-follows e r (status_of sub.state) about

pub run-follows : AreLaws → (setup : Setup) (h : List Entry) (s : State) → Run (opening_of setup) h s → DoFunctionsFollow (set_count setup) h
run-follows laws setup h s run id =
    run-between laws setup id (λ before old e r new. Follows (set_count setup) id old e r new)
    (λ before old e r index sub after before-run named there turned.
    turned-follows (set_count setup) id e r sub after (run-fits laws setup id before old before-run index sub named there) turned) h s run
