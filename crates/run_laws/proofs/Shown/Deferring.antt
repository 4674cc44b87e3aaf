-- After each step the deferred condition code is the one that is due.
use Rattle.std.proofs.Common.{◌≡◌, refl, sym, ◌∙◌, ap, subst, arith, ℕ, ◌&&◌, not, Bool, true, false, Option, None, Some, List, inl, inr}
use Rattle.std.specs.Prelude.{if◌then◌else◌}
use Rattle.scsw_irb.specs.declared.scsw.DeferredCode.{DeferredCode}
use Rattle.scsw_irb.specs.declared.scsw.DeferredCode.TheVariants as deferred
use Rattle.scsw_irb.specs.declared.scsw.Scsw.{Scsw}
use Rattle.chan_events.specs.Events.{Event}
use Rattle.chan_events.specs.declared.event.Event.TheVariants as event
use Rattle.chan_events.specs.declared.event.Instruction.{Instruction}
use Rattle.chan_events.specs.declared.event.Instruction.TheVariants as instruction
use Rattle.chan_events.specs.declared.reply.Entry.{Entry}
use Rattle.chan_events.specs.Replies.{Reply}
use Rattle.chan_events.specs.declared.reply.Reply.TheVariants as reply
use Rattle.chan_model.specs.declared.answer.ConditionCode.{ConditionCode}
use Rattle.chan_model.specs.declared.answer.ConditionCode.TheVariants as code
use Rattle.chan_model.specs.ConditionCodes.{answer_of_code, in_order}
use Rattle.channel_config.specs.declared.names.SubchannelId.{SubchannelId}
use Rattle.channel_config.specs.Setup.{Setup, set_count}
use Rattle.machine_model.specs.declared.state.Sweep.{Sweep}
use Rattle.machine_model.specs.declared.state.Sweep.TheVariants as sweep
use Rattle.chan_events.specs.Instructions.{subchannel_word}
use Rattle.machine_model.specs.PathSteps.{swept}
use Rattle.machine_model.specs.State.{State, opening_of}
use Rattle.machine_model.specs.Steps.{Run}
use Rattle.step_laws.specs.Walks.{sweep_event}
use Rattle.subchannel_model.specs.declared.cause.StatusCause.TheVariants as cause
use Rattle.subchannel_model.specs.declared.state.Candidate.{Candidate}
use Rattle.subchannel_model.specs.declared.state.Chosen.{Chosen}
use Rattle.subchannel_model.specs.declared.state.Chosen.TheVariants.{PerformsClear, PerformsHalt, FindsNoPath}
use Rattle.subchannel_model.specs.declared.state.Program.{Program}
use Rattle.subchannel_model.specs.declared.state.ProgramPosition.{ProgramPosition}
use Rattle.subchannel_model.specs.declared.state.Subchannel.{Subchannel}
use Rattle.subchannel_model.specs.declared.state.SubchannelState.{SubchannelState}
use Rattle.subchannel_model.specs.Causes.{with_cause}
use Rattle.subchannel_model.specs.Choosing.{chosen, marked_sub, starting, resuming}
use Rattle.subchannel_model.specs.Conditions.{left_by}
use Rattle.subchannel_model.specs.Halt.{drops_status, halt_begun, status_dropped}
use Rattle.subchannel_model.specs.Losing.{loses, path_index, shows_at}
use Rattle.subchannel_model.specs.Programs.{without_programs}
use Rattle.subchannel_model.specs.Status.{intermediate_alone, without_status}
use Rattle.subchannel_model.specs.Test.{ends_suspended, ended_scsw, suspended_scsw, tested, tested_scsw}
use Rattle.run_laws.specs.Deferred.{deferred_by, deferred_after, IsChoiceCode, IsCodeDue, IsDeferredRight, AreDeferredRight}
use Rattle.run_laws.specs.Shown.{names, is_about, is_accepted}
use Rattle.run_laws.proofs.Shown.Chosen.{IsCandidate, IsWhy, why-chosen}
use Rattle.run_laws.proofs.Shown.Coding.{Coded, coded-if, cause-coded, loses-stays, takes-coded}
use Rattle.run_laws.proofs.Shown.Effects.{seen}
use Rattle.step_laws.proofs.Executed.{IsEffect, reply_of, code_for, state_left}
use Rattle.run_laws.proofs.Shown.Fitting.{Fits, run-fits}
use Rattle.run_laws.proofs.Shown.Runs.{AreLaws, status_of, run-between}
use Rattle.run_laws.proofs.Shown.Standing.{Stands}
use Rattle.run_laws.proofs.Shown.StandingRuns.{run-stands}
use Rattle.run_laws.proofs.Shown.Turned.{Turned, Executes, Chooses, Meets, Sweeps, Rests, met, state_chosen}

-- where no program is there, none is to be offered
no-start : (pending : Bool) (w : Option Program) (c : Candidate) → w ≡ None → starting pending w ≡ Some c → ⊥
no-start false w c e h = cc h
no-start true None c e h = cc h
no-start true (Some w) c e h = cc e

no-resume : (pending : Bool) (st : Option ProgramPosition) (c : Candidate) → st ≡ None → resuming pending st ≡ Some c → ⊥
no-resume false st c e h = cc h
no-resume true None c e h = cc h
no-resume true (Some st) c e h = cc e

no-candidate : (s : SubchannelState) (c : Candidate) → IsCandidate s c → s.waiting ≡ None → s.suspended ≡ None → ⊥
no-candidate s c k w st =
    elim k [
      | inl e ↦ no-start s.scsw.activity.start_pending s.waiting c w e
      | inr p ↦ no-resume s.scsw.activity.resume_pending s.suspended c st p.1
    ]

abbrev code_of : SubchannelState → DeferredCode
code_of s = s.scsw.deferred

-- a choice
choice-coded : (sub : Subchannel) (choice : Option ℕ) (c : Chosen) → IsWhy sub.state c → (c ≡ FindsNoPath → sub.state.scsw.activity.clear_pending ≡ false) →
    Coded (IsChoiceCode sub.state.scsw.activity sub.state.scsw.deferred) sub.state (state_chosen (marked_sub sub choice).state c)
choice-coded sub choice PerformsClear why f =
    let m : SubchannelState = (marked_sub sub choice).state in
    coded-if (λ d. d ≡ deferred.Zero) (IsChoiceCode sub.state.scsw.activity sub.state.scsw.deferred) sub.state (with_cause m cause.ClearDone)
    (λ d e. record { clear = λ a b. e; halt = λ a b. absurd (cc (sym a ∙ why)); no_path = λ a b. absurd (cc (sym a ∙ why)) })
    (cause-coded m cause.ClearDone)
choice-coded sub choice PerformsHalt why f =
    let m : SubchannelState = (marked_sub sub choice).state in
    coded-if (λ d. d ≡ sub.state.scsw.deferred) (IsChoiceCode sub.state.scsw.activity sub.state.scsw.deferred) sub.state (with_cause m cause.HaltDone)
    (λ d e. record { clear = λ a b. absurd (cc (sym b ∙ why)); halt = λ a b. e; no_path = λ a b. absurd (cc (sym b ∙ why)) })
    (cause-coded m cause.HaltDone)
choice-coded sub choice FindsNoPath why f =
    let m : SubchannelState = (marked_sub sub choice).state in
    coded-if (λ d. d ≡ deferred.Three) (IsChoiceCode sub.state.scsw.activity sub.state.scsw.deferred) sub.state (with_cause m cause.NoPath)
    (λ d e. record { clear = λ a b. absurd (cc (sym a ∙ f refl)); halt = λ a b. absurd (cc (sym b ∙ why.3)); no_path = λ a b. e })
    (cause-coded m cause.NoPath)
choice-coded sub choice other why f = inl (refl, refl)

-- instructions
pub pair-left : (c : ConditionCode) (s effect : SubchannelState) → effect.serials.made ≡ s.serials.made → (left_by c s effect).serials.made ≡ s.serials.made
pair-left code.Zero s effect e = e
pair-left c s effect e = refl

either-made : (n : ℕ) (b : Bool) (x y : SubchannelState) → x.serials.made ≡ n → y.serials.made ≡ n → (if b then x else y).serials.made ≡ n
either-made n true x y e f = e
either-made n false x y e f = f

either-code : (d : DeferredCode) (b : Bool) (x y : SubchannelState) → code_of x ≡ d → code_of y ≡ d → code_of (if b then x else y) ≡ d
either-code d true x y e f = e
either-code d false x y e f = f

abbrev made_of : SubchannelState → ℕ
made_of s = s.serials.made

pub effect-made : (i : Instruction) (sub : Subchannel) (effect : SubchannelState) → IsEffect i sub effect → effect.serials.made ≡ sub.state.serials.made
effect-made (instruction.Ssch word address) sub effect is = ap made_of is.1
effect-made (instruction.Tsch word address) sub effect is =
    ap made_of is ∙ either-made sub.state.serials.made (ends_suspended sub.state.scsw) (without_programs (tested sub.state)) (tested sub.state) refl refl
effect-made (instruction.Msch word address) sub effect is = ap made_of is.1
effect-made (instruction.Hsch word) sub effect is =
    ap made_of is ∙ either-made sub.state.serials.made (drops_status sub.state.scsw) (status_dropped (halt_begun sub.state)) (halt_begun sub.state) refl refl
effect-made i sub effect is = ap made_of is

-- one that answers its code
plain-left : (c : ConditionCode) (mine : Bool) (s effect : SubchannelState) (d : DeferredCode) → mine ≡ true → code_of effect ≡ d →
    code_of (left_by c s effect) ≡ (if mine && is_accepted (reply.Code (answer_of_code c (left_by c s effect).serials)) then d else code_of s)
plain-left c false s effect d n e = absurd (cc n)
plain-left code.Zero true s effect d n e = e
plain-left c true s effect d n e = refl

same-both : (b : Bool) (d : DeferredCode) → d ≡ (if b then d else d)
same-both true d = refl
same-both false d = refl

-- TEST
test-pending : (enabled pending : Bool) → in_order (true && enabled) (not pending) false ≡ code.Zero → pending ≡ true
test-pending false pending e = absurd (cc e)
test-pending true false e = absurd (cc e)
test-pending true true e = refl

tested-code : (scsw : Scsw) (pending alone suspended halt : Bool) → pending ≡ true →
    (if not pending then scsw else (if alone then (if not suspended then without_status scsw else (if halt then ended_scsw scsw else suspended_scsw scsw)) else ended_scsw scsw)).deferred
    ≡ (if alone && not suspended then scsw.deferred else deferred.Zero)
tested-code scsw false alone suspended halt e = absurd (cc e)
tested-code scsw true true false halt e = refl
tested-code scsw true true true true e = refl
tested-code scsw true true true false e = refl
tested-code scsw true false suspended halt e = refl

test-left : (word address : ℕ) (c : ConditionCode) (mine : Bool) (s effect : SubchannelState) (d : DeferredCode) → mine ≡ true → (c ≡ code.Zero → code_of effect ≡ d) →
    code_of (left_by c s effect) ≡ (if mine && is_accepted (reply_of (instruction.Tsch word address) c s (left_by c s effect)) then d else code_of s)
test-left word address c false s effect d n e = absurd (cc n)
test-left word address code.Zero true s effect d n e = e refl
test-left word address c true s effect d n e = refl

module _ (sets : ℕ) (id : SubchannelId) where
  executed-code : (cpu : ℕ) (i : Instruction) (sub : Subchannel) (effect : SubchannelState) → names sets id (subchannel_word i) ≡ true → IsEffect i sub effect →
      code_of (state_left i sub effect) ≡ deferred_after sets id (event.Execute cpu i) (reply_of i (code_for i sub) sub.state (state_left i sub effect)) sub.state.scsw
  executed-code cpu (instruction.Ssch word address) sub effect named is =
      plain-left (code_for (instruction.Ssch word address) sub) (names sets id word) sub.state effect deferred.Zero named (ap code_of is.1)
  executed-code cpu (instruction.Tsch word address) sub effect named is =
      let i : Instruction = instruction.Tsch word address in
      let s : SubchannelState = sub.state in
      test-left word address (code_for i sub) (names sets id word) s effect (deferred_by i s.scsw) named
      (λ zero.
      ap code_of is
      ∙ either-code (tested_scsw s.scsw).deferred (ends_suspended s.scsw) (without_programs (tested s)) (tested s) refl refl
      ∙ tested-code s.scsw s.scsw.status.pending (intermediate_alone s.scsw.status) s.scsw.activity.suspended s.scsw.functions.halt (test-pending s.pmcw.enabled s.scsw.status.pending zero))
  executed-code cpu (instruction.Stsch word address) sub effect named is =
      ap code_of is ∙ same-both (names sets id word && is_accepted (reply_of (instruction.Stsch word address) (code_for (instruction.Stsch word address) sub) sub.state effect)) (code_of sub.state)
  executed-code cpu (instruction.Msch word address) sub effect named is =
      plain-left (code_for (instruction.Msch word address) sub) (names sets id word) sub.state effect (code_of sub.state) named (ap code_of is.1)
  executed-code cpu (instruction.Enable word subclass multipath) sub effect named is =
      plain-left (code_for (instruction.Enable word subclass multipath) sub) (names sets id word) sub.state effect (code_of sub.state) named (ap code_of is)
  executed-code cpu (instruction.Rsch word) sub effect named is =
      plain-left (code_for (instruction.Rsch word) sub) (names sets id word) sub.state effect (code_of sub.state) named (ap code_of is)
  executed-code cpu (instruction.Hsch word) sub effect named is =
      plain-left (code_for (instruction.Hsch word) sub) (names sets id word) sub.state effect (code_of sub.state) named
      (ap code_of is ∙ either-code (code_of sub.state) (drops_status sub.state.scsw) (status_dropped (halt_begun sub.state)) (halt_begun sub.state) refl refl)
  executed-code cpu (instruction.Csch word) sub effect named is =
      plain-left (code_for (instruction.Csch word) sub) (names sets id word) sub.state effect deferred.Zero named (ap code_of is)
  executed-code cpu (instruction.Xsch word) sub effect named is =
      plain-left (code_for (instruction.Xsch word) sub) (names sets id word) sub.state effect (code_of sub.state) named (ap code_of is)

  abbrev IsRight : Event → Reply → SubchannelState → SubchannelState → Type 0
  IsRight e r s after = IsDeferredRight sets id (status_of s) e r (status_of after)

  none-right : (e : Event) (r : Reply) (s after : SubchannelState) → after.serials.made ≡ s.serials.made → code_of after ≡ deferred_after sets id e r s.scsw → IsRight e r s after
  none-right e r s after made is = record { stays = λ same. is; due = λ more. absurd (omega (arith, more, made)) }

  coded-right : (e : Event) (r : Reply) (s after : SubchannelState) → deferred_after sets id e r s.scsw ≡ code_of s → Coded (IsCodeDue s.scsw e r) s after → IsRight e r s after
  coded-right e r s after same c =
      elim c [
        | inl k ↦ record { stays = λ h. k.1 ∙ sym same; due = λ more. absurd (omega (arith, more, k.0)) }
        | inr k ↦ record { stays = λ h. absurd (omega (arith, h, k.0)); due = λ more. k.1 }
      ]

  not-mine : (b c : Bool) (x d : DeferredCode) → b ≡ false → d ≡ (if b && c then x else d)
  not-mine true c x d e = absurd (cc e)
  not-mine false c x d e = refl

  rests-code : (e : Event) (r : Reply) (s : SubchannelState) → is_about sets id e ≡ false → code_of s ≡ deferred_after sets id e r s.scsw
  rests-code (event.Execute cpu i) r s about = not-mine (names sets id (subchannel_word i)) (is_accepted r) (deferred_by i s.scsw) (code_of s) about
  rests-code e r s about = refl

  shown-code : (o : Option ℕ) (up : Bool) (sub : Subchannel) (s : SubchannelState) (P : DeferredCode → Type 0) → Coded P s sub.state → Coded P s (shows_at o up sub).state
  shown-code None up sub s P c = c
  shown-code (Some p) up sub s P c = c

  swept-right : (what : Sweep) (r : Reply) (sub : Subchannel) → IsRight (sweep_event what) r sub.state (swept what sub).state
  swept-right (sweep.GoesDown chpid) r sub =
      coded-right (event.PathDown chpid) r sub.state (swept (sweep.GoesDown chpid) sub).state refl
      (shown-code (path_index chpid (loses chpid sub).setup.paths) false (loses chpid sub) sub.state (λ d. d ≡ code_of sub.state) (loses-stays (path_index chpid sub.setup.paths) sub))
  swept-right (sweep.ComesUp chpid) r sub =
      coded-right (event.PathUp chpid) r sub.state (swept (sweep.ComesUp chpid) sub).state refl (shown-code (path_index chpid sub.setup.paths) true sub sub.state (λ d. d ≡ code_of sub.state) (inl (refl, refl)))
  swept-right (sweep.PathReset chpid) r sub = coded-right (event.PathReset chpid) r sub.state (swept (sweep.PathReset chpid) sub).state refl (loses-stays (path_index chpid sub.setup.paths) sub)
  swept-right sweep.SystemReset r sub = none-right event.SystemReset r sub.state (swept sweep.SystemReset sub).state refl refl

  pub no-clear : (sub : Subchannel) (c : Chosen) → Fits (seen sub.state) → Stands (seen sub.state) → IsWhy sub.state c → c ≡ FindsNoPath → sub.state.scsw.activity.clear_pending ≡ false
  no-clear sub c fits stands why e = by sub.state.scsw.activity.clear_pending refl
    where
      by : (b : Bool) → sub.state.scsw.activity.clear_pending ≡ b → sub.state.scsw.activity.clear_pending ≡ false
      by false h = h
      by true h =
          let none = stands.clears h in
          let why2 : IsWhy sub.state FindsNoPath = subst (λ (x : Chosen). IsWhy sub.state x) e why in
          absurd (no-candidate sub.state why2.0 why2.1 none.0 none.2)

  turned-right : (e : Event) (r : Reply) (sub : Subchannel) (after : SubchannelState) → Fits (seen sub.state) → Stands (seen sub.state) → Turned sets id e r sub after → IsRight e r sub.state after
  turned-right _ _ _ _ fits stands (Executes cpu i sub effect named is) =
      none-right _ _ sub.state (state_left i sub effect) (pair-left (code_for i sub) sub.state effect (effect-made i sub effect is)) (executed-code cpu i sub effect named is)
  turned-right _ _ _ _ fits stands (Chooses word sub choice named away) =
      coded-right _ _ sub.state (state_chosen (marked_sub sub choice).state (chosen sub choice)) refl
      (choice-coded sub choice (chosen sub choice) (why-chosen sub choice) (no-clear sub (chosen sub choice) fits stands (why-chosen sub choice)))
  turned-right _ _ _ _ fits stands (Meets word path returns storage sub x named) =
      coded-right _ _ sub.state (met returns storage sub path x).step.state refl (takes-coded returns storage sub.state path x fits stands)
  turned-right _ _ _ _ fits stands (Sweeps what r sub) = swept-right what r sub
  turned-right _ _ _ _ fits stands (Rests e r sub about) = none-right e r sub.state sub.state refl (rests-code e r sub.state about)

pub run-deferred : AreLaws → (setup : Setup) (h : List Entry) (s : State) → Run (opening_of setup) h s → AreDeferredRight (set_count setup) h
run-deferred laws setup h s run id =
    run-between laws setup id (λ before old e r new. IsDeferredRight (set_count setup) id old e r new)
    (λ before old e r index sub after before-run named there turned.
    turned-right (set_count setup) id e r sub after (run-fits laws setup id before old before-run index sub named there)
    (run-stands laws setup id before old before-run index sub named there) turned) h s run
