-- The last-path-used mask that is shown is of the path that the entries tell.
use Rattle.std.proofs.Common.{◌≡◌, refl, sym, ◌∙◌, ap, subst, ℕ, ◌&&◌, Bool, true, false, Option, None, Some, List, [], ◌∷◌, ◌++◌}
use Rattle.std.specs.Prelude.{slice_get, if◌then◌else◌}
use Rattle.chan_events.specs.Events.{Event}
use Rattle.chan_events.specs.declared.event.Event.TheVariants as event
use Rattle.chan_events.specs.declared.event.Instruction.{Instruction}
use Rattle.chan_events.specs.declared.event.Instruction.TheVariants as instruction
use Rattle.chan_events.specs.declared.reply.Entry.{Entry}
use Rattle.chan_events.specs.Replies.{Reply}
use Rattle.chan_events.specs.declared.reply.Reply.TheVariants as reply
use Rattle.chan_model.specs.declared.answer.ConditionCode.{ConditionCode}
use Rattle.chan_model.specs.declared.answer.ConditionCode.TheVariants as code
use Rattle.chan_model.specs.ConditionCodes.{answer_of_code}
use Rattle.chan_model.specs.PathSets.{mask_of_path}
use Rattle.channel_config.specs.declared.names.SubchannelId.{SubchannelId}
use Rattle.channel_config.specs.Setup.{Setup, set_count}
use Rattle.machine_model.specs.declared.state.Sweep.{Sweep}
use Rattle.machine_model.specs.declared.state.Sweep.TheVariants as sweep
use Rattle.chan_events.specs.Instructions.{subchannel_word}
use Rattle.machine_model.specs.PathSteps.{swept}
use Rattle.machine_model.specs.State.{State, opening_of}
use Rattle.machine_model.specs.Steps.{Run}
use Rattle.step_laws.specs.Walks.{sweep_event}
use Rattle.subchannel_model.specs.declared.state.Subchannel.{Subchannel}
use Rattle.subchannel_model.specs.declared.state.SubchannelState.{SubchannelState}
use Rattle.subchannel_model.specs.Choosing.{chosen, marked_sub}
use Rattle.subchannel_model.specs.Conditions.{found_operational, left_by}
use Rattle.subchannel_model.specs.Halt.{drops_status, halt_begun, status_dropped}
use Rattle.subchannel_model.specs.Losing.{loses, path_index}
use Rattle.subchannel_model.specs.Indices.{index_in}
use Rattle.subchannel_model.specs.Programs.{without_programs}
use Rattle.subchannel_model.specs.Test.{ends_suspended, tested}
use Rattle.run_laws.specs.Paths.{used_met, used_after, used_in, ShowsLastUsed}
use Rattle.run_laws.proofs.Machine.Appending.{through-more}
use Rattle.run_laws.specs.Shown.{names, is_about, is_accepted}
use Rattle.step_laws.proofs.Executed.{IsEffect, reply_of, code_for, state_left}
use Rattle.run_laws.proofs.Shown.Runs.{AreLaws, IsPassed, passed, passed-next, sets-stay, run-keeps}
use Rattle.run_laws.proofs.Shown.Turned.{Turned, Executes, Chooses, Meets, Sweeps, Rests}
use Rattle.run_laws.proofs.Shown.Using.{IsSame, if-same, loses-same, shows-same, chosen-same, takes-uses}
use Rattle.run_laws.proofs.Shown.WordRuns.{HasMasks, steps-shown}

-- instructions
left-same : (c : ConditionCode) (s effect : SubchannelState) → IsSame s effect → IsSame s (left_by c s effect)
left-same code.Zero s effect e = e
left-same c s effect e = refl

resumed-same : (s : SubchannelState) (b : Bool) → (if b then found_operational s.pmcw else s.pmcw).last_used ≡ s.pmcw.last_used
resumed-same s true = refl
resumed-same s false = refl

abbrev used : SubchannelState → Option ℕ
used s = s.pmcw.last_used

module _ (sets : ℕ) (id : SubchannelId) where
  abbrev Uses : Event → Reply → SubchannelState → SubchannelState → Type 0
  Uses e r s after = used after ≡ used_after sets id e r (used s)

  cleared-uses : (cpu word : ℕ) (mine : Bool) (c : ConditionCode) (s effect : SubchannelState) → mine ≡ true → used effect ≡ None →
      used (left_by c s effect) ≡ (if mine && is_accepted (reply.Code (answer_of_code c (left_by c s effect).serials)) then None else used s)
  cleared-uses cpu word false c s effect n e = absurd (cc n)
  cleared-uses cpu word true code.Zero s effect n e = e
  cleared-uses cpu word true c s effect n e = refl

  executed-uses : (cpu : ℕ) (i : Instruction) (sub : Subchannel) (effect : SubchannelState) → names sets id (subchannel_word i) ≡ true → IsEffect i sub effect →
      Uses (event.Execute cpu i) (reply_of i (code_for i sub) sub.state (state_left i sub effect)) sub.state (state_left i sub effect)
  executed-uses cpu (instruction.Ssch word address) sub effect named is = left-same (code_for (instruction.Ssch word address) sub) sub.state effect (ap used is.1)
  executed-uses cpu (instruction.Tsch word address) sub effect named is =
      left-same (code_for (instruction.Tsch word address) sub) sub.state effect
      (ap used is ∙ if-same sub.state (ends_suspended sub.state.scsw) (without_programs (tested sub.state)) (tested sub.state) refl refl)
  executed-uses cpu (instruction.Stsch word address) sub effect named is = left-same (code_for (instruction.Stsch word address) sub) sub.state effect (ap used is)
  executed-uses cpu (instruction.Msch word address) sub effect named is = left-same (code_for (instruction.Msch word address) sub) sub.state effect (ap used is.1)
  executed-uses cpu (instruction.Enable word subclass multipath) sub effect named is =
      left-same (code_for (instruction.Enable word subclass multipath) sub) sub.state effect (ap used is)
  executed-uses cpu (instruction.Rsch word) sub effect named is =
      left-same (code_for (instruction.Rsch word) sub) sub.state effect (ap used is ∙ resumed-same sub.state sub.state.scsw.activity.suspended)
  executed-uses cpu (instruction.Hsch word) sub effect named is =
      left-same (code_for (instruction.Hsch word) sub) sub.state effect
      (ap used is ∙ if-same sub.state (drops_status sub.state.scsw) (status_dropped (halt_begun sub.state)) (halt_begun sub.state) refl refl)
  executed-uses cpu (instruction.Csch word) sub effect named is =
      cleared-uses cpu word (names sets id word) (code_for (instruction.Csch word) sub) sub.state effect named (ap used is)
  executed-uses cpu (instruction.Xsch word) sub effect named is = left-same (code_for (instruction.Xsch word) sub) sub.state effect (ap used is)

  -- what an event that is not about it leaves
  not-mine : (b : Bool) (x k : Option ℕ) → b ≡ false → k ≡ (if b then x else k)
  not-mine true x k e = absurd (cc e)
  not-mine false x k e = refl

  not-both : (b c : Bool) (k : Option ℕ) → b ≡ false → k ≡ (if b && c then None else k)
  not-both true c k e = absurd (cc e)
  not-both false c k e = refl

  rests-uses : (e : Event) (r : Reply) (s : SubchannelState) → is_about sets id e ≡ false → Uses e r s s
  rests-uses (event.Execute cpu (instruction.Csch word)) r s about = not-both (names sets id word) (is_accepted r) (used s) about
  rests-uses (event.Up word path) r s about = not-mine (names sets id word) (used_met r (used s)) (used s) about
  rests-uses event.SystemReset r s about = absurd (cc about)
  rests-uses e r s about = refl

  swept-uses : (what : Sweep) (r : Reply) (sub : Subchannel) → Uses (sweep_event what) r sub.state (swept what sub).state
  swept-uses (sweep.GoesDown chpid) r sub =
      shows-same (path_index chpid (loses chpid sub).setup.paths) false (loses chpid sub) ∙ loses-same (path_index chpid sub.setup.paths) sub
  swept-uses (sweep.ComesUp chpid) r sub = shows-same (path_index chpid sub.setup.paths) true sub
  swept-uses (sweep.PathReset chpid) r sub = loses-same (path_index chpid sub.setup.paths) sub
  swept-uses sweep.SystemReset r sub = refl

  mine : (b : Bool) (x k new : Option ℕ) → b ≡ true → new ≡ x → new ≡ (if b then x else k)
  mine true x k new e f = f
  mine false x k new e f = absurd (cc e)

  turned-uses : (e : Event) (r : Reply) (sub : Subchannel) (after : SubchannelState) → Turned sets id e r sub after → Uses e r sub.state after
  turned-uses _ _ _ _ (Executes cpu i sub effect named is) = executed-uses cpu i sub effect named is
  turned-uses _ _ _ _ (Chooses word sub choice named away) = chosen-same (marked_sub sub choice).state (chosen sub choice)
  turned-uses _ _ _ _ (Meets word path returns storage sub x named) = mine (names sets id word) _ (used sub.state) _ named (takes-uses returns storage sub.state path x)
  turned-uses _ _ _ _ (Sweeps what r sub) = swept-uses what r sub
  turned-uses _ _ _ _ (Rests e r sub about) = rests-uses e r sub.state about

-- along a run
run-used : AreLaws → (setup : Setup) (id : SubchannelId) (h : List Entry) (s : State) → Run (opening_of setup) h s → (index : ℕ) (sub : Subchannel) → index_in id s.subs ≡ Some index →
    slice_get s.subs index ≡ Some sub → used sub.state ≡ used_in (set_count setup) id h
run-used laws setup id =
    run-keeps laws setup id (λ h s. used s ≡ used_in (set_count setup) id h) refl
    (λ h e r sub after k turned.
    turned-uses (set_count setup) id e r sub after turned
    ∙ ap (λ (o : Option ℕ). used_after (set_count setup) id e r o) k
    ∙ sym (through-more (used_after (set_count setup) id) None h e r))

pub run-last_used : AreLaws → (setup : Setup) (h : List Entry) (s : State) → Run (opening_of setup) h s → ShowsLastUsed (set_count setup) h
run-last_used laws setup h s run id before after a b c word eq shown =
    let o : State = opening_of setup in
    let first : IsPassed o before a (b ∷ (c ∷ after)) s = passed o s before (b ∷ (c ∷ after)) a (subst (λ (x : List Entry). Run o x s) eq run) in
    let second : IsPassed o (before ++ a ∷ []) b (c ∷ after) s = passed-next o s before (c ∷ after) a b first in
    let third : IsPassed o ((before ++ a ∷ []) ++ b ∷ []) c after s = passed-next o s (before ++ a ∷ []) after b c second in
    let masks : HasMasks id first.was third.is word =
    steps-shown (set_count setup) id a b c word first.was first.is second.is third.is (sets-stay laws setup _ second.was second.run) shown first.step second.step third.step in
    masks.last_used ∙ ap mask_of_path (run-used laws setup id before first.was first.run masks.index masks.sub masks.named masks.there)
