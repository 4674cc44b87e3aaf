-- After each run the programs of a subchannel show in its activity.
use Rattle.std.proofs.Common.{◌≡◌, refl, sym, ◌∙◌, ap, subst, ℕ, ◌&&◌, ◌||◌, not, Bool, true, false, Option, None, Some, List}
use Rattle.std.specs.Prelude.{if◌then◌else◌, is_some, slice_get}
use Rattle.scsw_irb.specs.declared.scsw.ActivityControl.{ActivityControl}
use Rattle.scsw_irb.specs.declared.scsw.FunctionControl.{FunctionControl}
use Rattle.scsw_irb.specs.declared.scsw.Scsw.{Scsw}
use Rattle.scsw_irb.specs.declared.scsw.StatusControl.{StatusControl}
use Rattle.chan_events.specs.Events.{Event}
use Rattle.chan_events.specs.declared.event.Instruction.{Instruction}
use Rattle.chan_events.specs.declared.event.Instruction.TheVariants as instruction
use Rattle.chan_events.specs.declared.reply.Entry.{Entry}
use Rattle.chan_events.specs.Replies.{Reply}
use Rattle.chan_model.specs.declared.answer.ConditionCode.{ConditionCode}
use Rattle.chan_model.specs.declared.answer.ConditionCode.TheVariants as code
use Rattle.chan_model.specs.Signals.{Up}
use Rattle.chan_model.specs.ConditionCodes.{in_order}
use Rattle.chan_model.specs.ResetCauses.{rests_on}
use Rattle.channel_config.specs.declared.names.SubchannelId.{SubchannelId}
use Rattle.channel_config.specs.Setup.{Setup, set_count}
use Rattle.storage_keys.specs.Storage.{Contents}
use Rattle.machine_model.specs.declared.state.Sweep.{Sweep}
use Rattle.machine_model.specs.declared.state.Sweep.TheVariants as sweep
use Rattle.machine_model.specs.PathSteps.{swept}
use Rattle.machine_model.specs.State.{State, opening_of}
use Rattle.machine_model.specs.Steps.{Run}
use Rattle.subchannel_model.specs.declared.state.ActiveProgram.{ActiveProgram}
use Rattle.subchannel_model.specs.declared.state.Program.{Program}
use Rattle.subchannel_model.specs.declared.state.ProgramPosition.{ProgramPosition}
use Rattle.subchannel_model.specs.declared.state.Subchannel.{Subchannel}
use Rattle.subchannel_model.specs.declared.state.SubchannelState.{SubchannelState}
use Rattle.subchannel_model.specs.Choosing.{chosen, marked_sub}
use Rattle.subchannel_model.specs.Conditions.{any_function, start_alone, left_by}
use Rattle.subchannel_model.specs.Halt.{shows_end, drops_status, status_dropped, halt_begun}
use Rattle.subchannel_model.specs.Losing.{path_lost, path_index, loses_at, loses, shows_at}
use Rattle.subchannel_model.specs.Indices.{index_in}
use Rattle.subchannel_model.specs.Programs.{without_programs}
use Rattle.subchannel_model.specs.Start.{started}
use Rattle.orb_block.specs.declared.Orb.{Orb}
use Rattle.subchannel_model.specs.Modify.{modified_state}
use Rattle.subchannel_model.specs.Enable.{enabling}
use Rattle.subchannel_model.specs.Store.{pmcw_of}
use Rattle.subchannel_model.specs.Resume.{resumed}
use Rattle.subchannel_model.specs.Cancel.{cancelled, waits}
use Rattle.subchannel_model.specs.Status.{intermediate_alone, without_status}
use Rattle.subchannel_model.specs.Test.{tested, ended_scsw, suspended_scsw, tested_wholly}
use Rattle.run_laws.proofs.Shown.Effects.{Seen, seen}
use Rattle.step_laws.proofs.Executed.{IsEffect, code_for}
use Rattle.run_laws.proofs.Shown.Fitting.{chosen-effect, zero-two}
use Rattle.run_laws.proofs.Shown.Holding.{Held, turned-held}
use Rattle.run_laws.proofs.Shown.Runs.{AreLaws, run-keeps}
use Rattle.run_laws.proofs.Shown.Signals.{Comes, Ignored, Taken, lost-goes, takes-comes}
use Rattle.run_laws.proofs.Shown.Turned.{Turned, Executes, Chooses, Meets, Sweeps, Rests, met, state_chosen}
use Rattle.run_laws.proofs.Shown.Standing.{Stands, IsClean, Keeps, keeps-stands, empty-stands, effect-stands, or-right}

-- instructions
same-keeps : (s x : SubchannelState) → x.scsw ≡ s.scsw → x.waiting ≡ s.waiting → x.begun ≡ s.begun → x.suspended ≡ s.suspended → Keeps (seen s) (seen x)
same-keeps s x e w b u = record {
  waiting = w;
  begun = b;
  suspended = u;
  device = ap (λ (y : Scsw). y.activity.device_active) e;
  active = ap (λ (y : Scsw). y.activity.subchannel_active) e;
  pending = ap (λ (y : Scsw). y.activity.start_pending) e;
  shown = ap (λ (y : Scsw). y.activity.suspended) e;
  clearing = ap (λ (y : Scsw). y.activity.clear_pending) e;
  start = ap (λ (y : Scsw). y.functions.start) e;
  clean = λ h. ap (λ (y : Scsw). shows_end y.status) e ∙ h;
}

-- START
started-any : (f : FunctionControl) → f.start ≡ true → any_function f ≡ true
started-any f e = ap (λ (b : Bool). b || (f.halt || f.clear)) e

zero-not : (operational one two : Bool) → in_order operational one two ≡ code.Zero → one ≡ false
zero-not true false two e = refl
zero-not true true two e = absurd (cc e)
zero-not false one two e = absurd (cc e)

started-stands : (s : SubchannelState) (orb : Orb) → Stands (seen s) → s.scsw.status.pending ≡ false → any_function s.scsw.functions ≡ false → Stands (seen (started s orb))
started-stands s orb t p f = record {
  begun = λ b e. ((t.begun b e).0, refl);
  chains = λ b e u. absurd (cc (sym (started-any s.scsw.functions (t.chains b e u).2.start) ∙ f));
  waiting = λ e n. (
    refl,
    record {
      start = refl;
      clean = ap (λ (b : Bool). b && (not s.scsw.status.intermediate || (s.scsw.status.alert || (s.scsw.status.primary || s.scsw.status.secondary)))) p;
    },
  );
  alone = λ e. refl;
  suspended = λ e. absurd (cc e);
  clears = λ e. absurd (cc e);
}

-- TEST
not-alone-ends : (p i a pr s : Bool) → p ≡ true → (i && (not a && (not pr && not s))) ≡ false → (p && (not i || (a || (pr || s)))) ≡ true
not-alone-ends false i a pr s e f = absurd (cc e)
not-alone-ends true false a pr s e f = refl
not-alone-ends true true true pr s e f = refl
not-alone-ends true true false true s e f = refl
not-alone-ends true true false false true e f = refl
not-alone-ends true true false false false e f = absurd (cc f)

module _ (s : SubchannelState) (t : Stands (seen s)) where
  test-ended : (x : SubchannelState) → x.scsw ≡ ended_scsw s.scsw → x.waiting ≡ s.waiting → x.begun ≡ s.begun → x.suspended ≡ s.suspended → shows_end s.scsw.status ≡ true →
      Stands (seen x)
  test-ended x e w b u ends =
      let dirty : IsClean s.scsw → ⊥ = λ c. cc (sym ends ∙ c.clean) in
      record {
        begun = λ p i. let was = t.begun p (sym b ∙ i) in (ap (λ (y : Scsw). y.activity.device_active) e ∙ was.0, u ∙ was.1);
        chains = λ p i v. absurd (dirty (t.chains p (sym b ∙ i) v).2);
        waiting = λ i n. absurd (dirty (t.waiting (sym (ap (λ (y : Option Program). is_some y) w) ∙ i) (sym b ∙ n)).1);
        alone = λ i. u ∙ t.alone (sym (ap (λ (y : Option Program). is_some y) w) ∙ i);
        suspended = λ i. absurd (dirty (t.suspended (sym (ap (λ (y : Option ProgramPosition). is_some y) u) ∙ i)).3);
        clears = λ i. absurd (cc (sym i ∙ ap (λ (y : Scsw). y.activity.clear_pending) e));
      }

  test-kept : (scsw : Scsw) (x : SubchannelState) → x.scsw ≡ scsw → x.waiting ≡ s.waiting → x.begun ≡ s.begun → x.suspended ≡ s.suspended →
      Keeps (seen s) (seen (record s { scsw = scsw })) → Stands (seen x)
  test-kept scsw x e w b u keeps =
      keeps-stands _ _ (same-keeps (record s { scsw = scsw }) x e w b u) (keeps-stands _ _ keeps t)

  test-by : (pending alone suspended halt : Bool) (x : SubchannelState) →
      x.scsw ≡ (if not pending then s.scsw else (if alone then (if not suspended then without_status s.scsw else (if halt then ended_scsw s.scsw else suspended_scsw s.scsw)) else ended_scsw s.scsw)) →
      x.waiting ≡ s.waiting → x.begun ≡ s.begun → x.suspended ≡ s.suspended → (pending ≡ true → alone ≡ false → shows_end s.scsw.status ≡ true) →
      Stands (seen (if pending && (alone && (suspended && halt)) then without_programs x else x))
  test-by false alone suspended halt x e w b u f = keeps-stands _ _ (same-keeps s x e w b u) t
  test-by true true false halt x e w b u f =
      test-kept (without_status s.scsw) x e w b u
      (record { waiting = refl; begun = refl; suspended = refl; device = refl; active = refl; pending = refl; shown = refl; clearing = refl; start = refl; clean = λ h. refl })
  test-by true true true true x e w b u f = empty-stands _ refl refl refl
  test-by true true true false x e w b u f =
      test-kept (suspended_scsw s.scsw) x e w b u
      (record { waiting = refl; begun = refl; suspended = refl; device = refl; active = refl; pending = refl; shown = refl; clearing = refl; start = refl; clean = λ h. refl })
  test-by true false suspended halt x e w b u f = test-ended x e w b u (f refl refl)

  test-stands : Stands (seen (tested_wholly s))
  test-stands =
      let st : StatusControl = s.scsw.status in
      test-by st.pending (intermediate_alone st) s.scsw.activity.suspended s.scsw.functions.halt (tested s) refl refl refl refl
      (λ e f. not-alone-ends st.pending st.intermediate st.alert st.primary st.secondary e f)

  halt-stands : (drops : Bool) → Stands (seen (if drops then status_dropped (halt_begun s) else halt_begun s))
  halt-stands true =
      keeps-stands (seen s) (seen (status_dropped (halt_begun s)))
      (record { waiting = refl; begun = refl; suspended = refl; device = refl; active = refl; pending = refl; shown = refl; clearing = refl; start = refl; clean = λ h. refl }) t
  halt-stands false =
      keeps-stands (seen s) (seen (halt_begun s))
      (record { waiting = refl; begun = refl; suspended = refl; device = refl; active = refl; pending = refl; shown = refl; clearing = refl; start = refl; clean = λ h. h }) t

  -- CANCEL
  cancel-stands : s.scsw.activity.subchannel_active ≡ false → Stands (seen (cancelled s))
  cancel-stands e = record {
    begun = λ b i. ((t.begun b i).0, refl);
    chains = λ b i u. absurd (cc (sym (t.chains b i u).0 ∙ e));
    waiting = λ i n. absurd (cc i);
    alone = λ i. absurd (cc i);
    suspended = λ i. absurd (cc i);
    clears = λ i. (refl, (t.clears i).1, refl);
  }

  -- the same programs, and the same status word but for what no claim here is about
  like-stands : (x : SubchannelState) → Keeps (seen s) (seen x) → Stands (seen x)
  like-stands x k = keeps-stands (seen s) (seen x) k t

effect-left : (i : Instruction) (sub : Subchannel) (effect : SubchannelState) → IsEffect i sub effect → Stands (seen sub.state) → code_for i sub ≡ code.Zero → Stands (seen effect)
effect-left (instruction.Ssch word address) sub effect is t e =
    subst (λ (x : SubchannelState). Stands (seen x)) (sym is.1) (started-stands sub.state is.0 t (zero-not _ _ _ e) (zero-two _ _ _ e))
effect-left (instruction.Tsch word address) sub effect is t e = subst (λ (x : SubchannelState). Stands (seen x)) (sym is) (test-stands sub.state t)
effect-left (instruction.Stsch word address) sub effect is t e = subst (λ (x : SubchannelState). Stands (seen x)) (sym is) t
effect-left (instruction.Msch word address) sub effect is t e =
    subst (λ (x : SubchannelState). Stands (seen x)) (sym is.1)
    (like-stands sub.state t (modified_state sub is.0) (same-keeps sub.state (modified_state sub is.0) refl refl refl refl))
effect-left (instruction.Enable word subclass multipath) sub effect is t e =
    let x : SubchannelState = modified_state sub (enabling (pmcw_of sub) subclass multipath) in
    subst (λ (y : SubchannelState). Stands (seen y)) (sym is) (like-stands sub.state t x (same-keeps sub.state x refl refl refl refl))
effect-left (instruction.Rsch word) sub effect is t e =
    subst (λ (x : SubchannelState). Stands (seen x)) (sym is)
    (like-stands sub.state t (resumed sub.state)
    (record { waiting = refl; begun = refl; suspended = refl; device = refl; active = refl; pending = refl; shown = refl; clearing = refl; start = refl; clean = λ h. h }))
effect-left (instruction.Hsch word) sub effect is t e = subst (λ (x : SubchannelState). Stands (seen x)) (sym is) (halt-stands sub.state t (drops_status sub.state.scsw))
effect-left (instruction.Csch word) sub effect is t e = subst (λ (x : SubchannelState). Stands (seen x)) (sym is) (empty-stands _ refl refl refl)
effect-left (instruction.Xsch word) sub effect is t e =
    subst (λ (x : SubchannelState). Stands (seen x)) (sym is)
    (cancel-stands sub.state t (or-right (not (waits sub.state.scsw.activity)) _ (or-right (not (start_alone sub.state.scsw.functions)) _ (zero-two _ _ _ e))))

left-stands : (c : ConditionCode) (s effect : SubchannelState) → Stands (seen s) → (c ≡ code.Zero → Stands (seen effect)) → Stands (seen (left_by c s effect))
left-stands code.Zero s effect t f = f refl
left-stands c s effect t f = t

-- signals, choices and lost paths
met-stands : (returns : Bool) (storage : Contents) (sub : Subchannel) (path : ℕ) (x : Up) → Held sub.state → Stands (seen sub.state) →
    Stands (seen (met returns storage sub path x).step.state)
met-stands returns storage sub path x h t = by (takes-comes returns storage sub.state path x)
  where
    by : Comes (Held sub.state) (seen sub.state) x (met returns storage sub path x).step → Stands (seen (met returns storage sub path x).step.state)
    by (Ignored e same) = subst Stands (sym same) t
    by (Taken n e effect due) = effect-stands (Held sub.state) (seen sub.state) n (seen (met returns storage sub path x).step.state) effect h t

chosen-stands : (sub : Subchannel) (choice : Option ℕ) → Held sub.state → Stands (seen sub.state) →
    Stands (seen (state_chosen (marked_sub sub choice).state (chosen sub choice)))
chosen-stands sub choice h t =
    let m : SubchannelState = (marked_sub sub choice).state in
    let g = chosen-effect sub choice (chosen sub choice) refl in
    effect-stands (Held sub.state) (seen m) g.0 (seen (state_chosen m (chosen sub choice))) g.1 h
    (record {
      begun = t.begun;
      chains = λ b e u. let was = t.chains b e u in (was.0, was.1, record { start = was.2.start; clean = was.2.clean });
      waiting = λ e n. let was = t.waiting e n in (was.0, record { start = was.1.start; clean = was.1.clean });
      alone = t.alone;
      suspended = λ e. let was = t.suspended e in (was.0, was.1, was.2, record { start = was.3.start; clean = was.3.clean });
      clears = t.clears;
    })

loses-stands : (o : Option ℕ) (sub : Subchannel) → Held sub.state → Stands (seen sub.state) → Stands (seen (loses_at o sub).state)
loses-stands None sub h t = t
loses-stands (Some p) sub h t =
    let g = lost-goes (Held sub.state) sub.state (rests_on sub.state.hold p) in
    effect-stands (Held sub.state) (seen sub.state) g.0 (seen (path_lost sub.state p)) g.1 h t

shows-stands : (o : Option ℕ) (up : Bool) (sub : Subchannel) → Stands (seen sub.state) → Stands (seen (shows_at o up sub).state)
shows-stands None up sub t = t
shows-stands (Some p) up sub t = like-stands sub.state t (shows_at (Some p) up sub).state (same-keeps sub.state (shows_at (Some p) up sub).state refl refl refl refl)

swept-stands : (what : Sweep) (sub : Subchannel) → Held sub.state → Stands (seen sub.state) → Stands (seen (swept what sub).state)
swept-stands (sweep.GoesDown chpid) sub h t =
    shows-stands (path_index chpid (loses chpid sub).setup.paths) false (loses chpid sub) (loses-stands (path_index chpid sub.setup.paths) sub h t)
swept-stands (sweep.ComesUp chpid) sub h t = shows-stands (path_index chpid sub.setup.paths) true sub t
swept-stands (sweep.PathReset chpid) sub h t = loses-stands (path_index chpid sub.setup.paths) sub h t
swept-stands sweep.SystemReset sub h t = empty-stands _ refl refl refl

pub turned-stands : (sets : ℕ) (id : SubchannelId) (e : Event) (r : Reply) (sub : Subchannel) (after : SubchannelState) → Held sub.state → Stands (seen sub.state) → Turned sets id e r sub after →
    Stands (seen after)
turned-stands sets id _ _ _ _ h t (Executes cpu i sub effect named is) = left-stands (code_for i sub) sub.state effect t (effect-left i sub effect is t)
turned-stands sets id _ _ _ _ h t (Chooses word sub choice named away) = chosen-stands sub choice h t
turned-stands sets id _ _ _ _ h t (Meets word path returns storage sub x named) = met-stands returns storage sub path x h t
turned-stands sets id _ _ _ _ h t (Sweeps what r sub) = swept-stands what sub h t
turned-stands sets id _ _ _ _ h t (Rests e r sub about) = t

record IsWhole (s : SubchannelState) : Type 0 where
  held : Held s
  stands : Stands (seen s)

pub run-stands : AreLaws → (setup : Setup) (id : SubchannelId) (h : List Entry) (s : State) → Run (opening_of setup) h s → (index : ℕ) (sub : Subchannel) →
    index_in id s.subs ≡ Some index → slice_get s.subs index ≡ Some sub → Stands (seen sub.state)
run-stands laws setup id h s run index sub named there =
    let w : IsWhole sub.state =
    run-keeps laws setup id (λ h s. IsWhole s) (record { held = λ e. absurd (cc e); stands = empty-stands _ refl refl refl })
    (λ h e r sub after k turned. record {
      held = turned-held (set_count setup) id e r sub after k.held turned;
      stands = turned-stands (set_count setup) id e r sub after k.held k.stands turned;
    }) h s run index sub named there in
    w.stands

-- where a program is there, the activity shows it
pub at-work : (k : Seen) → Stands k → (is_some k.waiting || (is_some k.begun || is_some k.suspended)) ≡ true →
    (k.scsw.activity.start_pending || (k.scsw.activity.device_active || k.scsw.activity.suspended)) ≡ true
at-work k t e = by k.waiting refl k.begun refl k.suspended refl e
  where
    a : ActivityControl
    a = k.scsw.activity

    or-first : (x y : Bool) → x ≡ true → (x || y) ≡ true
    or-first true y i = refl
    or-first false y i = absurd (cc i)

    or-second : (x y : Bool) → y ≡ true → (x || y) ≡ true
    or-second true y i = refl
    or-second false y i = i

    by : (w : Option Program) → k.waiting ≡ w → (b : Option ActiveProgram) → k.begun ≡ b → (s : Option ProgramPosition) → k.suspended ≡ s →
        (is_some w || (is_some b || is_some s)) ≡ true → (a.start_pending || (a.device_active || a.suspended)) ≡ true
    by w f (Some b) g s i e = or-second a.start_pending _ (or-first a.device_active _ (t.begun b g).0)
    by (Some w) f None g s i e = or-first a.start_pending _ (t.waiting (ap (λ (x : Option Program). is_some x) f) g).0
    by None f None g (Some s) i e = or-second a.start_pending _ (or-second a.device_active _ (t.suspended (ap (λ (x : Option ProgramPosition). is_some x) i)).0)
    by None f None g None i e = absurd (cc e)
