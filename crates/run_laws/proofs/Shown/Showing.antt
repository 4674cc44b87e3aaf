-- After each run the activity of a subchannel tells which of its programs are there: with device active one was begun, with suspended one is
-- suspended; and with clear pending address and count are zero.
use Rattle.std.proofs.Common.{◌≡◌, refl, sym, ◌∙◌, ap, subst, ℕ, ◌&&◌, not, Bool, true, false, Option, None, Some, List}
use Rattle.std.specs.Prelude.{if◌then◌else◌, is_none, is_some, slice_get}
use Rattle.scsw_irb.specs.declared.scsw.ActivityControl.{ActivityControl}
use Rattle.scsw_irb.specs.declared.scsw.Scsw.{Scsw}
use Rattle.scsw_irb.specs.declared.status.DeviceStatus.{DeviceStatus}
use Rattle.chan_events.specs.Events.{Event}
use Rattle.chan_events.specs.declared.event.Instruction.{Instruction}
use Rattle.chan_events.specs.declared.event.Instruction.TheVariants as instruction
use Rattle.chan_events.specs.declared.reply.Entry.{Entry}
use Rattle.chan_events.specs.Replies.{Reply}
use Rattle.chan_model.specs.declared.answer.ConditionCode.{ConditionCode}
use Rattle.chan_model.specs.declared.answer.ConditionCode.TheVariants as code
use Rattle.chan_model.specs.Signals.{Up}
use Rattle.chan_model.specs.ResetCauses.{rests_on}
use Rattle.chan_model.specs.UnitReports.{is_last_end}
use Rattle.channel_config.specs.declared.names.SubchannelId.{SubchannelId}
use Rattle.channel_config.specs.Setup.{Setup, set_count}
use Rattle.storage_keys.specs.Storage.{Contents}
use Rattle.machine_model.specs.declared.state.Sweep.{Sweep}
use Rattle.machine_model.specs.declared.state.Sweep.TheVariants as sweep
use Rattle.machine_model.specs.PathSteps.{swept}
use Rattle.machine_model.specs.State.{State, opening_of}
use Rattle.machine_model.specs.Steps.{Run}
use Rattle.subchannel_model.specs.declared.cause.StatusCause.{StatusCause}
use Rattle.subchannel_model.specs.declared.cause.StatusCause.TheVariants as cause
use Rattle.subchannel_model.specs.declared.state.ActiveProgram.{ActiveProgram}
use Rattle.subchannel_model.specs.declared.state.Program.{Program}
use Rattle.subchannel_model.specs.declared.state.ProgramPosition.{ProgramPosition}
use Rattle.subchannel_model.specs.declared.state.Subchannel.{Subchannel}
use Rattle.subchannel_model.specs.declared.state.SubchannelState.{SubchannelState}
use Rattle.subchannel_model.specs.Causes.{row_of, with_cause}
use Rattle.subchannel_model.specs.Choosing.{chosen, marked_sub}
use Rattle.subchannel_model.specs.Conditions.{left_by}
use Rattle.subchannel_model.specs.Ends.{has_shown, last_shown, work_shown}
use Rattle.subchannel_model.specs.Halt.{drops_status, status_dropped, halt_begun}
use Rattle.subchannel_model.specs.Losing.{path_lost, path_index, loses_at, loses, shows_at}
use Rattle.subchannel_model.specs.Indices.{index_in}
use Rattle.subchannel_model.specs.Programs.{without_programs}
use Rattle.subchannel_model.specs.Status.{intermediate_alone, without_status}
use Rattle.subchannel_model.specs.Test.{tested, ended_scsw, suspended_scsw, tested_wholly}
use Rattle.run_laws.proofs.Shown.Effects.{Seen, seen, of_seen, IsTimely, Effect, Nothing, Causes, Takes, TakesAsking, Moves, MovesAsking, Suspends, SuspendsShowing, SendsHalt, taken_over, moved, still}
use Rattle.step_laws.proofs.Executed.{IsEffect, code_for}
use Rattle.run_laws.proofs.Shown.Fitting.{cause-activity, chosen-effect}
use Rattle.run_laws.proofs.Shown.Holding.{Held, turned-held}
use Rattle.run_laws.proofs.Shown.Runs.{AreLaws, run-keeps}
use Rattle.run_laws.proofs.Shown.Signals.{Comes, Ignored, Taken, lost-goes, takes-comes}
use Rattle.run_laws.proofs.Shown.Standing.{Stands, empty-stands}
use Rattle.run_laws.proofs.Shown.StandingRuns.{turned-stands}
use Rattle.run_laws.proofs.Shown.Turned.{Turned, Executes, Chooses, Meets, Sweeps, Rests, met, state_chosen}

record Shows (k : Seen) : Type 0 where
  device : k.scsw.activity.device_active ≡ true → is_some k.begun ≡ true
  suspended : k.scsw.activity.suspended ≡ true → is_some k.suspended ≡ true
  zero : k.scsw.activity.clear_pending ≡ true → (k.scsw.command_address ≡ 0) × (k.scsw.count ≡ 0)

-- where none of these is shown
idle-shows : (k : Seen) → k.scsw.activity.device_active ≡ false → k.scsw.activity.suspended ≡ false → k.scsw.activity.clear_pending ≡ false → Shows k
idle-shows k d s c = record {
  device = λ e. absurd (cc (sym e ∙ d));
  suspended = λ e. absurd (cc (sym e ∙ s));
  zero = λ e. absurd (cc (sym e ∙ c));
}

-- the same programs, and the same status word
like-shows : (k y : Seen) → y.scsw ≡ k.scsw → y.waiting ≡ k.waiting → y.begun ≡ k.begun → y.suspended ≡ k.suspended → Shows k → Shows y
like-shows k y f w b s t = record {
  device = λ e. ap (λ (o : Option ActiveProgram). is_some o) b ∙ t.device (sym (ap (λ (z : Scsw). z.activity.device_active) f) ∙ e);
  suspended = λ e. ap (λ (o : Option ProgramPosition). is_some o) s ∙ t.suspended (sym (ap (λ (z : Scsw). z.activity.suspended) f) ∙ e);
  zero = λ e.
      let was = t.zero (sym (ap (λ (z : Scsw). z.activity.clear_pending) f) ∙ e) in
      (ap (λ (z : Scsw). z.command_address) f ∙ was.0, ap (λ (z : Scsw). z.count) f ∙ was.1);
}

-- a status that is made
abbrev IsQuiet : ActivityControl → Type 0
IsQuiet a = (a.suspended ≡ false) × (a.clear_pending ≡ false)

end-quiet : (s : SubchannelState) (b : ActiveProgram) (w : Option Program) (status : DeviceStatus) (more last : Bool) →
    IsQuiet (if last then last_shown s.scsw b w status more else work_shown s.scsw b status more false).activity
end-quiet s b None status more true = (refl, refl)
end-quiet s b (Some w) status more true = (refl, refl)
end-quiet s b w status more false = (refl, refl)

end-device : (s : SubchannelState) (b : ActiveProgram) (w : Option Program) (status : DeviceStatus) (more last : Bool) →
    (if last then last_shown s.scsw b w status more else work_shown s.scsw b status more false).activity.device_active ≡ true →
    is_some (if last then without_programs s else record s { begun = Some (has_shown b) }).begun ≡ true
end-device s b None status more true e = absurd (cc e)
end-device s b (Some w) status more true e = absurd (cc e)
end-device s b w status more false e = refl

quiet-shows : (s : SubchannelState) (c : StatusCause) → (row_of s c).shown.activity.device_active ≡ false → IsQuiet (row_of s c).shown.activity → Shows (seen (with_cause s c))
quiet-shows s c d q =
    let a : (with_cause s c).scsw.activity ≡ (row_of s c).shown.activity = cause-activity s c in
    idle-shows (seen (with_cause s c))
    (ap (λ (x : ActivityControl). x.device_active) a ∙ d)
    (ap (λ (x : ActivityControl). x.suspended) a ∙ q.0)
    (ap (λ (x : ActivityControl). x.clear_pending) a ∙ q.1)

caused-shows : (H : Type 0) (s : SubchannelState) (c : StatusCause) → IsTimely H (seen s) c → Shows (seen (with_cause s c))
caused-shows H s (cause.End b status more) timely =
    let c : StatusCause = cause.End b status more in
    let a : (with_cause s c).scsw.activity ≡ (row_of s c).shown.activity = cause-activity s c in
    let q : IsQuiet (row_of s c).shown.activity = end-quiet s b s.waiting status more (is_last_end status) in
    record {
      device = λ e. end-device s b s.waiting status more (is_last_end status) (sym (ap (λ (x : ActivityControl). x.device_active) a) ∙ e);
      suspended = λ e. absurd (cc (sym e ∙ (ap (λ (x : ActivityControl). x.suspended) a ∙ q.0)));
      zero = λ e. absurd (cc (sym e ∙ (ap (λ (x : ActivityControl). x.clear_pending) a ∙ q.1)));
    }
caused-shows H s (cause.Pci tried count) timely = absurd timely
caused-shows H s (cause.Suspension tried count) timely = absurd timely
caused-shows H s other timely = quiet-shows s other refl (refl, refl)

-- an interruption by the program leaves the activity, and comes with no clear pending
asked-shows : (x : SubchannelState) (tried count : ℕ) → (x.scsw.activity.clear_pending ≡ true → ⊥) → Shows (seen x) → Shows (seen (with_cause x (cause.Pci tried count)))
asked-shows x tried count none t =
    let a : (with_cause x (cause.Pci tried count)).scsw.activity ≡ x.scsw.activity = cause-activity x (cause.Pci tried count) in
    record {
      device = λ e. t.device (sym (ap (λ (z : ActivityControl). z.device_active) a) ∙ e);
      suspended = λ e. t.suspended (sym (ap (λ (z : ActivityControl). z.suspended) a) ∙ e);
      zero = λ e. absurd (none (sym (ap (λ (z : ActivityControl). z.clear_pending) a) ∙ e));
    }

effect-shows : (H : Type 0) (k : Seen) (n : ℕ) (y : Seen) → Effect H k n y → Stands k → Shows k → Shows y
effect-shows H k _ _ Nothing t p = p
effect-shows H k _ _ (Causes c timely) t p = caused-shows H (of_seen k) c timely
effect-shows H k _ _ (Takes program transfer stands none) t p = record {
  device = λ e. refl;
  suspended = λ e. absurd (cc e);
  zero = λ e. let was = t.clears e in absurd (stands was.0 was.2);
}
effect-shows H k _ _ (TakesAsking program transfer tried count stands none) t p =
    let never : k.scsw.activity.clear_pending ≡ true → ⊥ = λ e. let was = t.clears e in stands was.0 was.2 in
    asked-shows (taken_over k program transfer) tried count never
    (record { device = λ e. refl; suspended = λ e. absurd (cc e); zero = λ e. absurd (never e) })
effect-shows H k _ _ (Moves b transfer e chains) t p = record { device = λ i. refl; suspended = p.suspended; zero = p.zero }
effect-shows H k _ _ (MovesAsking b transfer tried count e chains) t p =
    asked-shows (moved k b transfer) tried count (λ i. cc (sym (t.clears i).1 ∙ e))
    (record { device = λ i. refl; suspended = p.suspended; zero = p.zero })
effect-shows H k _ _ (Suspends program walk count runs) t p =
    record { device = λ e. absurd (cc e); suspended = λ e. refl; zero = λ e. absurd (cc e) }
effect-shows H k _ _ (SuspendsShowing program walk count runs) t p =
    let x : SubchannelState = still k program walk count in
    let c : StatusCause = cause.Suspension walk.tried count in
    let a : (with_cause x c).scsw.activity ≡ (row_of x c).shown.activity = cause-activity x c in
    record {
      device = λ e. absurd (cc (sym e ∙ ap (λ (z : ActivityControl). z.device_active) a));
      suspended = λ e. refl;
      zero = λ e. absurd (cc (sym e ∙ ap (λ (z : ActivityControl). z.clear_pending) a));
    }
effect-shows H k _ _ SendsHalt t p = record { device = p.device; suspended = p.suspended; zero = p.zero }

-- instructions
module _ (s : SubchannelState) (t : Stands (seen s)) (p : Shows (seen s)) where
  test-by : (pending alone suspended halt : Bool) (x : SubchannelState) → (suspended ≡ true → s.begun ≡ None) →
      x.scsw ≡ (if not pending then s.scsw else (if alone then (if not suspended then without_status s.scsw else (if halt then ended_scsw s.scsw else suspended_scsw s.scsw)) else ended_scsw s.scsw)) →
      x.waiting ≡ s.waiting → x.begun ≡ s.begun → x.suspended ≡ s.suspended → Shows (seen (if pending && (alone && (suspended && halt)) then without_programs x else x))
  test-by false alone suspended halt x none e w b u = like-shows (seen s) (seen x) e w b u p
  test-by true true false halt x none e w b u =
      like-shows (record (seen s) { scsw = without_status s.scsw }) (seen x) e w b u
      (record { device = p.device; suspended = p.suspended; zero = p.zero })
  test-by true true true true x none e w b u =
      like-shows (record (seen (without_programs s)) { scsw = ended_scsw s.scsw }) (seen (without_programs x)) e refl refl refl (record {
        device = λ i. absurd (cc (sym (p.device i) ∙ ap (λ (o : Option ActiveProgram). is_some o) (none refl)));
        suspended = λ i. absurd (cc i);
        zero = λ i. absurd (cc i);
      })
  test-by true true true false x none e w b u =
      like-shows (record (seen s) { scsw = suspended_scsw s.scsw }) (seen x) e w b u
      (record { device = p.device; suspended = p.suspended; zero = p.zero })
  test-by true false suspended halt x none e w b u =
      like-shows (record (seen s) { scsw = ended_scsw s.scsw }) (seen x) e w b u
      (record { device = p.device; suspended = λ i. absurd (cc i); zero = λ i. absurd (cc i) })

  test-shows : Shows (seen (tested_wholly s))
  test-shows =
      test-by s.scsw.status.pending (intermediate_alone s.scsw.status) s.scsw.activity.suspended s.scsw.functions.halt (tested s) (λ e. (t.suspended (p.suspended e)).2) refl refl refl refl

  halt-shows : (drops : Bool) → Shows (seen (if drops then status_dropped (halt_begun s) else halt_begun s))
  halt-shows true = record { device = p.device; suspended = p.suspended; zero = p.zero }
  halt-shows false = record { device = p.device; suspended = p.suspended; zero = p.zero }

effect-left : (i : Instruction) (sub : Subchannel) (effect : SubchannelState) → IsEffect i sub effect → Stands (seen sub.state) → Shows (seen sub.state) → Shows (seen effect)
effect-left (instruction.Ssch word address) sub effect is t p =
    subst (λ (x : SubchannelState). Shows (seen x)) (sym is.1)
    (record { device = p.device; suspended = λ e. absurd (cc e); zero = λ e. absurd (cc e) })
effect-left (instruction.Tsch word address) sub effect is t p = subst (λ (x : SubchannelState). Shows (seen x)) (sym is) (test-shows sub.state t p)
effect-left (instruction.Stsch word address) sub effect is t p = subst (λ (x : SubchannelState). Shows (seen x)) (sym is) p
effect-left (instruction.Msch word address) sub effect is t p =
    subst (λ (x : SubchannelState). Shows (seen x)) (sym is.1) (record { device = p.device; suspended = p.suspended; zero = p.zero })
effect-left (instruction.Hsch word) sub effect is t p = subst (λ (x : SubchannelState). Shows (seen x)) (sym is) (halt-shows sub.state t p (drops_status sub.state.scsw))
effect-left (instruction.Csch word) sub effect is t p =
    subst (λ (x : SubchannelState). Shows (seen x)) (sym is)
    (record { device = λ e. absurd (cc e); suspended = λ e. absurd (cc e); zero = λ e. (refl, refl) })
effect-left (instruction.Xsch word) sub effect is t p =
    subst (λ (x : SubchannelState). Shows (seen x)) (sym is) (record { device = p.device; suspended = λ e. absurd (cc e); zero = p.zero })
effect-left i sub effect is t p =
    subst (λ (x : SubchannelState). Shows (seen x)) (sym is) (record { device = p.device; suspended = p.suspended; zero = p.zero })

left-shows : (c : ConditionCode) (s effect : SubchannelState) → Shows (seen s) → Shows (seen effect) → Shows (seen (left_by c s effect))
left-shows code.Zero s effect p e = e
left-shows c s effect p e = p

-- signals, choices and lost paths
met-shows : (returns : Bool) (storage : Contents) (sub : Subchannel) (path : ℕ) (x : Up) → Stands (seen sub.state) → Shows (seen sub.state) →
    Shows (seen (met returns storage sub path x).step.state)
met-shows returns storage sub path x t p = by (takes-comes returns storage sub.state path x)
  where
    by : Comes (Held sub.state) (seen sub.state) x (met returns storage sub path x).step → Shows (seen (met returns storage sub path x).step.state)
    by (Ignored e same) = subst Shows (sym same) p
    by (Taken n e effect due) = effect-shows (Held sub.state) (seen sub.state) n (seen (met returns storage sub path x).step.state) effect t p

chosen-shows : (sub : Subchannel) (choice : Option ℕ) → Stands (seen sub.state) → Shows (seen sub.state) → Shows (seen (state_chosen (marked_sub sub choice).state (chosen sub choice)))
chosen-shows sub choice t p =
    let m : SubchannelState = (marked_sub sub choice).state in
    let g = chosen-effect sub choice (chosen sub choice) refl in
    effect-shows (Held sub.state) (seen m) g.0 (seen (state_chosen m (chosen sub choice))) g.1
    (record {
      begun = t.begun;
      chains = λ b e u. let was = t.chains b e u in (was.0, was.1, record { start = was.2.start; clean = was.2.clean });
      waiting = λ e n. let was = t.waiting e n in (was.0, record { start = was.1.start; clean = was.1.clean });
      alone = t.alone;
      suspended = λ e. let was = t.suspended e in (was.0, was.1, was.2, record { start = was.3.start; clean = was.3.clean });
      clears = t.clears;
    })
    (record { device = p.device; suspended = p.suspended; zero = p.zero })

loses-shows : (o : Option ℕ) (sub : Subchannel) → Stands (seen sub.state) → Shows (seen sub.state) → Shows (seen (loses_at o sub).state)
loses-shows None sub t p = p
loses-shows (Some path) sub t p =
    let g = lost-goes (Held sub.state) sub.state (rests_on sub.state.hold path) in
    effect-shows (Held sub.state) (seen sub.state) g.0 (seen (path_lost sub.state path)) g.1 t p

up-shows : (o : Option ℕ) (up : Bool) (sub : Subchannel) → Shows (seen sub.state) → Shows (seen (shows_at o up sub).state)
up-shows None up sub p = p
up-shows (Some path) up sub p = record { device = p.device; suspended = p.suspended; zero = p.zero }

swept-shows : (what : Sweep) (sub : Subchannel) → Stands (seen sub.state) → Shows (seen sub.state) → Shows (seen (swept what sub).state)
swept-shows (sweep.GoesDown chpid) sub t p =
    up-shows (path_index chpid (loses chpid sub).setup.paths) false (loses chpid sub) (loses-shows (path_index chpid sub.setup.paths) sub t p)
swept-shows (sweep.ComesUp chpid) sub t p = up-shows (path_index chpid sub.setup.paths) true sub p
swept-shows (sweep.PathReset chpid) sub t p = loses-shows (path_index chpid sub.setup.paths) sub t p
swept-shows sweep.SystemReset sub t p = idle-shows _ refl refl refl

turned-shows : (sets : ℕ) (id : SubchannelId) (e : Event) (r : Reply) (sub : Subchannel) (after : SubchannelState) → Stands (seen sub.state) → Shows (seen sub.state) →
    Turned sets id e r sub after → Shows (seen after)
turned-shows sets id _ _ _ _ t p (Executes cpu i sub effect named is) = left-shows (code_for i sub) sub.state effect p (effect-left i sub effect is t p)
turned-shows sets id _ _ _ _ t p (Chooses word sub choice named away) = chosen-shows sub choice t p
turned-shows sets id _ _ _ _ t p (Meets word path returns storage sub x named) = met-shows returns storage sub path x t p
turned-shows sets id _ _ _ _ t p (Sweeps what r sub) = swept-shows what sub t p
turned-shows sets id _ _ _ _ t p (Rests e r sub about) = p

pub record IsWhole (s : SubchannelState) : Type 0 where
  pub held : Held s
  pub stands : Stands (seen s)
  shows : Shows (seen s)

pub whole : AreLaws → (setup : Setup) (id : SubchannelId) (h : List Entry) (s : State) → Run (opening_of setup) h s → (index : ℕ) (sub : Subchannel) →
    index_in id s.subs ≡ Some index → slice_get s.subs index ≡ Some sub → IsWhole sub.state
whole laws setup id =
    run-keeps laws setup id (λ h s. IsWhole s)
    (record { held = λ e. absurd (cc e); stands = empty-stands _ refl refl refl; shows = idle-shows _ refl refl refl })
    (λ h e r sub after k turned. record {
      held = turned-held (set_count setup) id e r sub after k.held turned;
      stands = turned-stands (set_count setup) id e r sub after k.held k.stands turned;
      shows = turned-shows (set_count setup) id e r sub after k.stands k.shows turned;
    })

-- what the activity tells of the programs: one is at work, or suspended and then no start waits; with clear pending none is
pub record TellsPrograms (s : SubchannelState) : Type 0 where
  pub device : s.scsw.activity.device_active ≡ is_some s.begun
  pub suspended : s.scsw.activity.suspended ≡ is_some s.suspended
  pub alone : is_some s.suspended ≡ true → is_none s.waiting ≡ true
  pub clears : s.scsw.activity.clear_pending ≡ true → (is_some s.begun ≡ false) × (is_some s.suspended ≡ false) × (s.scsw.command_address ≡ 0) × (s.scsw.count ≡ 0)

pub both-same : (a b : Bool) → (a ≡ true → b ≡ true) → (b ≡ true → a ≡ true) → a ≡ b
both-same true b f g = sym (f refl)
both-same false true f g = g refl
both-same false false f g = refl

begun-device : (k : Seen) → Stands k → (o : Option ActiveProgram) → k.begun ≡ o → is_some o ≡ true → k.scsw.activity.device_active ≡ true
begun-device k t None i e = absurd (cc e)
begun-device k t (Some b) i e = (t.begun b i).0

pub whole-tells : (s : SubchannelState) → IsWhole s → TellsPrograms s
whole-tells s k = record {
  device = both-same s.scsw.activity.device_active (is_some s.begun) k.shows.device (begun-device (seen s) k.stands s.begun refl);
  suspended = both-same s.scsw.activity.suspended (is_some s.suspended) k.shows.suspended (λ e. (k.stands.suspended e).0);
  alone = λ e. ap (λ (o : Option Program). is_none o) (k.stands.suspended e).1;
  clears = λ e.
      let was = k.stands.clears e in
      let zero = k.shows.zero e in
      (ap (λ (o : Option ActiveProgram). is_some o) was.1, ap (λ (o : Option ProgramPosition). is_some o) was.2, zero.0, zero.1);
}
