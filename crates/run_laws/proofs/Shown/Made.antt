-- Each step makes as many statuses as are due, and clears what it may.
use Rattle.std.proofs.Common.{◌≡◌, refl, sym, ◌∙◌, ap, ℕ, ◌+◌, ◌≤◌, ◌&&◌, ◌||◌, not, Bool, true, false, Option, None, Some, List, arith}
use Rattle.std.specs.Prelude.{if◌then◌else◌}
use Rattle.scsw_irb.specs.declared.scsw.ActivityControl.{ActivityControl}
use Rattle.scsw_irb.specs.declared.scsw.Scsw.{Scsw}
use Rattle.scsw_irb.specs.declared.scsw.StatusControl.{StatusControl}
use Rattle.scsw_irb.specs.Empty.{no_activity}
use Rattle.chan_events.specs.Events.{Event}
use Rattle.chan_events.specs.declared.event.Event.TheVariants as event
use Rattle.chan_events.specs.declared.event.Instruction.{Instruction}
use Rattle.chan_events.specs.declared.event.Instruction.TheVariants as instruction
use Rattle.chan_events.specs.declared.reply.Entry.{Entry}
use Rattle.chan_events.specs.Replies.{Reply}
use Rattle.chan_events.specs.declared.reply.Reply.TheVariants as reply
use Rattle.chan_model.specs.declared.answer.ConditionCode.{ConditionCode}
use Rattle.chan_model.specs.declared.answer.ConditionCode.TheVariants as code
use Rattle.chan_model.specs.Signals.{Down, Up}
use Rattle.chan_model.specs.declared.signal.OnPath.{OnPath}
use Rattle.chan_model.specs.declared.signal.Up.TheVariants as up
use Rattle.chan_model.specs.ConditionCodes.{in_order}
use Rattle.chan_model.specs.ResetCauses.{rests_on}
use Rattle.channel_config.specs.declared.names.SubchannelId.{SubchannelId}
use Rattle.channel_config.specs.Setup.{Setup, set_count}
use Rattle.storage_keys.specs.Storage.{Contents}
use Rattle.machine_model.specs.declared.state.Sweep.{Sweep}
use Rattle.machine_model.specs.declared.state.Sweep.TheVariants as sweep
use Rattle.chan_events.specs.Instructions.{subchannel_word}
use Rattle.machine_model.specs.PathSteps.{swept}
use Rattle.machine_model.specs.State.{State, opening_of}
use Rattle.machine_model.specs.Steps.{Run}
use Rattle.step_laws.specs.Walks.{sweep_event}
use Rattle.subchannel_model.specs.declared.cause.StatusCause.TheVariants as cause
use Rattle.subchannel_model.specs.declared.state.Chosen.{Chosen}
use Rattle.subchannel_model.specs.declared.state.Chosen.TheVariants.{Idle, Resets, PerformsClear, Halts, PerformsHalt, FindsNoPath, Offers}
use Rattle.subchannel_model.specs.declared.state.Subchannel.{Subchannel}
use Rattle.subchannel_model.specs.declared.state.SubchannelState.{SubchannelState}
use Rattle.subchannel_model.specs.Causes.{with_cause}
use Rattle.subchannel_model.specs.Choosing.{chosen, marked_sub, reset_sent, halt_sent, offered}
use Rattle.subchannel_model.specs.Conditions.{left_by}
use Rattle.subchannel_model.specs.Halt.{shows_end, drops_status, status_dropped, halt_begun}
use Rattle.subchannel_model.specs.Losing.{path_lost, path_index, loses_at, loses, shows_at}
use Rattle.subchannel_model.specs.Programs.{without_programs, has_any}
use Rattle.subchannel_model.specs.Status.{intermediate_alone, without_status}
use Rattle.subchannel_model.specs.Attention.{is_idle_or_start_pending}
use Rattle.subchannel_model.specs.Test.{tested, tested_scsw, ended_scsw, suspended_scsw, ends_suspended}
use Rattle.run_laws.specs.Codes.{MayBe, enabled_in}
use Rattle.run_laws.specs.Serials.{clears_by, clears_all, is_released, IsDueUp, IsDue, IsAttended, Beside, beside, sets_by, IsMade, AreMade}
use Rattle.run_laws.specs.Shown.{StoredStatus, names, is_about, is_accepted}
use Rattle.run_laws.proofs.Shown.Counted.{IsCounted, none-made, none-counted, cause-counted, effect-counted}
use Rattle.run_laws.proofs.Shown.Effects.{Seen, seen, effect-one}
use Rattle.run_laws.proofs.Shown.Enabling.{run-enabled}
use Rattle.step_laws.proofs.Executed.{IsEffect, reply_of, code_for, state_left}
use Rattle.run_laws.proofs.Shown.Following.{is_zero, reply-accepted, left-is, both-is}
use Rattle.run_laws.proofs.Shown.Holding.{Held}
use Rattle.run_laws.proofs.Shown.Runs.{AreLaws, status_of, run-between}
use Rattle.run_laws.proofs.Shown.Signals.{IsReleased, Due, Comes, Ignored, Taken, lost-goes, takes-comes}
use Rattle.run_laws.proofs.Shown.Standing.{Stands}
use Rattle.run_laws.proofs.Shown.StandingRuns.{run-stands, at-work}
use Rattle.run_laws.proofs.Shown.Turned.{Turned, Executes, Chooses, Meets, Sweeps, Rests, met, reply_met, reply_chosen, state_chosen}

-- instructions
abbrev made : SubchannelState → ℕ
made s = s.serials.made

abbrev cleared : SubchannelState → ℕ
cleared s = s.serials.cleared

abbrev shown_beside : SubchannelState → Beside
shown_beside s = beside s.scsw

wholly-is : {A : Type 0} (f : SubchannelState → A) (s : SubchannelState) (b : Bool) (x : A) → f (without_programs (tested s)) ≡ x → f (tested s) ≡ x →
    f (if b then without_programs (tested s) else tested s) ≡ x
wholly-is f s true x e g = e
wholly-is f s false x e g = g

halted-is : {A : Type 0} (f : SubchannelState → A) (s : SubchannelState) (b : Bool) (x : A) → f (status_dropped (halt_begun s)) ≡ x → f (halt_begun s) ≡ x →
    f (if b then status_dropped (halt_begun s) else halt_begun s) ≡ x
halted-is f s true x e g = e
halted-is f s false x e g = g

effect-made : (i : Instruction) (sub : Subchannel) (effect : SubchannelState) → IsEffect i sub effect → made effect ≡ made sub.state
effect-made (instruction.Ssch word address) sub effect is = ap made is.1
effect-made (instruction.Tsch word address) sub effect is = ap made is ∙ wholly-is made sub.state (ends_suspended sub.state.scsw) (made sub.state) refl refl
effect-made (instruction.Msch word address) sub effect is = ap made is.1
effect-made (instruction.Hsch word) sub effect is = ap made is ∙ halted-is made sub.state (drops_status sub.state.scsw) (made sub.state) refl refl
effect-made i sub effect is = ap made is

-- HALT with code 0 finds no status or intermediate status alone
zero-not : (operational one two : Bool) → in_order operational one two ≡ code.Zero → one ≡ false
zero-not true false two e = refl
zero-not true true two e = absurd (cc e)
zero-not false one two e = absurd (cc e)

drops-active : (pending i a p s active : Bool) → (pending && (not i || (a || (p || s)))) ≡ false →
    (pending && ((i && (not a && (not p && not s))) && active)) ≡ (pending && active)
drops-active false i a p s active e = refl
drops-active true false a p s active e = absurd (cc e)
drops-active true true true p s active e = absurd (cc e)
drops-active true true false true s active e = absurd (cc e)
drops-active true true false false true active e = absurd (cc e)
drops-active true true false false false active e = refl

halted-cleared : (s : SubchannelState) (b : Bool) → (if b then status_dropped (halt_begun s) else halt_begun s).serials.cleared ≡ (if b then s.serials.made else s.serials.cleared)
halted-cleared s true = refl
halted-cleared s false = refl

effect-cleared : (i : Instruction) (sub : Subchannel) (effect : SubchannelState) → IsEffect i sub effect → code_for i sub ≡ code.Zero →
    cleared effect ≡ (if clears_by i sub.state.scsw then made sub.state else cleared sub.state)
effect-cleared (instruction.Ssch word address) sub effect is e = ap cleared is.1
effect-cleared (instruction.Tsch word address) sub effect is e = ap cleared is ∙ wholly-is cleared sub.state (ends_suspended sub.state.scsw) (made sub.state) refl refl
effect-cleared (instruction.Msch word address) sub effect is e = ap cleared is.1
effect-cleared (instruction.Hsch word) sub effect is e =
    let s : SubchannelState = sub.state in
    let st : StatusControl = s.scsw.status in
    ap cleared is ∙ halted-cleared s (drops_status s.scsw)
    ∙ ap (λ (b : Bool). if b then made s else cleared s)
    (drops-active st.pending st.intermediate st.alert st.primary st.secondary s.scsw.activity.subchannel_active (zero-not _ (shows_end st) _ e))
effect-cleared i sub effect is e = ap cleared is

test-beside : (scsw : Scsw) (pending alone suspended halt : Bool) →
    beside (if not pending then scsw else (if alone then (if not suspended then without_status scsw else (if halt then ended_scsw scsw else suspended_scsw scsw)) else ended_scsw scsw))
    ≡ beside scsw
test-beside scsw false alone suspended halt = refl
test-beside scsw true true false halt = refl
test-beside scsw true true true true = refl
test-beside scsw true true true false = refl
test-beside scsw true false suspended halt = refl

effect-beside : (i : Instruction) (sub : Subchannel) (effect : SubchannelState) → IsEffect i sub effect → sets_by i ≡ false → shown_beside effect ≡ shown_beside sub.state
effect-beside (instruction.Ssch word address) sub effect is e = absurd (cc e)
effect-beside (instruction.Tsch word address) sub effect is e =
    let s : SubchannelState = sub.state in
    let t : beside (tested_scsw s.scsw) ≡ beside s.scsw =
    test-beside s.scsw s.scsw.status.pending (intermediate_alone s.scsw.status) s.scsw.activity.suspended s.scsw.functions.halt in
    ap shown_beside is ∙ wholly-is shown_beside s (ends_suspended s.scsw) (shown_beside s) t t
effect-beside (instruction.Msch word address) sub effect is e = ap shown_beside is.1
effect-beside (instruction.Hsch word) sub effect is e = ap shown_beside is ∙ halted-is shown_beside sub.state (drops_status sub.state.scsw) (shown_beside sub.state) refl refl
effect-beside (instruction.Csch word) sub effect is e = absurd (cc e)
effect-beside i sub effect is e = ap shown_beside is

left-keeps : {A : Type 0} (f : SubchannelState → A) (c : ConditionCode) (s effect : SubchannelState) → f effect ≡ f s → f (left_by c s effect) ≡ f s
left-keeps f code.Zero s effect e = e
left-keeps f c s effect e = refl

left-stays : {A : Type 0} (f : SubchannelState → A) (c : ConditionCode) (s effect : SubchannelState) (changes : Bool) → (changes ≡ false → f effect ≡ f s) →
    (is_zero c && changes) ≡ false → f (left_by c s effect) ≡ f s
left-stays f code.Zero s effect changes g e = g e
left-stays f c s effect changes g e = refl

if-both : {A : Type 0} (a b : Bool) (x y : A) → (if a then (if b then x else y) else y) ≡ (if a && b then x else y)
if-both true b x y = refl
if-both false b x y = refl

if-else : {A : Type 0} (b : Bool) (x y : A) → b ≡ false → y ≡ (if b then x else y)
if-else true x y e = absurd (cc e)
if-else false x y e = refl

-- signals
to-released : (sent : Option (OnPath Down)) → is_released sent ≡ true → IsReleased sent
to-released None e = absurd (cc e)
to-released (Some sent) e = e

due-up : (k : Seen) (x : Up) (sent : Option (OnPath Down)) (n : ℕ) (new : StoredStatus) → n ≤ 1 → Stands k → Due k x sent n new.scsw.activity.suspended →
    IsDueUp (record { scsw = k.scsw; serials = k.serials }) x sent new n
due-up k (up.Accept t) sent n new one works d = (one, λ rel. d (to-released sent rel))
due-up k (up.Busy t) sent n new one works d = d
due-up k (up.Leave t c) sent n new one works d = d
due-up k (up.Back t c) sent n new one works d = d
due-up k (up.Data load t c m s) sent n new one works d = one
due-up k (up.End t m status more) sent n new one works d = (one, λ rel. d (to-released sent rel))
due-up k (up.Released t) sent n new one works d = d
due-up k (up.Cleared r) sent n new one works d = d
due-up k (up.Notice b) sent n new one works d = (one, λ e. at-work k works (d e))
due-up k (up.Attn a status) sent n new one works d = d.1

due-ignored : (old new : StoredStatus) (word path : ℕ) (x : Up) (taken : Bool) (sent : Option (OnPath Down)) → taken ≡ false →
    IsDue old (event.Up word path) (reply.Up x taken sent) new 0
due-ignored old new word path x false sent e = refl
due-ignored old new word path x true sent e = absurd (cc e)

due-taken : (old new : StoredStatus) (word path : ℕ) (x : Up) (taken : Bool) (sent : Option (OnPath Down)) (n : ℕ) → taken ≡ true → IsDueUp old x sent new n →
    IsDue old (event.Up word path) (reply.Up x taken sent) new n
due-taken old new word path x true sent n e d = d
due-taken old new word path x false sent n e d = absurd (cc e)

open-activity : (resume halt clear active device suspended start : Bool) → not (resume || (halt || (clear || (active || (device || suspended))))) ≡ true →
    record { resume_pending = resume; start_pending = start; halt_pending = halt; clear_pending = clear; subchannel_active = active; device_active = device; suspended = suspended }
    ≡ record no_activity { start_pending = start }
open-activity false false false false false false start e = refl
open-activity false false false false false true start e = absurd (cc e)
open-activity false false false false true suspended start e = absurd (cc e)
open-activity false false false true device suspended start e = absurd (cc e)
open-activity false false true active device suspended start e = absurd (cc e)
open-activity false true clear active device suspended start e = absurd (cc e)
open-activity true halt clear active device suspended start e = absurd (cc e)

open-parts : (pending : Bool) (a : ActivityControl) → (not pending && is_idle_or_start_pending a) ≡ true → (pending ≡ false) × (a ≡ record no_activity { start_pending = a.start_pending })
open-parts true a e = absurd (cc e)
open-parts false a e =
    (refl, open-activity a.resume_pending a.halt_pending a.clear_pending a.subchannel_active a.device_active a.suspended a.start_pending e)

-- an attention that is taken
attended-up : (k : Seen) (x : Up) (sent : Option (OnPath Down)) (n : ℕ) (suspended : Bool) (word path : ℕ) (taken : Bool) → Due k x sent n suspended →
    IsAttended (record { scsw = k.scsw; serials = k.serials }) (event.Up word path) (reply.Up x taken sent)
attended-up k (up.Accept t) sent n suspended word path taken d = tt
attended-up k (up.Busy t) sent n suspended word path taken d = tt
attended-up k (up.Leave t c) sent n suspended word path taken d = tt
attended-up k (up.Back t c) sent n suspended word path taken d = tt
attended-up k (up.Data load t c m s) sent n suspended word path taken d = tt
attended-up k (up.End t m status more) sent n suspended word path taken d = tt
attended-up k (up.Released t) sent n suspended word path taken d = tt
attended-up k (up.Cleared r) sent n suspended word path taken d = tt
attended-up k (up.Notice b) sent n suspended word path taken d = tt
attended-up k (up.Attn a status) sent n suspended word path true d = open-parts k.scsw.status.pending k.scsw.activity d.0
attended-up k (up.Attn a status) sent n suspended word path false d = tt

ignored-attended : (old : StoredStatus) (x : Up) (word path : ℕ) (taken : Bool) (sent : Option (OnPath Down)) → taken ≡ false →
    IsAttended old (event.Up word path) (reply.Up x taken sent)
ignored-attended old (up.Accept t) word path taken sent e = tt
ignored-attended old (up.Busy t) word path taken sent e = tt
ignored-attended old (up.Leave t c) word path taken sent e = tt
ignored-attended old (up.Back t c) word path taken sent e = tt
ignored-attended old (up.Data load t c m s) word path taken sent e = tt
ignored-attended old (up.End t m status more) word path taken sent e = tt
ignored-attended old (up.Released t) word path taken sent e = tt
ignored-attended old (up.Cleared r) word path taken sent e = tt
ignored-attended old (up.Notice b) word path taken sent e = tt
ignored-attended old (up.Attn a status) word path true sent e = absurd (cc e)
ignored-attended old (up.Attn a status) word path false sent e = tt

abbrev stored : Seen → StoredStatus
stored k = record { scsw = k.scsw; serials = k.serials }

module _ (sets : ℕ) (id : SubchannelId) (known : Option Bool) where
  abbrev Makes : Subchannel → Event → Reply → SubchannelState → Type 0
  Makes sub e r after = IsMade sets id known (status_of sub.state) e r (status_of after)

  executed-made : (cpu : ℕ) (i : Instruction) (sub : Subchannel) (effect : SubchannelState) → names sets id (subchannel_word i) ≡ true → IsEffect i sub effect →
      MayBe known sub.state.pmcw.enabled → Makes sub (event.Execute cpu i) (reply_of i (code_for i sub) sub.state (state_left i sub effect)) (state_left i sub effect)
  executed-made cpu i sub effect named is may =
      let c : ConditionCode = code_for i sub in
      let s : SubchannelState = sub.state in
      let after : SubchannelState = state_left i sub effect in
      let r : Reply = reply_of i c s after in
      let keeps : made after ≡ made s = left-keeps made c s effect (effect-made i sub effect is) in
      let both = λ (b : Bool). both-is (names sets id (subchannel_word i)) (is_accepted r && b) (is_zero c && b) named (ap (λ (x : Bool). x && b) (reply-accepted i c s after)) in
      record {
        enabled = s.pmcw.enabled;
        may = may;
        n = 0;
        due = λ about. refl;
        other = λ about. refl;
        made = keeps ∙ none-made s.pmcw.enabled (made s);
        cleared = left-is cleared c s effect (if clears_by i s.scsw then made s else cleared s) (λ e. effect-cleared i sub effect is e)
            ∙ if-both (is_zero c) (clears_by i s.scsw) (made s) (cleared s)
            ∙ ap (λ (b : Bool). if b then made s else cleared s) (sym (both (clears_by i s.scsw)));
        attended = λ about. tt;
        stays = λ h e. left-stays shown_beside c s effect (sets_by i) (effect-beside i sub effect is) (sym (both (sets_by i)) ∙ e);
      }

  -- what makes and clears so much
  counted-made : (e : Event) (r : Reply) (sub : Subchannel) (after : SubchannelState) (n : ℕ) → MayBe known sub.state.pmcw.enabled → IsCounted (seen sub.state) n (seen after) →
      clears_all sets id sub.state.scsw e r ≡ false → IsDue (status_of sub.state) e r (status_of after) n → (is_about sets id e ≡ false → n ≡ 0) →
      (is_about sets id e ≡ true → IsAttended (status_of sub.state) e r) → Makes sub e r after
  counted-made e r sub after n may k clears due other attended = record {
    enabled = sub.state.pmcw.enabled;
    may = may;
    n = n;
    due = λ about. due;
    other = other;
    made = k.made;
    cleared = k.cleared ∙ if-else (clears_all sets id sub.state.scsw e r) (made sub.state) (cleared sub.state) clears;
    attended = attended;
    stays = λ h e. k.stays h;
  }

  chosen-made : (word : ℕ) (sub : Subchannel) (choice : Option ℕ) (c : Chosen) → names sets id word ≡ true → MayBe known sub.state.pmcw.enabled →
      Makes sub (event.Choose word) (reply_chosen (marked_sub sub choice).state c) (state_chosen (marked_sub sub choice).state c)
  chosen-made word sub choice c named may = by c
    where
      m : SubchannelState
      m = (marked_sub sub choice).state

      not-other : (n : ℕ) → names sets id word ≡ false → n ≡ 0
      not-other n e = absurd (cc (sym named ∙ e))

      none : (r : Reply) (after : SubchannelState) → after.serials ≡ sub.state.serials → beside after.scsw ≡ beside sub.state.scsw →
          IsDue (status_of sub.state) (event.Choose word) r (status_of after) 0 → Makes sub (event.Choose word) r after
      none r after e f due = counted-made (event.Choose word) r sub after 0 may (none-counted (seen sub.state) (seen after) e f) refl due (λ o. refl) (λ a. tt)

      one : (after : SubchannelState) → IsCounted (seen m) 1 (seen after) → Makes sub (event.Choose word) reply.Pending after
      one after g = counted-made (event.Choose word) reply.Pending sub after 1 may (record { made = g.made; cleared = g.cleared; stays = g.stays }) refl refl (not-other 1) (λ a. tt)

      by : (c : Chosen) → Makes sub (event.Choose word) (reply_chosen m c) (state_chosen m c)
      by Idle = none reply.Idle m refl refl refl
      by (Resets r path) = none (reply.ResetSent r path) (reset_sent m path) refl refl refl
      by PerformsClear = one (with_cause m cause.ClearDone) (cause-counted m cause.ClearDone)
      by (Halts t path) = none (reply.HaltSent t path) (halt_sent m) refl refl refl
      by PerformsHalt = one (with_cause m cause.HaltDone) (cause-counted m cause.HaltDone)
      by FindsNoPath = one (with_cause m cause.NoPath) (cause-counted m cause.NoPath)
      by (Offers x path) = none (reply.Offered (m.drawn + 1) path x.resumes) (offered m x.program path) refl refl refl

  met-made : (word path : ℕ) (returns : Bool) (storage : Contents) (sub : Subchannel) (x : Up) → names sets id word ≡ true → MayBe known sub.state.pmcw.enabled → Stands (seen sub.state) →
      Makes sub (event.Up word path) (reply_met x (met returns storage sub path x)) (met returns storage sub path x).step.state
  met-made word path returns storage sub x named may works = by (takes-comes returns storage sub.state path x)
    where
      after : SubchannelState
      after = (met returns storage sub path x).step.state

      r : Reply
      r = reply_met x (met returns storage sub path x)

      by : Comes (Held sub.state) (seen sub.state) x (met returns storage sub path x).step → Makes sub (event.Up word path) r after
      by (Ignored e same) =
          counted-made (event.Up word path) r sub after 0 may
          (none-counted (seen sub.state) (seen after) (ap (λ (k : Seen). k.serials) same) (ap (λ (k : Seen). beside k.scsw) same)) refl
          (due-ignored (status_of sub.state) (status_of after) word path x (met returns storage sub path x).step.outcome.taken (met returns storage sub path x).step.outcome.sent e)
          (λ o. refl)
          (λ a. ignored-attended (status_of sub.state) x word path (met returns storage sub path x).step.outcome.taken (met returns storage sub path x).step.outcome.sent e)
      by (Taken n e effect due) =
          counted-made (event.Up word path) r sub after n may (effect-counted (Held sub.state) (seen sub.state) n (seen after) effect) refl
          (due-taken (status_of sub.state) (status_of after) word path x (met returns storage sub path x).step.outcome.taken (met returns storage sub path x).step.outcome.sent n e
          (due-up (seen sub.state) x (met returns storage sub path x).step.outcome.sent n (status_of after) (effect-one (Held sub.state) (seen sub.state) n (seen after) effect) works due))
          (λ o. absurd (cc (sym named ∙ o)))
          (λ a. attended-up (seen sub.state) x (met returns storage sub path x).step.outcome.sent n after.scsw.activity.suspended word path (met returns storage sub path x).step.outcome.taken due)

  -- lost paths
  lost-counted : (o : Option ℕ) (sub : Subchannel) → (n : ℕ) × (n ≤ 1) × IsCounted (seen sub.state) n (seen (loses_at o sub).state)
      × (n ≡ 1 → has_any sub.state.waiting sub.state.begun sub.state.suspended ≡ true)
  lost-counted None sub = (0, omega arith, none-counted (seen sub.state) (seen sub.state) refl refl, λ e. absurd (omega (arith, e)))
  lost-counted (Some p) sub =
      let g = lost-goes (Held sub.state) sub.state (rests_on sub.state.hold p) in
      (g.0, effect-one (Held sub.state) (seen sub.state) g.0 (seen (path_lost sub.state p)) g.1, effect-counted (Held sub.state) (seen sub.state) g.0 (seen (path_lost sub.state p)) g.1, g.2)

  shows-counted : (o : Option ℕ) (up : Bool) (k : Seen) (n : ℕ) (sub : Subchannel) → IsCounted k n (seen sub.state) → IsCounted k n (seen (shows_at o up sub).state)
  shows-counted None up k n sub g = g
  shows-counted (Some p) up k n sub g = record { made = g.made; cleared = g.cleared; stays = g.stays }

  swept-made : (what : Sweep) (r : Reply) (sub : Subchannel) → MayBe known sub.state.pmcw.enabled → Stands (seen sub.state) → Makes sub (sweep_event what) r (swept what sub).state
  swept-made (sweep.GoesDown chpid) r sub may works =
      let g = lost-counted (path_index chpid sub.setup.paths) sub in
      counted-made (event.PathDown chpid) r sub (swept (sweep.GoesDown chpid) sub).state g.0 may
      (shows-counted (path_index chpid (loses chpid sub).setup.paths) false (seen sub.state) g.0 (loses chpid sub) g.2) refl (g.1, λ e. at-work (seen sub.state) works (g.3 e)) (λ o. absurd (cc o)) (λ a. tt)
  swept-made (sweep.ComesUp chpid) r sub may works =
      counted-made (event.PathUp chpid) r sub (swept (sweep.ComesUp chpid) sub).state 0 may
      (shows-counted (path_index chpid sub.setup.paths) true (seen sub.state) 0 sub (none-counted (seen sub.state) (seen sub.state) refl refl)) refl refl (λ o. refl) (λ a. tt)
  swept-made (sweep.PathReset chpid) r sub may works =
      let g = lost-counted (path_index chpid sub.setup.paths) sub in
      counted-made (event.PathReset chpid) r sub (swept (sweep.PathReset chpid) sub).state g.0 may g.2 refl (g.1, λ e. at-work (seen sub.state) works (g.3 e)) (λ o. absurd (cc o)) (λ a. tt)
  swept-made sweep.SystemReset r sub may works = record {
    enabled = sub.state.pmcw.enabled;
    may = may;
    n = 0;
    due = λ about. refl;
    other = λ about. refl;
    made = none-made sub.state.pmcw.enabled (made sub.state);
    cleared = refl;
    attended = λ about. tt;
    stays = λ h e. refl;
  }

  rests-made : (e : Event) (r : Reply) (sub : Subchannel) → is_about sets id e ≡ false → MayBe known sub.state.pmcw.enabled → Makes sub e r sub.state
  rests-made e r sub about may = record {
    enabled = sub.state.pmcw.enabled;
    may = may;
    n = 0;
    due = λ a. absurd (cc (sym about ∙ a));
    other = λ a. refl;
    made = none-made sub.state.pmcw.enabled (made sub.state);
    cleared = if-else (clears_all sets id sub.state.scsw e r) (made sub.state) (cleared sub.state) (not-clears e about);
    attended = λ a. absurd (cc (sym about ∙ a));
    stays = λ h f. refl;
  }
    where
      not-clears : (e : Event) → is_about sets id e ≡ false → clears_all sets id sub.state.scsw e r ≡ false
      not-clears (event.Execute cpu i) a = ap (λ (b : Bool). b && (is_accepted r && clears_by i sub.state.scsw)) a
      not-clears event.SystemReset a = absurd (cc a)
      not-clears e a = refl

  pub turned-made : (e : Event) (r : Reply) (sub : Subchannel) (after : SubchannelState) → MayBe known sub.state.pmcw.enabled → Stands (seen sub.state) → Turned sets id e r sub after → Makes sub e r after
  turned-made _ _ _ _ may works (Executes cpu i sub effect named is) = executed-made cpu i sub effect named is may
  turned-made _ _ _ _ may works (Chooses word sub choice named away) = chosen-made word sub choice (chosen sub choice) named may
  turned-made _ _ _ _ may works (Meets word path returns storage sub x named) = met-made word path returns storage sub x named may works
  turned-made _ _ _ _ may works (Sweeps what r sub) = swept-made what r sub may works
  turned-made _ _ _ _ may works (Rests e r sub about) = rests-made e r sub about may

pub run-made : AreLaws → (setup : Setup) (h : List Entry) (s : State) → Run (opening_of setup) h s → AreMade (set_count setup) h
run-made laws setup h s run id =
    run-between laws setup id (λ before old e r new. IsMade (set_count setup) id (enabled_in (set_count setup) id before) old e r new)
    (λ before old e r index sub after before-run named there turned.
    turned-made (set_count setup) id (enabled_in (set_count setup) id before) e r sub after (run-enabled laws setup id before old before-run index sub named there)
    (run-stands laws setup id before old before-run index sub named there) turned) h s run
