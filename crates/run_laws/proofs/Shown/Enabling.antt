-- What is known of whether a subchannel is enabled is so, and the codes are those of the tables.
use Rattle.std.proofs.Common.{◌≡◌, refl, sym, ◌∙◌, ap, subst, ℕ, ◌&&◌, Bool, true, false, Option, None, Some, List}
use Rattle.std.specs.Prelude.{if◌then◌else◌, slice_get}
use Rattle.scsw_irb.specs.declared.serials.Serials.{Serials}
use Rattle.chan_events.specs.Events.{Event}
use Rattle.chan_events.specs.declared.event.Event.TheVariants as event
use Rattle.chan_events.specs.declared.event.Instruction.{Instruction}
use Rattle.chan_events.specs.declared.event.Instruction.TheVariants as instruction
use Rattle.chan_events.specs.declared.reply.Entry.{Entry}
use Rattle.chan_events.specs.Replies.{Reply}
use Rattle.chan_model.specs.declared.answer.ConditionCode.{ConditionCode}
use Rattle.chan_model.specs.declared.answer.ConditionCode.TheVariants as code
use Rattle.chan_model.specs.ConditionCodes.{answer_of_code, code_of, in_order}
use Rattle.channel_config.specs.declared.names.SubchannelId.{SubchannelId}
use Rattle.channel_config.specs.Setup.{Setup, set_count}
use Rattle.chan_model.specs.ResetCauses.{rests_on}
use Rattle.chan_model.specs.UnitReports.{is_last_end}
use Rattle.chan_model.specs.Signals.{Up}
use Rattle.storage_keys.specs.Storage.{Contents}
use Rattle.run_laws.specs.CodeSteps.{answer_in}
use Rattle.machine_model.specs.declared.state.Sweep.{Sweep}
use Rattle.machine_model.specs.declared.state.Sweep.TheVariants as sweep
use Rattle.chan_events.specs.Instructions.{subchannel_word}
use Rattle.machine_model.specs.PathSteps.{swept}
use Rattle.machine_model.specs.State.{State, opening_of}
use Rattle.machine_model.specs.Steps.{Run}
use Rattle.step_laws.specs.Walks.{sweep_event}
use Rattle.subchannel_model.specs.declared.cause.StatusCause.{StatusCause}
use Rattle.subchannel_model.specs.declared.cause.StatusCause.TheVariants as cause
use Rattle.subchannel_model.specs.declared.state.ActiveProgram.{ActiveProgram}
use Rattle.subchannel_model.specs.declared.state.Chosen.{Chosen}
use Rattle.subchannel_model.specs.declared.state.Chosen.TheVariants.{FindsNoPath}
use Rattle.subchannel_model.specs.declared.state.Program.{Program}
use Rattle.subchannel_model.specs.declared.state.Subchannel.{Subchannel}
use Rattle.subchannel_model.specs.declared.state.SubchannelState.{SubchannelState}
use Rattle.subchannel_model.specs.Causes.{without_begun, without_waiting, programs_after_end, with_cause}
use Rattle.subchannel_model.specs.Choosing.{chosen, marked_sub}
use Rattle.subchannel_model.specs.Conditions.{left_by}
use Rattle.subchannel_model.specs.Halt.{drops_status, status_dropped, halt_begun}
use Rattle.subchannel_model.specs.Losing.{path_lost, path_index, loses_at, loses, shows_at}
use Rattle.subchannel_model.specs.Programs.{without_programs}
use Rattle.subchannel_model.specs.Test.{tested, ends_suspended}
use Rattle.run_laws.proofs.Shown.CodeTable.{code-is}
use Rattle.run_laws.specs.Codes.{told_by, enabled_by, enabled_with, code_in, enabled_after, enabled_in, MayBe, IsCodeRight, AreCodesRight}
use Rattle.run_laws.proofs.Machine.Appending.{through-more}
use Rattle.run_laws.specs.Shown.{names, is_about}
use Rattle.run_laws.proofs.Shown.Effects.{Seen, seen, of_seen, Effect, Causes}
use Rattle.step_laws.proofs.Executed.{IsEffect, reply_of, code_for, state_left}
use Rattle.run_laws.proofs.Shown.Holding.{Held}
use Rattle.run_laws.proofs.Shown.Runs.{AreLaws, status_of, run-between, run-keeps}
use Rattle.run_laws.proofs.Shown.Signals.{Comes, Ignored, Taken, lost-goes, takes-comes}
use Rattle.run_laws.proofs.Shown.Turned.{Turned, Executes, Chooses, Meets, Sweeps, Rests, met, state_chosen}

-- no status enables or disables
end-enabled : (s : SubchannelState) (b : ActiveProgram) (last : Bool) → (programs_after_end s b last).pmcw.enabled ≡ s.pmcw.enabled
end-enabled s b true = refl
end-enabled s b false = refl

begun-enabled : (s : SubchannelState) (b : Option ActiveProgram) → (without_begun b s).pmcw.enabled ≡ s.pmcw.enabled
begun-enabled s None = refl
begun-enabled s (Some b) = refl

waiting-enabled : (s : SubchannelState) (w : Option Program) → (without_waiting w s).pmcw.enabled ≡ s.pmcw.enabled
waiting-enabled s None = refl
waiting-enabled s (Some w) = refl

pub cause-enabled : (s : SubchannelState) (c : StatusCause) → (with_cause s c).pmcw.enabled ≡ s.pmcw.enabled
cause-enabled s (cause.End b status more) = end-enabled s b (is_last_end status)
cause-enabled s (cause.FetchFault tried check count) = begun-enabled s s.begun
cause-enabled s cause.NoPath = waiting-enabled s s.waiting
cause-enabled s other = refl

pub effect-enabled : (H : Type 0) (k : Seen) (n : ℕ) (y : Seen) → Effect H k n y → y.enabled ≡ k.enabled
effect-enabled H k _ _ (Causes c timely) = cause-enabled (of_seen k) c
effect-enabled H k _ _ other = refl

pub met-enabled : (returns : Bool) (storage : Contents) (sub : Subchannel) (path : ℕ) (x : Up) → (met returns storage sub path x).step.state.pmcw.enabled ≡ sub.state.pmcw.enabled
met-enabled returns storage sub path x = by (takes-comes returns storage sub.state path x)
  where
    by : Comes (Held sub.state) (seen sub.state) x (met returns storage sub path x).step → (met returns storage sub path x).step.state.pmcw.enabled ≡ sub.state.pmcw.enabled
    by (Ignored e same) = ap (λ (k : Seen). k.enabled) same
    by (Taken n e effect due) = effect-enabled (Held sub.state) (seen sub.state) n (seen (met returns storage sub path x).step.state) effect

chosen-enabled : (s : SubchannelState) (c : Chosen) → (state_chosen s c).pmcw.enabled ≡ s.pmcw.enabled
chosen-enabled s FindsNoPath = cause-enabled s cause.NoPath
chosen-enabled s other = refl

lost-enabled : (s : SubchannelState) (p : ℕ) → (path_lost s p).pmcw.enabled ≡ s.pmcw.enabled
lost-enabled s p =
    let g = lost-goes (Held s) s (rests_on s.hold p) in effect-enabled (Held s) (seen s) g.0 (seen (path_lost s p)) g.1

loses-enabled : (o : Option ℕ) (sub : Subchannel) → (loses_at o sub).state.pmcw.enabled ≡ sub.state.pmcw.enabled
loses-enabled None sub = refl
loses-enabled (Some p) sub = lost-enabled sub.state p

shows-enabled : (o : Option ℕ) (up : Bool) (sub : Subchannel) → (shows_at o up sub).state.pmcw.enabled ≡ sub.state.pmcw.enabled
shows-enabled None up sub = refl
shows-enabled (Some p) up sub = refl

-- the code in a reply
code-told : (c : ConditionCode) (x : Serials) → code_of (answer_of_code c x) ≡ c
code-told code.Zero x = refl
code-told c x = refl

test-answers : (word address : ℕ) (c : ConditionCode) (before after : SubchannelState) → answer_in (reply_of (instruction.Tsch word address) c before after) ≡ Some (answer_of_code c after.serials)
test-answers word address code.Zero before after = refl
test-answers word address c before after = refl

pub left-answers : (i : Instruction) (sub : Subchannel) (effect : SubchannelState) → IsEffect i sub effect →
    answer_in (reply_of i (code_for i sub) sub.state (state_left i sub effect)) ≡ Some (answer_of_code (code_for i sub) (state_left i sub effect).serials)
left-answers (instruction.Tsch word address) sub effect is =
    test-answers word address (code_for (instruction.Tsch word address) sub) sub.state (state_left (instruction.Tsch word address) sub effect)
left-answers (instruction.Stsch word address) sub effect is = ap (λ (x : SubchannelState). Some (answer_of_code code.Zero x.serials)) (sym is)
left-answers i sub effect is = refl

pub reply-code : (i : Instruction) (sub : Subchannel) (effect : SubchannelState) → IsEffect i sub effect →
    code_in (reply_of i (code_for i sub) sub.state (state_left i sub effect)) ≡ Some (code_for i sub)
reply-code i sub effect is =
    ap (λ (a : Option _). Rattle.std.specs.Prelude.option_map code_of a) (left-answers i sub effect is)
    ∙ ap (λ (c : ConditionCode). Some c) (code-told (code_for i sub) (state_left i sub effect).serials)

-- instructions
order-told : (enabled one two : Bool) → MayBe (told_by (in_order (true && enabled) one two)) enabled
order-told false one two = refl
order-told true true two = refl
order-told true false true = refl
order-told true false false = refl

left-enabled : (c : ConditionCode) (s effect : SubchannelState) → effect.pmcw.enabled ≡ s.pmcw.enabled → (left_by c s effect).pmcw.enabled ≡ s.pmcw.enabled
left-enabled code.Zero s effect e = e
left-enabled c s effect e = refl

if-enabled : (b : Bool) (x y : SubchannelState) (enabled : Bool) → x.pmcw.enabled ≡ enabled → y.pmcw.enabled ≡ enabled → (if b then x else y).pmcw.enabled ≡ enabled
if-enabled true x y enabled e f = e
if-enabled false x y enabled e f = f

resumed-enabled : (s : SubchannelState) (b : Bool) → (if b then Rattle.subchannel_model.specs.Conditions.found_operational s.pmcw else s.pmcw).enabled ≡ s.pmcw.enabled
resumed-enabled s true = refl
resumed-enabled s false = refl

modify-enabled : (word address : ℕ) (c : ConditionCode) (s effect : SubchannelState) (known : Option Bool) → MayBe known s.pmcw.enabled →
    MayBe (enabled_by (instruction.Msch word address) c known) (left_by c s effect).pmcw.enabled
modify-enabled word address code.Zero s effect known k = tt
modify-enabled word address c s effect known k = k

enable-enabled : (word subclass : ℕ) (multipath : Bool) (c : ConditionCode) (s effect : SubchannelState) (known : Option Bool) → effect.pmcw.enabled ≡ true → MayBe known s.pmcw.enabled →
    MayBe (enabled_by (instruction.Enable word subclass multipath) c known) (left_by c s effect).pmcw.enabled
enable-enabled word subclass multipath code.Zero s effect known e k = e
enable-enabled word subclass multipath c s effect known e k = k

told-left : (c : ConditionCode) (s effect : SubchannelState) → effect.pmcw.enabled ≡ s.pmcw.enabled → MayBe (told_by c) s.pmcw.enabled → MayBe (told_by c) (left_by c s effect).pmcw.enabled
told-left c s effect e k = subst (λ (b : Bool). MayBe (told_by c) b) (sym (left-enabled c s effect e)) k

executed-enabled : (i : Instruction) (sub : Subchannel) (effect : SubchannelState) (known : Option Bool) → IsEffect i sub effect → MayBe known sub.state.pmcw.enabled →
    MayBe (enabled_by i (code_for i sub) known) (state_left i sub effect).pmcw.enabled
executed-enabled (instruction.Ssch word address) sub effect known is k =
    told-left _ sub.state effect (ap (λ (x : SubchannelState). x.pmcw.enabled) is.1) (order-told sub.state.pmcw.enabled _ _)
executed-enabled (instruction.Tsch word address) sub effect known is k =
    told-left _ sub.state effect
    (ap (λ (x : SubchannelState). x.pmcw.enabled) is ∙ if-enabled (ends_suspended sub.state.scsw) (without_programs (tested sub.state)) (tested sub.state) _ refl refl)
    (order-told sub.state.pmcw.enabled _ false)
executed-enabled (instruction.Stsch word address) sub effect known is k = subst (λ (x : SubchannelState). MayBe known x.pmcw.enabled) (sym is) k
executed-enabled (instruction.Msch word address) sub effect known is k =
    modify-enabled word address (code_for (instruction.Msch word address) sub) sub.state effect known k
executed-enabled (instruction.Enable word subclass multipath) sub effect known is k =
    enable-enabled word subclass multipath (code_for (instruction.Enable word subclass multipath) sub) sub.state effect known (ap (λ (x : SubchannelState). x.pmcw.enabled) is) k
executed-enabled (instruction.Rsch word) sub effect known is k =
    told-left _ sub.state effect (ap (λ (x : SubchannelState). x.pmcw.enabled) is ∙ resumed-enabled sub.state sub.state.scsw.activity.suspended) (order-told sub.state.pmcw.enabled _ _)
executed-enabled (instruction.Hsch word) sub effect known is k =
    told-left _ sub.state effect
    (ap (λ (x : SubchannelState). x.pmcw.enabled) is ∙ if-enabled (drops_status sub.state.scsw) (status_dropped (halt_begun sub.state)) (halt_begun sub.state) _ refl refl)
    (order-told sub.state.pmcw.enabled _ _)
executed-enabled (instruction.Csch word) sub effect known is k =
    told-left _ sub.state effect (ap (λ (x : SubchannelState). x.pmcw.enabled) is) (order-told sub.state.pmcw.enabled false false)
executed-enabled (instruction.Xsch word) sub effect known is k =
    told-left _ sub.state effect (ap (λ (x : SubchannelState). x.pmcw.enabled) is) (order-told sub.state.pmcw.enabled _ _)

if-known : (b : Bool) (x y : Option Bool) (enabled : Bool) → b ≡ true → MayBe x enabled → MayBe (if b then x else y) enabled
if-known true x y enabled e k = k
if-known false x y enabled e k = absurd (cc e)

else-known : (b : Bool) (x y : Option Bool) (enabled : Bool) → b ≡ false → MayBe y enabled → MayBe (if b then x else y) enabled
else-known true x y enabled e k = absurd (cc e)
else-known false x y enabled e k = k

-- what an event that is not about it tells
rests-enabled : (sets : ℕ) (id : SubchannelId) (e : Event) (r : Reply) (known : Option Bool) (enabled : Bool) → is_about sets id e ≡ false → MayBe known enabled →
    MayBe (enabled_after sets id e r known) enabled
rests-enabled sets id (event.Execute cpu i) r known enabled about k = else-known (names sets id (subchannel_word i)) (enabled_with i (code_in r) known) known enabled about k
rests-enabled sets id event.SystemReset r known enabled about k = absurd (cc about)
rests-enabled sets id e r known enabled about k = k

swept-enabled : (sets : ℕ) (id : SubchannelId) (what : Sweep) (r : Reply) (sub : Subchannel) (known : Option Bool) → MayBe known sub.state.pmcw.enabled →
    MayBe (enabled_after sets id (sweep_event what) r known) (swept what sub).state.pmcw.enabled
swept-enabled sets id (sweep.GoesDown chpid) r sub known k =
    subst (λ (b : Bool). MayBe known b)
    (sym (shows-enabled (path_index chpid (loses chpid sub).setup.paths) false (loses chpid sub) ∙ loses-enabled (path_index chpid sub.setup.paths) sub)) k
swept-enabled sets id (sweep.ComesUp chpid) r sub known k =
    subst (λ (b : Bool). MayBe known b) (sym (shows-enabled (path_index chpid sub.setup.paths) true sub)) k
swept-enabled sets id (sweep.PathReset chpid) r sub known k = subst (λ (b : Bool). MayBe known b) (sym (loses-enabled (path_index chpid sub.setup.paths) sub)) k
swept-enabled sets id sweep.SystemReset r sub known k = refl

turned-enabled : (sets : ℕ) (id : SubchannelId) (e : Event) (r : Reply) (sub : Subchannel) (after : SubchannelState) (known : Option Bool) → Turned sets id e r sub after →
    MayBe known sub.state.pmcw.enabled → MayBe (enabled_after sets id e r known) after.pmcw.enabled
turned-enabled sets id _ _ _ _ known (Executes cpu i sub effect named is) k =
    if-known (names sets id (subchannel_word i)) (enabled_with i (code_in (reply_of i (code_for i sub) sub.state (state_left i sub effect))) known) known
    (state_left i sub effect).pmcw.enabled named
    (subst (λ (c : Option ConditionCode). MayBe (enabled_with i c known) (state_left i sub effect).pmcw.enabled) (sym (reply-code i sub effect is))
    (executed-enabled i sub effect known is k))
turned-enabled sets id _ _ _ _ known (Chooses word sub choice named away) k =
    subst (λ (b : Bool). MayBe known b) (sym (chosen-enabled (marked_sub sub choice).state (chosen sub choice))) k
turned-enabled sets id _ _ _ _ known (Meets word path returns storage sub x named) k =
    subst (λ (b : Bool). MayBe known b) (sym (met-enabled returns storage sub path x)) k
turned-enabled sets id _ _ _ _ known (Sweeps what r sub) k = swept-enabled sets id what r sub known k
turned-enabled sets id _ _ _ _ known (Rests e r sub about) k = rests-enabled sets id e r known sub.state.pmcw.enabled about k

-- along a run
pub run-enabled : AreLaws → (setup : Setup) (id : SubchannelId) (h : List Entry) (s : State) → Run (opening_of setup) h s → (index : ℕ) (sub : Subchannel) →
    Rattle.subchannel_model.specs.Indices.index_in id s.subs ≡ Some index → slice_get s.subs index ≡ Some sub → MayBe (enabled_in (set_count setup) id h) sub.state.pmcw.enabled
run-enabled laws setup id =
    run-keeps laws setup id (λ h s. MayBe (enabled_in (set_count setup) id h) s.pmcw.enabled) refl
    (λ h e r sub after k turned.
    subst (λ (known : Option Bool). MayBe known after.pmcw.enabled) (sym (through-more (enabled_after (set_count setup) id) (Some false) h e r))
    (turned-enabled (set_count setup) id e r sub after (enabled_in (set_count setup) id h) turned k))

-- the code of an instruction
turned-code : (sets : ℕ) (id : SubchannelId) (e : Event) (r : Reply) (sub : Subchannel) (after : SubchannelState) (known : Option Bool) → Turned sets id e r sub after →
    MayBe known sub.state.pmcw.enabled → IsCodeRight sets id known (status_of sub.state) e r (status_of after)
turned-code sets id _ _ _ _ known (Executes cpu i sub effect named is) k =
    λ mine. (sub.state.pmcw.enabled, k, left-answers i sub effect is ∙ ap (λ (c : ConditionCode). Some (answer_of_code c (state_left i sub effect).serials)) (code-is i sub.state))
turned-code sets id _ _ _ _ known (Chooses word sub choice named away) k = tt
turned-code sets id _ _ _ _ known (Meets word path returns storage sub x named) k = tt
turned-code sets id _ _ _ _ known (Sweeps (sweep.GoesDown chpid) r sub) k = tt
turned-code sets id _ _ _ _ known (Sweeps (sweep.ComesUp chpid) r sub) k = tt
turned-code sets id _ _ _ _ known (Sweeps (sweep.PathReset chpid) r sub) k = tt
turned-code sets id _ _ _ _ known (Sweeps sweep.SystemReset r sub) k = tt
turned-code sets id _ _ _ _ known (Rests e r sub about) k = rests-code e about
  where
    rests-code : (e : Event) → is_about sets id e ≡ false → IsCodeRight sets id known (status_of sub.state) e r (status_of sub.state)
    rests-code (event.Put address bytes) a = tt
    rests-code (event.SetKey address key) a = tt
    rests-code (event.SetPrefix cpu address) a = tt
    rests-code (event.Show address count) a = tt
    rests-code (event.Execute cpu i) a = λ mine. absurd (cc (sym mine ∙ a))
    rests-code (event.ExecuteOther cpu i) a = tt
    rests-code (event.Choose word) a = tt
    rests-code (event.Up word path) a = tt
    rests-code (event.Down word path) a = tt
    rests-code (event.Report at report) a = tt
    rests-code (event.Act at what) a = tt
    rests-code (event.Restart at) a = tt
    rests-code (event.PathDown chpid) a = tt
    rests-code (event.PathUp chpid) a = tt
    rests-code (event.PathReset chpid) a = tt
    rests-code event.SystemReset a = tt

pub run-codes : AreLaws → (setup : Setup) (h : List Entry) (s : State) → Run (opening_of setup) h s → AreCodesRight (set_count setup) h
run-codes laws setup h s run id =
    run-between laws setup id (λ before old e r new. IsCodeRight (set_count setup) id (enabled_in (set_count setup) id before) old e r new)
    (λ before old e r index sub after before-run named there turned.
    turned-code (set_count setup) id e r sub after (enabled_in (set_count setup) id before) turned (run-enabled laws setup id before old before-run index sub named there)) h s run
