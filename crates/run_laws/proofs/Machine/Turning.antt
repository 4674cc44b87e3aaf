-- What each step leaves of the subchannels, and of what was accepted at each index.
use Rattle.std.proofs.Common.{◌≡◌, ◌≢◌, refl, sym, ◌∙◌, ap, subst, ℕ, ◌+◌, Bool, true, false, Option, None, Some, List, map, slice_get, slice_set, IfOk, if◌then◌else◌, arith}
use Rattle.std.proofs.lemmas.Bool.{eq-eqb, ne_eqb}
use Rattle.chan_events.specs.Events.{Event}
use Rattle.chan_events.specs.declared.event.Event.TheVariants as event
use Rattle.chan_events.specs.Replies.{Reply}
use Rattle.chan_model.specs.declared.answer.ConditionCode.{ConditionCode}
use Rattle.chan_model.specs.declared.answer.ConditionCode.TheVariants as code
use Rattle.chan_model.specs.Signals.{Up}
use Rattle.chan_model.specs.declared.signal.Up.TheVariants as up
use Rattle.chan_model.specs.declared.unit_state.UnitState.{UnitState}
use Rattle.chan_model.specs.ResetCauses.{is_path}
use Rattle.orb_block.specs.declared.Orb.{Orb}
use Rattle.path_select.specs.Choice.{IsChoice}
use Rattle.schib_block.specs.declared.pmcw.Pmcw as block
use Rattle.wires.specs.Queues.{queue}
use Rattle.allegiance.specs.PathUse.{reachable_paths}
use Rattle.subchannel_model.specs.declared.state.Chosen.{Chosen}
use Rattle.subchannel_model.specs.declared.state.Chosen.TheVariants.{Halts, Offers}
use Rattle.subchannel_model.specs.declared.state.PmcwState.{PmcwState}
use Rattle.subchannel_model.specs.declared.state.Subchannel.{Subchannel}
use Rattle.subchannel_model.specs.Cancel.{cancelled}
use Rattle.subchannel_model.specs.Choosing.{chosen, engaged_paths, path_use, paths_to_choose}
use Rattle.subchannel_model.specs.Clear.{cleared}
use Rattle.subchannel_model.specs.Conditions.{found_operational}
use Rattle.subchannel_model.specs.Halt.{halted}
use Rattle.subchannel_model.specs.Modify.{modified_state}
use Rattle.subchannel_model.specs.Resume.{resumed}
use Rattle.subchannel_model.specs.Start.{started}
use Rattle.subchannel_model.specs.Test.{tested_wholly}
use Rattle.machine_model.specs.declared.state.Sweep.{Sweep}
use Rattle.machine_model.specs.InstructionSteps.{function_sub, test_with}
use Rattle.machine_model.specs.PathSteps.{swept}
use Rattle.machine_model.specs.State.{State, index_of}
use Rattle.machine_model.specs.Results.{with_state}
use Rattle.machine_model.specs.UpSteps.{may_return, returns_at, returns_by}
use Rattle.step_laws.specs.Walks as walked
use Rattle.step_laws.specs.Walks.{Walked, IsQuiet, OneSub, OneUnit, Suits, Function, Resumes, Halts, Clears, Cancels, effect_of, up_after}
use Rattle.run_laws.specs.Returns.{accepted_by, accepted_after}
use Rattle.run_laws.proofs.Machine.PathSets.{without-parts}
use Rattle.run_laws.proofs.Machine.Offering.{IsOffer, chosen-offer, offer-usable}
use Rattle.run_laws.proofs.Machine.SameState.{is-same, tested-same, halted-same}
use Rattle.run_laws.proofs.Machine.CalmPaths.{reset-hold}
use Rattle.run_laws.proofs.Machine.Moving.{IsMoved, Same, moved-as, state-moved, same-moved, unmoved, IsOpen, OkChoose, marked-choose, usable-free, return-parts}
use Rattle.run_laws.proofs.Machine.Passing.{IsUpMoved, IsUnitMoved, up-moved, down-moved, report-moved, act-moved}

-- a step leaves all subchannels, or all but one, or sweeps over them; and at each other index nothing was accepted or offered
pub data Turned (s : State) : Event → Reply → State → Type 0 where
  OfNone : (e : Event) (r : Reply) (new : State) → ((index : ℕ) (accepted : Option ℕ) → accepted_after index s e r accepted ≡ accepted) → new.subs ≡ s.subs →
      new.up ≡ s.up → Turned s e r new
  OfOne : (e : Event) (r : Reply) (new : State) (index : ℕ) (sub after : Subchannel) → slice_get s.subs index ≡ Some sub → new.subs ≡ slice_set s.subs index after →
      new.up ≡ s.up → IsMoved s.subs (λ accepted. accepted_after index s e r accepted) sub after →
      ((other : ℕ) (accepted : Option ℕ) → other ≢ index → accepted_after other s e r accepted ≡ accepted) → Turned s e r new
  OfAll : (e : Event) (r : Reply) (new : State) (what : Sweep) → ((index : ℕ) (accepted : Option ℕ) → accepted_after index s e r accepted ≡ accepted) →
      new.subs ≡ map (swept what) s.subs → new.up ≡ up_after what s.up → Turned s e r new

-- the instructions
start-moved : (subs : List Subchannel) (sub : Subchannel) (orb : Orb) (c : ConditionCode) → IsMoved subs Same sub (function_sub sub c (started sub.state orb)).sub
start-moved subs sub orb code.Zero = same-moved subs sub (started sub.state orb) (is-same sub.state (started sub.state orb) refl refl refl)
start-moved subs sub orb c = unmoved subs sub

test-moved : (subs : List Subchannel) (sub : Subchannel) (c : ConditionCode) → IsMoved subs Same sub (test_with sub c).sub
test-moved subs sub code.Zero = same-moved subs sub (tested_wholly sub.state) (tested-same sub.state)
test-moved subs sub c = unmoved subs sub

modify-moved : (subs : List Subchannel) (sub : Subchannel) (given : block.Pmcw) (c : ConditionCode) → IsMoved subs Same sub (function_sub sub c (modified_state sub given)).sub
modify-moved subs sub given code.Zero = same-moved subs sub (modified_state sub given) (is-same sub.state (modified_state sub given) refl refl refl)
modify-moved subs sub given c = unmoved subs sub

resumed-available : (pmcw : PmcwState) (b : Bool) → (if b then found_operational pmcw else pmcw).available ≡ pmcw.available
resumed-available pmcw true = refl
resumed-available pmcw false = refl

effect-moved : (subs : List Subchannel) (sub : Subchannel) (f : Function) → IsMoved subs Same sub (with_state sub (effect_of f sub.state))
effect-moved subs sub Resumes = same-moved subs sub (resumed sub.state) (is-same sub.state (resumed sub.state) refl refl (resumed-available sub.state.pmcw sub.state.scsw.activity.suspended))
effect-moved subs sub Halts = same-moved subs sub (halted sub.state) (halted-same sub.state)
effect-moved subs sub Clears = state-moved subs sub (cleared sub.state) (omega arith) refl (reset-hold sub.state.hold (sub.state.drawn + 1) sub.state.hold.known_restarts)
effect-moved subs sub Cancels = same-moved subs sub (cancelled sub.state) (is-same sub.state (cancelled sub.state) refl refl refl)

function-moved : (subs : List Subchannel) (sub : Subchannel) (f : Function) (c : ConditionCode) → IsMoved subs Same sub (function_sub sub c (effect_of f sub.state)).sub
function-moved subs sub f code.Zero = effect-moved subs sub f
function-moved subs sub f c = unmoved subs sub

-- a quiet event tells nothing of what was accepted
quiet-silent : (s : State) (e : Event) (r : Reply) → IsQuiet e r → (index : ℕ) (accepted : Option ℕ) → accepted_after index s e r accepted ≡ accepted
quiet-silent s (event.Choose word) r q index accepted = absurd q
quiet-silent s (event.Up word path) r q index accepted = absurd q
quiet-silent s e r q index accepted = refl

-- what is offered goes out on a free path
offer-open : (subs : List Subchannel) (sub : Subchannel) (choice : Option ℕ) (c : Chosen) → IsChoice (paths_to_choose subs sub) choice → Suits c sub.state →
    IsOffer choice c → IsOpen subs sub c
offer-open subs sub choice (Offers c path) x f o =
    let parts = without-parts (reachable_paths (path_use sub)) (engaged_paths subs sub) path (offer-usable subs sub choice path x f.fits o) in
    usable-free subs sub path parts.0 parts.1
offer-open subs sub choice other x f o = tt

-- a program comes back only by a path that may be returned by
right-by : (subs : List Subchannel) (sub : Subchannel) (path : ℕ) (front : Option Up) → returns_by subs sub path front ≡ true → may_return subs sub path ≡ true
right-by subs sub path None e = absurd (cc e)
right-by subs sub path (Some (up.Accept t)) e = absurd (cc e)
right-by subs sub path (Some (up.Busy t)) e = absurd (cc e)
right-by subs sub path (Some (up.Leave t c)) e = absurd (cc e)
right-by subs sub path (Some (up.Back t c)) e = e
right-by subs sub path (Some (up.Data load t c n s)) e = absurd (cc e)
right-by subs sub path (Some (up.End t n status more)) e = absurd (cc e)
right-by subs sub path (Some (up.Released t)) e = absurd (cc e)
right-by subs sub path (Some (up.Cleared r)) e = absurd (cc e)
right-by subs sub path (Some (up.Notice b)) e = absurd (cc e)
right-by subs sub path (Some (up.Attn a status)) e = absurd (cc e)

pub returns-right : (subs : List Subchannel) (sub : Subchannel) (path : ℕ) (returns : Bool) → returns ≡ returns_at subs sub path → returns ≡ true →
    may_return subs sub path ≡ true
returns-right subs sub path returns e h = right-by subs sub path (slice_get (queue sub.wires.up path) 0) (sym e ∙ h)

-- the index that a word names, and the others
at-index : (o : Option ℕ) (index : ℕ) (now other : Option ℕ) → o ≡ Some index → (if is_path o index then now else other) ≡ now
at-index None index now other e = absurd (cc e)
at-index (Some k) index now other e = let same : k ≡ index = cc e in ap (λ (b : Bool). if b then now else other) (eq-eqb k index same)

off-index : (o : Option ℕ) (index k : ℕ) (now other : Option ℕ) → o ≡ Some index → k ≢ index → (if is_path o k then now else other) ≡ other
off-index None index k now other e n = refl
off-index (Some j) index k now other e n =
    let same : j ≡ index = cc e in ap (λ (b : Bool). if b then now else other) (ne_eqb j k (λ h. n (sym h ∙ same)))

of-sub : (s : State) (e : Event) (r : Reply) (new : State) (index : ℕ) (sub after : Subchannel) → OneSub s new index sub after →
    ((k : ℕ) (accepted : Option ℕ) → accepted_after k s e r accepted ≡ accepted) → IsMoved s.subs Same sub after → Turned s e r new
of-sub s e r new index sub after one silent m =
    OfOne e r new index sub after one.there one.subs one.up (moved-as s.subs Same (λ accepted. accepted_after index s e r accepted) sub after (silent index) m)
    (λ other accepted n. silent other accepted)

of-unit : (s : State) (e : Event) (r : Reply) (new : State) (index : ℕ) (sub after : Subchannel) (at : ℕ) (u v : UnitState) → OneUnit s new index sub after at u v →
    ((k : ℕ) (accepted : Option ℕ) → accepted_after k s e r accepted ≡ accepted) → IsMoved s.subs Same sub after → Turned s e r new
of-unit s e r new index sub after at u v one silent m =
    OfOne e r new index sub after one.there one.subs one.up (moved-as s.subs Same (λ accepted. accepted_after index s e r accepted) sub after (silent index) m)
    (λ other accepted n. silent other accepted)

pub step-turned : (s : State) (e : Event) (r : Reply) (new : State) → Walked s e r new → Turned s e r new
step-turned s _ _ _ (walked.Stays e r new q sets subs units up) = OfNone e r new (quiet-silent s e r q) subs up
step-turned s _ _ _ (walked.Started cpu word address index sub orb c new n one) =
    of-sub s _ _ new index sub _ one (λ k accepted. refl) (start-moved s.subs sub orb c)
step-turned s _ _ _ (walked.Tested e r index sub c new q one address by answers) = of-sub s e r new index sub _ one (quiet-silent s e r q) (test-moved s.subs sub c)
step-turned s _ _ _ (walked.Modified e r index sub given c new q one) = of-sub s e r new index sub _ one (quiet-silent s e r q) (modify-moved s.subs sub given c)
step-turned s _ _ _ (walked.Performed e r index sub f c new q one by answers) = of-sub s e r new index sub _ one (quiet-silent s e r q) (function-moved s.subs sub f c)
step-turned s _ _ _ (walked.Chosen word index sub choice t new n x w h one) =
    OfOne (event.Choose word) t.reply new index sub t.sub one.there one.subs one.up
    (moved-as s.subs (λ accepted. accepted_by t.reply 0 accepted) _ sub t.sub
    (λ accepted. at-index (index_of s word) index (accepted_by t.reply 0 accepted) accepted n)
    (subst (OkChoose s.subs sub) h
    (marked-choose s.subs sub choice (chosen sub choice) (offer-open s.subs sub choice (chosen sub choice) x w (chosen-offer sub choice)))))
    (λ other accepted off. off-index (index_of s word) index other (accepted_by t.reply 0 accepted) accepted n off)
step-turned s _ _ _ (walked.Met word path returns index sub t new n h one may) =
    OfOne (event.Up word path) t.reply new index sub t.sub one.there one.subs one.up
    (moved-as s.subs (λ accepted. accepted_by t.reply path accepted) _ sub t.sub
    (λ accepted. at-index (index_of s word) index (accepted_by t.reply path accepted) accepted n)
    (subst (λ o. IfOk o (IsUpMoved s.subs sub path)) h
    (up-moved s.subs returns s.storage sub path (λ e. (return-parts s.subs sub path (returns-right s.subs sub path returns may e)).0))))
    (λ other accepted off. off-index (index_of s word) index other (accepted_by t.reply path accepted) accepted n off)
step-turned s _ _ _ (walked.Sunk word path may owed index sub u t new n h one) =
    of-unit s _ _ new index sub t.sub _ u _ one (λ k accepted. refl) (subst (λ o. IfOk o (IsUnitMoved s.subs sub)) h (down-moved s.subs may sub path u))
step-turned s _ _ _ (walked.Reported at index sub u report t new n k h one) =
    of-unit s _ _ new index sub t.sub at u _ one (λ k accepted. refl) (subst (λ o. IfOk o (IsUnitMoved s.subs sub)) h (report-moved s.subs sub u report))
step-turned s _ _ _ (walked.Acted at index sub u what t new side its h one) =
    of-unit s _ _ new index sub t.sub at u _ one (λ k accepted. refl) (subst (λ o. IfOk o (IsUnitMoved s.subs sub)) h (act-moved s.subs sub u what))
step-turned s _ _ _ (walked.Restarted at owed u r new found sets subs units up) = OfNone _ r new (λ index accepted. refl) subs up
step-turned s _ _ _ (walked.Swept e r what new q sets subs units by) = OfAll e r new what (quiet-silent s e r q) subs by.up
