-- After each run the hold of each subchannel remembers the path of what was accepted there, and a program comes back by it in
-- single-path mode.
use Rattle.std.proofs.Common.{◌≡◌, sym, ◌∙◌, ap, subst, ℕ, Bool, true, Option, None, Some, Ok, List, map, slice_get, IfOk, if◌then◌else◌, inl, inr}
use Rattle.std.proofs.lemmas.Bool.{eqb-true}
use Rattle.allegiance.specs.Allegiances.{may_reconnect}
use Rattle.chan_model.specs.PathSets.{is_member}
use Rattle.chan_events.specs.Events.{Event}
use Rattle.chan_events.specs.declared.event.Event.TheVariants as event
use Rattle.chan_events.specs.declared.reply.Entry.{Entry}
use Rattle.chan_events.specs.Replies.{Reply}
use Rattle.chan_model.specs.declared.hold_state.HoldPhase.{HoldPhase}
use Rattle.chan_model.specs.declared.hold_state.HoldPhase.TheVariants as hold
use Rattle.chan_model.specs.ResetCauses.{is_path, is_held}
use Rattle.channel_config.specs.declared.parts.SubchannelSetup.{SubchannelSetup}
use Rattle.channel_config.specs.Setup.{Setup}
use Rattle.subchannel_model.specs.declared.state.Subchannel.{Subchannel}
use Rattle.subchannel_model.specs.Opening.{opened}
use Rattle.subchannel_model.specs.Store.{available_paths}
use Rattle.machine_model.specs.State.{State, opening_of}
use Rattle.machine_model.specs.Steps.{Step, Run, Opened, Stepped}
use Rattle.machine_model.specs.Results.{UpResult}
use Rattle.machine_model.specs.UpSteps.{up_sub, returns_at}
use Rattle.step_laws.specs.Walks as walked
use Rattle.step_laws.specs.Walks.{AreWalks, Walked, IsQuiet}
use Rattle.step_laws.proofs.Indices.{set-get, map-get}
use Rattle.run_laws.specs.Returns.{accepted_after, accepted_path, granted_path, ReturnsByFirst}
use Rattle.run_laws.proofs.Machine.WaitingSignals.{none-wait}
use Rattle.run_laws.proofs.Machine.Told.{Remembers, IsTiedDown, IsTiedUp, IsTold}
use Rattle.run_laws.proofs.Machine.Moving.{return-parts}
use Rattle.run_laws.proofs.Machine.Passing.{IsGranted, up-granted}
use Rattle.run_laws.proofs.Machine.SweptPaths.{is-swept}
use Rattle.run_laws.proofs.Machine.Turning.{Turned, OfNone, OfOne, OfAll, step-turned, returns-right}

-- what is told of the subchannel of each index
abbrev AreTold : (ℕ → Option ℕ) → List Subchannel → Type 0
AreTold accepted subs = (index : ℕ) (sub : Subchannel) → slice_get subs index ≡ Some sub → IsTold (accepted index) sub

told-as : (old new : ℕ → Option ℕ) (subs : List Subchannel) → ((index : ℕ) → new index ≡ old index) → AreTold old subs → AreTold new subs
told-as old new subs e k = λ index sub at. subst (λ (o : Option ℕ). IsTold o sub) (sym (e index)) (k index sub at)

turned-told : (s : State) (e : Event) (r : Reply) (new : State) (accepted : ℕ → Option ℕ) → Turned s e r new → AreTold accepted s.subs →
    AreTold (λ index. accepted_after index s e r (accepted index)) new.subs
turned-told s _ _ _ accepted (OfNone e r new silent subs up) k =
    subst (λ (xs : List Subchannel). AreTold (λ index. accepted_after index s e r (accepted index)) xs) (sym subs)
    (told-as accepted (λ index. accepted_after index s e r (accepted index)) s.subs (λ index. silent index (accepted index)) k)
turned-told s _ _ _ accepted (OfOne e r new index sub after there subs up m silent) k =
    subst (λ (xs : List Subchannel). AreTold (λ at. accepted_after at s e r (accepted at)) xs) (sym subs)
    (λ at x h. elim (set-get s.subs index after at x h) [
      | inl q ↦
          subst (λ (n : ℕ). IsTold (accepted_after n s e r (accepted n)) x) (sym q.0)
          (subst (λ (y : Subchannel). IsTold (accepted_after index s e r (accepted index)) y) (sym q.1) (m.told (accepted index) (k index sub there)))
      | inr q ↦ subst (λ (o : Option ℕ). IsTold o x) (sym (silent at (accepted at) q.0)) (k at x q.1)
    ])
turned-told s _ _ _ accepted (OfAll e r new what silent subs up) k =
    subst (λ (xs : List Subchannel). AreTold (λ at. accepted_after at s e r (accepted at)) xs) (sym subs)
    (λ at x h.
    let q = map-get _ s.subs at x h in
    subst (λ (o : Option ℕ). IsTold o x) (sym (silent at (accepted at)))
    (subst (λ (y : Subchannel). IsTold (accepted at) y) q.2 ((is-swept what q.0).told (accepted at) (k at q.0 q.1))))

-- at the opening nothing was accepted, and no signal waits
opened-told : (setup : SubchannelSetup) → IsTold None (opened setup)
opened-told setup = record { remembers = tt; downs = none-wait (IsTiedDown 0 hold.Free) 8; ups = none-wait (IsTiedUp 0 hold.Free) 8 }

opening-told : (setups : List SubchannelSetup) → AreTold (λ index. None) (map opened setups)
opening-told setups = λ index sub e.
    let p = map-get opened setups index sub e in subst (λ (y : Subchannel). IsTold None y) p.2 (opened-told p.0)

run-told : AreWalks → (setup : Setup) (h : List Entry) (s : State) (run : Run (opening_of setup) h s) →
    AreTold (λ index. accepted_path index (opening_of setup) h s run) s.subs
run-told walks setup _ _ Opened = opening-told setup.subchannels
run-told walks setup _ _ (Stepped h old e r new run step) =
    turned-told old e r new (λ index. accepted_path index (opening_of setup) h old run) (step-turned old e r new (walks old e r new step))
    (run-told walks setup h old run)

-- a Grant
held-remembers : (phase : HoldPhase) (first accepted : Option ℕ) → is_held phase ≡ true → Remembers phase first accepted → accepted ≡ first
held-remembers (hold.On t p c) first accepted e m = m
held-remembers (hold.Away t) first accepted e m = m
held-remembers other first accepted e m = absurd (cc e)

path-is : (o : Option ℕ) (p : ℕ) → is_path o p ≡ true → o ≡ Some p
path-is None p e = absurd (cc e)
path-is (Some q) p e = ap Some (eqb-true q p e)

first-is : (sub : Subchannel) (path : ℕ) → sub.state.hold.single_path ≡ true → may_reconnect sub.state.hold (available_paths sub) path ≡ true →
    sub.state.hold.first_path ≡ Some path
first-is sub path single e =
    path-is sub.state.hold.first_path path
    (sym (ap (λ (b : Bool). if b then is_path sub.state.hold.first_path path else is_member (available_paths sub) path) single) ∙ e)

met-first : (s : State) (sub : Subchannel) (path p : ℕ) (returns : Bool) (t : UpResult) (accepted : Option ℕ) → up_sub returns s.storage sub path ≡ Ok t →
    returns ≡ returns_at s.subs sub path → IsTold accepted sub → sub.state.hold.single_path ≡ true → granted_path t.reply ≡ Some p → accepted ≡ Some p
met-first s sub path p returns t accepted h may told single e =
    let g = subst (λ o. IfOk o (IsGranted returns sub path)) h (up-granted returns s.storage sub path) p e in
    let right = return-parts s.subs sub path (returns-right s.subs sub path returns may g.0) in
    held-remembers sub.state.hold.phase sub.state.hold.first_path accepted g.2 told.remembers
    ∙ first-is sub path single right.1 ∙ ap Some (sym g.1)

quiet-first : (opening : State) (h : List Entry) (s : State) (run : Run opening h s) (e : Event) (r : Reply) → IsQuiet e r → ReturnsByFirst opening h s run e r
quiet-first opening h s run (event.Up word path) r q = absurd q
quiet-first opening h s run e r q = tt

walked-first : (setup : Setup) (h : List Entry) (s : State) (run : Run (opening_of setup) h s) → AreTold (λ index. accepted_path index (opening_of setup) h s run) s.subs →
    (e : Event) (r : Reply) (new : State) → Walked s e r new → ReturnsByFirst (opening_of setup) h s run e r
walked-first setup h s run told _ _ _ (walked.Stays e r new q sets subs units up) = quiet-first (opening_of setup) h s run e r q
walked-first setup h s run told _ _ _ (walked.Tested e r index sub c new q one address by answers) = quiet-first (opening_of setup) h s run e r q
walked-first setup h s run told _ _ _ (walked.Modified e r index sub given c new q one) = quiet-first (opening_of setup) h s run e r q
walked-first setup h s run told _ _ _ (walked.Performed e r index sub f c new q one by answers) = quiet-first (opening_of setup) h s run e r q
walked-first setup h s run told _ _ _ (walked.Met word path returns index sub t new n ok one may) =
    λ at p x named there single e.
    let same : index ≡ at = cc (sym n ∙ named) in
    let is : x ≡ sub = cc (sym there ∙ ap (λ (k : ℕ). slice_get s.subs k) (sym same) ∙ one.there) in
    met-first s sub path p returns t (accepted_path at (opening_of setup) h s run) ok may
    (subst (λ (y : Subchannel). IsTold (accepted_path at (opening_of setup) h s run) y) is (told at x there))
    (subst (λ (y : Subchannel). y.state.hold.single_path ≡ true) is single) e
walked-first setup h s run told _ _ _ (walked.Swept e r what new q sets subs units by) = quiet-first (opening_of setup) h s run e r q
walked-first setup h s run told _ _ _ w = tt

pub step-first : AreWalks → (setup : Setup) (h : List Entry) (s : State) (run : Run (opening_of setup) h s) (e : Event) (r : Reply) (new : State) → Step s e r new →
    ReturnsByFirst (opening_of setup) h s run e r
step-first walks setup h s run e r new step = walked-first setup h s run (run-told walks setup h s run) e r new (walks s e r new step)
