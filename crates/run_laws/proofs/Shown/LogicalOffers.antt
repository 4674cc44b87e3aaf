-- A program is offered by a path of the logical-path mask.
use Rattle.std.proofs.Common.{◌≡◌, sym, ◌∙◌, ap, subst, ℕ, ◌+◌, ◌<◌, Bool, true, false, Option, None, Some, Result, List, [], ◌∷◌, ◌++◌}
use Rattle.std.specs.Prelude.{slice_get, if◌then◌else◌, IfOk}
use Rattle.std.proofs.lemmas.Bool.{and_parts}
use Rattle.std.proofs.lemmas.Option.{same_Some}
use Rattle.allegiance.specs.PathUse.{keeps_dedicated, is_allowed, allowed_paths, reachable_paths}
use Rattle.zbits.specs.Bits.{field_of}
use Rattle.chan_events.specs.Events.{Event}
use Rattle.chan_events.specs.declared.event.Event.TheVariants as event
use Rattle.chan_events.specs.declared.reply.Entry.{Entry}
use Rattle.chan_events.specs.Replies.{Reply}
use Rattle.chan_events.specs.declared.reply.Reply.TheVariants as reply
use Rattle.chan_model.specs.declared.fault.Fault.{Fault}
use Rattle.chan_model.specs.declared.signal.Down.TheVariants as down
use Rattle.chan_model.specs.PathSets.{has_path, mask_of_paths, is_member, in_both}
use Rattle.channel_config.specs.declared.names.SubchannelId.{SubchannelId}
use Rattle.channel_config.specs.Setup.{Setup, set_count}
use Rattle.channel_config.specs.SubchannelWords.{subchannel_named}
use Rattle.path_select.specs.Choice.{IsChoice}
use Rattle.run_laws.proofs.Machine.Offering.{IsOffer, chosen-offer, offer-usable}
use Rattle.run_laws.proofs.Machine.PathSets.{both-parts, without-parts, each-true, each-within}
use Rattle.subchannel_model.specs.declared.state.Chosen.{Chosen}
use Rattle.subchannel_model.specs.declared.state.Chosen.TheVariants.{Resets, Halts, Offers}
use Rattle.subchannel_model.specs.declared.state.Subchannel.{Subchannel}
use Rattle.subchannel_model.specs.Choosing.{chosen, engaged_paths, marked_sub, path_use, paths_to_choose}
use Rattle.subchannel_model.specs.Indices.{index_in, index_of_id, sub_at}
use Rattle.subchannel_model.specs.Sending.{carried_by, finds_full}
use Rattle.run_laws.specs.StateClaims.{is_id}
use Rattle.machine_model.specs.ChooseSteps.{choose_sub}
use Rattle.machine_model.specs.State.{State, opening_of, index_of, sub_of}
use Rattle.machine_model.specs.Steps.{Run}
use Rattle.machine_model.specs.Results.{SubResult}
use Rattle.step_laws.specs.Walks as walked
use Rattle.step_laws.specs.Walks.{Walked, IsQuiet, Suits}
use Rattle.run_laws.specs.Paths.{IsOfferLogical, IsEntryLogical, AreOffersLogical}
use Rattle.run_laws.specs.Shown.{names}
use Rattle.run_laws.proofs.Machine.Names.{same-id}
use Rattle.run_laws.proofs.Shown.Runs.{AreLaws, IsPassed, passed, passed-next, sets-stay}
use Rattle.run_laws.proofs.Shown.WordRuns.{HasMasks, steps-shown}
use Rattle.run_laws.proofs.Shown.Words.{member-masked}

-- a usable path is of the mask
pub reach-logical : (sub : Subchannel) (path : ℕ) → is_member (reachable_paths (path_use sub)) path ≡ true → (is_member sub.state.pmcw.logical path ≡ true) × (path < 8)
reach-logical sub path e =
    let masks = path_use sub in
    let allowed : is_member (in_both (allowed_paths masks) masks.installed) path ≡ true = (both-parts (in_both (allowed_paths masks) masks.installed) masks.available path e).0 in
    let one : is_member (allowed_paths masks) path ≡ true = (both-parts (allowed_paths masks) masks.installed path allowed).0 in (
      (and_parts (is_member masks.logical path) (keeps_dedicated masks.dedicated path) (each-true (is_allowed masks.logical masks.dedicated) path one)).0,
      each-within (is_allowed masks.logical masks.dedicated) path one,
    )

-- a choice
abbrev IsLogical : State → Event → Reply → Type 0
IsLogical s (event.Choose word) (reply.Offered t path resumed) =
    (sub : Subchannel) → sub_of s word ≡ Some sub → (is_member sub.state.pmcw.logical path ≡ true) × (path < 8)
IsLogical s e r = Unit {0}

if-ok : {A : Type 0} (P : A → Type 0) (full : Bool) (x y : Result A Fault) → IfOk x P → IfOk y P → IfOk (if full then x else y) P
if-ok P true x y e f = e
if-ok P false x y e f = f

abbrev OkLogical : State → ℕ → Result SubResult Fault → Type 0
OkLogical s word r = IfOk r (λ t. IsLogical s (event.Choose word) t.reply)

choose-logical : (s : State) (word : ℕ) (sub : Subchannel) (choice : Option ℕ) (c : Chosen) → sub_of s word ≡ Some sub →
    IsChoice (paths_to_choose s.subs sub) choice → Suits c sub.state → IsOffer choice c → OkLogical s word (choose_sub (marked_sub sub choice) c)
choose-logical s word sub choice (Resets r path) at x f o =
    if-ok (λ (t : SubResult). IsLogical s (event.Choose word) t.reply)
    (finds_full sub.wires.down (carried_by sub (Some (record { path = path; signal = down.Reset r sub.state.hold.known_restarts })))) _ _ tt tt
choose-logical s word sub choice (Halts t path) at x f o =
    if-ok (λ (t : SubResult). IsLogical s (event.Choose word) t.reply)
    (finds_full sub.wires.down (carried_by sub (Some (record { path = path; signal = down.Halt t })))) _ _ tt tt
choose-logical s word sub choice (Offers c path) at x f o =
    if-ok (λ (t : SubResult). IsLogical s (event.Choose word) t.reply)
    (finds_full sub.wires.down (carried_by sub (Some (record { path = path; signal = down.Select (sub.state.drawn + 1) })))) _ _ tt
    (λ other e.
    let same : sub ≡ other = same_Some sub other (sym at ∙ e) in
    let usable = offer-usable s.subs sub choice path x f.fits o in
    subst (λ (y : Subchannel). (is_member y.state.pmcw.logical path ≡ true) × (path < 8)) same
    (reach-logical sub path (without-parts (reachable_paths (path_use sub)) (engaged_paths s.subs sub) path usable).0))
choose-logical s word sub choice other at x f o = tt

quiet-logical : (s : State) (e : Event) (r : Reply) → IsQuiet e r → IsLogical s e r
quiet-logical s (event.Choose word) r q = absurd q
quiet-logical s e r q = tt

walked-logical : (s : State) (e : Event) (r : Reply) (new : State) → Walked s e r new → IsLogical s e r
walked-logical s _ _ _ (walked.Stays e r new q sets subs units up) = quiet-logical s e r q
walked-logical s _ _ _ (walked.Tested e r index sub c new q one address by answers) = quiet-logical s e r q
walked-logical s _ _ _ (walked.Modified e r index sub given c new q one) = quiet-logical s e r q
walked-logical s _ _ _ (walked.Performed e r index sub f c new q one by answers) = quiet-logical s e r q
walked-logical s _ _ _ (walked.Chosen word index sub choice t new n x w h one) =
    subst (OkLogical s word) h
    (choose-logical s word sub choice (chosen sub choice) (ap (λ (o : Option ℕ). sub_at s.subs o) n ∙ one.there) x w (chosen-offer sub choice))
walked-logical s _ _ _ (walked.Swept e r what new q sets subs units by) = quiet-logical s e r q
walked-logical s _ _ _ w = tt

-- by the mask that is shown
named-found : (subs : List Subchannel) (x : Option SubchannelId) (id : SubchannelId) → is_id x id ≡ true → index_of_id subs x ≡ index_in id subs
named-found subs None id e = absurd (cc e)
named-found subs (Some named) id e = ap (λ (y : SubchannelId). index_in y subs) (same-id named id e)

module _ (sets : ℕ) (id : SubchannelId) (word : ℕ) (sub : Subchannel) (masks : field_of word 0 7 ≡ mask_of_paths sub.state.pmcw.logical) where
  offer-shown : (s : State) (named : ℕ) (r : Reply) → sub_of s named ≡ Some sub → IsLogical s (event.Choose named) r → IsOfferLogical word r
  offer-shown s named (reply.Offered t path z) at k =
      let in_set = k sub at in
      subst (λ (mask : ℕ). has_path mask path ≡ true) (sym masks) (member-masked sub.state.pmcw.logical path in_set.1 in_set.0)
  offer-shown s named r at k = tt

  entry-shown : (s : State) (index : ℕ) (e : Event) (r : Reply) → s.sets ≡ sets → index_in id s.subs ≡ Some index → slice_get s.subs index ≡ Some sub → IsLogical s e r →
      IsEntryLogical sets id word e r
  entry-shown s index (event.Choose named) r n mine there k = λ is.
      let at : index_of s named ≡ Some index =
      named-found s.subs (subchannel_named s.sets named) id (subst (λ (m : ℕ). names m id named ≡ true) (sym n) is) ∙ mine in
      offer-shown s named r (ap (λ (o : Option ℕ). sub_at s.subs o) at ∙ there) k
  entry-shown s index e r n mine there k = tt

pub run-logical : AreLaws → (setup : Setup) (h : List Entry) (s : State) → Run (opening_of setup) h s → AreOffersLogical (set_count setup) h
run-logical laws setup h s run id before after a b c d word eq shown =
    let o : State = opening_of setup in
    let first : IsPassed o before a (b ∷ (c ∷ (d ∷ after))) s = passed o s before (b ∷ (c ∷ (d ∷ after))) a (subst (λ (x : List Entry). Run o x s) eq run) in
    let second : IsPassed o (before ++ a ∷ []) b (c ∷ (d ∷ after)) s = passed-next o s before (c ∷ (d ∷ after)) a b first in
    let third : IsPassed o ((before ++ a ∷ []) ++ b ∷ []) c (d ∷ after) s = passed-next o s (before ++ a ∷ []) (d ∷ after) b c second in
    let fourth : IsPassed o (((before ++ a ∷ []) ++ b ∷ []) ++ c ∷ []) d after s = passed-next o s ((before ++ a ∷ []) ++ b ∷ []) after c d third in
    let masks : HasMasks id first.was third.is word =
    steps-shown (set_count setup) id a b c word first.was first.is second.is third.is (sets-stay laws setup _ second.was second.run) shown first.step second.step third.step in
    let mine : index_in id fourth.was.subs ≡ Some masks.index = ap (λ (xs : List Subchannel). index_in id xs) masks.subs ∙ masks.named in
    let there : slice_get fourth.was.subs masks.index ≡ Some masks.sub = ap (λ (xs : List Subchannel). slice_get xs masks.index) masks.subs ∙ masks.there in
    entry-shown (set_count setup) id word masks.sub masks.logical fourth.was masks.index d.event d.reply (sets-stay laws setup _ fourth.was fourth.run) mine there
    (walked-logical fourth.was d.event d.reply fourth.is (laws.walks fourth.was d.event d.reply fourth.is fourth.step))
