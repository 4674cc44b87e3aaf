-- What is offered is offered on the path that was chosen, one of those that are usable; where an allegiance is dedicated, on its path.
use Rattle.std.proofs.Common.{◌≡◌, refl, sym, ◌∙◌, ap, subst, ℕ, ◌+◌, Bool, true, false, ◌&&◌, Option, None, Some, Result, List, ◌∷◌, IfOk, if◌then◌else◌}
use Rattle.std.specs.Prelude.{unwrap_or}
use Rattle.std.proofs.lemmas.Bool.{and_parts, and_right, eqb-true}
use Rattle.allegiance.specs.PathUse.{keeps_dedicated, is_allowed, allowed_paths, reachable_paths, usable_paths}
use Rattle.chan_model.specs.PathSets.{is_member, is_any, in_both}
use Rattle.chan_events.specs.Events.{Event}
use Rattle.chan_events.specs.declared.event.Event.TheVariants as event
use Rattle.chan_events.specs.Replies.{Reply}
use Rattle.chan_model.specs.declared.fault.Fault.{Fault}
use Rattle.chan_model.specs.declared.hold_state.HoldPhase.{HoldPhase}
use Rattle.chan_model.specs.declared.hold_state.HoldPhase.TheVariants as hold
use Rattle.chan_model.specs.declared.signal.Down.TheVariants as down
use Rattle.path_select.specs.Choice.{IsChoice, IsUsable}
use Rattle.subchannel_model.specs.declared.state.Candidate.{Candidate}
use Rattle.subchannel_model.specs.declared.state.Chosen.{Chosen}
use Rattle.subchannel_model.specs.declared.state.Chosen.TheVariants.{Idle, Resets, Halts, Offers}
use Rattle.subchannel_model.specs.declared.state.Subchannel.{Subchannel}
use Rattle.subchannel_model.specs.Choosing.{unsent_reset, is_away, first_some, candidate, path_use, engaged_paths, return_paths, paths_to_choose, reset_chosen, clear_chosen, halt_at, over_unless, offer_at, chosen, marked_sub, halt_chosen, offer_chosen, paths_by, unsent_at}
use Rattle.subchannel_model.specs.Sending.{carried_by, finds_full}
use Rattle.machine_model.specs.ChooseSteps.{choose_sub}
use Rattle.machine_model.specs.State.{State, sub_of}
use Rattle.machine_model.specs.Steps.{Step}
use Rattle.machine_model.specs.Results.{SubResult}
use Rattle.subchannel_model.specs.Indices.{sub_at}
use Rattle.step_laws.specs.Walks as walked
use Rattle.step_laws.specs.Walks.{Walked, AreWalks, IsQuiet, Suits}
use Rattle.run_laws.specs.Returns.{OffersOnDedicated}
use Rattle.run_laws.proofs.Machine.PathSets.{both-parts, without-parts, each-true, usable-member}

-- what is offered, where something is, is offered on the path that was chosen
abbrev pub IsOffer : Option ℕ → Chosen → Type 0
IsOffer choice (Offers c path) = choice ≡ Some path
IsOffer choice c = Unit {0}

abbrev AreOffers : Option ℕ → Option Chosen → Type 0
AreOffers choice None = Unit {0}
AreOffers choice (Some c) = IsOffer choice c

first-offers : (choice : Option ℕ) (a : Option Chosen) (later : List (Option Chosen)) → AreOffers choice a → AreOffers choice (first_some later) →
    AreOffers choice (first_some (a ∷ later))
first-offers choice None later here after = after
first-offers choice (Some x) later here after = here

or-idle : (choice : Option ℕ) (a : Option Chosen) → AreOffers choice a → IsOffer choice (unwrap_or a Idle)
or-idle choice None here = tt
or-idle choice (Some x) here = here

reset-offers : (choice unsent : Option ℕ) → AreOffers choice (reset_chosen unsent choice)
reset-offers choice None = tt
reset-offers None (Some r) = tt
reset-offers (Some path) (Some r) = tt

clear-offers : (choice unsent : Option ℕ) (pending : Bool) → AreOffers choice (clear_chosen unsent pending)
clear-offers choice None pending = tt
clear-offers choice (Some r) false = tt
clear-offers choice (Some r) true = tt

halt-at-offers : (choice : Option ℕ) (phase : HoldPhase) → AreOffers choice (halt_at phase choice)
halt-at-offers None (hold.Away t) = tt
halt-at-offers (Some path) (hold.Away t) = tt
halt-at-offers choice other = tt

halt-offers : (choice : Option ℕ) (pending : Bool) (phase : HoldPhase) → AreOffers choice (halt_chosen pending phase choice)
halt-offers choice false phase = tt
halt-offers choice true phase = halt-at-offers choice phase

over-offers : (choice : Option ℕ) (reachable : Bool) → AreOffers choice (over_unless reachable)
over-offers choice true = tt
over-offers choice false = tt

offer-at-offers : (choice : Option ℕ) (phase : HoldPhase) (c : Candidate) (reachable : Bool) → AreOffers choice (offer_at phase c reachable choice)
offer-at-offers None hold.Free c reachable = over-offers None reachable
offer-at-offers (Some path) hold.Free c reachable = refl
offer-at-offers choice (hold.Reset r) c reachable = over-offers choice reachable
offer-at-offers choice other c reachable = tt

offer-offers : (choice : Option ℕ) (phase : HoldPhase) (found : Option Candidate) (reachable : Bool) → AreOffers choice (offer_chosen phase found reachable choice)
offer-offers choice phase None reachable = tt
offer-offers choice phase (Some c) reachable = offer-at-offers choice phase c reachable

pub chosen-offer : (sub : Subchannel) (choice : Option ℕ) → IsOffer choice (chosen sub choice)
chosen-offer sub choice =
    or-idle choice _
    (first-offers choice _ _ (reset-offers choice (unsent_reset sub.state.hold))
    (first-offers choice _ _ (clear-offers choice (unsent_reset sub.state.hold) sub.state.scsw.activity.clear_pending)
    (first-offers choice _ _ (halt-offers choice sub.state.scsw.activity.halt_pending sub.state.hold.phase)
    (first-offers choice _ _ (offer-offers choice sub.state.hold.phase (candidate sub.state) (is_any (reachable_paths (path_use sub)))) tt))))

-- where the hold is free, that is a usable path
free-paths : (subs : List Subchannel) (sub : Subchannel) → sub.state.hold.phase ≡ hold.Free →
    paths_to_choose subs sub ≡ usable_paths (path_use sub) (engaged_paths subs sub)
free-paths subs sub e =
    ap (λ (phase : HoldPhase). paths_by (unsent_at phase sub.state.hold.reset_path) subs sub) e
    ∙ ap (λ (phase : HoldPhase). if sub.state.scsw.activity.halt_pending && is_away phase then return_paths sub
    else usable_paths (path_use sub) (engaged_paths subs sub)) e
    ∙ ap (λ (b : Bool). if b then return_paths sub else usable_paths (path_use sub) (engaged_paths subs sub))
    (and_right sub.state.scsw.activity.halt_pending false refl)

pub offer-usable : (subs : List Subchannel) (sub : Subchannel) (choice : Option ℕ) (path : ℕ) → IsChoice (paths_to_choose subs sub) choice →
    sub.state.hold.phase ≡ hold.Free → choice ≡ Some path → is_member (usable_paths (path_use sub) (engaged_paths subs sub)) path ≡ true
offer-usable subs sub choice path x free e =
    usable-member (usable_paths (path_use sub) (engaged_paths subs sub)) path
    (subst (λ (set : List Bool). IsUsable set path) (free-paths subs sub free)
    (subst (λ (o : Option ℕ). IsChoice (paths_to_choose subs sub) o) e x))

-- a path within reach is that of the dedicated allegiance
keeps-path : (dedicated : Option ℕ) (d path : ℕ) → dedicated ≡ Some d → keeps_dedicated dedicated path ≡ true → path ≡ d
keeps-path None d path e k = absurd (cc e)
keeps-path (Some c) d path e k = let same : c ≡ d = cc e in sym (eqb-true c path k) ∙ same

reach-dedicated : (sub : Subchannel) (path d : ℕ) → is_member (reachable_paths (path_use sub)) path ≡ true → sub.state.dedicated ≡ Some d → path ≡ d
reach-dedicated sub path d e h =
    let masks = path_use sub in
    let allowed : is_member (in_both (allowed_paths masks) masks.installed) path ≡ true = (both-parts (in_both (allowed_paths masks) masks.installed) masks.available path e).0 in
    keeps-path sub.state.dedicated d path h
    (and_parts (is_member masks.logical path) (keeps_dedicated masks.dedicated path)
    (each-true (is_allowed masks.logical masks.dedicated) path (both-parts (allowed_paths masks) masks.installed path allowed).0)).1

-- so each offer is on that path
if-ok : {A : Type 0} (P : A → Type 0) (full : Bool) (x y : Result A Fault) → IfOk x P → IfOk y P → IfOk (if full then x else y) P
if-ok P true x y e f = e
if-ok P false x y e f = f

abbrev OkOffer : State → ℕ → Result SubResult Fault → Type 0
OkOffer s word r = IfOk r (λ t. OffersOnDedicated s (event.Choose word) t.reply)

choose-dedicated : (s : State) (word : ℕ) (sub : Subchannel) (choice : Option ℕ) (c : Chosen) → sub_of s word ≡ Some sub →
    IsChoice (paths_to_choose s.subs sub) choice → Suits c sub.state → IsOffer choice c → OkOffer s word (choose_sub (marked_sub sub choice) c)
choose-dedicated s word sub choice (Resets r path) at x f o =
    if-ok (λ (t : SubResult). OffersOnDedicated s (event.Choose word) t.reply)
    (finds_full sub.wires.down (carried_by sub (Some (record { path = path; signal = down.Reset r sub.state.hold.known_restarts })))) _ _ tt tt
choose-dedicated s word sub choice (Halts t path) at x f o =
    if-ok (λ (t : SubResult). OffersOnDedicated s (event.Choose word) t.reply)
    (finds_full sub.wires.down (carried_by sub (Some (record { path = path; signal = down.Halt t })))) _ _ tt tt
choose-dedicated s word sub choice (Offers c path) at x f o =
    if-ok (λ (t : SubResult). OffersOnDedicated s (event.Choose word) t.reply)
    (finds_full sub.wires.down (carried_by sub (Some (record { path = path; signal = down.Select (sub.state.drawn + 1) })))) _ _ tt
    (λ other d e h.
    let same : other ≡ sub = cc (sym e ∙ at) in
    let usable = offer-usable s.subs sub choice path x f.fits o in
    let within = (without-parts (reachable_paths (path_use sub)) (engaged_paths s.subs sub) path usable).0 in
    reach-dedicated sub path d within (subst (λ (y : Subchannel). y.state.dedicated ≡ Some d) same h))
choose-dedicated s word sub choice other at x f o = tt

quiet-dedicated : (s : State) (e : Event) (r : Reply) → IsQuiet e r → OffersOnDedicated s e r
quiet-dedicated s (event.Choose word) r q = absurd q
quiet-dedicated s e r q = tt

walked-dedicated : (s : State) (e : Event) (r : Reply) (new : State) → Walked s e r new → OffersOnDedicated s e r
walked-dedicated s _ _ _ (walked.Stays e r new q sets subs units up) = quiet-dedicated s e r q
walked-dedicated s _ _ _ (walked.Tested e r index sub c new q one address by answers) = quiet-dedicated s e r q
walked-dedicated s _ _ _ (walked.Modified e r index sub given c new q one) = quiet-dedicated s e r q
walked-dedicated s _ _ _ (walked.Performed e r index sub f c new q one by answers) = quiet-dedicated s e r q
walked-dedicated s _ _ _ (walked.Chosen word index sub choice t new n x w h one) =
    subst (OkOffer s word) h
    (choose-dedicated s word sub choice (chosen sub choice) (ap (λ (o : Option ℕ). sub_at s.subs o) n ∙ one.there) x w (chosen-offer sub choice))
walked-dedicated s _ _ _ (walked.Swept e r what new q sets subs units by) = quiet-dedicated s e r q
walked-dedicated s _ _ _ w = tt

pub step-dedicated : AreWalks → (s : State) (e : Event) (r : Reply) (new : State) → Step s e r new → OffersOnDedicated s e r
step-dedicated walks s e r new step = walked-dedicated s e r new (walks s e r new step)
