-- What is chosen, and why.
use Rattle.std.proofs.Common.{◌≡◌, refl, ap, subst, ℕ, Bool, true, false, Option, None, Some, List, [], ◌∷◌}
use Rattle.std.specs.Prelude.{◌⊎◌, unwrap_or}
use Rattle.allegiance.specs.PathUse.{reachable_paths}
use Rattle.chan_model.specs.PathSets.{is_any}
use Rattle.chan_model.specs.declared.hold_state.HoldPhase.{HoldPhase}
use Rattle.chan_model.specs.ResetCauses.{is_held}
use Rattle.chan_model.specs.declared.hold_state.HoldPhase.TheVariants as hold
use Rattle.subchannel_model.specs.declared.state.Candidate.{Candidate}
use Rattle.subchannel_model.specs.declared.state.Chosen.{Chosen}
use Rattle.subchannel_model.specs.declared.state.Chosen.TheVariants.{Idle, Resets, PerformsClear, Halts, PerformsHalt, FindsNoPath, Offers}
use Rattle.subchannel_model.specs.declared.state.Subchannel.{Subchannel}
use Rattle.subchannel_model.specs.declared.state.SubchannelState.{SubchannelState}
use Rattle.subchannel_model.specs.Choosing.{unsent_reset, first_some, candidate, path_use, reset_chosen, clear_chosen, halt_at, over_unless, offer_at, chosen, starting, resuming, halt_chosen, offer_chosen}

-- a program that is to be offered
abbrev pub IsCandidate : SubchannelState → Candidate → Type 0
IsCandidate s c = (starting s.scsw.activity.start_pending s.waiting ≡ Some c)
    ⊎ ((starting s.scsw.activity.start_pending s.waiting ≡ None) × (resuming s.scsw.activity.resume_pending s.suspended ≡ Some c))

-- why this is chosen
abbrev pub IsWhy : SubchannelState → Chosen → Type 0
IsWhy s Idle = Unit {0}
IsWhy s (Resets r path) = Unit {0}
IsWhy s PerformsClear = s.scsw.activity.clear_pending ≡ true
IsWhy s (Halts t path) = s.scsw.activity.halt_pending ≡ true
IsWhy s PerformsHalt = s.scsw.activity.halt_pending ≡ true
IsWhy s FindsNoPath = (c : Candidate) × IsCandidate s c × (is_held s.hold.phase ≡ false) × (s.scsw.activity.halt_pending ≡ false)
IsWhy s (Offers c path) = IsCandidate s c × (s.scsw.activity.halt_pending ≡ false) × (s.hold.phase ≡ hold.Free)

abbrev IfThere : {A : Type 0} → (A → Type 0) → Option A → Type 0
IfThere P None = Unit {0}
IfThere P (Some x) = P x

first-there : {A : Type 0} → (P : A → Type 0) (a : Option A) (later : List (Option A)) → IfThere P a → (a ≡ None → IfThere P (first_some later)) → IfThere P (first_some (a ∷ later))
first-there P None later here after = after refl
first-there P (Some x) later here after = here

or-there : {A : Type 0} → (P : A → Type 0) (a : Option A) (other : A) → P other → IfThere P a → P (unwrap_or a other)
or-there P None other idle here = idle
or-there P (Some x) other idle here = here

reset-why : (s : SubchannelState) (unsent choice : Option ℕ) → IfThere (IsWhy s) (reset_chosen unsent choice)
reset-why s None choice = tt
reset-why s (Some r) None = tt
reset-why s (Some r) (Some path) = tt

clear-why : (s : SubchannelState) (unsent : Option ℕ) (pending : Bool) → s.scsw.activity.clear_pending ≡ pending → IfThere (IsWhy s) (clear_chosen unsent pending)
clear-why s None pending e = tt
clear-why s (Some r) false e = tt
clear-why s (Some r) true e = e

halt_at-why : (s : SubchannelState) (phase : HoldPhase) (choice : Option ℕ) → s.scsw.activity.halt_pending ≡ true → IfThere (IsWhy s) (halt_at phase choice)
halt_at-why s (hold.Offer t p) choice e = tt
halt_at-why s (hold.Away t) None e = tt
halt_at-why s (hold.Away t) (Some path) e = e
halt_at-why s other choice e = e

halt-why : (s : SubchannelState) (pending : Bool) (choice : Option ℕ) → s.scsw.activity.halt_pending ≡ pending → IfThere (IsWhy s) (halt_chosen pending s.hold.phase choice)
halt-why s false choice e = tt
halt-why s true choice e = halt_at-why s s.hold.phase choice e

-- an offer is made where the hold is free: no halt is pending then
free-halt : (pending : Bool) (choice : Option ℕ) → halt_chosen pending hold.Free choice ≡ None → pending ≡ false
free-halt false choice e = refl
free-halt true choice e = absurd (cc e)

reset-halt : (pending : Bool) (r : ℕ) (choice : Option ℕ) → halt_chosen pending (hold.Reset r) choice ≡ None → pending ≡ false
reset-halt false r choice e = refl
reset-halt true r choice e = absurd (cc e)

over-why : (s : SubchannelState) (c : Candidate) (reachable : Bool) → IsCandidate s c → is_held s.hold.phase ≡ false → s.scsw.activity.halt_pending ≡ false →
    IfThere (IsWhy s) (over_unless reachable)
over-why s c true k e idle = tt
over-why s c false k e idle = (c, k, e, idle)

offer_at-why : (s : SubchannelState) (phase : HoldPhase) (c : Candidate) (reachable : Bool) (choice : Option ℕ) → s.hold.phase ≡ phase →
    halt_chosen s.scsw.activity.halt_pending phase choice ≡ None → IsCandidate s c → IfThere (IsWhy s) (offer_at phase c reachable choice)
offer_at-why s hold.Free c reachable None e none k = over-why s c reachable k (ap is_held e) (free-halt s.scsw.activity.halt_pending None none)
offer_at-why s hold.Free c reachable (Some path) e none k = (k, free-halt s.scsw.activity.halt_pending (Some path) none, e)
offer_at-why s (hold.Reset r) c reachable choice e none k = over-why s c reachable k (ap is_held e) (reset-halt s.scsw.activity.halt_pending r choice none)
offer_at-why s other c reachable choice e none k = tt

two-candidates : (a b : Option Candidate) (c : Candidate) → first_some (a ∷ b ∷ []) ≡ Some c → (a ≡ Some c) ⊎ ((a ≡ None) × (b ≡ Some c))
two-candidates None None c e = absurd (cc e)
two-candidates None (Some b) c e = Rattle.std.proofs.Common.inr (refl, e)
two-candidates (Some a) b c e = Rattle.std.proofs.Common.inl e

offer-why : (s : SubchannelState) (found : Option Candidate) (reachable : Bool) (choice : Option ℕ) → candidate s ≡ found →
    halt_chosen s.scsw.activity.halt_pending s.hold.phase choice ≡ None → IfThere (IsWhy s) (offer_chosen s.hold.phase found reachable choice)
offer-why s None reachable choice e none = tt
offer-why s (Some c) reachable choice e none =
    offer_at-why s s.hold.phase c reachable choice refl none
    (two-candidates (starting s.scsw.activity.start_pending s.waiting) (resuming s.scsw.activity.resume_pending s.suspended) c e)

pub why-chosen : (sub : Subchannel) (choice : Option ℕ) → IsWhy sub.state (chosen sub choice)
why-chosen sub choice =
    let s : SubchannelState = sub.state in
    let P : Chosen → Type 0 = λ c. IsWhy s c in
    or-there P _ Idle tt
    (first-there P (reset_chosen (unsent_reset s.hold) choice) _ (reset-why s (unsent_reset s.hold) choice)
    (λ a. first-there P (clear_chosen (unsent_reset s.hold) s.scsw.activity.clear_pending) _ (clear-why s (unsent_reset s.hold) s.scsw.activity.clear_pending refl)
    (λ b. first-there P (halt_chosen s.scsw.activity.halt_pending s.hold.phase choice) _ (halt-why s s.scsw.activity.halt_pending choice refl)
    (λ none. first-there P (offer_chosen s.hold.phase (candidate s) (is_any (reachable_paths (path_use sub))) choice) _
    (offer-why s (candidate s) (is_any (reachable_paths (path_use sub))) choice refl none) (λ d. tt)))))

pub clear-chosen : (sub : Subchannel) (choice : Option ℕ) → chosen sub choice ≡ PerformsClear → sub.state.scsw.activity.clear_pending ≡ true
clear-chosen sub choice e = subst (λ (c : Chosen). IsWhy sub.state c) e (why-chosen sub choice)

pub nopath-chosen : (sub : Subchannel) (choice : Option ℕ) → chosen sub choice ≡ FindsNoPath → is_held sub.state.hold.phase ≡ false
nopath-chosen sub choice e = let why : IsWhy sub.state FindsNoPath = subst (λ (c : Chosen). IsWhy sub.state c) e (why-chosen sub choice) in why.2
