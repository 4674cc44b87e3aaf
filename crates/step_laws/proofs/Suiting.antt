-- What is chosen for a subchannel suits it.
use Rattle.std.proofs.Common.{◌≡◌, refl, sym, subst, ap, ℕ, Bool, true, false, List, ◌∷◌, Option, None, Some}
use Rattle.std.specs.Prelude.{unwrap_or}
use Rattle.allegiance.specs.PathUse.{reachable_paths}
use Rattle.chan_model.specs.PathSets.{is_any}
use Rattle.chan_model.specs.declared.hold_state.HoldPhase.{HoldPhase}
use Rattle.chan_model.specs.declared.hold_state.HoldPhase.TheVariants as hold
use Rattle.subchannel_model.specs.declared.state.Candidate.{Candidate}
use Rattle.subchannel_model.specs.declared.state.Chosen.{Chosen}
use Rattle.subchannel_model.specs.declared.state.Chosen.TheVariants as chosen_is
use Rattle.subchannel_model.specs.declared.state.Program.{Program}
use Rattle.subchannel_model.specs.declared.state.ProgramPosition.{ProgramPosition}
use Rattle.subchannel_model.specs.declared.state.Subchannel.{Subchannel}
use Rattle.subchannel_model.specs.declared.state.SubchannelState.{SubchannelState}
use Rattle.subchannel_model.specs.Choosing.{IsHeldBy, unsent_reset, first_some, candidate, path_use, reset_chosen, clear_chosen, halt_at, over_unless, offer_at, chosen, starting, resuming, halt_chosen, offer_chosen, unsent_at}
use Rattle.step_laws.specs.Walks.{IsFound, Suits}

-- what holds of the thing that is there
abbrev IfThere : {A : Type 0} → (A → Type 0) → Option A → Type 0
IfThere P None = Unit {0}
IfThere P (Some x) = P x

first-there : {A : Type 0} → (P : A → Type 0) (a : Option A) (later : List (Option A)) → IfThere P a → IfThere P (first_some later) → IfThere P (first_some (a ∷ later))
first-there P None later here after = after
first-there P (Some x) later here after = here

or-there : {A : Type 0} → (P : A → Type 0) (a : Option A) (other : A) → P other → IfThere P a → P (unwrap_or a other)
or-there P None other idle here = idle
or-there P (Some x) other idle here = here

-- the program that is to be offered is there
abbrev IsFoundAs : SubchannelState → Candidate → Type 0
IsFoundAs s c = IsFound s.waiting s.suspended c.resumes c.program

starting-found : (waiting : Option Program) (suspended : Option ProgramPosition) (start : Bool) → IfThere (λ (c : Candidate). IsFound waiting suspended c.resumes c.program) (starting start waiting)
starting-found waiting suspended false = tt
starting-found None suspended true = tt
starting-found (Some program) suspended true = refl

resuming-found : (waiting : Option Program) (suspended : Option ProgramPosition) (resume : Bool) → IfThere (λ (c : Candidate). IsFound waiting suspended c.resumes c.program) (resuming resume suspended)
resuming-found waiting suspended false = tt
resuming-found waiting None true = tt
resuming-found waiting (Some st) true = (st, refl)

candidate-found : (s : SubchannelState) → IfThere (IsFoundAs s) (candidate s)
candidate-found s =
    first-there (IsFoundAs s) (starting s.scsw.activity.start_pending s.waiting) _ (starting-found s.waiting s.suspended s.scsw.activity.start_pending)
    (first-there (IsFoundAs s) (resuming s.scsw.activity.resume_pending s.suspended) _ (resuming-found s.waiting s.suspended s.scsw.activity.resume_pending) tt)

-- the four that may be done
unsent-is : (phase : HoldPhase) (path : Option ℕ) (r : ℕ) → unsent_at phase path ≡ Some r → phase ≡ hold.Reset r
unsent-is (hold.Reset n) None r e = let same : n ≡ r = cc e in ap hold.Reset same
unsent-is other path r e = absurd (cc e)

reset-suits : (s : SubchannelState) (unsent choice : Option ℕ) → unsent_reset s.hold ≡ unsent → IfThere (λ (c : Chosen). Suits c s) (reset_chosen unsent choice)
reset-suits s None choice e = tt
reset-suits s (Some r) None e = tt
reset-suits s (Some r) (Some path) e = record { fits = unsent-is s.hold.phase s.hold.reset_path r e; found = tt }

clear-suits : (s : SubchannelState) (unsent : Option ℕ) (pending : Bool) → IfThere (λ (c : Chosen). Suits c s) (clear_chosen unsent pending)
clear-suits s None pending = tt
clear-suits s (Some r) false = tt
clear-suits s (Some r) true = record { fits = tt; found = tt }

halt-at-suits : (s : SubchannelState) (phase : HoldPhase) (choice : Option ℕ) → s.hold.phase ≡ phase → IfThere (λ (c : Chosen). Suits c s) (halt_at phase choice)
halt-at-suits s (hold.Offer t p) choice e = tt
halt-at-suits s (hold.On t p c) choice e = record { fits = subst (λ (phase : HoldPhase). IsHeldBy phase t) (sym e) refl; found = tt }
halt-at-suits s (hold.Away t) None e = tt
halt-at-suits s (hold.Away t) (Some path) e = record { fits = subst (λ (phase : HoldPhase). IsHeldBy phase t) (sym e) refl; found = tt }
halt-at-suits s other choice e = record { fits = tt; found = tt }

halt-suits : (s : SubchannelState) (pending : Bool) (choice : Option ℕ) → IfThere (λ (c : Chosen). Suits c s) (halt_chosen pending s.hold.phase choice)
halt-suits s false choice = tt
halt-suits s true choice = halt-at-suits s s.hold.phase choice refl

over-suits : (s : SubchannelState) (reachable : Bool) → IfThere (λ (c : Chosen). Suits c s) (over_unless reachable)
over-suits s true = tt
over-suits s false = record { fits = tt; found = tt }

offer-at-suits : (s : SubchannelState) (phase : HoldPhase) (c : Candidate) (reachable : Bool) (choice : Option ℕ) → s.hold.phase ≡ phase → IsFoundAs s c →
    IfThere (λ (c : Chosen). Suits c s) (offer_at phase c reachable choice)
offer-at-suits s hold.Free c reachable None e h = over-suits s reachable
offer-at-suits s hold.Free c reachable (Some path) e h = record { fits = e; found = h }
offer-at-suits s (hold.Reset r) c reachable choice e h = over-suits s reachable
offer-at-suits s other c reachable choice e h = tt

offer-suits : (s : SubchannelState) (found : Option Candidate) (reachable : Bool) (choice : Option ℕ) → IfThere (IsFoundAs s) found →
    IfThere (λ (c : Chosen). Suits c s) (offer_chosen s.hold.phase found reachable choice)
offer-suits s None reachable choice h = tt
offer-suits s (Some c) reachable choice h = offer-at-suits s s.hold.phase c reachable choice refl h

pub chosen-suits : (sub : Subchannel) (choice : Option ℕ) → Suits (chosen sub choice) sub.state
chosen-suits sub choice =
    let s : SubchannelState = sub.state in
    let P : Chosen → Type 0 = λ c. Suits c s in
    let reachable : Bool = is_any (reachable_paths (path_use sub)) in
    or-there P _ chosen_is.Idle (record { fits = tt; found = tt })
    (first-there P (reset_chosen (unsent_reset s.hold) choice) _ (reset-suits s (unsent_reset s.hold) choice refl)
    (first-there P (clear_chosen (unsent_reset s.hold) s.scsw.activity.clear_pending) _ (clear-suits s (unsent_reset s.hold) s.scsw.activity.clear_pending)
    (first-there P (halt_chosen s.scsw.activity.halt_pending s.hold.phase choice) _ (halt-suits s s.scsw.activity.halt_pending choice)
    (first-there P (offer_chosen s.hold.phase (candidate s) reachable choice) _ (offer-suits s (candidate s) reachable choice (candidate-found s)) tt))))
