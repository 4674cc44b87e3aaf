-- What is sent for a signal goes by the path that the signal came by.
use Rattle.std.proofs.Common.{◌≡◌, refl, ℕ, Bool, IfSome, Option}
use Rattle.chan_model.specs.declared.names.Side.{Side}
use Rattle.chan_model.specs.Signals.{Down}
use Rattle.chan_model.specs.declared.unit_state.UnitState.{UnitState}
use Rattle.chan_model.specs.UnitTable.{UnitStep, unit_takes, outcome_of}
use Rattle.chan_model.proofs.TakenSignals.{Takes, Ignores, Notices, Accepts, Denies, Begins, Joins, Leaves, Parts, Answers, Gives, Halts, Frees, Resets, Forgets, takes-by}

-- what is sent goes by the path that the signal came by
abbrev pub OnPathOf : ℕ → Option UnitStep → Type 0
OnPathOf p step = IfSome (outcome_of step).sent (λ s. s.path ≡ p)

by-path : (u : UnitState) (side : Side) (p : ℕ) (d : Down) (step : Option UnitStep) → Takes u side p d step → OnPathOf p step
by-path u side p _ _ (Ignores d) = tt
by-path u side p _ _ (Notices d fresh) = refl
by-path u side p _ _ (Accepts t above idle) = refl
by-path u side p _ _ (Denies t above) = refl
by-path u side p _ _ (Begins t n code room connection is next) = tt
by-path u side p _ _ (Joins t c q is) = tt
by-path u side p _ _ (Leaves t c connection is) = refl
by-path u side p _ _ (Parts t c q is) = tt
by-path u side p _ _ (Answers t s room connection x load is hand last loaded) = tt
by-path u side p _ _ (Gives bytes t c s q x is hand next) = tt
by-path u side p _ _ (Halts t connection is first) = tt
by-path u side p _ _ (Frees t connection is) = refl
by-path u side p _ _ (Resets r b is) = refl
by-path u side p _ _ (Forgets a) = tt

pub takes-path : (u : UnitState) (side : Side) (d : Down) (p : ℕ) (a : Bool) → OnPathOf p (unit_takes u side p d a)
takes-path u side d p a = by-path u side p d _ (takes-by u side p d a)
