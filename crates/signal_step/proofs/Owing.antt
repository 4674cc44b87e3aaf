-- What a unit owes, and what control units keep, after it took a signal.
use Rattle.std.proofs.Common.{◌≡◌, refl, sym, ◌∙◌, ap, ℕ, Bool, true, false, not, ◌&&◌, ◌||◌, List}
use Rattle.chan_model.specs.declared.unit_state.UnitState.{UnitState}
use Rattle.chan_model.specs.UnitTable.{is_idle}
use Rattle.control_units.specs.declared.Member.{Member}
use Rattle.control_units.specs.Units.{is_owed}
use Rattle.machine_model.specs.Sharing.{members_after, members_over, owing, owing_after}
use Rattle.signal_step.specs.Giving.{members_begun}

-- no more than it owed where none is added
or-false : (b : Bool) → (b || false) ≡ b
or-false true = refl
or-false false = refl

pub owing_none : (u : UnitState) → owing false u ≡ u
owing_none u = ap (λ (b : Bool). record u { end_owed = b }) (or-false u.end_owed)

-- as a unit is over, whatever was begun before for one whose device no program held
pub owed-after : (members : List Member) (k : ℕ) (asks : Bool) (u v : UnitState) → (asks ≡ true → is_idle u.own ≡ true) →
    owing ((not (is_idle u.own) && is_idle v.own) && is_owed (members_begun members k asks) k) v ≡ owing_after members k u v
owed-after members k false u v idle = refl
owed-after members k true u v idle =
    ap (λ (b : Bool). owing ((not b && is_idle v.own) && is_owed (members_begun members k true) k) v) (idle refl)
    ∙ sym (ap (λ (b : Bool). owing ((not b && is_idle v.own) && is_owed members k) v) (idle refl))

pub over-after : (members : List Member) (k : ℕ) (asks : Bool) (u v : UnitState) → (asks ≡ true → is_idle u.own ≡ true) →
    members_over (members_begun members k asks) k (not (is_idle u.own) && is_idle v.own) ≡ members_after members k asks u v
over-after members k false u v idle = refl
over-after members k true u v idle = ap (λ (b : Bool). members_over (members_begun members k true) k (not b && is_idle v.own)) (idle refl)
