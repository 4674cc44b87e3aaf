-- A signal of one side leaves the other side as it was, and its program.
use Rattle.std.proofs.Common.{◌≡◌, ℕ, Bool, true, false, if◌then◌else◌, Option, None, refl, sym, ◌∙◌, ap}
use Rattle.std.proofs.lemmas.Bool.{both_ways}
use Rattle.chan_model.specs.declared.names.Side.{Side}
use Rattle.chan_model.specs.declared.names.Side.TheVariants.{First, Second}
use Rattle.chan_model.specs.Signals.{Down}
use Rattle.chan_model.specs.declared.unit_state.Connection.{Connection}
use Rattle.chan_model.specs.declared.unit_state.Connection.TheVariants.{On, Ask, Away}
use Rattle.chan_model.specs.declared.unit_state.Own.{Own}
use Rattle.chan_model.specs.declared.unit_state.Own.TheVariants.{Idle, Owned}
use Rattle.chan_model.specs.declared.unit_state.SideState.{SideState}
use Rattle.chan_model.specs.declared.unit_state.UnitState.{UnitState}
use Rattle.chan_model.specs.Sides.{same_side}
use Rattle.chan_model.specs.UnitTable.{UnitStep, unit_after, with_side, owns, freed, raised, unit_takes, held, reset_side, without_side}
use Rattle.chan_model.proofs.OneSide.{same-side}
use Rattle.chan_model.proofs.TakenSignals.{IsAt, Takes, Ignores, Notices, Accepts, Denies, Begins, Joins, Parts, Answers, Gives, Halts, Frees, Resets, Forgets, takes-by}
use Rattle.chan_model.proofs.TakenSignals as taken
use Rattle.unit.specs.UnitWords.{other_of, IsSameProgram, LeavesOther}

-- the step leaves the other side as it was, and its program
abbrev pub Leaves : Side → UnitState → Option UnitStep → Type 0
Leaves side u step = LeavesOther side u (unit_after u step)

pub same_side-other : (side : Side) → same_side side (other_of side) ≡ false
same_side-other First = refl
same_side-other Second = refl

-- whom one side has the other has not
pub apart : (k side : Side) → same_side k side ≡ true → same_side k (other_of side) ≡ false
apart First First e = refl
apart First Second e = cc
apart Second First e = cc
apart Second Second e = refl

pub owns-other : (own : Own) (side : Side) → owns own side ≡ true → owns own (other_of side) ≡ false
owns-other Idle side e = cc
owns-other (Owned k v connection) side e = apart k side e

-- nothing changed
pub leaves-same : (side : Side) (u : UnitState) → LeavesOther side u u
leaves-same side u = record { kept = refl; owner = refl; program = λ h. record { own = refl; last_command = refl; current = refl; halted = refl } }

-- the sides are as before, and the program changed of a side that held the device or held it afterwards
pub leaves-program : (side : Side) (u v : UnitState) → v.first ≡ u.first → v.second ≡ u.second
    → owns u.own (other_of side) ≡ false → owns v.own (other_of side) ≡ false → LeavesOther side u v
leaves-program First u v first second before after =
    record { kept = second; owner = after ∙ sym before; program = λ h. absurd (both_ways _ before h) }
leaves-program Second u v first second before after =
    record { kept = first; owner = after ∙ sym before; program = λ h. absurd (both_ways _ before h) }

pub leaves-if : (side : Side) (u : UnitState) (b : Bool) (s t : Option UnitStep) → (b ≡ true → Leaves side u s) → Leaves side u t
    → Leaves side u (if b then s else t)
leaves-if side u true s t f g = f refl
leaves-if side u false s t f g = g

-- one after another
pub leaves-then : (side : Side) (u v w : UnitState) → LeavesOther side u v → LeavesOther side v w → LeavesOther side u w
leaves-then side u v w f g =
    record { kept = g.kept ∙ f.kept; owner = g.owner ∙ f.owner; program = λ h. same (f.program h) (g.program (f.owner ∙ h)) }
  where
    same : IsSameProgram u v → IsSameProgram v w → IsSameProgram u w
    same a b = record { own = b.own ∙ a.own; last_command = b.last_command ∙ a.last_command; current = b.current ∙ a.current; halted = b.halted ∙ a.halted }

pub leaves-with_side : (side : Side) (u : UnitState) (s : SideState) → LeavesOther side u (with_side u side s)
leaves-with_side First u s =
    record { kept = refl; owner = refl; program = λ h. record { own = refl; last_command = refl; current = refl; halted = refl } }
leaves-with_side Second u s =
    record { kept = refl; owner = refl; program = λ h. record { own = refl; last_command = refl; current = refl; halted = refl } }

-- Select
pub leaves-held : (side : Side) (u : UnitState) (t p : ℕ) → u.own ≡ Idle → LeavesOther side u (held u side t p)
leaves-held side u t p idle =
    leaves-program side u _ refl refl (ap (λ own. owns own (other_of side)) idle) (same_side-other side)

pub own-with_side : (u : UnitState) (side : Side) (s : SideState) → (with_side u side s).own ≡ u.own
own-with_side u First s = refl
own-with_side u Second s = refl

-- what its program does
pub leaves-changed : (side : Side) (u v : UnitState) → owns u.own side ≡ true → v.first ≡ u.first → v.second ≡ u.second → v.own ≡ u.own
    → LeavesOther side u v
leaves-changed side u v e first second own =
    leaves-program side u v first second (owns-other u.own side e) (ap (λ o. owns o (other_of side)) own ∙ owns-other u.own side e)

owns-at : (u : UnitState) (side : Side) (t : ℕ) (connection : Connection) → IsAt u side t connection → owns u.own side ≡ true
owns-at u side t connection is = ap (λ own. owns own side) is ∙ same-side side

leaves-connection : (side : Side) (u : UnitState) (t : ℕ) (connection new : Connection) → IsAt u side t connection → LeavesOther side u (record u { own = Owned side t new })
leaves-connection side u t connection new is = leaves-program side u _ refl refl (owns-other u.own side (owns-at u side t connection is)) (same_side-other side)

-- Release, Reset
leaves-freed : (side : Side) (u : UnitState) → owns u.own side ≡ true → LeavesOther side u (freed u)
leaves-freed side u e = leaves-program side u _ refl refl (owns-other u.own side e) refl

leaves-freed_if : (side : Side) (u : UnitState) (b : Bool) → owns u.own side ≡ b → LeavesOther side u (if b then freed u else u)
leaves-freed_if side u true e = leaves-freed side u e
leaves-freed_if side u false e = leaves-same side u

leaves-reset_side : (side : Side) (u : UnitState) (r : ℕ) → LeavesOther side u (reset_side u side r)
leaves-reset_side side u r =
    leaves-then side u (without_side u side) _ (leaves-freed_if side u (owns u.own side) refl) (leaves-with_side side (without_side u side) _)

-- Got
leaves-forgotten : (side : Side) (u : UnitState) → LeavesOther side u (record u { attention = None })
leaves-forgotten First u = record { kept = refl; owner = refl; program = λ h. record { own = refl; last_command = refl; current = refl; halted = refl } }
leaves-forgotten Second u = record { kept = refl; owner = refl; program = λ h. record { own = refl; last_command = refl; current = refl; halted = refl } }

leaves-taken : (side : Side) (u : UnitState) (p : ℕ) (d : Down) (step : Option UnitStep) → Takes u side p d step → Leaves side u step
leaves-taken side u p _ _ (Ignores d) = leaves-same side u
leaves-taken side u p _ _ (Notices d fresh) = leaves-same side u
leaves-taken side u p _ _ (Accepts t above idle) =
    leaves-then side u (raised u side t) _ (leaves-with_side side u _) (leaves-held side (raised u side t) t p (own-with_side u side _ ∙ idle))
leaves-taken side u p _ _ (Denies t above) = leaves-with_side side u _
leaves-taken side u p _ _ (Begins t n code room connection is next) = leaves-changed side u _ (owns-at u side t connection is) refl refl refl
leaves-taken side u p _ _ (Joins t c q is) = leaves-connection side u t (Ask q c) (On q c) is
leaves-taken side u p _ _ (taken.Leaves t c connection is) = leaves-same side u
leaves-taken side u p _ _ (Parts t c q is) = leaves-connection side u t (Ask q c) (Away c) is
leaves-taken side u p _ _ (Answers t s room connection x load is hand last loaded) = leaves-changed side u _ (owns-at u side t connection is) refl refl refl
leaves-taken side u p _ _ (Gives bytes t c s q x is hand next) = leaves-changed side u _ (owns-at u side t (On q c) is) refl refl refl
leaves-taken side u p _ _ (Halts t connection is first) = leaves-changed side u _ (owns-at u side t connection is) refl refl refl
leaves-taken side u p _ _ (Frees t connection is) = leaves-freed side u (owns-at u side t connection is)
leaves-taken side u p _ _ (Resets r b is) = leaves-reset_side side u r
leaves-taken side u p _ _ (Forgets a) = leaves-forgotten side u

pub leaves-unit_takes : (side : Side) (u : UnitState) (p : ℕ) (d : Down) (may : Bool) → Leaves side u (unit_takes u side p d may)
leaves-unit_takes side u p d may = leaves-taken side u p d _ (takes-by u side p d may)
