-- A Reset that may arrive, and that the unit would take, is above the floor.
use Rattle.std.proofs.Common.{◌≡◌, ℕ, ◌<◌, ◌==◌, Bool, true, false, nat_lt, inl, inr, arith}
use Rattle.std.specs.Prelude.{◌||◌, Contains}
use Rattle.std.proofs.lemmas.Bool.{eqb-true, ltb-true, and_parts}
use Rattle.std.proofs.lemmas.List.Elements.{All-contains}
use Rattle.chan_model.specs.declared.names.Side.{Side}
use Rattle.chan_model.specs.declared.names.Side.TheVariants.{First, Second}
use Rattle.chan_model.specs.declared.signal.Down.TheVariants as down
use Rattle.chan_model.specs.declared.unit_state.Own.{Own}
use Rattle.chan_model.specs.declared.unit_state.UnitState.{UnitState}
use Rattle.chan_model.specs.UnitTable.{side_of, resets}
use Rattle.agreement_laws.specs.Links.{Link, Links, link_of}
use Rattle.agreement_laws.specs.Invariant.{Ends, seen_by, ends_of, IsNotDue, IsResetGood, IsDownGood, IsSideGood, IsGood}

above-by : (fresh : Bool) (o : Own) (side : Side) (f r b n : ℕ) → IsNotDue (seen_by fresh o side) b n → b ≡ n → (fresh || nat_lt f r) ≡ true → f < r
above-by true o side f r b n d e h = absurd (omega (arith, d, e))
above-by false o side f r b n d e h = ltb-true f r h

above-good : (n : ℕ) (l : Link) (u : UnitState) (side : Side) (r b : ℕ) → IsResetGood (ends_of n l.hold u side) r b → resets u side r b ≡ true → (side_of u side).floor < r
above-good n l u side r b g e =
    let both : ((b == u.restarts) ≡ true) × (((side_of u side).fresh || nat_lt (side_of u side).floor r) ≡ true) =
    and_parts (b == u.restarts) ((side_of u side).fresh || nat_lt (side_of u side).floor r) e in
    elim g [
      | inl d ↦ above-by (side_of u side).fresh u.own side (side_of u side).floor r b u.restarts d.1 (eqb-true b u.restarts both.0) both.1
      | inr d ↦ d.0
    ]

side-good : (w : Links) (side : Side) → IsGood w → IsSideGood w side
side-good w First g = g.first
side-good w Second g = g.second

pub above : (w : Links) (side : Side) (p r b : ℕ) → IsGood w → Contains (link_of w side).downs (record { path = p; signal = down.Reset r b }) → resets w.«unit» side r b ≡ true →
    (side_of w.«unit» side).floor < r
above w side p r b g c e =
    let e_of : Ends = ends_of (link_of w side).drawn (link_of w side).hold w.«unit» side in
    let d : IsDownGood e_of p (down.Reset r b) = All-contains (λ x. IsDownGood e_of x.path x.signal) (link_of w side).downs (record { path = p; signal = down.Reset r b }) (side-good w side g).downs c in
    above-good (link_of w side).drawn (link_of w side) w.«unit» side r b d.2 e
