-- What the agreement of a subchannel and its unit says of the fronts of its wires, and of where the unit's program is connected.
use Rattle.std.proofs.Common.{◌≡◌, refl, sym, ap, subst, ℕ, ◌≤◌, Bool, true, false, None, Some, List, slice_get, if◌then◌else◌}
use Rattle.std.proofs.lemmas.List.Elements.{All-contains}
use Rattle.chan_model.specs.declared.hold_state.HoldPhase.{HoldPhase}
use Rattle.chan_model.specs.declared.hold_state.HoldPhase.TheVariants as hold
use Rattle.chan_model.specs.declared.hold_state.HoldState.{HoldState}
use Rattle.chan_model.specs.declared.names.Side.{Side}
use Rattle.chan_model.specs.declared.names.Side.TheVariants.{First, Second}
use Rattle.chan_model.specs.Signals.{Down, Up}
use Rattle.chan_model.specs.declared.signal.Down.TheVariants as down
use Rattle.chan_model.specs.declared.signal.Up.TheVariants as up
use Rattle.chan_model.specs.declared.unit_state.Own.{Own}
use Rattle.chan_model.specs.declared.unit_state.Own.TheVariants as own
use Rattle.chan_model.specs.declared.unit_state.Connection.{Connection}
use Rattle.chan_model.specs.declared.unit_state.Connection.TheVariants as connection
use Rattle.chan_model.specs.declared.unit_state.UnitState.{UnitState}
use Rattle.chan_model.specs.Sides.{same_side}
use Rattle.chan_model.specs.UnitTable.{side_of, owns}
use Rattle.wires.specs.Queues.{queue}
use Rattle.agreement_laws.specs.Links.{Link, Links, link_of}
use Rattle.agreement_laws.specs.Invariant.{Ends, SideSeen, Owns, seen_by, ends_of, IsJoined, IsPaired, IsMatched, IsDownGood, IsUpGood, IsSideGood, IsFreshFree, IsGood}
use Rattle.subchannel_model.specs.declared.state.Subchannel.{Subchannel}
use Rattle.run_laws.proofs.Machine.Growth.{IsLink, covers-first}
use Rattle.agreement_laws.proofs.SeenSignals.{Rises, IsResetAbove, reset-above}
use Rattle.run_laws.proofs.Signals.Ties.{linked}
use Rattle.run_laws.proofs.Signals.UnitMoves.{on_connection, on_side, floor_of}
use Rattle.run_laws.proofs.Signals.BoundSteps.{IsBackBelow}
use Rattle.run_laws.proofs.Signals.UnitBounds.{IsSelectAt, IsPlaced}

pub record IsFit (sub : Subchannel) (u : UnitState) : Type 0 where
  pub drawn : floor_of u sub.setup.side ≤ sub.state.drawn
  pub placed : IsPlaced sub.state.hold.phase (on_side u.own sub.setup.side)
  pub select : (p : ℕ) (d : Down) → slice_get (queue sub.wires.down p) 0 ≡ Some d → IsSelectAt sub.state.hold.phase (floor_of u sub.setup.side) p d
  pub back : (p : ℕ) (x : Up) → slice_get (queue sub.wires.up p) 0 ≡ Some x → IsBackBelow (floor_of u sub.setup.side) x
  pub above : (p : ℕ) (d : Down) → slice_get (queue sub.wires.down p) 0 ≡ Some d → IsResetAbove u sub.setup.side d

side-good : (w : Links) (side : Side) → IsGood w → IsSideGood w side
side-good w First g = g.first
side-good w Second g = g.second

side-free : (w : Links) (side : Side) → IsGood w → IsFreshFree w.«unit» side
side-free w First g = g.first_free
side-free w Second g = g.second_free

-- where the unit's program is
placed-none : (phase : HoldPhase) → IsPlaced phase None
placed-none hold.Free = tt
placed-none other = tt

joined : (p c s q d : ℕ) → IsJoined p c s (connection.On q d) → (q ≡ p) × (d ≡ c)
joined p c s q d j = (sym j.1, sym j.2)

placed-paired : (phase : HoldPhase) (s f t p c : ℕ) → IsPaired phase s f t (connection.On p c) → IsPlaced phase (Some (linked t p c))
placed-paired (hold.Offer u q) s f t p c m = λ e. joined q 0 0 p c m.1
placed-paired (hold.On u q d) s f t p c m = λ e. joined q d s p c m.1
placed-paired other s f t p c m = tt

placed-connection : (phase : HoldPhase) (s f t : ℕ) (at : Connection) → IsPaired phase s f t at → IsPlaced phase (on_connection t at)
placed-connection phase s f t (connection.On p c) m = placed-paired phase s f t p c m
placed-connection phase s f t (connection.Ask p c) m = placed-none phase
placed-connection phase s f t (connection.Away c) m = placed-none phase

placed-owned : (e : Ends) (t : ℕ) (at : Connection) (fresh same : Bool) → (fresh ≡ true → same ≡ false) → IsMatched e (if fresh then SideSeen.Fresh else (if same then Owns t at else SideSeen.Idle)) →
    IsPlaced e.phase (if same then on_connection t at else None)
placed-owned e t at true true free m = absurd (cc (free refl))
placed-owned e t at false true free m = placed-connection e.phase e.last e.floor t at m
placed-owned e t at fresh false free m = placed-none e.phase

placed-by : (e : Ends) (o : Own) (side : Side) (fresh : Bool) → (fresh ≡ true → owns o side ≡ false) → IsMatched e (seen_by fresh o side) → IsPlaced e.phase (on_side o side)
placed-by e own.Idle side fresh free m = placed-none e.phase
placed-by e (own.Owned k t at) side fresh free m = placed-owned e t at fresh (same_side k side) free m

-- the fronts of its wires
select-by : (e : Ends) (p : ℕ) (d : Down) → IsDownGood e p d → IsSelectAt e.phase e.floor p d
select-by e p (down.Select t) g = g.1
select-by e p (down.Command t n code room) g = tt
select-by e p (down.Grant t c) g = tt
select-by e p (down.Refuse t c) g = tt
select-by e p (down.Took t n s room) g = tt
select-by e p (down.Give bytes t c n s) g = tt
select-by e p (down.Halt t) g = tt
select-by e p (down.Release t) g = tt
select-by e p (down.Reset r b) g = tt
select-by e p (down.Got b) g = tt

back-by : (e : Ends) (ts : List ℕ) (p : ℕ) (x : Up) → IsUpGood e ts p x → IsBackBelow e.floor x
back-by e ts p (up.Accept t) g = tt
back-by e ts p (up.Busy t) g = tt
back-by e ts p (up.Leave t c) g = tt
back-by e ts p (up.Back t c) g = g.0
back-by e ts p (up.Data load t c n s) g = tt
back-by e ts p (up.End t n status more) g = tt
back-by e ts p (up.Released t) g = tt
back-by e ts p (up.Cleared r) g = tt
back-by e ts p (up.Notice b) g = tt
back-by e ts p (up.Attn b status) g = tt

-- a subchannel whose link is this of a unit, by other names of its hold and of how many numbers were drawn
fit-of : Rises → (w : Links) (sub : Subchannel) → IsGood w → IsLink sub (link_of w sub.setup.side) → IsFit sub w.«unit»
fit-of rises w sub good k =
    let side : Side = sub.setup.side in
    let l : Link = link_of w side in
    let g : IsSideGood w side = side-good w side good in
    let phase : l.hold.phase ≡ sub.state.hold.phase = ap (λ (h : HoldState). h.phase) k.hold in
    let e : Ends = ends_of l.drawn l.hold w.«unit» side in
    record {
      drawn = subst (λ (n : ℕ). floor_of w.«unit» side ≤ n) k.drawn g.ends.floor;
      placed = subst (λ (y : HoldPhase). IsPlaced y (on_side w.«unit».own side)) phase
          (placed-by e w.«unit».own side (side_of w.«unit» side).fresh (side-free w side good) g.ends.matched);
      select = λ p d front.
          subst (λ (y : HoldPhase). IsSelectAt y (floor_of w.«unit» side) p d) phase
          (select-by e p d (All-contains (λ x. IsDownGood e x.path x.signal) l.downs (record { path = p; signal = d }) g.downs
          (covers-first l.downs sub.wires.down p d k.downs front)));
      back = λ p x front.
          back-by e l.accepted p x (All-contains (λ y. IsUpGood e l.accepted y.path y.signal) l.ups (record { path = p; signal = x }) g.ups
          (covers-first l.ups sub.wires.up p x k.ups front));
      above = λ p d front. reset-above rises w side p d good (covers-first l.downs sub.wires.down p d k.downs front);
    }

pub fits : Rises → (w : Links) (sub : Subchannel) (u : UnitState) → IsGood w → w.«unit» ≡ u → IsLink sub (link_of w sub.setup.side) → IsFit sub u
fits rises w sub u good e k = subst (λ (v : UnitState). IsFit sub v) e (fit-of rises w sub good k)
