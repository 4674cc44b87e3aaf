-- What a unit does by its table is a move at the side that it concerns, and nothing at the other.
use Rattle.std.proofs.Common.{◌≡◌, ℕ, ◌+◌, ◌<◌, ◌==◌, ◌&&◌, Bool, true, false, nat_lt, Option, None, Some, List, refl, sym, ◌∙◌, ap, subst}
use Rattle.std.specs.Prelude.{if◌then◌else◌}
use Rattle.std.proofs.lemmas.Bool.{eqb-true, ltb-true, and_parts}
use Rattle.chan_model.specs.declared.names.Side.{Side}
use Rattle.chan_model.specs.declared.names.Side.TheVariants.{First, Second}
use Rattle.chan_model.specs.declared.hold_state.HoldState.{HoldState}
use Rattle.chan_model.specs.declared.signal.OnPath.{OnPath}
use Rattle.chan_model.specs.Signals.{Load}
use Rattle.chan_model.specs.Signals.{Down}
use Rattle.chan_model.specs.declared.signal.Down.TheVariants as down
use Rattle.chan_model.specs.Signals.{Up}
use Rattle.chan_model.specs.declared.signal.Up.TheVariants as up
use Rattle.chan_model.specs.declared.unit_state.CurrentCommand.{CurrentCommand}
use Rattle.chan_model.specs.declared.unit_state.Attention.{Attention}
use Rattle.chan_model.specs.declared.unit_state.Own.{Own}
use Rattle.chan_model.specs.declared.unit_state.Own.TheVariants as own
use Rattle.chan_model.specs.declared.unit_state.Connection.{Connection}
use Rattle.chan_model.specs.declared.unit_state.Connection.TheVariants.{On, Ask, Away}
use Rattle.chan_model.specs.declared.unit_state.SideState.{SideState}
use Rattle.chan_model.specs.declared.unit_state.UnitState.{UnitState}
use Rattle.chan_model.specs.Sides.{same_side}
use Rattle.chan_model.specs.UnitTable.{UnitStep, changes, sends, side_of, is_owner, owns, freed, raised, selected, given_next, answered_load, answered_last, granted_at, granted, grant_refused_at, grant_refused, forgetting, telling, unit_after}
use Rattle.chan_model.proofs.OneSide.{one-side}
use Rattle.agreement_laws.specs.Moving.{sent_by}
use Rattle.agreement_laws.specs.Invariant.{Owns, Ends, ends_seen, ends_of, seen_by, seen_own, IsGrantGood, IsDownGood, IsFreshFree}
use Rattle.agreement_laws.proofs.UnitKeeps.{IsNotFresh, UnitMoves, Stays, Accepts, Is_busy, Is_granted, Is_refused, Releases, Tells, IsPlainSent}

abbrev pub other_of : Side → Side
other_of First = Second
other_of Second = First

-- from a unit to another, with what is sent to a side: at this side a move, where what was taken is good there; at the
-- other nothing; and a side that is fresh still holds no device
pub record IsMove (side : Side) (u v : UnitState) (x : Option (OnPath Up)) (P : Ends → Type 0) : Type 0 where
  pub here : (n : ℕ) (h : HoldState) → P (ends_of n h u side) → UnitMoves (ends_of n h u side) (ends_of n h v side) x
  pub there : (n : ℕ) (h : HoldState) → ends_of n h v (other_of side) ≡ ends_of n h u (other_of side)
  pub free_here : IsFreshFree u side → IsFreshFree v side
  pub free_there : IsFreshFree u (other_of side) → IsFreshFree v (other_of side)

abbrev pub IsStep : Side → UnitState → Option UnitStep → (Ends → Type 0) → Type 0
IsStep side u step P = IsMove side u (unit_after u step) (sent_by step) P

-- what no link sees
pub nothing : (side : Side) (u : UnitState) (P : Ends → Type 0) → IsStep side u None P
nothing side u P = record { here = λ n h g. Stays _ _ None refl tt; there = λ n h. refl; free_here = λ f. f; free_there = λ f. f }

pub unseen : (side : Side) (u v : UnitState) (x : Option (OnPath Up)) (P : Ends → Type 0) → v.restarts ≡ u.restarts → v.first ≡ u.first → v.second ≡ u.second → v.own ≡ u.own → IsPlainSent x → IsMove side u v x P
unseen side u v x P restarts first second o plain =
    let same : (n : ℕ) (h : HoldState) (k : Side) → ends_of n h v k ≡ ends_of n h u k = same_ends in
    record { here = λ n h g. Stays _ _ x (same n h side) plain; there = λ n h. same n h (other_of side); free_here = free_as side; free_there = free_as (other_of side) }
  where
    same_side_of : (k : Side) → side_of v k ≡ side_of u k
    same_side_of First = first
    same_side_of Second = second

    same_ends : (n : ℕ) (h : HoldState) (k : Side) → ends_of n h v k ≡ ends_of n h u k
    same_ends n h k =
        ap (λ b. ends_seen n h.phase h.seen h.known_restarts b (side_of v k).floor (seen_by (side_of v k).fresh v.own k)) restarts
        ∙ (ap (λ (s : SideState). ends_seen n h.phase h.seen h.known_restarts u.restarts s.floor (seen_by s.fresh v.own k)) (same_side_of k)
        ∙ ap (λ w. ends_seen n h.phase h.seen h.known_restarts u.restarts (side_of u k).floor (seen_by (side_of u k).fresh w k)) o)

    free_as : (k : Side) → IsFreshFree u k → IsFreshFree v k
    free_as k f = λ e. ap (λ w. owns w k) o ∙ f (sym (ap (λ (s : SideState). s.fresh) (same_side_of k)) ∙ e)

pub unseen-if : (side : Side) (u v : UnitState) (b : Bool) (P : Ends → Type 0) → v.restarts ≡ u.restarts → v.first ≡ u.first → v.second ≡ u.second → v.own ≡ u.own → IsStep side u (if b then changes v else None) P
unseen-if side u v true P restarts first second o = unseen side u v None P restarts first second o tt
unseen-if side u v false P restarts first second o = nothing side u P

-- the unit, held so, with this side and the other
abbrev pub at : Side → UnitState → Own → SideState → SideState → UnitState
at First u o mine theirs = record u { own = o; first = mine; second = theirs }
at Second u o mine theirs = record u { own = o; first = theirs; second = mine }

abbrev pub working : ℕ → SideState
working f = record { floor = f; fresh = false }

abbrev pub marked : ℕ → SideState
marked f = record { floor = f; fresh = true }

abbrev pub IsGiven : ℕ → Down → Ends → Type 0
IsGiven p d e = IsDownGood e p d

-- Select, above the floor: where nothing holds the device it may be accepted
selected-accepts : (side : Side) (u : UnitState) (f : ℕ) (y : SideState) (p t : ℕ) → f < t →
    IsMove side (at side u own.Idle (working f) y)
    (unit_after (raised (at side u own.Idle (working f) y) side t) (selected (raised (at side u own.Idle (working f) y) side t) own.Idle side p t true))
    (sent_by (selected (raised (at side u own.Idle (working f) y) side t) own.Idle side p t true)) (IsGiven p (down.Select t))
selected-accepts First u f y p t lt =
    record {
      here = λ n h g. Accepts n h.phase h.seen h.known_restarts u.restarts f p t lt g.0 g.1;
      there = λ n h. refl;
      free_here = λ m e. cc;
      free_there = λ m e. refl;
    }
selected-accepts Second u f y p t lt =
    record {
      here = λ n h g. Accepts n h.phase h.seen h.known_restarts u.restarts f p t lt g.0 g.1;
      there = λ n h. refl;
      free_here = λ m e. cc;
      free_there = λ m e. refl;
    }

-- whoever holds the device, it may be answered by Busy
seen-plain : (o : Own) (side : Side) → IsNotFresh (seen_own o side)
seen-plain own.Idle First = tt
seen-plain own.Idle Second = tt
seen-plain (own.Owned First v connection) First = tt
seen-plain (own.Owned First v connection) Second = tt
seen-plain (own.Owned Second v connection) First = tt
seen-plain (own.Owned Second v connection) Second = tt

selected-busy : (side : Side) (u : UnitState) (o : Own) (f : ℕ) (y : SideState) (p t : ℕ) → f < t →
    IsMove side (at side u o (working f) y) (raised (at side u o (working f) y) side t) (Some (record { path = p; signal = up.Busy t }))
    (IsGiven p (down.Select t))
selected-busy First u o f y p t lt = record {
  here = λ n h g. Is_busy n h.phase h.seen h.known_restarts u.restarts f p t (seen_own o First) (seen-plain o First) lt g.0 g.1;
  there = λ n h. refl;
  free_here = λ m e. cc;
  free_there = λ m. m;
}
selected-busy Second u o f y p t lt = record {
  here = λ n h g. Is_busy n h.phase h.seen h.known_restarts u.restarts f p t (seen_own o Second) (seen-plain o Second) lt g.0 g.1;
  there = λ n h. refl;
  free_here = λ m e. cc;
  free_there = λ m. m;
}

selected-steps : (side : Side) (u : UnitState) (o : Own) (f : ℕ) (y : SideState) (p t : ℕ) (may : Bool) → f < t →
    IsMove side (at side u o (working f) y) (unit_after (at side u o (working f) y) (selected (raised (at side u o (working f) y) side t) o side p t may))
    (sent_by (selected (raised (at side u o (working f) y) side t) o side p t may)) (IsGiven p (down.Select t))
selected-steps side u own.Idle f y p t true lt = selected-accepts side u f y p t lt
selected-steps side u own.Idle f y p t false lt = selected-busy side u own.Idle f y p t lt
selected-steps side u (own.Owned k v connection) f y p t may lt = selected-busy side u (own.Owned k v connection) f y p t lt

pub select-steps : (side : Side) (u : UnitState) (o : Own) (f : ℕ) (y : SideState) (p t : ℕ) (may above : Bool) → nat_lt f t ≡ above →
    IsStep side (at side u o (working f) y) (if above then selected (raised (at side u o (working f) y) side t) o side p t may else None) (IsGiven p (down.Select t))
select-steps side u o f y p t may true e = selected-steps side u o f y p t may (ltb-true f t e)
select-steps side u o f y p t may false e = nothing side (at side u o (working f) y) (IsGiven p (down.Select t))

pub step-if : (side : Side) (u : UnitState) (b : Bool) (step : Option UnitStep) (P : Ends → Type 0) → IsStep side u step P → IsStep side u (if b then step else None) P
step-if side u true step P s = s
step-if side u false step P s = nothing side u P

-- Give and Took: what no link sees
pub given-steps : (side : Side) (u : UnitState) (x : Option CurrentCommand) (s : ℕ) (bytes : List ℕ) (P : Ends → Type 0) → IsStep side u (given_next u x s bytes) P
given-steps side u None s bytes P = nothing side u P
given-steps side u (Some x) s bytes P = unseen-if side u _ (s == x.sequence + 1) P refl refl refl refl

answered_load-steps : (side : Side) (u : UnitState) (x : CurrentCommand) (load : Option Load) (room : ℕ) (P : Ends → Type 0) → IsStep side u (answered_load u x load room) P
answered_load-steps side u x None room P = nothing side u P
answered_load-steps side u x (Some load) room P = unseen side u _ None P refl refl refl refl tt

pub answered-steps : (side : Side) (u : UnitState) (x : Option CurrentCommand) (s room : ℕ) (P : Ends → Type 0) → IsStep side u (answered_last u x s room) P
answered-steps side u None s room P = nothing side u P
answered-steps side u (Some x) s room P = step-if side u (s == x.sequence) _ P (answered_load-steps side u x x.unanswered room P)

pub forgetting-steps : (side : Side) (u : UnitState) (x : Option Attention) (a : ℕ) (P : Ends → Type 0) → IsStep side u (forgetting u x side a) P
forgetting-steps side u None a P = nothing side u P
forgetting-steps side u (Some x) a P = unseen-if side u _ (same_side x.side side && (a == x.number)) P refl refl refl refl

late-steps : (side : Side) (u : UnitState) (v p c : ℕ) (late : Bool) (P : Ends → Type 0) → IsStep side u (if late then sends u p (up.Leave v c) else None) P
late-steps side u v p c late P = step-if side u late _ P (unseen side u u _ P refl refl refl refl tt)

-- where the program that holds the device is, is changed at its side alone
connection-moves : (side : Side) (u : UnitState) (v : ℕ) (old new : Connection) (f : ℕ) (y : SideState) (P : Ends → Type 0) →
    ((n : ℕ) (h : HoldState) → P (ends_seen n h.phase h.seen h.known_restarts u.restarts f (Owns v old)) →
    UnitMoves (ends_seen n h.phase h.seen h.known_restarts u.restarts f (Owns v old)) (ends_seen n h.phase h.seen h.known_restarts u.restarts f (Owns v new)) None) →
    IsMove side (at side u (own.Owned side v old) (working f) y) (at side u (own.Owned side v new) (working f) y) None P
connection-moves First u v old new f y P moves = record { here = moves; there = λ n h. refl; free_here = λ m w. cc; free_there = λ m. m }
connection-moves Second u v old new f y P moves = record { here = moves; there = λ n h. refl; free_here = λ m w. cc; free_there = λ m. m }

-- Grant, of the program that holds the device
granted-ask : (side : Side) (u : UnitState) (v q d f : ℕ) (y : SideState) (p c : ℕ) (same : Bool) → (c == d) ≡ same →
    IsStep side (at side u (own.Owned side v (Ask q d)) (working f) y)
    (if same then changes (at side u (own.Owned side v (On q d)) (working f) y)
    else (if nat_lt c d then sends (at side u (own.Owned side v (Ask q d)) (working f) y) p (up.Leave v c) else None))
    (IsGiven p (down.Grant v c))
granted-ask side u v q d f y p c true e =
    connection-moves side u v (Ask q d) (On q d) f y (IsGiven p (down.Grant v c)) (λ n h g.
    Is_granted n h.phase h.seen h.known_restarts u.restarts f v q d (subst (λ (x : ℕ). IsGrantGood h.phase h.seen (Owns v (Ask q d)) v x) (eqb-true c d e) g.1))
granted-ask side u v q d f y p c false e = late-steps side (at side u (own.Owned side v (Ask q d)) (working f) y) v p c (nat_lt c d) (IsGiven p (down.Grant v c))

granted_at-steps : (side : Side) (u : UnitState) (v : ℕ) (connection : Connection) (f : ℕ) (y : SideState) (p c : ℕ) →
    IsStep side (at side u (own.Owned side v connection) (working f) y) (granted_at (at side u (own.Owned side v connection) (working f) y) side v connection p c) (IsGiven p (down.Grant v c))
granted_at-steps First u v (On q d) f y p c = late-steps First _ v p c (nat_lt c d) (IsGiven p (down.Grant v c))
granted_at-steps First u v (Ask q d) f y p c = granted-ask First u v q d f y p c (c == d) refl
granted_at-steps First u v (Away d) f y p c = late-steps First _ v p c (nat_lt c d) (IsGiven p (down.Grant v c))
granted_at-steps Second u v (On q d) f y p c = late-steps Second _ v p c (nat_lt c d) (IsGiven p (down.Grant v c))
granted_at-steps Second u v (Ask q d) f y p c = granted-ask Second u v q d f y p c (c == d) refl
granted_at-steps Second u v (Away d) f y p c = late-steps Second _ v p c (nat_lt c d) (IsGiven p (down.Grant v c))

-- a step that is taken where this side and number hold the device
owner-steps : (side : Side) (u : UnitState) (k : Side) (v : ℕ) (connection : Connection) (x y : SideState) (t : ℕ) (is : Bool) (step : UnitState → Side → ℕ → Option UnitStep) (P : ℕ → Ends → Type 0) →
    (same_side k side && (t == v)) ≡ is →
    IsStep side (at side u (own.Owned side v connection) x y) (step (at side u (own.Owned side v connection) x y) side v) (P v) →
    IsStep side (at side u (own.Owned k v connection) x y) (if is then step (at side u (own.Owned k v connection) x y) k v else None) (P t)
owner-steps side u k v connection x y t true step P e s =
    let both : (same_side k side ≡ true) × ((t == v) ≡ true) = and_parts (same_side k side) (t == v) e in
    let sides : side ≡ k = sym (one-side k side both.0) in
    let numbers : v ≡ t = sym (eqb-true t v both.1) in
    subst (λ (w : ℕ). IsStep side (at side u (own.Owned k v connection) x y) (step (at side u (own.Owned k v connection) x y) k v) (P w)) numbers
    (subst (λ (j : Side). IsStep side (at side u (own.Owned j v connection) x y) (step (at side u (own.Owned j v connection) x y) j v) (P v)) sides s)
owner-steps side u k v connection x y t false step P e s = nothing side (at side u (own.Owned k v connection) x y) (P t)

pub granted-steps : (side : Side) (u : UnitState) (o : Own) (f : ℕ) (y : SideState) (p t c : ℕ) →
    IsStep side (at side u o (working f) y) (granted (at side u o (working f) y) o side p t c) (IsGiven p (down.Grant t c))
granted-steps side u own.Idle f y p t c = nothing side (at side u own.Idle (working f) y) (IsGiven p (down.Grant t c))
granted-steps side u (own.Owned k v connection) f y p t c =
    owner-steps side u k v connection (working f) y t (same_side k side && (t == v)) (λ w j x. granted_at w j x connection p c) (λ x. IsGiven p (down.Grant x c)) refl
    (granted_at-steps side u v connection f y p c)

-- Refuse, of the connection asked for
refused_ask-steps : (side : Side) (u : UnitState) (v q d f : ℕ) (y : SideState) (same : Bool) (P : Ends → Type 0) →
    IsStep side (at side u (own.Owned side v (Ask q d)) (working f) y) (if same then changes (at side u (own.Owned side v (Away d)) (working f) y) else None) P
refused_ask-steps side u v q d f y true P =
    connection-moves side u v (Ask q d) (Away d) f y P (λ n h g. Is_refused n h.phase h.seen h.known_restarts u.restarts f v q d)
refused_ask-steps side u v q d f y false P = nothing side (at side u (own.Owned side v (Ask q d)) (working f) y) P

refused_at-steps : (side : Side) (u : UnitState) (v : ℕ) (connection : Connection) (f : ℕ) (y : SideState) (c : ℕ) (P : Ends → Type 0) →
    IsStep side (at side u (own.Owned side v connection) (working f) y) (grant_refused_at (at side u (own.Owned side v connection) (working f) y) side v connection c) P
refused_at-steps side u v (On q d) f y c P = nothing side (at side u (own.Owned side v (On q d)) (working f) y) P
refused_at-steps First u v (Ask q d) f y c P = refused_ask-steps First u v q d f y (c == d) P
refused_at-steps Second u v (Ask q d) f y c P = refused_ask-steps Second u v q d f y (c == d) P
refused_at-steps side u v (Away d) f y c P = nothing side (at side u (own.Owned side v (Away d)) (working f) y) P

pub refused-steps : (side : Side) (u : UnitState) (o : Own) (f : ℕ) (y : SideState) (p t c : ℕ) →
    IsStep side (at side u o (working f) y) (grant_refused (at side u o (working f) y) o side t c) (IsGiven p (down.Refuse t c))
refused-steps side u own.Idle f y p t c = nothing side (at side u own.Idle (working f) y) (IsGiven p (down.Refuse t c))
refused-steps side u (own.Owned k v connection) f y p t c =
    owner-steps side u k v connection (working f) y t (same_side k side && (t == v)) (λ w j x. grant_refused_at w j x connection c) (λ x. IsGiven p (down.Refuse x c)) refl
    (refused_at-steps side u v connection f y c (IsGiven p (down.Refuse v c)))

-- Release, by the program that holds the device
released-steps : (side : Side) (u : UnitState) (v : ℕ) (connection : Connection) (f : ℕ) (y : SideState) (p : ℕ) →
    IsStep side (at side u (own.Owned side v connection) (working f) y) (sends (freed (at side u (own.Owned side v connection) (working f) y)) p (up.Released v)) (IsGiven p (down.Release v))
released-steps First u v connection f y p =
    record { here = λ n h g. Releases n h.phase h.seen h.known_restarts u.restarts f p v connection g.1; there = λ n h. refl; free_here = λ m w. refl; free_there = λ m w. refl }
released-steps Second u v connection f y p =
    record { here = λ n h g. Releases n h.phase h.seen h.known_restarts u.restarts f p v connection g.1; there = λ n h. refl; free_here = λ m w. refl; free_there = λ m w. refl }

owned-releases : (side : Side) (u : UnitState) (k : Side) (v : ℕ) (connection : Connection) (f : ℕ) (y : SideState) (p t : ℕ) (is : Bool) → (same_side k side && (t == v)) ≡ is →
    IsStep side (at side u (own.Owned k v connection) (working f) y) (if is then sends (freed (at side u (own.Owned k v connection) (working f) y)) p (up.Released t) else None) (IsGiven p (down.Release t))
owned-releases side u k v connection f y p t true e =
    let both : (same_side k side ≡ true) × ((t == v) ≡ true) = and_parts (same_side k side) (t == v) e in
    let sides : side ≡ k = sym (one-side k side both.0) in
    let numbers : v ≡ t = sym (eqb-true t v both.1) in
    subst (λ (w : ℕ). IsStep side (at side u (own.Owned k v connection) (working f) y) (sends (freed (at side u (own.Owned k v connection) (working f) y)) p (up.Released w)) (IsGiven p (down.Release w))) numbers
    (subst (λ (j : Side). IsStep side (at side u (own.Owned j v connection) (working f) y) (sends (freed (at side u (own.Owned j v connection) (working f) y)) p (up.Released v)) (IsGiven p (down.Release v))) sides
    (released-steps side u v connection f y p))
owned-releases side u k v connection f y p t false e = nothing side (at side u (own.Owned k v connection) (working f) y) (IsGiven p (down.Release t))

pub releasing-steps : (side : Side) (u : UnitState) (o : Own) (f : ℕ) (y : SideState) (p t : ℕ) →
    IsStep side (at side u o (working f) y) (if is_owner o side t then sends (freed (at side u o (working f) y)) p (up.Released t) else None) (IsGiven p (down.Release t))
releasing-steps side u own.Idle f y p t = nothing side (at side u own.Idle (working f) y) (IsGiven p (down.Release t))
releasing-steps side u (own.Owned k v connection) f y p t = owned-releases side u k v connection f y p t (same_side k side && (t == v)) refl

-- in a side that is fresh
pub telling-steps : (side : Side) (u : UnitState) (p : ℕ) (P : Ends → Type 0) → IsStep side u (telling u p) P
telling-steps side u p P =
    record {
      here = λ n h g. Tells n h.phase h.seen h.known_restarts u.restarts (side_of u side).floor p (seen_by (side_of u side).fresh u.own side);
      there = λ n h. refl;
      free_here = λ m. m;
      free_there = λ m. m;
    }
