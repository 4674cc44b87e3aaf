-- What holds of a link means that both sides agree, and a reset that isn't yet taken ends only where the unit takes it.
use Rattle.std.proofs.Common.{◌≡◌, ℕ, ◌<◌, ◌⊎◌, inl, inr, Bool, true, false, Option, None, Some, refl, sym, ap, subst, arith}
use Rattle.std.specs.Prelude.{if◌then◌else◌}
use Rattle.std.proofs.lemmas.Bool.{cases_lt}
use Rattle.chan_model.specs.declared.names.Side.{Side}
use Rattle.chan_model.specs.declared.hold_state.HoldPhase.{HoldPhase}
use Rattle.chan_model.specs.declared.hold_state.HoldPhase.TheVariants as hold
use Rattle.chan_model.specs.declared.signal.OnPath.{OnPath}
use Rattle.chan_model.specs.Signals.{Down}
use Rattle.chan_model.specs.Signals.{Up}
use Rattle.chan_model.specs.declared.signal.Up.TheVariants as up
use Rattle.chan_model.specs.declared.unit_state.Own.{Own}
use Rattle.chan_model.specs.declared.unit_state.Own.TheVariants as own
use Rattle.chan_model.specs.declared.unit_state.Connection.{Connection}
use Rattle.chan_model.specs.declared.unit_state.Connection.TheVariants.{On, Ask}
use Rattle.chan_model.specs.Sides.{same_side}
use Rattle.chan_model.specs.Agreement.{Agrees, owner_of, IsAboveFloor}
use Rattle.agreement_laws.proofs.Clearing.{IsAnswered}
use Rattle.agreement_laws.specs.Invariant.{Idle, Fresh, Owns, Ends, ends_seen, seen_by, IsSelectGood, IsResetTo, AreEndsGood}
use Rattle.agreement_laws.proofs.HoldKeeps.{HoldMoves}
use Rattle.agreement_laws.proofs.HoldKeeps as holds
use Rattle.agreement_laws.proofs.UnitKeeps.{UnitMoves}
use Rattle.agreement_laws.proofs.UnitKeeps as units

-- a reset that isn't yet taken, at both ends
abbrev pub IsDue : Ends → Type 0
IsDue e = (e.seen ≡ Fresh) ⊎ IsAboveFloor e.phase e.floor

pub due-hold : (e x : Ends) (sent : Option (OnPath Down)) → AreEndsGood e → HoldMoves e x sent → IsAboveFloor e.phase e.floor → IsAboveFloor x.phase x.floor
due-hold _ _ _ g (holds.Stays e sent plain) d = d
due-hold _ _ _ g (holds.Offered n s k b f o p) d = absurd d
due-hold _ _ _ g (holds.Resets n h s k j b f o kj jb) d = omega (arith, g.floor)
due-hold _ _ _ g (holds.Sends_reset n r s k b f o p) d = d
due-hold _ _ _ g (holds.Lets_go n t p c s k b f o) d = d
due-hold _ _ _ g (holds.Goes_on n t p s k b f o tf a) d = d
due-hold _ _ _ g (holds.Is_over n t p s k b f o tf) d = d
due-hold _ _ _ g (holds.Is_busy n t p s k b f o tf a) d = d
due-hold _ _ _ g (holds.Is_left n t p c s k b f o) d = d
due-hold _ _ _ g (holds.Grants n t p c s k b f o lt a) d = d
due-hold _ _ _ g (holds.Refuses_on n t q d' p c s k b f o lt a) d = d
due-hold _ _ _ g (holds.Refuses_away n t p c s k b f o lt a) d = d
due-hold _ _ _ g (holds.Is_released n t p s k b f o a) d = d
due-hold _ _ _ g (holds.Is_cleared n r s k b f o le) d = omega (arith, le, d)

-- a Select that is taken leaves the hold's reset above the floor
raised-below : (h : HoldPhase) (f p t : ℕ) → f < t → IsSelectGood h f p t → IsAboveFloor h f → IsAboveFloor h t
raised-below hold.Free f p t lt y d = d
raised-below (hold.Offer u q) f p t lt y d = d
raised-below (hold.On u q c) f p t lt y d = d
raised-below (hold.Away u) f p t lt y d = d
raised-below (hold.Letting u q) f p t lt y d = d
raised-below (hold.Reset r) f p t lt y d = elim y [ inl z ↦ absurd (omega arith) | inr z ↦ z ]

idle-fresh : Idle ≡ Fresh → ⊥
idle-fresh e = cc

owns-fresh : (t : ℕ) (connection : Connection) → Owns t connection ≡ Fresh → ⊥
owns-fresh t connection e = cc

-- the unit takes a Reset: it is the hold's, or an older one
cleared-due : (h : HoldPhase) (n s k b p r : ℕ) → IsResetTo h r →
    IsDue (ends_seen n h s k b r Idle) ⊎ (IsAnswered h (units.by_path p (up.Cleared r)) × (Idle ≡ Idle))
cleared-due hold.Free n s k b p r to = absurd to
cleared-due (hold.Offer u q) n s k b p r to = absurd to
cleared-due (hold.On u q c) n s k b p r to = absurd to
cleared-due (hold.Away u) n s k b p r to = absurd to
cleared-due (hold.Letting u q) n s k b p r to = absurd to
cleared-due (hold.Reset v) n s k b p r to = elim (cases_lt r v) [
  | inl y ↦ inl (inr y)
  | inr y ↦ let same : r ≡ v = omega arith in inr (ap (λ (w : ℕ). up.Cleared w) same, refl)
]

pub due-unit : (e x : Ends) (sent : Option (OnPath Up)) → AreEndsGood e → UnitMoves e x sent → IsDue e → IsDue x ⊎ (IsAnswered e.phase sent × (x.seen ≡ Idle))
due-unit _ _ _ g (units.Stays e x sent same plain) d = inl (subst IsDue (sym same) d)
due-unit _ _ _ g (units.Accepts n h s k b f p t lt tn y) d = elim d [ inl z ↦ absurd (idle-fresh z) | inr z ↦ inl (inr (raised-below h f p t lt y z)) ]
due-unit _ _ _ g (units.Is_busy n h s k b f p t o i lt tn y) d = elim d [ inl z ↦ inl (inl z) | inr z ↦ inl (inr (raised-below h f p t lt y z)) ]
due-unit _ _ _ g (units.Is_granted n h s k b f t q c y) d = elim d [ inl z ↦ absurd (owns-fresh t (Ask q c) z) | inr z ↦ inl (inr z) ]
due-unit _ _ _ g (units.Is_refused n h s k b f t q c) d = elim d [ inl z ↦ absurd (owns-fresh t (Ask q c) z) | inr z ↦ inl (inr z) ]
due-unit _ _ _ g (units.Releases n h s k b f p t connection y) d = elim d [ inl z ↦ absurd (owns-fresh t connection z) | inr z ↦ inl (inr z) ]
due-unit _ _ _ g (units.Clears n h s k b f p r o lt rn to) d = cleared-due h n s k b p r to
due-unit _ _ _ g (units.Leaves n h s k b f t q c p e) d = elim d [ inl z ↦ absurd (owns-fresh t (On q c) z) | inr z ↦ inl (inr z) ]
due-unit _ _ _ g (units.Asks n h s k b f t p c connection i) d = elim d [ inl z ↦ absurd (owns-fresh t connection z) | inr z ↦ inl (inr z) ]
due-unit _ _ _ g (units.Restarts n h s k b f o) d = inl (inl refl)
due-unit _ _ _ g (units.Tells n h s k b f p o) d = inl d

-- what the ends say of the side of a unit
pub fresh-seen : (fresh : Bool) (o : Own) (side : Side) → fresh ≡ true → seen_by fresh o side ≡ Fresh
fresh-seen true o side e = refl
fresh-seen false o side e = cc

own-not-fresh : (k side : Side) (t : ℕ) (connection : Connection) (same : Bool) → same_side k side ≡ same → (if same then Owns t connection else Idle) ≡ Fresh → ⊥
own-not-fresh k side t connection true i e = cc
own-not-fresh k side t connection false i e = cc

pub seen-fresh : (fresh : Bool) (o : Own) (side : Side) → seen_by fresh o side ≡ Fresh → fresh ≡ true
seen-fresh true o side e = refl
seen-fresh false own.Idle side e = cc
seen-fresh false (own.Owned k t connection) side e = absurd (own-not-fresh k side t connection (same_side k side) refl e)

no-owner : (k side : Side) (t : ℕ) (connection : Connection) (same : Bool) → (if same then Owns t connection else Idle) ≡ Idle → (if same then Some t else None) ≡ None
no-owner k side t connection true e = cc
no-owner k side t connection false e = refl

pub idle-owner : (fresh : Bool) (o : Own) (side : Side) → seen_by fresh o side ≡ Idle → owner_of o side ≡ None
idle-owner true o side e = cc
idle-owner false own.Idle side e = refl
idle-owner false (own.Owned k t connection) side e = no-owner k side t connection (same_side k side) e

-- where a Reset was taken, they agree
pub cleared-agrees : (h : HoldPhase) (sent : Option (OnPath Up)) (owner : Option ℕ) → IsAnswered h sent → owner ≡ None → Agrees h owner
cleared-agrees hold.Free sent owner c e = absurd c
cleared-agrees (hold.Offer u q) sent owner c e = absurd c
cleared-agrees (hold.On u q d) sent owner c e = absurd c
cleared-agrees (hold.Away u) sent owner c e = absurd c
cleared-agrees (hold.Letting u q) sent owner c e = absurd c
cleared-agrees (hold.Reset r) sent owner c e = e
