-- Whether a signal is answered: neither its path nor what the control unit may do decides that.
use Rattle.std.proofs.Common.{◌≡◌, ◌+◌, ◌==◌, ◌&&◌, ℕ, Bool, true, false, if◌then◌else◌, nat_lt, is_some, Option, None, Some, refl, sym, ◌∙◌}
use Rattle.chan_model.specs.declared.names.Side.{Side}
use Rattle.chan_model.specs.Signals.{Down, map_sent}
use Rattle.chan_model.specs.declared.signal.OnPath.{OnPath}
use Rattle.chan_model.specs.declared.signal.Down.TheVariants.{Select, Command, Grant, Refuse, Took, Give, Halt, Release, Reset, Got}
use Rattle.chan_model.specs.declared.unit_state.Connection.{Connection}
use Rattle.chan_model.specs.declared.unit_state.Connection.TheVariants.{On, Ask, Away}
use Rattle.chan_model.specs.declared.unit_state.Own.{Own}
use Rattle.chan_model.specs.declared.unit_state.Own.TheVariants.{Idle, Owned}
use Rattle.chan_model.specs.declared.unit_state.UnitState.{UnitState}
use Rattle.chan_model.specs.Sides.{same_side}
use Rattle.chan_model.specs.UnitTable.{UnitStep, outcome_of, side_of, is_owner, raised, resets, selected, granted, granted_at, unit_takes}
use Rattle.unit.specs.UnitWords.{is_unit_answered}

-- a signal is sent whatever stands for it
pub is_some-map_sent : {A B : Type 0} (f : A → B) (sent : Option (OnPath A)) → is_some (map_sent f sent) ≡ is_some sent
is_some-map_sent f None = refl
is_some-map_sent f (Some s) = refl

-- the step sends a signal
abbrev pub sends_one : Option UnitStep → Bool
sends_one step = is_some (outcome_of step).sent

pub sends_one-if : (b : Bool) (s t s' t' : Option UnitStep) → sends_one s ≡ sends_one s' → sends_one t ≡ sends_one t'
    → sends_one (if b then s else t) ≡ sends_one (if b then s' else t')
sends_one-if true s t s' t' e f = e
sends_one-if false s t s' t' e f = f

pub sends_one-selected : (u : UnitState) (own : Own) (side : Side) (p t : ℕ) (may : Bool) → sends_one (selected u own side p t may) ≡ true
sends_one-selected u Idle side p t true = refl
sends_one-selected u Idle side p t false = refl
sends_one-selected u (Owned k v connection) side p t may = refl

pub sends_one-granted_at : (u : UnitState) (side : Side) (t : ℕ) (connection : Connection) (p q c : ℕ)
    → sends_one (granted_at u side t connection p c) ≡ sends_one (granted_at u side t connection q c)
sends_one-granted_at u side t (Ask r d) p q c =
    sends_one-if (c == d) _ _ _ _ refl (sends_one-if (nat_lt c d) _ _ _ _ refl refl)
sends_one-granted_at u side t (On r d) p q c = sends_one-if (nat_lt c d) _ _ _ _ refl refl
sends_one-granted_at u side t (Away d) p q c = sends_one-if (nat_lt c d) _ _ _ _ refl refl

pub sends_one-granted : (u : UnitState) (own : Own) (side : Side) (p q t c : ℕ)
    → sends_one (granted u own side p t c) ≡ sends_one (granted u own side q t c)
sends_one-granted u Idle side p q t c = refl
sends_one-granted u (Owned k v connection) side p q t c =
    sends_one-if (same_side k side && (t == v)) _ _ _ _ (sends_one-granted_at u k v connection p q c) refl

pub sends_one-unit_takes : (u : UnitState) (side : Side) (p : ℕ) (d : Down) (may : Bool)
    → sends_one (unit_takes u side p d may) ≡ is_unit_answered u side d
sends_one-unit_takes u side p (Select t) may =
    sends_one-if (side_of u side).fresh _ _ _ _ refl
    (sends_one-if (nat_lt (side_of u side).floor t) _ _ _ _
    (sends_one-selected (raised u side t) u.own side p t may ∙ sym (sends_one-selected (raised u side t) u.own side 0 t false)) refl)
sends_one-unit_takes u side p (Command t n code room) may =
    sends_one-if (side_of u side).fresh _ _ _ _ refl
    (sends_one-if (is_owner u.own side t && (n == u.last_command + 1)) _ _ _ _ refl refl)
sends_one-unit_takes u side p (Grant t c) may =
    sends_one-if (side_of u side).fresh _ _ _ _ refl (sends_one-granted u u.own side p 0 t c)
sends_one-unit_takes u side p (Refuse t c) may = sends_one-if (side_of u side).fresh _ _ _ _ refl refl
sends_one-unit_takes u side p (Took t n s room) may = sends_one-if (side_of u side).fresh _ _ _ _ refl refl
sends_one-unit_takes u side p (Give bytes t c n s) may = sends_one-if (side_of u side).fresh _ _ _ _ refl refl
sends_one-unit_takes u side p (Halt t) may = sends_one-if (side_of u side).fresh _ _ _ _ refl refl
sends_one-unit_takes u side p (Release t) may =
    sends_one-if (side_of u side).fresh _ _ _ _ refl (sends_one-if (is_owner u.own side t) _ _ _ _ refl refl)
sends_one-unit_takes u side p (Reset r b) may =
    sends_one-if (resets u side r b) _ _ _ _ refl (sends_one-if (side_of u side).fresh _ _ _ _ refl refl)
sends_one-unit_takes u side p (Got a) may = sends_one-if (side_of u side).fresh _ _ _ _ refl refl
