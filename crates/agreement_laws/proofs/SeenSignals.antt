-- Signals down by kind: those that a hold sends for its program, and what each leaves of what is seen of a side and of its unit.
use Rattle.std.proofs.Common.{subst}
use Rattle.std.specs.Prelude.{◌≡◌, ◌<◌, refl, ℕ, ◌||◌, true, Option, Some, List, Contains}
use Rattle.chan_model.specs.declared.names.Side.{Side}
use Rattle.chan_model.specs.declared.names.Side.TheVariants.{First, Second}
use Rattle.chan_model.specs.declared.hold_state.HoldPhase.{HoldPhase}
use Rattle.chan_model.specs.declared.signal.Down.TheVariants as down
use Rattle.chan_model.specs.HoldTable.{is_connected}
use Rattle.chan_model.specs.Signals.{Down}
use Rattle.chan_model.specs.declared.unit_state.UnitState.{UnitState}
use Rattle.chan_model.specs.UnitTable.{resets, side_of}
use Rattle.agreement_laws.specs.HolderSeen.{Holding, side_seen, taken_after}
use Rattle.agreement_laws.specs.Invariant.{IsGood}
use Rattle.agreement_laws.specs.Links.{Links, link_of}
use Rattle.agreement_laws.specs.Moving.{IsOfProgram}
use Rattle.agreement_laws.specs.PathsSeen.{Connected, granted_on, way_of, TakesRight}
use Rattle.agreement_laws.specs.Sending.{is_away, is_on_path, may_send}

-- what a hold may send for its program
pub data IsSent (phase : HoldPhase) (p : ℕ) : Down → Type 0 where
  Commands : (t n code room : ℕ) → is_on_path phase t p ≡ true → IsSent phase p (down.Command t n code room)
  Answers : (t n s room : ℕ) → is_on_path phase t p ≡ true → IsSent phase p (down.Took t n s room)
  Gives : (bytes : List ℕ) (t c n s : ℕ) → is_connected phase p t c ≡ true → IsSent phase p (down.Give bytes t c n s)
  Halts : (t : ℕ) → (is_on_path phase t p || is_away phase t) ≡ true → IsSent phase p (down.Halt t)

pub sent-as : (phase : HoldPhase) (p : ℕ) (d : Down) → may_send phase p d ≡ true → IsSent phase p d
sent-as phase p (down.Command t n code room) may = Commands t n code room may
sent-as phase p (down.Took t n s room) may = Answers t n s room may
sent-as phase p (down.Give bytes t c n s) may = Gives bytes t c n s may
sent-as phase p (down.Halt t) may = Halts t may
sent-as phase p (down.Select t) may = absurd (cc may)
sent-as phase p (down.Grant t c) may = absurd (cc may)
sent-as phase p (down.Refuse t c) may = absurd (cc may)
sent-as phase p (down.Release t) may = absurd (cc may)
sent-as phase p (down.Reset r b) may = absurd (cc may)
sent-as phase p (down.Got a) may = absurd (cc may)

pub sent-of_program : (phase : HoldPhase) (p : ℕ) (d : Down) → IsSent phase p d → IsOfProgram d
sent-of_program phase p _ (Commands t n code room may) = tt
sent-of_program phase p _ (Answers t n s room may) = tt
sent-of_program phase p _ (Gives bytes t c n s may) = tt
sent-of_program phase p _ (Halts t may) = tt

-- signals that bring no path
abbrev pub IsPlainDown : Down → Type 0
IsPlainDown (down.Grant t c) = ⊥
IsPlainDown (down.Give bytes t c n s) = ⊥
IsPlainDown d = Unit {0}

pub plain-taken : (m : Option Connected) (p : ℕ) (d : Down) → IsPlainDown d → TakesRight m p d × (granted_on p d m ≡ m)
plain-taken m p (down.Select t) plain = (tt, refl)
plain-taken m p (down.Command t n code room) plain = (tt, refl)
plain-taken m p (down.Refuse t c) plain = (tt, refl)
plain-taken m p (down.Took t n s room) plain = (tt, refl)
plain-taken m p (down.Halt t) plain = (tt, refl)
plain-taken m p (down.Release t) plain = (tt, refl)
plain-taken m p (down.Reset r b) plain = (tt, refl)
plain-taken m p (down.Got a) plain = (tt, refl)
plain-taken m p (down.Grant t c) plain = absurd plain
plain-taken m p (down.Give bytes t c n s) plain = absurd plain

-- a signal that is not answered leaves the numbers that were
pub taken-number : (d : Down) (k : Holding) (side : Side) → (side_seen (taken_after d k) side).number ≡ (side_seen k side).number
taken-number (down.Command t n code room) k First = refl
taken-number (down.Command t n code room) k Second = refl
taken-number (down.Select t) k side = refl
taken-number (down.Grant t c) k side = refl
taken-number (down.Refuse t c) k side = refl
taken-number (down.Took t n s room) k side = refl
taken-number (down.Give bytes t c n s) k side = refl
taken-number (down.Halt t) k side = refl
taken-number (down.Release t) k side = refl
taken-number (down.Reset r b) k side = refl
taken-number (down.Got a) k side = refl

-- a signal that names a connection goes by the path by which the unit asked for it
abbrev pub IsDownTied : List Connected → ℕ → Down → Type 0
IsDownTied ks p (down.Grant t c) = way_of ks t c ≡ Some p
IsDownTied ks p (down.Give bytes t c n s) = way_of ks t c ≡ Some p
IsDownTied ks p d = Unit {0}

pub tied-more : (ks ls : List Connected) (p : ℕ) (d : Down) → ((t c : ℕ) → way_of ks t c ≡ Some p → way_of ls t c ≡ Some p) → IsDownTied ks p d → IsDownTied ls p d
tied-more ks ls p (down.Select t) more tied = tt
tied-more ks ls p (down.Command t n code room) more tied = tt
tied-more ks ls p (down.Grant t c) more tied = more t c tied
tied-more ks ls p (down.Refuse t c) more tied = tt
tied-more ks ls p (down.Took t n s room) more tied = tt
tied-more ks ls p (down.Give bytes t c n s) more tied = more t c tied
tied-more ks ls p (down.Halt t) more tied = tt
tied-more ks ls p (down.Release t) more tied = tt
tied-more ks ls p (down.Reset r b) more tied = tt
tied-more ks ls p (down.Got a) more tied = tt

-- a Reset that the unit would take is above the floor of its side, where the laws say so of one that may arrive
abbrev pub IsResetAbove : UnitState → Side → Down → Type 0
IsResetAbove u side d = (r b : ℕ) → d ≡ down.Reset r b → resets u side r b ≡ true → (side_of u side).floor < r

abbrev pub Rises : Type 0
Rises = (w : Links) (side : Side) (p r b : ℕ) → IsGood w → Contains (link_of w side).downs (record { path = p; signal = down.Reset r b }) →
    resets w.«unit» side r b ≡ true → (side_of w.«unit» side).floor < r

pub reset-above : Rises → (w : Links) (side : Side) (p : ℕ) (d : Down) → IsGood w → Contains (link_of w side).downs (record { path = p; signal = d }) → IsResetAbove w.«unit» side d
reset-above rises w side p d good there r b is e =
    rises w side p r b good (subst (λ (x : Down). Contains (link_of w side).downs (record { path = p; signal = x })) is there) e
