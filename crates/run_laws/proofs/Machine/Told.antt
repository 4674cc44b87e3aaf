-- What the hold of a subchannel remembers of the program that it offered, and that a program is asked for and accepted on the path
-- of its offer.
use Rattle.std.proofs.Common.{◌≡◌, ℕ, ◌≤◌, Option, None, List, arith}
use Rattle.chan_model.specs.declared.hold_state.HoldPhase.{HoldPhase}
use Rattle.chan_model.specs.declared.hold_state.HoldPhase.TheVariants as hold
use Rattle.chan_model.specs.Signals.{Down, Up}
use Rattle.chan_model.specs.declared.signal.Down.TheVariants as down
use Rattle.chan_model.specs.declared.signal.Up.TheVariants as up
use Rattle.subchannel_model.specs.declared.state.Subchannel.{Subchannel}
use Rattle.run_laws.proofs.Machine.WaitingSignals.{EachSignal, signals-weaker}

-- as long as a program is offered none was accepted since, and while one holds the device it was accepted by the path that the hold
-- remembers
abbrev pub Remembers : HoldPhase → Option ℕ → Option ℕ → Type 0
Remembers (hold.Offer t p) first accepted = accepted ≡ None
Remembers (hold.On t p c) first accepted = accepted ≡ first
Remembers (hold.Away t) first accepted = accepted ≡ first
Remembers other first accepted = Unit {0}

-- a program of this number was offered, and where it still is, on this path
abbrev pub IsOffered : ℕ → HoldPhase → ℕ → ℕ → Type 0
IsOffered drawn phase path t = (t ≤ drawn) × ((p : ℕ) → phase ≡ hold.Offer t p → path ≡ p)

abbrev pub IsTiedDown : ℕ → HoldPhase → ℕ → Down → Type 0
IsTiedDown drawn phase path (down.Select t) = IsOffered drawn phase path t
IsTiedDown drawn phase path signal = Unit {0}

abbrev pub IsTiedUp : ℕ → HoldPhase → ℕ → Up → Type 0
IsTiedUp drawn phase path (up.Accept t) = IsOffered drawn phase path t
IsTiedUp drawn phase path signal = Unit {0}

pub record IsTold (accepted : Option ℕ) (sub : Subchannel) : Type 0 where
  pub remembers : Remembers sub.state.hold.phase sub.state.hold.first_path accepted
  pub downs : EachSignal (IsTiedDown sub.state.drawn sub.state.hold.phase) sub.wires.down
  pub ups : EachSignal (IsTiedUp sub.state.drawn sub.state.hold.phase) sub.wires.up

-- no number that was drawn before is offered later
pub record IsLater (drawn later : ℕ) (phase next : HoldPhase) : Type 0 where
  pub rises : drawn ≤ later
  pub offered : (t p : ℕ) → t ≤ drawn → next ≡ hold.Offer t p → phase ≡ hold.Offer t p

offered-later : (drawn later : ℕ) (phase next : HoldPhase) → IsLater drawn later phase next → (path t : ℕ) → IsOffered drawn phase path t → IsOffered later next path t
offered-later drawn later phase next l path t o =
    let rises : drawn ≤ later = l.rises in
    let below : t ≤ drawn = o.0 in
    (omega (arith, rises, below), λ p e. o.1 p (l.offered t p below e))

down-later : (drawn later : ℕ) (phase next : HoldPhase) → IsLater drawn later phase next → (path : ℕ) (d : Down) → IsTiedDown drawn phase path d → IsTiedDown later next path d
down-later drawn later phase next l path (down.Select t) o = offered-later drawn later phase next l path t o
down-later drawn later phase next l path (down.Command t n code room) o = tt
down-later drawn later phase next l path (down.Grant t c) o = tt
down-later drawn later phase next l path (down.Refuse t c) o = tt
down-later drawn later phase next l path (down.Took t n s room) o = tt
down-later drawn later phase next l path (down.Give bytes t c n s) o = tt
down-later drawn later phase next l path (down.Halt t) o = tt
down-later drawn later phase next l path (down.Release t) o = tt
down-later drawn later phase next l path (down.Reset r b) o = tt
down-later drawn later phase next l path (down.Got a) o = tt

up-later : (drawn later : ℕ) (phase next : HoldPhase) → IsLater drawn later phase next → (path : ℕ) (x : Up) → IsTiedUp drawn phase path x → IsTiedUp later next path x
up-later drawn later phase next l path (up.Accept t) o = offered-later drawn later phase next l path t o
up-later drawn later phase next l path (up.Busy t) o = tt
up-later drawn later phase next l path (up.Leave t c) o = tt
up-later drawn later phase next l path (up.Back t c) o = tt
up-later drawn later phase next l path (up.Data load t c n s) o = tt
up-later drawn later phase next l path (up.End t n status more) o = tt
up-later drawn later phase next l path (up.Released t) o = tt
up-later drawn later phase next l path (up.Cleared r) o = tt
up-later drawn later phase next l path (up.Notice b) o = tt
up-later drawn later phase next l path (up.Attn a status) o = tt

pub downs-later : (drawn later : ℕ) (phase next : HoldPhase) (wires : List (List Down)) → IsLater drawn later phase next →
    EachSignal (IsTiedDown drawn phase) wires → EachSignal (IsTiedDown later next) wires
downs-later drawn later phase next wires l all =
    signals-weaker (IsTiedDown drawn phase) (IsTiedDown later next) wires (down-later drawn later phase next l) all

pub ups-later : (drawn later : ℕ) (phase next : HoldPhase) (wires : List (List Up)) → IsLater drawn later phase next →
    EachSignal (IsTiedUp drawn phase) wires → EachSignal (IsTiedUp later next) wires
ups-later drawn later phase next wires l all =
    signals-weaker (IsTiedUp drawn phase) (IsTiedUp later next) wires (up-later drawn later phase next l) all
