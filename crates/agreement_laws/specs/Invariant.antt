-- What holds of a subchannel's hold, its side of the unit and the signals between them, after every list of steps (own).
use Rattle.std.specs.Prelude.{◌≡◌, ◌≢◌, ◌⊎◌, ◌<◌, ◌≤◌, ℕ, Bool, true, false, if◌then◌else◌, List, All, AllPairs}
use Rattle.chan_model.specs.declared.names.Side.{Side}
use Rattle.chan_model.specs.declared.names.Side.TheVariants.{First, Second}
use Rattle.chan_model.specs.declared.hold_state.HoldPhase.{HoldPhase}
use Rattle.chan_model.specs.declared.hold_state.HoldPhase.TheVariants as hold
use Rattle.chan_model.specs.declared.hold_state.HoldState.{HoldState}
use Rattle.chan_model.specs.Signals.{Down}
use Rattle.chan_model.specs.declared.signal.Down.TheVariants as down
use Rattle.chan_model.specs.Signals.{Up}
use Rattle.chan_model.specs.declared.signal.Up.TheVariants as up
use Rattle.chan_model.specs.declared.unit_state.Own.{Own}
use Rattle.chan_model.specs.declared.unit_state.Own.TheVariants as own
use Rattle.chan_model.specs.declared.unit_state.Connection.{Connection}
use Rattle.chan_model.specs.declared.unit_state.Connection.TheVariants.{On, Ask, Away}
use Rattle.chan_model.specs.declared.unit_state.UnitState.{UnitState}
use Rattle.chan_model.specs.Sides.{same_side}
use Rattle.chan_model.specs.UnitTable.{side_of, owns}
use Rattle.agreement_laws.specs.Links.{Link, Links, link_of}

-- the unit as one of its subchannels sees it
pub data SideSeen : Type 0 where
  Idle : SideSeen
  Fresh : SideSeen
  Owns : (number : ℕ) → (connection : Connection) → SideSeen

abbrev pub seen_own : Own → Side → SideSeen
seen_own own.Idle side = Idle
seen_own (own.Owned k t connection) side = if same_side k side then Owns t connection else Idle

abbrev pub seen_by : Bool → Own → Side → SideSeen
seen_by fresh o side = if fresh then Fresh else seen_own o side

-- both ends of a link
pub record Ends : Type 0 where
  pub drawn : ℕ
  pub phase : HoldPhase
  pub last : ℕ
  pub known_restarts : ℕ
  pub restarts : ℕ
  pub floor : ℕ
  pub seen : SideSeen

abbrev pub ends_seen : ℕ → HoldPhase → ℕ → ℕ → ℕ → ℕ → SideSeen → Ends
ends_seen n phase s k b f o = record { drawn = n; phase = phase; last = s; known_restarts = k; restarts = b; floor = f; seen = o }

abbrev pub ends_of : ℕ → HoldState → UnitState → Side → Ends
ends_of n h u side = ends_seen n h.phase h.seen h.known_restarts u.restarts (side_of u side).floor (seen_by (side_of u side).fresh u.own side)

-- Numbers: the hold's is one that was drawn, and the unit's program is not above the floor.
abbrev pub IsDrawn : HoldPhase → ℕ → Type 0
IsDrawn hold.Free n = Unit {0}
IsDrawn (hold.Offer t p) n = t ≤ n
IsDrawn (hold.On t p c) n = t ≤ n
IsDrawn (hold.Away t) n = t ≤ n
IsDrawn (hold.Letting t p) n = t ≤ n
IsDrawn (hold.Reset r) n = r ≤ n

abbrev pub IsOwnedBelow : SideSeen → ℕ → Type 0
IsOwnedBelow (Owns t connection) f = t ≤ f
IsOwnedBelow o f = Unit {0}

-- Places: the program is connected on p by the connection c, and s is the last that the hold saw.
abbrev pub IsJoined : ℕ → ℕ → ℕ → Connection → Type 0
IsJoined p c s (On q d) = (s ≡ d) × (p ≡ q) × (c ≡ d)
IsJoined p c s (Ask q d) = s ≤ d
IsJoined p c s (Away d) = s ≤ d

abbrev pub IsParted : ℕ → Connection → Type 0
IsParted s (On q d) = s ≡ d
IsParted s (Ask q d) = s ≤ d
IsParted s (Away d) = s ≤ d

-- The hold, where a program of its side holds the device; where nothing of its side does; where the side is fresh.
abbrev pub IsPaired : HoldPhase → ℕ → ℕ → ℕ → Connection → Type 0
IsPaired hold.Free s f t connection = ⊥
IsPaired (hold.Offer u p) s f t connection = (u ≡ t) × IsJoined p 0 0 connection
IsPaired (hold.On u p c) s f t connection = (u ≡ t) × IsJoined p c s connection
IsPaired (hold.Away u) s f t connection = (u ≡ t) × IsParted s connection
IsPaired (hold.Letting u p) s f t connection = u ≡ t
IsPaired (hold.Reset r) s f t connection = f < r

abbrev pub IsNotHeld : HoldPhase → Type 0
IsNotHeld (hold.On u p c) = ⊥
IsNotHeld (hold.Away u) = ⊥
IsNotHeld phase = Unit {0}

abbrev pub IsResetAbove : HoldPhase → ℕ → Type 0
IsResetAbove (hold.Reset r) f = f < r
IsResetAbove phase f = Unit {0}

abbrev pub IsMatched : Ends → SideSeen → Type 0
IsMatched e Idle = IsNotHeld e.phase
IsMatched e Fresh = e.known_restarts ≡ e.restarts → IsResetAbove e.phase e.floor
IsMatched e (Owns t connection) = IsPaired e.phase e.last e.floor t connection

pub record AreEndsGood (e : Ends) : Type 0 where
  pub floor : e.floor ≤ e.drawn
  pub number : IsDrawn e.phase e.drawn
  pub known_restarts : e.known_restarts ≤ e.restarts
  pub owned : IsOwnedBelow e.seen e.floor
  pub matched : IsMatched e e.seen

-- Signals to the unit. Select: taken already, or that of the offer, or older than the reset
abbrev pub IsSelectGood : HoldPhase → ℕ → ℕ → ℕ → Type 0
IsSelectGood (hold.Offer u p) f q t = (t ≤ f) ⊎ ((u ≡ t) × (p ≡ q))
IsSelectGood (hold.Reset r) f q t = (t ≤ f) ⊎ (t < r)
IsSelectGood phase f q t = t ≤ f

-- Release: older than what is offered or held
abbrev pub IsReleaseGood : HoldPhase → ℕ → Type 0
IsReleaseGood (hold.Offer u p) t = t < u
IsReleaseGood (hold.On u p c) t = t < u
IsReleaseGood (hold.Away u) t = t < u
IsReleaseGood phase t = Unit {0}

-- Reset: taken already and not due, or above the floor and at most the hold's
abbrev pub IsNotDue : SideSeen → ℕ → ℕ → Type 0
IsNotDue Fresh b restarts = b < restarts
IsNotDue o b restarts = Unit {0}

abbrev pub IsResetTo : HoldPhase → ℕ → Type 0
IsResetTo (hold.Reset r) t = t ≤ r
IsResetTo phase t = ⊥

abbrev pub IsResetGood : Ends → ℕ → ℕ → Type 0
IsResetGood e r b = ((r ≤ e.floor) × IsNotDue e.seen b e.restarts) ⊎ ((e.floor < r) × IsResetTo e.phase r)

-- Grant: of an older program, or of a connection that was seen; where the unit asks for it, it is the one at hand
abbrev pub IsAskedOn : SideSeen → ℕ → ℕ → ℕ → ℕ → Type 0
IsAskedOn (Owns v (Ask q e)) p d t c = v ≡ t → e ≡ c → (p ≡ q) × (d ≡ c)
IsAskedOn o p d t c = Unit {0}

abbrev pub IsGrantGood : HoldPhase → ℕ → SideSeen → ℕ → ℕ → Type 0
IsGrantGood (hold.Offer u p) s o t c = t < u
IsGrantGood (hold.On u p d) s o t c = (t < u) ⊎ ((u ≡ t) × (c ≤ s) × IsAskedOn o p d t c)
IsGrantGood (hold.Away u) s o t c = (t < u) ⊎ ((u ≡ t) × (c ≤ s))
IsGrantGood phase s o t c = Unit {0}

abbrev pub IsDownGood : Ends → ℕ → Down → Type 0
IsDownGood e p (down.Select t) = (t ≤ e.drawn) × IsSelectGood e.phase e.floor p t
IsDownGood e p (down.Release t) = (t ≤ e.drawn) × IsReleaseGood e.phase t
IsDownGood e p (down.Reset r b) = (r ≤ e.drawn) × (b ≤ e.restarts) × IsResetGood e r b
IsDownGood e p (down.Grant t c) = (t ≤ e.drawn) × IsGrantGood e.phase e.last e.seen t c
IsDownGood e p signal = Unit {0}

-- Signals from the unit. Accept: where it is that of the offer, the unit is not idle
abbrev pub IsAcceptGood : HoldPhase → SideSeen → ℕ → Type 0
IsAcceptGood (hold.Offer u p) Idle t = u ≢ t
IsAcceptGood phase o t = Unit {0}

-- Busy, Released: not of the program that holds the device
abbrev pub IsNotOwned : SideSeen → ℕ → Type 0
IsNotOwned (Owns v connection) t = v ≢ t
IsNotOwned o t = Unit {0}

-- Back: of a connection that was drawn; where the unit asks for it, by its path
abbrev pub IsBackAt : Connection → ℕ → ℕ → Type 0
IsBackAt (On q d) p c = c ≤ d
IsBackAt (Ask q d) p c = (c ≤ d) × (d ≡ c → p ≡ q)
IsBackAt (Away d) p c = c ≤ d

abbrev pub IsBackGood : SideSeen → ℕ → ℕ → ℕ → Type 0
IsBackGood (Owns v connection) p t c = v ≡ t → IsBackAt connection p c
IsBackGood o p t c = Unit {0}

abbrev pub IsUpGood : Ends → List ℕ → ℕ → Up → Type 0
IsUpGood e ts p (up.Accept t) = (t ≤ e.floor) × IsAcceptGood e.phase e.seen t
IsUpGood e ts p (up.Busy t) = (t ≤ e.floor) × IsNotOwned e.seen t × All (λ a. a ≢ t) ts
IsUpGood e ts p (up.Leave t c) = Unit {0}
IsUpGood e ts p (up.Back t c) = (t ≤ e.floor) × IsBackGood e.seen p t c
IsUpGood e ts p (up.Data load t c n s) = Unit {0}
IsUpGood e ts p (up.End t n status more) = Unit {0}
IsUpGood e ts p (up.Released t) = (t ≤ e.floor) × IsNotOwned e.seen t
IsUpGood e ts p (up.Cleared r) = r ≤ e.floor
IsUpGood e ts p (up.Notice b) = b ≤ e.restarts
IsUpGood e ts p (up.Attn a status) = Unit {0}

-- the numbers that were accepted: none above the floor, and each once
abbrev pub AreRising : List ℕ → Type 0
AreRising ts = AllPairs (λ earlier later. earlier < later) ts

pub record IsLinkGood (e : Ends) (l : Link) : Type 0 where
  pub ends : AreEndsGood e
  pub downs : All (λ x. IsDownGood e x.path x.signal) l.downs
  pub ups : All (λ x. IsUpGood e l.accepted x.path x.signal) l.ups
  pub accepted : All (λ t. t ≤ e.floor) l.accepted
  pub rising : AreRising l.accepted

-- a side that is fresh holds no device
abbrev pub IsFreshFree : UnitState → Side → Type 0
IsFreshFree u side = (side_of u side).fresh ≡ true → owns u.own side ≡ false

abbrev pub IsSideGood : Links → Side → Type 0
IsSideGood w side = IsLinkGood (ends_of (link_of w side).drawn (link_of w side).hold w.«unit» side) (link_of w side)

pub record IsGood (w : Links) : Type 0 where
  pub first : IsSideGood w First
  pub second : IsSideGood w Second
  pub first_free : IsFreshFree w.«unit» First
  pub second_free : IsFreshFree w.«unit» Second
