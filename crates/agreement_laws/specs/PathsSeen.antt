-- By which path the signals of a side's programs go: what is seen of a side by each signal that is taken or sent, and which are right by
-- what was seen before (SA22-7832, chapter 15, the working allegiance; the signals are own).
use Rattle.std.specs.Prelude.{◌≡◌, ◌<◌, ◌==◌, ◌&&◌, ℕ, if◌then◌else◌, Option, None, Some, IfSome, IsSomeAnd, List, [], ◌∷◌}
use Rattle.chan_model.specs.Signals.{Down}
use Rattle.chan_model.specs.declared.signal.Down.TheVariants as down
use Rattle.chan_model.specs.declared.signal.OnPath.{OnPath}
use Rattle.chan_model.specs.Signals.{Up}
use Rattle.chan_model.specs.declared.signal.Up.TheVariants as up

-- a program is connected to its device: under which number, by which path, and by which connection
pub record Connected : Type 0 where
  pub number : ℕ
  pub path : ℕ
  pub connection : ℕ

abbrev pub linked : ℕ → ℕ → ℕ → Connected
linked t p c = record { number = t; path = p; connection = c }

-- a program is offered under a number, by a path
pub record Offered : Type 0 where
  pub number : ℕ
  pub path : ℕ

-- what is seen of one side: what it offers; what it has connected; which connection of its program it answered last; for which of its
-- programs the device moves data; and the connections that the unit asked for
pub record SeenPaths : Type 0 where
  pub offered : Option Offered
  pub connected : Option Connected
  pub answered : ℕ
  pub moving : Option Connected
  pub ways : List Connected

-- the path by which the unit asked for a connection: of its last such
abbrev pub way_of : List Connected → ℕ → ℕ → Option ℕ
way_of [] t c = None
way_of (k ∷ ks) t c = if (k.number == t) && (k.connection == c) then Some k.path else way_of ks t c

-- A signal arrived at the hold, and was taken: by an Accept a program is connected; by a Leave it is no more, nor after a Cleared, or
-- a Notice of a restart.
abbrev pub connected_by : ℕ → Up → Option Connected → Option Connected
connected_by p (up.Accept t) k = Some (linked t p 0)
connected_by p (up.Leave t c) k = None
connected_by p (up.Cleared r) k = None
connected_by p (up.Notice b) k = None
connected_by p signal k = k

-- an offer is over as it is accepted or found busy, and by a Cleared or Notice
abbrev pub offered_by : Up → Option Offered → Option Offered
offered_by (up.Accept t) o = None
offered_by (up.Busy t) o = None
offered_by (up.Cleared r) o = None
offered_by (up.Notice b) o = None
offered_by signal o = o

-- the connection of an Accept is 0; a Back that is taken is answered
abbrev pub answered_by : Up → ℕ → ℕ
answered_by (up.Accept t) n = 0
answered_by (up.Back t c) n = c
answered_by signal n = n

-- a signal was sent to the unit: by a Grant a program is connected, by a Release it is no more; a Select offers one
abbrev pub connected_on : ℕ → Down → Option Connected → Option Connected
connected_on p (down.Grant t c) k = Some (linked t p c)
connected_on p (down.Release t) k = None
connected_on p signal k = k

abbrev pub offered_on : ℕ → Down → Option Offered → Option Offered
offered_on p (down.Select t) o = Some (record { number = t; path = p })
offered_on p signal o = o

abbrev pub sent_down : OnPath Down → SeenPaths → SeenPaths
sent_down x k = record k { offered = offered_on x.path x.signal k.offered; connected = connected_on x.path x.signal k.connected }

abbrev pub answered_down : Option (OnPath Down) → SeenPaths → SeenPaths
answered_down None k = k
answered_down (Some x) k = sent_down x k

abbrev pub taken_up : OnPath Up → SeenPaths → SeenPaths
taken_up x k = record k { offered = offered_by x.signal k.offered; connected = connected_by x.path x.signal k.connected; answered = answered_by x.signal k.answered }

-- the unit sent a signal: by an Accept the device moves data, by a Released or Cleared no more; Accept and Back ask for a connection
abbrev pub moving_by : ℕ → Up → Option Connected → Option Connected
moving_by p (up.Accept t) m = Some (linked t p 0)
moving_by p (up.Released t) m = None
moving_by p (up.Cleared r) m = None
moving_by p signal m = m

abbrev pub ways_by : ℕ → Up → List Connected → List Connected
ways_by p (up.Accept t) ks = linked t p 0 ∷ ks
ways_by p (up.Back t c) ks = linked t p c ∷ ks
ways_by p signal ks = ks

abbrev pub answered_up : OnPath Up → SeenPaths → SeenPaths
answered_up x k = record k { moving = moving_by x.path x.signal k.moving; ways = ways_by x.path x.signal k.ways }

-- of itself it leaves its path
abbrev pub left_by : Up → Option Connected → Option Connected
left_by (up.Leave t c) m = None
left_by signal m = m

abbrev pub sent_up : OnPath Up → SeenPaths → SeenPaths
sent_up x k = record k { moving = left_by x.signal k.moving; ways = ways_by x.path x.signal k.ways }

-- a signal arrived at the unit, and was taken without an answer: by a Grant the device moves data again
abbrev pub granted_on : ℕ → Down → Option Connected → Option Connected
granted_on p (down.Grant t c) m = Some (linked t p c)
granted_on p signal m = m

abbrev pub taken_down : OnPath Down → Option (OnPath Up) → SeenPaths → SeenPaths
taken_down x None k = record k { moving = granted_on x.path x.signal k.moving }
taken_down x (Some sent) k = answered_up sent k

-- the program of this number is connected by this path; it is of this number
abbrev pub IsConnected : Option Connected → ℕ → ℕ → Type 0
IsConnected k t p = IsSomeAnd k (λ x. (x.number ≡ t) × (x.path ≡ p))

abbrev pub IsOffered : Option Offered → ℕ → Type 0
IsOffered o t = IsSomeAnd o (λ x. x.number ≡ t)

abbrev pub IsNumber : Option Connected → ℕ → Type 0
IsNumber k t = IsSomeAnd k (λ x. x.number ≡ t)

-- Data, Leave and Back arrive, taken or not, by the path that the unit asked for their connection by.
abbrev pub ArrivesRight : SeenPaths → ℕ → Up → Type 0
ArrivesRight k p (up.Data load t c n s) = way_of k.ways t c ≡ Some p
ArrivesRight k p (up.Leave t c) = way_of k.ways t c ≡ Some p
ArrivesRight k p (up.Back t c) = way_of k.ways t c ≡ Some p
ArrivesRight k p signal = Unit {0}

-- An Accept that is taken is of the offer, and came by its path, a Busy of the offer; a Back asks under a number above the one that was
-- answered last; a Data or Leave came by the path of what is connected, under its
-- connection. An End brings no connection and is taken by its number alone: over such wires it may come by an older path.
abbrev pub ComesRight : SeenPaths → ℕ → Up → Type 0
ComesRight k p (up.Accept t) = k.offered ≡ Some (record { number = t; path = p })
ComesRight k p (up.Busy t) = IsOffered k.offered t
ComesRight k p (up.Back t c) = k.answered < c
ComesRight k p (up.Data load t c n s) = k.connected ≡ Some (linked t p c)
ComesRight k p (up.End t n status more) = IsNumber k.connected t
ComesRight k p (up.Leave t c) = k.connected ≡ Some (linked t p c)
ComesRight k p signal = Unit {0}

-- A Select goes out where nothing is connected; a Command, Took, Give or Release by the path of what is connected, a Give under its
-- connection too; a Halt by that path, where something is connected.
abbrev pub IsHaltOn : Option Connected → ℕ → ℕ → Type 0
IsHaltOn k t p = IfSome k (λ x. (x.number ≡ t) × (x.path ≡ p))

abbrev pub GoesRight : Option Connected → ℕ → Down → Type 0
GoesRight k p (down.Select t) = k ≡ None
GoesRight k p (down.Command t n code room) = IsConnected k t p
GoesRight k p (down.Took t n s room) = IsConnected k t p
GoesRight k p (down.Give bytes t c n s) = k ≡ Some (linked t p c)
GoesRight k p (down.Halt t) = IsHaltOn k t p
GoesRight k p (down.Release t) = IsConnected k t p
GoesRight k p signal = Unit {0}

-- in answer goes a Release to an Accept, by the path of the offer; a Grant to a Back, by its path, where nothing is connected
abbrev pub IsAnswerRight : Option Connected → OnPath Up → ℕ → Down → Type 0
IsAnswerRight k x p (down.Grant t c) = (x ≡ record { path = p; signal = up.Back t c }) × (k ≡ None)
IsAnswerRight k x p (down.Refuse t c) = x ≡ record { path = p; signal = up.Back t c }
IsAnswerRight k x p (down.Release t) = x ≡ record { path = p; signal = up.Accept t }
IsAnswerRight k x p (down.Got a) = p ≡ x.path
IsAnswerRight k x p signal = ⊥

-- a Give that the unit takes came by the path on which its device moves data, under its connection
abbrev pub TakesRight : Option Connected → ℕ → Down → Type 0
TakesRight m p (down.Give bytes t c n s) = m ≡ Some (linked t p c)
TakesRight m p signal = Unit {0}

-- what the unit sends for its device goes by the path on which this moves data, and so does a Leave; it asks for another path where it
-- moves none
abbrev pub SendsRight : Option Connected → ℕ → Up → Type 0
SendsRight m p (up.Data load t c n s) = m ≡ Some (linked t p c)
SendsRight m p (up.End t n status more) = IsConnected m t p
SendsRight m p (up.Leave t c) = m ≡ Some (linked t p c)
SendsRight m p (up.Back t c) = m ≡ None
SendsRight m p signal = Unit {0}
