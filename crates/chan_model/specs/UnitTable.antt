-- The device's side (own): for each signal from a subchannel of one side, for each act, and for each report, the new
-- state and the signal that is sent. None stands where a signal is ignored, and where an act or report is refused.
use Rattle.std.specs.Prelude.{ℕ, ◌+◌, Bool, true, false, not, ◌==◌, ◌&&◌, ◌||◌, nat_lt, if◌then◌else◌, Option, None, Some, is_some, List, [], ◌∷◌, length}
use Rattle.scsw_irb.specs.Status as bit
use Rattle.scsw_irb.specs.declared.status.DeviceStatus.{DeviceStatus}
use Rattle.chan_model.specs.declared.names.Side.{Side}
use Rattle.chan_model.specs.declared.names.Side.TheVariants.{First, Second}
use Rattle.chan_model.specs.declared.signal.OnPath.{OnPath}
use Rattle.chan_model.specs.declared.signal.Taken.{Taken}
use Rattle.chan_model.specs.Signals.{Load}
use Rattle.chan_model.specs.Signals.{Down}
use Rattle.chan_model.specs.declared.signal.Down.TheVariants as down
use Rattle.chan_model.specs.Signals.{Up}
use Rattle.chan_model.specs.declared.signal.Up.TheVariants as up
use Rattle.chan_model.specs.declared.unit_state.Connection.{Connection}
use Rattle.chan_model.specs.declared.unit_state.Connection.TheVariants.{On, Ask, Away}
use Rattle.chan_model.specs.declared.unit_state.Own.{Own}
use Rattle.chan_model.specs.declared.unit_state.Own.TheVariants.{Idle, Owned}
use Rattle.chan_model.specs.declared.unit_state.SideState.{SideState}
use Rattle.chan_model.specs.declared.unit_state.Progress.TheVariants.{New}
use Rattle.chan_model.specs.declared.unit_state.CurrentCommand.{CurrentCommand}
use Rattle.chan_model.specs.declared.unit_state.Attention.{Attention}
use Rattle.chan_model.specs.declared.unit_state.UnitState.{UnitState}
use Rattle.chan_model.specs.Sides.{same_side}
use Rattle.chan_model.specs.Loads.{load_length}

pub record UnitStep : Type 0 where
  pub state : UnitState
  pub sent : Option (OnPath Up)

abbrev pub changes : UnitState → Option UnitStep
changes u = Some (record { state = u; sent = None })

abbrev pub sends : UnitState → ℕ → Up → Option UnitStep
sends u p s = Some (record { state = u; sent = Some (record { path = p; signal = s }) })

-- a unit at the opening
abbrev pub quiet_side : SideState
quiet_side = record { floor = 0; fresh = false }

abbrev pub idle_unit : UnitState
idle_unit = record { restarts = 0; first = quiet_side; second = quiet_side; own = Idle; last_command = 0; current = None; halted = false; attentions = 0; attention = None; end_owed = false }

-- what is kept of one side
abbrev pub side_of : UnitState → Side → SideState
side_of u First = u.first
side_of u Second = u.second

abbrev pub with_side : UnitState → Side → SideState → UnitState
with_side u First s = record u { first = s }
with_side u Second s = record u { second = s }

-- the device is held by the program of this side and number
abbrev pub is_owner : Own → Side → ℕ → Bool
is_owner Idle side t = false
is_owner (Owned k u connection) side t = same_side k side && (t == u)

-- the device is held by a program of this side
abbrev pub owns : Own → Side → Bool
owns Idle side = false
owns (Owned k u connection) side = same_side k side

-- the program is connected by this connection
abbrev pub is_connected_on : Connection → ℕ → Bool
is_connected_on connection c = elim connection [ On p d ↦ c == d | other ↦ false ]

-- the path by which it is connected, where it is
abbrev pub path_of_connection : Connection → Option ℕ
path_of_connection connection = elim connection [ On p c ↦ Some p | other ↦ None ]

-- the program of this side and number is connected by this connection
abbrev pub is_owner_on : Own → Side → ℕ → ℕ → Bool
is_owner_on Idle side t c = false
is_owner_on (Owned k u connection) side t c = (same_side k side && (t == u)) && is_connected_on connection c

-- the device is let go, and its command forgotten
abbrev pub freed : UnitState → UnitState
freed u = record u { own = Idle; last_command = 0; current = None; halted = false }

-- the device is held by the program of this side and number, which is connected by its first connection on this path
abbrev pub held : UnitState → Side → ℕ → ℕ → UnitState
held u side t p = record (freed u) { own = Owned side t (On p 0) }

-- Select: above the floor of its side, which becomes its number whether it is accepted or not; may_serve: the control
-- unit may serve the unit
abbrev pub raised : UnitState → Side → ℕ → UnitState
raised u side t = with_side u side (record (side_of u side) { floor = t })

abbrev pub selected : UnitState → Own → Side → ℕ → ℕ → Bool → Option UnitStep
selected u Idle side p t may_serve = if may_serve then sends (held u side t p) p (up.Accept t) else sends u p (up.Busy t)
selected u (Owned k v connection) side p t may_serve = sends u p (up.Busy t)

-- Command: the next of the program that holds the device; it keeps the path by which it came
abbrev pub new_command : ℕ → ℕ → ℕ → CurrentCommand
new_command p code room = record { path = p; code = code; room = room; progress = New; sequence = 0; unanswered = None; asked = 0; again = false; unabsorbed = None; stopped = false }

abbrev pub commanded : UnitState → Side → ℕ → ℕ → ℕ → ℕ → ℕ → Option UnitStep
commanded u side p t n code room =
    if is_owner u.own side t && (n == u.last_command + 1)
    then changes (record u { last_command = n; current = Some (new_command p code room) })
    else None

-- Give: the next chunk of the command at hand; no bytes stop the transfer
abbrev pub kept_bytes : List ℕ → Option (List ℕ)
kept_bytes bytes = elim bytes [ [] ↦ None | b ∷ bs ↦ Some (b ∷ bs) ]

abbrev pub with_given : CurrentCommand → ℕ → List ℕ → CurrentCommand
with_given x s bytes =
    record x { sequence = s; unanswered = None; again = false; unabsorbed = kept_bytes bytes; stopped = x.stopped || (length bytes == 0) }

abbrev pub given_next : UnitState → Option CurrentCommand → ℕ → List ℕ → Option UnitStep
given_next u None s bytes = None
given_next u (Some x) s bytes = if s == x.sequence + 1 then changes (record u { current = Some (with_given x s bytes) }) else None

abbrev pub given : UnitState → Side → ℕ → ℕ → ℕ → ℕ → List ℕ → Option UnitStep
given u side t c n s bytes =
    if is_owner_on u.own side t c && (n == u.last_command) then given_next u u.current s bytes else None

-- Took: the last Data is answered; no room, or fewer bytes than were asked for, stop the transfer
abbrev pub current_answered : CurrentCommand → Load → ℕ → CurrentCommand
current_answered x load room = record x { unanswered = None; again = false; room = room; stopped = x.stopped || ((room == 0) || nat_lt (load_length load) x.asked) }

abbrev pub answered_load : UnitState → CurrentCommand → Option Load → ℕ → Option UnitStep
answered_load u x None room = None
answered_load u x (Some load) room = changes (record u { current = Some (current_answered x load room) })

abbrev pub answered_last : UnitState → Option CurrentCommand → ℕ → ℕ → Option UnitStep
answered_last u None s room = None
answered_last u (Some x) s room = if s == x.sequence then answered_load u x x.unanswered room else None

-- Grant: of the connection asked for; an older one is answered by Leave
abbrev pub granted_at : UnitState → Side → ℕ → Connection → ℕ → ℕ → Option UnitStep
granted_at u side t (Ask q d) p c =
    if c == d then changes (record u { own = Owned side t (On q d) })
    else (if nat_lt c d then sends u p (up.Leave t c) else None)
granted_at u side t (On q d) p c = if nat_lt c d then sends u p (up.Leave t c) else None
granted_at u side t (Away d) p c = if nat_lt c d then sends u p (up.Leave t c) else None

abbrev pub granted : UnitState → Own → Side → ℕ → ℕ → ℕ → Option UnitStep
granted u Idle side p t c = None
granted u (Owned k v connection) side p t c = if same_side k side && (t == v) then granted_at u k v connection p c else None

-- Refuse: of the connection asked for
abbrev pub grant_refused_at : UnitState → Side → ℕ → Connection → ℕ → Option UnitStep
grant_refused_at u side t (Ask q d) c = if c == d then changes (record u { own = Owned side t (Away d) }) else None
grant_refused_at u side t connection c = None

abbrev pub grant_refused : UnitState → Own → Side → ℕ → ℕ → Option UnitStep
grant_refused u Idle side t c = None
grant_refused u (Owned k v connection) side t c = if same_side k side && (t == v) then grant_refused_at u k v connection c else None

-- Halt: of the program that holds the device, once
abbrev pub unit_halting : UnitState → Side → ℕ → Option UnitStep
unit_halting u side t = if is_owner u.own side t && not u.halted then changes (record u { halted = true }) else None

-- Release: of the program that holds the device
abbrev pub releasing : UnitState → Side → ℕ → ℕ → Option UnitStep
releasing u side p t = if is_owner u.own side t then sends (freed u) p (up.Released t) else None

-- Reset: with the unit's own restart count, where its side is fresh, or its number above the floor
abbrev pub resets : UnitState → Side → ℕ → ℕ → Bool
resets u side r b = (b == u.restarts) && ((side_of u side).fresh || nat_lt (side_of u side).floor r)

-- a program of this side is forgotten; one of the other side stays
abbrev pub without_side : UnitState → Side → UnitState
without_side u side = if owns u.own side then freed u else u

-- the side is not fresh any more, and the number is its floor
abbrev pub reset_side : UnitState → Side → ℕ → UnitState
reset_side u side r = with_side (without_side u side) side (record { floor = r; fresh = false })

-- Got: of the attention that is not answered
abbrev pub forgetting : UnitState → Option Attention → Side → ℕ → Option UnitStep
forgetting u None side a = None
forgetting u (Some x) side a = if same_side x.side side && (a == x.number) then changes (record u { attention = None }) else None

-- in a side that is fresh any other signal is answered by Notice
abbrev pub telling : UnitState → ℕ → Option UnitStep
telling u p = sends u p (up.Notice u.restarts)

-- Notice: of a side that is fresh
abbrev pub noticing : UnitState → Side → ℕ → Option UnitStep
noticing u side p = if (side_of u side).fresh then telling u p else None

-- Each signal to a side that is not fresh
abbrev pub unit_works : UnitState → Side → ℕ → Down → Bool → Option UnitStep
unit_works u side p (down.Select t) may = if nat_lt (side_of u side).floor t then selected (raised u side t) u.own side p t may else None
unit_works u side p (down.Command t n code room) may = commanded u side p t n code room
unit_works u side p (down.Grant t c) may = granted u u.own side p t c
unit_works u side p (down.Refuse t c) may = grant_refused u u.own side t c
unit_works u side p (down.Took t n s room) may =
    if is_owner u.own side t && (n == u.last_command) then answered_last u u.current s room else None
unit_works u side p (down.Give bytes t c n s) may = given u side t c n s bytes
unit_works u side p (down.Halt t) may = unit_halting u side t
unit_works u side p (down.Release t) may = releasing u side p t
unit_works u side p (down.Reset r b) may = None
unit_works u side p (down.Got a) may = forgetting u u.attention side a

-- What the unit does with a signal of this side that came by path p.
abbrev pub unit_takes : UnitState → Side → ℕ → Down → Bool → Option UnitStep
unit_takes u side p (down.Reset r b) may =
    if resets u side r b then sends (reset_side u side r) p (up.Cleared r) else noticing u side p
unit_takes u side p d may = if (side_of u side).fresh then telling u p else unit_works u side p d may

-- the state after a signal, and what came of it
abbrev pub unit_after : UnitState → Option UnitStep → UnitState
unit_after u None = u
unit_after u (Some step) = step.state

abbrev pub outcome_of : Option UnitStep → Taken Up
outcome_of None = record { taken = false; sent = None }
outcome_of (Some step) = record { taken = true; sent = step.sent }

-- Acts of the unit. Leave: the program that is connected works on without the path; a Data that is not answered will be
-- sent again.
abbrev pub marked_again : Option CurrentCommand → Option CurrentCommand
marked_again None = None
marked_again (Some x) = Some (record x { again = x.again || is_some x.unanswered })

abbrev pub leaving_from : UnitState → Side → ℕ → Connection → Option UnitStep
leaving_from u side t (On p c) = sends (record u { own = Owned side t (Away c); current = marked_again u.current }) p (up.Leave t c)
leaving_from u side t connection = None

abbrev pub leaving : UnitState → Own → Option UnitStep
leaving u Idle = None
leaving u (Owned side t connection) = leaving_from u side t connection

-- Ask: for a path, under the next connection number
abbrev pub asking_from : UnitState → Side → ℕ → Connection → ℕ → Option UnitStep
asking_from u side t (On q c) p = None
asking_from u side t (Ask q c) p = sends (record u { own = Owned side t (Ask p (c + 1)) }) p (up.Back t (c + 1))
asking_from u side t (Away c) p = sends (record u { own = Owned side t (Ask p (c + 1)) }) p (up.Back t (c + 1))

abbrev pub asking : UnitState → Own → ℕ → Option UnitStep
asking u Idle p = None
asking u (Owned side t connection) p = asking_from u side t connection p

-- Attention: of an idle unit, on a side that is not fresh; its status is attention, or control-unit end where one is owed
abbrev pub is_idle : Own → Bool
is_idle Idle = true
is_idle (Owned side t connection) = false

abbrev pub attention_status : Bool → DeviceStatus
attention_status owed = record { 0 = if owed then bit.control_unit_end else bit.attention }

abbrev pub attending : UnitState → Side → ℕ → Option UnitStep
attending u side p =
    if is_idle u.own && not (side_of u side).fresh
    then sends (record u { attentions = u.attentions + 1; attention = Some (record { number = u.attentions + 1; side = side }); end_owed = false }) p
    (up.Attn (u.attentions + 1) (attention_status u.end_owed))
    else None

-- Restart: both sides are fresh, and what was at hand is forgotten
abbrev pub restarted : UnitState → UnitState
restarted u = record (freed u) { restarts = u.restarts + 1; first = record u.first { fresh = true }; second = record u.second { fresh = true }; attention = None }
