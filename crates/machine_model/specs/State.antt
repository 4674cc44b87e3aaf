-- What there is of a channel subsystem, as small values.
use Rattle.std.specs.Prelude.{◌≡◌, ◌≤◌, ◌^◌, ◌⊎◌, ℕ, ◌+◌, ◌==◌, not, Bool, List, [], map, length, slice_get, slice_set, unwrap_or, Option, None, Some, if◌then◌else◌}
use Rattle.std.specs.List.{range_with_len}
use Rattle.storage_keys.specs.Storage.{Contents, cleared_storage}
use Rattle.chan_model.specs.declared.unit_state.UnitState.{UnitState}
use Rattle.chan_events.specs.declared.reply.Entry.{Entry}
use Rattle.chan_model.specs.UnitTable.{idle_unit}
use Rattle.channel_config.specs.declared.parts.PathReturn.{PathReturn}
use Rattle.channel_config.specs.declared.parts.UnitKind.{UnitKind}
use Rattle.channel_config.specs.Setup.{Setup, set_count, has_number, groups_of}
use Rattle.control_units.specs.declared.Member.{Member}
use Rattle.control_units.specs.Units.{idle_member}
use Rattle.interruptions.specs.Requests.{WaitingRequests, no_requests_wait}
use Rattle.channel_reports.specs.Queue.{WaitingReports, no_reports_wait}
use Rattle.channel_config.specs.SubchannelWords.{subchannel_named}
use Rattle.scsw_irb.specs.declared.serials.Serials.{Serials}
use Rattle.chan_model.specs.Signals.{Down}
use Rattle.chan_model.specs.Reports.{Work}
use Rattle.chan_model.specs.UnitReports.{unit_work}
use Rattle.machine_model.specs.UnitTurns.{UnitTurn}
use Rattle.machine_model.specs.declared.state.UnitTurn.TheVariants as unit_turn
use Rattle.machine_model.specs.declared.state.UnitTurn.TheVariants.{Takes, Works, Rests}
use Rattle.chan_model.specs.declared.names.Side.{Side}
use Rattle.chan_model.specs.declared.names.Side.TheVariants.{First, Second}
use Rattle.chan_model.specs.declared.unit_state.Own.{Own}
use Rattle.chan_model.specs.declared.unit_state.Own.TheVariants.{Idle, Owned}
use Rattle.chan_model.specs.declared.unit_state.Connection.{Connection}
use Rattle.chan_model.specs.declared.unit_state.Connection.TheVariants.{Away}
use Rattle.wires.specs.Queues.{queue}
use Rattle.subchannel_model.specs.declared.state.Subchannel.{Subchannel}
use Rattle.chan_model.specs.PathSets.{cyclic_path}
use Rattle.subchannel_model.specs.Opening.{opened}
use Rattle.subchannel_model.specs.Store.{available_paths}
use Rattle.subchannel_model.specs.Indices.{index_of_id, sub_at, reached_sub, Found, found_at}

-- storage, how many sets of subchannels there are, the identifiers of the channel paths, and by identifier whether a path is
-- configured and not down; the subchannels in the order of their configuration; the units, and what control units keep of
-- them; the requests for interruptions and the channel reports that wait; and how a channel path that is back is reported
pub record State : Type 0 where
  pub storage : Contents
  pub sets : ℕ
  pub chpids : List ℕ
  pub up : List Bool
  pub subs : List Subchannel
  pub units : List UnitState
  pub members : List Member
  pub requests : WaitingRequests
  pub reports : WaitingReports
  pub path_return : PathReturn

-- a machine without storage, and the state that it makes with the storage that it is lent
abbrev pub no_storage : Contents
no_storage = record { bytes = []; keys = []; prefixes = [] }

abbrev pub lent : State → Contents → State
lent machine storage = record machine { storage = storage }

-- a state, the accepted events with their replies that led there, and for how many more of them there is room
pub record Past : Type 0 where
  pub state : State
  pub history : List Entry
  pub room : ℕ

-- as before: of room, which may be made, nothing is said but that none was lost
pub record IsAsBefore (old new : Past) : Type 0 where
  pub state : new.state ≡ old.state
  pub history : new.history ≡ old.history
  pub room : old.room ≤ new.room

-- there is no room for another event, or no number for it is left
abbrev pub IsSpent : Past → Type 0
IsSpent past = (past.room ≡ 0) ⊎ (2 ^ 62 ≤ length past.history + 1)

-- nothing changed, room neither, and there was no room for the event, or no number
abbrev pub IsExhausted : Past → Past → Type 0
IsExhausted old new = (new ≡ old) × IsSpent old

-- a unit at the opening, of whatever kind
abbrev pub idle_of : UnitKind → UnitState
idle_of kind = idle_unit

-- at the opening each path that is configured is up
unfoldable pub configured_paths : List ℕ → ℕ → List Bool
configured_paths chpids count = map (has_number chpids) (range_with_len 0 count)

-- the opening of a machine that is set up so; where no storage is said there is the least, 16 blocks of 4,096 bytes (own)
abbrev pub opening_of : Setup → State
opening_of setup = record {
  storage = cleared_storage (unwrap_or setup.blocks 16);
  sets = set_count setup;
  chpids = setup.paths;
  up = configured_paths setup.paths 0x100;
  subs = map opened setup.subchannels;
  units = map idle_of setup.units;
  members = map idle_member (groups_of setup);
  requests = no_requests_wait 0x100;
  reports = no_reports_wait;
  path_return = setup.path_return;
}

-- the index of the subchannel that a subsystem-identification word names, where it is provided
abbrev pub index_of : State → ℕ → Option ℕ
index_of s word = index_of_id s.subs (subchannel_named s.sets word)

-- the subchannel that a word names
abbrev pub sub_of : State → ℕ → Option Subchannel
sub_of s word = sub_at s.subs (index_of s word)

-- the same with its index
abbrev pub found_of : State → ℕ → Option Found
found_of s word = found_at s.subs (index_of s word)

-- the state with this subchannel at this index
abbrev pub with_sub : State → ℕ → Subchannel → State
with_sub s index sub = record s { subs = slice_set s.subs index sub }

abbrev pub state_with_unit : State → ℕ → UnitState → State
state_with_unit s index u = record s { units = slice_set s.units index u }

-- the serials of the subchannel that a word names
abbrev pub serials_in : Option Subchannel → Option Serials
serials_in None = None
serials_in (Some sub) = Some sub.state.serials

-- the lowest path of a subchannel whose wire down has a signal
abbrev pub has_signal : List (List Down) → ℕ → Bool
has_signal queues path = not (length (queue queues path) == 0)

abbrev pub path_or : Bool → ℕ → Option ℕ → Option ℕ
path_or here path later = if here then Some path else later

abbrev pub signal_path : List (List Down) → Option ℕ
signal_path queues =
    path_or (has_signal queues 0) 0 (path_or (has_signal queues 1) 1 (path_or (has_signal queues 2) 2 (path_or (has_signal queues 3) 3
    (path_or (has_signal queues 4) 4 (path_or (has_signal queues 5) 5 (path_or (has_signal queues 6) 6 (path_or (has_signal queues 7) 7 None)))))))

abbrev pub takes_on : Subchannel → Option ℕ → Option UnitTurn
takes_on sub None = None
takes_on sub (Some path) = Some (Takes sub.setup.id path)

abbrev pub takes_from : Option Subchannel → Option UnitTurn
takes_from None = None
takes_from (Some sub) = takes_on sub (signal_path sub.wires.down)

-- a program that is away may ask for a path: the first available one of its subchannel in cyclic order from the one whose
-- index is the number of its last connection, modulo 8 (own)
abbrev pub away_path : Option Subchannel → ℕ → Option ℕ
away_path None c = None
away_path (Some sub) c = cyclic_path (available_paths sub) 8 c

abbrev pub turn_of_connection : List Subchannel → ℕ → Side → Connection → UnitTurn
turn_of_connection subs index side (Away c) = unit_turn.Away (away_path (reached_sub index side subs) c)
turn_of_connection subs index side other = Rests

abbrev pub turn_of_own : List Subchannel → ℕ → Own → UnitTurn
turn_of_own subs index Idle = Rests
turn_of_own subs index (Owned side t at) = turn_of_connection subs index side at

-- what a unit is to do, the first that there is: take a signal, of its first side before its second; what its program
-- asks for; ask for a path
abbrev pub turn_by_work : State → ℕ → UnitState → Option Work → UnitTurn
turn_by_work s index u None = turn_of_own s.subs index u.own
turn_by_work s index u (Some w) = Works w

abbrev pub turn_or : Option UnitTurn → UnitTurn → UnitTurn
turn_or None later = later
turn_or (Some turn) later = turn

abbrev pub turn_of_unit : State → ℕ → Option UnitState → Option UnitTurn
turn_of_unit s index None = None
turn_of_unit s index (Some u) =
    Some (turn_or (takes_from (reached_sub index First s.subs)) (turn_or (takes_from (reached_sub index Second s.subs)) (turn_by_work s index u (unit_work u))))

abbrev pub unit_turn_of : State → ℕ → Option UnitTurn
unit_turn_of s index = turn_of_unit s index (slice_get s.units index)
