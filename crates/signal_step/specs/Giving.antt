-- What a call answered and left of what it was lent.
use Rattle.std.specs.Prelude.{◌≡◌, ◌<◌, ◌+◌, ℕ, Bool, true, false, not, nat_lt, is_some, if◌then◌else◌, Option, None, Some, List, length, Result, Ok, Err}
use Rattle.storage_keys.specs.Storage.{Contents}
use Rattle.chan_model.specs.declared.fault.Fault.{Fault}
use Rattle.chan_model.specs.UnitTable.{UnitStep, path_of_connection, unit_takes}
use Rattle.chan_model.specs.declared.names.Side.{Side}
use Rattle.chan_model.specs.Signals.{Down}
use Rattle.chan_model.specs.declared.signal.Down.TheVariants as down
use Rattle.chan_model.specs.declared.signal.OnPath.{OnPath}
use Rattle.chan_model.specs.declared.unit_state.Own.{Own}
use Rattle.chan_model.specs.declared.unit_state.Own.TheVariants.{Idle, Owned}
use Rattle.chan_model.specs.declared.unit_state.UnitState.{UnitState}
use Rattle.chan_events.specs.Replies.{Reply}
use Rattle.channel_config.specs.Setup.{has_number}
use Rattle.control_units.specs.declared.Member.{Member}
use Rattle.interruptions.specs.Requests.{WaitingRequests, posted}
use Rattle.wires.specs.Queues.{queue}
use Rattle.subchannel_model.specs.declared.state.Chosen.{Chosen}
use Rattle.subchannel_model.specs.declared.state.Chosen.TheVariants as chosen
use Rattle.subchannel_model.specs.declared.state.Subchannel.{Subchannel}
use Rattle.subchannel_model.specs.declared.state.SubchannelState.{SubchannelState}
use Rattle.subchannel_model.specs.Sending.{carried_by, finds_full}
use Rattle.control_units.specs.Units.{may_serve}
use Rattle.machine_model.specs.Sharing.{is_asked_for, may_take, members_asked}
use Rattle.machine_model.specs.State.{State}
use Rattle.machine_model.specs.Requests.{request_of}
use Rattle.machine_model.specs.Results.{Outcome, does, SubResult, leaves, UpResult, DownResult, SharedResult}
use Rattle.machine_model.specs.UpSteps.{returns_at}

-- where the outcome of an event is determined: its turn, or its refusal, which changed nothing
abbrev pub Gives : State → Outcome → Result Reply Fault → State → Type 0
Gives old outcome (Ok r) new = outcome ≡ does r new
Gives old outcome (Err f) new = (outcome ≡ Err f) × (new ≡ old)

-- the same of one subchannel
abbrev pub GivesSub : Subchannel → Result SubResult Fault → Result Reply Fault → Subchannel → Type 0
GivesSub old outcome (Ok r) new = outcome ≡ Ok (leaves r new)
GivesSub old outcome (Err f) new = (outcome ≡ Err f) × (new ≡ old)

-- the same of one subchannel and its unit
abbrev pub GivesBoth : Subchannel → UnitState → Result DownResult Fault → Result Reply Fault → Subchannel → UnitState → Type 0
GivesBoth old u outcome (Ok r) new v = outcome ≡ Ok (record { reply = r; sub = new; «unit» = v })
GivesBoth old u outcome (Err f) new v = (outcome ≡ Err f) × ((new ≡ old) × (v ≡ u))

-- the same of one subchannel, its unit, and what control units keep
abbrev pub GivesShared : Subchannel → UnitState → List Member → Result SharedResult Fault → Result Reply Fault → Subchannel → UnitState → List Member → Type 0
GivesShared old u members outcome (Ok r) new v later = outcome ≡ Ok (record { turn = record { reply = r; sub = new; «unit» = v }; members = later })
GivesShared old u members outcome (Err f) new v later = (outcome ≡ Err f) × ((new ≡ old) × ((v ≡ u) × (later ≡ members)))

-- the same of one subchannel and of storage
abbrev pub GivesStorage : Contents → Subchannel → Result UpResult Fault → Result Reply Fault → Contents → Subchannel → Type 0
GivesStorage before old outcome (Ok r) after new = outcome ≡ Ok (record { reply = r; sub = new; storage = after })
GivesStorage before old outcome (Err f) after new = (outcome ≡ Err f) × ((new ≡ old) × (after ≡ before))

-- where the wire of a signal that must be sent is not full, there is room on it
abbrev pub HasRoomFor : {A : Type 0} → List (List A) → Option (OnPath A) → Bool → Type 0
HasRoomFor queues None full = Unit {0}
HasRoomFor queues (Some s) full = full ≡ false → length (queue queues s.path) < 8

-- whether a signal that must be sent finds its wire full, and that there is room for it where not
abbrev pub TellsFull : {A : Type 0} → List (List A) → Option (OnPath A) → Bool → Type 0
TellsFull queues sends full = (full ≡ finds_full queues sends) × HasRoomFor queues sends full

-- the signal that is sent where this was chosen
abbrev pub signal_of_chosen : SubchannelState → Chosen → Option (OnPath Down)
signal_of_chosen s chosen.Idle = None
signal_of_chosen s (chosen.Resets r path) = Some (record { path = path; signal = down.Reset r s.hold.known_restarts })
signal_of_chosen s chosen.PerformsClear = None
signal_of_chosen s (chosen.Halts t path) = Some (record { path = path; signal = down.Halt t })
signal_of_chosen s chosen.PerformsHalt = None
signal_of_chosen s chosen.FindsNoPath = None
signal_of_chosen s (chosen.Offers c path) = Some (record { path = path; signal = down.Select (s.drawn + 1) })

abbrev pub HasRoomForChosen : Subchannel → Chosen → Type 0
HasRoomForChosen sub what = TellsFull sub.wires.down (carried_by sub (signal_of_chosen sub.state what)) false

-- the channel path of this identifier, where it is one of these
abbrev pub ChpidOf : List ℕ → ℕ → Option ℕ → Type 0
ChpidOf chpids number None = has_number chpids number ≡ false
ChpidOf chpids number (Some chpid) = (has_number chpids chpid ≡ true) × (chpid ≡ number)

-- the path of this index, where the subchannel has one
abbrev pub PathOf : Subchannel → ℕ → Option ℕ → Type 0
PathOf sub path None = nat_lt path (length sub.setup.paths) ≡ false
PathOf sub path (Some p) = (nat_lt path (length sub.setup.paths) ≡ true) × (p ≡ path)

-- the subchannel made statuses beyond so many, and its request is posted; or it made none
abbrev pub posted_since : ℕ → Subchannel → WaitingRequests → WaitingRequests
posted_since made sub waiting = if nat_lt made sub.state.serials.made then posted waiting (request_of sub) else waiting

-- whether a program may come back by a path, where it is one of the subchannel
abbrev pub MayReturn : List Subchannel → Subchannel → ℕ → Bool → Type 0
MayReturn subs sub path may = nat_lt path (length sub.setup.paths) ≡ true → may ≡ returns_at subs sub path

-- what the control units keep once one was asked, where it must be
abbrev pub members_begun : List Member → ℕ → Bool → List Member
members_begun members index asks = if asks then members_asked members index (may_serve members index) else members

-- a unit's step with a signal, its control unit being asked where it must be
abbrev pub shared_step : List Member → ℕ → UnitState → Side → ℕ → Down → Option UnitStep
shared_step members index u side path d = unit_takes u side path d (may_take members index (is_asked_for u side d))

-- the path of a program that is connected
abbrev pub connected_path : Own → Option ℕ
connected_path Idle = None
connected_path (Owned side t connection) = path_of_connection connection

-- a program holds the device and is not connected
abbrev pub is_without_path : Own → Bool
is_without_path Idle = false
is_without_path (Owned side t connection) = not (is_some (path_of_connection connection))
