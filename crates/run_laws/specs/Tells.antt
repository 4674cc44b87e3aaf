-- How what was done for a program goes on with each event, told by what is seen: the signals that are taken and sent, and what
-- storage holds in that step (SA22-7832, chapter 15).
use Rattle.std.specs.Prelude.{◌≡◌, ◌⊎◌, ◌&&◌, ◌||◌, not, ℕ, ◌==◌, ◌+◌, ◌<◌, nat_lt, min, Bool, true, false, is_none, is_some, if◌then◌else◌, Option, None, Some, List, [], ◌∷◌, ◌++◌, length, take, slice_get, IfSome}
use Rattle.orb_block.specs.declared.Orb.{Orb}
use Rattle.ccw_codec.specs.declared.Ccw.{Ccw}
use Rattle.scsw_irb.specs.declared.status.DeviceStatus.{DeviceStatus}
use Rattle.storage_keys.specs.Storage.{Contents}
use Rattle.chan_model.specs.Signals.{Down}
use Rattle.chan_model.specs.declared.signal.Down.TheVariants as down
use Rattle.chan_model.specs.Signals.{Load}
use Rattle.chan_model.specs.declared.signal.OnPath.{OnPath}
use Rattle.chan_model.specs.Signals.{Up}
use Rattle.chan_model.specs.declared.signal.Up.TheVariants as up
use Rattle.chan_model.specs.Loads.{load_length}
use Rattle.chan_model.specs.UnitReports.{has_device_end, has_unit_check, is_last_end}
use Rattle.chan_events.specs.Events.{Event}
use Rattle.chan_events.specs.declared.event.Event.TheVariants as event
use Rattle.chan_events.specs.declared.reply.Entry.{Entry}
use Rattle.chan_events.specs.Replies.{Reply}
use Rattle.chan_events.specs.declared.reply.Reply.TheVariants as reply
use Rattle.ccw_walk.specs.Sequences.{Sequence, ◌▸◌, each}
use Rattle.ccw_walk.specs.Acts.{Act, Used_up, End}
use Rattle.ccw_walk.specs.Programs.{latest, next, next_used_up, commands, code}
use Rattle.subchannel_model.specs.declared.state.Program.{Program}
use Rattle.subchannel_model.specs.declared.state.ProgramPosition.{ProgramPosition}
use Rattle.subchannel_model.specs.declared.state.Subchannel.{Subchannel}
use Rattle.subchannel_model.specs.declared.state.Chosen.{Chosen}
use Rattle.subchannel_model.specs.declared.state.SubchannelState.{SubchannelState}
use Rattle.subchannel_model.specs.Choosing.{unsent_reset, clear_chosen}
use Rattle.subchannel_model.specs.Ends.{has_status_modifier, has_unit_exception, is_unit_check_alone, is_channel_end_alone}
use Rattle.chan_model.specs.Signals.{load_bytes}
use Rattle.machine_model.specs.State.{State, index_of}
use Rattle.machine_model.specs.Steps.{Run, Opened, Stepped}
use Rattle.run_laws.specs.Traces.{CommandTrace, no_trace, ProgramTrace, traced_after}
use Rattle.chan_model.specs.ResetCauses.{is_path}
use Rattle.run_laws.specs.DataAreas.{data_areas, counts}
use Rattle.run_laws.specs.Fetches.{AddsFetched}
use Rattle.run_laws.specs.ProgramClaims.{IsBeginning, places_of, IsSuspended, has_check, TraceCorrect}
use Rattle.run_laws.specs.Reached.{BeginsData, room_of, is_short, skips, CantReach, CantStore, CantFetch}
use Rattle.run_laws.specs.Interrupts.{Interrupts, OnlyInterrupts}
use Rattle.run_laws.specs.Shows.{IsProgramShown, IsStandingShown, IsZeroShown, IsShownBy, IsShownOf}

-- a command that was sent: the number of its program, which of the commands under that number it is, its code, and how many bytes may come
pub record SentCommand : Type 0 where
  pub number : ℕ
  pub command : ℕ
  pub sent_code : ℕ
  pub room : ℕ

abbrev pub command_sent : Option (OnPath Down) → Option SentCommand
command_sent None = None
command_sent (Some sent) =
    elim sent.signal [ down.Command t n code room ↦ Some (record { number = t; command = n; sent_code = code; room = room }) | other ↦ None ]

-- a program goes as far as these acts: the command that is sent is the one that came to it with them, or none is sent and none
-- came
abbrev pub GoesTo : Contents → Option SentCommand → Sequence Act → ProgramTrace → ProgramTrace → Type 0
GoesTo storage (Some c) acts k after =
    (c.number ≡ k.number) × (c.command ≡ k.sent + 1) × (each code (commands k.orb acts) ≡ each code (commands k.orb k.now.acts) ▸ c.sent_code)
    × (stopped_by_check : Bool) × BeginsData storage k.orb c.sent_code c.room stopped_by_check acts
    × (after ≡ record k { sent = k.sent + 1; now = record no_trace { acts = acts; stopped_by_check = stopped_by_check }; before = k.now })
GoesTo storage None acts k after =
    (each code (commands k.orb acts) ≡ each code (commands k.orb k.now.acts)) × (after ≡ record k { now = record k.now { acts = acts } })

-- from some acts on it is fetched from storage
abbrev pub GoesOn : Contents → Option (OnPath Down) → Sequence Act → ProgramTrace → ProgramTrace → Type 0
GoesOn storage sent before k after = (acts : Sequence Act) × AddsFetched storage k.orb before acts × GoesTo storage (command_sent sent) acts k after

-- the start that was offered neither waits any more nor is suspended, or a halt is pending
abbrev pub IsOver : SubchannelState → Type 0
IsOver s =
    (s.scsw.activity.halt_pending ≡ true)
    ⊎ (((program : Program) → s.waiting ≡ Some program → program.start ≡ s.offered → ⊥)
    × ((position : ProgramPosition) → s.suspended ≡ Some position → position.program.start ≡ s.offered → ⊥))

-- Accept: where the start that was offered is not over, its program begins, or goes on from where it was suspended. The block that
-- is next is fetched, and so on, up to a command, a check or a suspension
pub record Begins (storage : Contents) (sent : Option (OnPath Down)) (k after : ProgramTrace) : Type 0 where
  pub goes : GoesOn storage sent k.now.acts k after
  pub fetches : after.now.acts ≡ k.now.acts → ⊥
  pub whole : (next k.orb after.now.acts ≡ None) ⊎ IsSuspended k.orb after.now.acts

abbrev pub Accepted : Contents → SubchannelState → SubchannelState → Option (OnPath Down) → ProgramTrace → ProgramTrace → Type 0
Accepted storage s next sent k after =
    (IsOver s × (command_sent sent ≡ None) × (after ≡ k) × IsShownOf s next (Some k))
    ⊎ ((IsOver s → ⊥) × Begins storage sent k after × IsProgramShown s next after × Interrupts s next k after
    × (is_some (command_sent sent) ≡ true → OnlyInterrupts s next k after))

-- How many bytes a Data moves: of a write, of those that the device says it absorbed, where it is the next, as many as there is room
-- for at the next indices; and of a write, how many are given next
abbrev pub has_stopped : CommandTrace → Bool
has_stopped k = k.stopped || k.stopped_by_check

abbrev pub room_in : Orb → CommandTrace → ℕ
room_in orb k = room_of orb k.acts k.moved

abbrev pub absorbed_of : Orb → CommandTrace → ℕ → ℕ → ℕ
absorbed_of orb k s count = if s == k.sequence + 1 then min count (room_in orb k) else 0

abbrev pub given_of : Orb → CommandTrace → ℕ
given_of orb now = if has_stopped now || skips (data_areas orb now.acts) then 0 else room_in orb now

-- A check stops the transfer and is kept for the End: of a block that was chained to, or as the next bytes can't be reached, or for this
-- other cause
pub record Keeps (cause : Type 0) (storage : Contents) (orb : Orb) (k now : CommandTrace) : Type 0 where
  pub stays : k.stopped_by_check ≡ true → now.stopped_by_check ≡ true
  pub because : now.stopped_by_check ≡ true → (k.stopped_by_check ≡ true) ⊎ ((has_check orb now.acts ≡ true) ⊎ (CantReach storage orb now.acts now.moved ⊎ cause))
  pub without : now.stopped_by_check ≡ false → (has_check orb now.acts ≡ false) × (is_short orb now.acts now.moved ≡ false)

-- Data of a write: what the device absorbed of a chunk is moved; and the next chunk that is given is copied from the next places.
-- Those places the next chunk and the count tell
abbrev pub IsGiven : Contents → Orb → List ℕ → CommandTrace → CommandTrace → Type 0
IsGiven storage orb bytes k now =
    ((bytes ≡ []) × (now.copied ≡ k.copied))
    ⊎ ((places : List (Option ℕ)) × (now.copied ≡ k.copied ++ record { storage = storage.bytes; places = places; bytes = bytes } ∷ [])
    × IsBeginning (now.moved ++ places) (places_of orb now.acts))

pub record Gives (storage : Contents) (orb : Orb) (count next : ℕ) (bytes : List ℕ) (k now : CommandTrace) : Type 0 where
  pub absorbed : List (Option ℕ)
  pub all : length absorbed ≡ count
  pub moved : now.moved ≡ k.moved ++ absorbed
  pub many : length bytes ≡ next
  pub given : IsGiven storage orb bytes k now
  pub arrived : now.arrived ≡ k.arrived

-- Data of a read: its bytes are stored, as many as there is room for, where it is the next, so that none is stored twice; or none
-- are, and storage stays, where it is another, a check was kept before, or storage refuses them
abbrev pub Stores : Contents → Contents → Orb → ℕ → Bool → ℕ → List ℕ → CommandTrace → CommandTrace → Type 0
Stores former storage orb fits stopped_by_check s bytes k now =
    ((s ≡ length k.arrived + 1 → (stopped_by_check ≡ true) ⊎ CantStore former orb k.acts k.moved (take fits bytes)) × (storage ≡ former) × (now.arrived ≡ k.arrived) × (now.moved ≡ k.moved))
    ⊎ ((s ≡ length k.arrived + 1) × (places : List (Option ℕ))
    × (now.arrived ≡ k.arrived ++ record { former = former.bytes; chunk = record { storage = storage.bytes; places = places; bytes = take fits bytes } } ∷ [])
    × (now.moved ≡ k.moved ++ places) × (storage ≡ record former { bytes = storage.bytes }))

-- Data of a write: the next chunk is given; a device that absorbed fewer than were given stops the transfer
pub record GivesNext (storage : Contents) (orb : Orb) (s count : ℕ) (bytes : List ℕ) (k now : CommandTrace) : Type 0 where
  pub gives : Gives storage orb (absorbed_of orb k s count) (given_of orb now) bytes k now
  pub keeps : Keeps (CantFetch storage orb now.acts now.moved) storage orb k now
  pub sequence : now.sequence ≡ s
  pub given : now.given ≡ length bytes
  pub stopped : now.stopped ≡ (k.stopped || (s == k.sequence + 1 && nat_lt count k.given))

-- Data of a read: its bytes are stored, and the device is told how many more there is room for
pub record TakesNext (former storage : Contents) (orb : Orb) (s : ℕ) (bytes : List ℕ) (more : ℕ) (k now : CommandTrace) : Type 0 where
  pub stores : Stores former storage orb (room_in orb k) k.stopped_by_check s bytes k now
  pub copied : now.copied ≡ k.copied
  pub keeps : Keeps (CantStore former orb k.acts k.moved (take (room_in orb k) bytes)) storage orb k now
  pub more_room : more ≡ (if has_stopped now then 0 else room_in orb now)
  pub sequence : now.sequence ≡ s
  pub given : now.given ≡ k.given
  pub stopped : now.stopped ≡ k.stopped

-- a Data is answered by what it is answered with
abbrev pub MovesBy : Contents → Contents → Orb → ℕ → Load → Down → CommandTrace → CommandTrace → Type 0
MovesBy former storage orb s load (down.Give bytes t c n next) k now = (storage ≡ former) × GivesNext storage orb s (load_length load) bytes k now
MovesBy former storage orb s load (down.Took t n last more) k now = TakesNext former storage orb s (load_bytes load) more k now
MovesBy former storage orb s load signal k now = ⊥

-- Data is chained where bytes were moved, and those that were moved so far are all that the counts ask for, unless a check was kept:
-- the latest block says whether another is next
abbrev pub is_used_up : Orb → Bool → CommandTrace → CommandTrace → Bool
is_used_up orb stopped_by_check k now =
    nat_lt (length k.moved) (length now.moved)
    && ((length now.moved == counts (data_areas orb k.acts)) && (is_some (next_used_up (latest orb k.acts)) && not stopped_by_check))

abbrev pub acts_used : Bool → Sequence Act → Sequence Act
acts_used used acts = if used then acts ▸ Used_up else acts

-- and by its numbers: a Give has the number of the next chunk, and a Took that of its own
abbrev pub IsAnswerTo : ℕ → ℕ → ℕ → ℕ → Option (OnPath Down) → Type 0
IsAnswerTo t c n s None = ⊥
IsAnswerTo t c n s (Some sent) = elim sent.signal [
  | down.Give bytes u d m next ↦ (u ≡ t) × (d ≡ c) × (m ≡ n) × (next ≡ s + 1)
  | down.Took u m last more ↦ (u ≡ t) × (m ≡ n) × (last ≡ s)
  | other ↦ ⊥
]

abbrev pub Moves : Contents → Contents → ℕ → Load → Option (OnPath Down) → ProgramTrace → ProgramTrace → Type 0
Moves former storage s load None k after = ⊥
Moves former storage s load (Some sent) k after =
    (now : CommandTrace) × (after ≡ record k { now = now })
    × AddsFetched storage k.orb (acts_used (is_used_up k.orb k.now.stopped_by_check k.now now) k.now.acts) now.acts
    × (each code (commands k.orb now.acts) ≡ each code (commands k.orb k.now.acts)) × (now.ended ≡ k.now.ended) × (now.unchained ≡ k.now.unchained)
    × MovesBy former storage k.orb s load sent.signal k.now now

-- End: a command is chained to where one is next by the program, nothing breaks the chain (chapter 16), and no earlier End of
-- the command was shown
abbrev pub ended : Bool → DeviceStatus → Act
ended goes_on status = End (record { goes_on = goes_on; modifier = has_status_modifier status })

-- an incorrect length is shown at the first End of a command, where bytes are left on one side; not with unit check alone, nor where a
-- halt is specified, nor where SLI is one and CD zero; of a command that ended at once only in format 1 where L is zero (own)
abbrev pub is_length_wrong : Orb → CommandTrace → Bool → DeviceStatus → Bool → Ccw → Bool
is_length_wrong orb k halted status more ccw =
    not k.ended && ((not (length k.moved == counts (data_areas orb k.acts)) || more)
    && (not (is_unit_check_alone status) && (not halted
    && (not (ccw.suppress_length && not ccw.chain_data) && (not (is_channel_end_alone status) || (orb.format_one && not orb.suppress_length))))))

-- what breaks the chain: an earlier End that did, unit check, unit exception, an incorrect length, a check that was kept, and a halt
abbrev pub breaks : Orb → CommandTrace → Bool → DeviceStatus → Bool → Bool
breaks orb k halted status more =
    k.unchained || (has_unit_check status || (has_unit_exception status
    || (elim (latest orb k.acts) [ None ↦ false | Some last ↦ is_length_wrong orb k halted status more last.ccw ] || (k.stopped_by_check || halted))))

abbrev pub IsChained : Bool → Bool → DeviceStatus → Bool → ProgramTrace → Type 0
IsChained chains halted status more k = (is_some (next k.orb (k.now.acts ▸ ended true status)) && not (breaks k.orb k.now halted status more)) ≡ chains

-- the program goes on as device end comes; until then the command has not ended
abbrev pub Chains : Contents → DeviceStatus → Option (OnPath Down) → ProgramTrace → ProgramTrace → Type 0
Chains storage status sent k after =
    ((has_device_end status ≡ true) × GoesOn storage sent (k.now.acts ▸ ended true status) k after)
    ⊎ ((has_device_end status ≡ false) × (sent ≡ None) × (after ≡ record k { now = record k.now { ended = true } }))

-- or none is, and status is made; the last End of a program while a start waits leaves the address and the count of that start
abbrev pub Ends : Contents → SubchannelState → SubchannelState → DeviceStatus → Bool → Option (OnPath Down) → ProgramTrace → ProgramTrace → Type 0
Ends storage s next status more sent k after =
    (IsChained false s.scsw.functions.halt status more k × (after ≡ record k { now = record k.now { acts = k.now.acts ▸ ended false status; ended = true; unchained = true } })
    × (command_sent sent ≡ None) × (s.pmcw.enabled ≡ true → s.serials.made < next.serials.made)
    × IsShownBy (is_none s.waiting || not (is_last_end status)) s next after)
    ⊎ (IsChained true s.scsw.functions.halt status more k × Chains storage status sent k after × IsProgramShown s next after
    × Interrupts s next k after × (is_some (command_sent sent) ≡ true → OnlyInterrupts s next k after))

-- what a signal that is taken tells, and the address and the count of the status that it makes
abbrev pub Meets : Contents → Contents → SubchannelState → SubchannelState → Up → Bool → Option (OnPath Down) → ProgramTrace → ProgramTrace → Type 0
Meets former storage s next (up.Accept t) true sent k after = (t ≡ k.number) × (storage ≡ former) × Accepted storage s next sent k after
Meets former storage s next (up.Data load t c n seq) true sent k after =
    (t ≡ k.number) × (n ≡ k.sent) × IsAnswerTo t c n seq sent
    × Moves former storage seq load sent k after × IsProgramShown s next after × Interrupts s next k after × OnlyInterrupts s next k after
Meets former storage s next (up.End t n status more) true sent k after = (t ≡ k.number) × (n ≡ k.sent) × (storage ≡ former) × Ends storage s next status more sent k after
Meets former storage s next (up.Cleared r) taken sent k after = (after ≡ k) × (storage ≡ former) × IsZeroShown s next
Meets former storage s next (up.Attn a status) taken sent k after = (after ≡ k) × (storage ≡ former) × IsStandingShown s next
Meets former storage s next signal taken sent k after = (after ≡ k) × (storage ≡ former) × IsShownOf s next (Some k)

-- and where there is no program
abbrev pub MeetsNone : Contents → Contents → SubchannelState → SubchannelState → Up → Type 0
MeetsNone former storage s next (up.Cleared r) = (storage ≡ former) × IsZeroShown s next
MeetsNone former storage s next signal = (storage ≡ former) × IsStandingShown s next

abbrev pub OfBoth : Type 0 → (ProgramTrace → ProgramTrace → Type 0) → Option ProgramTrace → Option ProgramTrace → Type 0
OfBoth N P None None = N
OfBoth N P (Some k) (Some after) = P k after
OfBoth N P k after = ⊥

-- the address and the count of the status that another event makes: of a clear that is pending where a Reset is due, Choose shows zero
abbrev pub IsShownOfChoice : Option Chosen → SubchannelState → SubchannelState → Option ProgramTrace → Type 0
IsShownOfChoice clear s next k = elim clear [ None ↦ IsShownOf s next k | Some act ↦ IsZeroShown s next ]

abbrev pub ShowsBy : Event → SubchannelState → SubchannelState → Option ProgramTrace → Type 0
ShowsBy (event.Choose word) s next k = IsShownOfChoice (clear_chosen (unsent_reset s.hold) s.scsw.activity.clear_pending) s next k
ShowsBy e s next k = IsShownOf s next k

-- of the subchannel at an index, before a step and after it
abbrev pub AtIndex : ℕ → State → State → (SubchannelState → SubchannelState → Type 0) → Type 0
AtIndex index s new P = (sub next : Subchannel) → slice_get s.subs index ≡ Some sub → slice_get new.subs index ≡ Some next → P sub.state next.state

-- each event: a signal that comes up is of the subchannel that meets it, and makes no status at another
abbrev pub GoesBy : ℕ → State → Event → Reply → State → Option ProgramTrace → Option ProgramTrace → Type 0
GoesBy index s (event.Up word path) (reply.Up signal taken sent) new k after =
    (is_path (index_of s word) index ≡ false → (after ≡ k) × AtIndex index s new (λ sub next. next.serials.made ≡ sub.serials.made))
    × (is_path (index_of s word) index ≡ true →
    AtIndex index s new (λ sub next. OfBoth (MeetsNone s.storage new.storage sub next signal) (Meets s.storage new.storage sub next signal taken sent) k after))
GoesBy index s e r new k after = (after ≡ traced_after index s e r k) × AtIndex index s new (λ sub next. ShowsBy e sub next k)

-- what is done for the program of an index, throughout a run: none at first, and in each step it goes on by what is seen, and is correct
abbrev pub IsTold : ℕ → (opening : State) (h : List Entry) (s : State) → Run opening h s → Option ProgramTrace → Type 0
IsTold index opening _ _ Opened k = k ≡ None
IsTold index opening _ _ (Stepped h old e r new run step) k =
    (before : Option ProgramTrace) × IsTold index opening h old run before × GoesBy index old e r new before k × IfSome k TraceCorrect

-- so it can be told of each subchannel
abbrev pub AllTold : (opening : State) (h : List Entry) (s : State) → Run opening h s → Type 0
AllTold opening h s run = (index : ℕ) (sub : Subchannel) → slice_get s.subs index ≡ Some sub → (k : Option ProgramTrace) × IsTold index opening h s run k
