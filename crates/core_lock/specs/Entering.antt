-- What entering an event leaves, and what a look finds (own).
use Rattle.std.specs.Prelude.{◌≡◌, ◌≢◌, ◌≤◌, ◌^◌, ◌⊎◌, ℕ, ◌+◌, ◌-◌, List, [], ◌∷◌, ◌++◌, length, min, IfErr, IfOk, OnErr, Some, Result, Ok, Err, Vec, vec_capacity, vec_len, slice_get, slice_set}
use Rattle.scsw_irb.specs.declared.serials.Serials.{Serials}
use Rattle.chan_model.specs.declared.fault.Fault.{Fault}
use Rattle.chan_model.specs.declared.fault.Fault.TheVariants as fault
use Rattle.chan_events.specs.Events.{Event}
use Rattle.chan_events.specs.declared.event.Event.TheVariants as event
use Rattle.chan_events.specs.Replies.{Reply}
use Rattle.glance_cell.specs.Shown.{Words}
use Rattle.machine_model.specs.Ruled.{GoesByRule}
use Rattle.machine_model.specs.State.{Past, State, serials_in, sub_of}
use Rattle.machine_model.specs.Steps.{Step, IsRefused}
use Rattle.path_select.specs.Choice.{Rule}
use Rattle.core_lock.specs.declared.executing.CpuInstruction.{CpuInstruction}
use Rattle.core_lock.specs.declared.executing.CpuInstruction.TheVariants as cpu_instruction
use Rattle.glance_directory.specs.Directory.{index_named}
use Rattle.glance_directory.specs.Cells.{counts_of}
use Rattle.glance_directory.specs.Raising.{greater}
use Rattle.core_lock.specs.Seats.{Guarded, GuardedCore, HeldSeat, LockedCore, Seated, entry, raised}

-- a seat after an event that it entered: its log has the entry
abbrev pub entered : Seated → Event → Reply → Seated
entered seat e r = record seat { log = seat.log ++ entry e r ∷ []; seen_serials = raised seat e r }

-- one step, one entry of the history with the number of its seat beside it, and the same in the log of the seat
abbrev pub Enters : Guarded → Seated → Event → Reply → Guarded → Seated → Type 0
Enters old seat e r new after =
    Step old.state e r new.state
    × (new.history ≡ old.history ++ entry e r ∷ [])
    × (new.by ≡ old.by ++ seat.number ∷ [])
    × (after ≡ entered seat e r)

-- what the lock of a core guards
abbrev pub guarded_in : LockedCore → GuardedCore
guarded_in core = record { value = record { state = core.value.state; history = core.value.history; by = core.value.by }; room = core.room }

-- an event may be refused so
abbrev pub MayRefuse : State → Event → Fault → Type 0
MayRefuse s e f = (f ≡ fault.NoMemory) ⊎ IsRefused s e f

-- for how many more entries there is room, in a history and beside it
abbrev pub room_of : {A Z : Type 0} → Past → Vec A Z → ℕ
room_of past by = min past.room (vec_capacity by - vec_len by)

-- what a lock guards: a past, and the seat of each entry of its history
abbrev pub core_of : {Z : Type 0} → Past → Vec ℕ Z → GuardedCore
core_of past by = record { value = record { state = past.state; history = past.history; by = by.items }; room = room_of past by }

-- there is no room for another entry, in the history, beside it or in the log of the seat, or no number for it is left
abbrev pub LacksSpace : ℕ → ℕ → ℕ → Type 0
LacksSpace core seat entries = (min core seat ≡ 0) ⊎ (2 ^ 62 ≤ entries + 1)

abbrev pub IsExhausted : GuardedCore → HeldSeat → Type 0
IsExhausted core seat = LacksSpace core.room seat.room (length core.value.history)

-- how often an event was refused a seat for want of memory, after this answer; the greatest number of 64 bits stays
abbrev pub starved_after : {A : Type 0} → Result A Fault → ℕ → ℕ
starved_after (Ok r) starved = starved
starved_after (Err fault.NoMemory) starved = min (starved + 1) 0xFFFFFFFFFFFFFFFF
starved_after (Err f) starved = starved

-- one event that is entered from a seat, and its answer, between what a lock guards before and after
pub record IsEntered (picks : Rule) (old : GuardedCore) (held : HeldSeat) (e : Event) (answer : Result Reply Fault) (new : GuardedCore) (after : HeldSeat) : Type 0 where
  -- an accepted event is a step with its reply
  pub step : IfOk answer (λ reply. Step old.value.state e reply new.value.state)
  -- the history has one entry more
  pub history : IfOk answer (λ reply. new.value.history ≡ old.value.history ++ entry e reply ∷ [])
  -- the number of the seat stands beside it
  pub by : IfOk answer (λ reply. new.value.by ≡ old.value.by ++ held.value.number ∷ [])
  -- the log of the seat has the same entry, and the serials that it has seen are raised by it
  pub logged : IfOk answer (λ reply. after.value ≡ entered held.value e reply)
  -- a path is chosen by the rule
  pub ruled : answer ≢ Err fault.NoMemory → GoesByRule picks old.value.state e answer new.value.state
  -- a refusal is the machine's, or for want of memory
  pub refusal : IfErr answer (λ f. MayRefuse old.value.state e f)
  -- memory is wanting only where there is no room, or no number is left
  pub exhausted : answer ≡ Err fault.NoMemory → IsExhausted old held
  -- a refusal leaves what the lock guards as it was
  pub core : OnErr answer (new.value ≡ old.value)
  -- a refusal leaves the seat as it was
  pub seat : OnErr answer (after.value ≡ held.value)
  -- a refusal for want of memory alone is counted
  pub starved : after.starved ≡ starved_after answer held.starved
  -- one event takes the room of one entry
  pub room : old.room ≤ new.room + 1
  -- and so in the log of the seat
  pub seat_room : held.room ≤ after.room + 1
  -- a refusal loses no room
  pub kept : OnErr answer ((old.room ≤ new.room) × (held.room ≤ after.room))

-- the event of an instruction
abbrev pub event_of : ℕ → CpuInstruction → Event
event_of cpu (cpu_instruction.OnSubchannel i) = event.Execute cpu i
event_of cpu (cpu_instruction.OfSubsystem i) = event.ExecuteOther cpu i

-- the reader that a seat has of the cell of a subchannel loads once, and finds these words; the seat had this pair of it
pub record LoadsOnce (old : Seated) (word index : ℕ) (pair : Serials) (words : Words) : Type 0 where
  pub before : Words
  pub named : index_named old.directory word ≡ Some index
  pub saw : slice_get old.seen_serials index ≡ Some pair
  pub had : slice_get old.loaded index ≡ Some before
  pub cell : words.cell ≡ before.cell
  pub loads : words.loads ≡ before.loads + 1

-- the reader of an index loads once, and finds these counts
abbrev pub LoadsAt : List Words → ℕ → Serials → List Words → Type 0
LoadsAt old index found new =
    (before : Words)
    × (slice_get old index ≡ Some before)
    × (new ≡ slice_set old index (record before { made = found.made; cleared = found.cleared; loads = before.loads + 1 }))

-- a seat with this pair of a subchannel, whose reader loaded these words
abbrev pub seat_loaded : Seated → ℕ → Serials → Words → Seated
seat_loaded seat index pair words = record seat { seen_serials = slice_set seat.seen_serials index pair; loaded = slice_set seat.loaded index words }

-- a look at a subchannel: what is found is part by part the greater of the words loaded and the pair, which becomes the pair
pub record Glances (old : Seated) (word : ℕ) (found : Serials) (new : Seated) : Type 0 where
  pub index : ℕ
  pub pair : Serials
  pub words : Words
  pub load : LoadsOnce old word index pair words
  pub found_is : found ≡ greater pair (counts_of words)
  pub leaves : new ≡ seat_loaded old index found words

-- a look at a subchannel with its machine at hand: what is found is the words loaded, and is what the machine has
pub record Looks (s : State) (old : Seated) (word : ℕ) (found : Serials) (new : Seated) : Type 0 where
  pub index : ℕ
  pub pair : Serials
  pub words : Words
  pub load : LoadsOnce old word index pair words
  pub found_is : found ≡ counts_of words
  pub has : serials_in (sub_of s word) ≡ Some found
  pub leaves : new ≡ seat_loaded old index (greater pair found) words
