-- CPUs that race: what each of them did, and what is told of all (own).
use Rattle.std.specs.Prelude.{◌≡◌, ◌≤◌, ◌<◌, ◌+◌, ◌*◌, ◌||◌, min, ℕ, Bool, true, false, All, IsTrue, ◌↔◌, List, [], ◌∷◌, ◌++◌, length, slice_index_or, Option, None, Some, Result, Ok, Err}
use Rattle.chan_events.specs.Events.{Event}
use Rattle.chan_events.specs.declared.event.Instruction.TheVariants as instruction
use Rattle.chan_events.specs.declared.reply.Entry.{Entry}
use Rattle.chan_events.specs.Replies.{Reply}
use Rattle.chan_events.specs.declared.reply.Reply.TheVariants as reply
use Rattle.chan_model.specs.ConditionCodes.{code_of}
use Rattle.chan_model.specs.declared.answer.ConditionCode.{ConditionCode}
use Rattle.chan_model.specs.declared.answer.ConditionCode.TheVariants.{Zero, One, Two, Three}
use Rattle.chan_model.specs.declared.fault.Fault.{Fault}
use Rattle.channel_config.specs.Setup.{Setup}
use Rattle.core_lock.specs.declared.executing.CpuInstruction.{CpuInstruction}
use Rattle.core_lock.specs.declared.executing.CpuInstruction.TheVariants as cpu_instruction
use Rattle.core_lock.specs.Entering.{event_of}
use Rattle.glance_directory.specs.Directory.{directory_of}
use Rattle.glance_directory.specs.Cells.{shown}
use Rattle.core_lock.specs.Seats.{HeldSeat, Locked, Seated, entries_by}
use Rattle.glance_cell.specs.Shown.{Words}
use Rattle.script_rows.specs.declared.race.Race.{Race}
use Rattle.script_text.specs.declared.race.RaceCount.{RaceCount}
use Rattle.subsystem.specs.Keeping.{all_serials}
use Rattle.script_runner.specs.declared.tally.Tally.{Tally}

-- a CPU stores what it is answered at real 800 (hexadecimal) and 40 times its number
abbrev pub irb_of : ℕ → ℕ
irb_of cpu = 0x800 + 0x40 * cpu

abbrev pub test_of : Race → ℕ → CpuInstruction
test_of race cpu = cpu_instruction.OnSubchannel (instruction.Tsch race.subchannel (irb_of cpu))

-- TEST SUBCHANNEL of the subchannel of a race, by a CPU
abbrev pub tested : Race → ℕ → Event
tested race cpu = event_of cpu (test_of race cpu)

abbrev pub no_tally : Tally
no_tally = record { zero = 0; one = 0; two = 0; three = 0; entries = 0; refused = false }

-- the condition code in a reply to TEST SUBCHANNEL
abbrev pub code_in : Reply → Option ConditionCode
code_in (reply.Code answer) = Some (code_of answer)
code_in (reply.Status answer scsw) = Some (code_of answer)
code_in other = None

-- an instruction that was accepted, by the condition code that it answered
abbrev pub counted : Tally → Option ConditionCode → Tally
counted t None = record t { entries = t.entries + 1 }
counted t (Some Zero) = record t { zero = t.zero + 1; entries = t.entries + 1 }
counted t (Some One) = record t { one = t.one + 1; entries = t.entries + 1 }
counted t (Some Two) = record t { two = t.two + 1; entries = t.entries + 1 }
counted t (Some Three) = record t { three = t.three + 1; entries = t.entries + 1 }

-- an instruction; a refused one is counted nowhere
abbrev pub tally_after : Tally → Result Reply Fault → Tally
tally_after t (Ok r) = counted t (code_in r)
tally_after t (Err f) = record t { refused = true }

-- the entries of a log
abbrev pub tally_of : Tally → List Entry → Tally
tally_of t [] = t
tally_of t (e ∷ log) = tally_of (counted t (code_in e.reply)) log

abbrev pub plus : Tally → Tally → Tally
plus a b = record {
  zero = a.zero + b.zero;
  one = a.one + b.one;
  two = a.two + b.two;
  three = a.three + b.three;
  entries = a.entries + b.entries;
  refused = a.refused || b.refused;
}

-- entries of one instruction
abbrev pub AreTests : Race → ℕ → List Entry → Type 0
AreTests race cpu [] = Unit {0}
AreTests race cpu (e ∷ log) = (e.event ≡ tested race cpu) × AreTests race cpu log

-- no code is counted without its entry, and of these there are so few
abbrev pub IsBelow : ℕ → Tally → Type 0
IsBelow limit t = (t.zero + t.one + t.two + t.three ≤ t.entries) × (t.entries < limit)

-- a CPU that races: its number, its seat, and what came of its instructions
pub record Runner : Type 0 where
  pub cpu : ℕ
  pub seat : HeldSeat
  pub tally : Tally

-- CPUs that did nothing yet, by their numbers from this on
abbrev pub AreReady : ℕ → List Runner → Type 0
AreReady number [] = Unit {0}
AreReady number (r ∷ rs) = (r.cpu ≡ number) × (r.seat.value.log ≡ []) × AreReady (number + 1) rs

-- as many CPUs, by their numbers from 0, but no more than there can be
abbrev pub AreMade : ℕ → List Runner → Type 0
AreMade count rs = (length rs ≡ min count 16) × AreReady 0 rs

-- a CPU executed its instruction so often; its log grew by those that were accepted
pub record HasTested (race : Race) (cpu times : ℕ) (old new : List Entry) (tally : Tally) : Type 0 where
  pub more : List Entry
  pub log : new ≡ old ++ more
  pub tests : AreTests race cpu more
  pub most : length more ≤ times
  pub counts : tally ≡ record (tally_of no_tally more) { refused = tally.refused }
  pub refused : IsTrue tally.refused ↔ (length more < times)

abbrev pub HasRaced : Race → Runner → Runner → Type 0
HasRaced race old new =
    (new.cpu ≡ old.cpu) × HasTested race old.cpu race.times old.seat.value.log new.seat.value.log new.tally

abbrev pub HaveRaced : Race → List Runner → List Runner → Type 0
HaveRaced race old new =
    (length new ≡ length old)
    × ((index : ℕ) (other : Runner) → index < length old → HasRaced race (slice_index_or old index other) (slice_index_or new index other))

-- what came of all, the last of them first, after what came of others
abbrev pub total_after : Tally → List Runner → Tally
total_after t [] = t
total_after t (r ∷ rs) = plus (total_after t rs) r.tally

abbrev pub total_of : List Runner → Tally
total_of rs = total_after no_tally rs

-- their seats, the last of them first
abbrev pub seats_of : List Runner → List HeldSeat
seats_of [] = []
seats_of (r ∷ rs) = seats_of rs ++ r.seat ∷ []

-- CPUs raced, and their seats are beside others
pub record HaveGathered (race : Race) (ready : List Runner) (others all : List HeldSeat) (total : Tally) : Type 0 where
  pub raced : List Runner
  pub run : HaveRaced race ready raced
  pub seats : all ≡ others ++ seats_of raced
  pub total_is : total ≡ total_of raced

-- a new seat of a machine that is set up so, whose readers loaded these words: it did nothing yet
abbrev pub new_seat : Setup → Locked → List Words → Seated
new_seat setup core loaded = record {
  number = core.seats;
  log = [];
  setup = setup;
  directory = directory_of core.state;
  seen_serials = all_serials core.state;
  loaded = loaded;
  turns = 0;
  calls = 0;
  owed = None;
  waiting = None;
  left = None;
}

-- what its readers loaded are the serials that the machine has
abbrev pub IsNewSeat : Setup → Locked → Seated → Type 0
IsNewSeat setup core seat = (seat ≡ new_seat setup core seat.loaded) × (shown seat.loaded ≡ all_serials core.state)

-- the same machine, but for how many seats were made
abbrev pub IsSeatedIn : Locked → Locked → Type 0
IsSeatedIn old new = new ≡ record old { seats = new.seats }

-- the history has the log of each seat, no other seat was made, and there are so many entries
abbrev pub HasLogs : Locked → List HeldSeat → ℕ → Type 0
HasLogs core seats entries =
    All (λ s. entries_by s.value.number core.by core.history ≡ s.value.log) seats
    × (length seats ≡ core.seats)
    × (length core.history ≡ entries)

-- what is told of a race
abbrev pub count_of : Tally → Bool → RaceCount
count_of t audited = record { zero = t.zero; one = t.one; two = t.two; three = t.three; entries = t.entries; audited = audited }
