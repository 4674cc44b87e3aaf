-- How a command of a channel program begins (SA22-7832, chapter 15).
use Rattle.std.specs.Prelude.{ℕ, ◌+◌, Bool, true, false, not, ◌&&◌, ◌||◌, if◌then◌else◌, Option, None, Some, is_some, Result, Ok, Err}
use Rattle.ccw_codec.specs.declared.Ccw.{Ccw}
use Rattle.ccw_codec.specs.declared.Class.{Class}
use Rattle.ccw_codec.specs.declared.Class.TheVariants as class
use Rattle.ccw_codec.specs.Command.{class_of}
use Rattle.storage_keys.specs.Storage.{Contents}
use Rattle.chan_model.specs.UnitReports.{is_outward}
use Rattle.ccw_walk.specs.declared.check.Check.{Check}
use Rattle.ccw_walk.specs.declared.check.Check.TheVariants.{Program}
use Rattle.ccw_walk.specs.declared.program.Advance.{Advance}
use Rattle.ccw_walk.specs.declared.program.Advance.TheVariants.{Takes, Suspends, Stops}
use Rattle.ccw_walk.specs.Acts.{End}
use Rattle.ccw_walk.specs.Positions.{WalkPosition, after_act, after_acts}
use Rattle.ccw_walk.specs.Advancing.{advance_acts, advance_of_acts}
use Rattle.idaw.specs.Lists.{kind_of}
use Rattle.data_move.specs.Moving as movement
use Rattle.data_move.specs.Moving.{Moving}
use Rattle.data_move.specs.Accesses as access
use Rattle.data_move.specs.declared.transfer.Transfer.{Transfer}
use Rattle.data_move.specs.declared.transfer.CommandStart.{CommandStart}
use Rattle.data_move.specs.declared.transfer.CommandStart.TheVariants as outcome
use Rattle.data_move.specs.declared.transfer.Beginning.{Beginning}
use Rattle.data_move.specs.declared.transfer.WithRoom.{WithRoom}

-- SKIP has an effect where bytes come in
abbrev pub is_skipped : ℕ → Ccw → Bool
is_skipped code ccw = ccw.skip && not (is_outward code)

-- the data of a block that took control in a command of this code
abbrev pub data_of : WalkPosition → ℕ → Ccw → Moving
data_of walk code ccw = movement.moving_begun (kind_of walk.orb) ccw (is_skipped code ccw)

abbrev pub transfer_of : WalkPosition → ℕ → Ccw → Transfer
transfer_of walk n ccw = record {
  command = n;
  code = ccw.command;
  walk = walk;
  moving = data_of walk ccw.command ccw;
  pci_pending = ccw.program_controlled;
  sequence = 0;
  offered = 0;
  stopped = false;
  fault = None;
  ended = false;
  unchained = false;
}

-- a program whose next block takes control begins a command; it is suspended, or ends with a check
abbrev pub command_begins : WalkPosition → ℕ → Option Advance → CommandStart
command_begins walk n (Some (Takes ccw)) = outcome.Begins (transfer_of walk n ccw)
command_begins walk n (Some Suspends) = outcome.Suspends
command_begins walk n (Some (Stops check)) = outcome.Stops check
command_begins walk n None = outcome.Stops Program

-- the command that a program goes on to from a place
abbrev pub goes_to : Contents → ℕ → WalkPosition → Beginning
goes_to storage n old =
    let acts = advance_acts storage old in
    record { walk = after_acts old acts; outcome = command_begins (after_acts old acts) n (advance_of_acts old acts) }

-- the first command of a program from where it stands: at its beginning, or where it was suspended; and the next after one
-- that ended, with status modifier or without
abbrev pub first_command : Contents → WalkPosition → Beginning
first_command storage walk = goes_to storage 1 walk

abbrev pub next_command : Contents → Transfer → Bool → Beginning
next_command storage t modifier = goes_to storage (t.command + 1) (after_act t.walk (End (record { goes_on = true; modifier = modifier })))

-- the next word of an indirect list is fetched where it is needed; where it can't be, that is a fault
abbrev pub with_located : Transfer → Result Moving Check → Transfer
with_located t (Ok moving) = record t { moving = moving }
with_located t (Err check) = record t { fault = Some check }

abbrev pub located_transfer : Contents → Transfer → Transfer
located_transfer storage t = if is_some t.fault then t else with_located t (access.located storage t.walk.orb.key t.moving)

-- the bytes of the next chunk: none where the transfer is stopped or has a fault
abbrev pub has_stopped : Transfer → Bool
has_stopped t = t.stopped || is_some t.fault

abbrev pub room_of_transfer : Transfer → ℕ
room_of_transfer t = if has_stopped t then 0 else movement.room t.moving

abbrev pub with_room : Contents → Transfer → WithRoom
with_room storage t = record { transfer = located_transfer storage t; room = room_of_transfer (located_transfer storage t) }

-- a command that brings bytes in is told at once how many may come
abbrev pub brings : Class → Bool
brings class.Read = true
brings class.Sense = true
brings other = false

abbrev pub begun_with_room : Contents → Transfer → WithRoom
begun_with_room storage t = if brings (class_of t.code) then with_room storage t else record { transfer = t; room = 0 }
