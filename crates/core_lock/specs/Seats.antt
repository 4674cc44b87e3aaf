-- What contracts see of a locked machine and of its seats (own).
use Rattle.std.specs.Prelude.{ℕ, ◌==◌, List, [], ◌∷◌, Option, if◌then◌else◌}
use Rattle.scsw_irb.specs.declared.serials.Serials.{Serials}
use Rattle.chan_events.specs.Events.{Event}
use Rattle.chan_events.specs.declared.reply.Entry.{Entry}
use Rattle.chan_events.specs.Replies.{Reply}
use Rattle.channel_config.specs.Setup.{Setup}
use Rattle.glance_cell.specs.Shown.{Words}
use Rattle.machine_model.specs.State.{State}
use Rattle.unit_driver.specs.declared.turns.OwedCall.{OwedCall}
use Rattle.unit_driver.specs.declared.waiting.WaitingReport.{WaitingReport}
use Rattle.unit_driver.specs.declared.turns.TakenCommand.{TakenCommand}
use Rattle.glance_directory.specs.Directory.{Directory}
use Rattle.glance_directory.specs.Raising.{raised_among}

-- a machine under its lock: its state and the history that led there, the seat of each entry of it, and how many seats were made
pub record Locked : Type 0 where
  pub state : State
  pub history : List Entry
  pub by : List ℕ
  pub seats : ℕ

-- what the lock of a machine guards: its state and the history that led there, and the seat of each entry of it
pub record Guarded : Type 0 where
  pub state : State
  pub history : List Entry
  pub by : List ℕ

-- a seat: its number, and what it entered; how its machine is set up, the subchannels of it, what it saw of the counts of each, and what
-- its readers loaded last; how many turns it made and calls it began, the call that it owes, the report that it keeps, and the command after
-- which its unit left its path
pub record Seated : Type 0 where
  pub number : ℕ
  pub log : List Entry
  pub setup : Setup
  pub directory : Directory
  pub seen_serials : List Serials
  pub loaded : List Words
  pub turns : ℕ
  pub calls : ℕ
  pub owed : Option OwedCall
  pub waiting : Option WaitingReport
  pub left : Option TakenCommand

-- a machine under its lock, and for how many more entries there is room, in its history and beside it
pub record LockedCore : Type 0 where
  pub value : Locked
  pub room : ℕ

-- what the lock guards, and for how many more entries there is room
pub record GuardedCore : Type 0 where
  pub value : Guarded
  pub room : ℕ

-- a seat, for how many more entries its log has room, and how often an event was refused it for want of memory
pub record HeldSeat : Type 0 where
  pub value : Seated
  pub room : ℕ
  pub starved : ℕ

abbrev pub entry : Event → Reply → Entry
entry e r = record { event = e; reply = r }

-- the entries of a history that were entered by the seat of this number, in order
abbrev pub entries_by : ℕ → List ℕ → List Entry → List Entry
entries_by number [] history = []
entries_by number (n ∷ by) [] = []
entries_by number (n ∷ by) (e ∷ history) = if n == number then e ∷ entries_by number by history else entries_by number by history

-- the pairs of a seat, raised by an event that it entered
abbrev pub raised : Seated → Event → Reply → List Serials
raised seat e r = raised_among seat.seen_serials seat.directory e r
