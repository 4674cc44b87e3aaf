-- What a locked machine and a seat keep, whenever no call is at work on them (own).
use Rattle.std.specs.Prelude.{◌≡◌, ◌≤◌, ℕ, ◌+◌, All, List, length}
use Rattle.scsw_irb.specs.declared.serials.Serials.{Serials}
use Rattle.chan_events.specs.declared.reply.Reply.TheVariants as reply
use Rattle.channel_config.specs.Setup.{Setup}
use Rattle.event_log.specs.Logs.{Logged}
use Rattle.glance_cell.specs.Shown.{Words}
use Rattle.machine_model.specs.State.{Past}
use Rattle.machine_model.specs.Setups.{IsSetUp}
use Rattle.subsystem.specs.Keeping.{IsOrdered, all_serials}
use Rattle.glance_directory.specs.Directory.{Directory, directory_by}
use Rattle.glance_directory.specs.Cells.{cells_of, shown}
use Rattle.core_lock.specs.Named.{MachineName}

-- how many parts of a ledger, and how much of what it counts, a share has
pub record Part : Type 0 where
  pub parts : ℕ
  pub amount : ℕ

-- what a seat has of a ledger that is cut into 1,025 parts: one of them; the machine has the rest, and none of what is counted
abbrev pub IsRest : Part → ℕ → Type 0
IsRest rest seats = (rest.parts + seats ≡ 1025) × (rest.amount ≡ 0)

-- what the lock of a machine guards, whose past and cells are these: it is set up as it is named; each entry has its seat, and the
-- ledger counts the entries; each writer's view is the counts of its subchannel
pub record IsGuarded (past : Past) (by : List ℕ) (counted : ℕ) (writers : List Words) (held : Directory) (setup : Setup) (name : MachineName) : Type 0 where
  pub beside : length by ≡ length past.history
  pub entries : counted ≡ length past.history
  pub shown : shown writers ≡ all_serials past.state
  pub cells : cells_of writers ≡ name.cells
  pub directory : held ≡ name.directory
  pub set_up : IsSetUp setup past.state
  pub named : directory_by setup ≡ name.directory

-- the seats that can still be made, of which so many were made: the rest of both ledgers
pub record IsStock (made : ℕ) (left turns_left : Part) : Type 0 where
  pub most : made ≤ 1024
  pub rest : IsRest left made
  pub turns : IsRest turns_left made

-- a seat: its share is the length of its log, in which no entry is being written; it has a pair, in order, and a reader for each
-- subchannel
pub record IsSeat (counted : Part) (turn_parts : ℕ) (log : Logged) (seen_serials : List Serials) (readers : List Words) (held : Directory) (name : MachineName) : Type 0 where
  pub share : counted.parts ≡ 1
  pub turns : turn_parts ≡ 1
  pub entries : counted.amount ≡ length log.entries
  pub fresh : log.reply ≡ reply.Done
  pub beside : length seen_serials ≡ length readers
  pub ordered : All IsOrdered seen_serials
  pub cells : cells_of readers ≡ name.cells
  pub names : length held.setups ≡ length readers
  pub directory : held ≡ name.directory
