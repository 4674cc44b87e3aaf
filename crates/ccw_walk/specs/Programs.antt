-- A program in storage, told from what was done for its start, in the order of time: which block is
-- next, and which commands the blocks are (SA22-7832, chapter 15).
use Rattle.std.specs.Prelude.{◌≡◌, ℕ, ◌+◌, ◌&&◌, not, Bool, true, false, if◌then◌else◌, Option, None, Some, ⊤}
use Rattle.orb_block.specs.declared.Orb.{Orb}
use Rattle.ccw_codec.specs.declared.Ccw.{Ccw}
use Rattle.ccw_walk.specs.declared.program.Role.{Role}
use Rattle.ccw_walk.specs.declared.program.Latest.{Latest}
use Rattle.ccw_walk.specs.declared.program.Ended.{Ended}
use Rattle.ccw_walk.specs.declared.program.Reading.{Reading}
use Rattle.ccw_walk.specs.declared.program.Reading.TheVariants.{Transfers, Takes, Suspends}
use Rattle.ccw_walk.specs.Blocks.{reads}
use Rattle.ccw_walk.specs.Sequences.{Sequence, Nothing, ◌▸◌}
use Rattle.ccw_walk.specs.Acts.{Act, Block, Unfetched, Used_up, End}

-- the role of the next block: the blocks before tell it, suspended ones apart
abbrev pub role_after : Role → Reading → Role
role_after role (Transfers target) = record { first = false; after_transfer = true; chained = role.chained }
role_after role (Takes ccw) = record { first = false; after_transfer = false; chained = ccw.chain_data }
role_after role reading = role

abbrev pub role_of : Orb → Sequence Act → Role
role_of orb Nothing = record { first = true; after_transfer = false; chained = false }
role_of orb (before ▸ Block address bytes) = role_after (role_of orb before) (reads orb (role_of orb before) bytes)
role_of orb (before ▸ act) = role_of orb before

-- the last block that took control
abbrev pub latest_after : Option Latest → ℕ → Reading → Option Latest
latest_after last address (Takes ccw) = Some (record { address = address; ccw = ccw })
latest_after last address reading = last

abbrev pub latest : Orb → Sequence Act → Option Latest
latest orb Nothing = None
latest orb (before ▸ Block address bytes) = latest_after (latest orb before) address (reads orb (role_of orb before) bytes)
latest orb (before ▸ act) = latest orb before

-- after a transfer in channel the next block is at its target, and after a suspension at the same
-- address again. A block that shows a check ends the program
abbrev pub next_after : ℕ → Reading → Option ℕ
next_after address (Transfers target) = Some target
next_after address Suspends = Some address
next_after address reading = None

-- where data is chained, the next block is 8 bytes on once the count is used up
abbrev pub next_used_up : Option Latest → Option ℕ
next_used_up None = None
next_used_up (Some last) = if last.ccw.chain_data then Some (last.address + 8) else None

-- where commands are chained, and data is not, it is 8 bytes on once the command ended, and 16 with
-- status modifier
abbrev pub next_ended : Option Latest → Ended → Option ℕ
next_ended None ended = None
next_ended (Some last) ended =
    if ended.goes_on && (last.ccw.chain_command && not last.ccw.chain_data)
    then Some (if ended.modifier then last.address + 16 else last.address + 8) else None

-- where the next block is, if one is to be fetched now
abbrev pub next : Orb → Sequence Act → Option ℕ
next orb Nothing = Some orb.program
next orb (before ▸ Block address bytes) = next_after address (reads orb (role_of orb before) bytes)
next orb (before ▸ Unfetched address check) = None
next orb (before ▸ Used_up) = next_used_up (latest orb before)
next orb (before ▸ End ended) = next_ended (latest orb before) ended
next orb (before ▸ act) = next orb before

-- the address that the subchannel status shows: 8 bytes past the last block whose fetch was tried, and
-- before any that of the program (chapter 16)
abbrev pub tried : Orb → Sequence Act → ℕ
tried orb Nothing = orb.program
tried orb (before ▸ Block address bytes) = address + 8
tried orb (before ▸ Unfetched address check) = address + 8
tried orb (before ▸ act) = tried orb before

-- each block is where the acts before it say, and a count is used up, or a command ends, only where no
-- block is to be fetched
abbrev pub IsProgram : Orb → Sequence Act → Type 0
IsProgram orb Nothing = ⊤
IsProgram orb (before ▸ Block address bytes) = (next orb before ≡ Some address) × IsProgram orb before
IsProgram orb (before ▸ Unfetched address check) = (next orb before ≡ Some address) × IsProgram orb before
IsProgram orb (before ▸ Used_up) = (next orb before ≡ None) × IsProgram orb before
IsProgram orb (before ▸ End ended) = (next orb before ≡ None) × IsProgram orb before
IsProgram orb (before ▸ act) = IsProgram orb before

-- a command: a block that took control, and those that data was chained to, in order
pub record Command : Type 0 where
  pub first : Ccw
  pub more : Sequence Ccw

abbrev pub join_last : Sequence Command → Ccw → Sequence Command
join_last Nothing ccw = Nothing
join_last (before ▸ command) ccw = before ▸ record { first = command.first; more = command.more ▸ ccw }

abbrev pub commands_after : Bool → Sequence Command → Reading → Sequence Command
commands_after chained before (Takes ccw) = if chained then join_last before ccw else before ▸ record { first = ccw; more = Nothing }
commands_after chained before reading = before

-- the commands of a program, in order
abbrev pub commands : Orb → Sequence Act → Sequence Command
commands orb Nothing = Nothing
commands orb (before ▸ Block address bytes) = commands_after (role_of orb before).chained (commands orb before) (reads orb (role_of orb before) bytes)
commands orb (before ▸ act) = commands orb before

-- the code of a command is that of its first block
abbrev pub code : Command → ℕ
code command = command.first.command
