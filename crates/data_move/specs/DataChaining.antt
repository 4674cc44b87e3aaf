-- Data chaining (SA22-7832, chapter 15): the next CCW of a command takes control as the count of the current one is used up.
use Rattle.std.specs.Prelude.{ℕ, Bool, not, ◌==◌, ◌&&◌, if◌then◌else◌, Option, None, Some, is_none}
use Rattle.storage_keys.specs.Storage.{Contents}
use Rattle.ccw_walk.specs.declared.check.Check.TheVariants.{Program}
use Rattle.ccw_walk.specs.declared.program.Advance.{Advance}
use Rattle.ccw_walk.specs.declared.program.Advance.TheVariants.{Takes, Suspends, Stops}
use Rattle.ccw_walk.specs.Positions.{WalkPosition, after_acts, after_count_used_up}
use Rattle.ccw_walk.specs.Advancing.{advance_acts, advance_of_acts}
use Rattle.data_move.specs.Moving as movement
use Rattle.data_move.specs.declared.transfer.Transfer.{Transfer}
use Rattle.data_move.specs.Commands.{data_of}

-- so many bytes were moved: they are taken off the count of the current CCW
abbrev pub with_bytes_moved : Transfer → ℕ → Transfer
with_bytes_moved t count = record t { moving = movement.moved t.moving count }

-- data is chained where bytes were moved, the count of the current CCW is used up, its CD flag is one, and no check stopped the transfer
abbrev pub chains_data : Transfer → ℕ → Bool
chains_data t count = not (count == 0) && ((movement.residual t.moving == 0) && (t.moving.ccw.chain_data && is_none t.fault))

-- the next CCW takes control with its own address, count and flags, and its PCI flag may ask for an interruption; where it is suspended
-- or can't take control, a check stops the transfer
abbrev pub with_next_ccw : Transfer → WalkPosition → Option Advance → Transfer
with_next_ccw t walk (Some (Takes ccw)) = record t { walk = walk; moving = data_of walk t.code ccw; pci_pending = ccw.program_controlled }
with_next_ccw t walk (Some Suspends) = record t { walk = walk; fault = Some Program }
with_next_ccw t walk (Some (Stops check)) = record t { walk = walk; fault = Some check }
with_next_ccw t walk None = t

-- the next CCW is fetched as the place of the program says, a transfer in channel (TIC) on the way included
abbrev pub chained_from : Contents → Transfer → WalkPosition → Transfer
chained_from storage t place =
    let acts = advance_acts storage place in
    with_next_ccw t (after_acts place acts) (advance_of_acts place acts)

-- the count of the current CCW is used up, and the next CCW follows
abbrev pub data_chained : Contents → Transfer → Transfer
data_chained storage t = chained_from storage t (after_count_used_up t.walk)

-- a transfer of which so many more bytes were moved
abbrev pub after_bytes_moved : Contents → Transfer → ℕ → Transfer
after_bytes_moved storage t count =
    if chains_data (with_bytes_moved t count) count then data_chained storage (with_bytes_moved t count) else with_bytes_moved t count
