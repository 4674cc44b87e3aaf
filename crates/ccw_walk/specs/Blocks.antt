-- What eight bytes of a channel program come to where they stand (SA22-7832, chapter 15).
use Rattle.std.specs.Prelude.{ℕ, ◌==◌, ◌&&◌, ◌||◌, not, Bool, if◌then◌else◌, List, Option, None, Some}
use Rattle.orb_block.specs.declared.Orb.{Orb}
use Rattle.ccw_codec.specs.declared.Ccw.{Ccw}
use Rattle.ccw_codec.specs.declared.CcwFault.{CcwFault}
use Rattle.ccw_codec.specs.declared.Format.{Format}
use Rattle.ccw_codec.specs.declared.Format.TheVariants.{Zero, One}
use Rattle.ccw_codec.specs.Block.{ccw_of, fault_of}
use Rattle.ccw_codec.specs.Command.{is_transfer, is_valid}
use Rattle.ccw_walk.specs.declared.program.Role.{Role}
use Rattle.ccw_walk.specs.declared.program.Reading.{Reading}
use Rattle.ccw_walk.specs.declared.program.Reading.TheVariants.{Transfers, Takes, Suspends, Shows}

-- the format of a program's blocks is F of its operation-request block
abbrev pub format_of : Orb → Format
format_of orb = if orb.format_one then One else Zero

-- another block shows a check where its code is invalid, which is ignored where data is chained to it;
-- where data is chained to it and its count is zero; and where it may not suspend and has S one (own)
abbrev pub is_misplaced_command : Orb → Role → Ccw → Bool
is_misplaced_command orb role ccw =
    not role.chained && not (is_valid (format_of orb) ccw.command)
    || role.chained && (ccw.count == 0)
    || ccw.suspend && (not orb.suspend || role.chained)

abbrev pub command_reads : Orb → Role → Ccw → Reading
command_reads orb role ccw = if is_misplaced_command orb role ccw then Shows else if ccw.suspend then Suspends else Takes ccw

-- a transfer in channel is neither the first block nor the target of another transfer
abbrev pub transfer_reads : Role → Ccw → Reading
transfer_reads role ccw = if role.first || role.after_transfer then Shows else Transfers ccw.address

-- a block that shows a fault by itself shows it wherever it stands
abbrev pub block_reads : Orb → Role → Option CcwFault → Ccw → Reading
block_reads orb role (Some fault) ccw = Shows
block_reads orb role None ccw = if is_transfer (format_of orb) ccw.command then transfer_reads role ccw else command_reads orb role ccw

-- what a block comes to. Modified indirect words, which D of the operation-request block asks for, are
-- not provided: the first block shows a check (own)
abbrev pub reads : Orb → Role → List ℕ → Reading
reads orb role bytes =
    if role.first && orb.modified_words then Shows
    else block_reads orb role (fault_of (format_of orb) bytes) (ccw_of (format_of orb) bytes)
