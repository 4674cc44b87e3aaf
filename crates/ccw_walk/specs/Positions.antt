-- Where a channel program stands (SA22-7832, chapter 15). `Programs` tells it from all acts since the start; here it is kept as a position,
-- which each act moves on. A block is a CCW, eight bytes of the program.
use Rattle.std.specs.Prelude.{ℕ, ◌+◌, List, Option, None}
use Rattle.orb_block.specs.declared.Orb.{Orb}
use Rattle.ccw_walk.specs.declared.program.Role.{Role}
use Rattle.ccw_walk.specs.declared.program.Latest.{Latest}
use Rattle.ccw_walk.specs.declared.program.Ended.{Ended}
use Rattle.ccw_walk.specs.Blocks.{reads}
use Rattle.ccw_walk.specs.Sequences.{Sequence, Nothing, ◌▸◌}
use Rattle.ccw_walk.specs.Acts.{Act, Block, Unfetched, Used_up, End}
use Rattle.ccw_walk.specs.Programs.{role_of, role_after, latest as latest_of, latest_after, next as next_of, next_after, next_used_up, next_ended, tried as tried_of}

pub record WalkPosition : Type 0 where
  -- the operation-request block (ORB) of the program
  pub orb : Orb
  -- the role of the next CCW
  pub role : Role
  -- the last CCW that took control
  pub latest : Option Latest
  -- the address of the next CCW, where one is to be fetched now
  pub next : Option ℕ
  -- the CCW address that the SCSW shows: 8 higher than that of the last CCW whose fetch was tried
  pub tried : ℕ

-- the position after these acts
abbrev pub walk_position : Orb → Sequence Act → WalkPosition
walk_position orb acts = record { orb = orb; role = role_of orb acts; latest = latest_of orb acts; next = next_of orb acts; tried = tried_of orb acts }

-- a CCW was fetched: it takes control, suspends the program, transfers in channel (TIC), or shows a program check
abbrev pub after_block : WalkPosition → ℕ → List ℕ → WalkPosition
after_block old address bytes =
    let reading = reads old.orb old.role bytes in record old {
      role = role_after old.role reading;
      latest = latest_after old.latest address reading;
      next = next_after address reading;
      tried = address + 8;
    }

-- the next CCW can't be fetched: the program is over
abbrev pub after_unfetched : WalkPosition → ℕ → WalkPosition
after_unfetched old address = record old { next = None; tried = address + 8 }

-- the count of the last CCW is used up: with CD one the next CCW follows it
abbrev pub after_count_used_up : WalkPosition → WalkPosition
after_count_used_up old = record old { next = next_used_up old.latest }

-- the command ended: with CC one, and CD zero, the next CCW follows the last one, or the one behind that with status modifier
abbrev pub after_command_end : WalkPosition → Ended → WalkPosition
after_command_end old ended = record old { next = next_ended old.latest ended }

-- the position one act further
abbrev pub after_act : WalkPosition → Act → WalkPosition
after_act old (Block address bytes) = after_block old address bytes
after_act old (Unfetched address check) = after_unfetched old address
after_act old Used_up = after_count_used_up old
after_act old (End ended) = after_command_end old ended
after_act old act = old

-- the position some acts further
abbrev pub after_acts : WalkPosition → Sequence Act → WalkPosition
after_acts old Nothing = old
after_acts old (before ▸ act) = after_act (after_acts old before) act
