-- Interruptions by the program (program-controlled interruption; SA22-7832, chapters 15 and 16).
use Rattle.std.specs.Prelude.{◌≡◌, ℕ, ◌+◌, ◌<◌, true, if◌then◌else◌}
use Rattle.orb_block.specs.declared.Orb.{Orb}
use Rattle.scsw_irb.specs.Status.{has}
use Rattle.ccw_walk.specs.declared.program.Reading.{Reading}
use Rattle.ccw_walk.specs.declared.program.Reading.TheVariants.{Takes}
use Rattle.ccw_walk.specs.Sequences.{Sequence, Nothing, ◌▸◌}
use Rattle.ccw_walk.specs.Acts.{Act, Block}
use Rattle.ccw_walk.specs.Blocks.{reads}
use Rattle.ccw_walk.specs.Programs.{role_of}
use Rattle.subchannel_model.specs.declared.state.SubchannelState.{SubchannelState}
use Rattle.run_laws.specs.Traces.{ProgramTrace}

-- a block asks for one as it takes control, where its PCI flag is one
abbrev pub asks_by : Reading → ℕ
asks_by (Takes ccw) = if ccw.program_controlled then 1 else 0
asks_by reading = 0

-- how many blocks asked so far
abbrev pub asked : Orb → Sequence Act → ℕ
asked orb Nothing = 0
asked orb (before ▸ Block address bytes) = asked orb before + asks_by (reads orb (role_of orb before) bytes)
asked orb (before ▸ act) = asked orb before

-- where one asks, intermediate status with PCI is made at once, whatever status is pending, unless the subchannel is not enabled
abbrev pub Interrupts : SubchannelState → SubchannelState → ProgramTrace → ProgramTrace → Type 0
Interrupts s next k after =
    asked k.orb k.now.acts < asked after.orb after.now.acts → s.pmcw.enabled ≡ true →
    (s.serials.made < next.serials.made) × (next.scsw.status.intermediate ≡ true) × (has next.scsw.subchannel_status.0 0x80 ≡ true)

-- and status is made of nothing else
abbrev pub OnlyInterrupts : SubchannelState → SubchannelState → ProgramTrace → ProgramTrace → Type 0
OnlyInterrupts s next k after = s.serials.made < next.serials.made → asked k.orb k.now.acts < asked after.orb after.now.acts
