-- The command address and the count that the status word shows (SA22-7832, chapter 16).
use Rattle.std.specs.Prelude.{◌≡◌, ◌&&◌, ◌||◌, ℕ, ◌+◌, ◌<◌, Bool, true, false, is_none, is_some, Option, None, Some, length}
use Rattle.scsw_irb.specs.declared.scsw.Scsw.{Scsw}
use Rattle.ccw_walk.specs.Programs.{tried}
use Rattle.subchannel_model.specs.declared.state.SubchannelState.{SubchannelState}
use Rattle.run_laws.specs.DataAreas.{data_areas, counts}
use Rattle.run_laws.specs.Traces.{ProgramTrace}

-- a count that is the sum of the counts of the command's blocks, less the bytes that were moved
abbrev pub IsRest : ℕ → ProgramTrace → Type 0
IsRest count k = counts (data_areas k.orb k.now.acts) ≡ length k.now.moved + count

-- and an address that is eight more than that of the block whose fetch was tried last, and before any that of the first
abbrev pub IsRestAt : ℕ → ℕ → ProgramTrace → Type 0
IsRestAt address count k = (address ≡ tried k.orb k.now.acts) × IsRest count k

-- its address and its count are those of the program
abbrev pub ShowsProgram : Scsw → ProgramTrace → Type 0
ShowsProgram shown k = IsRestAt shown.command_address shown.count k

-- they are those that stood before
abbrev pub ShowsStanding : Scsw → Scsw → Type 0
ShowsStanding before shown = (shown.command_address ≡ before.command_address) × (shown.count ≡ before.count)

-- the first of these, or the second
abbrev pub ShowsIf : Bool → Scsw → Scsw → ProgramTrace → Type 0
ShowsIf true before shown k = ShowsProgram shown k
ShowsIf false before shown k = ShowsStanding before shown

-- they are zero
abbrev pub ShowsZero : Scsw → Type 0
ShowsZero shown = (shown.command_address ≡ 0) × (shown.count ≡ 0)

-- where status was made
abbrev pub IsProgramShown : SubchannelState → SubchannelState → ProgramTrace → Type 0
IsProgramShown s next k = s.serials.made < next.serials.made → ShowsProgram next.scsw k

abbrev pub IsStandingShown : SubchannelState → SubchannelState → Type 0
IsStandingShown s next = s.serials.made < next.serials.made → ShowsStanding s.scsw next.scsw

abbrev pub IsZeroShown : SubchannelState → SubchannelState → Type 0
IsZeroShown s next = s.serials.made < next.serials.made → ShowsZero next.scsw

abbrev pub IsShownBy : Bool → SubchannelState → SubchannelState → ProgramTrace → Type 0
IsShownBy program s next k = s.serials.made < next.serials.made → ShowsIf program s.scsw next.scsw k

-- a program is at work or suspended, and no start waits
abbrev pub is_of_program : SubchannelState → Bool
is_of_program s = is_none s.waiting && (is_some s.begun || is_some s.suspended)

-- A status that is made without an answer of the program's device (a halt that is performed, an interface-control check, a start
-- or a resume that finds no path) is of the program that is at work or suspended. While a start waits it is of that start, and
-- address and count stand, as they do where there is no program
abbrev pub IsShownOf : SubchannelState → SubchannelState → Option ProgramTrace → Type 0
IsShownOf s next None = IsStandingShown s next
IsShownOf s next (Some k) = IsShownBy (is_of_program s) s next k
