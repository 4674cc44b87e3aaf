-- What a subchannel loses as a path of it goes down or is reset, and how its path-available mask follows (own).
use Rattle.std.specs.Prelude.{ℕ, ◌+◌, ◌==◌, ◌&&◌, Bool, true, false, if◌then◌else◌, Option, None, Some, List, slice_set}
use Rattle.chan_model.specs.declared.hold_state.HoldPhase.{HoldPhase}
use Rattle.chan_model.specs.declared.hold_state.HoldPhase.TheVariants as hold
use Rattle.chan_model.specs.HoldTable.{resetting}
use Rattle.chan_model.specs.ResetCauses.{rests_on}
use Rattle.wires.specs.Queues.{lost}
use Rattle.subchannel_model.specs.declared.cause.StatusCause.TheVariants as cause
use Rattle.subchannel_model.specs.declared.state.PmcwState.{PmcwState}
use Rattle.subchannel_model.specs.declared.state.Subchannel.{Subchannel}
use Rattle.subchannel_model.specs.declared.state.SubchannelState.{SubchannelState}
use Rattle.subchannel_model.specs.Causes.{with_cause}
use Rattle.subchannel_model.specs.Indices.{first_index}
use Rattle.subchannel_model.specs.Programs.{has_any}

abbrev pub is_offered_or_held : HoldPhase → Bool
is_offered_or_held (hold.Offer t p) = true
is_offered_or_held (hold.On t p c) = true
is_offered_or_held (hold.Away t) = true
is_offered_or_held phase = false

-- the hold is to be reset under a fresh number; where a program was offered or held the device, its status is made
abbrev pub reset_drawn : SubchannelState → SubchannelState
reset_drawn s = record s { drawn = s.drawn + 1; hold = resetting s.hold (s.drawn + 1) }

abbrev pub reset_with : SubchannelState → Bool → SubchannelState
reset_with s shows = if shows then with_cause (reset_drawn s) cause.InterfaceControlCheck else reset_drawn s

abbrev pub reset_for : SubchannelState → SubchannelState
reset_for s = reset_with s (is_offered_or_held s.hold.phase && has_any s.waiting s.begun s.suspended)

abbrev pub path_lost : SubchannelState → ℕ → SubchannelState
path_lost s p = if rests_on s.hold p then reset_for s else s

-- the index of a channel path, where the subchannel has it
abbrev pub path_index : ℕ → List ℕ → Option ℕ
path_index chpid paths = first_index (λ x. x == chpid) paths

abbrev pub loses_at : Option ℕ → Subchannel → Subchannel
loses_at None sub = sub
loses_at (Some p) sub = record sub { state = path_lost sub.state p; wires = record { down = lost sub.wires.down p; up = lost sub.wires.up p } }

abbrev pub loses : ℕ → Subchannel → Subchannel
loses chpid sub = loses_at (path_index chpid sub.setup.paths) sub

-- the path-available mask shows whether a channel path is up
abbrev pub available_pmcw : PmcwState → ℕ → Bool → PmcwState
available_pmcw pmcw p up = record pmcw { available = slice_set pmcw.available p up }

abbrev pub shows_at : Option ℕ → Bool → Subchannel → Subchannel
shows_at None up sub = sub
shows_at (Some p) up sub = record sub { state = record sub.state { pmcw = available_pmcw sub.state.pmcw p up } }

abbrev pub shows_path : ℕ → Bool → Subchannel → Subchannel
shows_path chpid up sub = shows_at (path_index chpid sub.setup.paths) up sub

-- a channel path goes down: all that is on it is lost, and it is no longer available
abbrev pub goes_down : ℕ → Subchannel → Subchannel
goes_down chpid sub = shows_path chpid false (loses chpid sub)
