-- A subchannel beside its wires: its set-up, and what changes of it; made of its two words, the path-management-control word
-- (SA22-7832, chapter 15) and the subchannel-status word (chapter 16), and the parts beside them.
use Rattle.std.specs.Prelude.{ℕ, ◌==◌, Bool, if◌then◌else◌, List, Option, None, Some}
use Rattle.scsw_irb.specs.declared.scsw.Scsw.{Scsw}
use Rattle.schib_block.specs.declared.pmcw.Pmcw.{Pmcw}
use Rattle.chan_model.specs.PathSets.{paths_of_mask}
use Rattle.channel_config.specs.declared.parts.SubchannelSetup.{SubchannelSetup}
use Rattle.wires.specs.Queues.{no_queues}
use Rattle.subchannel_model.specs.declared.state.PmcwState.{PmcwState}
use Rattle.subchannel_model.specs.declared.state.SubchannelState.{SubchannelState}
use Rattle.subchannel_model.specs.declared.state.Subchannel.{Subchannel}
use Rattle.subchannel_model.specs.Opening.{opening_pmcw}
use Rattle.functions.specs.declared.rest.Rest.{Rest}

pub record Unwired : Type 0 where
  pub setup : SubchannelSetup
  pub state : SubchannelState

abbrev pub with_state : Unwired → SubchannelState → Unwired
with_state s state = record s { state = state }

abbrev pub with_pmcw : Unwired → PmcwState → Unwired
with_pmcw s pmcw = record s { state = record s.state { pmcw = pmcw } }

abbrev pub with_scsw : Unwired → Scsw → Unwired
with_scsw s scsw = record s { state = record s.state { scsw = scsw } }

-- the subchannel that it is where no signal waits
abbrev pub unwired_sub : Unwired → Subchannel
unwired_sub s = record { setup = s.setup; state = s.state; wires = no_queues }

-- the path of a mask that has one bit
abbrev pub path_of_mask : ℕ → Option ℕ
path_of_mask mask =
    if mask == 128 then Some 0
    else (if mask == 64 then Some 1
    else (if mask == 32 then Some 2
    else (if mask == 16 then Some 3
    else (if mask == 8 then Some 4
    else (if mask == 4 then Some 5
    else (if mask == 2 then Some 6
    else (if mask == 1 then Some 7 else None)))))))

-- what changes of a path-management-control word: what the block shows, and which paths are up, be they installed or not
abbrev pub state_of : Pmcw → List Bool → PmcwState
state_of pmcw up = record {
  parameter = pmcw.parameter;
  subclass = pmcw.subclass;
  enabled = pmcw.enabled;
  multipath = pmcw.multipath;
  logical = paths_of_mask pmcw.logical;
  not_operational = paths_of_mask pmcw.not_operational;
  last_used = path_of_mask pmcw.last_used;
  operational = paths_of_mask pmcw.operational;
  available = up;
  concurrent_sense = pmcw.concurrent_sense;
  subclass_fits = pmcw.subclass_fits;
}

-- both words, and the parts beside them
abbrev pub state_made : PmcwState → Scsw → Rest → SubchannelState
state_made pmcw scsw rest = record {
  pmcw = pmcw;
  scsw = scsw;
  serials = rest.serials;
  drawn = rest.drawn;
  starts = rest.starts;
  waiting = rest.waiting;
  begun = rest.begun;
  suspended = rest.suspended;
  hold = rest.hold;
  offered = rest.offered;
  last_path = rest.last_path;
  dedicated = rest.dedicated;
}

abbrev pub unwired_of : SubchannelSetup → Pmcw → Scsw → List Bool → Rest → Unwired
unwired_of setup pmcw scsw up rest = record { setup = setup; state = state_made (state_of pmcw up) scsw rest }

abbrev pub bare : SubchannelSetup → Pmcw → Scsw → List Bool → Rest → Subchannel
bare setup pmcw scsw up rest = unwired_sub (unwired_of setup pmcw scsw up rest)

-- what is beside the words, and a subchannel with it
abbrev pub rest_in : SubchannelState → Rest
rest_in s = record {
  serials = s.serials;
  drawn = s.drawn;
  starts = s.starts;
  waiting = s.waiting;
  begun = s.begun;
  suspended = s.suspended;
  hold = s.hold;
  offered = s.offered;
  last_path = s.last_path;
  dedicated = s.dedicated;
}

abbrev pub with_rest : Unwired → Rest → Unwired
with_rest s rest = with_state s (state_made s.state.pmcw s.state.scsw rest)

-- what MODIFY SUBCHANNEL leaves for a word of zeros but for LPM and POM, where concurrent sense is taken too
abbrev pub disabled : PmcwState → PmcwState
disabled pmcw = record opening_pmcw { available = pmcw.available; not_operational = pmcw.not_operational; last_used = pmcw.last_used }
