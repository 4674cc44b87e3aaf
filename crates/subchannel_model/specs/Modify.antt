-- MODIFY SUBCHANNEL (SA22-7832, chapters 14 and 15): the contents of the block are tested before the condition code is. The reply is
-- the code. Whether the concurrent-sense bit is kept, the set-up says (own).
use Rattle.schib_block.specs.declared.pmcw.Pmcw as block
use Rattle.schib_block.specs.Modify.{modified, sense_left}
use Rattle.chan_model.specs.declared.answer.ConditionCode.{ConditionCode}
use Rattle.chan_model.specs.ConditionCodes.{in_order}
use Rattle.chan_model.specs.PathSets.{paths_of_mask}
use Rattle.channel_config.specs.declared.parts.ConcurrentSense.{ConcurrentSense}
use Rattle.channel_config.specs.Choices.{is_kept}
use Rattle.subchannel_model.specs.declared.status.Condition.{Condition}
use Rattle.subchannel_model.specs.declared.state.PmcwState.{PmcwState}
use Rattle.subchannel_model.specs.declared.state.SubchannelState.{SubchannelState}
use Rattle.subchannel_model.specs.declared.state.Subchannel.{Subchannel}
use Rattle.subchannel_model.specs.Conditions.{any_function}
use Rattle.subchannel_model.specs.Store.{pmcw_of}

-- condition code: 1 status pending; 2 a function in progress; a subchannel that is provided need not be enabled
abbrev pub msch_code : Condition → ConditionCode
msch_code c = in_order c.provided c.status.pending (any_function c.functions)

-- effect: what may be changed is as in the given word, and the other fields of the block stay
abbrev pub pmcw_with_word : PmcwState → block.Pmcw → PmcwState
pmcw_with_word pmcw word = record pmcw {
  parameter = word.parameter;
  subclass = word.subclass;
  subclass_fits = word.subclass_fits;
  enabled = word.enabled;
  multipath = word.multipath;
  logical = paths_of_mask word.logical;
  operational = paths_of_mask word.operational;
  concurrent_sense = word.concurrent_sense;
}

-- MODIFY: the word of the subchannel is modified by the given one
abbrev pub modified_state : Subchannel → block.Pmcw → SubchannelState
modified_state sub given = record sub.state { pmcw = pmcw_with_word sub.state.pmcw (modified (is_kept sub.setup.concurrent_sense) (pmcw_of sub) given) }

-- the same of a state alone
abbrev pub placed : ConcurrentSense → SubchannelState → block.Pmcw → SubchannelState
placed choice s given = record s { pmcw = record (pmcw_with_word s.pmcw given) { concurrent_sense = sense_left (is_kept choice) s.pmcw.concurrent_sense given.concurrent_sense } }
