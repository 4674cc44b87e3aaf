-- What all instructions on a subchannel share: what an instruction finds, which tests come first, and that it leaves its effect
-- with condition code 0 alone (SA22-7832, chapter 14).
use Rattle.std.specs.Prelude.{Bool, true, false, not, ◌&&◌, ◌||◌, Option, None, Some}
use Rattle.scsw_irb.specs.declared.scsw.FunctionControl.{FunctionControl}
use Rattle.scsw_irb.specs.Empty.{no_functions, no_activity, no_status}
use Rattle.chan_model.specs.declared.answer.ConditionCode.{ConditionCode}
use Rattle.chan_model.specs.declared.answer.ConditionCode.TheVariants.{Zero}
use Rattle.subchannel_model.specs.declared.status.Condition.{Condition}
use Rattle.subchannel_model.specs.declared.state.PmcwState.{PmcwState}
use Rattle.subchannel_model.specs.declared.state.SubchannelState.{SubchannelState}
use Rattle.chan_model.specs.PathSets.{no_paths}

-- what an instruction finds of a subchannel, which may not be provided
abbrev pub condition_of : Option SubchannelState → Condition
condition_of None = record { provided = false; enabled = false; functions = no_functions; activity = no_activity; status = no_status; may_suspend = false }
condition_of (Some s) = record {
  provided = true;
  enabled = s.pmcw.enabled;
  functions = s.scsw.functions;
  activity = s.scsw.activity;
  status = s.scsw.status;
  may_suspend = s.scsw.suspend;
}

-- most instructions answer 3 where the subchannel is not operational: it is not provided, or not enabled
abbrev pub is_operational : Condition → Bool
is_operational c = c.provided && c.enabled

abbrev pub any_function : FunctionControl → Bool
any_function f = f.start || (f.halt || f.clear)

abbrev pub start_alone : FunctionControl → Bool
start_alone f = f.start && (not f.halt && not f.clear)

-- an instruction that answered this code leaves its effect with code 0, and nothing changed otherwise
abbrev pub left_by : ConditionCode → SubchannelState → SubchannelState → SubchannelState
left_by Zero before effect = effect
left_by code before effect = before

-- no path was found not operational
abbrev pub found_operational : PmcwState → PmcwState
found_operational pmcw = record pmcw { not_operational = no_paths }
