-- CLEAR SUBCHANNEL (SA22-7832, chapter 14; the effect is this project's own choice). The reply is the code.
use Rattle.std.specs.Prelude.{true, false, None}
use Rattle.allegiance.specs.Allegiances.{dedicated_after}
use Rattle.allegiance.specs.declared.allegiances.AllegianceCause.TheVariants as allegiance
use Rattle.scsw_irb.specs.Empty.{no_activity}
use Rattle.scsw_irb.specs.declared.scsw.Scsw.{Scsw}
use Rattle.chan_model.specs.declared.answer.ConditionCode.{ConditionCode}
use Rattle.chan_model.specs.ConditionCodes.{in_order}
use Rattle.subchannel_model.specs.declared.status.Condition.{Condition}
use Rattle.subchannel_model.specs.declared.state.PmcwState.{PmcwState}
use Rattle.subchannel_model.specs.declared.state.SubchannelState.{SubchannelState}
use Rattle.subchannel_model.specs.Conditions.{is_operational}
use Rattle.chan_model.specs.PathSets.{all_paths, no_paths}
use Rattle.subchannel_model.specs.Causes.{clear_function_alone}
use Rattle.subchannel_model.specs.Losing.{reset_drawn}
use Rattle.subchannel_model.specs.Programs.{without_programs}
use Rattle.subchannel_model.specs.Status.{serials_cleared}

-- condition code: it is never 1 or 2
abbrev pub csch_code : Condition → ConditionCode
csch_code c = in_order (is_operational c) false false

-- of the status word the clear function and clear pending alone are left
abbrev pub cleared_scsw : Scsw
cleared_scsw = record clear_function_alone { activity = record no_activity { clear_pending = true } }

-- all paths are operational, and none was used
abbrev pub cleared_pmcw : PmcwState → PmcwState
cleared_pmcw pmcw = record pmcw { not_operational = no_paths; last_used = None; operational = all_paths }

-- effect: all programs are over, all status counts as
-- cleared, no allegiance is dedicated, and the hold is to be reset under a fresh number
abbrev pub cleared : SubchannelState → SubchannelState
cleared s = record (reset_drawn (without_programs s)) {
  pmcw = cleared_pmcw s.pmcw;
  scsw = cleared_scsw;
  serials = serials_cleared s.serials;
  dedicated = dedicated_after s.dedicated allegiance.Clear;
}
