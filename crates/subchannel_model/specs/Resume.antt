-- RESUME SUBCHANNEL (SA22-7832, chapter 14; the effect is this project's own choice). The reply is the code.
use Rattle.std.specs.Prelude.{true, not, ◌||◌, if◌then◌else◌}
use Rattle.scsw_irb.specs.declared.scsw.Scsw.{Scsw}
use Rattle.chan_model.specs.declared.answer.ConditionCode.{ConditionCode}
use Rattle.chan_model.specs.ConditionCodes.{in_order}
use Rattle.subchannel_model.specs.declared.status.Condition.{Condition}
use Rattle.subchannel_model.specs.declared.state.SubchannelState.{SubchannelState}
use Rattle.subchannel_model.specs.Conditions.{is_operational, start_alone, found_operational}

-- condition code: 1 status pending; 2 not the start function alone, or resume pending, or a program that may not be suspended
abbrev pub rsch_code : Condition → ConditionCode
rsch_code c =
    in_order (is_operational c) c.status.pending
    (not (start_alone c.functions) || (c.activity.resume_pending || not c.may_suspend))

abbrev pub resumed_scsw : Scsw → Scsw
resumed_scsw scsw = record scsw { activity = record scsw.activity { resume_pending = true } }

-- effect: resume pending; a suspended program looks for its paths anew
abbrev pub resumed : SubchannelState → SubchannelState
resumed s = record s {
  pmcw = if s.scsw.activity.suspended then found_operational s.pmcw else s.pmcw;
  scsw = resumed_scsw s.scsw;
}
