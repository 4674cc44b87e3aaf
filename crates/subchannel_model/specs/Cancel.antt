-- CANCEL SUBCHANNEL (SA22-7832, chapter 14; the effect is this project's own choice). The reply is the code.
use Rattle.std.specs.Prelude.{Bool, false, not, ◌||◌, None}
use Rattle.scsw_irb.specs.declared.scsw.ActivityControl.{ActivityControl}
use Rattle.scsw_irb.specs.declared.scsw.Scsw.{Scsw}
use Rattle.scsw_irb.specs.Empty.{no_functions}
use Rattle.chan_model.specs.declared.answer.ConditionCode.{ConditionCode}
use Rattle.chan_model.specs.ConditionCodes.{in_order}
use Rattle.subchannel_model.specs.declared.status.Condition.{Condition}
use Rattle.subchannel_model.specs.declared.state.SubchannelState.{SubchannelState}
use Rattle.subchannel_model.specs.Conditions.{is_operational, start_alone}

-- condition code: 1 status pending; 2 not the start function alone, or nothing that waits, or a subchannel that is active
abbrev pub waits : ActivityControl → Bool
waits a = a.start_pending || (a.resume_pending || a.suspended)

abbrev pub xsch_code : Condition → ConditionCode
xsch_code c =
    in_order (is_operational c) c.status.pending
    (not (start_alone c.functions) || (not (waits c.activity) || c.activity.subchannel_active))

-- effect: the program that waits, or that is suspended, is over, and nothing of it stays; an earlier program works on, and an
-- offer stays until it is answered
abbrev pub cancelled_scsw : Scsw → Scsw
cancelled_scsw scsw = record scsw {
  path_not_operational = false;
  functions = no_functions;
  activity = record scsw.activity { resume_pending = false; start_pending = false; suspended = false };
}

abbrev pub cancelled : SubchannelState → SubchannelState
cancelled s = record s { scsw = cancelled_scsw s.scsw; waiting = None; suspended = None }
