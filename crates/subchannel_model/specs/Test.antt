-- TEST SUBCHANNEL (SA22-7832, chapters 14 and 16; the effect is this project's own choice): with code 0 and 1 the interruption-response
-- block is stored, and the reply shows the status word as it was.
use Rattle.std.specs.Prelude.{Bool, false, not, ◌&&◌, if◌then◌else◌}
use Rattle.scsw_irb.specs.Empty.{no_functions, no_activity, no_status}
use Rattle.scsw_irb.specs.declared.irb.Irb.{Irb}
use Rattle.scsw_irb.specs.declared.scsw.DeferredCode.TheVariants as deferred
use Rattle.scsw_irb.specs.declared.scsw.Scsw.{Scsw}
use Rattle.chan_model.specs.declared.answer.ConditionCode.{ConditionCode}
use Rattle.chan_model.specs.ConditionCodes.{in_order}
use Rattle.chan_model.specs.PathSets.{mask_of_path}
use Rattle.subchannel_model.specs.declared.status.Condition.{Condition}
use Rattle.subchannel_model.specs.declared.state.SubchannelState.{SubchannelState}
use Rattle.subchannel_model.specs.Conditions.{is_operational}
use Rattle.subchannel_model.specs.Programs.{without_programs}
use Rattle.subchannel_model.specs.Status.{intermediate_alone, without_status, serials_cleared}

-- condition code: 1 no status pending
abbrev pub tsch_code : Condition → ConditionCode
tsch_code c = in_order (is_operational c) (not c.status.pending) false

-- what is stored
abbrev pub irb_of : SubchannelState → Irb
irb_of s = record { scsw = s.scsw; last_path_used = mask_of_path s.pmcw.last_used }

-- effect: the whole is cleared but what is active
abbrev pub ended_scsw : Scsw → Scsw
ended_scsw scsw = record scsw {
  functions = no_functions;
  activity = record no_activity { subchannel_active = scsw.activity.subchannel_active; device_active = scsw.activity.device_active };
  status = no_status;
  path_not_operational = false;
  deferred = deferred.Zero;
}

-- intermediate status alone: of a suspended program resume pending, N and the deferred code go too
abbrev pub suspended_scsw : Scsw → Scsw
suspended_scsw scsw = record scsw {
  activity = record scsw.activity { resume_pending = false };
  status = no_status;
  path_not_operational = false;
  deferred = deferred.Zero;
}

abbrev pub intermediate_cleared : Scsw → Scsw
intermediate_cleared scsw =
    if not scsw.activity.suspended then without_status scsw
    else (if scsw.functions.halt then ended_scsw scsw else suspended_scsw scsw)

-- intermediate status alone leaves the functions
abbrev pub tested_scsw : Scsw → Scsw
tested_scsw scsw =
    if not scsw.status.pending then scsw
    else (if intermediate_alone scsw.status then intermediate_cleared scsw else ended_scsw scsw)

-- all status that was made is cleared
abbrev pub tested : SubchannelState → SubchannelState
tested s = record s { scsw = tested_scsw s.scsw; serials = serials_cleared s.serials }

-- a suspended program for which a halt is specified is over as its intermediate status is cleared
abbrev pub ends_suspended : Scsw → Bool
ends_suspended scsw =
    scsw.status.pending && (intermediate_alone scsw.status && (scsw.activity.suspended && scsw.functions.halt))

abbrev pub tested_wholly : SubchannelState → SubchannelState
tested_wholly s = if ends_suspended s.scsw then without_programs (tested s) else tested s
