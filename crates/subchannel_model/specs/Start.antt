-- START SUBCHANNEL (SA22-7832, chapter 14; the effect is this project's own choice): the contents of the ORB are tested before the
-- condition code is. The reply is the code.
use Rattle.std.specs.Prelude.{◌+◌, true, false, not, None, Some}
use Rattle.orb_block.specs.declared.Orb.{Orb}
use Rattle.scsw_irb.specs.declared.scsw.DeferredCode.TheVariants as deferred
use Rattle.scsw_irb.specs.declared.scsw.Scsw.{Scsw}
use Rattle.scsw_irb.specs.Empty.{no_functions, no_activity}
use Rattle.chan_model.specs.declared.answer.ConditionCode.{ConditionCode}
use Rattle.chan_model.specs.ConditionCodes.{in_order}
use Rattle.chan_model.specs.PathSets.{paths_of_mask, no_paths}
use Rattle.subchannel_model.specs.declared.status.Condition.{Condition}
use Rattle.subchannel_model.specs.declared.state.PmcwState.{PmcwState}
use Rattle.subchannel_model.specs.declared.state.SubchannelState.{SubchannelState}
use Rattle.subchannel_model.specs.Conditions.{is_operational, any_function}
use Rattle.subchannel_model.specs.Status.{no_device_status, no_subchannel_status}

-- condition code: 1 status pending; 2 start, halt or clear in progress
abbrev pub ssch_code : Condition → ConditionCode
ssch_code c = in_order (is_operational c) c.status.pending (any_function c.functions)

-- effect: the status word shows the ORB's fields, the start function and start pending; an earlier program's device active
-- stays
abbrev pub started_scsw : Scsw → Orb → Scsw
started_scsw scsw orb = record scsw {
  key = orb.key;
  key_fits = orb.key_fits;
  suspend = orb.suspend;
  deferred = deferred.Zero;
  format_one = orb.format_one;
  prefetch = orb.prefetch;
  initial_status = orb.initial_status;
  address_limit = orb.address_limit;
  suppress_suspended = orb.suppress_suspended;
  path_not_operational = false;
  functions = record no_functions { start = true };
  activity = record no_activity { start_pending = true; device_active = scsw.activity.device_active };
  command_address = orb.program;
  device_status = no_device_status;
  subchannel_status = no_subchannel_status;
  count = 0;
}

-- the path-management-control word takes the ORB's parameter and its logical paths; no path was found not operational
abbrev pub started_pmcw : PmcwState → Orb → PmcwState
started_pmcw pmcw orb = record pmcw { parameter = orb.parameter; logical = paths_of_mask orb.paths; not_operational = no_paths }

-- the program waits; none is suspended beside it, as the start function is in progress as long as one is
abbrev pub started : SubchannelState → Orb → SubchannelState
started s orb = record s {
  pmcw = started_pmcw s.pmcw orb;
  scsw = started_scsw s.scsw orb;
  starts = s.starts + 1;
  waiting = Some (record { start = s.starts + 1; orb = orb; single_path = not s.pmcw.multipath });
  suspended = None;
}
