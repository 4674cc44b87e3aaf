-- What a reset of the channel subsystem leaves of a subchannel (SA22-7832, chapter 17; what it keeps is this project's own choice).
use Rattle.allegiance.specs.Allegiances.{dedicated_after}
use Rattle.allegiance.specs.declared.allegiances.AllegianceCause.TheVariants as allegiance
use Rattle.scsw_irb.specs.Empty.{no_functions, no_activity, no_status}
use Rattle.scsw_irb.specs.declared.scsw.Scsw.{Scsw}
use Rattle.subchannel_model.specs.declared.state.PmcwState.{PmcwState}
use Rattle.subchannel_model.specs.declared.state.Subchannel.{Subchannel}
use Rattle.subchannel_model.specs.declared.state.SubchannelState.{SubchannelState}
use Rattle.subchannel_model.specs.Opening.{opening_pmcw}
use Rattle.subchannel_model.specs.Losing.{reset_drawn}
use Rattle.subchannel_model.specs.Programs.{without_programs}
use Rattle.subchannel_model.specs.Status.{serials_cleared}

-- the path-management-control word is that of the opening, but for which paths are available
abbrev pub pmcw_reset : PmcwState → PmcwState
pmcw_reset pmcw = record opening_pmcw { available = pmcw.available }

-- of the status word function, activity and status control are zero, and the other fields stay
abbrev pub scsw_reset : Scsw → Scsw
scsw_reset scsw = record scsw { functions = no_functions; activity = no_activity; status = no_status }

-- both words are reset. All programs are over, all status counts as cleared, no allegiance is
-- dedicated, and the hold is to be reset under a fresh number; numbers drawn, starts, the known restarts of the unit and the path of
-- the last choice stay, and so do the wires
abbrev pub state_reset : SubchannelState → SubchannelState
state_reset s = record (reset_drawn (without_programs s)) {
  pmcw = pmcw_reset s.pmcw;
  scsw = scsw_reset s.scsw;
  serials = serials_cleared s.serials;
  dedicated = dedicated_after s.dedicated allegiance.SystemReset;
}

abbrev pub reset_by_system : Subchannel → Subchannel
reset_by_system sub = record sub { state = state_reset sub.state }
