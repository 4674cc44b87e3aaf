-- A subchannel at the opening: not enabled, all its paths logically available, operational and up (own).
use Rattle.std.proofs.Common.{lit<}
use Rattle.std.specs.Prelude.{false, None}
use Rattle.scsw_irb.specs.Empty.{zero_scsw}
use Rattle.chan_model.specs.HoldTable.{free_hold}
use Rattle.chan_model.specs.PathSets.{all_paths, no_paths}
use Rattle.channel_config.specs.declared.parts.SubchannelSetup.{SubchannelSetup}
use Rattle.wires.specs.Queues.{no_queues}
use Rattle.subchannel_model.specs.declared.state.PmcwState.{PmcwState}
use Rattle.subchannel_model.specs.declared.state.SubchannelState.{SubchannelState}
use Rattle.subchannel_model.specs.declared.state.Subchannel.{Subchannel}

abbrev pub opening_pmcw : PmcwState
opening_pmcw = record { parameter = 0; subclass = 0; enabled = false; multipath = false; logical = all_paths; not_operational = no_paths; last_used = None; operational = all_paths; available = all_paths; concurrent_sense = false; subclass_fits = lit< tt }

abbrev pub opening_subchannel : SubchannelState
opening_subchannel = record {
  pmcw = opening_pmcw;
  scsw = zero_scsw;
  serials = record { made = 0; cleared = 0 };
  drawn = 0;
  starts = 0;
  waiting = None;
  begun = None;
  suspended = None;
  hold = free_hold;
  offered = 0;
  last_path = None;
  dedicated = None;
}

abbrev pub opened : SubchannelSetup → Subchannel
opened setup = record { setup = setup; state = opening_subchannel; wires = no_queues }
