-- A subchannel-status word with nothing in it, as it stands at the opening.
use Rattle.std.proofs.Common.{lit<}
use Rattle.std.specs.Prelude.{false}
use Rattle.scsw_irb.specs.declared.scsw.Scsw.{Scsw}
use Rattle.scsw_irb.specs.declared.scsw.FunctionControl.{FunctionControl}
use Rattle.scsw_irb.specs.declared.scsw.ActivityControl.{ActivityControl}
use Rattle.scsw_irb.specs.declared.scsw.StatusControl.{StatusControl}
use Rattle.scsw_irb.specs.declared.scsw.DeferredCode.TheVariants.{Zero}

-- no function is in progress
abbrev pub no_functions : FunctionControl
no_functions = record { start = false; halt = false; clear = false }

-- nothing is pending, active or suspended
abbrev pub no_activity : ActivityControl
no_activity = record {
  resume_pending = false;
  start_pending = false;
  halt_pending = false;
  clear_pending = false;
  subchannel_active = false;
  device_active = false;
  suspended = false;
}

-- no status waits
abbrev pub no_status : StatusControl
no_status = record { alert = false; intermediate = false; primary = false; secondary = false; pending = false }

abbrev pub zero_scsw : Scsw
zero_scsw = record {
  key = 0;
  suspend = false;
  deferred = Zero;
  format_one = false;
  prefetch = false;
  initial_status = false;
  address_limit = false;
  suppress_suspended = false;
  path_not_operational = false;
  functions = no_functions;
  activity = no_activity;
  status = no_status;
  command_address = 0;
  device_status = record { 0 = 0 };
  subchannel_status = record { 0 = 0 };
  count = 0;
  key_fits = lit< tt;
}
