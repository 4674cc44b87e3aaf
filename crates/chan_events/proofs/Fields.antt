-- Values with the same fields are the same, whatever proofs they carry of what their fields keep.
use Rattle.std.proofs.Common.{◌≡◌, ◌<◌}
use mathlib.Core.Path.{to_path_p}
use Rattle.std.proofs.Math.Bridge.{le_prop}
use Rattle.scsw_irb.specs.declared.code.IntCode.{IntCode}
use Rattle.scsw_irb.specs.declared.scsw.Scsw.{Scsw}
use Rattle.chan_events.specs.Fields.{AreModesSame, IsRestSame}

pub codes_same : (a b : IntCode) → a.set ≡ b.set → a.subchannel ≡ b.subchannel → a.parameter ≡ b.parameter → a.subclass ≡ b.subclass → a ≡ b
codes_same a b set subchannel parameter subclass i = record {
  set = set i;
  subchannel = subchannel i;
  parameter = parameter i;
  subclass = subclass i;
  set_fits = to_path_p (λ j. set j < 4) {a = a.set_fits} {b = b.set_fits} (le_prop _ _) i;
  subclass_fits = to_path_p (λ j. subclass j < 8) {a = a.subclass_fits} {b = b.subclass_fits} (le_prop _ _) i;
}

pub scsws_same : (a b : Scsw) → a.key ≡ b.key → AreModesSame a b → IsRestSame a b → a ≡ b
scsws_same a b key m e i = record {
  key = key i;
  suspend = m.suspend i;
  deferred = m.deferred i;
  format_one = m.format_one i;
  prefetch = m.prefetch i;
  initial_status = m.initial_status i;
  address_limit = m.address_limit i;
  suppress_suspended = m.suppress_suspended i;
  path_not_operational = m.path_not_operational i;
  functions = e.functions i;
  activity = e.activity i;
  status = e.status i;
  command_address = e.command_address i;
  device_status = e.device_status i;
  subchannel_status = e.subchannel_status i;
  count = e.count i;
  key_fits = to_path_p (λ j. key j < 16) {a = a.key_fits} {b = b.key_fits} (le_prop _ _) i;
}
