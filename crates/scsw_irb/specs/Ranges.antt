-- The numbers of a status word, a block, a code or a report are those of their types.
use Rattle.std.specs.Prelude.{◌<◌, ◌^◌}
use Rattle.scsw_irb.specs.declared.scsw.Scsw.{Scsw}
use Rattle.scsw_irb.specs.declared.irb.Irb.{Irb}
use Rattle.scsw_irb.specs.declared.code.IntCode.{IntCode}
use Rattle.scsw_irb.specs.declared.crw.Crw.{Crw}

pub record IsScswInRange (scsw : Scsw) : Type 0 where
  pub address : scsw.command_address < 2 ^ 32
  pub device : scsw.device_status.0 < 256
  pub subchannel : scsw.subchannel_status.0 < 256
  pub count : scsw.count < 2 ^ 16

pub record IsIrbInRange (irb : Irb) : Type 0 where
  pub scsw : IsScswInRange irb.scsw
  pub path : irb.last_path_used < 256

pub record IsCodeInRange (code : IntCode) : Type 0 where
  pub subchannel : code.subchannel < 2 ^ 16
  pub parameter : code.parameter < 2 ^ 32

abbrev pub IsCrwInRange : Crw → Type 0
IsCrwInRange crw = crw.path < 256
