-- What a call says of the set-up (own).
use Rattle.std.specs.Prelude.{Result, Ok}
use Rattle.channel_config.specs.Setup.{Setup, with_concurrent_sense, with_path, with_path_return, with_sets, with_share, with_subchannel, with_unit}
use Rattle.channel_config.specs.declared.config.ConfigRule.{ConfigRule}
use Rattle.channel_config.specs.declared.parts.UnitKind.TheVariants.{Block}
use Rattle.host_machine.specs.declared.setting_up.HostSetting.{HostSetting}
use Rattle.host_machine.specs.declared.setting_up.HostSetting.TheVariants as setting

abbrev pub set : Setup → HostSetting → Result Setup ConfigRule
set s (setting.Sets count) = with_sets s count
set s (setting.Path chpid) = with_path s chpid
set s (setting.Unit number) = with_unit s number Block
set s (setting.Share units) = with_share s units.now
set s (setting.Subchannel word device at chpids) = with_subchannel s word device at chpids.now
set s (setting.ConcurrentSense choice) = Ok (with_concurrent_sense s choice)
set s (setting.PathReturn choice) = Ok (with_path_return s choice)
