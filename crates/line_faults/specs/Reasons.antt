-- Which rule a reason is of.
use Rattle.std.specs.Prelude.{◌≡◌, ℕ, Option, Some, None}
use Rattle.channel_config.specs.declared.config.ConfigRule.{ConfigRule}
use Rattle.channel_config.specs.declared.config.ConfigRule.TheVariants as rule
use Rattle.script_rows.specs.declared.words.LineRule.{LineRule}
use Rattle.script_rows.specs.declared.words.LineRule.TheVariants as line_rule
use Rattle.line_faults.specs.declared.reason.Reason.{Reason}
use Rattle.line_faults.specs.declared.reason.Reason.TheVariants as reason
use Rattle.line_faults.specs.declared.reason.ConfigReason.{ConfigReason}
use Rattle.line_faults.specs.declared.reason.ConfigReason.TheVariants as config_reason

-- the rule of lines
abbrev pub rule_of : Reason → LineRule
rule_of (reason.UnknownWord it) = line_rule.UnknownWord
rule_of (reason.WrongCount it) = line_rule.WrongCount
rule_of (reason.BadWord it) = line_rule.BadWord
rule_of (reason.SettingAfterAction acting) = line_rule.SettingAfterAction
rule_of (reason.BreaksConfiguration it) = line_rule.BreaksConfiguration
rule_of (reason.StorageNotFirst it) = line_rule.StorageNotFirst
rule_of reason.MisplacedRace = line_rule.MisplacedRace
rule_of (reason.Other rule) = rule

-- the rule of configurations
abbrev pub broken_rule : ConfigReason → ConfigRule
broken_rule (config_reason.StorageSize it) = rule.StorageSize
broken_rule (config_reason.ChannelPath it) = rule.ChannelPath
broken_rule (config_reason.UnitNumber it) = rule.UnitNumber
broken_rule (config_reason.UnitOfSubchannel it) = rule.UnitOfSubchannel
broken_rule (config_reason.PathsOfSubchannel it) = rule.PathsOfSubchannel
broken_rule (config_reason.SharedUnit it) = rule.SharedUnit
broken_rule (config_reason.SubchannelName it) = rule.SubchannelName
broken_rule (config_reason.Sets it) = rule.Sets
broken_rule (config_reason.Other rule) = rule

-- where one is told
abbrev pub config_rule_of : Reason → Option ConfigRule
config_rule_of (reason.BreaksConfiguration it) = Some (broken_rule it)
config_rule_of it = None

-- the line that acts first, where it is told
abbrev pub acting_of : Reason → Option ℕ
acting_of (reason.SettingAfterAction acting) = Some acting
acting_of it = None

-- this rule of configurations is told
abbrev pub IsRefusal : Reason → ConfigRule → Type 0
IsRefusal it rule = (rule_of it ≡ line_rule.BreaksConfiguration) × (config_rule_of it ≡ Some rule)
