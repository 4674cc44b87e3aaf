use Rattle.std.proofs.Common.{◌≡◌, take}
use Rattle.channel_config.specs.Setup.{grouped}
use Rattle.channel_config.proofs.config.join.Given as goal

-- the units so far are in the group
abbrev pub invariant-loop-unit : goal.invariant-loop-unit
invariant-loop-unit l = l.shared.items ≡ grouped l.fn.shared.items l.group (take l.unit-index l.units)
