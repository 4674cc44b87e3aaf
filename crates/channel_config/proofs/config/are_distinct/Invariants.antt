use Rattle.std.proofs.Common.{◌≡◌, length}
use Rattle.channel_config.specs.Setup as spec
use Rattle.channel_config.proofs.config.are_distinct.Given as goal

abbrev pub invariant-tails : goal.invariant-tails
invariant-tails l = spec.are_distinct l.rest ≡ spec.are_distinct l.numbers

abbrev pub decreases-tails : goal.decreases-tails
decreases-tails l = length l.rest
