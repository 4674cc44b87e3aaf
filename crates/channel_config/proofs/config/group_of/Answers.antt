use Rattle.std.proofs.Common.{arith}
use Rattle.channel_config.proofs.Grouping.{first-known}
use Rattle.channel_config.proofs.config.group_of.Goals as goal

-- the first unit is one that there is
pub overflow_cast-result : goal.overflow_cast-result
overflow_cast-result c =
    let known = first-known c.args.shared.now c.args.units.now c.in-len1-up.len_at_least c.requires.known in
    omega (arith, c.requires.bound)
