use Rattle.std.proofs.Common.{◌∙◌, ap, length}
use Rattle.channel_config.proofs.Grouping.{grouped-length}
use Rattle.channel_config.proofs.Keeping.{lawful-shared}
use Rattle.channel_config.proofs.config.Config.share.Goals as goal

pub invariant_of-self : goal.invariant_of-self
invariant_of-self c =
    let same = ap length c.join.ensures ∙ grouped-length c.self.inside.shared.items c.group_of-group.result c.args.units.now in
    (lawful-shared _ _ same c.self.invariant.0, c.self.invariant.1)
