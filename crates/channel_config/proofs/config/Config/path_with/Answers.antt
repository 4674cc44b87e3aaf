use Rattle.channel_config.proofs.Keeping.{lawful-paths, lawful-path-more}
use Rattle.channel_config.proofs.config.Config.path_with.Goals as goal

pub invariant_of-self : goal.invariant_of-self
invariant_of-self g c = (lawful-paths _ _ c.in_err-push.ensures.kept c.self.invariant.0, c.self.invariant.1)

pub invariant_of-self-2 : goal.invariant_of-self-2
invariant_of-self-2 g c = (lawful-path-more _ c.args.chpid _ c.in_ok-push.ensures.pushed c.self.invariant.0, c.self.invariant.1)
