use Rattle.channel_config.proofs.Keeping.{lawful-storage, may-own}
use Rattle.channel_config.proofs.config.Config.storage.Goals as goal

pub invariant_of-self : goal.invariant_of-self
invariant_of-self c = (lawful-storage _ c.args.blocks c.if-blocks-lt16.false c.self.invariant.0, may-own c.args.self.now c.args.blocks c.if-blocks-gt4096.false)
