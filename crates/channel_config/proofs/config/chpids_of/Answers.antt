use Rattle.std.proofs.Common.{◌∙◌, sym, arith}
use Rattle.channel_config.proofs.Keeping.{known_small}
use Rattle.channel_config.proofs.config.chpids_of.Goals as goal

pub list_of-requires-clause-small : goal.list_of-requires-clause-small
list_of-requires-clause-small c =
    known_small c.args.known.now c.args.paths.now (λ k. omega (arith, c.type_inv.known k)) (sym c.are_known.ensures ∙ c.if-not-are_known.false)
