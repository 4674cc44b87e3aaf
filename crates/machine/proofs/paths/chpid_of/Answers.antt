use Rattle.std.proofs.Common.{◌<◌, ◌∙◌, ap, sym, Bool, true, ◌&&◌, [], ◌∷◌, arith}
use Rattle.channel_config.proofs.Keeping.{known_small}
use Rattle.machine.proofs.paths.chpid_of.Goals as goal

pub overflow_cast-result : goal.overflow_cast-result
overflow_cast-result c =
    let small : c.args.number < 0x100 =
    known_small c.args.chpids.now (c.args.number ∷ []) (λ k. omega (arith, c.type_inv.chpids k))
    (ap (λ (b : Bool). b && true) (sym c.has_chpid.ensures ∙ c.if-has_chpid.true)) 0 in
    omega arith
