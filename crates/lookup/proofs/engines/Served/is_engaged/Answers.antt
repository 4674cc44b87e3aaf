use Rattle.std.proofs.Common.{◌<◌, arith, ◌∙◌, ap, List, is_some, Option, ℕ}
use Rattle.subchannel_model.specs.declared.state.Subchannel.{Subchannel}
use Rattle.subchannel_model.specs.Choosing.{any_engages}
use Rattle.lookup.proofs.Serving.{served-any}
use Rattle.lookup.proofs.engines.Served.is_engaged.Goals as goal

pub returns : goal.returns
returns c =
    let small : c.args.chpid < 0x100 = omega (arith, c.ranges.chpid.fits) in
    c.is_some.ensures ∙ ap (λ (o : Option ℕ). is_some o) c.server.ensures
    ∙ (served-any c.self.inside.engines.now c.self.inside.subs.now c.args.chpid small c.self.invariant
    ∙ ap (λ (xs : List Subchannel). any_engages xs c.args.chpid) c.self.view_is)
