use Rattle.std.proofs.Common.{refl}
use Rattle.functions.proofs.Setting.{mask-shown, mask-tied}
use Rattle.functions.proofs.state.PackedState.set_operational.Goals as goal

pub invariant_of-self : goal.invariant_of-self
invariant_of-self c =
    let s = c.self.inside in
    mask-tied (λ p m. record p { operational = m }) s.setup s.pmcw c.set_operational.new.self s.scsw s.up s.rest c.mask.result c.args.set c.self.invariant c.set_operational.ensures c.mask.ensures.mask (λ m. refl)

pub returns : goal.returns
returns c =
    let s = c.self.inside in
    mask-shown (λ p m. record p { operational = m }) (λ p set. record p { operational = set }) s.setup s.pmcw c.set_operational.new.self s.scsw s.up s.rest c.mask.result c.args.set _
    c.set_operational.ensures c.mask.ensures.set c.self.view_is refl
