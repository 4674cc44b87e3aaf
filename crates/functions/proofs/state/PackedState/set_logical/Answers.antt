use Rattle.std.proofs.Common.{refl}
use Rattle.functions.proofs.Setting.{mask-shown, mask-tied}
use Rattle.functions.proofs.state.PackedState.set_logical.Goals as goal

pub invariant_of-self : goal.invariant_of-self
invariant_of-self c =
    let s = c.self.inside in
    mask-tied (λ p m. record p { logical = m }) s.setup s.pmcw c.set_logical.new.self s.scsw s.up s.rest c.mask.result c.args.set c.self.invariant c.set_logical.ensures c.mask.ensures.mask (λ m. refl)

pub returns : goal.returns
returns c =
    let s = c.self.inside in
    mask-shown (λ p m. record p { logical = m }) (λ p set. record p { logical = set }) s.setup s.pmcw c.set_logical.new.self s.scsw s.up s.rest c.mask.result c.args.set _
    c.set_logical.ensures c.mask.ensures.set c.self.view_is refl
