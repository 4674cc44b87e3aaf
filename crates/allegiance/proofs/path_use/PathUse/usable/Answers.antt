use Rattle.std.proofs.Common.{◌≡◌, sym, ◌∙◌, ap, List, Bool}
use Rattle.allegiance.specs.PathUse.{usable_paths}
use Rattle.chan_model.specs.PathSets.{is_member, without}
use Rattle.allegiance.proofs.Members.{usable-keeps}
use Rattle.allegiance.proofs.path_use.PathUse.usable.Goals as goal

pub returns-clause-dedicated : goal.returns-clause-dedicated
returns-clause-dedicated c d path stands h =
    let same : c.without.result ≡ usable_paths c.args.self.now c.args.engaged.now =
    c.without.ensures ∙ ap (λ (r : List Bool). without r c.args.engaged.now) c.reachable.ensures in
    usable-keeps c.args.self.now c.args.engaged.now d path stands (ap (λ (r : List Bool). is_member r path) (sym same) ∙ h)
