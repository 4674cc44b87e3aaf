use Rattle.std.proofs.Common.{ℕ, take, ap, ◌∙◌}
use Rattle.script_rows.specs.Slots.{action_in}
use Rattle.script_rows.proofs.Fronts.{action-front}
use Rattle.script_rows.proofs.slots.ActionSlot.bytes.Goals as goal

pub returns-clause-action : goal.returns-clause-action
returns-clause-action c =
    ap (λ (n : ℕ). action_in c.args.self.now.kept (take n c.args.self.now.bytes)) c.length.ensures.value
    ∙ action-front c.args.self.now.kept c.args.self.now.bytes
