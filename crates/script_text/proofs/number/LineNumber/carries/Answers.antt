use Rattle.std.proofs.Common.{rules, ◌∙◌, ◌-◌}
use Rattle.std.proofs.lemmas.List.{length-set}
use Rattle.script_text.proofs.Counting.{carried}
use Rattle.script_text.proofs.number.LineNumber.carries.Goals as goal

pub invariant_of-self-clause-told : goal.invariant_of-self-clause-told
invariant_of-self-clause-told c =
    let line = c.args.self.now in
    carried line.digits line.count line.number c.args.number c.if-self-lt2.false (search rules) (search rules) c.requires c.ranges.number.fits c.if-self-last-ne57.false c.if-digit-ge57.false

pub invariant_of-self-clause-long : goal.invariant_of-self-clause-long
invariant_of-self-clause-long c = length-set _ (c.args.self.now.count - 1) _ ∙ length-set c.args.self.now.digits (c.args.self.now.count - 1 - 1) _ ∙ search rules
