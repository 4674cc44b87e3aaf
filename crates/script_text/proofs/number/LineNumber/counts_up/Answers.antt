use Rattle.std.proofs.Common.{rules, ◌∙◌, ◌-◌, arith}
use Rattle.std.proofs.lemmas.List.{length-set}
use Rattle.script_text.proofs.Counting.{counted}
use Rattle.script_text.proofs.number.LineNumber.counts_up.Goals as goal

pub invariant_of-self-clause-told : goal.invariant_of-self-clause-told
invariant_of-self-clause-told c =
    let line = c.args.self.now in
    counted line.digits line.count line.number c.args.number (search rules) (search rules) (search rules) (omega arith) c.ranges.number.fits c.if-digit-ge57.false

pub invariant_of-self-clause-long : goal.invariant_of-self-clause-long
invariant_of-self-clause-long c = length-set c.args.self.now.digits (c.args.self.now.count - 1) _ ∙ search rules
