use Rattle.std.proofs.Common.{ap, refl, ℕ}
use Rattle.std.specs.Prelude.{◌==◌}
use Rattle.zbits.proofs.Flags.{field-kept, field-taken}
use Rattle.schib_block.proofs.words.with_sense.Goals as goal

pub returns-clause-others : goal.returns-clause-others
returns-clause-others c = field-kept c.args.word c.args.given 4294967294 1 0 30 refl refl

pub returns-clause-sense : goal.returns-clause-sense
returns-clause-sense c = ap (λ (n : ℕ). n == 1) (field-taken c.args.word c.args.given 4294967294 1 31 31 refl refl)
