use Rattle.std.proofs.Common.{sym, ◌∙◌}
use Rattle.glance_directory.proofs.Finding.{index_at, index_more}
use Rattle.glance_directory.proofs.directory.named_index.Goals as goal

pub returns-then-is_name_at-clause-index : goal.returns-then-is_name_at-clause-index
returns-then-is_name_at-clause-index c =
    sym (index_at c.args.id c.args.setups.now c.loop-index.index c.loop-index-test.true c.loop-index.invariant (sym c.is_name_at.ensures ∙ c.if-is_name_at.true))

pub loop-index-preserved : goal.loop-index-preserved
loop-index-preserved c =
    index_more c.args.id c.args.setups.now c.loop-index.index c.loop-index-test.true c.loop-index.invariant (sym c.is_name_at.ensures ∙ c.if-is_name_at.false)
