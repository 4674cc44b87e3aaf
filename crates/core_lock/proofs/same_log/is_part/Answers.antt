use Rattle.std.proofs.Common.{rules, sym, ◌∙◌}
use Rattle.core_lock.proofs.Auditing.{any_entry, skips, goes_on_at, has_next, whole_where, no_true}
use Rattle.core_lock.proofs.same_log.is_part.Goals as goal

pub loop-index-preserved-then-by-index : goal.loop-index-preserved-then-by-index
loop-index-preserved-then-by-index c =
    let i = c.loop-index.invariant in
    record {
      fits = skips c.args.number c.args.by.now c.args.history.now c.args.log.now c.loop-index.index c.loop-index.next any_entry c.requires c.loop-index-test.true (search rules) i.fits;
      few = search rules;
    }

pub returns-then-not-has_same : goal.returns-then-not-has_same
returns-then-not-has_same c =
    ((λ t. absurd (no_true t)), (λ h. absurd (no_true (sym c.if-not-has_same.true ∙ c.has_same.ensures.1 (has_next c.args.number c.args.by.now c.args.history.now c.args.log.now c.loop-index.index c.loop-index.next any_entry c.requires c.loop-index-test.true (search rules) c.loop-index.invariant.fits h)))))

pub loop-index-preserved : goal.loop-index-preserved
loop-index-preserved c =
    let i = c.loop-index.invariant in
    record {
      fits = goes_on_at c.args.number c.args.by.now c.args.history.now c.args.log.now c.loop-index.index c.loop-index.next any_entry c.requires c.loop-index-test.true (search rules) (c.has_same.ensures.0 c.if-not-has_same.false) i.fits;
      few = search rules;
    }

pub returns : goal.returns
returns c =
    whole_where c.args.number c.args.by.now c.args.history.now c.args.log.now c.loop-index.index c.loop-index.next c.len.result c.len.ensures c.loop-index-test.false c.loop-index.invariant.fits
