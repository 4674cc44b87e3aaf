use Rattle.std.proofs.Common.{rules}
use Rattle.event_log.proofs.Growing.{alike_more, alike_whole, read_alike}
use Rattle.event_log.proofs.history.are_kept_as.Goals as goal

pub loop-index-preserved : goal.loop-index-preserved
loop-index-preserved c =
    let xs = c.args.entries.now in
    let ys = c.args.others.now in
    let i = c.loop-index.index in
    alike_more xs ys i c.if-entries-others.false c.loop-index-test.true
    (read_alike xs ys i c.index-entries-index.result c.index-others-index.result c.if-entries-others.false c.loop-index-test.true c.index-entries-index.is c.index-others-index.is (c.is_kept_as.ensures.0 c.if-not-is_kept_as.false))
    c.loop-index.invariant

pub returns : goal.returns
returns c = ((λ t. alike_whole c.args.entries.now c.args.others.now c.loop-index.index c.if-entries-others.false (search rules) c.loop-index.invariant), (λ e. search rules))
