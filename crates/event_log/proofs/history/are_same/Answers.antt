use Rattle.std.proofs.Common.{rules}
use Rattle.event_log.proofs.Growing.{alike_more}
use Rattle.event_log.proofs.history.are_same.Goals as goal

pub loop-number-preserved : goal.loop-number-preserved
loop-number-preserved c =
    let h = c.has_same.ensures.0 c.if-not-has_same.false in
    alike_more c.args.one.now c.args.other.now c.loop-number.number (search rules) h.0 h.1 c.loop-number.invariant
