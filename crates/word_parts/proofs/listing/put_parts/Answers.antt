use Rattle.word_parts.proofs.Growing.{goes_on, begun_on, fails_within}
use Rattle.word_parts.proofs.listing.put_parts.Goals as goal

pub returns-in-None : goal.returns-in-None
returns-in-None g c =
    fails_within _ _ _ _ _ _ c.args.parts.now c.loop-part.part-index c.args.word _ _ c.loop-part-test.true c.part-item.is c.loop-part.invariant.0
    c.loop-part.invariant.1 c.in-None.ensures.failed

pub loop-part-preserved : goal.loop-part-preserved
loop-part-preserved g c = (
  goes_on _ _ _ _ _ _ c.args.parts.now c.loop-part.part-index c.args.word _ _ c.loop-part-test.true c.part-item.is c.loop-part.invariant.0
      c.loop-part.invariant.1 c.in-Some.ensures.whole,
  begun_on _ _ _ c.args.parts.now c.loop-part.part-index c.args.word _ _ c.loop-part-test.true c.part-item.is c.loop-part.invariant.1
      c.in-Some.ensures.begun,
)
