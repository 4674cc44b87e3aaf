use Rattle.std.proofs.Common.{◌∙◌, refl, arith}
use Rattle.std.proofs.lemmas.List.{length-set}
use Rattle.io_step.proofs.Engaged.{engaged-none, engaged-more}
use Rattle.io_step.proofs.others.engaged_bytes.Goals as goal

pub loop-index-init : goal.loop-index-init
loop-index-init c = record { long = refl; done = engaged-none c.args.engaged.now }

pub loop-index-preserved : goal.loop-index-preserved
loop-index-preserved c = record {
  long = length-set c.loop-index.image c.loop-index.index c.engaged_byte.result ∙ c.loop-index.invariant.long;
  done =
      engaged-more c.args.engaged.now c.loop-index.image c.loop-index.index c.engaged_byte.result (omega (arith, c.loop-index.invariant.long, c.loop-index-test.true))
      c.loop-index.invariant.done c.engaged_byte.ensures;
}
