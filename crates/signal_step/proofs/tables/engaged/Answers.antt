use Rattle.std.proofs.Common.{◌∙◌, refl, arith}
use Rattle.std.proofs.lemmas.List.{length-set}
use Rattle.signal_step.proofs.Entries.{engaged-none, engaged-more}
use Rattle.signal_step.proofs.tables.engaged.Goals as goal

pub loop-chpid-init : goal.loop-chpid-init
loop-chpid-init c = record { long = refl; done = engaged-none c.args.subs.now }

pub loop-chpid-preserved : goal.loop-chpid-preserved
loop-chpid-preserved c = record {
  long = length-set c.loop-chpid.table c.loop-chpid.chpid c.is_engaged.result ∙ c.loop-chpid.invariant.long;
  done =
      engaged-more c.args.subs.now c.loop-chpid.table c.loop-chpid.chpid c.is_engaged.result (omega (arith, c.loop-chpid.invariant.long, c.loop-chpid-test.true))
      c.loop-chpid.invariant.done c.is_engaged.ensures;
}
