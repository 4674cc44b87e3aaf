use Rattle.std.proofs.Common.{◌∙◌, refl, arith}
use Rattle.std.proofs.lemmas.List.{length-set}
use Rattle.signal_step.proofs.Entries.{configured-none, configured-more}
use Rattle.signal_step.proofs.tables.configured.Goals as goal

pub loop-chpid-init : goal.loop-chpid-init
loop-chpid-init c = record { long = refl; done = configured-none c.args.chpids.now }

pub loop-chpid-preserved : goal.loop-chpid-preserved
loop-chpid-preserved c = record {
  long = length-set c.loop-chpid.table c.loop-chpid.chpid c.has_chpid.result ∙ c.loop-chpid.invariant.long;
  done =
      configured-more c.args.chpids.now c.loop-chpid.table c.loop-chpid.chpid c.has_chpid.result (omega (arith, c.loop-chpid.invariant.long, c.loop-chpid-test.true))
      c.loop-chpid.invariant.done c.has_chpid.ensures;
}
