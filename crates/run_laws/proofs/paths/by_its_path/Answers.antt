use Rattle.run_laws.proofs.Machine.Growth.{laws-of}
use Rattle.run_laws.proofs.Signals.RunPaths.{run-by-its-path}
use Rattle.run_laws.proofs.paths.by_its_path.Goals as goal

pub returns : goal.returns
returns c = record {
  paths = run-by-its-path
      (laws-of c.walks.ensures.each c.agreement.ensures.keeps c.resets.ensures c.agreement.ensures.means c.passing.ensures.busy c.passing.ensures.stays)
      c.rising.ensures c.agreement.ensures.opens;
}
