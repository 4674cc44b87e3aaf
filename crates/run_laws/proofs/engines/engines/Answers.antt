use Rattle.run_laws.proofs.Machine.OneEngine.{run-one, step-alone}
use Rattle.run_laws.proofs.engines.engines.Goals as goal

pub returns : goal.returns
returns c = record {
  one = λ setup h s lawful run. run-one c.walks.ensures.each setup h s run;
  alone = step-alone c.walks.ensures.each;
}
