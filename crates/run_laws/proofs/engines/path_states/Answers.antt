use Rattle.run_laws.proofs.Machine.Showing.{run-shown}
use Rattle.run_laws.proofs.engines.path_states.Goals as goal

pub returns : goal.returns
returns c = record { shown = λ setup h s lawful run. run-shown c.walks.ensures.each setup h s lawful run }
