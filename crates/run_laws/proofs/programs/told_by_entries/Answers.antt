use Rattle.run_laws.proofs.Traces.Runs.{run-programs}
use Rattle.run_laws.proofs.programs.told_by_entries.Goals as goal

pub returns : goal.returns
returns c =
    record {
      told = λ setup lawful h s run.
          run-programs (record { laws = record { walks = c.walks.ensures.each; sets = c.steps.ensures.sets; setups = c.setups.ensures.stay }; runs = record { set_up = c.setups.ensures.set_up; above = c.reset_numbers.ensures.above } }) setup lawful (c.programs.ensures.told setup lawful) h s run;
    }
