use Rattle.script_runner.specs.Acting.{outcome_of}
use Rattle.script_runner.proofs.Starving.{starved_by, unstarved_by}
use Rattle.script_runner.proofs.performing.perform_one.Goals as goal

pub returns : goal.returns
returns g c =
    let acted = c.act-acted.result in
    let history = c.act-acted.new.self.past.history in
    record {
      outcome = outcome_of acted history;
      acts = c.act-acted.ensures.performs;
      refused = c.write.ensures.refused;
      prints = c.write.ensures.prints;
      unrefused = λ is. c.act-acted.ensures.unrefused (unstarved_by acted history is);
      memory = λ is. c.act-acted.ensures.memory (starved_by acted history is);
    }
