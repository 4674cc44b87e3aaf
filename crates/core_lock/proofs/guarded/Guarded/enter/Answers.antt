use Rattle.core_lock.proofs.Answering.{logged_by, refused_by}
use Rattle.core_lock.proofs.Trying.{executes}
use Rattle.core_lock.proofs.guarded.Guarded.enter.Goals as goal

pub returns-clause-executes : goal.returns-clause-executes
returns-clause-executes g c =
    executes g.P.PathChoice.picks c.args.self.now c.enter_with.new.self c.args.seat.now c.enter_with.new.seat c.args.event.now c.enter_with.result c.enter_with.ensures.entered

pub returns-clause-executed : goal.returns-clause-executed
returns-clause-executed g c = record {
  core = c.args.self.now;
  left = c.enter_with.new.self.value;
  of_machine = c.stands.ensures;
  executes = returns-clause-executes g c;
}

pub returns-clause-logged : goal.returns-clause-logged
returns-clause-logged g c =
    logged_by g.P.PathChoice.picks c.args.self.now c.args.seat.now c.args.event.now c.enter_with.result c.enter_with.new.self.value c.enter_with.new.seat.value (returns-clause-executes g c)

pub returns-clause-refusal : goal.returns-clause-refusal
returns-clause-refusal g c =
    refused_by g.P.PathChoice.picks c.args.self.now c.args.seat.now c.args.event.now c.enter_with.result c.enter_with.new.self.value c.enter_with.new.seat.value c.stands.ensures (returns-clause-executes g c)
