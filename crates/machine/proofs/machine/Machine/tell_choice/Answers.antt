use Rattle.std.proofs.Common.{sym, subst, Result}
use Rattle.chan_model.specs.declared.fault.Fault.{Fault}
use Rattle.chan_events.specs.declared.event.Event.TheVariants as event
use Rattle.chan_events.specs.Replies.{Reply}
use Rattle.machine_model.specs.Ruled.{GoesByRule}
use Rattle.machine_model.specs.State.{lent}
use Rattle.machine.proofs.machine.Machine.tell_choice.Goals as goal

pub returns-clause-ruled : goal.returns-clause-ruled
returns-clause-ruled g c = λ storage.
    subst (λ (a : Result Reply Fault). GoesByRule g.P.PathChoice.picks (lent c.args.self.now storage) (event.Choose c.args.word) a (lent c.choose.new.self storage))
    (sym c.tell.ensures.told) (c.choose.ensures.ruled storage)
