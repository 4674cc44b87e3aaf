use Rattle.std.proofs.Common.{sym, ◌∙◌, inr}
use Rattle.machine_lock.proofs.Calling.{not_called, not_owed, was_called}
use Rattle.machine_lock.proofs.workers.call_owed.Goals as goal

pub returns-then-not-owes-clause-called : goal.returns-then-not-owes-clause-called
returns-then-not-owes-clause-called g c = not_called c.args.seat.now.value (sym c.owes.ensures ∙ c.if-not-owes.true)

pub returns-then-not-owes-clause-makes : goal.returns-then-not-owes-clause-makes
returns-then-not-owes-clause-makes g c =
    not_owed (g.G.Gate.passes c.args.gate.now) g.D.Gated.answers c.args.seat.now.value c.args.device.now (sym c.owes.ensures ∙ c.if-not-owes.true)

pub returns-clause-called : goal.returns-clause-called
returns-clause-called g c =
    was_called (g.G.Gate.passes c.args.gate.now) g.D.Gated.answers c.args.seat.now.value c.args.device.now c.call.new.self.value c.call.new.device c.call.ensures.calls

pub returns-clause-makes : goal.returns-clause-makes
returns-clause-makes g c = inr c.call.ensures.calls
