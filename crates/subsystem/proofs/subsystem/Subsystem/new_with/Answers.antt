use Rattle.std.proofs.Common.{ap}
use Rattle.subsystem.proofs.Pasts.{past-opens, past-set_up}
use Rattle.subsystem.proofs.subsystem.Subsystem.new_with.Goals as goal

pub invariant_of-result : goal.invariant_of-result
invariant_of-result g c = (
  past-opens c.args.config c.new.result.entries c.in-Ok.machine c.in-Ok.ensures.lawful (ap (λ l. l.entries) c.new.ensures) c.in-Ok.ensures.opened,
  (c.in-Ok.ensures.fits, ap (λ l. l.reply) c.new.ensures),
)

pub returns-in-Ok-clause-set_up : goal.returns-in-Ok-clause-set_up
returns-in-Ok-clause-set_up g c = past-set_up c.args.config c.in-Ok.machine c.in-Ok.ensures.lawful c.in-Ok.ensures.opened
