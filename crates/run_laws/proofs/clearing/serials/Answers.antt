use Rattle.run_laws.proofs.Machine.Sound.{AreNumbered, numbered-of}
use Rattle.run_laws.proofs.Machine.RunSerials.{serials-rise}
use Rattle.run_laws.proofs.clearing.serials.Goals as goal

pub returns : goal.returns
returns c =
    let law = c.command_numbers.ensures in
    let numbered : AreNumbered = numbered-of law.first law.next law.begun law.room law.given law.absorbed law.brought in
    record { rises = serials-rise c.walks.ensures.each numbered }
