use Rattle.std.proofs.Common.{refl, subst}
use Rattle.host_machine.specs.Histories.{HasForgotten}
use Rattle.host_machine.specs.Machines.{Running}
use Rattle.host_machine.proofs.running.Running.forget.Goals as goal

pub returns : goal.returns
returns c =
    let new : Running = record { subsystem = c.forget.new.self; keys = c.self.inside.keys.items; prefixes = c.self.inside.prefixes } in
    subst (λ (old : Running). HasForgotten old new) c.self.view_is (record {
      subsystem = c.forget.ensures.forgotten;
      room = c.forget.ensures.room;
      leads = c.forget.ensures.leads;
      keys = refl;
      prefixes = refl;
    })
