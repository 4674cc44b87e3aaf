use Rattle.core_lock.proofs.Lasting.{stays_guarded}
use Rattle.core_lock.proofs.guarded.Guarded.perform_with.Goals as goal

pub invariant_of-self : goal.invariant_of-self
invariant_of-self g c =
    let k = c.keep_entry.ensures in
    stays_guarded _ _ _ _ _ _ _ _ _ _ _ c.self.invariant k.beside k.entries k.shown k.cells k.set_up
