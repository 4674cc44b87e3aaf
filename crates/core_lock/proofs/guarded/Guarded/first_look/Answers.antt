use Rattle.std.proofs.Common.{sym, ap, ◌∙◌}
use Rattle.glance_directory.specs.Directory.{directory_of}
use Rattle.core_lock.specs.Seats.{GuardedCore}
use Rattle.glance_directory.proofs.Directories.{is_named}
use Rattle.core_lock.proofs.guarded.Guarded.first_look.Goals as goal

pub returns-clause-directory : goal.returns-clause-directory
returns-clause-directory g c =
    let i = c.self.invariant in
    let state = c.self.inside.subsystem.state in
    c.in_ok-directory.ensures.same ∙ i.directory ∙ sym (is_named g.J.MachineBrand.setup state g.J.MachineBrand.name.directory i.set_up i.named) ∙ ap (λ (l : GuardedCore). directory_of l.value.state) c.self.view_is
