use Rattle.std.proofs.Common.{sym, ap, ◌∙◌}
use Rattle.glance_directory.specs.Directory.{Directory, directory_of}
use Rattle.core_lock.specs.Seats.{GuardedCore}
use Rattle.glance_directory.specs.PathTurns.{path_turn_among}
use Rattle.glance_directory.proofs.Directories.{is_named}
use Rattle.core_lock.proofs.guarded.Guarded.path_event.Goals as goal

pub returns : goal.returns
returns g c =
    let i = c.self.invariant in
    let state = c.self.inside.subsystem.state in
    let directory = c.deref.ensures ∙ i.directory ∙ sym (is_named g.J.MachineBrand.setup state g.J.MachineBrand.name.directory i.set_up i.named) in
    c.path_turn_of.ensures ∙ ap (λ (d : Directory). path_turn_among state c.args.chpid d.setups) directory ∙ ap (λ (l : GuardedCore). path_turn_among l.value.state c.args.chpid (directory_of l.value.state).setups) c.self.view_is
