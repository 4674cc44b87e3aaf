use Rattle.std.proofs.Common.{◌≡◌, sym, ◌∙◌, subst}
use Rattle.std.specs.Arc.{arc_value}
use Rattle.machine_model.specs.Setups.{IsSetUp}
use Rattle.machine_model.specs.Steps.{HasRun}
use Rattle.glance_directory.specs.Directory.{directory_of}
use Rattle.core_lock.specs.Seats.{GuardedCore, HeldSeat}
use Rattle.core_lock.specs.Turns.{IsOfMachine}
use Rattle.glance_directory.proofs.Directories.{is_named}
use Rattle.core_lock.proofs.guarded.Guarded.stands.Goals as goal

pub returns : goal.returns
returns g c =
    let i = c.self.invariant in
    let state = c.self.inside.subsystem.state in
    let directory = is_named g.J.MachineBrand.setup state g.J.MachineBrand.name.directory i.set_up i.named ∙ sym c.seat.invariant.directory in
    subst (λ (s : HeldSeat). IsOfMachine s.value c.args.self.now.value) c.seat.view_is
    (subst (λ (l : GuardedCore). HasRun l.value.history l.value.state × IsSetUp g.J.MachineBrand.setup l.value.state × (directory_of l.value.state ≡ arc_value c.seat.inside.directory)) c.self.view_is
    (c.history.ensures.replays, i.set_up, directory))
