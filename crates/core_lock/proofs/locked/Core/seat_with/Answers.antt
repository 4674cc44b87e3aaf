use Rattle.std.proofs.Common.{ap, ◌∙◌}
use Rattle.glance_directory.specs.Directory.{Directory, directory_of, index_named}
use Rattle.core_lock.specs.Seats.{LockedCore}
use Rattle.glance_directory.proofs.Directories.{index_is}
use Rattle.core_lock.proofs.locked.Core.seat_with.Goals as goal

pub returns-clause-indices : goal.returns-clause-indices
returns-clause-indices g c =
    let directory = c.in-Ok.ensures.directory ∙ ap (λ (l : LockedCore). directory_of l.value.state) c.self.view_is in
    λ word. ap (λ (d : Directory). index_named d word) directory ∙ index_is c.args.self.now.value.state word
