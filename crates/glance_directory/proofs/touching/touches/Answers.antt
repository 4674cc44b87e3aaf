use Rattle.glance_directory.proofs.Changing.{changes}
use Rattle.glance_directory.proofs.touching.touches.Goals as goal

pub returns : goal.returns
returns c = changes c.walks.ensures.each
