use Rattle.std.proofs.Common.{length, ap, ◌∙◌}
use Rattle.std.specs.Prelude.{replicate}
use Rattle.glance_directory.specs.Cells.{serials}
use Rattle.glance_directory.proofs.Directories.{opening_directory, opening_serials}
use Rattle.core_lock.proofs.parts.Parts.new_with.Goals as goal

pub returns-clause-directory : goal.returns-clause-directory
returns-clause-directory g c = c.in_ok-share.ensures.shared ∙ c.in_ok-directory.ensures.made ∙ opening_directory c.args.config.now

pub returns-clause-serials : goal.returns-clause-serials
returns-clause-serials g c = c.in_ok-writers.ensures.shown ∙ ap (λ l. replicate (length l) (serials 0 0)) c.subchannels.ensures.value ∙ opening_serials c.args.config.now
