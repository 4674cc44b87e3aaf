use Rattle.step_laws.proofs.Blocks.{step-blocks}
use Rattle.step_laws.proofs.storage_blocks.Goals as goal

pub returns : goal.returns
returns c = record { stay = step-blocks }
