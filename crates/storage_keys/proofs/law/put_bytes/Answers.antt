use Rattle.storage_keys.proofs.ByteLemmas.{put_after}
use Rattle.storage_keys.proofs.law.put_bytes.Goals as goal

pub returns-clause-after : goal.returns-clause-after
returns-clause-after c = put_after
