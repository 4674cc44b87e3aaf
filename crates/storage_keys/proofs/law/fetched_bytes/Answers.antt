use Rattle.storage_keys.proofs.ByteLemmas.{fetched_bytes}
use Rattle.storage_keys.proofs.law.fetched_bytes.Goals as goal

pub returns : goal.returns
returns c = fetched_bytes
