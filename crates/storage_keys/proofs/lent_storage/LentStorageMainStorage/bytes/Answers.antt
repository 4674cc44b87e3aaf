use Rattle.storage_keys.proofs.LentLemmas.{lent-addressable}
use Rattle.storage_keys.proofs.lent_storage.LentStorageMainStorage.bytes.Goals as goal

pub returns-clause-sound : goal.returns-clause-sound
returns-clause-sound c = lent-addressable c.args.self.now.bytes.now c.args.self.now.keys.now c.args.self.now.prefixes.now c.args.self.now.lent
