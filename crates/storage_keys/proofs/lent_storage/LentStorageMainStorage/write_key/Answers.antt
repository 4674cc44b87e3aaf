use Rattle.std.proofs.Common.{◌∙◌, ◌/◌, ap, slice_set, ℕ}
use Rattle.storage_keys.specs.Storage.{lent_contents}
use Rattle.storage_keys.proofs.LentLemmas.{lent-key-written}
use Rattle.storage_keys.proofs.lent_storage.LentStorageMainStorage.write_key.Goals as goal

pub returns-clause-written : goal.returns-clause-written
returns-clause-written c =
    let s = c.args.self.now in
    ap (λ (b : ℕ). lent_contents s.bytes.now (slice_set s.keys.now (c.args.address / 4096) b) s.prefixes.now) c.byte.ensures
    ∙ lent-key-written s.bytes.now s.keys.now s.prefixes.now (c.args.address / 4096) c.args.key
