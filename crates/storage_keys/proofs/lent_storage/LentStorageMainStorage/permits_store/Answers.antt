use Rattle.std.proofs.Common.{List, ℕ, length, ap, ◌∙◌}
use Rattle.std.specs.List.{list_all}
use Rattle.storage_keys.specs.Storage.{key_of_byte, key_permits_store}
use Rattle.storage_keys.proofs.LentLemmas.{lent-permit, lent-block, lent-keys}
use Rattle.storage_keys.proofs.lent_storage.LentStorageMainStorage.permits_store.Goals as goal

pub returns : goal.returns
returns c =
    c.all_permit_store.ensures
    ∙ ap (λ (blocks : List ℕ). list_all (λ byte. key_permits_store c.args.key (key_of_byte byte)) blocks) c.blocks_of.ensures
    ∙ lent-permit (key_permits_store c.args.key) c.args.self.now.bytes.now c.args.self.now.keys.now c.args.self.now.prefixes.now c.args.address c.args.count

pub blocks_of-requires-clause-inside : goal.blocks_of-requires-clause-inside
blocks_of-requires-clause-inside c =
    lent-block (length c.args.self.now.bytes.now) (length c.args.self.now.keys.now) c.args.self.now.prefixes.now c.args.address c.args.count c.args.self.now.lent c.requires

pub blocks_of-requires-clause-bound : goal.blocks_of-requires-clause-bound
blocks_of-requires-clause-bound c =
    lent-keys (length c.args.self.now.bytes.now) (length c.args.self.now.keys.now) c.args.self.now.prefixes.now c.args.self.now.lent
