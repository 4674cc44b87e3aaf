use Rattle.std.proofs.Common.{length}
use Rattle.storage_keys.proofs.LentLemmas.{lendable-with}
use Rattle.storage_keys.proofs.lent_storage.LentStorageMainStorage.write_prefix.Goals as goal

pub invariant_of-self : goal.invariant_of-self
invariant_of-self c =
    let s = c.args.self.now in
    record { lent = lendable-with (length s.bytes.now) (length s.keys.now) s.prefixes.now c.args.cpu c.args.address c.requires.prefix s.lent }
