use Rattle.storage_keys.proofs.KeyLemmas.{cleared_from}
use Rattle.storage_keys.proofs.Storage.new_with.Goals as goal

pub returns-clause-cleared : goal.returns-clause-cleared
returns-clause-cleared g c =
    cleared_from c.args.blocks _ _ _ c.in_ok-filled.ensures.items c.in_ok-filled-2.ensures.items
