-- A piece of one area is stored in a row.
use Rattle.storage_keys.proofs.OperandLemmas.{piece_stored}
use Rattle.storage_keys.proofs.operands.store_piece.Goals as goal

pub returns-clause-stored : goal.returns-clause-stored
returns-clause-stored g c =
    rw (c.overwrite.ensures.overwritten, c.piece_address-address.ensures.address) (piece_stored (g.M.MainStorage.contents c.args.storage.now) c.piece_address-address.ensures.sound c.args.cpu c.args.real c.args.bytes.now c.requires.one_area c.requires.inside)
