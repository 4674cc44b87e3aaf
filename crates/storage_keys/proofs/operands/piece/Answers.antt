-- A piece of one area stands in a row.
use Rattle.storage_keys.proofs.OperandLemmas.{piece_read}
use Rattle.storage_keys.proofs.operands.piece.Goals as goal

pub returns-clause-piece : goal.returns-clause-piece
returns-clause-piece g c =
    rw (c.part.ensures, c.piece_address.ensures.address) (piece_read (g.M.MainStorage.contents c.args.storage.now) c.piece_address.ensures.sound c.args.cpu c.args.real c.args.count c.requires.one_area c.requires.inside)
