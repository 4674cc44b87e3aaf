use Rattle.run_laws.proofs.Traces.Ties.{AreLaws}
use Rattle.run_laws.proofs.Bytes.Accesses.{AreAccesses}
use Rattle.run_laws.proofs.Traces.Told.{run-told}
use Rattle.run_laws.proofs.programs.programs.Goals as goal

pub returns : goal.returns
returns c =
    let laws : AreLaws = record {
      walks = c.walks.ensures.each;
      above = c.reset_numbers.ensures.above;
      begins = c.pieces.ensures.begins;
      word = c.pieces.ensures.word;
      stays = c.pieces.ensures.stays;
      moved = c.pieces.ensures.moved;
      places = c.pieces.ensures.places;
      leads = c.positions.ensures;
      stands = c.advances.ensures.stands;
      goes = c.programs.ensures;
    } in
    let accesses : AreAccesses = record {
      fetched = c.fetched_bytes.ensures;
      size = c.put_bytes.ensures.size;
      placed = c.put_bytes.ensures.placed;
      before = c.put_bytes.ensures.before;
      after = c.put_bytes.ensures.after;
    } in
    record { told = run-told laws accesses }
