use Rattle.std.proofs.Common.{◌+◌, length, refl, sym, ap, ◌∙◌, Some}
use Rattle.std.specs.Prelude.{slice_set}
use Rattle.std.proofs.lemmas.Option.{slice_get_read}
use Rattle.glance_cell.specs.Shown.{Words}
use Rattle.glance_directory.specs.Cells.{serials}
use Rattle.core_lock.proofs.Looks.{cell_at, shown_there}
use Rattle.core_lock.proofs.looking.load_at.Goals as goal

pub load_beside-loaded-requires : goal.load_beside-loaded-requires
load_beside-loaded-requires c =
    let readers = c.args.readers.now.items in
    let writers = c.args.writers.now.items in
    let k = c.args.index in
    let r = c.index_mut-reader.result.now in
    let w = c.index_mut.result.now in
    record {
      same = cell_at readers writers k r w c.requires.cells
          (slice_get_read readers (length readers) k r refl c.requires.read c.index_mut-reader.ensures.value)
          (slice_get_read writers (length writers) k w refl c.requires.written c.index_mut.ensures.value);
    }

pub returns-clause-found : goal.returns-clause-found
returns-clause-found c =
    let writers = c.args.writers.now.items in
    let k = c.args.index in
    let w = c.index_mut.result.now in
    let v = c.load_beside-loaded.ensures.value in
    shown_there writers k w (slice_get_read writers (length writers) k w refl c.requires.written c.index_mut.ensures.value)
    ∙ (λ i. Some (serials (sym v.0 i) (sym v.1 i)))

pub returns-clause-readers : goal.returns-clause-readers
returns-clause-readers c =
    let readers = c.args.readers.now.items in
    let writers = c.args.writers.now.items in
    let k = c.args.index in
    let r = c.index_mut-reader.result.now in
    let w = c.index_mut.result.now in
    let v = c.load_beside-loaded.ensures.value in
    let there = slice_get_read readers (length readers) k r refl c.requires.read c.index_mut-reader.ensures.value in
    let same = cell_at readers writers k r w c.requires.cells there (slice_get_read writers (length writers) k w refl c.requires.written c.index_mut.ensures.value) in
    (r, there, ap (λ (x : Words). slice_set readers k x) (c.load_beside-loaded.ensures.loads ∙ (λ i. record { cell = sym same i; made = sym v.0 i; cleared = sym v.1 i; loads = r.loads + 1 })))
