use Rattle.std.proofs.Common.{arith, ap, ◌∙◌}
use Rattle.std.specs.Prelude.{slice_set}
use Rattle.std.proofs.lemmas.List.{map-set}
use Rattle.std.proofs.Math.Seq.{map-set_same}
use Rattle.glance_cell.specs.Shown.{Words}
use Rattle.glance_directory.specs.Cells.{cell_of, counts_of, shown}
use Rattle.glance_directory.proofs.Rewriting.{shown_at}
use Rattle.glance_directory.proofs.seen_serials.publish_one.Goals as goal

pub store-requires-clause-rises : goal.store-requires-clause-rises
store-requires-clause-rises c =
    let w = c.index_mut-writer.result.now in
    c.requires.rises (counts_of w) (shown_at c.args.writers.now.items c.args.index w (omega arith) c.index_mut-writer.ensures.value)

pub returns-clause-shown : goal.returns-clause-shown
returns-clause-shown c =
    map-set counts_of c.args.writers.now.items c.args.index c.store.new.self ∙ ap (λ (w : Words). slice_set (shown c.args.writers.now.items) c.args.index (counts_of w)) c.store.ensures

pub returns-clause-cells : goal.returns-clause-cells
returns-clause-cells c =
    map-set_same cell_of c.args.writers.now.items c.args.index c.store.new.self c.index_mut-writer.result.now (ap cell_of c.store.ensures ∙ ap cell_of c.index_mut-writer.ensures.value)
