use Rattle.std.proofs.Common.{arith, ◌∙◌}
use Rattle.subsystem.specs.Keeping.{all_serials}
use Rattle.glance_directory.specs.Cells.{shown}
use Rattle.glance_directory.proofs.Rewriting.{rises_at, mixes_on, mix_end, same_cells, shown_length}
use Rattle.glance_directory.proofs.seen_serials.publish_all.Goals as goal

pub serials_at-requires : goal.serials_at-requires
serials_at-requires g c =
    omega (arith, c.requires.count, c.loop-index.invariant.2, shown_length c.args.writers.now.items)

pub publish_one-requires-clause-rises : goal.publish_one-requires-clause-rises
publish_one-requires-clause-rises g c =
    rises_at c.loop-index.writers.items c.args.writers.now.items (all_serials c.args.subsystem.now.state) c.loop-index.index c.serials_at.result c.loop-index.invariant.0 c.requires c.serials_at.ensures.value

pub loop-index-preserved : goal.loop-index-preserved
loop-index-preserved g c =
    let i = c.loop-index.invariant in
    let cells = c.publish_one.ensures.cells ∙ i.1 in (
      mixes_on c.loop-index.writers.items c.args.writers.now.items c.publish_one.new.writers.items (all_serials c.args.subsystem.now.state) c.loop-index.index c.serials_at.result i.0 c.requires c.serials_at.ensures.value c.publish_one.ensures.shown,
      cells,
      same_cells _ _ cells,
    )

pub returns-clause-shown : goal.returns-clause-shown
returns-clause-shown g c =
    let i = c.loop-index.invariant in
    i.0 ∙ mix_end c.loop-index.index (all_serials c.args.subsystem.now.state) (shown c.args.writers.now.items) c.requires.count (omega (arith, shown_length c.args.writers.now.items, i.2))
