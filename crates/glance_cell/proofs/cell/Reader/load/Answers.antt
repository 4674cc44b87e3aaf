use Rattle.std.proofs.Common.{ℕ, arith, sym, ap, ◌∙◌}
use mathlib.Core.Option.{none}
use Rattle.atomic_table.specs.Table.{Me, step}
use Rattle.glance_cell.specs.declared.words.View.{View}
use Rattle.glance_cell.specs.declared.cell.Cell.{Cell}
use Rattle.glance_cell.proofs.Moves.{loads_made, loads_cleared}
use Rattle.glance_cell.proofs.cell.Reader.load.Goals as goal

pub load-cleared-requires : goal.load-cleared-requires
load-cleared-requires c =
    let i = c.self.invariant in
    (i.0 ∙ ap (λ (x : Cell). x.table.shared.table_id) (sym c.deref.ensures), omega (arith, c.deref.result.now.shape.0), loads_cleared _ _ _ (step 0 0 0 0 none) i.2)

pub load-made-requires : goal.load-made-requires
load-made-requires c =
    let i = c.self.invariant in
    let e = c.load-cleared.ensures in
    (e.0 ∙ i.0 ∙ ap (λ (x : Cell). x.table.shared.table_id) (sym c.deref.ensures), omega (arith, c.deref.result.now.shape.0), loads_made _ _ _ (step 0 0 0 0 none) (ap (λ (m : Me ℕ View). m.0.writes) e.2.0 ∙ i.2))
