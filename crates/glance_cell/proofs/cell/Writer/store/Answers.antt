use Rattle.std.proofs.Common.{ℕ, arith, sym, ap, ◌∙◌}
use mathlib.Core.Option.{none}
use Rattle.atomic_table.specs.Table.{Me, step}
use Rattle.glance_cell.specs.declared.words.View.{View}
use Rattle.glance_cell.specs.declared.cell.Cell.{Cell}
use Rattle.glance_cell.specs.Shown.{Words}
use Rattle.glance_cell.proofs.Moves.{stores_made, stores_cleared}
use Rattle.glance_cell.proofs.cell.Writer.store.Goals as goal

pub store-requires : goal.store-requires
store-requires c =
    let i = c.self.invariant in
    let old = c.self.inside.seat.me.0 in
    let is = c.self.view_is in (
      i.0 ∙ ap (λ (x : Cell). x.table.shared.table_id) (sym c.deref.ensures),
      omega (arith, c.deref.result.now.shape.0),
      stores_made _ _ _ (step 0 0 0 0 none) _ i.2 (omega (arith, c.requires.rises.0, ap (λ (w : Words). w.made) is)) (omega (arith, c.requires.rises.1, c.requires.ordered, ap (λ (w : Words). w.cleared) is)),
    )

pub store-requires-2 : goal.store-requires-2
store-requires-2 c =
    let i = c.self.invariant in
    let e = c.store.ensures in
    let is = c.self.view_is in (
      e.0 ∙ i.0 ∙ ap (λ (x : Cell). x.table.shared.table_id) (sym c.deref.ensures),
      omega (arith, c.deref.result.now.shape.0),
      stores_cleared _ _ _ (step 0 0 0 0 none) _ (ap (λ (m : Me ℕ View). m.0.writes) e.2 ∙ i.2)
          (omega (arith, ap (λ (m : Me ℕ View). m.0.cleared) e.2, c.requires.rises.1, ap (λ (w : Words). w.cleared) is))
          (omega (arith, ap (λ (m : Me ℕ View). m.0.made) e.2, c.requires.ordered)),
    )
