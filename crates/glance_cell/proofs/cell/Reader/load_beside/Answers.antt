use Rattle.std.proofs.Common.{ℕ, ◌≡◌, arith, sym, ap, ◌∙◌}
use mathlib.Core.Option.{none}
use Rattle.atomic_table.specs.Table.{Me, step}
use Rattle.atomic_table.specs.Seated.{TableId}
use Rattle.atomic_table.specs.declared.shared.Seat.{Seat}
use Rattle.glance_cell.specs.declared.words.View.{View}
use Rattle.glance_cell.specs.declared.cell.Cell.{Cell}
use Rattle.glance_cell.specs.Shown.{Words}
use Rattle.glance_cell.proofs.Moves.{watches, takes_in, sees_made, sees_cleared, hands_out}
use Rattle.glance_cell.proofs.cell.Reader.load_beside.Goals as goal

-- two that are of one cell, the second of which is of this table
one_table : (a b w r : Words) (t : TableId) → a ≡ w → b ≡ r → r.cell ≡ w.cell → b.cell ≡ t → a.cell ≡ t
one_table a b w r t writer reader same is = ap (λ (x : Words). x.cell) writer ∙ sym same ∙ sym (ap (λ (x : Words). x.cell) reader) ∙ is

pub split_seat-first-requires : goal.split_seat-first-requires
split_seat-first-requires c =
    let table = c.self.invariant.0 ∙ ap (λ (x : Cell). x.table.shared.table_id) (sym c.deref.ensures) in
    (one_table _ _ _ _ _ c.writer.view_is c.self.view_is c.requires.same table, omega (arith, c.deref.result.now.shape.0), watches _ _ c.writer.invariant.2)

pub join_seat-requires : goal.join_seat-requires
join_seat-requires c =
    let table = c.self.invariant.0 ∙ ap (λ (x : Cell). x.table.shared.table_id) (sym c.deref.ensures) in
    let reader = c.replace-seat.ensures.value in (
      c.split_seat-first.ensures.0 ∙ one_table _ _ _ _ _ c.writer.view_is c.self.view_is c.requires.same table,
      ap (λ (s : Seat ℕ View). s.table_id) reader ∙ table,
      ap (λ (s : Seat ℕ View). s.me.1) reader ∙ c.self.invariant.1,
      omega (arith, c.deref.result.now.shape.0),
      takes_in _ _ _ _ (ap (λ (m : Me ℕ View). m.0.writes) c.split_seat-first.ensures.2 ∙ c.writer.invariant.2) (ap (λ (s : Seat ℕ View). s.me.0.writes) reader ∙ c.self.invariant.2),
    )

pub load-cleared-requires : goal.load-cleared-requires
load-cleared-requires c =
    let table = c.self.invariant.0 ∙ ap (λ (x : Cell). x.table.shared.table_id) (sym c.deref.ensures) in (
      c.join_seat.ensures.0 ∙ c.split_seat-first.ensures.0 ∙ one_table _ _ _ _ _ c.writer.view_is c.self.view_is c.requires.same table,
      omega (arith, c.deref.result.now.shape.0),
      sees_cleared _ _ _ (step 0 0 0 0 none)
          (ap (λ (m : Me ℕ View). m.0.writes) c.join_seat.ensures.2 ∙ ap (λ (m : Me ℕ View). m.0.writes) c.split_seat-first.ensures.2 ∙ c.writer.invariant.2),
    )

pub load-made-requires : goal.load-made-requires
load-made-requires c =
    let table = c.self.invariant.0 ∙ ap (λ (x : Cell). x.table.shared.table_id) (sym c.deref.ensures) in (
      c.load-cleared.ensures.0 ∙ c.join_seat.ensures.0 ∙ c.split_seat-first.ensures.0 ∙ one_table _ _ _ _ _ c.writer.view_is c.self.view_is c.requires.same table,
      omega (arith, c.deref.result.now.shape.0),
      sees_made _ _ _ (step 0 0 0 0 none)
          (ap (λ (m : Me ℕ View). m.0.writes) c.load-cleared.ensures.2.0 ∙ ap (λ (m : Me ℕ View). m.0.writes) c.join_seat.ensures.2
          ∙ ap (λ (m : Me ℕ View). m.0.writes) c.split_seat-first.ensures.2 ∙ c.writer.invariant.2),
    )

pub split_seat-requires : goal.split_seat-requires
split_seat-requires c =
    let table = c.self.invariant.0 ∙ ap (λ (x : Cell). x.table.shared.table_id) (sym c.deref.ensures) in (
      c.load-made.ensures.0 ∙ c.load-cleared.ensures.0 ∙ c.join_seat.ensures.0 ∙ c.split_seat-first.ensures.0
          ∙ one_table _ _ _ _ _ c.writer.view_is c.self.view_is c.requires.same table,
      omega (arith, c.deref.result.now.shape.0),
      hands_out _ _
          (ap (λ (m : Me ℕ View). m.0.writes) c.load-made.ensures.2.0 ∙ ap (λ (m : Me ℕ View). m.0.writes) c.load-cleared.ensures.2.0
          ∙ ap (λ (m : Me ℕ View). m.0.writes) c.join_seat.ensures.2 ∙ ap (λ (m : Me ℕ View). m.0.writes) c.split_seat-first.ensures.2 ∙ c.writer.invariant.2),
    )
