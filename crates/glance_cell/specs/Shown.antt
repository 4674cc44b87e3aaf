-- What contracts see of a writer and of a reader of a cell (own).
use Rattle.std.specs.Prelude.{ℕ}
use Rattle.atomic_table.specs.Seated.{TableId}

-- which cell it is; of a writer, the words; of a reader, what it loaded last, and how often it loaded
pub record Words : Type 0 where
  pub cell : TableId
  pub made : ℕ
  pub cleared : ℕ
  pub loads : ℕ

abbrev pub written : TableId → ℕ → ℕ → Words
written cell made cleared = record { cell = cell; made = made; cleared = cleared; loads = 0 }
