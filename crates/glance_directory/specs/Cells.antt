-- What the glance cells of a machine show, one for each subchannel (own).
use Rattle.std.specs.Prelude.{ℕ, List, map}
use Rattle.atomic_table.specs.Seated.{TableId}
use Rattle.scsw_irb.specs.declared.serials.Serials.{Serials}
use Rattle.glance_cell.specs.Shown.{Words}

abbrev pub serials : ℕ → ℕ → Serials
serials made cleared = record { made = made; cleared = cleared }

-- the counts that words show, and the cells that they are of
abbrev pub counts_of : Words → Serials
counts_of words = serials words.made words.cleared

abbrev pub shown : List Words → List Serials
shown all = map counts_of all

abbrev pub cell_of : Words → TableId
cell_of words = words.cell

abbrev pub cells_of : List Words → List TableId
cells_of all = map cell_of all
