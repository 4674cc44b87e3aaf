-- The rule of the two words of a cell, and what each step tells of them (own).
use Rattle.std.specs.Prelude.{◌≡◌, ℕ, ◌+◌, ◌≤◌, ◌≢◌, [], ◌∷◌, Bool, true, false}
use mathlib.Core.Option.{some}
use lib.ListN.{get_elem?}
use Rattle.atomic_table.specs.Table.{State, Me, Step}
use Rattle.glance_cell.specs.declared.words.View.{View}

abbrev pub view : Bool → ℕ → ℕ → ℕ → View
view writes made cleared loads = record { writes = writes; made = made; cleared = cleared; loads = loads }

abbrev pub writer_view : ℕ → ℕ → View
writer_view made cleared = view true made cleared 0

abbrev pub reader_view : ℕ → ℕ → View
reader_view made cleared = view false made cleared 0

-- a reader's view is taken in by the writer's, which counts that reader's loads from then on
abbrev pub taken_in : View → View → View
taken_in writer reader = view writer.writes writer.made writer.cleared reader.loads

-- a reader that has loaded what the writer has, and as often as the writer counted
abbrev pub handed_out : View → View
handed_out writer = view false writer.made writer.cleared writer.loads

-- the words are the count made and the count cleared, which is at most the first; exactly one view is a writer's, and its counts
-- are the words; each other one is a reader's, and is part by part at most the words
pub record IsKept (table : State ℕ View) : Type 0 where
  pub seat : ℕ
  pub made : ℕ
  pub cleared : ℕ
  pub loads : ℕ
  pub words : table.words ≡ made ∷ cleared ∷ []
  pub ordered : cleared ≤ made
  pub writer : get_elem? table.views seat ≡ some (view true made cleared loads)
  pub readers : (other : ℕ) (v : View) → other ≢ seat → get_elem? table.views other ≡ some v → (v.writes ≡ false) × (v.made ≤ made) × (v.cleared ≤ cleared)

-- a store sets its part of the view of the one that makes it
abbrev pub SetsMade : Step ℕ → Me ℕ View → ℕ → Me ℕ View → Type 0
SetsMade step me word after = after ≡ (view me.0.writes word me.0.cleared me.0.loads, me.1)

abbrev pub SetsCleared : Step ℕ → Me ℕ View → ℕ → Me ℕ View → Type 0
SetsCleared step me word after = after ≡ (view me.0.writes me.0.made word me.0.loads, me.1)

-- so does a load, and what it finds is no less than that part was. A load of the count made finds no less than the count
-- cleared that was found before it, and is one more load
abbrev pub FindsMade : Step ℕ → Me ℕ View → ℕ → Me ℕ View → Type 0
FindsMade step me word after = (after ≡ (view me.0.writes word me.0.cleared (me.0.loads + 1), me.1)) × (me.0.made ≤ word) × (me.0.cleared ≤ word)

abbrev pub FindsCleared : Step ℕ → Me ℕ View → ℕ → Me ℕ View → Type 0
FindsCleared step me word after = (after ≡ (view me.0.writes me.0.made word me.0.loads, me.1)) × (me.0.cleared ≤ word)

-- what the writer's own loads find is what it has
abbrev pub SeesMade : Step ℕ → Me ℕ View → ℕ → Me ℕ View → Type 0
SeesMade step me word after = (after ≡ (view me.0.writes me.0.made me.0.cleared (me.0.loads + 1), me.1)) × (word ≡ me.0.made)

abbrev pub SeesCleared : Step ℕ → Me ℕ View → ℕ → Me ℕ View → Type 0
SeesCleared step me word after = (after ≡ me) × (word ≡ me.0.cleared)
