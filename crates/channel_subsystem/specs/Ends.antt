-- Entries that are kept of a history, and how it ends by them (own).
use Rattle.std.specs.Prelude.{◌≡◌, All, List, [], ◌∷◌, ◌++◌, true}
use Rattle.chan_events.specs.declared.reply.Entry.{Entry}
use Rattle.run_laws.specs.Stores.{is_store}
use Rattle.channel_subsystem.specs.declared.keeping.Keeping.{Keeping}
use Rattle.channel_subsystem.specs.declared.keeping.Keeping.TheVariants.{LastEntry, AllEntries}

-- what is kept still of these as another event begins
abbrev pub still_kept : Keeping → List Entry → List Entry
still_kept LastEntry kept = []
still_kept AllEntries kept = kept

-- bytes were put, or a key or a prefix was set
abbrev pub IsStore : Entry → Type 0
IsStore entry = is_store entry.event ≡ true

-- these entries one after another, and nothing between, before and behind them but stores
abbrev pub AreAmongStores : (kept there : List Entry) → Type 0
AreAmongStores [] there = All IsStore there
AreAmongStores (entry ∷ kept) there =
    (before : List Entry) × (later : List Entry) × (there ≡ before ++ entry ∷ later) × All IsStore before × AreAmongStores kept later

-- behind entries that are no longer kept, a history ends by these, among stores
abbrev pub EndsBy : (h kept : List Entry) → Type 0
EndsBy h kept = (earlier : List Entry) × (there : List Entry) × (h ≡ earlier ++ there) × AreAmongStores kept there
