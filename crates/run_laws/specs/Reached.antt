-- How far the data of the command at work is reached: which bytes may move next, and why none may (SA22-7832, chapter 15).
use Rattle.std.specs.Prelude.{◌≡◌, ◌==◌, ◌&&◌, ◌-◌, ◌+◌, ℕ, min, nat_lt, not, Bool, true, false, if◌then◌else◌, List, [], ◌∷◌, ◌++◌, length, Option, Some, Ok}
use Rattle.orb_block.specs.declared.Orb.{Orb}
use Rattle.ccw_codec.specs.Command.{class_of}
use Rattle.storage_keys.specs.Storage.{Contents, fetched, stored_bytes}
use Rattle.ccw_walk.specs.Sequences.{Sequence, Nothing, ◌▸◌}
use Rattle.ccw_walk.specs.Acts.{Act}
use Rattle.idaw.specs.Lists.{kind_of, block}
use Rattle.idaw.specs.Places.{Reach, covered}
use Rattle.data_move.specs.Commands.{brings}
use Rattle.run_laws.specs.ProgramClaims.{IsBeginning, places_of}
use Rattle.run_laws.specs.DataAreas.{data_areas, counts}
use Rattle.run_laws.specs.Fetches.{IsNextWord}

-- how many bytes of the command's blocks the words that were fetched reach, where words name blocks of b bytes
abbrev pub reached : ℕ → Sequence Reach → ℕ
reached b Nothing = 0
reached b (before ▸ r) = counts before + (if r.ccw.indirect && not r.skipped then min (covered b r.words) r.ccw.count else r.ccw.count)

-- how many of them did not move yet, and how many move at once
abbrev pub left_of : Orb → Sequence Act → List (Option ℕ) → ℕ
left_of orb acts moved = reached (block (kind_of orb)) (data_areas orb acts) - length moved

abbrev pub room_of : Orb → Sequence Act → List (Option ℕ) → ℕ
room_of orb acts moved = min (left_of orb acts moved) 256

-- bytes of the counts are left, and the words do not reach the next of them
abbrev pub is_short : Orb → Sequence Act → List (Option ℕ) → Bool
is_short orb acts moved = (left_of orb acts moved == 0) && nat_lt (length moved) (counts (data_areas orb acts))

-- the bytes of the last block are skipped
abbrev pub skips : Sequence Reach → Bool
skips Nothing = false
skips (before ▸ r) = r.skipped

-- the next bytes can't be reached: no right word is next
abbrev pub CantReach : Contents → Orb → Sequence Act → List (Option ℕ) → Type 0
CantReach storage orb acts moved = (is_short orb acts moved ≡ true) × ((word : ℕ) → IsNextWord storage orb (data_areas orb acts) word → ⊥)

-- nor stored or fetched: storage refuses them at the place after those that were moved
abbrev pub CantStore : Contents → Orb → Sequence Act → List (Option ℕ) → List ℕ → Type 0
CantStore storage orb acts moved bytes =
    (place : ℕ) × IsBeginning (moved ++ Some place ∷ []) (places_of orb acts) × ((after : Contents) → stored_bytes storage orb.key place bytes ≡ Ok after → ⊥)

abbrev pub CantFetch : Contents → Orb → Sequence Act → List (Option ℕ) → Type 0
CantFetch storage orb acts moved =
    (place : ℕ) × IsBeginning (moved ++ Some place ∷ []) (places_of orb acts)
    × ((bytes : List ℕ) → fetched storage orb.key place (room_of orb acts moved) ≡ Ok bytes → ⊥)

-- A command begins: one that brings bytes in is told at once how many may come, and none where the first of them can't be reached
abbrev pub BeginsData : Contents → Orb → ℕ → ℕ → Bool → Sequence Act → Type 0
BeginsData storage orb code room stopped_by_check acts =
    (room ≡ (if brings (class_of code) && not stopped_by_check then room_of orb acts [] else 0)) × (stopped_by_check ≡ true → CantReach storage orb acts [])
    × (stopped_by_check ≡ false → brings (class_of code) ≡ true → is_short orb acts [] ≡ false)
