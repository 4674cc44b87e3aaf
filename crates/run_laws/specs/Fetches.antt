-- What a program is made of is what storage held as it was fetched (SA22-7832, chapter 15).
use Rattle.std.specs.Prelude.{◌≡◌, ◌⊎◌, ◌&&◌, ◌==◌, ◌%◌, ℕ, true, None, length, Ok, Err}
use Rattle.orb_block.specs.declared.Orb.{Orb}
use Rattle.storage_keys.specs.Storage.{Contents, fetched}
use Rattle.ccw_walk.specs.declared.check.Check.TheVariants.{Program}
use Rattle.ccw_walk.specs.Sequences.{Sequence, Nothing, ◌▸◌, ◌▸▸◌}
use Rattle.ccw_walk.specs.Acts.{Act, Block, Unfetched, Word}
use Rattle.ccw_walk.specs.Programs.{role_of}
use Rattle.ccw_walk.specs.Fetching.{is_program_misplaced}
use Rattle.idaw.specs.Lists.{kind_of, width, address_of_word, word_fault}
use Rattle.idaw.specs.Places.{Reach}
use Rattle.data_move.specs.Accesses.{checked, list_word_of}
use Rattle.run_laws.specs.DataAreas.{data_areas}

-- an indirect word is the next of the list of the latest block, by the key of the operation-request block; the list is on a boundary of
-- its words, and the word is right
abbrev pub IsNextWord : Contents → Orb → Sequence Reach → ℕ → Type 0
IsNextWord storage orb Nothing word = ⊥
IsNextWord storage orb (before ▸ r) word =
    let kind = kind_of orb in
    (r.ccw.address % width kind ≡ 0)
    × (list_word_of kind (checked (fetched storage orb.key (address_of_word kind r.ccw.address (length r.words)) (width kind))) ≡ Ok word)
    × (word_fault kind (length r.words == 0) word (length storage.bytes) ≡ None)

-- what is fetched: a block is the eight bytes at its address, by that key; one that could not be fetched is refused by storage with this check, or
-- it is the first, at an address where no program may begin
abbrev pub IsFetched : Contents → Orb → Sequence Act → Act → Type 0
IsFetched storage orb before (Block address bytes) = fetched storage orb.key address 8 ≡ Ok bytes
IsFetched storage orb before (Unfetched address check) =
    (checked (fetched storage orb.key address 8) ≡ Err check)
    ⊎ (((role_of orb before).first && is_program_misplaced orb address ≡ true) × (check ≡ Program))
IsFetched storage orb before (Word word) = IsNextWord storage orb (data_areas orb before) word
IsFetched storage orb before act = ⊥

-- acts that come after those before
abbrev pub AreFetched : Contents → Orb → Sequence Act → Sequence Act → Type 0
AreFetched storage orb before Nothing = Unit {0}
AreFetched storage orb before (acts ▸ act) = IsFetched storage orb (before ▸▸ acts) act × AreFetched storage orb before acts

-- the acts are those before, and more that storage holds
abbrev pub AddsFetched : Contents → Orb → Sequence Act → Sequence Act → Type 0
AddsFetched storage orb before acts = (more : Sequence Act) × (acts ≡ before ▸▸ more) × AreFetched storage orb before more
