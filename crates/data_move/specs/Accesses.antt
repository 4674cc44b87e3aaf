-- What storage answers as the data of a command word is moved (SA22-7832, chapter 15).
use Rattle.std.specs.Prelude.{ℕ, ◌%◌, ◌==◌, not, if◌then◌else◌, List, [], ◌∷◌, length, slice_index, Option, Some, None, Result, Ok, Err}
use Rattle.byteorder.specs.Endian.{big_number}
use Rattle.storage_keys.specs.Storage as keys
use Rattle.storage_keys.specs.Storage.{Contents, fetched}
use Rattle.storage_keys.specs.declared.StorageFault.{StorageFault}
use Rattle.ccw_walk.specs.declared.check.Check.{Check}
use Rattle.ccw_walk.specs.declared.check.Check.TheVariants.{Program}
use Rattle.ccw_walk.specs.Checks.{check_of}
use Rattle.idaw.specs.declared.ListKind.{ListKind}
use Rattle.idaw.specs.declared.WordFault.{WordFault}
use Rattle.idaw.specs.Lists.{address_of_word, width, word_fault}
use Rattle.idaw.specs.Places.{Reach, reach_with_word}
use Rattle.data_move.specs.Moving.{Moving, needs_word, room, with_piece}

-- an access with its refusal as a check
abbrev pub checked : {X : Type 0} → Result X StorageFault → Result X Check
checked (Ok x) = Ok x
checked (Err fault) = Err (check_of fault)

-- the number of a word's bytes, where they are fetched
abbrev pub list_word_of : ListKind → Result (List ℕ) Check → Result ℕ Check
list_word_of kind (Ok bytes) = Ok (big_number (width kind) bytes)
list_word_of kind (Err check) = Err check

-- the next word of the list, which begins on a boundary of its words: the word at x + W * i
abbrev pub word_fetched : Contents → ℕ → Moving → Result ℕ Check
word_fetched storage key m =
    if not (m.ccw.address % width m.kind == 0) then Err Program
    else list_word_of m.kind (checked (fetched storage key (address_of_word m.kind m.ccw.address m.words) (width m.kind)))

-- a word with a fault is a program check
abbrev pub where_right : Option WordFault → Moving → Result Moving Check
where_right fault m = elim fault [ None ↦ Ok m | Some w ↦ Err Program ]

abbrev pub piece_begun : Moving → ℕ → Result ℕ Check → Result Moving Check
piece_begun m size (Ok word) = where_right (word_fault m.kind (m.words == 0) word size) (with_piece m word)
piece_begun m size (Err check) = Err check

-- the next bytes are located: by the next word of the list, where it is needed
abbrev pub located : Contents → ℕ → Moving → Result Moving Check
located storage key m = if needs_word m then piece_begun m (length storage.bytes) (word_fetched storage key m) else Ok m

-- the words that are then fetched
abbrev pub word_joined : Reach → Result ℕ Check → Reach
word_joined r (Ok word) = reach_with_word r word
word_joined r (Err check) = r

abbrev pub reach_located : Contents → ℕ → Moving → Reach → Reach
reach_located storage key m r = if needs_word m then word_joined r (word_fetched storage key m) else r

-- the bytes at these places, in order; where there is no place there is no byte
abbrev pub bytes_at : List ℕ → List (Option ℕ) → List ℕ
bytes_at bytes [] = []
bytes_at bytes (None ∷ places) = bytes_at bytes places
bytes_at bytes (Some place ∷ places) = slice_index bytes place ∷ bytes_at bytes places

-- the next chunk as storage has it
abbrev pub copied : Contents → ℕ → Moving → Result (List ℕ) Check
copied storage key m = if m.skipped then Ok [] else checked (fetched storage key m.piece (room m))

-- storage after bytes are stored at the next places
abbrev pub stored_or_skipped : Contents → ℕ → Moving → List ℕ → Result Contents Check
stored_or_skipped storage key m bytes = if m.skipped then Ok storage else checked (keys.stored_bytes storage key m.piece bytes)
