-- Lists of indirect-data-address words, and what is wrong with a word (SA22-7832, chapter 15).
use Rattle.std.specs.Prelude.{ℕ, ◌+◌, ◌*◌, ◌%◌, ◌^◌, ◌==◌, ◌&&◌, nat_le, not, Bool, false, if◌then◌else◌, Option, Some, None}
use Rattle.orb_block.specs.declared.Orb.{Orb}
use Rattle.idaw.specs.declared.ListKind.{ListKind}
use Rattle.idaw.specs.declared.ListKind.TheVariants.{Short, LongByFourK, LongByTwoK}
use Rattle.idaw.specs.declared.WordFault.{WordFault}
use Rattle.idaw.specs.declared.WordFault.TheVariants.{LeftmostBit, OffBlock, OutsideStorage}

-- H makes the words long, and T then the blocks small
abbrev pub kind_of : Orb → ListKind
kind_of orb = if orb.long_addresses then (if orb.small_blocks then LongByTwoK else LongByFourK) else Short

-- how many bytes a block has
abbrev pub block : ListKind → ℕ
block LongByFourK = 4096
block kind = 2048

-- how many bytes a word has
abbrev pub width : ListKind → ℕ
width Short = 4
width long = 8

-- where word i of the list at an address stands
abbrev pub address_of_word : ListKind → ℕ → ℕ → ℕ
address_of_word kind list i = list + width kind * i

-- what is wrong with a word, the first that applies: a short word has an address of 31 bits; any word but the first of its list
-- begins a block; a long word has an address of 64 bits, which must be that of a byte of storage
abbrev pub has_leftmost_bit : ListKind → ℕ → Bool
has_leftmost_bit kind word = elim kind [ Short ↦ nat_le (2 ^ 31) word | long ↦ false ]

abbrev pub is_outside : ListKind → ℕ → ℕ → Bool
is_outside kind word size = elim kind [ Short ↦ false | long ↦ nat_le size word ]

abbrev pub word_fault : ListKind → Bool → ℕ → ℕ → Option WordFault
word_fault kind first word size =
    if has_leftmost_bit kind word then Some LeftmostBit
    else if not first && not (word % block kind == 0) then Some OffBlock
    else if is_outside kind word size then Some OutsideStorage
    else None
