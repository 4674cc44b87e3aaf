-- Where each field of a subchannel-information block stands in its 52 bytes (SA22-7832, chapter 15). The bits of the
-- path-management-control word beside its fields are reserved: zero in what is written, ignored in what is read.
use Rattle.std.specs.Prelude.{ℕ, ◌≡◌, List, [], ◌∷◌, ◌++◌, map, replicate, slice_index}
use Rattle.zbits.specs.declared.layout.BitField.{BitField}
use Rattle.zbits.specs.Layout.{AllShow, at, flag_at, flags_from, word_of}
use Rattle.zbits.specs.Words.{words_from, words_of}
use Rattle.scsw_irb.specs.ScswTable.{IsScsw, scsw_tables, zero_word}
use Rattle.schib_block.specs.declared.pmcw.Pmcw.{Pmcw}
use Rattle.schib_block.specs.declared.schib.Schib.{Schib}

abbrev pub word_0 : Pmcw → List BitField
word_0 pmcw = at 0 31 pmcw.parameter ∷ []

abbrev pub word_1 : Pmcw → List BitField
word_1 pmcw =
    at 2 4 pmcw.subclass
    ∷ flag_at 8 pmcw.enabled
    ∷ at 9 10 pmcw.limit_mode
    ∷ at 11 12 pmcw.measurement_mode
    ∷ flags_from 13 (pmcw.multipath ∷ pmcw.timing ∷ pmcw.valid ∷ []) ++ at 16 31 pmcw.device_number
    ∷ []

-- a byte each
abbrev pub four_bytes : ℕ → ℕ → ℕ → ℕ → List BitField
four_bytes a b c d = at 0 7 a ∷ at 8 15 b ∷ at 16 23 c ∷ at 24 31 d ∷ []

abbrev pub word_2 : Pmcw → List BitField
word_2 pmcw = four_bytes pmcw.logical pmcw.not_operational pmcw.last_used pmcw.installed

abbrev pub word_3 : Pmcw → List BitField
word_3 pmcw = at 0 15 pmcw.measurement_block ∷ at 16 23 pmcw.operational ∷ at 24 31 pmcw.available ∷ []

-- the identifier of the channel path of this index
abbrev pub chpid_of : Pmcw → ℕ → ℕ
chpid_of pmcw path = slice_index pmcw.chpids path

abbrev pub word_4 : Pmcw → List BitField
word_4 pmcw = four_bytes (chpid_of pmcw 0) (chpid_of pmcw 1) (chpid_of pmcw 2) (chpid_of pmcw 3)

abbrev pub word_5 : Pmcw → List BitField
word_5 pmcw = four_bytes (chpid_of pmcw 4) (chpid_of pmcw 5) (chpid_of pmcw 6) (chpid_of pmcw 7)

abbrev pub word_6 : Pmcw → List BitField
word_6 pmcw = flag_at 31 pmcw.concurrent_sense ∷ []

-- the table of the seven words of a path-management-control word
abbrev pub pmcw_tables : Pmcw → List (List BitField)
pmcw_tables pmcw = word_0 pmcw ∷ word_1 pmcw ∷ word_2 pmcw ∷ word_3 pmcw ∷ word_4 pmcw ∷ word_5 pmcw ∷ word_6 pmcw ∷ []

-- the path-management-control word, the subchannel-status word, and three words of zeros (own)
abbrev pub schib_tables : Schib → List (List BitField)
schib_tables schib = pmcw_tables schib.pmcw ++ scsw_tables schib.scsw ++ replicate 3 zero_word

-- the words of an image where the subchannel-status word stands
abbrev pub scsw_words : List ℕ → List ℕ
scsw_words image = words_from 7 3 image

-- an image of 52 bytes that can be read whole
abbrev pub IsSchib : List ℕ → Type 0
IsSchib image = IsScsw (scsw_words image)

-- the image has the fields of the path-management-control word where its table puts them
abbrev pub ShowsPmcw : List ℕ → Pmcw → Type 0
ShowsPmcw image pmcw = AllShow (words_of 7 image) (pmcw_tables pmcw)

-- the image has those fields, and the words of the subchannel-status word
pub record ShowsSchib (image : List ℕ) (schib : Schib) : Type 0 where
  pub pmcw : ShowsPmcw image schib.pmcw
  pub scsw : scsw_words image ≡ map word_of (scsw_tables schib.scsw)
