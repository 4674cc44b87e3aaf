-- The path-management-control word that seven words are, whatever their reserved bits (SA22-7832, chapter 15).
use Rattle.std.proofs.Common.{lit<}
use Rattle.std.proofs.lemmas.Nat.{mod_below}
use Rattle.std.specs.Prelude.{ℕ, ◌/◌, ◌<◌, ◌==◌, Bool, List, [], ◌∷◌, ◌++◌, slice_index}
use Rattle.zbits.specs.Bits.{field_of, weight}
use Rattle.zbits.specs.Words.{words_of}
use Rattle.schib_block.specs.declared.pmcw.Pmcw.{Pmcw}

-- the flag at this bit
abbrev pub flag_of : ℕ → ℕ → Bool
flag_of word bit = field_of word bit bit == 1

-- numbers of three bits, and of two
pub subclass-lt : (word : ℕ) → field_of word 2 4 < 8
subclass-lt word = mod_below (word / weight 4) 8 (lit< tt)

pub limit_mode-lt : (word : ℕ) → field_of word 9 10 < 4
limit_mode-lt word = mod_below (word / weight 10) 4 (lit< tt)

pub measurement_mode-lt : (word : ℕ) → field_of word 11 12 < 4
measurement_mode-lt word = mod_below (word / weight 12) 4 (lit< tt)

-- the four bytes of a word
abbrev pub bytes_of_word : ℕ → List ℕ
bytes_of_word word = field_of word 0 7 ∷ field_of word 8 15 ∷ field_of word 16 23 ∷ field_of word 24 31 ∷ []

abbrev pub pmcw_of_words : List ℕ → Pmcw
pmcw_of_words words =
    record {
      parameter = slice_index words 0;
      subclass = field_of (slice_index words 1) 2 4;
      enabled = flag_of (slice_index words 1) 8;
      limit_mode = field_of (slice_index words 1) 9 10;
      measurement_mode = field_of (slice_index words 1) 11 12;
      multipath = flag_of (slice_index words 1) 13;
      timing = flag_of (slice_index words 1) 14;
      valid = flag_of (slice_index words 1) 15;
      device_number = field_of (slice_index words 1) 16 31;
      logical = field_of (slice_index words 2) 0 7;
      not_operational = field_of (slice_index words 2) 8 15;
      last_used = field_of (slice_index words 2) 16 23;
      installed = field_of (slice_index words 2) 24 31;
      measurement_block = field_of (slice_index words 3) 0 15;
      operational = field_of (slice_index words 3) 16 23;
      available = field_of (slice_index words 3) 24 31;
      chpids = bytes_of_word (slice_index words 4) ++ bytes_of_word (slice_index words 5);
      concurrent_sense = flag_of (slice_index words 6) 31;
      subclass_fits = subclass-lt (slice_index words 1);
      limit_fits = limit_mode-lt (slice_index words 1);
      measurement_fits = measurement_mode-lt (slice_index words 1);
    }

-- the word that stands at the front of an image
abbrev pub pmcw_of_image : List ℕ → Pmcw
pmcw_of_image image = pmcw_of_words (words_of 7 image)
