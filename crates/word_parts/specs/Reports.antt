-- The names of the parts of a channel-report word (SA22-7832, chapter 17).
use Rattle.std.specs.Prelude.{List, [], ◌∷◌, codes}
use Rattle.word_parts.specs.Parts.{Named, bits, flag}
use Rattle.word_parts.specs.declared.part.Shown.TheVariants.{Always, Recovery, Source}

abbrev pub report : List Named
report =
    flag 0 (codes "reserved bit 0")
    ∷ flag 1 (codes "S solicited")
    ∷ flag 2 (codes "R overflow")
    ∷ flag 3 (codes "C chaining")
    ∷ bits 4 7 Source (codes "RSC")
    ∷ flag 8 (codes "A ancillary report")
    ∷ flag 9 (codes "reserved bit 9")
    ∷ bits 10 15 Recovery (codes "ERC")
    ∷ bits 16 31 (Always 2) (codes "RSID")
    ∷ []
