-- The data of the command at work, block by block (SA22-7832, chapter 15).
use Rattle.std.specs.Prelude.{ℕ, ◌+◌, ◌%◌, ◌==◌, ◌&&◌, ◌||◌, not, Bool, if◌then◌else◌, List, [], ◌++◌, Option}
use Rattle.orb_block.specs.declared.Orb.{Orb}
use Rattle.ccw_codec.specs.declared.Ccw.{Ccw}
use Rattle.ccw_walk.specs.declared.program.Reading.{Reading}
use Rattle.ccw_walk.specs.declared.program.Reading.TheVariants.{Takes}
use Rattle.ccw_walk.specs.Sequences.{Sequence, Nothing, ◌▸◌}
use Rattle.ccw_walk.specs.Acts.{Act, Block, Word}
use Rattle.ccw_walk.specs.Blocks.{reads}
use Rattle.ccw_walk.specs.Programs.{Command, role_of, commands, code}
use Rattle.idaw.specs.Places.{Reach, reach_with_word, each_below, place_of_byte}

-- read, read backward and sense bring bytes to storage; write, whose low bits are 01, and control, whose are 11, bring none
abbrev pub brings_in : ℕ → Bool
brings_in code = not (code % 4 == 1 || code % 4 == 3)

-- a block that took control in a command of this code, of whose list no word was fetched. Where its SKIP flag is one, a read, a
-- read backward and a sense store nothing (skipping)
abbrev pub reach : ℕ → Ccw → Reach
reach code ccw = record { ccw = ccw; skipped = ccw.skip && brings_in code; words = [] }

-- data that is chained is of the command at work, whose code it has; otherwise a command begins
abbrev pub reaches_with : Bool → Sequence Command → Sequence Reach → Ccw → Sequence Reach
reaches_with chained cs rs ccw = if chained then elim cs [ Nothing ↦ rs | before ▸ command ↦ rs ▸ reach (code command) ccw ] else Nothing ▸ reach ccw.command ccw

abbrev pub reaches_after : Bool → Sequence Command → Sequence Reach → Reading → Sequence Reach
reaches_after chained cs rs (Takes ccw) = reaches_with chained cs rs ccw
reaches_after chained cs rs reading = rs

-- an indirect word is one of the list of the latest block
abbrev pub word_after : Sequence Reach → ℕ → Sequence Reach
word_after areas word = elim areas [ Nothing ↦ Nothing | before ▸ r ↦ before ▸ reach_with_word r word ]

-- the blocks of the command at work that took control, with the words fetched for them, in order
abbrev pub data_areas : Orb → Sequence Act → Sequence Reach
data_areas orb Nothing = Nothing
data_areas orb (before ▸ Block address bytes) =
    reaches_after (role_of orb before).chained (commands orb before) (data_areas orb before) (reads orb (role_of orb before) bytes)
data_areas orb (before ▸ Word word) = word_after (data_areas orb before) word
data_areas orb (before ▸ act) = data_areas orb before

-- the sum of their counts
abbrev pub counts : Sequence Reach → ℕ
counts Nothing = 0
counts (before ▸ r) = counts before + r.ccw.count

-- the places of their bytes, in order
abbrev pub places_of_bytes : ℕ → Sequence Reach → List (Option ℕ)
places_of_bytes b Nothing = []
places_of_bytes b (before ▸ r) = places_of_bytes b before ++ each_below (place_of_byte b r) r.ccw.count
