-- What is claimed of the program that a subchannel offered last (SA22-7832, chapter 15).
use Rattle.std.specs.Prelude.{◌≡◌, ◌⊎◌, ◌||◌, ℕ, ◌==◌, Bool, true, false, Option, None, Some, List, ◌++◌, length, take, drop, slice_get, if◌then◌else◌, All, Contains}
use Rattle.std.specs.List.{flat_map}
use Rattle.orb_block.specs.declared.Orb.{Orb}
use Rattle.ccw_walk.specs.declared.program.Reading.{Reading}
use Rattle.ccw_walk.specs.declared.program.Reading.TheVariants.{Suspends, Shows}
use Rattle.ccw_walk.specs.Sequences.{Sequence, Nothing, ◌▸◌, count, each, in_order}
use Rattle.ccw_walk.specs.Acts.{Act, Block, Unfetched, Word, PlacedBytes}
use Rattle.ccw_walk.specs.Blocks.{reads}
use Rattle.ccw_walk.specs.Programs.{IsProgram, role_of, next, commands, code}
use Rattle.idaw.specs.Lists.{kind_of, block}
use Rattle.data_move.specs.Accesses.{bytes_at}
use Rattle.run_laws.specs.DataAreas.{data_areas, places_of_bytes}
use Rattle.run_laws.specs.Traces.{Arrival, CommandTrace, ProgramTrace}

abbrev pub IsBeginning : {A : Type 0} → List A → List A → Type 0
IsBeginning {A} xs ys = (rest : List A) × (xs ++ rest ≡ ys)

-- the places of the command at work, in the order of its bytes
abbrev pub places_of : Orb → Sequence Act → List (Option ℕ)
places_of orb acts = places_of_bytes (block (kind_of orb)) (data_areas orb acts)

-- each byte that was stored stands at its place, and no other byte was changed
pub record IsStored (a : Arrival) : Type 0 where
  pub whole : length a.chunk.places ≡ length a.chunk.bytes
  pub stands : (i place : ℕ) → slice_get a.chunk.places i ≡ Some (Some place) → slice_get a.chunk.storage place ≡ slice_get a.chunk.bytes i
  pub others : (place : ℕ) → Contains a.chunk.places (Some place) ⊎ (slice_get a.chunk.storage place ≡ slice_get a.former place)

-- the places at which bytes of a read were stored, in order
abbrev pub places_arrived : List Arrival → List (Option ℕ)
places_arrived arrived = flat_map (λ a. a.chunk.places) arrived

-- the first bytes of a chunk
abbrev pub first_bytes : PlacedBytes → ℕ → PlacedBytes
first_bytes c n = record { storage = c.storage; places = take n c.places; bytes = take n c.bytes }

abbrev pub IsFirstOf : List PlacedBytes → PlacedBytes → Type 0
IsFirstOf copied c = (whole : PlacedBytes) × (n : ℕ) × Contains copied whole × (c ≡ first_bytes whole n)

-- a chunk has the bytes at its places, as storage stood when it was copied
abbrev pub IsCopied : PlacedBytes → Type 0
IsCopied c = c.bytes ≡ bytes_at c.storage c.places

-- what the device absorbed for a command are the first bytes of chunks that were copied for it, and these lie side by side
-- from the first place of the command on
abbrev pub AbsorbsInOrder : Orb → CommandTrace → List ℕ → Type 0
AbsorbsInOrder orb part absorbed =
    (chunks : List PlacedBytes) × All (IsFirstOf part.copied) chunks × (flat_map (λ c. c.bytes) chunks ≡ absorbed)
    × IsBeginning (flat_map (λ c. c.places) chunks) (places_of orb part.acts)

-- the command that the device took last: the last that was sent, or the one before
abbrev pub part_of : ProgramTrace → CommandTrace
part_of k = if count k.taken == k.sent then k.now else k.before

-- the program was suspended by its last block, before this took control
abbrev pub IsSuspended : Orb → Sequence Act → Type 0
IsSuspended orb (before ▸ Block address bytes) = reads orb (role_of orb before) bytes ≡ Suspends
IsSuspended orb acts = ⊥

-- a block that could not be fetched, or that shows a check
abbrev pub shows_check : Reading → Bool
shows_check Shows = true
shows_check reading = false

abbrev pub has_check : Orb → Sequence Act → Bool
has_check orb Nothing = false
has_check orb (before ▸ Block address bytes) = shows_check (reads orb (role_of orb before) bytes) || has_check orb before
has_check orb (before ▸ Unfetched address check) = true
has_check orb (before ▸ act) = has_check orb before

-- it ends the program: no block and no indirect word is fetched after it
abbrev pub EndsAtCheck : Orb → Sequence Act → Type 0
EndsAtCheck orb Nothing = Unit {0}
EndsAtCheck orb (before ▸ Block address bytes) = (has_check orb before ≡ false) × EndsAtCheck orb before
EndsAtCheck orb (before ▸ Unfetched address check) = (has_check orb before ≡ false) × EndsAtCheck orb before
EndsAtCheck orb (before ▸ Word word) = (has_check orb before ≡ false) × EndsAtCheck orb before
EndsAtCheck orb (before ▸ act) = EndsAtCheck orb before

-- each block that is next was fetched, but of a program that did not begin, or that was suspended before the block took control
abbrev pub IsWhole : Orb → Sequence Act → Type 0
IsWhole orb acts = (acts ≡ Nothing) ⊎ ((next orb acts ≡ None) ⊎ IsSuspended orb acts)

-- the codes of its commands in order, without those that were sent earlier, before it was suspended
abbrev pub codes_after : ℕ → Orb → Sequence Act → List ℕ
codes_after earlier orb acts = drop earlier (in_order (each code (commands orb acts)))

-- the commands that the device took under this number are consecutive commands of the program, each once, from the first on,
-- or from the first after those that were sent earlier
abbrev pub TakesInOrder : ProgramTrace → Type 0
TakesInOrder k = IsBeginning (in_order k.taken) (codes_after k.earlier k.orb k.now.acts)

pub record TraceCorrect (k : ProgramTrace) : Type 0 where
  -- each block is where the blocks before it say
  pub program : IsProgram k.orb k.now.acts
  -- none was fetched after a check
  pub ends : EndsAtCheck k.orb k.now.acts
  -- and each that is next was
  pub whole : IsWhole k.orb k.now.acts
  -- the device took its commands in order
  pub takes : TakesInOrder k
  -- the bytes that were moved are those at the first places of the command
  pub moves : IsBeginning k.now.moved (places_of k.orb k.now.acts)
  -- what was copied for it is what storage held
  pub copied : All IsCopied (part_of k).copied
  pub absorbs : AbsorbsInOrder k.orb (part_of k) k.absorbed
  pub arrived : All IsStored k.now.arrived
  pub arrives : IsBeginning (places_arrived k.now.arrived) (places_of k.orb k.now.acts)
