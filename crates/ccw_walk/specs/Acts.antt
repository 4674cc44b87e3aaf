-- What is done for one start, act by act (SA22-7832, chapter 15).
use Rattle.std.specs.Prelude.{ℕ, List, Option}
use Rattle.ccw_walk.specs.declared.check.Check.{Check}
use Rattle.ccw_walk.specs.declared.program.Ended.{Ended}

-- bytes that were moved: storage as it stood, the place of each byte, and the bytes. A byte that is
-- skipped has no place
pub record PlacedBytes : Type 0 where
  pub storage : List ℕ
  pub places : List (Option ℕ)
  pub bytes : List ℕ

pub data Act : Type 0 where
  -- a block was fetched, or could not be
  Block : (address : ℕ) → (bytes : List ℕ) → Act
  Unfetched : (address : ℕ) → (check : Check) → Act
  -- the count of the block that took control last is used up
  Used_up : Act
  -- the command ended
  End : (ended : Ended) → Act
  -- an indirect word was fetched
  Word : (word : ℕ) → Act
