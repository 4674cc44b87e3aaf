-- What a sink holds, and whether it failed.
use Rattle.std.specs.Prelude.{◌≡◌, ◌<◌, ℕ, Bool, true, false, List, length, take, Option}
use Rattle.std.specs.Io.KnownBytes.{Appends}

-- the bytes, where they are known
pub record Seen : Type 0 where
  pub bytes : Option (List ℕ)
  pub failed : Bool

-- the whole of a text went in
pub record TakesText (old : Seen) (text : List ℕ) (new : Seen) : Type 0 where
  pub bytes : Appends old.bytes new.bytes text
  pub failed : new.failed ≡ old.failed

-- the sink failed within a text, of which it took a beginning, but not the whole
pub record FailsIn (old : Seen) (text : List ℕ) (new : Seen) : Type 0 where
  pub taken : ℕ
  pub fewer : taken < length text
  pub bytes : Appends old.bytes new.bytes (take taken text)
  pub failed : new.failed ≡ true

abbrev pub Puts : Seen → List ℕ → Seen → Bool → Type 0
Puts old text new true = TakesText old text new
Puts old text new false = FailsIn old text new
