-- What a writer holds with what is gathered for it.
use Rattle.std.specs.Prelude.{ℕ, Bool, List, take, Option}
use Rattle.std.specs.Io.KnownBytes.{append_known}
use Rattle.streams.specs.Sinks.{Seen}

-- what was passed on, and the first bytes of the room
abbrev pub held : Option (List ℕ) → ℕ → List ℕ → Option (List ℕ)
held passed count room = append_known passed (take count room)

abbrev pub seen_of : Option (List ℕ) → ℕ → List ℕ → Bool → Seen
seen_of passed count room failed = record { bytes = held passed count room; failed = failed }
