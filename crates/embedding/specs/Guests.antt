-- What a guest's CPU stores.
use Rattle.std.specs.Prelude.{ℕ, ◌+◌, List, ◌++◌, length, take, drop}

-- bytes of storage with these from an address on
abbrev pub stored : List ℕ → ℕ → List ℕ → List ℕ
stored bytes address items = take address bytes ++ (items ++ drop (address + length items) bytes)
