-- The wires between a subchannel and its unit (own): for each of its eight paths the signals that wait, one queue each
-- way. Signals arrive in the order in which they were sent.
use Rattle.std.specs.Prelude.{ℕ, Option, List, [], ◌∷◌, ◌++◌, drop, replicate, slice_get, slice_index_or, slice_set}
use Rattle.chan_model.specs.Signals.{Down}
use Rattle.chan_model.specs.Signals.{Up}

-- for each path the signals that wait, the oldest first
pub record Queues : Type 0 where
  pub down : List (List Down)
  pub up : List (List Up)

-- no signal waits
abbrev pub no_queues : Queues
no_queues = record { down = replicate 8 []; up = replicate 8 [] }

-- the queue of a path
abbrev pub queue : {A : Type 0} → List (List A) → ℕ → List A
queue queues path = slice_index_or queues path []

-- the signal that waits longest on a path, where one waits
abbrev pub first_of : {A : Type 0} → List (List A) → ℕ → Option A
first_of queues path = slice_get (queue queues path) 0

-- the queues after a signal was sent on a path
abbrev pub sent : {A : Type 0} → List (List A) → ℕ → A → List (List A)
sent queues path signal = slice_set queues path (queue queues path ++ signal ∷ [])

-- the queues after the signal that waited longest on a path was taken
abbrev pub taken : {A : Type 0} → List (List A) → ℕ → List (List A)
taken queues path = slice_set queues path (drop 1 (queue queues path))

-- the queues after all signals on a path were lost
abbrev pub lost : {A : Type 0} → List (List A) → ℕ → List (List A)
lost queues path = slice_set queues path []
