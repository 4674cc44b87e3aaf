-- How many signals wait on the wires of a subchannel (own).
use Rattle.std.specs.Prelude.{ℕ, List, [], ◌∷◌, length}
use Rattle.wires.specs.Queues.{Queues, queue}
use Rattle.host_sight.specs.declared.waiting.HostWires.{HostWires}

abbrev pub count_on : {A : Type 0} → List (List A) → ℕ → ℕ
count_on queues path = length (queue queues path)

-- on each of the eight paths
abbrev pub counts : {A : Type 0} → List (List A) → List ℕ
counts queues =
    count_on queues 0 ∷ count_on queues 1 ∷ count_on queues 2 ∷ count_on queues 3 ∷ count_on queues 4 ∷ count_on queues 5 ∷ count_on queues 6 ∷
    count_on queues 7 ∷ []

abbrev pub wires_told : Queues → HostWires
wires_told wires = record { down = counts wires.down; up = counts wires.up }
