-- What a handle owns: the box that its pointer leads to, or nothing.
use Rattle.std.specs.Prelude.{Option, None, Some}
use base.Fml.{Fml, ftrue}
use base.Stored.{Coded}
use denote.RattleType.{RattleType}
use denote.RawPtr.{Ptr}
use Rattle.std.specs.Coded.{coded_option}
use Rattle.std.specs.Box.Ownership.{box_owns}
use Rattle.std.specs.Global.{Global}
use Rattle.std_heap.specs.contracts.GlobalAllocator.TheImpl.{ghosts}
use Rattle.host_machine.specs.contracts.host_machine.HostMachine.{the_row}

-- The heap frees a block whichever of its handles asks, so one stands for all.
abbrev pub heap : Global
heap = record { memory = record { seal = tt } }

-- what a contract sees of the machine
abbrev pub Machine : Type 0
Machine = the_row.Denot

-- a value on the heap, and the right to free its block
abbrev pub heap_owns : (R : RattleType) → Ptr → R.Denot → Fml
heap_owns = box_owns (ghosts.dealloc_token heap)

abbrev pub held_owns : Ptr → Option Machine → Fml
held_owns at None = ftrue
held_owns at (Some machine) = heap_owns the_row at machine

abbrev pub held_coded : Coded (Option Machine)
held_coded = coded_option the_row.coded
