use Rattle.std.proofs.Common.{◌≡◌, ◌+◌, ◌-◌, ◌≤◌, length, map, take}
use Rattle.std.specs.Prelude.{slice_index}
use Rattle.storage_keys.specs.Storage.{absolute_addresses}
use Rattle.storage_keys.proofs.operands.read_operand.Given as goal

abbrev pub invariant-loop-done : goal.invariant-loop-done
invariant-loop-done g l = record {
  within : l.done ≤ length l.bytes;
  here : l.real ≡ l.fn.address + l.done;
  read : take l.done l.bytes ≡ map (slice_index (g.M.MainStorage.contents l.storage).bytes) (absolute_addresses (g.M.MainStorage.contents l.storage) l.cpu l.fn.address l.done);
}

abbrev pub decreases-loop-done : goal.decreases-loop-done
decreases-loop-done g l = length l.initial.bytes - l.done
