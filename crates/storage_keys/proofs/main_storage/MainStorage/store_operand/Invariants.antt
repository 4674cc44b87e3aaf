use Rattle.std.proofs.Common.{◌≡◌, ◌+◌, ◌-◌, ◌≤◌, length, take}
use Rattle.storage_keys.specs.Storage.{operand_stored}
use Rattle.storage_keys.proofs.main_storage.MainStorage.store_operand.Given as goal

abbrev pub invariant-loop-done : goal.invariant-loop-done
invariant-loop-done g l = record {
  within : l.done ≤ length l.bytes;
  here : l.real ≡ l.fn.address + l.done;
  stored : g.Self.MainStorage.contents l.self ≡ operand_stored (g.Self.MainStorage.contents l.fn.self) l.cpu l.fn.address (take l.done l.bytes);
  lender : g.Self.MainStorage.lender l.self ≡ g.Self.MainStorage.lender l.fn.self;
}

abbrev pub decreases-loop-done : goal.decreases-loop-done
decreases-loop-done g l = length l.bytes - l.done
