-- The faults that refusals are of.
use Rattle.chan_model.specs.declared.fault.Fault.{Fault}
use Rattle.chan_model.specs.declared.fault.Fault.TheVariants as fault
use Rattle.storage_keys.specs.declared.StorageFault.TheVariants as storage
use Rattle.step_records.specs.declared.refusal.Refusal.{Refusal}
use Rattle.step_records.specs.declared.refusal.Refusal.TheVariants as refusal
use Rattle.step_records.specs.declared.refusal.StorageRefusal.{StorageRefusal}
use Rattle.step_records.specs.declared.refusal.StorageRefusal.TheVariants as refused

abbrev pub storage_fault : StorageRefusal → Fault
storage_fault refused.Addressing = fault.Storage storage.Addressing
storage_fault refused.Protection = fault.Storage storage.Protection
storage_fault (refused.Specification boundary) = fault.Storage storage.Specification

-- the fault that a line is refused by for this reason
abbrev pub fault_of : Refusal → Fault
fault_of (refusal.Bare alone) = alone
fault_of refusal.NoMemory = fault.NoMemory
fault_of refusal.WireFull = fault.WireFull
fault_of (refusal.NothingWaits wire elsewhere) = fault.NotSent
fault_of (refusal.NoSubchannel word) = fault.NoSuchSubchannel
fault_of (refusal.NoPath subchannel paths) = fault.NoSuchPath
fault_of (refusal.NoChannelPath chpid) = fault.NoSuchPath
fault_of (refusal.NoUnit number) = fault.NoSuchUnit
fault_of (refusal.Path chpid why) = fault.NotNow
fault_of (refusal.Unit number why) = fault.NotNow
fault_of (refusal.Storage address why) = storage_fault why
fault_of (refusal.Operand why) = fault.Operand
