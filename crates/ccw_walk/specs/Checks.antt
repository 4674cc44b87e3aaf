-- The check that a refused access comes to (SA22-7832, chapter 15).
use Rattle.storage_keys.specs.declared.StorageFault.{StorageFault}
use Rattle.storage_keys.specs.declared.StorageFault.TheVariants as storage
use Rattle.ccw_walk.specs.declared.check.Check.{Check}
use Rattle.ccw_walk.specs.declared.check.Check.TheVariants.{Program, Protection}

-- an access that the key refuses is a protection check; any other that fails is a program check
abbrev pub check_of : StorageFault → Check
check_of storage.Addressing = Program
check_of storage.Protection = Protection
check_of storage.Specification = Program
