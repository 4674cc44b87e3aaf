-- What an instruction takes from its operand: the boundary and addressing come before the contents (SA22-7832, chapter 14).
use Rattle.std.specs.Prelude.{◌≡◌, ℕ, List, Result, Ok, Err}
use Rattle.zbits.specs.Layout.{image_of}
use Rattle.orb_block.specs.declared.Orb.{Orb}
use Rattle.orb_block.specs.OrbTable.{tables, IsAllowedOrb}
use Rattle.schib_block.specs.declared.pmcw.Pmcw.{Pmcw}
use Rattle.schib_block.specs.Modify as modify
use Rattle.schib_block.specs.SchibTable.{ShowsPmcw}
use Rattle.storage_keys.specs.declared.StorageFault.{StorageFault}
use Rattle.chan_model.specs.declared.fault.Fault.{Fault}
use Rattle.chan_model.specs.declared.fault.Fault.TheVariants as fault

-- what storage answered: its fault is the refusal of the instruction
abbrev pub from_storage : {A : Type 0} → Result A StorageFault → Result A Fault
from_storage (Ok x) = Ok x
from_storage (Err f) = Err (fault.Storage f)

-- the ORB that an operand has, or why it has none
abbrev pub HasOrb : Result (List ℕ) StorageFault → Result Orb Fault → Type 0
HasOrb (Err f) r = r ≡ Err (fault.Storage f)
HasOrb (Ok image) (Ok orb) = image ≡ image_of (tables orb)
HasOrb (Ok image) (Err f) = ¬ IsAllowedOrb image × (f ≡ fault.Operand)

-- the path-management-control word of the SCHIB that an operand is, or why MODIFY takes none of it
abbrev pub HasWord : Result (List ℕ) StorageFault → Result Pmcw Fault → Type 0
HasWord (Err f) r = r ≡ Err (fault.Storage f)
HasWord (Ok image) (Ok given) = ShowsPmcw image given × modify.IsAllowedPmcw given
HasWord (Ok image) (Err f) = (given : Pmcw) × ShowsPmcw image given × ¬ modify.IsAllowedPmcw given × (f ≡ fault.Operand)
