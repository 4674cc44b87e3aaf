-- What names one machine: its two ledgers, its glance cells and its subchannels (own).
use Rattle.std.specs.Prelude.{ℕ, List}
use Rattle.atomic_table.specs.Seated.{TableId}
use Rattle.scsw_irb.specs.declared.serials.Serials.{Serials}
use Rattle.glance_directory.specs.Directory.{Directory}

-- the ledger of its entries and the ledger of its turns; the cell of each subchannel; the subchannels
pub record MachineName : Type 0 where
  pub entries : ℕ
  pub turns : ℕ
  pub cells : List TableId
  pub directory : Directory

-- the parts of a machine that isn't made yet: its name, and the counts that its cells show
pub record MachineParts : Type 0 where
  pub name : MachineName
  pub serials : List Serials
