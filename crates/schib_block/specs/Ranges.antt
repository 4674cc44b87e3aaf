-- The numbers of a block are those of their types.
use Rattle.std.specs.Prelude.{ℕ, ◌<◌, ◌^◌}
use Rattle.scsw_irb.specs.Ranges.{IsScswInRange}
use Rattle.schib_block.specs.declared.pmcw.Pmcw.{Pmcw}
use Rattle.schib_block.specs.declared.schib.Schib.{Schib}
use Rattle.schib_block.specs.SchibTable.{chpid_of}

pub record IsPmcwInRange (pmcw : Pmcw) : Type 0 where
  pub parameter : pmcw.parameter < 2 ^ 32
  pub device_number : pmcw.device_number < 2 ^ 16
  pub logical : pmcw.logical < 256
  pub not_operational : pmcw.not_operational < 256
  pub last_used : pmcw.last_used < 256
  pub installed : pmcw.installed < 256
  pub measurement_block : pmcw.measurement_block < 2 ^ 16
  pub operational : pmcw.operational < 256
  pub available : pmcw.available < 256
  pub chpids : (path : ℕ) → chpid_of pmcw path < 256

pub record IsSchibInRange (schib : Schib) : Type 0 where
  pub pmcw : IsPmcwInRange schib.pmcw
  pub scsw : IsScswInRange schib.scsw
