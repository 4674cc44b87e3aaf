-- Status words by their fields (own).
use Rattle.std.specs.Prelude.{◌≡◌}
use Rattle.scsw_irb.specs.declared.scsw.ActivityControl.{ActivityControl}
use Rattle.scsw_irb.specs.declared.scsw.Scsw.{Scsw}

-- the functions that are pending
pub record IsPendingSame (a b : ActivityControl) : Type 0 where
  pub resume_pending : a.resume_pending ≡ b.resume_pending
  pub start_pending : a.start_pending ≡ b.start_pending
  pub halt_pending : a.halt_pending ≡ b.halt_pending
  pub clear_pending : a.clear_pending ≡ b.clear_pending

-- the modes of a program that a status word shows
pub record AreModesSame (a b : Scsw) : Type 0 where
  pub suspend : a.suspend ≡ b.suspend
  pub deferred : a.deferred ≡ b.deferred
  pub format_one : a.format_one ≡ b.format_one
  pub prefetch : a.prefetch ≡ b.prefetch
  pub initial_status : a.initial_status ≡ b.initial_status
  pub address_limit : a.address_limit ≡ b.address_limit
  pub suppress_suspended : a.suppress_suspended ≡ b.suppress_suspended
  pub path_not_operational : a.path_not_operational ≡ b.path_not_operational

-- what else it shows, its key apart
pub record IsRestSame (a b : Scsw) : Type 0 where
  pub functions : a.functions ≡ b.functions
  pub activity : a.activity ≡ b.activity
  pub status : a.status ≡ b.status
  pub command_address : a.command_address ≡ b.command_address
  pub device_status : a.device_status ≡ b.device_status
  pub subchannel_status : a.subchannel_status ≡ b.subchannel_status
  pub count : a.count ≡ b.count
