-- What every device keeps to, and what its unit may so report (own).
use Rattle.std.specs.Prelude.{◌≡◌, ◌≤◌, ◌⊎◌, false, IsTrue, length}
use Rattle.scsw_irb.specs.declared.status.DeviceStatus.{DeviceStatus}
use Rattle.chan_model.specs.UnitReports.{has_device_end, is_initial}
use Rattle.chan_model.specs.Reports.{Call}
use Rattle.chan_model.specs.declared.report.Call.TheVariants.{Initial, Absorb, Supply, Finish}
use Rattle.chan_model.specs.Reports.{DeviceAnswer}
use Rattle.chan_model.specs.declared.report.DeviceAnswer.TheVariants.{Begins, Absorbed, Supplied, Again, Ended}

-- an initial status is empty, channel end alone or unit check alone (SA22-7832, chapter 16)
abbrev pub IsInitial : DeviceStatus → Type 0
IsInitial status = (status.0 ≡ 0) ⊎ IsTrue (is_initial status)

-- a status that ends a command has device end
abbrev pub IsFinal : DeviceStatus → Type 0
IsFinal status = IsTrue (has_device_end status)

-- the answers that a call may bring, and no others: never a Data that is sent again, which needs no call
abbrev pub IsAnswer : Call → DeviceAnswer → Type 0
IsAnswer (Initial code came_by) Begins = Unit {0}
IsAnswer (Initial code came_by) (Ended status more) = IsTrue (is_initial status) × (more ≡ false)
IsAnswer (Absorb bytes) (Absorbed count) = count ≤ length bytes
IsAnswer (Supply most) (Supplied bytes) = length bytes ≤ most
IsAnswer Finish (Ended status more) = IsFinal status
IsAnswer call answer = ⊥
