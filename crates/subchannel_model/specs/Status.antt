-- Status: how it joins what is pending, and how it is counted (SA22-7832, chapter 16).
use Rattle.std.specs.Prelude.{ℕ, ◌+◌, Bool, true, not, ◌&&◌, ◌||◌, nat_lt, if◌then◌else◌, Option, None, Some, unwrap_or, bit_or}
use Rattle.scsw_irb.specs.Empty.{no_status}
use Rattle.scsw_irb.specs.Status as bit
use Rattle.scsw_irb.specs.declared.scsw.FunctionControl.{FunctionControl}
use Rattle.scsw_irb.specs.declared.scsw.StatusControl.{StatusControl}
use Rattle.scsw_irb.specs.declared.scsw.Scsw.{Scsw}
use Rattle.scsw_irb.specs.declared.serials.Serials.{Serials}
use Rattle.scsw_irb.specs.declared.status.DeviceStatus.{DeviceStatus}
use Rattle.scsw_irb.specs.declared.status.SubchannelStatus.{SubchannelStatus}
use Rattle.ccw_walk.specs.declared.check.Check.{Check}
use Rattle.ccw_walk.specs.declared.check.Check.TheVariants.{Program, Protection}
use Rattle.subchannel_model.specs.declared.status.StatusRow.{StatusRow}

abbrev pub no_device_status : DeviceStatus
no_device_status = record { 0 = 0 }

abbrev pub no_subchannel_status : SubchannelStatus
no_subchannel_status = record { 0 = 0 }

-- the subchannel status of a check
abbrev pub check_bits : Option Check → ℕ
check_bits None = 0
check_bits (Some Program) = bit.program_check
check_bits (Some Protection) = bit.protection_check

-- status joins the status that is pending, and begins from nothing where none is
abbrev pub joined_conditions : StatusControl → StatusControl → StatusControl
joined_conditions old new = record {
  alert = old.alert || new.alert;
  intermediate = old.intermediate || new.intermediate;
  primary = old.primary || new.primary;
  secondary = old.secondary || new.secondary;
  pending = true;
}

abbrev pub with_joined : Scsw → StatusControl → DeviceStatus → SubchannelStatus → StatusRow → Scsw
with_joined scsw conditions device subchannel shown = record scsw {
  activity = shown.activity;
  status = joined_conditions conditions shown.conditions;
  device_status = record { 0 = bit_or device.0 shown.device.0 };
  subchannel_status = record { 0 = bit_or subchannel.0 shown.subchannel.0 };
  deferred = unwrap_or shown.deferred scsw.deferred;
  command_address = shown.command_address;
  count = shown.count;
}

abbrev pub scsw_with_status : Scsw → StatusRow → Scsw
scsw_with_status scsw shown =
    if scsw.status.pending
    then with_joined scsw scsw.status scsw.device_status scsw.subchannel_status shown
    else with_joined scsw no_status no_device_status no_subchannel_status shown

-- a subchannel that is not enabled gets no status, but its activity changes as if it did (own)
abbrev pub scsw_made : Bool → Scsw → StatusRow → Scsw
scsw_made enabled scsw shown = if enabled then scsw_with_status scsw shown else record scsw { activity = shown.activity }

-- each status made pending is counted
abbrev pub serials_made : Bool → Serials → Serials
serials_made enabled serials = if enabled then record serials { made = serials.made + 1 } else serials

-- status is pending exactly where some status that was made is not cleared
abbrev pub is_uncleared : Serials → Bool
is_uncleared serials = nat_lt serials.cleared serials.made

-- all that was made is cleared
abbrev pub serials_cleared : Serials → Serials
serials_cleared serials = record serials { cleared = serials.made }

-- primary status is shown once in a program, and not where its clear is in progress
abbrev pub shows_primary : FunctionControl → Bool → Bool
shows_primary functions shown_before = functions.start && (not functions.clear && not shown_before)

abbrev pub conditions : Bool → Bool → Bool → StatusControl
conditions alert primary secondary = record no_status { alert = alert; primary = primary; secondary = secondary }

-- intermediate status alone
abbrev pub intermediate_alone : StatusControl → Bool
intermediate_alone s = s.intermediate && (not s.alert && (not s.primary && not s.secondary))

abbrev pub without_status : Scsw → Scsw
without_status scsw = record scsw { status = no_status }
