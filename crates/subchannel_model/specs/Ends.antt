-- What an End of a command shows, and whether the next command is chained to (SA22-7832, chapter 16; the bits are this
-- project's own choice).
use Rattle.std.specs.Prelude.{ℕ, Bool, true, false, not, ◌==◌, ◌&&◌, ◌||◌, if◌then◌else◌, Option, None, Some, is_some, bit_or}
use Rattle.scsw_irb.specs.declared.scsw.DeferredCode.TheVariants as deferred
use Rattle.scsw_irb.specs.declared.scsw.Scsw.{Scsw}
use Rattle.scsw_irb.specs.declared.status.DeviceStatus.{DeviceStatus}
use Rattle.scsw_irb.specs.declared.status.SubchannelStatus.{SubchannelStatus}
use Rattle.scsw_irb.specs.Empty.{no_activity}
use Rattle.subchannel_model.specs.declared.status.StatusRow.{StatusRow}
use Rattle.subchannel_model.specs.Status.{check_bits, conditions, shows_primary}
use Rattle.scsw_irb.specs.Status as bit
use Rattle.scsw_irb.specs.Status.{has}
use Rattle.chan_model.specs.UnitReports.{has_channel_end, has_device_end, has_unit_check, is_last_end}
use Rattle.data_move.specs.Moving.{residual, is_incorrect}
use Rattle.subchannel_model.specs.declared.state.ActiveProgram.{ActiveProgram}
use Rattle.subchannel_model.specs.declared.state.Program.{Program}
use Rattle.subchannel_model.specs.declared.state.SubchannelState.{SubchannelState}

-- more bits of a device status (SA22-7832, chapter 16)
abbrev pub has_status_modifier : DeviceStatus → Bool
has_status_modifier status = has status.0 bit.status_modifier

abbrev pub has_unit_exception : DeviceStatus → Bool
has_unit_exception status = has status.0 bit.unit_exception

abbrev pub is_control_unit_end_alone : DeviceStatus → Bool
is_control_unit_end_alone status = status.0 == bit.control_unit_end

-- an incorrect length is shown at the first End of a command, where bytes are left on one side; not with unit check alone
-- (own), nor where a halt is specified (own), nor where SLI is one and CD zero; for a command that ended at once only in
-- format 1 where L is zero
abbrev pub is_unit_check_alone : DeviceStatus → Bool
is_unit_check_alone status = has_unit_check status && (not (has_channel_end status) && not (has_device_end status))

abbrev pub is_channel_end_alone : DeviceStatus → Bool
is_channel_end_alone status = has_channel_end status && not (has_device_end status)

abbrev pub shows_immediate : ActiveProgram → DeviceStatus → Bool
shows_immediate b status = not (is_channel_end_alone status) || (b.program.orb.format_one && not b.program.orb.suppress_length)

abbrev pub suppresses_length : ActiveProgram → Bool
suppresses_length b = b.transfer.moving.ccw.suppress_length && not b.transfer.moving.ccw.chain_data

abbrev pub shows_length : Scsw → ActiveProgram → DeviceStatus → Bool → Bool
shows_length scsw b status more =
    not b.transfer.ended
    && (is_incorrect b.transfer.moving more
    && (not (is_unit_check_alone status)
    && (not scsw.functions.halt
    && (not (suppresses_length b) && shows_immediate b status))))

-- what breaks a chain of commands: nothing is chained then, nor at a later End of the command
abbrev pub breaks_chain : Scsw → ActiveProgram → DeviceStatus → Bool → Bool
breaks_chain scsw b status more =
    has_unit_check status || (has_unit_exception status || (shows_length scsw b status more || (is_some b.transfer.fault || scsw.functions.halt)))

-- the next command is chained to where CC alone is one, and nothing breaks the chain
abbrev pub chains_command : Scsw → ActiveProgram → DeviceStatus → Bool → Bool
chains_command scsw b status more =
    b.transfer.moving.ccw.chain_command
    && (not b.transfer.moving.ccw.chain_data && (not b.transfer.unchained && not (breaks_chain scsw b status more)))

-- alert status: unit check, or a check that was kept
abbrev pub is_alert : ActiveProgram → DeviceStatus → Bool
is_alert b status = has_unit_check status || is_some b.transfer.fault

-- the subchannel status of an End: an incorrect length, and the check that was kept
abbrev pub length_bits : Bool → ℕ
length_bits shows = if shows then bit.incorrect_length else 0

abbrev pub end_bits : Scsw → ActiveProgram → DeviceStatus → Bool → SubchannelStatus
end_bits scsw b status more = record { 0 = bit_or (length_bits (shows_length scsw b status more)) (check_bits b.transfer.fault) }

-- an End of the program at work, the last one or channel end alone: with that it is primary status, and the device works on
abbrev pub work_shown : Scsw → ActiveProgram → DeviceStatus → Bool → Bool → StatusRow
work_shown scsw b status more last = record {
  conditions = conditions (is_alert b status) (shows_primary scsw.functions b.primary_shown) last;
  activity = record no_activity { device_active = not last };
  device = status;
  subchannel = end_bits scsw b status more;
  deferred = None;
  command_address = b.transfer.walk.tried;
  count = residual b.transfer.moving;
}

-- channel end alone, and the last End of a program
abbrev pub channel_end_shown : Scsw → ActiveProgram → DeviceStatus → Bool → StatusRow
channel_end_shown scsw b status more = work_shown scsw b status more false

abbrev pub last_end_shown : Scsw → ActiveProgram → DeviceStatus → Bool → StatusRow
last_end_shown scsw b status more = work_shown scsw b status more true

-- the last End of an earlier program while a start waits brings deferred condition code 1, and the start is over (own)
abbrev pub earlier_end_shown : Scsw → ActiveProgram → DeviceStatus → Bool → StatusRow
earlier_end_shown scsw b status more = record (last_end_shown scsw b status more) {
  conditions = conditions true false false;
  deferred = Some deferred.One;
  command_address = scsw.command_address;
  count = scsw.count;
}

abbrev pub last_shown : Scsw → ActiveProgram → Option Program → DeviceStatus → Bool → StatusRow
last_shown scsw b None status more = last_end_shown scsw b status more
last_shown scsw b (Some waiting) status more = earlier_end_shown scsw b status more

-- an End of a program where a start may wait: channel end alone, or the last End of the program
abbrev pub end_shown : SubchannelState → ActiveProgram → DeviceStatus → Bool → StatusRow
end_shown s b status more =
    if is_last_end status then last_shown s.scsw b s.waiting status more else channel_end_shown s.scsw b status more

-- a program whose command showed channel end alone has shown its primary status, and chains nothing to that command
abbrev pub has_shown : ActiveProgram → ActiveProgram
has_shown b = record b { primary_shown = true; transfer = record b.transfer { ended = true; unchained = true } }
