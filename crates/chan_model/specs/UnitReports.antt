-- What a unit asks of its device, and what it does with the device's answer (own).
use Rattle.std.specs.Prelude.{ℕ, ◌+◌, ◌%◌, Bool, false, not, ◌==◌, ◌&&◌, ◌||◌, nat_lt, nat_le, if◌then◌else◌, Option, None, Some, is_none, option_and_then, List, length}
use Rattle.std.specs.Int.RustNames.{bit_and}
use Rattle.scsw_irb.specs.Status as bit
use Rattle.scsw_irb.specs.Status.{has}
use Rattle.scsw_irb.specs.declared.status.DeviceStatus.{DeviceStatus}
use Rattle.chan_model.specs.declared.names.Side.{Side}
use Rattle.chan_model.specs.declared.names.CommandPath.{CommandPath}
use Rattle.chan_model.specs.declared.signal.OnPath.{OnPath}
use Rattle.chan_model.specs.Signals.{Load}
use Rattle.chan_model.specs.declared.signal.Load.TheVariants as load
use Rattle.chan_model.specs.Signals.{Up}
use Rattle.chan_model.specs.declared.signal.Up.TheVariants as up
use Rattle.chan_model.specs.declared.report.Call.TheVariants as call
use Rattle.chan_model.specs.Reports.{Call}
use Rattle.chan_model.specs.Reports.{DeviceAnswer}
use Rattle.chan_model.specs.declared.report.DeviceAnswer.TheVariants.{Begins, Absorbed, Supplied, Again, Ended}
use Rattle.chan_model.specs.Reports.{Report}
use Rattle.chan_model.specs.declared.report.ReportPath.{ReportPath}
use Rattle.chan_model.specs.declared.report.ReportPath.TheVariants.{Refused, NothingSent, SentOn}
use Rattle.chan_model.specs.Reports.{Work}
use Rattle.chan_model.specs.declared.report.Work.TheVariants as work
use Rattle.chan_model.specs.declared.unit_state.Connection.{Connection}
use Rattle.chan_model.specs.declared.unit_state.Connection.TheVariants.{On}
use Rattle.chan_model.specs.declared.unit_state.Own.{Own}
use Rattle.chan_model.specs.declared.unit_state.Own.TheVariants.{Idle, Owned}
use Rattle.chan_model.specs.declared.unit_state.Progress.{Progress}
use Rattle.chan_model.specs.declared.unit_state.Progress.TheVariants as progress
use Rattle.chan_model.specs.declared.unit_state.CurrentCommand.{CurrentCommand}
use Rattle.chan_model.specs.declared.unit_state.UnitState.{UnitState}
use Rattle.chan_model.specs.Sides.{same_side}
use Rattle.chan_model.specs.UnitTable.{UnitStep, changes, sends}

-- what a device status says (SA22-7832, chapter 16)
abbrev pub has_channel_end : DeviceStatus → Bool
has_channel_end status = has status.0 bit.channel_end

abbrev pub has_device_end : DeviceStatus → Bool
has_device_end status = has status.0 bit.device_end

abbrev pub has_unit_check : DeviceStatus → Bool
has_unit_check status = has status.0 bit.unit_check

-- write and control commands move bytes to the device: their codes are odd
abbrev pub is_outward : ℕ → Bool
is_outward code = code % 2 == 1

-- an End after which no other comes: any but channel end alone
abbrev pub is_last_end : DeviceStatus → Bool
is_last_end status = not (has_channel_end status) || (has_device_end status || has_unit_check status)

-- how many bytes of a read are asked for: the room at hand, at most 256
abbrev pub most_of : CurrentCommand → ℕ
most_of x = if nat_lt 256 x.room then 256 else x.room

-- no more bytes will be moved: the transfer was stopped, or a read has no room
abbrev pub is_over : CurrentCommand → Bool
is_over x = x.stopped || (not (is_outward x.code) && (x.room == 0))

-- no bytes wait at the device, and no Data is unanswered
abbrev pub is_settled : CurrentCommand → Bool
is_settled x = is_none x.unabsorbed && is_none x.unanswered

-- the device is to supply bytes of a read
abbrev pub is_to_supply : CurrentCommand → Bool
is_to_supply x = not (is_outward x.code || is_over x) && is_settled x

-- a call for the command at hand, and a report without a call
abbrev pub calling : UnitState → Side → ℕ → CurrentCommand → Call → Option Work
calling u side t x c = Some (work.Call side t u.last_command x.sequence c)

abbrev pub reporting : UnitState → Side → ℕ → CurrentCommand → DeviceAnswer → Option Work
reporting u side t x answer =
    Some (work.Report (record { side = side; number = t; command = u.last_command; sequence = x.sequence; answer = answer }))

abbrev pub halted_report : UnitState → Side → ℕ → CurrentCommand → Option Work
halted_report u side t x = reporting u side t x (Ended (record { 0 = bit.normal_end }) false)

-- the work on a command that is begun: first what is not answered, then bytes of a write; then the end of its bytes, or
-- more bytes of a read
abbrev pub work_on_transfer : UnitState → Side → ℕ → CurrentCommand → Option Work
work_on_transfer u side t x =
    if is_over x then calling u side t x call.Finish
    else (if is_outward x.code then None else calling u side t x (call.Supply (most_of x)))

abbrev pub work_on_bytes : UnitState → Side → ℕ → CurrentCommand → Option (List ℕ) → Option Work
work_on_bytes u side t x (Some bytes) = calling u side t x (call.Absorb bytes)
work_on_bytes u side t x None = work_on_transfer u side t x

abbrev pub work_on_data : UnitState → Side → ℕ → CurrentCommand → Option Load → Option Work
work_on_data u side t x (Some load) = if x.again then reporting u side t x Again else None
work_on_data u side t x None = work_on_bytes u side t x x.unabsorbed

-- the path by which a command of a side came: the command's own, on whatever path the unit is connected now
abbrev pub came_by : Side → CurrentCommand → CommandPath
came_by side x = record { side = side; path = x.path }

abbrev pub work_at : UnitState → Side → ℕ → CurrentCommand → Progress → Option Work
work_at u side t x progress.New = if u.halted then halted_report u side t x else calling u side t x (call.Initial x.code (came_by side x))
work_at u side t x progress.Working = if u.halted then calling u side t x call.Finish else work_on_data u side t x x.unanswered
work_at u side t x progress.ChannelEnded = calling u side t x call.Finish
work_at u side t x progress.Ended = None

abbrev pub work_of_connection : UnitState → Side → ℕ → Connection → Option CurrentCommand → Option Work
work_of_connection u side t (On p c) (Some x) = work_at u side t x x.progress
work_of_connection u side t connection current = None

abbrev pub work_of_owner : UnitState → Own → Option Work
work_of_owner u Idle = None
work_of_owner u (Owned side t connection) = work_of_connection u side t connection u.current

-- What the unit has to do next while its program is connected: a call of the device, or a report without a call.
abbrev pub unit_work : UnitState → Option Work
unit_work u = work_of_owner u u.own

-- a command may end at once with channel end alone or unit check alone
abbrev pub is_initial : DeviceStatus → Bool
is_initial status = (status.0 == bit.channel_end) || (status.0 == bit.unit_check)

-- when a command may end with this status: at once, or where it is halted before it began with its usual end; after its bytes, a halt
-- or its channel end, with device end
abbrev pub may_end : Bool → CurrentCommand → Progress → DeviceStatus → Bool → Bool
may_end halted x progress.New status more = not more && (is_initial status || (halted && (status.0 == bit.normal_end)))
may_end halted x progress.Working status more = (halted || (is_over x && is_settled x)) && has_device_end status
may_end halted x progress.ChannelEnded status more = has_device_end status
may_end halted x progress.Ended status more = false

-- the Data of the last chunk of a command
abbrev pub data_sent : UnitState → ℕ → ℕ → ℕ → CurrentCommand → Load → Option UnitStep
data_sent u p t c x load = sends (record u { current = Some x }) p (up.Data load t c u.last_command x.sequence)

-- the bytes that a write took, so many, to be answered with the next report
abbrev pub with_absorbed : CurrentCommand → ℕ → CurrentCommand
with_absorbed x count = record x { progress = progress.Working; unabsorbed = None; unanswered = Some (load.Absorbed count) }

-- the device absorbed so many of the bytes that were given, and no more than those
abbrev pub report_absorbed : UnitState → ℕ → ℕ → ℕ → CurrentCommand → Option (List ℕ) → ℕ → Option UnitStep
report_absorbed u p t c x given count =
    option_and_then (λ bytes. if nat_le count (length bytes) then data_sent u p t c (with_absorbed x count) (load.Absorbed count) else None) given

-- a Data that was not answered before a leave is sent again on the connection at hand
abbrev pub sent_again : UnitState → ℕ → ℕ → ℕ → CurrentCommand → Option Load → Option UnitStep
sent_again u p t c x unanswered = option_and_then (λ load. if x.again then data_sent u p t c (record x { again = false }) load else None) unanswered

-- a command is begun: the bytes of a write are asked for
abbrev pub command_begun : UnitState → ℕ → ℕ → ℕ → CurrentCommand → Option UnitStep
command_begun u p t c x =
    if is_outward x.code then data_sent u p t c (with_absorbed x 0) (load.Absorbed 0)
    else changes (record u { current = Some (record x { progress = progress.Working }) })

-- the next chunk of a read: no more bytes than are asked for
abbrev pub with_supplied : CurrentCommand → List ℕ → CurrentCommand
with_supplied x bytes = record x { sequence = x.sequence + 1; unanswered = Some (load.Bytes bytes); asked = most_of x }

abbrev pub report_supplied : UnitState → ℕ → ℕ → ℕ → CurrentCommand → List ℕ → Option UnitStep
report_supplied u p t c x bytes =
    if is_to_supply x && nat_le (length bytes) (most_of x) then data_sent u p t c (with_supplied x bytes) (load.Bytes bytes) else None

-- what an End shows of the status that the device gave: channel end that was sent already is left out of the later status
abbrev pub shown_end : Progress → DeviceStatus → DeviceStatus
shown_end progress.ChannelEnded status = record { 0 = bit_and status.0 bit.all_but_channel_end }
shown_end at status = status

abbrev pub progress_after_end : DeviceStatus → Progress
progress_after_end status = if is_last_end status then progress.Ended else progress.ChannelEnded

abbrev pub end_sent : UnitState → ℕ → ℕ → CurrentCommand → DeviceStatus → Bool → Option UnitStep
end_sent u p t x status more =
    sends (record u { current = Some (record x { progress = progress_after_end status }) }) p (up.End t u.last_command status more)

-- an answer of the device, at each progress of the command at hand
abbrev pub answer_taken : UnitState → ℕ → ℕ → ℕ → CurrentCommand → Progress → DeviceAnswer → Option UnitStep
answer_taken u p t c x at (Ended status more) = if may_end u.halted x at status more then end_sent u p t x (shown_end at status) more else None
answer_taken u p t c x progress.New Begins = command_begun u p t c x
answer_taken u p t c x progress.Working (Absorbed count) = report_absorbed u p t c x x.unabsorbed count
answer_taken u p t c x progress.Working (Supplied bytes) = report_supplied u p t c x bytes
answer_taken u p t c x progress.Working Again = sent_again u p t c x x.unanswered
answer_taken u p t c x at answer = None

abbrev pub report_on : UnitState → ℕ → Connection → Option CurrentCommand → Report → Option UnitStep
report_on u t (On p c) (Some x) r = if r.sequence == x.sequence then answer_taken u p t c x x.progress r.answer else None
report_on u t connection current r = None

abbrev pub report_of : UnitState → Own → Report → Option UnitStep
report_of u Idle r = None
report_of u (Owned k t connection) r =
    if same_side k r.side && ((r.number == t) && (r.command == u.last_command)) then report_on u t connection u.current r else None

-- What the unit does with a report; None where it is stale or against the law of devices.
abbrev pub unit_reports : UnitState → Report → Option UnitStep
unit_reports u r = report_of u u.own r

-- the path that the signal of a report is sent on
abbrev pub path_of_sent : Option (OnPath Up) → ReportPath
path_of_sent None = NothingSent
path_of_sent (Some s) = SentOn s.path

abbrev pub report_path : Option UnitStep → ReportPath
report_path None = Refused
report_path (Some step) = path_of_sent step.sent
