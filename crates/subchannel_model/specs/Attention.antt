-- Attn: the device shows unsolicited status (SA22-7832, chapter 16, alert status; the signal is this project's own).
use Rattle.std.specs.Prelude.{Bool, not, ◌&&◌, ◌||◌, if◌then◌else◌, Option}
use Rattle.scsw_irb.specs.declared.scsw.ActivityControl.{ActivityControl}
use Rattle.scsw_irb.specs.declared.status.DeviceStatus.{DeviceStatus}
use Rattle.chan_model.specs.HoldTable.{HoldStep, hold_after, outcome_of}
use Rattle.subchannel_model.specs.declared.state.SubchannelState.{SubchannelState}
use Rattle.subchannel_model.specs.declared.state.UpStep.{UpStep}
use Rattle.subchannel_model.specs.declared.cause.StatusCause.TheVariants as cause
use Rattle.subchannel_model.specs.Causes.{with_cause}
use Rattle.subchannel_model.specs.Ends.{is_control_unit_end_alone}

-- activity control shows more than a start that waits
abbrev pub is_active_or_pending : ActivityControl → Bool
is_active_or_pending a = a.resume_pending || (a.halt_pending || (a.clear_pending || (a.subchannel_active || (a.device_active || a.suspended))))

-- the subchannel is idle, or a start waits
abbrev pub is_idle_or_start_pending : ActivityControl → Bool
is_idle_or_start_pending a = not (is_active_or_pending a)

-- the signal may be taken where no status is pending and no more than a start waits
abbrev pub may_take_attention : SubchannelState → Bool
may_take_attention s = not s.scsw.status.pending && is_idle_or_start_pending s.scsw.activity

abbrev pub with_attention : SubchannelState → Bool → SubchannelState
with_attention s shows = if shows then with_cause s cause.Attention else s

-- one that is taken makes status, but for control-unit end alone
abbrev pub takes_attention : SubchannelState → DeviceStatus → Option HoldStep → UpStep
takes_attention s status step =
    let next = record s { hold = hold_after s.hold step } in
    record { state = with_attention next ((outcome_of step).taken && not (is_control_unit_end_alone status)); outcome = outcome_of step }
