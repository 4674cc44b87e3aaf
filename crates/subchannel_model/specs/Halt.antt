-- HALT SUBCHANNEL (SA22-7832, chapter 14; the effect is this project's own choice). The reply is the code.
use Rattle.std.specs.Prelude.{Bool, true, not, ◌&&◌, ◌||◌, if◌then◌else◌}
use Rattle.scsw_irb.specs.declared.scsw.Scsw.{Scsw}
use Rattle.scsw_irb.specs.declared.scsw.StatusControl.{StatusControl}
use Rattle.chan_model.specs.declared.answer.ConditionCode.{ConditionCode}
use Rattle.chan_model.specs.ConditionCodes.{in_order}
use Rattle.subchannel_model.specs.declared.status.Condition.{Condition}
use Rattle.subchannel_model.specs.declared.state.SubchannelState.{SubchannelState}
use Rattle.subchannel_model.specs.Conditions.{is_operational, found_operational}
use Rattle.subchannel_model.specs.Status.{intermediate_alone, without_status, serials_cleared}

-- condition code: 1 status pending alone, or with alert, primary or secondary status; 2 halt or clear in progress
abbrev pub shows_end : StatusControl → Bool
shows_end s = s.pending && (not s.intermediate || (s.alert || (s.primary || s.secondary)))

abbrev pub hsch_code : Condition → ConditionCode
hsch_code c = in_order (is_operational c) (shows_end c.status) (c.functions.halt || c.functions.clear)

-- effect: the halt function beside what is in progress, and halt pending
abbrev pub halted_scsw : Scsw → Scsw
halted_scsw scsw = record scsw { functions = record scsw.functions { halt = true }; activity = record scsw.activity { halt_pending = true } }

abbrev pub halt_begun : SubchannelState → SubchannelState
halt_begun s = record s { pmcw = found_operational s.pmcw; scsw = halted_scsw s.scsw }

-- intermediate status alone is dropped where the subchannel is active: it counts as cleared
abbrev pub drops_status : Scsw → Bool
drops_status scsw = scsw.status.pending && (intermediate_alone scsw.status && scsw.activity.subchannel_active)

abbrev pub status_dropped : SubchannelState → SubchannelState
status_dropped s = record s { scsw = without_status s.scsw; serials = serials_cleared s.serials }

abbrev pub halted : SubchannelState → SubchannelState
halted s = if drops_status s.scsw then status_dropped (halt_begun s) else halt_begun s
