-- The steps in which a channel path goes down, comes up or is reset, and in which the channel subsystem is reset (SA22-7832, chapter
-- 17; what each does to a subchannel is this project's own choice).
use Rattle.std.specs.Prelude.{ℕ, Bool, true, false, if◌then◌else◌, map, slice_set, Err}
use Rattle.chan_model.specs.declared.fault.Fault.TheVariants as fault
use Rattle.channel_config.specs.Choices.{back_report}
use Rattle.channel_config.specs.Setup.{has_number}
use Rattle.scsw_irb.specs.declared.crw.PathReport.TheVariants as report
use Rattle.channel_reports.specs.Queue as reports
use Rattle.interruptions.specs.Requests as requests
use Rattle.subchannel_model.specs.declared.state.Subchannel.{Subchannel}
use Rattle.subchannel_model.specs.Losing.{loses, shows_path, goes_down}
use Rattle.subchannel_model.specs.SystemReset.{reset_by_system}
use Rattle.machine_model.specs.declared.state.Sweep.{Sweep}
use Rattle.machine_model.specs.declared.state.Sweep.TheVariants as sweep
use Rattle.machine_model.specs.State.{State}
use Rattle.machine_model.specs.Results.{Outcome}

-- what befalls each subchannel, in the order of their configuration (own)
abbrev pub swept : Sweep → Subchannel → Subchannel
swept (sweep.GoesDown chpid) sub = goes_down chpid sub
swept (sweep.ComesUp chpid) sub = shows_path chpid true sub
swept (sweep.PathReset chpid) sub = loses chpid sub
swept sweep.SystemReset sub = reset_by_system sub

abbrev pub with_swept : State → Sweep → State
with_swept s what = record s { subs = map (swept what) s.subs }

-- a path that is not configured is refused first, then one that is not so as the event wants it
abbrev pub where_path : State → ℕ → Bool → Outcome → Outcome
where_path s chpid right turn = if has_number s.chpids chpid then (if right then turn else Err fault.NotNow) else Err fault.NoSuchPath

-- a path that is up goes down: that it is lost is reported, and its reset is no longer asked for
abbrev pub down_path : State → ℕ → State
down_path s chpid =
    let lost = reports.with_report (reports.with_asked s.reports chpid false) report.Lost chpid in
    record (with_swept s (sweep.GoesDown chpid)) { up = slice_set s.up chpid false; reports = lost }

-- a path that is down comes up: that it is back is reported as the set-up says
abbrev pub up_path : State → ℕ → State
up_path s chpid =
    record (with_swept s (sweep.ComesUp chpid)) { up = slice_set s.up chpid true; reports = reports.with_report s.reports (back_report s.path_return) chpid }

-- a path whose reset is asked for is reset
abbrev pub reset_path : State → ℕ → State
reset_path s chpid =
    let done = reports.with_report (reports.with_asked s.reports chpid false) report.ResetDone chpid in
    record (with_swept s (sweep.PathReset chpid)) { reports = done }

-- the channel subsystem is reset: no request and no report waits, and no reset of a path is asked for; storage, units, what
-- control units keep of them, and the states of paths stay
abbrev pub reset_system : State → State
reset_system s =
    record (with_swept s sweep.SystemReset) { requests = requests.no_requests_wait s.requests.numbers; reports = reports.no_reports_wait }
