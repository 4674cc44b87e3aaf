-- The condition codes of the instructions on a subchannel, by the status word (SA22-7832, chapter 14): 3, otherwise 1, otherwise 2, otherwise 0.
use Rattle.std.specs.Prelude.{◌&&◌, ◌||◌, not, Bool, true, false, if◌then◌else◌}
use Rattle.chan_events.specs.declared.event.Instruction.{Instruction}
use Rattle.chan_events.specs.declared.event.Instruction.TheVariants as instruction
use Rattle.chan_model.specs.declared.answer.ConditionCode.{ConditionCode}
use Rattle.chan_model.specs.declared.answer.ConditionCode.TheVariants.{Zero, One, Two, Three}
use Rattle.scsw_irb.specs.declared.scsw.ActivityControl.{ActivityControl}
use Rattle.scsw_irb.specs.declared.scsw.FunctionControl.{FunctionControl}
use Rattle.scsw_irb.specs.declared.scsw.Scsw.{Scsw}
use Rattle.scsw_irb.specs.declared.scsw.StatusControl.{StatusControl}

-- 3: all but STORE and MODIFY SUBCHANNEL (enabling is a MODIFY) want the subchannel enabled
abbrev pub wants_enabled : Instruction → Bool
wants_enabled (instruction.Stsch word address) = false
wants_enabled (instruction.Msch word address) = false
wants_enabled (instruction.Enable word subclass multipath) = false
wants_enabled i = true

-- 1: status is pending; for TEST it is not; for HALT it is, but for intermediate status alone; for STORE and CLEAR never
abbrev pub is_halt_late : StatusControl → Bool
is_halt_late s = s.pending && (not s.intermediate || (s.alert || (s.primary || s.secondary)))

abbrev pub finds_status : Instruction → StatusControl → Bool
finds_status (instruction.Tsch word address) s = not s.pending
finds_status (instruction.Stsch word address) s = false
finds_status (instruction.Csch word) s = false
finds_status (instruction.Hsch word) s = is_halt_late s
finds_status i s = s.pending

-- 2: for START and MODIFY a function is in progress; for HALT the halt or clear function; for RESUME another than the start function, or
-- a resume waits, or the program may not be suspended; for CANCEL another than the start function, or nothing waits, or the subchannel
-- is active
abbrev pub is_start_alone : FunctionControl → Bool
is_start_alone f = f.start && (not f.halt && not f.clear)

abbrev pub has_any : FunctionControl → Bool
has_any f = f.start || (f.halt || f.clear)

abbrev pub has_waiting : ActivityControl → Bool
has_waiting a = a.start_pending || (a.resume_pending || a.suspended)

abbrev pub is_busy : Instruction → Scsw → Bool
is_busy (instruction.Ssch word address) w = has_any w.functions
is_busy (instruction.Msch word address) w = has_any w.functions
is_busy (instruction.Enable word subclass multipath) w = has_any w.functions
is_busy (instruction.Hsch word) w = w.functions.halt || w.functions.clear
is_busy (instruction.Rsch word) w = not (is_start_alone w.functions) || (w.activity.resume_pending || not w.suspend)
is_busy (instruction.Xsch word) w = not (is_start_alone w.functions) || (not (has_waiting w.activity) || w.activity.subchannel_active)
is_busy i w = false

abbrev pub code_due : Instruction → Bool → Scsw → ConditionCode
code_due i enabled w =
    if wants_enabled i && not enabled then Three else (if finds_status i w.status then One else (if is_busy i w then Two else Zero))
