-- A device that rejects every command, and what each call of it answers and leaves (own).
use Rattle.std.specs.Prelude.{ℕ, false, []}
use Rattle.chan_model.specs.Reports.{Call}
use Rattle.chan_model.specs.declared.report.Call.TheVariants as call
use Rattle.chan_model.specs.Reports.{DeviceAnswer}
use Rattle.chan_model.specs.declared.report.DeviceAnswer.TheVariants as answer
use Rattle.device_models.specs.Shapes.{InitialStatus, EndingStatus, answer_of_begun, answer_of_ended}

-- all that it keeps is the sense byte, which no command reads
pub record Rejects : Type 0 where
  pub sense : ℕ

abbrev pub opening : Rejects
opening = record { sense = 0 }

-- any code: unit check, and the sense byte says command reject
abbrev pub begun : InitialStatus Rejects
begun = record { status = 0x02; state = record { sense = 0x80 } }

-- a command that was halted before it began
abbrev pub ended : Rejects → EndingStatus Rejects
ended device = record { status = 0x0C; more = false; state = device }

-- Each call of it: its answer, and the device after it.
abbrev pub answer_of : Rejects → Call → DeviceAnswer
answer_of device (call.Initial code came_by) = answer_of_begun begun
answer_of device (call.Absorb bytes) = answer.Absorbed 0
answer_of device (call.Supply most) = answer.Supplied []
answer_of device call.Finish = answer_of_ended (ended device)

abbrev pub after : Rejects → Call → Rejects
after device (call.Initial code came_by) = begun.state
after device (call.Absorb bytes) = device
after device (call.Supply most) = device
after device call.Finish = device
