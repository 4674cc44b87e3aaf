-- What a unit learns by a call of its device, and devices whose tables tell it (own).
use Rattle.std.specs.Prelude.{◌≡◌, ◌==◌, false, if◌then◌else◌}
use Rattle.scsw_irb.specs.declared.status.DeviceStatus.{DeviceStatus}
use Rattle.chan_model.specs.Reports.{Call}
use Rattle.chan_model.specs.Reports.{DeviceAnswer}
use Rattle.chan_model.specs.declared.report.DeviceAnswer.TheVariants.{Begins, Ended}
use Rattle.device_law.specs.declared.Finish as device

-- an empty initial status begins the command; any other ends it, or its channel's part
abbrev pub answer_of_initial : DeviceStatus → DeviceAnswer
answer_of_initial status = if status.0 == 0 then Begins else Ended status false

-- the status that ends a command, and whether a read had more bytes
abbrev pub answer_of_finish : device.Finish → DeviceAnswer
answer_of_finish finish = Ended finish.status finish.more

-- of each call, the answer and the device after it are these
abbrev pub IsDeviceAnswer : {D : Type 0} → (D → Call → DeviceAnswer) → (D → Call → D) → D → Call → DeviceAnswer → D → Type 0
IsDeviceAnswer answer_of after old call answer new = (answer ≡ answer_of old call) × (new ≡ after old call)
