-- A device of any kind that a unit may have, and what each call of it answers and leaves (own).
use Rattle.chan_model.specs.Reports.{Call}
use Rattle.chan_model.specs.Reports.{DeviceAnswer}
use Rattle.channel_config.specs.declared.parts.UnitKind.{UnitKind}
use Rattle.channel_config.specs.declared.parts.UnitKind.TheVariants as kind
use Rattle.device_models.specs.declared.any_device.AnyDevice.{AnyDevice}
use Rattle.device_models.specs.declared.any_device.AnyDevice.TheVariants.{Block, Console, Rejecting}
use Rattle.device_models.specs.Blocks as blocks
use Rattle.device_models.specs.Lines as lines
use Rattle.device_models.specs.Rejects as rejects

-- the device of a unit of each kind, at its opening
abbrev pub device_of : UnitKind → AnyDevice
device_of kind.Block = Block blocks.opening
device_of kind.Console = Console lines.opening
device_of kind.Rejecting = Rejecting rejects.opening

-- a device at its opening keeps its kind
abbrev pub device_opening : AnyDevice → AnyDevice
device_opening (Block store) = Block blocks.opening
device_opening (Console console) = Console lines.opening
device_opening (Rejecting device) = Rejecting rejects.opening

-- Each call is handed on.
abbrev pub answer_of : AnyDevice → Call → DeviceAnswer
answer_of (Block store) call = blocks.answer_of store call
answer_of (Console console) call = lines.answer_of console call
answer_of (Rejecting device) call = rejects.answer_of device call

abbrev pub after : AnyDevice → Call → AnyDevice
after (Block store) call = Block (blocks.after store call)
after (Console console) call = Console (lines.after console call)
after (Rejecting device) call = Rejecting (rejects.after device call)
