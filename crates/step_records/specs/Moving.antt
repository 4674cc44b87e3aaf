-- What becomes of a signal.
use Rattle.std.specs.Prelude.{Bool, true, false}
use Rattle.step_records.specs.declared.record.Moved.{Moved}
use Rattle.step_records.specs.declared.record.Moved.TheVariants.{Sent, Taken, Ignored, Vanished}

-- a signal that was met is taken where a state changed or a signal was sent
abbrev pub met_as : Bool → Moved
met_as true = Taken
met_as false = Ignored

-- a signal that is sent on a path that is down vanishes
abbrev pub sent_as : Bool → Moved
sent_as true = Sent
sent_as false = Vanished
