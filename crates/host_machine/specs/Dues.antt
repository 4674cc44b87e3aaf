-- What is due in a turn of a unit or of a subchannel (own).
use Rattle.chan_events.specs.Events.{Event}

-- an event is to be entered, a device is to be called, or nothing; or there is no such unit or subchannel
pub data Due : Type 0 where
  Enters_event : Event → Due
  Calls_device : Due
  Nothing_due : Due
  Is_unknown : Due
