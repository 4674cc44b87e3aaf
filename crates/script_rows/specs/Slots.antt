-- Actions whose bytes stand elsewhere, and what stands in a slot for one.
use Rattle.std.specs.Prelude.{ℕ, Bool, true, false, List, Option, Some, None, Result, Ok, Err}
use Rattle.chan_events.specs.Events.{event_in, event_length}
use Rattle.script_rows.specs.declared.Action.{Action}
use Rattle.script_rows.specs.declared.Action.TheVariants as action
use Rattle.script_rows.specs.declared.slots.ActionSlot.{ActionSlot}
use Rattle.script_rows.specs.declared.slots.KeptAction.{KeptAction}
use Rattle.script_rows.specs.declared.slots.KeptAction.TheVariants as kept_action
use Rattle.script_rows.specs.declared.words.LineRule.{LineRule}

-- the action with the first of these bytes
abbrev pub action_in : KeptAction → List ℕ → Action
action_in (kept_action.Event event) bytes = action.Event (event_in event bytes)
action_in (kept_action.Dev unit) bytes = action.Dev unit
action_in (kept_action.Glance subchannel) bytes = action.Glance subchannel

-- how many bytes it has
abbrev pub action_length : KeptAction → ℕ
action_length (kept_action.Event event) = event_length event
action_length kept = 0

-- the action that stands in a slot
abbrev pub action_at : ActionSlot → Action
action_at slot = action_in slot.kept slot.bytes

-- what rows say, whose action stands in a slot where one of them has the first word
abbrev pub rows_at : Result Bool LineRule → Action → Option (Result Action LineRule)
rows_at (Ok true) asked = Some (Ok asked)
rows_at (Ok false) asked = None
rows_at (Err rule) asked = Some (Err rule)
