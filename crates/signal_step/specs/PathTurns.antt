-- What a worker of a channel path is to do for a subchannel (own).
use Rattle.std.specs.Prelude.{ℕ, Bool, true, false, not, Option, None, Some, is_some, List}
use Rattle.chan_events.specs.Events.{Event}
use Rattle.chan_events.specs.declared.event.Event.TheVariants as event
use Rattle.wires.specs.Queues.{first_of}
use Rattle.subchannel_model.specs.declared.state.Chosen.{Chosen}
use Rattle.subchannel_model.specs.declared.state.Chosen.TheVariants.{Idle, Resets, PerformsClear, Halts, PerformsHalt, FindsNoPath, Offers}
use Rattle.subchannel_model.specs.declared.state.Subchannel.{Subchannel}
use Rattle.subchannel_model.specs.Choosing.{chosen, paths_to_choose}
use Rattle.subchannel_model.specs.Losing.{path_index}
use Rattle.chan_model.specs.PathSets.{cyclic_path}
use Rattle.machine_model.specs.State.{State, sub_of}

-- a signal waits on the wire up of a path
abbrev pub waits_up : Subchannel → ℕ → Bool
waits_up sub path = is_some (first_of sub.wires.up path)

abbrev pub lowest_path : List Bool → Option ℕ
lowest_path paths = cyclic_path paths 8 0

abbrev pub is_idle : Chosen → Bool
is_idle Idle = true
is_idle other = false

-- the subsystem has something to do for the subchannel of itself. Whether it has any depends on whether there is a path to choose,
-- and not on which is chosen: the lowest stands for all
abbrev pub has_to_choose : List Subchannel → Subchannel → Bool
has_to_choose subs sub = not (is_idle (chosen sub (lowest_path (paths_to_choose subs sub))))

-- the signal that waits is taken; else the subsystem does what it has to do of itself
abbrev pub turn_by : Bool → Bool → ℕ → ℕ → Option Event
turn_by true owed word path = Some (event.Up word path)
turn_by false true word path = Some (event.Choose word)
turn_by false false word path = None

abbrev pub turn_on : List Subchannel → Subchannel → ℕ → Option ℕ → Option Event
turn_on subs sub word None = None
turn_on subs sub word (Some path) = turn_by (waits_up sub path) (has_to_choose subs sub) word path

abbrev pub turn_at : List Subchannel → Option Subchannel → ℕ → ℕ → Option Event
turn_at subs None word chpid = None
turn_at subs (Some sub) word chpid = turn_on subs sub word (path_index chpid sub.setup.paths)

-- the event of a turn for the subchannel that a word names, on the channel path of an identifier; none where the subchannel is not
-- provided or doesn't have the path, and where there is nothing to do
abbrev pub path_turn_of : State → ℕ → ℕ → Option Event
path_turn_of s word chpid = turn_at s.subs (sub_of s word) word chpid
