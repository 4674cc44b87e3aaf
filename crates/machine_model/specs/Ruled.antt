-- Steps whose path is the one that a rule of choice gives.
use Rattle.std.specs.Prelude.{◌≡◌, ℕ, Option, None, Some, Result, Ok, Err}
use Rattle.chan_events.specs.Events.{Event}
use Rattle.chan_events.specs.declared.event.Event.TheVariants as event
use Rattle.chan_model.specs.declared.fault.Fault.{Fault}
use Rattle.chan_model.specs.declared.fault.Fault.TheVariants as fault
use Rattle.chan_events.specs.Replies.{Reply}
use Rattle.path_select.specs.Choice.{Rule, IsChoice}
use Rattle.subchannel_model.specs.Choosing.{chosen, marked_sub, paths_to_choose}
use Rattle.machine_model.specs.State.{State, found_of}
use Rattle.subchannel_model.specs.Indices.{Found}
use Rattle.machine_model.specs.Results.{Outcome, does, at_sub}
use Rattle.machine_model.specs.ChooseSteps.{choose_sub}
use Rattle.machine_model.specs.Requests.{settled}

-- the path of an offer, a Reset or a Halt is one that the rule allows, by the paths to choose from and the path of the last
-- offer, Reset or Grant
abbrev pub RulesAt : Rule → State → Option Found → Outcome → Type 0
RulesAt picks s None r = r ≡ Err fault.NoSuchSubchannel
RulesAt picks s (Some f) r =
    (choice : Option ℕ) × IsChoice (paths_to_choose s.subs f.sub) choice
    × picks (paths_to_choose s.subs f.sub) f.sub.state.last_path choice
    × (r ≡ at_sub s f.index (choose_sub (marked_sub f.sub choice) (chosen f.sub choice)))

-- what a call answered and left goes by the rule; of the events, Choose alone takes a path of its own choice
abbrev pub GoesByRule : Rule → State → Event → Result Reply Fault → State → Type 0
GoesByRule picks old (event.Choose word) r new =
    (t : Outcome) × RulesAt picks old (found_of old word) t × (elim r [ Ok reply ↦ does reply new | Err f ↦ Err f ] ≡ settled old (event.Choose word) t)
GoesByRule picks old other r new = Unit {0}
