-- How a list of events is answered, one after another.
use Rattle.std.specs.Prelude.{◌≡◌, ◌<◌, ◌⊎◌, ℕ, Bool, true, Result, Ok, Err, List, [], ◌∷◌, ◌++◌, length, take}
use Rattle.chan_events.specs.Events.{Event}
use Rattle.chan_model.specs.declared.fault.Fault.{Fault}
use Rattle.chan_events.specs.declared.reply.Entry.{Entry}
use Rattle.chan_events.specs.Replies.{Reply}
use Rattle.path_select.specs.Choice.{Rule}
use Rattle.machine_model.specs.Ruled.{GoesByRule}
use Rattle.machine_model.specs.State.{State, Past, IsSpent}
use Rattle.machine_model.specs.Steps.{Performs}

-- the events that were accepted, with their replies
abbrev pub accepted_entries : List Event → List (Result Reply Fault) → List Entry
accepted_entries (e ∷ events) (Ok r ∷ answers) = record { event = e; reply = r } ∷ accepted_entries events answers
accepted_entries (e ∷ events) (Err f ∷ answers) = accepted_entries events answers
accepted_entries events answers = []

-- each event in order came to its answer: a step with its reply, by a path that the rule gives, or a refusal that changed
-- nothing
abbrev pub Answered : Rule → State → List Event → List (Result Reply Fault) → State → Type 0
Answered picks old [] [] new = new ≡ old
Answered picks old (e ∷ events) (a ∷ answers) new =
    (middle : State) × Performs old e a middle × GoesByRule picks old e a middle × Answered picks middle events answers new
Answered picks old events answers new = ⊥

-- so many events were answered, and the history grew by those that were accepted
pub record HasAnswered (picks : Rule) (old : Past) (events : List Event) (answers : List (Result Reply Fault)) (new : Past) : Type 0 where
  pub answered : Answered picks old.state events answers new.state
  pub history : new.history ≡ old.history ++ accepted_entries events answers

-- the first of the events were, but not all: none where a growth was refused before them, else up to the first for which there
-- was neither room nor a number
pub record HasBegun (picks : Rule) (refused : Bool) (old : Past) (events : List Event) (new : Past) : Type 0 where
  pub done : ℕ
  pub answers : List (Result Reply Fault)
  pub fewer : done < length events
  pub why : ((done ≡ 0) × (refused ≡ true)) ⊎ IsSpent new
  pub answered : HasAnswered picks old (take done events) answers new
