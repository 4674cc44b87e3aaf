-- What is due for a subchannel on a path stands for the event of its turn.
use Rattle.std.proofs.Common.{◌≡◌, ℕ, ◌∙◌, List, refl, ap, sym}
use Rattle.std.specs.Prelude.{Bool, true, false, Option, Some, None}
use Rattle.chan_events.specs.Events.{Event}
use Rattle.machine_model.specs.State.{State, sub_of}
use Rattle.signal_step.specs.PathTurns.{has_to_choose, path_turn_of, turn_at, turn_by, turn_on, waits_up}
use Rattle.subchannel_model.specs.Losing.{path_index}
use Rattle.subchannel_model.specs.declared.state.Subchannel.{Subchannel}
use Rattle.host_machine.specs.Works.{event_due, path_due_of}
use Rattle.host_machine.specs.declared.turns.PathDue.{PathDue}

stands_by : (waits owed : Bool) (word path : ℕ) → event_due word (path_due_of (turn_by waits owed word path)) ≡ turn_by waits owed word path
stands_by true owed word path = refl
stands_by false true word path = refl
stands_by false false word path = refl

stands_on : (subs : List Subchannel) (sub : Subchannel) (word : ℕ) (path : Option ℕ) → event_due word (path_due_of (turn_on subs sub word path)) ≡ turn_on subs sub word path
stands_on subs sub word None = refl
stands_on subs sub word (Some path) = stands_by (waits_up sub path) (has_to_choose subs sub) word path

stands_at : (subs : List Subchannel) (sub : Option Subchannel) (word chpid : ℕ) → event_due word (path_due_of (turn_at subs sub word chpid)) ≡ turn_at subs sub word chpid
stands_at subs None word chpid = refl
stands_at subs (Some sub) word chpid = stands_on subs sub word (path_index chpid sub.setup.paths)

pub stands : (s : State) (word chpid : ℕ) (turn : Option Event) (due : PathDue) → turn ≡ path_turn_of s word chpid → due ≡ path_due_of turn
    → event_due word due ≡ path_turn_of s word chpid
stands s word chpid turn due is told = ap (event_due word) (told ∙ ap path_due_of is) ∙ stands_at s.subs (sub_of s word) word chpid
