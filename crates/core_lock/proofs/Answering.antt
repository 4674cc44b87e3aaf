-- What an instruction leaves of its seat, and in which state it may be refused.
use Rattle.std.proofs.Common.{◌≡◌, Result, Ok, Err, inl, inr}
use Rattle.std.specs.Prelude.{IfErr, MatchResult}
use Rattle.chan_model.specs.declared.fault.Fault.{Fault}
use Rattle.chan_events.specs.Events.{Event}
use Rattle.chan_events.specs.Replies.{Reply}
use Rattle.machine_model.specs.State.{State}
use Rattle.path_select.specs.Choice.{Rule}
use Rattle.core_lock.specs.Seats.{Guarded, GuardedCore, HeldSeat, Seated}
use Rattle.core_lock.specs.Entering.{MayRefuse, entered}
use Rattle.core_lock.specs.Turns.{Executes, IsOfMachine, IsRefusedBy, MayStand}

pub logged_by : (picks : Rule) (core : GuardedCore) (seat : HeldSeat) (e : Event) (result : Result Reply Fault) (left : Guarded) (after : Seated) → Executes picks core seat e result left after
    → MatchResult result (λ reply. after ≡ entered seat.value e reply) (λ f. after ≡ seat.value)
logged_by picks core seat e (Ok r) left after x = x.0.3
logged_by picks core seat e (Err f) left after x = x.2

may : (picks : Rule) (core : GuardedCore) (seat : HeldSeat) (e : Event) (f : Fault) → IsRefusedBy picks core seat e f → MayRefuse core.value.state e f
may picks core seat e f (inl r) = inl r.0
may picks core seat e f (inr r) = inr r.0

pub refused_by : (picks : Rule) (core : GuardedCore) (seat : HeldSeat) (e : Event) (result : Result Reply Fault) (left : Guarded) (after : Seated) → IsOfMachine seat.value core.value → Executes picks core seat e result left after
    → IfErr result (λ f. (s : State) × MayStand seat.value.setup s × MayRefuse s e f)
refused_by picks core seat e (Ok r) left after of x = tt
refused_by picks core seat e (Err f) left after of x = (core.value.state, (core.value.history, of.0, of.1), may picks core seat e f x.0)
