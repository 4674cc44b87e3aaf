-- What a step at the subsystem says where it is accepted.
use Rattle.std.proofs.Common.{◌≡◌, Result, Ok, sym, subst, ◌∙◌}
use Rattle.chan_model.specs.declared.fault.Fault.{Fault}
use Rattle.chan_events.specs.Events.{Event}
use Rattle.event_log.specs.Logs.{last_reply}
use Rattle.machine_model.specs.State.{Past}
use Rattle.path_select.specs.Choice.{Rule}
use Rattle.subsystem.specs.Keeping.{IsStep, answer_of}

pub accepted : (picks : Rule) (old new : Past) (e : Event) (outcome counted : Result (Unit {0}) Fault) (done : Unit {0}) → IsStep picks old e (answer_of outcome new.history) new → counted ≡ outcome → counted ≡ Ok done
    → IsStep picks old e (Ok (last_reply new.history)) new
accepted picks old new e outcome counted done step same is =
    subst (λ (r : Result (Unit {0}) Fault). IsStep picks old e (answer_of r new.history) new) (sym same ∙ is) step
