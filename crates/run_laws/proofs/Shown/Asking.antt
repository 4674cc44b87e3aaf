-- The requests for interruptions that each step leaves.
use Rattle.std.proofs.Common.{◌≡◌, refl, sym, ap, subst}
use Rattle.interruptions.specs.Requests as requests
use Rattle.interruptions.specs.Requests.{WaitingRequests}
use Rattle.chan_events.specs.Events.{Event}
use Rattle.chan_events.specs.declared.event.Event.TheVariants as event
use Rattle.chan_events.specs.declared.event.OtherInstruction.TheVariants as other
use Rattle.chan_events.specs.Replies.{Reply}
use Rattle.chan_events.specs.declared.reply.Reply.TheVariants as reply
use Rattle.machine_model.specs.Requests.{posted_all, requests_dropped}
use Rattle.machine_model.specs.State.{State}
use Rattle.machine_model.specs.Steps.{Step}
use Rattle.step_laws.proofs.Results as turn
use Rattle.step_laws.proofs.Results.{ResultOf, HasResult, step-turn}

-- the requests before those of a TEST or CLEAR are dropped, and those of new status posted
abbrev pub asked_by : State → Event → Reply → WaitingRequests
asked_by s (event.ExecuteOther cpu (other.Tpi mask address)) (reply.Interruption found) = requests.after_answer s.requests found
asked_by s event.SystemReset r = requests.no_requests_wait s.requests.numbers
asked_by s e r = s.requests

turn-asked : (s : State) (e : Event) (r : Reply) (new : State) → ResultOf s e r new → new.requests ≡ asked_by s e r
turn-asked s _ _ _ (turn.Puts address bytes storage e) = refl
turn-asked s _ _ _ t = refl

pub step-asked : (s : State) (e : Event) (r : Reply) (new : State) → Step s e r new →
    new.requests ≡ posted_all s.subs new.subs (requests_dropped s e r (asked_by s e r))
step-asked s e r new step =
    let is : HasResult s e r new = step-turn s e r new step in
    subst (λ (x : State). x.requests ≡ posted_all s.subs x.subs (requests_dropped s e r (asked_by s e r))) (sym is.settles)
    (ap (λ (w : WaitingRequests). posted_all s.subs is.left.subs (requests_dropped s e r w)) (turn-asked s e r is.left is.turn))
