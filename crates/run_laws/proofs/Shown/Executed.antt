-- What a step in which a CPU executes an instruction answers, and leaves of the subchannel that it names.
use Rattle.std.proofs.Common.{◌≡◌, sym, subst, ℕ, Option, Some, List}
use Rattle.channel_config.specs.declared.names.SubchannelId.{SubchannelId}
use Rattle.channel_config.specs.SubchannelWords.{subchannel_named}
use Rattle.chan_events.specs.declared.event.Event.TheVariants as event
use Rattle.chan_events.specs.declared.event.Instruction.{Instruction}
use Rattle.chan_events.specs.Replies.{Reply}
use Rattle.subchannel_model.specs.Indices.{Found, found_at, index_in}
use Rattle.interruptions.specs.Requests.{WaitingRequests}
use Rattle.machine_model.specs.State.{State}
use Rattle.chan_events.specs.Instructions.{subchannel_word}
use Rattle.machine_model.specs.Steps.{Step}
use Rattle.storage_keys.specs.Storage.{Contents}
use Rattle.subchannel_model.specs.declared.state.Subchannel.{Subchannel}
use Rattle.step_laws.proofs.Executed.{IsDone, done-settled}
use Rattle.step_laws.proofs.Results as turn
use Rattle.step_laws.proofs.Results.{ResultOf, HasResult, step-turn}

pub record IsExecuted (s : State) (i : Instruction) (r : Reply) (new : State) : Type 0 where
  pub id : SubchannelId
  pub named : subchannel_named s.sets (subchannel_word i) ≡ Some id
  pub done : IsDone s i (found_at s.subs (index_in id s.subs)) r new

pub as-executed : (s : State) (i : Instruction) (id : SubchannelId) (q : Option Found) (r : Reply) (storage : Contents) (subs : List Subchannel) (waiting : WaitingRequests) →
    subchannel_named s.sets (subchannel_word i) ≡ Some id → found_at s.subs (index_in id s.subs) ≡ q → IsDone s i q r (record s { storage = storage; subs = subs }) →
    IsExecuted s i r (record s { storage = storage; subs = subs; requests = waiting })
as-executed s i id q r storage subs waiting n e done = record {
  id = id;
  named = n;
  done = subst (λ (x : Option Found). IsDone s i x r (record s { storage = storage; subs = subs; requests = waiting })) (sym e) (done-settled s i q r _ waiting done);
}

turn-executed : (s : State) (cpu : ℕ) (i : Instruction) (r : Reply) (new : State) (waiting : WaitingRequests) → ResultOf s (event.Execute cpu i) r new →
    IsExecuted s i r (record new { requests = waiting })
turn-executed s _ _ _ _ waiting (turn.Executes cpu i id q r storage subs n e blocks left done) = as-executed s i id q r storage subs waiting n e done

pub executed : (s : State) (cpu : ℕ) (i : Instruction) (r : Reply) (new : State) → Step s (event.Execute cpu i) r new → IsExecuted s i r new
executed s cpu i r new step =
    let is : HasResult s (event.Execute cpu i) r new = step-turn s (event.Execute cpu i) r new step in
    subst (IsExecuted s i r) (sym is.settles) (turn-executed s cpu i r is.left _ is.turn)
