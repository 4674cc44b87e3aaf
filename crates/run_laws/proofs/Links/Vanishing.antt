-- Signals that are sent, and signals that vanish: what holds of each that waits holds of those that are left.
use Rattle.std.proofs.Common.{ℕ, zero, suc, Bool, true, false, Option, None, Some, List, [], ◌∷◌, ◌++◌, refl}
use Rattle.std.specs.Prelude.{IfOk}
use Rattle.std.proofs.lemmas.List.Elements.{All-nil, All-pop}
use Rattle.chan_model.specs.PathSets.{is_member}
use Rattle.chan_model.specs.Signals.{Down}
use Rattle.chan_model.specs.declared.signal.OnPath.{OnPath}
use Rattle.chan_events.specs.Replies.{Reply}
use Rattle.wires.specs.Queues.{lost, sent}
use Rattle.subchannel_model.specs.declared.state.Subchannel.{Subchannel}
use Rattle.subchannel_model.specs.declared.state.SubchannelState.{SubchannelState}
use Rattle.subchannel_model.specs.Sending.{carried, carried_by, finds_full, with_any_sent, carried_where}
use Rattle.machine_model.specs.Results.{SubResult, leaves}
use Rattle.machine_model.specs.ChooseSteps.{send_sub}
use Rattle.run_laws.proofs.Commands.UnitOrders.{AreOn, queue-set}
use Rattle.run_laws.proofs.Units.UnitActs.{if-ok}

-- no signal is on a queue that was not on it before
abbrev pub Fewer : {A : Type 0} → List (List A) → List (List A) → Type 1
Fewer {A} old new = (P : A → Type 0) → AreOn P old → AreOn P new

unsent : {A : Type 0} (P : A → Type 0) (queues : List (List A)) (k : ℕ) (x : A) → AreOn P (sent queues k x) → AreOn P queues
unsent P [] k x a p = a p
unsent P (ys ∷ queues) zero x a zero = (All-pop P (ys ++ x ∷ []) ys (Some x) refl (a zero)).0
unsent P (ys ∷ queues) zero x a (suc p) = a (suc p)
unsent P (ys ∷ queues) (suc k) x a zero = a zero
unsent P (ys ∷ queues) (suc k) x a (suc p) = unsent P queues k x (λ n. a (suc n)) p

-- a signal that is sent on a path that is down
carried-where : {A : Type 0} (P : A → Type 0) (queues : List (List A)) (available : Bool) (s : OnPath A) → AreOn P (sent queues s.path s.signal) →
    AreOn P (with_any_sent queues (carried_where available s))
carried-where P queues true s a = a
carried-where P queues false s a = unsent P queues s.path s.signal a

pub carried-fewer : {A : Type 0} (queues : List (List A)) (available : List Bool) (one : Option (OnPath A)) →
    Fewer (with_any_sent queues one) (with_any_sent queues (carried available one))
carried-fewer queues available None P a = a
carried-fewer queues available (Some s) P a = carried-where P queues (is_member available s.path) s a

-- the signals of a path that is lost
pub lost-fewer : {A : Type 0} (queues : List (List A)) (path : ℕ) → Fewer queues (lost queues path)
lost-fewer queues path P a = queue-set P queues path [] a (All-nil P)

-- what holds of the turn in which the subsystem sends a signal, unless its wire is full
pub send-ok : (P : SubResult → Type 0) (sub : Subchannel) (state : SubchannelState) (path : ℕ) (signal : Down) (r : Reply) →
    P (leaves r (record sub {
      state = state;
      wires = record sub.wires { down = with_any_sent sub.wires.down (carried_by sub (Some (record { path = path; signal = signal }))) };
    })) →
    IfOk (send_sub sub state path signal r) P
send-ok P sub state path signal r p = if-ok P (finds_full sub.wires.down (carried_by sub (Some (record { path = path; signal = signal })))) _ _ tt p
