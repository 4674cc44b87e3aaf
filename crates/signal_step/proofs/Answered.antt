-- Whether a signal that is sent finds its wire full, where that was asked of its path.
use Rattle.std.proofs.Common.{◌≡◌, refl, ◌∙◌, sym, subst, ℕ, Bool, true, false, IfSome, is_some, Option, None, Some, List}
use Rattle.chan_model.specs.Signals.{Down}
use Rattle.chan_model.specs.declared.signal.OnPath.{OnPath}
use Rattle.chan_model.specs.Signals.{Up}
use Rattle.subchannel_model.specs.Sending.{carried}
use Rattle.signal_step.specs.Giving.{TellsFull}
use Rattle.chan_model.specs.declared.hold_state.HoldPhase.{HoldPhase}
use Rattle.active_program.specs.Sent.{sent_path}
use Rattle.subchannel.specs.Answering.{IsAnswerPath}

pub tells_some : (available : List Bool) (queues : List (List Down)) (sends : Option (OnPath Down)) (p : ℕ) (full : Bool) → sent_path sends ≡ Some p →
    ((s : OnPath Down) → s.path ≡ p → TellsFull queues (carried available (Some s)) full) → TellsFull queues (carried available sends) full
tells_some available queues None p full e f = absurd (cc e)
tells_some available queues (Some s) p full e f = f s (cc e)

-- where no wire is full by which an answer may go, it finds none full
pub tells_none : (available : List Bool) (queues : List (List Down)) (sends : Option (OnPath Down)) (phase : HoldPhase) (p : ℕ) → IsAnswerPath phase p (sent_path sends) →
    ((s : OnPath Down) → IsAnswerPath phase p (Some s.path) → TellsFull queues (carried available (Some s)) false) → TellsFull queues (carried available sends) false
tells_none available queues None phase p goes f = (refl, tt)
tells_none available queues (Some s) phase p goes f = f s goes

-- where a path has room, so has an answer that goes by it, if there is one
pub tells_room : (available : List Bool) (queues : List (List Up)) (sends : Option (OnPath Up)) (p : ℕ) (full : Bool) → full ≡ false → IfSome sends (λ s. s.path ≡ p) →
    ((s : OnPath Up) → s.path ≡ p → TellsFull queues (carried available (Some s)) full) → TellsFull queues (carried available sends) full
tells_room available queues None p full e by f = (e, tt)
tells_room available queues (Some s) p full e by f = f s by

-- where nothing is sent, no wire is full for it
pub tells_nothing : (available : List Bool) (queues : List (List Down)) (sends : Option (OnPath Down)) → sent_path sends ≡ None → TellsFull queues (carried available sends) false
tells_nothing available queues None e = (refl, tt)
tells_nothing available queues (Some s) e = absurd (cc e)

-- where a path is full, an answer that goes by it finds it full, if there is one
pub tells_answered : (available : List Bool) (queues : List (List Up)) (sends : Option (OnPath Up)) (p : ℕ) (full answers : Bool) → full ≡ true → answers ≡ is_some sends → IfSome sends (λ s. s.path ≡ p) →
    ((s : OnPath Up) → s.path ≡ p → TellsFull queues (carried available (Some s)) full) → TellsFull queues (carried available sends) answers
tells_answered available queues None p full answers e is by f = (is, tt)
tells_answered available queues (Some s) p full answers e is by f = subst (λ (b : Bool). TellsFull queues (carried available (Some s)) b) (e ∙ sym is) (f s by)
