-- Why a hold is to be reset after a step, and how a reset ends.
use Rattle.std.proofs.Common.{◌≡◌, sym, ◌∙◌, subst, ℕ, ◌+◌, inl, inr}
use Rattle.std.specs.Prelude.{◌⊎◌}
use Rattle.chan_model.specs.declared.hold_state.HoldPhase.TheVariants as hold
use Rattle.chan_events.specs.Events.{Event}
use Rattle.chan_events.specs.Replies.{Reply}
use Rattle.subchannel_model.specs.declared.state.SubchannelState.{SubchannelState}
use Rattle.machine_model.specs.State.{State}
use Rattle.step_laws.specs.Walks.{Walked}
use Rattle.run_laws.specs.Resets.{IsResetCause, IsCleared, ResetsByCause, StaysReset}
use Rattle.run_laws.proofs.Machine.Following.{Change, Keeps, Resets, Ends, step-follows}

same-number : (m n : ℕ) → hold.Reset m ≡ hold.Reset n → m ≡ n
same-number m n e = cc e

reset-reason : (C : Type 0) (D : ℕ → Type 0) (s x : SubchannelState) (n : ℕ) → Change C D s x → x.hold.phase ≡ hold.Reset n →
    (s.hold.phase ≡ hold.Reset n) ⊎ ((n ≡ s.drawn + 1) × C)
reset-reason C D s x n (Keeps k) e = inl (k.was n e)
reset-reason C D s x n (Resets c k) e = inr (same-number n (s.drawn + 1) (sym e ∙ k), c)
reset-reason C D s x n (Ends m d k free) e = absurd (cc (sym free ∙ e))

reset-goes : (C : Type 0) (D : ℕ → Type 0) (s x : SubchannelState) (n : ℕ) → Change C D s x → s.hold.phase ≡ hold.Reset n →
    (x.hold.phase ≡ hold.Reset n) ⊎ ((x.hold.phase ≡ hold.Reset (s.drawn + 1)) × C) ⊎ ((x.hold.phase ≡ hold.Free) × D n)
reset-goes C D s x n (Keeps k) e = inl (k.still n e)
reset-goes C D s x n (Resets c k) e = inr (inl (k, c))
reset-goes C D s x n (Ends m d k free) e = inr (inr (free, subst D (same-number m n (sym k ∙ e)) d))

pub resets-by-cause : (s : State) (e : Event) (r : Reply) (new : State) → Walked s e r new → ResetsByCause s e r new
resets-by-cause s e r new w index n sub after there left =
    reset-reason (IsResetCause s e r index sub) (IsCleared s e r index) sub.state after.state n
    (step-follows s e r new w index sub after there left).change

pub stays-reset : (s : State) (e : Event) (r : Reply) (new : State) → Walked s e r new → StaysReset s e r new
stays-reset s e r new w index n sub after there left =
    reset-goes (IsResetCause s e r index sub) (IsCleared s e r index) sub.state after.state n
    (step-follows s e r new w index sub after there left).change
