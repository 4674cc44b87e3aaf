-- What waits at a subchannel whose hold is to be reset, and what the reset is of its hold.
use Rattle.std.proofs.Common.{◌≡◌, refl, sym, ◌∙◌, ℕ, ◌≤◌, ◌&&◌, Bool, true, false, Option, None, Some, arith, inl, inr}
use Rattle.std.specs.Prelude.{if◌then◌else◌}
use Rattle.chan_model.specs.declared.hold_state.HoldPhase.{HoldPhase}
use Rattle.chan_model.specs.declared.hold_state.HoldPhase.TheVariants as hold
use Rattle.agreement_laws.specs.Moving.{reset_again}
use Rattle.subchannel_model.specs.declared.state.ActiveProgram.{ActiveProgram}
use Rattle.subchannel_model.specs.declared.state.Program.{Program}
use Rattle.subchannel_model.specs.declared.state.ProgramPosition.{ProgramPosition}
use Rattle.subchannel_model.specs.declared.state.SubchannelState.{SubchannelState}
use Rattle.subchannel_model.specs.Losing.{is_offered_or_held, reset_drawn, reset_with, reset_for}
use Rattle.subchannel_model.specs.Programs.{has_any}
use Rattle.subchannel_model.specs.Notice.{with_known}
use Rattle.subchannel_model.specs.Outcomes.{signal_taken, signal_ignored}
use Rattle.run_laws.proofs.Machine.Waits.{WaitsAs, IsBegunHeld, Waits, Turned, moved-as}

-- what waits: a program that was offered or held the device is over
still-spent : (A : Type 0) (B : ℕ → Type 0) (s x : SubchannelState) (phase : HoldPhase) (program : Program) → s.hold.phase ≡ phase → ((t p : ℕ) → phase ≡ hold.Offer t p → ⊥) →
    x.starts ≡ s.starts → WaitsAs A B s (Some program) → WaitsAs A B x (Some program)
still-spent A B s x phase program e n a k =
    record {
      start = k.start ∙ sym a;
      spent = elim k.spent [
        | inl g ↦ inl g
        | inr g ↦ absurd (n g.number g.path (sym e ∙ g.phase))
      ];
    }

waits-reset : (A : Type 0) (B : ℕ → Type 0) (s x : SubchannelState) (phase : HoldPhase) (w : Option Program) (b : Option ActiveProgram) (d : Option ProgramPosition) → s.hold.phase ≡ phase →
    (is_offered_or_held phase && has_any w b d) ≡ false → x.starts ≡ s.starts → WaitsAs A B s w → WaitsAs A B x w
waits-reset A B s x phase None b d e f a k = tt
waits-reset A B s x hold.Free (Some program) b d e f a k = still-spent A B s x hold.Free program e (λ t p g. absurd (cc g)) a k
waits-reset A B s x (hold.Letting t p) (Some program) b d e f a k = still-spent A B s x (hold.Letting t p) program e (λ t p g. absurd (cc g)) a k
waits-reset A B s x (hold.Reset r) (Some program) b d e f a k = still-spent A B s x (hold.Reset r) program e (λ t p g. absurd (cc g)) a k
waits-reset A B s x phase (Some program) b d e f a k = absurd (cc f)

begun-reset : (phase next : HoldPhase) (w : Option Program) (b : Option ActiveProgram) (d : Option ProgramPosition) → (is_offered_or_held phase && has_any w b d) ≡ false → IsBegunHeld b phase →
    IsBegunHeld b next
begun-reset phase next w None d f h = tt
begun-reset (hold.On t p c) next None (Some b) d f h = absurd (cc f)
begun-reset (hold.On t p c) next (Some w) (Some b) d f h = absurd (cc f)
begun-reset (hold.Away t) next None (Some b) d f h = absurd (cc f)
begun-reset (hold.Away t) next (Some w) (Some b) d f h = absurd (cc f)
begun-reset phase next w (Some b) d f h = absurd (cc h)

pub reset-waits : (A : Type 0) (B : ℕ → Type 0) (s : SubchannelState) (shows : Bool) → (is_offered_or_held s.hold.phase && has_any s.waiting s.begun s.suspended) ≡ shows → Waits A B s →
    Waits A B (reset_with s shows)
reset-waits A B s true e k = record { waiting = tt; begun = tt }
reset-waits A B s false e k =
    record {
      waiting = waits-reset A B s (reset_drawn s) s.hold.phase s.waiting s.begun s.suspended refl e refl k.waiting;
      begun = begun-reset s.hold.phase _ s.waiting s.begun s.suspended e k.begun;
    }

pub reset-less : (s : SubchannelState) (shows : Bool) → s.drawn ≤ (reset_with s shows).drawn
reset-less s true = omega arith
reset-less s false = omega arith

pub reset-starts : (s : SubchannelState) (shows : Bool) → (reset_with s shows).starts ≡ s.starts
reset-starts s true = refl
reset-starts s false = refl

-- Notice
pub notice-turned : (A : Type 0) (B : ℕ → Type 0) (s : SubchannelState) (b : ℕ) (more : Bool) → Waits A B s →
    Turned A B s (if more then signal_taken (reset_for (with_known s b)) else signal_ignored s).state
notice-turned A B s b true k =
    let x : SubchannelState = with_known s b in
    let shows : Bool = is_offered_or_held s.hold.phase && has_any s.waiting s.begun s.suspended in
    record {
      starts = reset-starts x shows;
      drawn = reset-less x shows;
      waits = reset-waits A B x shows refl (record { waiting = moved-as A B s x refl refl (λ t p e. e) s.waiting k.waiting; begun = k.begun });
    }
notice-turned A B s b false k = record { starts = refl; drawn = omega arith; waits = k }

-- the hold's part
pub reset-acted : (s : SubchannelState) (shows : Bool) → reset_again s.drawn s.hold ≡ record { drawn = (reset_with s shows).drawn; hold = (reset_with s shows).hold; sent = None }
reset-acted s true = refl
reset-acted s false = refl
