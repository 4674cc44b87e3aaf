-- A program that waits is of the latest start: either nothing began for it, or it is offered under a number under which it
-- may begin. A program that was begun holds the device.
use Rattle.std.proofs.Common.{◌≡◌, refl, sym, ◌∙◌, ap, subst, ℕ, ◌≤◌, arith, Bool, true, false, Option, None, Some, inl, inr}
use Rattle.std.specs.Prelude.{◌⊎◌, if◌then◌else◌}
use Rattle.chan_model.specs.declared.hold_state.HoldPhase.{HoldPhase}
use Rattle.chan_model.specs.declared.hold_state.HoldPhase.TheVariants as hold
use Rattle.chan_model.specs.declared.hold_state.HoldState.{HoldState}
use Rattle.chan_model.specs.HoldTable.{hold_after, letting_go}
use Rattle.chan_model.specs.ResetCauses.{is_held}
use Rattle.chan_model.specs.UnitReports.{is_last_end}
use Rattle.subchannel_model.specs.declared.cause.StatusCause.{StatusCause}
use Rattle.subchannel_model.specs.declared.cause.StatusCause.TheVariants as cause
use Rattle.subchannel_model.specs.declared.state.ActiveProgram.{ActiveProgram}
use Rattle.subchannel_model.specs.declared.state.Program.{Program}
use Rattle.subchannel_model.specs.declared.state.SubchannelState.{SubchannelState}
use Rattle.subchannel_model.specs.Causes.{without_begun, without_waiting, programs_after_end, with_cause}

-- the program is offered under this number
pub record IsOffered (B : ℕ → Type 0) (s : SubchannelState) : Type 0 where
  pub number : ℕ
  pub path : ℕ
  pub phase : s.hold.phase ≡ hold.Offer number path
  pub offered : s.offered ≡ s.starts
  pub but : B number

pub record IsWaiting (A : Type 0) (B : ℕ → Type 0) (s : SubchannelState) (program : Program) : Type 0 where
  pub start : program.start ≡ s.starts
  pub spent : A ⊎ IsOffered B s

abbrev pub WaitsAs : (A : Type 0) (B : ℕ → Type 0) → SubchannelState → Option Program → Type 0
WaitsAs A B s None = Unit {0}
WaitsAs A B s (Some program) = IsWaiting A B s program

abbrev pub IsBegunHeld : Option ActiveProgram → HoldPhase → Type 0
IsBegunHeld None phase = Unit {0}
IsBegunHeld (Some b) phase = is_held phase ≡ true

pub record Waits (A : Type 0) (B : ℕ → Type 0) (s : SubchannelState) : Type 0 where
  pub waiting : WaitsAs A B s s.waiting
  pub begun : IsBegunHeld s.begun s.hold.phase

-- what an event that is no START and no offer leaves
pub record Turned (A : Type 0) (B : ℕ → Type 0) (s x : SubchannelState) : Type 0 where
  pub starts : x.starts ≡ s.starts
  pub drawn : s.drawn ≤ x.drawn
  pub waits : Waits A B x

pub no-less : (a b : ℕ) → b ≡ a → a ≤ b
no-less a b e = omega (arith, e)

-- the same program waits, or none
pub record IsCalm (s x : SubchannelState) : Type 0 where
  pub starts : x.starts ≡ s.starts
  pub drawn : x.drawn ≡ s.drawn
  pub offered : x.offered ≡ s.offered
  pub waiting : (x.waiting ≡ None) ⊎ (x.waiting ≡ s.waiting)
  pub hold : x.hold ≡ s.hold

pub kept : (s x : SubchannelState) → x.starts ≡ s.starts → x.drawn ≡ s.drawn → x.offered ≡ s.offered → x.waiting ≡ s.waiting → x.hold ≡ s.hold → IsCalm s x
kept s x a n o w h = record { starts = a; drawn = n; offered = o; waiting = inr w; hold = h }

pub none : (s x : SubchannelState) → x.starts ≡ s.starts → x.drawn ≡ s.drawn → x.offered ≡ s.offered → x.waiting ≡ None → x.hold ≡ s.hold → IsCalm s x
none s x a n o w h = record { starts = a; drawn = n; offered = o; waiting = inl w; hold = h }

-- a status that is made
after_end-calm : (s : SubchannelState) (b : ActiveProgram) (last : Bool) → IsCalm s (programs_after_end s b last)
after_end-calm s b true = none s _ refl refl refl refl refl
after_end-calm s b false = kept s _ refl refl refl refl refl

without_begun-calm : (s : SubchannelState) (b : Option ActiveProgram) → IsCalm s (without_begun b s)
without_begun-calm s None = none s _ refl refl refl refl refl
without_begun-calm s (Some b) = kept s _ refl refl refl refl refl

without_waiting-calm : (s : SubchannelState) (w : Option Program) → IsCalm s (without_waiting w s)
without_waiting-calm s None = kept s _ refl refl refl refl refl
without_waiting-calm s (Some w) = none s _ refl refl refl refl refl

calm-like : (s x y : SubchannelState) → IsCalm s x → y.starts ≡ x.starts → y.drawn ≡ x.drawn → y.offered ≡ x.offered → y.waiting ≡ x.waiting → y.hold ≡ x.hold → IsCalm s y
calm-like s x y c a n o w h =
    record {
      starts = a ∙ c.starts;
      drawn = n ∙ c.drawn;
      offered = o ∙ c.offered;
      waiting = elim c.waiting [
        | inl e ↦ inl (w ∙ e)
        | inr e ↦ inr (w ∙ e)
      ];
      hold = h ∙ c.hold;
    }

pub cause-calm : (s : SubchannelState) (c : StatusCause) → IsCalm s (with_cause s c)
cause-calm s (cause.End b status more) = calm-like s (programs_after_end s b (is_last_end status)) _ (after_end-calm s b (is_last_end status)) refl refl refl refl refl
cause-calm s (cause.FetchFault tried check count) = calm-like s (without_begun s.begun s) _ (without_begun-calm s s.begun) refl refl refl refl refl
cause-calm s cause.NoPath = calm-like s (without_waiting s.waiting s) _ (without_waiting-calm s s.waiting) refl refl refl refl refl
cause-calm s (cause.Pci tried count) = kept s _ refl refl refl refl refl
cause-calm s (cause.Suspension tried count) = kept s _ refl refl refl refl refl
cause-calm s cause.ClearDone = kept s _ refl refl refl refl refl
cause-calm s other = none s _ refl refl refl refl refl

-- which program it leaves begun
pub without_waiting-begun : (s : SubchannelState) (w : Option Program) → (without_waiting w s).begun ≡ s.begun
without_waiting-begun s None = refl
without_waiting-begun s (Some w) = refl

pub fault-begun : (s : SubchannelState) (b : Option ActiveProgram) → s.begun ≡ b → (without_begun b s).begun ≡ None
fault-begun s None e = e
fault-begun s (Some b) e = refl

pub fault-waiting : (s : SubchannelState) (b : Option ActiveProgram) → b ≡ None → (without_begun b s).waiting ≡ None
fault-waiting s None e = refl
fault-waiting s (Some b) e = absurd (cc e)

pub end-held : (s : SubchannelState) (b : ActiveProgram) (last : Bool) (phase : HoldPhase) → is_held phase ≡ true → IsBegunHeld (programs_after_end s b last).begun phase
end-held s b true phase h = tt
end-held s b false phase h = h

pub end-begun : (s : SubchannelState) (b : ActiveProgram) (last : Bool) → last ≡ true → (programs_after_end s b last).begun ≡ None
end-begun s b true e = refl
end-begun s b false e = absurd (cc e)

-- no program is begun where none holds the device
pub not-begun : (b : Option ActiveProgram) (phase : HoldPhase) → is_held phase ≡ false → IsBegunHeld b phase → b ≡ None
not-begun None phase e h = refl
not-begun (Some b) phase e h = absurd (cc (sym e ∙ h))

pub none-held : (b : Option ActiveProgram) (phase : HoldPhase) → b ≡ None → IsBegunHeld b phase
none-held b phase e = subst (λ (x : Option ActiveProgram). IsBegunHeld x phase) (sym e) tt

pub held-by : (b : Option ActiveProgram) (x : ActiveProgram) (phase : HoldPhase) → b ≡ Some x → IsBegunHeld b phase → is_held phase ≡ true
held-by b x phase e h = subst (λ (y : Option ActiveProgram). IsBegunHeld y phase) e h

pub held-on : (b : Option ActiveProgram) (phase next : HoldPhase) → (is_held phase ≡ true → is_held next ≡ true) → IsBegunHeld b phase → IsBegunHeld b next
held-on None phase next f h = tt
held-on (Some b) phase next f h = f h

-- the device is let go
pub let-offer : (h : HoldState) (phase : HoldPhase) (t p : ℕ) → h.phase ≡ phase → phase ≡ hold.Offer t p → (hold_after h (letting_go h phase)).phase ≡ hold.Offer t p
let-offer h (hold.Offer u q) t p e f = e ∙ f
let-offer h other t p e f = absurd (cc f)

module _ (A : Type 0) (B : ℕ → Type 0) where
  -- an offer stays
  pub moved-as : (s x : SubchannelState) → x.starts ≡ s.starts → x.offered ≡ s.offered →
      ((t p : ℕ) → s.hold.phase ≡ hold.Offer t p → x.hold.phase ≡ hold.Offer t p) → (w : Option Program) → WaitsAs A B s w → WaitsAs A B x w
  moved-as s x a o f None k = tt
  moved-as s x a o f (Some program) k =
      record {
        start = k.start ∙ sym a;
        spent = elim k.spent [
          | inl g ↦ inl g
          | inr g ↦ inr (record { number = g.number; path = g.path; phase = f g.number g.path g.phase; offered = o ∙ (g.offered ∙ sym a); but = g.but })
        ];
      }

  pub calm-as : (s x : SubchannelState) → IsCalm s x → WaitsAs A B s s.waiting → WaitsAs A B x x.waiting
  calm-as s x c k =
      elim c.waiting [
        | inl e ↦ subst (λ (w : Option Program). WaitsAs A B x w) (sym e) tt
        | inr e ↦ subst (λ (w : Option Program). WaitsAs A B x w) (sym e)
            (moved-as s x c.starts c.offered (λ t p h. ap (λ (g : HoldState). g.phase) c.hold ∙ h) s.waiting k)
      ]

  pub calm-turned : (s x : SubchannelState) → IsCalm s x → WaitsAs A B s s.waiting → IsBegunHeld x.begun x.hold.phase → Turned A B s x
  calm-turned s x c k h = record { starts = c.starts; drawn = no-less s.drawn x.drawn c.drawn; waits = record { waiting = calm-as s x c k; begun = h } }

  pub same-turned : (s : SubchannelState) → Waits A B s → Turned A B s s
  same-turned s k = record { starts = refl; drawn = omega arith; waits = k }

  pub if-turned : (s : SubchannelState) (b : Bool) (x y : SubchannelState) → (b ≡ true → Turned A B s x) → (b ≡ false → Turned A B s y) → Turned A B s (if b then x else y)
  if-turned s true x y e f = e refl
  if-turned s false x y e f = f refl

-- with less asked
wider-as : (A C : Type 0) (B D : ℕ → Type 0) (s : SubchannelState) (w : Option Program) → (A → C) → ((t : ℕ) → B t → D t) → WaitsAs A B s w → WaitsAs C D s w
wider-as A C B D s None f g k = tt
wider-as A C B D s (Some program) f g k =
    record {
      start = k.start;
      spent = elim k.spent [
        | inl a ↦ inl (f a)
        | inr o ↦ inr (record { number = o.number; path = o.path; phase = o.phase; offered = o.offered; but = g o.number o.but })
      ];
    }

pub waits-wider : (A C : Type 0) (B D : ℕ → Type 0) (s : SubchannelState) → (A → C) → ((t : ℕ) → B t → D t) → Waits A B s → Waits C D s
waits-wider A C B D s f g k = record { waiting = wider-as A C B D s s.waiting f g k.waiting; begun = k.begun }
