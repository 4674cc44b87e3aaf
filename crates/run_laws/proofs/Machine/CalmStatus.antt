-- What clears no status of a subchannel, and neither resets its hold nor ends a reset.
use Rattle.std.proofs.Common.{◌≡◌, ◌≤◌, refl, sym, ◌∙◌, arith, ℕ, ◌+◌, Bool, true, false, Option, None, Some, inl, inr, ap}
use Rattle.std.specs.Prelude.{◌⊎◌, if◌then◌else◌}
use Rattle.chan_model.specs.declared.hold_state.HoldPhase.{HoldPhase}
use Rattle.chan_model.specs.declared.hold_state.HoldPhase.TheVariants as hold
use Rattle.chan_model.specs.declared.hold_state.HoldState.{HoldState}
use Rattle.chan_model.specs.HoldTable.{letting_go, hold_after}
use Rattle.chan_model.specs.UnitReports.{is_last_end}
use Rattle.ccw_walk.specs.Positions.{WalkPosition}
use Rattle.data_move.specs.Moving.{residual}
use Rattle.scsw_irb.specs.declared.serials.Serials.{Serials}
use Rattle.data_move.specs.declared.transfer.Transfer.{Transfer}
use Rattle.subchannel_model.specs.declared.cause.StatusCause.{StatusCause}
use Rattle.subchannel_model.specs.declared.cause.StatusCause.TheVariants as cause
use Rattle.subchannel_model.specs.declared.state.ActiveProgram.{ActiveProgram}
use Rattle.subchannel_model.specs.declared.state.Program.{Program}
use Rattle.subchannel_model.specs.declared.state.SubchannelState.{SubchannelState}
use Rattle.subchannel_model.specs.Pci.{with_pci_of, without_pci, with_pci}
use Rattle.scsw_irb.specs.declared.scsw.Scsw.{Scsw}
use Rattle.subchannel_model.specs.Causes.{without_begun, without_waiting, programs_after_end, CauseRow, row_of, scsw_before, with_cause, scsw_joined, with_row}
use Rattle.subchannel_model.specs.Suspension.{suspended_alone, with_suspended_program, program_suspended}
use Rattle.subchannel_model.specs.Losing.{reset_drawn, reset_with}
use Rattle.subchannel_model.specs.Status.{scsw_made, serials_made}
use Rattle.subchannel_model.specs.Attention.{with_attention}
use Rattle.subchannel_model.specs.Outcomes.{device_released}
use Rattle.subchannel_model.specs.Command.{with_transfer}
use Rattle.subchannel_model.specs.Data.{after_chunk}
use Rattle.subchannel_model.specs.Accept.{halt_performed}
use Rattle.subchannel_model.specs.Cleared.{clear_performed}
use Rattle.subchannel_model.specs.declared.state.PmcwState.{PmcwState}
use Rattle.run_laws.proofs.Machine.Beside.{left-beside}

-- one phase is a reset under a number exactly where the other is
pub record IsAsReset (old new : HoldPhase) : Type 0 where
  pub still : (n : ℕ) → old ≡ hold.Reset n → new ≡ hold.Reset n
  pub was : (n : ℕ) → new ≡ hold.Reset n → old ≡ hold.Reset n

pub as-same : (old new : HoldPhase) → new ≡ old → IsAsReset old new
as-same old new e = record { still = λ n k. e ∙ k; was = λ n k. sym e ∙ k }

-- where no status is made, the count stands or becomes zero
pub record IsCounted (made count after next : ℕ) : Type 0 where
  pub rises : made ≤ after
  pub kept : after ≡ made → (next ≡ count) ⊎ (next ≡ 0)

abbrev pub Counts : SubchannelState → SubchannelState → Type 0
Counts s x = IsCounted s.serials.made s.scsw.count x.serials.made x.scsw.count

pub counts-same : (s x : SubchannelState) → x.serials.made ≡ s.serials.made → x.scsw.count ≡ s.scsw.count → Counts s x
counts-same s x m c = record { rises = omega (arith, m); kept = λ e. inl c }

pub counts-zero : (s x : SubchannelState) → x.serials.made ≡ s.serials.made → x.scsw.count ≡ 0 → Counts s x
counts-zero s x m c = record { rises = omega (arith, m); kept = λ e. inr c }

kept-then : (a b c : ℕ) → (b ≡ a) ⊎ (b ≡ 0) → (c ≡ b) ⊎ (c ≡ 0) → (c ≡ a) ⊎ (c ≡ 0)
kept-then a b c (inl p) (inl q) = inl (q ∙ p)
kept-then a b c (inr p) (inl q) = inr (q ∙ p)
kept-then a b c p (inr q) = inr q

pub counts-then : (s x y : SubchannelState) → Counts s x → Counts x y → Counts s y
counts-then s x y a b =
    let rises : s.serials.made ≤ x.serials.made = a.rises in
    let rises-on : x.serials.made ≤ y.serials.made = b.rises in
    record {
      rises = omega (arith, rises, rises-on);
      kept = λ e. kept-then s.scsw.count x.scsw.count y.scsw.count (a.kept (omega (arith, e, rises, rises-on))) (b.kept (omega (arith, e, rises, rises-on)));
    }

pub record IsCalm (s x : SubchannelState) : Type 0 where
  pub cleared : x.serials.cleared ≡ s.serials.cleared
  pub reset : IsAsReset s.hold.phase x.hold.phase
  pub counts : Counts s x

pub calm-same : (s x : SubchannelState) → x.serials.cleared ≡ s.serials.cleared → x.hold.phase ≡ s.hold.phase → x.serials.made ≡ s.serials.made →
    x.scsw.count ≡ s.scsw.count → IsCalm s x
calm-same s x c h m n = record { cleared = c; reset = as-same s.hold.phase x.hold.phase h; counts = counts-same s x m n }

pub calm-then : (s x y : SubchannelState) → IsCalm s x → IsCalm x y → IsCalm s y
calm-then s x y a b =
    record {
      cleared = b.cleared ∙ a.cleared;
      reset = record { still = λ n k. b.reset.still n (a.reset.still n k); was = λ n k. a.reset.was n (b.reset.was n k) };
      counts = counts-then s x y a.counts b.counts;
    }

pub if-calm : (s : SubchannelState) (b : Bool) (x y : SubchannelState) → IsCalm s x → IsCalm s y → IsCalm s (if b then x else y)
if-calm s true x y e f = e
if-calm s false x y e f = f

-- a status that is made
made-cleared : (enabled : Bool) (serials : Serials) → (serials_made enabled serials).cleared ≡ serials.cleared
made-cleared true serials = refl
made-cleared false serials = refl

row-counts : (s : SubchannelState) (row : CauseRow) (joins : Scsw) (x y : Bool) → x ≡ y → s.serials.made ≤ row.left.serials.made →
    IsCounted s.serials.made s.scsw.count (serials_made x row.left.serials).made (scsw_made x (scsw_joined y s.scsw joins) row.shown).count
row-counts s row joins true y e l = record { rises = omega (arith, l); kept = λ m. absurd (omega (arith, l, m)) }
row-counts s row joins false true e l = absurd (cc e)
row-counts s row joins false false e l = record { rises = l; kept = λ m. inl refl }

row-calm : (s : SubchannelState) (row : CauseRow) (joins : Scsw) → row.left.pmcw.enabled ≡ s.pmcw.enabled → IsCalm s row.left →
    IsCalm s (with_row s row joins)
row-calm s row joins e k =
    record {
      cleared = made-cleared row.left.pmcw.enabled row.left.serials ∙ k.cleared;
      reset = k.reset;
      counts = row-counts s row joins row.left.pmcw.enabled s.pmcw.enabled e k.counts.rises;
    }

after_end-calm : (s : SubchannelState) (b : ActiveProgram) (last : Bool) → IsCalm s (programs_after_end s b last)
after_end-calm s b true = calm-same s _ refl refl refl refl
after_end-calm s b false = calm-same s _ refl refl refl refl

without_begun-calm : (s : SubchannelState) (b : Option ActiveProgram) → IsCalm s (without_begun b s)
without_begun-calm s None = calm-same s _ refl refl refl refl
without_begun-calm s (Some b) = calm-same s _ refl refl refl refl

without_waiting-calm : (s : SubchannelState) (w : Option Program) → IsCalm s (without_waiting w s)
without_waiting-calm s None = calm-same s _ refl refl refl refl
without_waiting-calm s (Some w) = calm-same s _ refl refl refl refl

left-calm : (s : SubchannelState) (c : StatusCause) → IsCalm s (row_of s c).left
left-calm s (cause.End b status more) = after_end-calm s b (is_last_end status)
left-calm s (cause.FetchFault tried check count) = without_begun-calm s s.begun
left-calm s cause.NoPath = without_waiting-calm s s.waiting
left-calm s other = calm-same s _ refl refl refl refl

-- no cause enables or disables a subchannel
left-enabled : (s : SubchannelState) (c : StatusCause) → (row_of s c).left.pmcw.enabled ≡ s.pmcw.enabled
left-enabled s c = ap (λ (p : PmcwState). p.enabled) (left-beside s c).pmcw

pub cause-calm : (s : SubchannelState) (c : StatusCause) → IsCalm s (with_cause s c)
cause-calm s c = row-calm s (row_of s c) (scsw_before s.scsw c) (left-enabled s c) (left-calm s c)

-- an interruption by the program, and a program that goes on or is suspended
pci-calm : (s : SubchannelState) (b : ActiveProgram) → IsCalm s (with_pci_of s b)
pci-calm s b =
    let x : SubchannelState = record s { begun = Some (without_pci b) } in
    let c : StatusCause = cause.Pci b.transfer.walk.tried (residual b.transfer.moving) in
    if-calm s b.transfer.pci_pending (with_cause x c) s (calm-then s x (with_cause x c) (calm-same s x refl refl refl refl) (cause-calm x c))
    (calm-same s s refl refl refl refl)

pub interrupted-calm : (s : SubchannelState) (b : Option ActiveProgram) → IsCalm s (with_pci s b)
interrupted-calm s None = calm-same s s refl refl refl refl
interrupted-calm s (Some b) = pci-calm s b

pub moving-calm : (s : SubchannelState) (b : ActiveProgram) (t : Transfer) → IsCalm s (after_chunk s b t)
moving-calm s b t =
    let x : SubchannelState = with_transfer s b t in calm-then s x (after_chunk s b t) (calm-same s x refl refl refl refl) (interrupted-calm x x.begun)

pub suspending-calm : (s : SubchannelState) (program : Program) (walk : WalkPosition) (count : ℕ) → IsCalm s (program_suspended s program walk count)
suspending-calm s program walk count =
    let x : SubchannelState = with_suspended_program s program walk count in
    let c : StatusCause = cause.Suspension walk.tried count in
    if-calm s program.orb.suppress_suspended (record x { scsw = suspended_alone s.scsw }) (with_cause x c) (calm-same s _ refl refl refl refl)
    (calm-then s x (with_cause x c) (calm-same s x refl refl refl refl) (cause-calm x c))

-- a halt or a clear that is performed, and an attention
pub halt_performed-calm : (s : SubchannelState) → IsCalm s (halt_performed s)
halt_performed-calm s = if-calm s s.scsw.activity.halt_pending (with_cause s cause.HaltDone) s (cause-calm s cause.HaltDone) (calm-same s s refl refl refl refl)

pub clear_performed-calm : (s : SubchannelState) → IsCalm s (clear_performed s)
clear_performed-calm s = if-calm s s.scsw.activity.clear_pending (with_cause s cause.ClearDone) s (cause-calm s cause.ClearDone) (calm-same s s refl refl refl refl)

pub attention-calm : (s : SubchannelState) (shows : Bool) → IsCalm s (with_attention s shows)
attention-calm s shows = if-calm s shows (with_cause s cause.Attention) s (cause-calm s cause.Attention) (calm-same s s refl refl refl refl)

-- the device is let go
letting-as : (h : HoldState) (phase : HoldPhase) → h.phase ≡ phase → IsAsReset phase (hold_after h (letting_go h phase)).phase
letting-as h (hold.On t p c) e = record { still = λ n k. absurd (cc k); was = λ n k. absurd (cc k) }
letting-as h other e = as-same other h.phase e

pub device_released-calm : (s x : SubchannelState) → IsCalm s x → IsCalm s (device_released x).state
device_released-calm s x k = calm-then s x (device_released x).state k (record { cleared = refl; reset = letting-as x.hold x.hold.phase refl; counts = counts-same x (device_released x).state refl refl })

-- the hold is to be reset under a fresh number: nothing is cleared
pub reset-phase : (s : SubchannelState) (shows : Bool) → (reset_with s shows).hold.phase ≡ hold.Reset (s.drawn + 1)
reset-phase s true = refl
reset-phase s false = refl

pub reset-cleared : (s : SubchannelState) (shows : Bool) → (reset_with s shows).serials.cleared ≡ s.serials.cleared
reset-cleared s true = (cause-calm (reset_drawn s) cause.InterfaceControlCheck).cleared
reset-cleared s false = refl

pub reset-counts : (s : SubchannelState) (shows : Bool) → Counts s (reset_with s shows)
reset-counts s true = (cause-calm (reset_drawn s) cause.InterfaceControlCheck).counts
reset-counts s false = counts-same s (reset_drawn s) refl refl

-- the hold stays as a clear is performed
clear-phase : (s : SubchannelState) (pending : Bool) → (if pending then with_cause s cause.ClearDone else s).hold.phase ≡ s.hold.phase
clear-phase s true = refl
clear-phase s false = refl

pub clear_performed-phase : (s : SubchannelState) → (clear_performed s).hold.phase ≡ s.hold.phase
clear_performed-phase s = clear-phase s s.scsw.activity.clear_pending
