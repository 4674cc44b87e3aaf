-- How many statuses an effect makes, and what it leaves of what is shown beside.
use Rattle.std.proofs.Common.{◌≡◌, refl, sym, ◌∙◌, ap, ℕ, ◌+◌, Bool, true, false, Option, None, Some, arith}
use Rattle.std.specs.Prelude.{if◌then◌else◌}
use Rattle.scsw_irb.specs.declared.scsw.Scsw.{Scsw}
use Rattle.scsw_irb.specs.declared.serials.Serials.{Serials}
use Rattle.chan_model.specs.UnitReports.{is_last_end}
use Rattle.subchannel_model.specs.declared.cause.StatusCause.{StatusCause}
use Rattle.subchannel_model.specs.declared.cause.StatusCause.TheVariants as cause
use Rattle.subchannel_model.specs.declared.state.ActiveProgram.{ActiveProgram}
use Rattle.subchannel_model.specs.declared.state.Program.{Program}
use Rattle.subchannel_model.specs.declared.state.SubchannelState.{SubchannelState}
use Rattle.subchannel_model.specs.declared.status.StatusRow.{StatusRow}
use Rattle.subchannel_model.specs.Causes.{row_of, scsw_before, without_begun, without_waiting, programs_after_end, with_cause, scsw_joined}
use Rattle.subchannel_model.specs.Status.{scsw_made, serials_made}
use Rattle.run_laws.specs.Serials.{beside}
use Rattle.run_laws.proofs.Shown.Effects.{Seen, seen, of_seen, Effect, Nothing, Causes, TakesAsking, MovesAsking, SuspendsShowing, taken_over, moved, still}

abbrev pub made_by : Bool → ℕ → ℕ → ℕ
made_by enabled n made = if enabled then made + n else made

pub record IsCounted (k : Seen) (n : ℕ) (y : Seen) : Type 0 where
  pub made : y.serials.made ≡ made_by k.enabled n k.serials.made
  pub cleared : y.serials.cleared ≡ k.serials.cleared
  pub stays : y.serials.made ≡ k.serials.made → beside y.scsw ≡ beside k.scsw

pub none-made : (enabled : Bool) (made : ℕ) → made ≡ made_by enabled 0 made
none-made true made = omega arith
none-made false made = refl

pub none-counted : (k y : Seen) → y.serials ≡ k.serials → beside y.scsw ≡ beside k.scsw → IsCounted k 0 y
none-counted k y e f = record {
  made = ap (λ (x : Serials). x.made) e ∙ none-made k.enabled k.serials.made;
  cleared = ap (λ (x : Serials). x.cleared) e;
  stays = λ h. f;
}

-- a cause leaves the serials and whether the subchannel is enabled to what it makes
abbrev pub IsKept : SubchannelState → SubchannelState → Type 0
IsKept s x = (x.pmcw.enabled ≡ s.pmcw.enabled) × (x.serials ≡ s.serials)

end-kept : (s : SubchannelState) (b : ActiveProgram) (last : Bool) → IsKept s (programs_after_end s b last)
end-kept s b true = (refl, refl)
end-kept s b false = (refl, refl)

begun-kept : (s : SubchannelState) (b : Option ActiveProgram) → IsKept s (without_begun b s)
begun-kept s None = (refl, refl)
begun-kept s (Some b) = (refl, refl)

waiting-kept : (s : SubchannelState) (w : Option Program) → IsKept s (without_waiting w s)
waiting-kept s None = (refl, refl)
waiting-kept s (Some w) = (refl, refl)

pub cause-kept : (s : SubchannelState) (c : StatusCause) → IsKept s (row_of s c).left
cause-kept s (cause.End b status more) = end-kept s b (is_last_end status)
cause-kept s (cause.FetchFault tried check count) = begun-kept s s.begun
cause-kept s cause.NoPath = waiting-kept s s.waiting
cause-kept s other = (refl, refl)

status-counted : (e f : Bool) (x : Serials) (scsw before : Scsw) (shown : StatusRow) → e ≡ f →
    ((serials_made e x).made ≡ made_by f 1 x.made)
    × ((serials_made e x).cleared ≡ x.cleared)
    × ((serials_made e x).made ≡ x.made → beside (scsw_made e (scsw_joined f scsw before) shown) ≡ beside scsw)
status-counted true true x scsw before shown e = (refl, refl, λ h. absurd (omega (arith, h)))
status-counted false false x scsw before shown e = (refl, refl, λ h. refl)
status-counted true false x scsw before shown e = absurd (cc e)
status-counted false true x scsw before shown e = absurd (cc e)

pub cause-counted : (s : SubchannelState) (c : StatusCause) → IsCounted (seen s) 1 (seen (with_cause s c))
cause-counted s c =
    let left : SubchannelState = (row_of s c).left in
    let kept : IsKept s left = cause-kept s c in
    let t = status-counted left.pmcw.enabled s.pmcw.enabled left.serials s.scsw (scsw_before s.scsw c) (row_of s c).shown kept.0 in
    record {
      made = t.0 ∙ ap (λ (x : Serials). made_by s.pmcw.enabled 1 x.made) kept.1;
      cleared = t.1 ∙ ap (λ (x : Serials). x.cleared) kept.1;
      stays = λ h. t.2 (h ∙ ap (λ (x : Serials). x.made) (sym kept.1));
    }

pub effect-counted : (H : Type 0) (k : Seen) (n : ℕ) (y : Seen) → Effect H k n y → IsCounted k n y
effect-counted H k _ _ Nothing = none-counted k k refl refl
effect-counted H k _ _ (Causes c timely) = let g = cause-counted (of_seen k) c in record { made = g.made; cleared = g.cleared; stays = g.stays }
effect-counted H k _ _ (TakesAsking program transfer tried count stands none) =
    let g = cause-counted (taken_over k program transfer) (cause.Pci tried count) in record { made = g.made; cleared = g.cleared; stays = g.stays }
effect-counted H k _ _ (MovesAsking b transfer tried count e chains) =
    let g = cause-counted (moved k b transfer) (cause.Pci tried count) in record { made = g.made; cleared = g.cleared; stays = g.stays }
effect-counted H k _ _ (SuspendsShowing program walk count runs) =
    let g = cause-counted (still k program walk count) (cause.Suspension walk.tried count) in record { made = g.made; cleared = g.cleared; stays = g.stays }
effect-counted H k _ _ other = none-counted k _ refl refl
