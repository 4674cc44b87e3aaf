use Rattle.std.proofs.Common.{◌≡◌, refl, sym, subst, ◌∙◌, ◌+◌, ◌≤◌, Bool, true, false, Option, None, Some, arith}
use Rattle.std.specs.Prelude.{if◌then◌else◌}
use Rattle.std.proofs.lemmas.Bool.{lt-ltb}
use Rattle.scsw_irb.specs.declared.scsw.Scsw.{Scsw}
use Rattle.scsw_irb.specs.declared.serials.Serials.{Serials}
use Rattle.subchannel_model.specs.declared.status.StatusRow.{StatusRow}
use Rattle.subchannel_model.specs.Status.{scsw_made, serials_made, is_uncleared}
use Rattle.subchannel_model.specs.Test.{ends_suspended, tested}
use Rattle.chan_model.specs.UnitReports.{is_last_end}
use Rattle.subchannel_model.specs.declared.cause.StatusCause.{StatusCause}
use Rattle.subchannel_model.specs.declared.cause.StatusCause.TheVariants as cause
use Rattle.subchannel_model.specs.declared.state.ActiveProgram.{ActiveProgram}
use Rattle.subchannel_model.specs.declared.state.Program.{Program}
use Rattle.subchannel_model.specs.declared.state.SubchannelState.{SubchannelState}
use Rattle.subchannel_model.specs.Causes.{CauseRow, row_of, scsw_before, without_begun, without_waiting, scsw_joined}
use Rattle.subchannel_model.specs.Programs.{without_programs}
use Rattle.subchannel_model.specs.Ends.{has_shown}
use Rattle.subchannel_model.proofs.Cleared.{tested-pending}
use Rattle.functions.specs.Counted.{IsCounted}
use Rattle.status.proofs.law.counts.Goals as goal

-- programs that are over change neither the counts nor whether the subchannel is enabled
abbrev Same : SubchannelState → SubchannelState → Type 0
Same s x = (s.pmcw.enabled ≡ x.pmcw.enabled) × (s.serials ≡ x.serials)

pick-same : (b : Bool) (s x y : SubchannelState) → Same s x → Same s y → Same s (if b then x else y)
pick-same true s x y k l = k
pick-same false s x y k l = l

begun-same : (b : Option ActiveProgram) (s : SubchannelState) → Same s (without_begun b s)
begun-same None s = (refl, refl)
begun-same (Some b) s = (refl, refl)

waiting-same : (w : Option Program) (s : SubchannelState) → Same s (without_waiting w s)
waiting-same None s = (refl, refl)
waiting-same (Some w) s = (refl, refl)

same : (s : SubchannelState) (c : StatusCause) → Same s (row_of s c).left
same s (cause.End b status more) =
    pick-same (is_last_end status) s (without_programs s) (record s { begun = Some (has_shown b) }) (refl, refl) (refl, refl)
same s (cause.FetchFault tried check count) = begun-same s.begun s
same s cause.Attention = (refl, refl)
same s cause.NoPath = waiting-same s.waiting s
same s cause.InterfaceControlCheck = (refl, refl)
same s (cause.Pci tried count) = (refl, refl)
same s (cause.Suspension tried count) = (refl, refl)
same s cause.ClearDone = (refl, refl)
same s cause.HaltDone = (refl, refl)

abbrev Counted : Scsw → Serials → Type 0
Counted scsw x = (x.cleared ≤ x.made) × (scsw.status.pending ≡ is_uncleared x)

joined-pending : (b : Bool) (x y : Scsw) → x.status.pending ≡ true → y.status.pending ≡ true → (if b then x else y).status.pending ≡ true
joined-pending true x y e f = e
joined-pending false x y e f = f

made : (e : Bool) (scsw joins : Scsw) (x : Serials) (shown : StatusRow) → Counted scsw x →
    Counted (scsw_made e (scsw_joined e scsw joins) shown) (serials_made e x)
made true scsw joins x shown k =
    let o : x.cleared ≤ x.made = k.0 in (
      omega (arith, o),
      joined-pending joins.status.pending _ _ refl refl ∙ sym (lt-ltb x.cleared (x.made + 1) (omega (arith, o))),
    )
made false scsw joins x shown k = k

made-after : (s : SubchannelState) (joins : Scsw) (shown : StatusRow) (e : Bool) (x : Serials) → s.pmcw.enabled ≡ e → s.serials ≡ x →
    IsCounted s → Counted (scsw_made e (scsw_joined s.pmcw.enabled s.scsw joins) shown) (serials_made e x)
made-after s joins shown e x f g k =
    subst (λ v. Counted (scsw_made v (scsw_joined s.pmcw.enabled s.scsw joins) shown) (serials_made v x)) f
    (subst (λ v. Counted (scsw_made s.pmcw.enabled (scsw_joined s.pmcw.enabled s.scsw joins) shown) (serials_made s.pmcw.enabled v)) g
    (made s.pmcw.enabled s.scsw joins s.serials shown k))

pub returns-clause-made : goal.returns-clause-made
returns-clause-made c = λ s x k.
    let row : CauseRow = row_of s x in
    let kept : Same s row.left = same s x in
    made-after s (scsw_before s.scsw x) row.shown row.left.pmcw.enabled row.left.serials kept.0 kept.1 k

-- TEST clears all status
tested-counted : (s : SubchannelState) → IsCounted (tested s)
tested-counted s = (omega arith, tested-pending s)

pick : (b : Bool) (x y : SubchannelState) → IsCounted x → IsCounted y → IsCounted (if b then x else y)
pick true x y k l = k
pick false x y k l = l

pub returns-clause-test : goal.returns-clause-test
returns-clause-test c = λ s. pick (ends_suspended s.scsw) (without_programs (tested s)) (tested s) (tested-counted s) (tested-counted s)
