use Rattle.std.proofs.Common.{◌≡◌, refl, sym, ◌∙◌, ap, subst, Err, ◌+◌, Bool, true, false, not, ◌&&◌}
use Rattle.chan_model.specs.declared.signal.Up.TheVariants as up
use Rattle.chan_model.specs.declared.unit_state.SideState.{SideState}
use Rattle.chan_model.specs.declared.unit_state.UnitState.{UnitState}
use Rattle.chan_model.specs.UnitTable.{attending, is_idle, side_of, attention_status}
use Rattle.chan_model.specs.declared.fault.Fault.TheVariants as fault
use Rattle.chan_model.specs.declared.names.Side.{Side}
use Rattle.machine_model.specs.ReportSteps.{report_taken}
use Rattle.signal_step.proofs.Acting.{sends-full}
use Rattle.signal_step.proofs.acts.attend.Goals as goal

pub returns-then-finds_up_full-clause-gives : goal.returns-then-finds_up_full-clause-gives
returns-then-finds_up_full-clause-gives c =
    let u = c.args.unit.now in
    let side = c.reached_side-side.result in
    let idle : is_idle u.own ≡ true = sym c.is_idle.ensures ∙ c.if-not-is_idle.false in
    let old : (side_of u side).fresh ≡ false = ap (λ (x : UnitState). (side_of x side).fresh) (sym c.state.ensures) ∙ (ap (λ (x : SideState). x.fresh) (sym c.side_of.ensures) ∙ c.if-side_of.false) in
    let fits : (is_idle u.own && not (side_of u side).fresh) ≡ true = ap (λ (b : Bool). b && not (side_of u side).fresh) idle ∙ ap not old in (
      subst (λ (s : Side). report_taken c.args.sub.now (attending u s c.args.path) ≡ Err fault.WireFull) c.reached_side-side.ensures
          (sends-full c.args.sub.now (is_idle u.own && not (side_of u side).fresh) _
          (record { path = c.args.path; signal = up.Attn (u.attentions + 1) (attention_status u.end_owed) }) fits
          (c.if-finds_up_full.ensures (record { path = c.args.path; signal = up.Attn (u.attentions + 1) (attention_status u.end_owed) }) refl)),
      (refl, refl),
    )
