use Rattle.std.proofs.Common.{◌≡◌, refl, sym, ◌∙◌, ap, subst, true, Err}
use Rattle.chan_model.specs.declared.signal.Up.TheVariants as up
use Rattle.chan_model.specs.declared.unit_state.SideState.{SideState}
use Rattle.chan_model.specs.declared.unit_state.UnitState.{UnitState}
use Rattle.chan_model.specs.UnitTable.{noticing, side_of}
use Rattle.chan_model.specs.declared.fault.Fault.TheVariants as fault
use Rattle.chan_model.specs.declared.names.Side.{Side}
use Rattle.machine_model.specs.ReportSteps.{report_taken}
use Rattle.signal_step.proofs.Acting.{not-false, sends-full}
use Rattle.signal_step.proofs.acts.notice.Goals as goal

pub returns-then-finds_up_full-clause-gives : goal.returns-then-finds_up_full-clause-gives
returns-then-finds_up_full-clause-gives c =
    let u = c.args.unit.now in
    let side = c.reached_side-side.result in
    let fresh : (side_of u side).fresh ≡ true = ap (λ (x : UnitState). (side_of x side).fresh) (sym c.state.ensures) ∙ (ap (λ (x : SideState). x.fresh) (sym c.side_of.ensures) ∙ not-false c.side_of.result.fresh c.if-not-side_of.false) in (
      subst (λ (s : Side). report_taken c.args.sub.now (noticing u s c.args.path) ≡ Err fault.WireFull) c.reached_side-side.ensures
          (sends-full c.args.sub.now (side_of u side).fresh u (record { path = c.args.path; signal = up.Notice u.restarts }) fresh
          (c.if-finds_up_full.ensures (record { path = c.args.path; signal = up.Notice u.restarts }) refl)),
      (refl, refl),
    )
