use Rattle.std.proofs.Common.{◌≡◌, refl, sym, ◌∙◌, ap, Some}
use Rattle.chan_model.specs.declared.unit_state.Own.{Own}
use Rattle.signal_step.specs.Giving.{connected_path}
use Rattle.signal_step.proofs.Acting.{leave-full}
use Rattle.signal_step.proofs.acts.leave.Goals as goal

pub returns-then-finds_up_full-clause-gives : goal.returns-then-finds_up_full-clause-gives
returns-then-finds_up_full-clause-gives c =
    let connected : connected_path c.args.unit.now.own ≡ Some c.in-Some.path =
    ap (λ (x : Own). connected_path x) (sym c.own.ensures) ∙ (sym c.connected_path.ensures ∙ c.in-Some.is) in
    (leave-full c.args.sub.now c.args.unit.now c.args.unit.now.own c.in-Some.path connected c.if-finds_up_full.ensures, (refl, refl))
