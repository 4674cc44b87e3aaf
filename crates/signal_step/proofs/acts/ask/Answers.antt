use Rattle.std.proofs.Common.{◌≡◌, refl, sym, ◌∙◌, ap, true}
use Rattle.chan_model.specs.declared.unit_state.Own.{Own}
use Rattle.signal_step.specs.Giving.{is_without_path}
use Rattle.signal_step.proofs.Acting.{ask-full}
use Rattle.signal_step.proofs.acts.ask.Goals as goal

pub returns-then-finds_up_full-clause-gives : goal.returns-then-finds_up_full-clause-gives
returns-then-finds_up_full-clause-gives c =
    let without : is_without_path c.args.unit.now.own ≡ true =
    ap (λ (x : Own). is_without_path x) (sym c.own.ensures) ∙ (sym c.is_without_path.ensures ∙ c.if-not-is_without_path.false) in
    (ask-full c.args.sub.now c.args.unit.now c.args.unit.now.own c.args.path without c.if-finds_up_full.ensures, (refl, refl))
