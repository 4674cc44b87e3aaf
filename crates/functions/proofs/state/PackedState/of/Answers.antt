use Rattle.std.proofs.Common.{◌∙◌, refl}
use Rattle.functions.specs.Unwired.{Unwired, unwired_sub}
use Rattle.functions.proofs.Tied.{whole-is, whole-tied}
use Rattle.functions.proofs.state.PackedState.of.Goals as goal

pub invariant_of-result : goal.invariant_of-result
invariant_of-result c =
    let s : Unwired = record { setup = c.args.setup; state = c.args.state } in
    whole-tied s c.of.result c.of-2.result (c.of.ensures ∙ c.pmcw_of-word.ensures (unwired_sub s) refl refl) c.of-2.ensures
    c.is_whole.ensures.logical c.is_whole.ensures.not_operational c.is_whole.ensures.operational c.is_whole.ensures.path

pub returns : goal.returns
returns c =
    let s : Unwired = record { setup = c.args.setup; state = c.args.state } in
    whole-is s c.of.result c.of-2.result (c.of.ensures ∙ c.pmcw_of-word.ensures (unwired_sub s) refl refl) c.of-2.ensures
    c.is_whole.ensures.logical c.is_whole.ensures.not_operational c.is_whole.ensures.operational c.is_whole.ensures.path
