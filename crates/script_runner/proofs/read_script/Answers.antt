use Rattle.std.proofs.Common.{ℕ, List, subst}
use Rattle.script.specs.declared.ScriptBad.{ScriptBad}
use Rattle.script.specs.Pieces.{lines_of}
use Rattle.script.specs.Reading.{BadAt}
use Rattle.script.specs.Scripts.{IsBad}
use Rattle.script_runner.proofs.Telling.{told_bad}
use Rattle.script_runner.proofs.read_script.Goals as goal

pub returns-clause-none : goal.returns-clause-none
returns-clause-none g c =
    let bad = c.in-Err-Bad in
    let text = c.as_slice.result.now in
    let named : IsBad c.args.races (lines_of text) bad.line bad.rule =
    subst (λ (b : ScriptBad). BadAt b c.args.races (lines_of text)) bad.field-0-is bad.ensures.bad in
    let is = subst (λ (xs : List ℕ). IsBad c.args.races (lines_of xs) bad.line bad.rule) c.as_slice.ensures.value named in
    told_bad c.args.races (g.R.Source.left c.args.reader.now) c.in-Ok.text.items bad.line bad.rule _ _ c.tell_bad.result c.in-Ok.ensures.whole is c.tell_bad.ensures
