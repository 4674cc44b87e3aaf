use Rattle.std.proofs.Common.{◌∙◌, ap, ap₂, List, [], ◌∷◌, ◌++◌, rules, sym}
use Rattle.script_rows.specs.declared.Action.{Action}
use Rattle.script.specs.declared.Line.{Line}
use Rattle.script.specs.declared.kept.KeptLine.{KeptLine}
use Rattle.script.specs.Keeping.{lines_at}
use Rattle.script.proofs.Keeping.{lines-added}
use Rattle.script.proofs.lines.Lines.add.Goals as goal

pub returns-clause-added : goal.returns-clause-added
returns-clause-added g c =
    let lines = c.self.inside in
    let bytes = c.bytes.result.now in
    let kept : KeptLine = record { number = c.args.number; start = c.len-start.result; action = c.args.slot.now.kept } in
    ap₂ lines_at c.in_ok-add_bytes.ensures.added
    (c.push.ensures ∙ ap (λ (ks : List KeptLine). ks ++ kept ∷ []) c.reserve.ensures.items)
    ∙ lines-added lines.bytes.items bytes lines.kept.items kept c.self.invariant (record { start = search rules; long = sym c.bytes.ensures.length })
    ∙ ap₂ (λ (h : List Line) (a : Action). h ++ record { number = c.args.number; action = a } ∷ []) c.self.view_is c.bytes.ensures.action
