use Rattle.std.proofs.Common.{rules, ◌∙◌, sym}
use Rattle.std.proofs.lemmas.Fn.{filter_same}
use Rattle.trace_selection.proofs.Selecting.{all_shown}
use Rattle.trace_selection.proofs.Selection.select.Goals as goal

pub returns-then-has_all-clause-records : goal.returns-then-has_all-clause-records
returns-then-has_all-clause-records c = all_shown c.args.self.now c.args.trace.now.text c.args.trace.now.parties c.args.trace.now.records.items (sym c.has_all.ensures ∙ c.if-has_all.true)

pub returns-clause-records : goal.returns-clause-records
returns-clause-records c = filter_same _ _ _ (λ x b f' k. search rules) _ _ c.retain.ensures.filtered
