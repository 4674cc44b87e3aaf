use Rattle.std.proofs.Common.{codes}
use Rattle.script_text.specs.Text.{outcome_text}
use Rattle.script_text.proofs.Printing.{failed_so}
use Rattle.streams.proofs.Sinking.{takes_then}
use Rattle.seen_answers.proofs.seen_answer.put_uncoded.Goals as goal

pub returns-then-put : goal.returns-then-put
returns-then-put g c = takes_then _ _ _ (codes "      ") (outcome_text c.args.outcome.now) _ c.if-put.ensures c.put_outcome.ensures

pub returns-else-put : goal.returns-else-put
returns-else-put g c = failed_so _ _ (codes "      ") (outcome_text c.args.outcome.now) _ c.if-put.false c.if-put.ensures
