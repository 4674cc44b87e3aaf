use Rattle.std.proofs.Common.{rules}
use Rattle.std.proofs.lemmas.Fn.{filter_same}
use Rattle.agree.proofs.line.signals.cut_downs.Goals as goal

pub returns-clause-cut : goal.returns-clause-cut
returns-clause-cut c = filter_same _ _ _ (λ x b f' k. search rules) _ _ c.retain.ensures.filtered
