use Rattle.std.proofs.Common.{◌∙◌, ap, slice_index}
use Rattle.scsw_irb.specs.declared.scsw.Scsw.{Scsw}
use Rattle.scsw_irb.proofs.ScswShowing.{suspend-is}
use Rattle.scsw_irb.proofs.words.ScswWords.may_suspend.Goals as goal

pub returns : goal.returns
returns c = suspend-is (slice_index c.self.inside.words 0) ∙ ap (λ (s : Scsw). s.suspend) c.self.view_is
