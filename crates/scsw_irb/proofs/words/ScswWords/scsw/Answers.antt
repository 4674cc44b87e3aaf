use Rattle.std.proofs.Common.{◌∙◌, sym, slice_index}
use Rattle.scsw_irb.proofs.ScswShowing.{read-is}
use Rattle.scsw_irb.proofs.words.ScswWords.scsw.Goals as goal

pub returns : goal.returns
returns c =
    let words = c.self.inside.words in
    sym (read-is (slice_index words 0) (slice_index words 1) (slice_index words 2) c.of_fields.result c.of_fields.ensures (c.self.invariant.fit 1)) ∙ c.self.view_is
