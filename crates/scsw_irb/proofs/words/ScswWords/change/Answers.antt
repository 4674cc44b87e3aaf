use Rattle.std.proofs.Common.{◌∙◌, ap, slice_index, arith}
use Rattle.scsw_irb.specs.ScswChanges.{changed_scsw}
use Rattle.scsw_irb.proofs.ScswChanging.{change-is, change-reserved, first-are, first-is, left, left-lt}
use Rattle.scsw_irb.proofs.words.ScswWords.change.Goals as goal

pub returns : goal.returns
returns c =
    let words = c.self.inside.words in
    first-is words (left (slice_index words 0) c.args.clear c.args.set) c.self.told
    ∙ change-is (slice_index words 0) c.args.clear c.args.set (slice_index words 1) (slice_index words 2) (omega (arith, c.ranges.clear.fits)) c.requires
    ∙ ap (changed_scsw c.args.clear c.args.set) c.self.view_is

pub invariant_of-self : goal.invariant_of-self
invariant_of-self c =
    let words = c.self.inside.words in
    let r = c.self.invariant.reserved in
    first-are words (left (slice_index words 0) c.args.clear c.args.set) c.self.invariant
    (left-lt (slice_index words 0) c.args.clear c.args.set (c.self.invariant.fit 0) (omega (arith, c.ranges.set.fits)))
    (change-reserved (slice_index words 0) c.args.clear c.args.set c.requires r.0 r.1 r.2)
