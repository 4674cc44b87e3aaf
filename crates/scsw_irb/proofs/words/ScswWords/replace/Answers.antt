use Rattle.std.proofs.Common.{◌∙◌, ap, slice_index}
use Rattle.scsw_irb.specs.declared.scsw.Scsw.{Scsw}
use Rattle.scsw_irb.specs.ScswWords.{scsw_of_words}
use Rattle.scsw_irb.specs.ScswChanges.{chosen_scsw}
use Rattle.scsw_irb.proofs.ScswChanging.{chosen-are, chosen-is}
use Rattle.std.proofs.Common.{arith}
use Rattle.scsw_irb.proofs.words.ScswWords.replace.Goals as goal

pub returns : goal.returns
returns c =
    let old = c.self.inside.words in
    let given = c.given.inside.words in
    chosen-is c.args.keep (slice_index old 0) (slice_index given 0) (slice_index old 1) (slice_index old 2) (slice_index given 1) (slice_index given 2)
    (omega (arith, c.ranges.keep.fits)) c.requires
    ∙ ap (λ (s : Scsw). chosen_scsw c.args.keep s (scsw_of_words given)) c.self.view_is
    ∙ ap (chosen_scsw c.args.keep c.args.self.now) (c.given.view_is ∙ c.of-given.ensures)

pub invariant_of-self : goal.invariant_of-self
invariant_of-self c =
    let old = c.self.inside.words in
    let given = c.given.inside.words in
    let a = c.self.invariant in
    let b = c.given.invariant in
    chosen-are c.args.keep (slice_index old 0) (slice_index given 0) (slice_index given 1) (slice_index given 2)
    (a.fit 0) (b.fit 0) (b.fit 1) (b.fit 2) a.reserved.0 a.reserved.1 a.reserved.2 b.reserved.0 b.reserved.1 b.reserved.2
