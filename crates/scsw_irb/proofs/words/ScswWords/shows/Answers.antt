use Rattle.std.proofs.Common.{◌∙◌, ap}
use Rattle.scsw_irb.specs.declared.scsw.Scsw.{Scsw}
use Rattle.zbits.specs.Flags.{all_of, matched}
use Rattle.scsw_irb.specs.ScswChanges.{flags_from_8}
use Rattle.scsw_irb.proofs.ScswShowing.{shows-is}
use Rattle.scsw_irb.proofs.words.ScswWords.shows.Goals as goal

pub returns : goal.returns
returns c =
    shows-is c.self.inside.words c.args.mask c.args.pattern c.self.invariant c.requires.mask c.requires.pattern
    ∙ ap (λ (s : Scsw). all_of (matched c.args.mask c.args.pattern 8 (flags_from_8 s))) c.self.view_is
