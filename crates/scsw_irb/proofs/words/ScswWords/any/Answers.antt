use Rattle.std.proofs.Common.{◌∙◌, ap}
use Rattle.scsw_irb.specs.declared.scsw.Scsw.{Scsw}
use Rattle.zbits.specs.Flags.{picked, some_of}
use Rattle.scsw_irb.specs.ScswChanges.{flags_from_8}
use Rattle.scsw_irb.proofs.ScswShowing.{any-is}
use Rattle.scsw_irb.proofs.words.ScswWords.any.Goals as goal

pub returns : goal.returns
returns c = any-is c.self.inside.words c.args.mask c.self.invariant c.requires ∙ ap (λ (s : Scsw). some_of (picked c.args.mask 8 (flags_from_8 s))) c.self.view_is
