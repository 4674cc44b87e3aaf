use Rattle.script.proofs.Parting.{headed}
use Rattle.script.proofs.text.TextLine.first.Goals as goal

pub returns : goal.returns
returns c = headed 10 c.args.text.now c.find.result c.find.ensures.within c.find.ensures.before c.find.ensures.found
