use Rattle.std.proofs.Common.{codes}
use Rattle.streams.proofs.Sinking.{takes_then}
use Rattle.script_text.specs.Text as spec
use Rattle.script_text.proofs.Printing.{failed_so}
use Rattle.script_text.proofs.put_named_paths.Goals as goal

pub returns-then-put : goal.returns-then-put
returns-then-put g c = takes_then _ _ _ (codes "paths") (spec.engaged_text c.args.engaged.now 256) _ c.if-put.ensures c.put_engaged.ensures

pub returns-else-put : goal.returns-else-put
returns-else-put g c = failed_so _ _ (codes "paths") (spec.engaged_text c.args.engaged.now 256) _ c.if-put.false c.if-put.ensures
