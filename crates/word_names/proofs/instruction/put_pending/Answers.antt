use Rattle.std.proofs.Common.{◌++◌}
use Rattle.std.specs.Prelude.{codes}
use Rattle.streams.proofs.Sinking.{takes_then}
use Rattle.word_names.specs.CodeWords as spec
use Rattle.word_parts.proofs.Growing.{failed_so}
use Rattle.word_names.proofs.instruction.put_pending.Goals as goal

pub returns-then-put_opened_status : goal.returns-then-put_opened_status
returns-then-put_opened_status g c =
    takes_then _ _ _ (codes "  status is pending (" ++ spec.status_text c.args.control) (codes ")") _ c.if-put_opened_status.ensures c.put.ensures

pub returns-else-put_opened_status : goal.returns-else-put_opened_status
returns-else-put_opened_status g c =
    failed_so _ _ (codes "  status is pending (" ++ spec.status_text c.args.control) (codes ")") _ c.if-put_opened_status.false c.if-put_opened_status.ensures
