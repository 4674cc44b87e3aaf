use Rattle.std.proofs.Common.{codes}
use Rattle.script_text.specs.Text.{byte_text}
use Rattle.script_text.proofs.Printing.{failed_so}
use Rattle.streams.proofs.Sinking.{takes_then}
use Rattle.seen_answers.proofs.seen_answer.put_path_name.Goals as goal

pub returns-then-put : goal.returns-then-put
returns-then-put g c = takes_then _ _ _ (codes "cc 0  channel path ") (byte_text c.args.path) _ c.if-put.ensures c.put_two_digits.ensures

pub returns-else-put : goal.returns-else-put
returns-else-put g c = failed_so _ _ (codes "cc 0  channel path ") (byte_text c.args.path) _ c.if-put.false c.if-put.ensures
