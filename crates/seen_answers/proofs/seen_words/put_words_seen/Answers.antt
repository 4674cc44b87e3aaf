use Rattle.script_text.proofs.Printing.{failed_so}
use Rattle.streams.proofs.Sinking.{takes_then}
use Rattle.seen_answers.specs.SeenWords as spec
use Rattle.seen_answers.proofs.seen_words.put_words_seen.Goals as goal

pub returns-then-put_title_control : goal.returns-then-put_title_control
returns-then-put_title_control g c =
    takes_then _ _ _ (spec.title_control c.args.control) (spec.pending_text c.args.control c.args.address c.args.word) _ c.if-put_title_control.ensures c.put_pending.ensures

pub returns-else-put_title_control : goal.returns-else-put_title_control
returns-else-put_title_control g c =
    failed_so _ _ (spec.title_control c.args.control) (spec.pending_text c.args.control c.args.address c.args.word) _ c.if-put_title_control.false c.if-put_title_control.ensures
