use Rattle.std.proofs.Common.{codes, ◌++◌}
use Rattle.zbits.specs.Bits.{field_of}
use Rattle.script_text.proofs.Printing.{failed_so}
use Rattle.streams.proofs.Sinking.{takes_then}
use Rattle.seen_answers.specs.SeenWords as spec
use Rattle.seen_answers.proofs.seen_words.put_ending.Goals as goal

pub returns-then-put_titled_statuses : goal.returns-then-put_titled_statuses
returns-then-put_titled_statuses g c =
    takes_then _ _ _ (codes "; " ++ spec.statuses_text (field_of c.args.word 0 7) (field_of c.args.word 8 15)) (spec.count_text c.args.address c.args.word) _
    c.if-put_titled_statuses.ensures c.put_count.ensures

pub returns-else-put_titled_statuses : goal.returns-else-put_titled_statuses
returns-else-put_titled_statuses g c =
    failed_so _ _ (codes "; " ++ spec.statuses_text (field_of c.args.word 0 7) (field_of c.args.word 8 15)) (spec.count_text c.args.address c.args.word) _
    c.if-put_titled_statuses.false c.if-put_titled_statuses.ensures
