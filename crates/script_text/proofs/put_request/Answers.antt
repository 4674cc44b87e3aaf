use Rattle.std.proofs.Common.{codes, map}
use Rattle.std.specs.List.{flat_map}
use Rattle.zbits.specs.Layout.{word_of}
use Rattle.scsw_irb.specs.CodeTable.{code_tables}
use Rattle.streams.proofs.Sinking.{takes_then}
use Rattle.script_text.specs.Text as spec
use Rattle.script_text.proofs.Printing.{failed_so}
use Rattle.script_text.proofs.put_request.Goals as goal

pub returns-then-put_code : goal.returns-then-put_code
returns-then-put_code g c =
    takes_then _ _ _ (codes "cc 1") (flat_map spec.word_text (map word_of (code_tables c.args.code.now))) _ c.if-put_code.ensures c.put_int_code.ensures

pub returns-else-put_code : goal.returns-else-put_code
returns-else-put_code g c =
    failed_so _ _ (codes "cc 1") (flat_map spec.word_text (map word_of (code_tables c.args.code.now))) _ c.if-put_code.false c.if-put_code.ensures
