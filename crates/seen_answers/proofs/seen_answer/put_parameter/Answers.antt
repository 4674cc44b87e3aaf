use Rattle.std.proofs.Common.{ℕ, ◌++◌, codes, ap}
use Rattle.record_text.specs.Numbers.{hexadecimal, eight_digits}
use Rattle.script_text.proofs.Printing.{same_text, failed_so}
use Rattle.streams.proofs.Sinking.{takes_then}
use Rattle.seen_answers.proofs.seen_answer.put_parameter.Goals as goal

pub returns-then-put_titled_word : goal.returns-then-put_titled_word
returns-then-put_titled_word g c =
    let code = c.args.code.now in
    takes_then _ _ _ (codes ", parameter " ++ eight_digits code.parameter) (codes ", subclass " ++ hexadecimal code.subclass) _ c.if-put_titled_word.ensures
    (same_text _ _ _ _ _ (ap (λ (n : ℕ). codes ", subclass " ++ hexadecimal n) c.from.ensures) c.put_named.ensures)

pub returns-else-put_titled_word : goal.returns-else-put_titled_word
returns-else-put_titled_word g c =
    let code = c.args.code.now in
    failed_so _ _ (codes ", parameter " ++ eight_digits code.parameter) (codes ", subclass " ++ hexadecimal code.subclass) _ c.if-put_titled_word.false c.if-put_titled_word.ensures
