use Rattle.script_text.specs.Text as spec
use Rattle.script_text.proofs.Printing.{failed_within}
use Rattle.script_text.proofs.put_words.Goals as goal

pub returns-then-not-put_word : goal.returns-then-not-put_word
returns-then-not-put_word g c =
    failed_within _ _ _ spec.word_text c.args.words.now c.loop-word.word-index c.loop-word-test.true c.loop-word.invariant c.if-not-put_word.ensures
