use Rattle.std.proofs.Common.{refl}
use Rattle.schib_block.specs.Reading.{pmcw_of_words}
use Rattle.io_step.proofs.Executions.{not-allowed}
use Rattle.io_step.proofs.operands.allowed_word.Goals as goal

pub returns-else-is_allowed-clause-refused : goal.returns-else-is_allowed-clause-refused
returns-else-is_allowed-clause-refused c =
    let given = pmcw_of_words c.word_in-given.result in
    (given, c.word_in-given.ensures.shown, not-allowed given c.is_allowed.result c.if-is_allowed.false c.is_allowed.ensures.1, refl)
