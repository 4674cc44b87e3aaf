-- The seven words are their items, which show the table.
use Rattle.std.proofs.Common.{rules}
use Rattle.schib_block.proofs.SchibLemmas.{seven_shown}
use Rattle.schib_block.proofs.pmcw.Pmcw.of_words.Goals as goal

pub returns-clause-shown : goal.returns-clause-shown
returns-clause-shown c = seven_shown c.args.words.now _ c.told-words (search rules)
