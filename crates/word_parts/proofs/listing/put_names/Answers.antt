use Rattle.word_parts.proofs.Growing.{some_named, none_named}
use Rattle.word_parts.proofs.listing.put_names.Goals as goal

pub returns-then-shows_any : goal.returns-then-shows_any
returns-then-shows_any g c = some_named _ _ c.args.separator.now c.args.parts.now c.args.word _ _ c.shows_any.ensures c.if-shows_any.true c.put_parts.ensures

pub returns-else-shows_any : goal.returns-else-shows_any
returns-else-shows_any g c = none_named _ _ c.args.separator.now c.args.parts.now c.args.word _ _ c.shows_any.ensures c.if-shows_any.false c.put.ensures
