use Rattle.idaw.specs.Lists.{block}
use Rattle.idaw.specs.Places.{place_of_byte, reach_with_word}
use Rattle.data_move.proofs.ListLemmas.{each_below_same}
use Rattle.data_move.proofs.PieceLemmas.{begun_at, word_at, word_keeps, moved_at, moved_places}
use Rattle.data_move.proofs.law.pieces.Goals as goal

pub returns-clause-begins : goal.returns-clause-begins
returns-clause-begins c = begun_at

pub returns-clause-word : goal.returns-clause-word
returns-clause-word c = word_at

pub returns-clause-stays : goal.returns-clause-stays
returns-clause-stays c = λ r m w a list. each_below_same (place_of_byte (block m.kind) (reach_with_word r w)) (place_of_byte (block m.kind) r) m.done (word_keeps r m w a list)

pub returns-clause-moved : goal.returns-clause-moved
returns-clause-moved c = moved_at

pub returns-clause-places : goal.returns-clause-places
returns-clause-places c = moved_places
