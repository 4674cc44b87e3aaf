use Rattle.idaw.proofs.WordLemmas.{word_stays, word_next, word_reaches}
use Rattle.idaw.proofs.law.words.Goals as goal

pub returns-clause-stays : goal.returns-clause-stays
returns-clause-stays c = word_stays

pub returns-clause-next : goal.returns-clause-next
returns-clause-next c = word_next

pub returns-clause-reaches : goal.returns-clause-reaches
returns-clause-reaches c = word_reaches
