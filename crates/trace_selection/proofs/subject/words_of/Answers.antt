use Rattle.std.proofs.Common.{refl, rules}
use Rattle.trace_selection.proofs.Parting.{eight_words, last_word, next_word}
use Rattle.trace_selection.proofs.subject.words_of.Goals as goal

pub returns-then-end-rest : goal.returns-then-end-rest
returns-then-end-rest c =
    last_word (λ w. w.now) c.loop-rest.words.items _ _ c.find-end.result c.loop-rest.rest.now c.args.line.now c.push.ensures.items refl c.loop-rest.invariant.2 (search rules)
    c.find-end.ensures.before (search rules)

pub loop-rest-preserved : goal.loop-rest-preserved
loop-rest-preserved c = (
  search rules,
  search rules,
  next_word (λ w. w.now) c.loop-rest.words.items _ _ c.find-end.result c.loop-rest.rest.now c.args.line.now c.push.ensures.items refl c.loop-rest.invariant.2 (search rules)
      c.find-end.ensures.before c.find-end.ensures.found,
)

pub returns : goal.returns
returns c = eight_words (λ w. w.now) c.loop-rest.words.items c.loop-rest.rest.now c.args.line.now c.loop-rest.invariant.2 (search rules)
