use Rattle.std.proofs.Common.{arith, length, sym, rules}
use Rattle.std.proofs.lemmas.List.{drop_all, take_all}
use Rattle.script.proofs.Parting.{ended, joined, whole}
use Rattle.script.proofs.Seeking.{none_of}
use Rattle.script.proofs.pieces.marked_words_to.Goals as goal

pub loop-blanks-preserved : goal.loop-blanks-preserved
loop-blanks-preserved g c =
    let old = c.loop-blanks.invariant in
    record {
      marked = c.split_word-more.ensures.marked;
      few = omega (arith, old.few, c.split_word-more.ensures.shorter);
      room = omega (arith, old.room, c.split_word-more.ensures.shorter, c.push_reserved.ensures.len, c.push_reserved.ensures.capacity);
      parts = joined (λ p. p.now) c.loop-blanks.found.items _ _ 32 c.loop-blanks.rest.now c.split_word-more.result.1.now c.args.line.now c.push_reserved.ensures.items old.parts c.split_word-more.ensures.parts;
      unrefused = old.unrefused;
    }

pub returns-clause-parts : goal.returns-clause-parts
returns-clause-parts g c =
    let rest = c.loop-blanks.rest.now in
    let old = c.loop-blanks.invariant in
    ended (λ p. p.now) c.loop-blanks.found.items _ _ 32 (length rest) rest c.args.line.now c.push_reserved-2.ensures.items (sym (take_all (length rest) rest (omega arith))) old.parts
    (whole 32 rest (length rest) (none_of rest 32 c.loop-blanks.blanks old.marked (search rules)) (drop_all (length rest) rest (omega arith)))
