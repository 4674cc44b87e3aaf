use Rattle.std.proofs.Common.{arith}
use Rattle.script.proofs.Seeking.{marked, unmarked, joined}
use Rattle.script.proofs.pieces.find.Goals as goal

pub returns-then-marked-ne0-clause-within : goal.returns-then-marked-ne0-clause-within
returns-then-marked-ne0-clause-within c =
    let first = marked c.args.bytes.now c.args.byte c.loop-index.index _ (omega arith) c.marks-marked.ensures (omega arith) in
    omega (arith, first.within)

pub returns-then-marked-ne0-clause-before : goal.returns-then-marked-ne0-clause-before
returns-then-marked-ne0-clause-before c =
    let first = marked c.args.bytes.now c.args.byte c.loop-index.index _ (omega arith) c.marks-marked.ensures (omega arith) in
    joined c.args.bytes.now c.args.byte c.loop-index.index _ c.loop-index.invariant.1 first.before

pub returns-then-marked-ne0-clause-found : goal.returns-then-marked-ne0-clause-found
returns-then-marked-ne0-clause-found c within =
    let first = marked c.args.bytes.now c.args.byte c.loop-index.index _ (omega arith) c.marks-marked.ensures (omega arith) in
    first.found

pub loop-index-preserved : goal.loop-index-preserved
loop-index-preserved c = (
  omega arith,
  joined c.args.bytes.now c.args.byte c.loop-index.index _ c.loop-index.invariant.1
      (unmarked c.args.bytes.now c.args.byte c.loop-index.index _ (omega arith) c.marks-marked.ensures (omega arith)),
)

pub returns-clause-before : goal.returns-clause-before
returns-clause-before c = joined c.args.bytes.now c.args.byte c.loop-index.index _ c.loop-index.invariant.1 c.find_from.ensures.before
