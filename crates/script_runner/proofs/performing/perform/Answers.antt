use Rattle.std.proofs.Common.{refl}
use Rattle.script_runner.proofs.Growing.{none_refused_more, not_whole, performed_none, performed_to, stopped_at, whole_if}
use Rattle.script_runner.proofs.performing.perform.Goals as goal

pub loop-index-init : goal.loop-index-init
loop-index-init g c = record { performed = performed_none _ _ _; unrefused = λ e. refl }

pub loop-index-preserved : goal.loop-index-preserved
loop-index-preserved g c =
    let i = c.loop-index.invariant in
    let done = c.perform_one-written.ensures in
    record {
      performed = performed_to _ _ _ _ _ c.args.lines.now c.loop-index.index _ _ _ _ _ _ c.in-Some.ensures.line i.performed done (whole_if _ c.if-not-written.false);
      unrefused = none_refused_more _ _ _ _ _ _ _ _ _ _ i.unrefused done;
    }

pub returns-then-not-written-clause-performs : goal.returns-then-not-written-clause-performs
returns-then-not-written-clause-performs g c =
    let i = c.loop-index.invariant in
    let done = c.perform_one-written.ensures in
    stopped_at _ _ _ _ _ c.args.lines.now c.loop-index.index _ _ _ _ _ _ c.in-Some.ensures.line i.performed done (not_whole _ c.if-not-written.true)

pub returns-then-not-written-clause-unrefused : goal.returns-then-not-written-clause-unrefused
returns-then-not-written-clause-unrefused g c =
    let i = c.loop-index.invariant in
    none_refused_more _ _ _ _ _ _ _ _ _ _ i.unrefused c.perform_one-written.ensures
