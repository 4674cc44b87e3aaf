use Rattle.std.proofs.Common.{rules, arith, ◌≤◌, length}
use Rattle.trace_driver.proofs.Going.{begun}
use Rattle.trace_driver.proofs.Rows.{row_took, row_failed, rows_ended, few_more}
use Rattle.trace_driver.proofs.driver.put_rows.Goals as goal

pub loop-told-init : goal.loop-told-init
loop-told-init g c = (begun _ _, omega arith)

pub returns-then-not-put_row : goal.returns-then-not-put_row
returns-then-not-put_row g c =
    row_failed _ _ _ c.args.trace.now c.args.drawing c.loop-told.unseen c.args.records.now c.loop-told.told-index c.told-item.result _ c.loop-told-test.true c.told-item.is
    c.loop-told.invariant.0 c.if-not-put_row.ensures

pub loop-told-preserved : goal.loop-told-preserved
loop-told-preserved g c = (
  row_took _ _ _ c.args.trace.now c.args.drawing c.loop-told.unseen _ c.args.records.now c.loop-told.told-index c.told-item.result _ c.loop-told-test.true c.told-item.is
      c.next_unseen-unseen.ensures c.loop-told.invariant.0 c.if-not-put_row.ensures,
  few_more c.loop-told.unseen _ _ _ c.loop-told.told-index c.next_unseen-unseen.ensures c.loop-told.invariant.1,
)

pub returns : goal.returns
returns g c =
    let past : length c.args.records.now ≤ c.loop-told.told-index = search rules in
    rows_ended _ _ _ c.args.trace.now c.args.drawing c.loop-told.unseen c.args.records.now c.loop-told.told-index _ _ past
    c.loop-told.invariant.0 c.put_last_gap.ensures
