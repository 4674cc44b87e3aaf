use Rattle.std.proofs.Common.{◌≤◌, drop}
use Rattle.trace_driver.specs.Driver.{none, rows_text, count}
use Rattle.trace_driver.proofs.Going.{Goes}
use Rattle.trace_driver.proofs.driver.put_rows.Given as goal

-- what is due of the records that are left; and no more events were counted than records were met
abbrev pub invariant-loop-told : goal.invariant-loop-told
invariant-loop-told g l =
    Goes (g.S.Sink.seen l.fn.sink) (g.S.Sink.seen l.sink) (rows_text l.trace l.drawing l.unseen (drop l.told-index l.records)) (rows_text l.trace l.drawing none l.records)
    × (count l.unseen ≤ l.told-index)
