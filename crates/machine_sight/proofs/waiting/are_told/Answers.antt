use Rattle.std.proofs.Common.{arith, rules, ap, sym, ◌∙◌, List, length}
use Rattle.std.specs.Prelude.{slice_get}
use Rattle.step_records.specs.declared.record.Signal.{Signal}
use Rattle.std.proofs.lemmas.Option.{slice_get_read}
use Rattle.machine_sight.proofs.Seeing.{all-told, none-past, told-same}
use Rattle.machine_sight.proofs.waiting.are_told.Goals as goal

pub loop-index-preserved : goal.loop-index-preserved
loop-index-preserved c =
    told-same _ _ c.loop-index.index c.index-signals-index.result c.loop-index.invariant (search (slice_get_read, rules)) (c.is_at.ensures.0 (search rules))

pub returns : goal.returns
returns c = (
  (λ past. all-told _ _ c.loop-index.index (omega (arith, c.loop-index-test.false, c.loop-index.auto.index-end)) c.loop-index.invariant (c.is_past.ensures.0 past)),
  (λ same. c.is_past.ensures.1 (ap (λ (ss : List Signal). slice_get ss (length c.args.signals.now)) (sym same) ∙ none-past c.args.signals.now)),
)
