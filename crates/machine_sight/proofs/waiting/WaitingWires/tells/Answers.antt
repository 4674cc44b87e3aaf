use Rattle.std.proofs.Common.{rules, ◌∙◌}
use Rattle.step_records.specs.declared.record.Way.TheVariants.{Down, Up}
use Rattle.machine_sight.proofs.waiting.WaitingWires.tells.Goals as goal

pub returns-then-not-are_told : goal.returns-then-not-are_told
returns-then-not-are_told c = (
  (λ t. absurd (cc t)),
  (λ all. absurd (cc (c.are_told.ensures.1 (c.signals.ensures ∙ all Down c.in-Some.path (search rules))))),
)

pub returns-then-not-are_told-2 : goal.returns-then-not-are_told-2
returns-then-not-are_told-2 c = (
  (λ t. absurd (cc t)),
  (λ all. absurd (cc (c.are_told-in-loop-index.ensures.1 (c.signals-in-loop-index.ensures ∙ all Up c.in-Some.path (search rules))))),
)
