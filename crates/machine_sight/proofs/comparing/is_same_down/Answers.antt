use Rattle.std.proofs.Common.{sym, ap, ◌∙◌}
use Rattle.chan_model.specs.Signals.{down_bytes}
use Rattle.machine_sight.proofs.Sameness.{downs_kept, downs_same}
use Rattle.machine_sight.proofs.comparing.is_same_down.Goals as goal

pub returns-then-same_kept_down : goal.returns-then-same_kept_down
returns-then-same_kept_down c =
    let here = c.bytes-first.ensures.value in
    let there = c.bytes-second.ensures.value in (
      (λ t. downs_same _ _ _ _ c.keep-one.ensures.kept c.keep-two.ensures.kept (c.same_kept_down.ensures.0 c.if-same_kept_down.true)
          (sym here ∙ (c.same_bytes.ensures.0 t ∙ there))),
      (λ same. c.same_bytes.ensures.1 (here ∙ (ap down_bytes same ∙ sym there))),
    )

pub returns-else-same_kept_down : goal.returns-else-same_kept_down
returns-else-same_kept_down c = (
  (λ t. absurd (cc t)),
  (λ same. absurd (cc (c.same_kept_down.ensures.1
      (downs_kept _ _ _ _ c.keep-one.ensures.kept c.keep-one.ensures.length c.keep-two.ensures.kept c.keep-two.ensures.length same)))),
)
