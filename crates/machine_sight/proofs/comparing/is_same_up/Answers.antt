use Rattle.std.proofs.Common.{sym, ap, ◌∙◌}
use Rattle.chan_model.specs.Signals.{up_bytes}
use Rattle.machine_sight.proofs.Sameness.{ups_kept, ups_same}
use Rattle.machine_sight.proofs.comparing.is_same_up.Goals as goal

pub returns-then-same_kept_up : goal.returns-then-same_kept_up
returns-then-same_kept_up c =
    let here = c.bytes-first.ensures.value in
    let there = c.bytes-second.ensures.value in (
      (λ t. ups_same _ _ _ _ c.keep-one.ensures.kept c.keep-two.ensures.kept (c.same_kept_up.ensures.0 c.if-same_kept_up.true)
          (sym here ∙ (c.same_bytes.ensures.0 t ∙ there))),
      (λ same. c.same_bytes.ensures.1 (here ∙ (ap up_bytes same ∙ sym there))),
    )

pub returns-else-same_kept_up : goal.returns-else-same_kept_up
returns-else-same_kept_up c = (
  (λ t. absurd (cc t)),
  (λ same. absurd (cc (c.same_kept_up.ensures.1
      (ups_kept _ _ _ _ c.keep-one.ensures.kept c.keep-one.ensures.length c.keep-two.ensures.kept c.keep-two.ensures.length same)))),
)
