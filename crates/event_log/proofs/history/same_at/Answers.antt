use Rattle.std.proofs.Common.{sym, ◌∙◌}
use Rattle.event_log.proofs.Sameness.{from_parts, to_parts}
use Rattle.event_log.proofs.history.same_at.Goals as goal

pub returns-then-same_kept : goal.returns-then-same_kept
returns-then-same_kept c =
    let k = c.args.one.now in
    let l = c.args.other.now in
    let a = c.args.bytes.now in
    let b = c.args.other_bytes.now in
    let here = c.bytes_of.ensures.value in
    let there = c.bytes_of-then-same_kept.ensures.value in (
      (λ t. from_parts k l a b (c.same_kept.ensures.0 c.if-same_kept.true) (sym here ∙ (c.same_bytes.ensures.0 t ∙ there))),
      (λ same. c.same_bytes.ensures.1 (here ∙ ((to_parts k l a b c.requires.one c.requires.other same).1 ∙ sym there))),
    )
