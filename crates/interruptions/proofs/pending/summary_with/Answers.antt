use Rattle.std.proofs.Common.{◌∙◌, sym, ap, ◌==◌, Bool}
use Rattle.std.specs.Prelude.{if◌then◌else◌}
use Rattle.interruptions.specs.Indices.{has_subclass}
use Rattle.interruptions.proofs.Bytes.{bit-cleared, bit-set}
use Rattle.interruptions.proofs.pending.summary_with.Goals as goal

pub returns-then-waits : goal.returns-then-waits
returns-then-waits c = λ other small.
    bit-set c.args.summary c.args.subclass other c.requires small
    ∙ ap (λ (b : Bool). if c.args.subclass == other then b else has_subclass c.args.summary other) (sym c.if-waits.true)

pub returns-else-waits : goal.returns-else-waits
returns-else-waits c = λ other small.
    bit-cleared c.args.summary c.args.subclass other c.requires small
    ∙ ap (λ (b : Bool). if c.args.subclass == other then b else has_subclass c.args.summary other) (sym c.if-waits.false)
