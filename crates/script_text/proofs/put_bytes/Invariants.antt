use Rattle.std.proofs.Common.{take}
use Rattle.std.specs.List.{flat_map}
use Rattle.script_text.specs.Text as spec
use Rattle.streams.specs.Sinks.{TakesText}
use Rattle.script_text.proofs.put_bytes.Given as goal

abbrev pub invariant-loop-byte : goal.invariant-loop-byte
invariant-loop-byte g l = TakesText (g.S.Sink.seen l.fn.sink) (flat_map spec.byte_text (take l.byte-index l.bytes)) (g.S.Sink.seen l.sink)
