use Rattle.std.proofs.Common.{◌≡◌, take}
use Rattle.std.specs.Prelude.{map}
use Rattle.word_parts.specs.Parts as spec
use Rattle.streams.specs.Sinks.{TakesText}
use Rattle.word_parts.proofs.listing.put_parts.Given as goal

abbrev pub invariant-loop-part : goal.invariant-loop-part
invariant-loop-part g l =
    TakesText (g.S.Sink.seen l.fn.sink) (spec.listed l.begun l.separator (spec.texts_of (map spec.part_of (take l.part-index l.parts)) l.word)) (g.S.Sink.seen l.sink)
    × (l.now ≡ spec.begun_after l.begun (spec.texts_of (map spec.part_of (take l.part-index l.parts)) l.word))
