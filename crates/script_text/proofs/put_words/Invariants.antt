use Rattle.std.proofs.Common.{take}
use Rattle.std.specs.List.{flat_map}
use Rattle.script_text.specs.Text as spec
use Rattle.streams.specs.Sinks.{TakesText}
use Rattle.script_text.proofs.put_words.Given as goal

abbrev pub invariant-loop-word : goal.invariant-loop-word
invariant-loop-word g l = TakesText (g.S.Sink.seen l.fn.sink) (flat_map spec.word_text (take l.word-index l.words)) (g.S.Sink.seen l.sink)
