use Rattle.std.proofs.Common.{◌≤◌, take, length}
use Rattle.std.specs.Io.KnownBytes.{Appends}
use Rattle.streams.proofs.put_all.Given as goal

abbrev pub invariant-loop : goal.invariant-loop
invariant-loop g l = record {
  bound : l.done ≤ length l.bytes;
  written : Appends (g.W.Write.contents l.fn.writer) (g.W.Write.contents l.writer) (take l.done l.bytes);
}
