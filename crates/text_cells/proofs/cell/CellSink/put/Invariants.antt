use Rattle.std.proofs.Common.{◌≡◌, Some, take}
use Rattle.streams.specs.Sinks.{TakesText}
use Rattle.text_cells.proofs.cell.CellSink.put.Given as goal

abbrev pub invariant-loop-byte : goal.invariant-loop-byte
invariant-loop-byte l =
    (l.self.limit ≡ l.fn.self.limit) × TakesText (record { bytes = Some (take l.fn.self.length l.fn.self.room); failed = l.fn.self.failed }) (take l.byte-index l.bytes)
    (record { bytes = Some (take l.self.length l.self.room); failed = l.self.failed })
