use Rattle.std.proofs.Common.{refl}
use Rattle.streams.proofs.Sinking.{rest_then}
use Rattle.streams.proofs.CheckedWriterSink.put.Goals as goal

pub returns-else-n-bytes : goal.returns-else-n-bytes
returns-else-n-bytes g c = rest_then _ (record { bytes = g.W.Write.contents c.put_some.new.writer; failed = c.args.self.now.failed }) _ c.args.bytes.now c.in-Some.n _ c.in-Some.ensures.some.1 refl c.put_rest.ensures
