use Rattle.std.proofs.Common.{rules}
use Rattle.std.proofs.lemmas.Option.{slice_get_read}
use Rattle.machine_sight.proofs.Wiring.{put_then}
use Rattle.machine_sight.proofs.waiting.Waiting.put.Goals as goal

pub returns-clause-put : goal.returns-clause-put
returns-clause-put g c =
    put_then c.put.result c.args.self.now _ c.args.wire.now c.index_mut.result.now c.put.new.self c.args.signal.now c.put.ensures.put
    (search (slice_get_read, rules)) (search rules)
