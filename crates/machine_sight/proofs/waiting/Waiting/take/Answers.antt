use Rattle.std.proofs.Common.{rules}
use Rattle.std.proofs.lemmas.Option.{slice_get_read}
use Rattle.machine_sight.proofs.Wiring.{is_taken}
use Rattle.machine_sight.proofs.waiting.Waiting.take.Goals as goal

pub returns-clause-taken : goal.returns-clause-taken
returns-clause-taken c = λ taken.
    is_taken c.args.self.now _ c.args.wire.now c.index_mut.result.now c.take.new.self c.args.signal.now (search (slice_get_read, rules))
    (c.take.ensures.taken taken) (search rules)
