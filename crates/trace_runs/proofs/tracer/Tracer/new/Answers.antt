use Rattle.std.proofs.Common.{rules, subst}
use Rattle.machine_sight.specs.Shown.{TellsWaiting}
use Rattle.trace_runs.proofs.tracer.Tracer.new.Goals as goal

pub returns-in-Ok-clause-seen : goal.returns-in-Ok-clause-seen
returns-in-Ok-clause-seen g c = record {
  shown = search rules;
  told = subst (λ s. TellsWaiting s c.in_ok-parties.parties.subchannels.items c.in-Ok.seen.waiting) c.subsystem.ensures.state c.in-Ok.ensures.told;
}
