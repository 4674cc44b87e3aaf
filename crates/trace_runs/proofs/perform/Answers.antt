use Rattle.std.proofs.Common.{◌∙◌, refl}
use Rattle.trace_runs.proofs.Growing.{traced_none, traced_to}
use Rattle.trace_runs.proofs.perform.Goals as goal

pub loop-index-init : goal.loop-index-init
loop-index-init g c = record { traced = traced_none _ _ _ c.requires.none; parties = refl; seen = c.requires.seen }

pub loop-index-preserved : goal.loop-index-preserved
loop-index-preserved g c =
    let stepped = c.in_ok-step.ensures.stepped c.loop-index.invariant.seen in
    record {
      traced = traced_to _ _ _ _ c.args.lines.now c.loop-index.index _ _ _ c.in-Some.ensures.line c.loop-index.invariant.parties
          c.loop-index.invariant.traced stepped;
      parties = stepped.parties_stay ∙ c.loop-index.invariant.parties;
      seen = stepped.seen;
    }
