use Rattle.std.proofs.Common.{rules, ◌∙◌, ap, sym}
use Rattle.std.proofs.lemmas.Option.{slice_get_read}
use Rattle.machine_model.specs.State.{sub_of}
use Rattle.machine_sight.proofs.Seeing.{shown-at}
use Rattle.machine_sight.proofs.looking.show_subchannels.Goals as goal

pub loop-index-preserved : goal.loop-index-preserved
loop-index-preserved g c = record {
  shown = shown-at (g.L.Looks.state c.args.looks.now) c.args.parties.now.subchannels.items c.loop-index.index c.index.result.now c.loop-index.list.items _ _
      c.loop-index.invariant.shown (search (slice_get_read, rules)) (record {
        sub = c.in-Some.sub.now;
        there = ap (λ w. sub_of (g.L.Looks.state c.args.looks.now) w) (sym c.word_of.ensures) ∙ c.in-Some.ensures.found;
        setup = search rules;
        as_it_is = search rules;
      }) c.in_ok-show_state_at.ensures.put;
  there = c.in_ok-show_state_at.ensures.length;
  short = c.in_ok-show_state_at.ensures.bound _ (search rules) c.loop-index.invariant.short;
  unrefused = search rules;
}
