use Rattle.std.proofs.Common.{rules, ◌∙◌, ap, sym}
use Rattle.std.proofs.lemmas.Option.{slice_get_read}
use Rattle.machine_model.specs.State.{sub_of}
use Rattle.refusal_reasons.proofs.signals.wires_at.Goals as goal

pub returns-clause-found : goal.returns-clause-found
returns-clause-found g c = record {
  setup = c.in_ok-setup.setup.now;
  named = search (slice_get_read, rules);
  sub = c.in_ok-subchannel.subchannel.now;
  there = ap (λ w. sub_of (g.L.Looks.state c.args.looks.now) w) (sym c.word_of.ensures) ∙ c.in_ok-subchannel.ensures.found;
  are = search rules;
}
