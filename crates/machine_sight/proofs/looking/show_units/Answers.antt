use Rattle.std.proofs.Common.{rules, ◌∙◌, ap, sym, ◌∷◌, ◌++◌, []}
use Rattle.machine_sight.proofs.Seeing.{taken-more}
use Rattle.machine_sight.proofs.looking.show_units.Goals as goal

pub loop-number-preserved : goal.loop-number-preserved
loop-number-preserved g c = record {
  shown = c.in_ok-show_unit_at.ensures.put ∙ (ap (λ us. us ++ c.in-Some.unit.now ∷ []) c.loop-number.invariant.shown
      ∙ sym (taken-more (g.L.Looks.state c.args.looks.now).units c.loop-number.number c.in-Some.unit.now c.in-Some.ensures.found));
  there = c.in_ok-show_unit_at.ensures.length;
  short = c.in_ok-show_unit_at.ensures.bound _ (search rules) c.loop-number.invariant.short;
  unrefused = search rules;
}
