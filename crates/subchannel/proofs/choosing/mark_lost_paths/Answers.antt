use Rattle.std.proofs.Common.{◌≡◌, refl, sym, ◌∙◌, ap, ap₂, Bool, true, false, List, length}
use Rattle.std.specs.Prelude.{if◌then◌else◌}
use Rattle.allegiance.specs.declared.path_use.PathUse.{PathUse}
use Rattle.subchannel_model.specs.declared.state.Subchannel.{Subchannel}
use Rattle.subchannel.proofs.Kept.{kept_without, kept_joined}
use Rattle.allegiance.specs.PathUse.{lost_paths}
use Rattle.chan_model.specs.PathSets.{is_any}
use Rattle.subchannel_model.specs.Choosing.{looks_for_path, marked_state, path_use}
use Rattle.subchannel.proofs.choosing.mark_lost_paths.Goals as goal

-- where no path is looked for
unmarked : (sub : Subchannel) (used : PathUse) (looks : Bool) → looks ≡ false → sub ≡ record sub { state = marked_state sub.state used looks }
unmarked sub used false e = refl
unmarked sub used true e = absurd (cc e)

pub returns-else-looks_for_path : goal.returns-else-looks_for_path
returns-else-looks_for_path c =
    unmarked c.args.sub.now (path_use c.args.sub.now) (looks_for_path c.args.sub.now.state c.args.choice.now)
    (sym c.looks_for_path.ensures ∙ c.if-looks_for_path.false)

-- where no path is lost
spared : (sub : Subchannel) (looks : Bool) (none : is_any (lost_paths (path_use sub)) ≡ false) →
    length sub.state.pmcw.operational ≡ 8 → length sub.state.pmcw.not_operational ≡ 8 →
    sub ≡ record sub { state = marked_state sub.state (path_use sub) looks }
spared sub false none first second = refl
spared sub true none first second =
    let lost : List Bool = lost_paths (path_use sub) in
    let pmcw = sub.state.pmcw in
    let shape : List Bool → List Bool → Bool → Subchannel = λ operational found any. record sub {
      state = record sub.state {
        pmcw = record sub.state.pmcw { operational = operational; not_operational = found };
        scsw = record sub.state.scsw { path_not_operational = if any then true else sub.state.scsw.path_not_operational };
      };
    } in
    sym (ap₂ (λ (o n : List Bool). shape o n (is_any lost)) (kept_without pmcw.operational lost first none) (kept_joined pmcw.not_operational lost second none)
    ∙ ap (shape pmcw.operational pmcw.not_operational) none)

pub returns-then-not-is_any_lost : goal.returns-then-not-is_any_lost
returns-then-not-is_any_lost c =
    spared c.args.sub.now (looks_for_path c.args.sub.now.state c.args.choice.now) (sym c.is_any_lost.ensures ∙ c.if-not-is_any_lost.true) c.has_each_path.ensures.operational c.has_each_path.ensures.not_operational
