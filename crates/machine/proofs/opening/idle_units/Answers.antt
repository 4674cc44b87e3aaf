use Rattle.std.proofs.Common.{◌∙◌, ap, sym, List, [], ◌∷◌, ◌++◌, take, map, slice_index_or}
use Rattle.std.proofs.lemmas.List.{take_more, map-append}
use Rattle.channel_config.specs.declared.parts.UnitKind.{UnitKind}
use Rattle.channel_config.specs.declared.parts.UnitKind.TheVariants.{Block}
use Rattle.chan_model.specs.UnitTable.{idle_unit}
use Rattle.chan_model.specs.declared.unit_state.UnitState.{UnitState}
use Rattle.machine_model.specs.State.{idle_of}
use Rattle.machine.proofs.opening.idle_units.Goals as goal

pub loop-kind-preserved : goal.loop-kind-preserved
loop-kind-preserved g c =
    let kinds = c.args.kinds.now in
    let k = c.loop-kind.kind-index in
    record {
      made =
          c.in_ok-push.ensures.pushed
          ∙ (ap (λ (u : UnitState). c.loop-kind.units.items ++ u ∷ []) c.idle.ensures
          ∙ (ap (λ (us : List UnitState). us ++ idle_unit ∷ []) c.loop-kind.invariant.made
          ∙ (sym (map-append idle_of (take k kinds) (slice_index_or kinds k Block ∷ []))
          ∙ ap (λ (ks : List UnitKind). map idle_of ks) (sym (take_more kinds k Block c.loop-kind-test.true)))));
      unrefused = c.in_ok-push.ensures.unrefused ∙ c.loop-kind.invariant.unrefused;
    }
