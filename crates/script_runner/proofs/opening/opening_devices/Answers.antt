use Rattle.std.proofs.Common.{◌∙◌, ap, sym, List, [], ◌∷◌, ◌++◌, take, map, slice_index_or}
use Rattle.std.proofs.lemmas.List.{take_more, map-append}
use Rattle.channel_config.specs.declared.parts.UnitKind.{UnitKind}
use Rattle.channel_config.specs.declared.parts.UnitKind.TheVariants.{Block}
use Rattle.device_models.specs.AnyDevices.{device_of}
use Rattle.device_models.specs.declared.any_device.AnyDevice.{AnyDevice}
use Rattle.script_runner.proofs.opening.opening_devices.Goals as goal

pub loop-kind-preserved : goal.loop-kind-preserved
loop-kind-preserved g c =
    let kinds = c.args.kinds.now in
    let k = c.loop-kind.kind-index in
    let kind = slice_index_or kinds k Block in
    record {
      made =
          c.in_ok-push.ensures.pushed
          ∙ (ap (λ (d : AnyDevice). c.loop-kind.devices.items ++ d ∷ []) c.of.ensures
          ∙ (ap (λ (ds : List AnyDevice). ds ++ device_of kind ∷ []) c.loop-kind.invariant.made
          ∙ (sym (map-append device_of (take k kinds) (kind ∷ []))
          ∙ ap (λ (ks : List UnitKind). map device_of ks) (sym (take_more kinds k Block c.loop-kind-test.true)))));
      unrefused = c.in_ok-push.ensures.unrefused ∙ c.loop-kind.invariant.unrefused;
    }
