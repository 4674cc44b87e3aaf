use Rattle.std.proofs.Common.{◌∙◌, ap, length, map}
use Rattle.std.proofs.lemmas.List.{take_at, length-map}
use Rattle.control_units.specs.Units.{member_informed}
use Rattle.control_units.proofs.sharing.inform_all.Goals as goal

pub returns : goal.returns
returns c =
    take_at c.inform.new.members _ _ (ap length c.inform.ensures ∙ (length-map _ _ ∙ c.as_mut_slice.ensures.len))
    ∙ (c.inform.ensures ∙ ap (map (member_informed c.args.group)) c.as_mut_slice.ensures.value)
