-- A side is the same as itself, and as no other.
use Rattle.std.specs.Prelude.{◌≡◌, refl, true}
use Rattle.chan_model.specs.declared.names.Side.{Side}
use Rattle.chan_model.specs.declared.names.Side.TheVariants.{First, Second}
use Rattle.chan_model.specs.Sides.{same_side}

pub same-side : (side : Side) → same_side side side ≡ true
same-side First = refl
same-side Second = refl

pub one-side : (k side : Side) → same_side k side ≡ true → k ≡ side
one-side First First e = refl
one-side First Second e = absurd (cc e)
one-side Second First e = absurd (cc e)
one-side Second Second e = refl
