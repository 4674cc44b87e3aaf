-- The second and the third word show their tables.
use Rattle.std.proofs.Common.{[], ◌∷◌, refl}
use Rattle.zbits.specs.Layout.{at, zeros}
use Rattle.zbits.proofs.OneImage.{shows-first}
use Rattle.orb_block.specs.OrbTable.{word_1}
use Rattle.orb_block.proofs.OrbLemmas.{tables-fit}
use Rattle.orb_block.proofs.law.written_is_allowed.Goals as goal

pub returns : goal.returns
returns c orb range =
    let fit = tables-fit orb range in
    let control = shows-first (word_1 orb) ((zeros 0 0 ∷ at 1 31 orb.program ∷ []) ∷ []) refl fit.1.0 in
    let address = shows-first ((zeros 0 0 ∷ at 1 31 orb.program ∷ [])) [] refl fit.1.1.0 in
    (control.1.1.1.1.1.1.1.1.1.1.0, control.1.1.1.1.1.1.1.1.1.1.1.1.1.1.1.1.0, address.0)
