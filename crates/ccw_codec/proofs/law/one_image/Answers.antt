-- The law of images at the tables of each format.
use Rattle.std.proofs.Common.{refl}
use Rattle.zbits.proofs.OneImage as image
use Rattle.ccw_codec.specs.CcwTable.{ccw_tables_0, ccw_tables_1}
use Rattle.ccw_codec.specs.declared.Format.TheVariants.{Zero, One}
use Rattle.ccw_codec.proofs.CcwLemmas.{fits_0, fits_1}
use Rattle.ccw_codec.proofs.law.one_image.Goals as goal

pub returns : goal.returns
returns c Zero a b in_a in_b short_a short_b same =
    image.one_image (ccw_tables_0 a) (ccw_tables_0 b) refl refl refl (fits_0 a in_a short_a) (fits_0 b in_b short_b) same
returns c One a b in_a in_b short_a short_b same =
    image.one_image (ccw_tables_1 a) (ccw_tables_1 b) refl refl refl (fits_1 a in_a) (fits_1 b in_b) same
