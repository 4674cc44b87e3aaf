use Rattle.std.proofs.Common.{refl}
use Rattle.word_parts.proofs.Growing.{row}
use Rattle.word_names.proofs.schib.control_parts.Goals as goal

pub returns : goal.returns
returns c = row c.bits.ensures (row c.bits-2.ensures (row c.bits-3.ensures (row c.flag.ensures (row c.bits-4.ensures (row c.bits-5.ensures (row c.flag-2.ensures (row c.flag-3.ensures (row c.flag-4.ensures (row c.bits-6.ensures refl)))))))))
