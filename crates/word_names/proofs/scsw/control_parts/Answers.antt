use Rattle.std.proofs.Common.{refl}
use Rattle.word_parts.proofs.Growing.{row}
use Rattle.word_names.proofs.scsw.control_parts.Goals as goal

pub returns : goal.returns
returns c = row c.bits.ensures (row c.flag.ensures (row c.flag-2.ensures (row c.bits-2.ensures (row c.bits-3.ensures (row c.flag-3.ensures (row c.flag-4.ensures (row c.flag-5.ensures (row c.flag-6.ensures (row c.flag-7.ensures (row c.flag-8.ensures (row c.flag-9.ensures (row c.flag-10.ensures refl))))))))))))
