-- Enabling (own): ISC, D and E one are placed in the block that STORE SUBCHANNEL stores, and MODIFY SUBCHANNEL takes it. Its
-- concurrent-sense bit is the one that stands there, and so it stays.
use Rattle.std.proofs.Common.{lit<}
use Rattle.std.proofs.lemmas.Nat.{mod_below}
use Rattle.std.specs.Prelude.{ℕ, ◌+◌, ◌-◌, ◌*◌, ◌%◌, Bool, true}
use Rattle.zbits.specs.Bits.{field_of, weight}
use Rattle.zbits.specs.Layout.{bit_number}
use Rattle.schib_block.specs.declared.pmcw.Pmcw as block
use Rattle.schib_block.specs.declared.schib.Schib.{Schib}
use Rattle.subchannel_model.specs.declared.state.Subchannel.{Subchannel}
use Rattle.subchannel_model.specs.Store.{pmcw_of}

-- in a word; ISC has three bits
abbrev pub enabling : block.Pmcw → ℕ → Bool → block.Pmcw
enabling word subclass multipath = record word { subclass = subclass % 8; subclass_fits = mod_below subclass 8 (lit< tt); enabled = true; multipath = multipath }

abbrev pub enabling_schib : Subchannel → ℕ → Bool → Schib
enabling_schib sub subclass multipath = record { pmcw = enabling (pmcw_of sub) subclass multipath; scsw = sub.state.scsw }

-- the same in a word of storage, all of whose other bits stay: ISC at the bits 2 to 4, E at 8, D at 13
abbrev pub with_field : ℕ → ℕ → ℕ → ℕ → ℕ
with_field word first last value = (word + value * weight last) - field_of word first last * weight last

abbrev pub enabling_word : ℕ → ℕ → Bool → ℕ
enabling_word word subclass multipath = with_field (with_field (with_field word 2 4 (subclass % 8)) 8 8 1) 13 13 (bit_number multipath)
