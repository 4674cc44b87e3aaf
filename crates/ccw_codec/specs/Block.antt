-- What eight bytes are as a channel-command word (SA22-7832, chapter 15).
use Rattle.std.proofs.Common.{lit<}
use Rattle.std.proofs.Math.Nat.{lt_trans}
use Rattle.std.proofs.lemmas.Nat.{mod_below}
use Rattle.std.specs.Prelude.{ℕ, ◌+◌, ◌/◌, ◌%◌, ◌^◌, ◌<◌, ◌==◌, ◌&&◌, not, Bool, List, [], ◌∷◌, slice_index, Option, Some, None, if◌then◌else◌}
use Rattle.zbits.specs.Bits.{field_of, weight}
use Rattle.zbits.specs.Words.{word_at}
use Rattle.ccw_codec.specs.declared.Ccw.{Ccw}
use Rattle.ccw_codec.specs.declared.CcwFault.{CcwFault}
use Rattle.ccw_codec.specs.declared.CcwFault.TheVariants.{ModifiedAddress, AddressBit, TransferFields, TransferTarget, ZeroCount, ZeroCountChained}
use Rattle.ccw_codec.specs.declared.Format.{Format}
use Rattle.ccw_codec.specs.declared.Format.TheVariants.{Zero, One}
use Rattle.ccw_codec.specs.Command.{is_transfer}

-- the block with what does not count as zeros: in format 0 byte 5, and of a transfer in channel all
-- but the low four bits of the command and the address
abbrev pub effective_block : Format → List ℕ → List ℕ
effective_block One block = block
effective_block Zero block =
    if is_transfer Zero (slice_index block 0)
    then 8 ∷ slice_index block 1 ∷ slice_index block 2 ∷ slice_index block 3 ∷ 0 ∷ 0 ∷ 0 ∷ 0 ∷ []
    else slice_index block 0 ∷ slice_index block 1 ∷ slice_index block 2 ∷ slice_index block 3
    ∷ slice_index block 4 ∷ 0 ∷ slice_index block 6 ∷ slice_index block 7 ∷ []

-- the flag at this bit
abbrev pub flag_of : ℕ → ℕ → Bool
flag_of word bit = field_of word bit bit == 1

-- a block of this command code and this address, whose flags stand in a word from this bit on, and whose count at its bits 16 to 31
abbrev pub ccw_with : ℕ → ℕ → ℕ → (address : ℕ) → address < 2 ^ 31 → Ccw
ccw_with command word bit address fits = record {
  command = command;
  chain_data = flag_of word bit;
  chain_command = flag_of word (bit + 1);
  suppress_length = flag_of word (bit + 2);
  skip = flag_of word (bit + 3);
  program_controlled = flag_of word (bit + 4);
  indirect = flag_of word (bit + 5);
  suspend = flag_of word (bit + 6);
  count = field_of word 16 31;
  address = address;
  address_fits = fits;
}

-- what two words of format 0 are; an address of 24 bits has 31
abbrev pub ccw_0 : ℕ → ℕ → Ccw
ccw_0 first second =
    ccw_with (field_of first 0 7) second 0 (field_of first 8 31) (lt_trans (mod_below (first / weight 31) (2 ^ 24) (lit< tt)) (lit< tt))

-- what two words of format 1 are
abbrev pub ccw_1 : ℕ → ℕ → Ccw
ccw_1 first second = ccw_with (field_of first 0 7) first 8 (field_of second 1 31) (mod_below (second / weight 31) (2 ^ 31) (lit< tt))

-- what a block is, whether it has a fault or not
abbrev pub ccw_of : Format → List ℕ → Ccw
ccw_of Zero block = ccw_0 (word_at (effective_block Zero block) 0) (word_at (effective_block Zero block) 1)
ccw_of One block = ccw_1 (word_at block 0) (word_at block 1)

-- a target is on a doubleword boundary
abbrev pub target_fault_of : ℕ → Option CcwFault
target_fault_of target = if target % 8 == 0 then None else Some TransferTarget

-- the fault that two words of format 0 show by themselves, the first that applies
abbrev pub fault_0 : ℕ → ℕ → Option CcwFault
fault_0 first second =
    if flag_of second 7 then Some ModifiedAddress
    else if is_transfer Zero (field_of first 0 7) then target_fault_of (field_of first 8 31)
    else if field_of second 16 31 == 0 then Some ZeroCount
    else None

-- the fault that two words of format 1 show by themselves, the first that applies
abbrev pub fault_1 : ℕ → ℕ → Option CcwFault
fault_1 first second =
    if flag_of first 15 then Some ModifiedAddress
    else if flag_of second 0 then Some AddressBit
    else if is_transfer One (field_of first 0 7) then
    (if not (field_of first 8 31 == 0) then Some TransferFields else target_fault_of (field_of second 1 31))
    else if (field_of first 16 31 == 0) && flag_of first 8 then Some ZeroCountChained
    else None

-- the fault that a block shows by itself, wherever it stands in its program
abbrev pub fault_of : Format → List ℕ → Option CcwFault
fault_of Zero block = fault_0 (word_at (effective_block Zero block) 0) (word_at (effective_block Zero block) 1)
fault_of One block = fault_1 (word_at block 0) (word_at block 1)
