-- How a CCW is fetched (SA22-7832, chapter 15).
use Rattle.std.specs.Prelude.{ℕ, ◌%◌, ◌^◌, ◌==◌, ◌&&◌, ◌||◌, not, nat_le, Bool, if◌then◌else◌, List, Result, Ok, Err}
use Rattle.orb_block.specs.declared.Orb.{Orb}
use Rattle.storage_keys.specs.declared.StorageFault.{StorageFault}
use Rattle.storage_keys.specs.Storage.{Contents, fetched}
use Rattle.ccw_walk.specs.declared.check.Check.TheVariants.{Program}
use Rattle.ccw_walk.specs.declared.program.Role.{Role}
use Rattle.ccw_walk.specs.Checks.{check_of}
use Rattle.ccw_walk.specs.Acts.{Act, Block, Unfetched}

-- a CCW is designated on a doubleword boundary
abbrev pub is_on_doubleword : ℕ → Bool
is_on_doubleword address = address % 8 == 0

-- the addresses of a format-0 program have 24 bits
abbrev pub exceeds_24_bits : ℕ → Bool
exceeds_24_bits address = nat_le (2 ^ 24) address

-- the ORB designates a first CCW that is off its boundary, or past what the format of the program reaches (own)
abbrev pub is_program_misplaced : Orb → ℕ → Bool
is_program_misplaced orb address = not (is_on_doubleword address) || not orb.format_one && exceeds_24_bits address

-- a refused fetch is a check; otherwise the eight bytes are the CCW
abbrev pub act_of_fetch : ℕ → Result (List ℕ) StorageFault → Act
act_of_fetch address answer = elim answer [ Ok bytes ↦ Block address bytes | Err fault ↦ Unfetched address (check_of fault) ]

-- a CCW is fetched with the key of the ORB. The address of the first one is tested before
abbrev pub fetch_act : Contents → Orb → Role → ℕ → Act
fetch_act storage orb role address =
    if role.first && is_program_misplaced orb address then Unfetched address Program else act_of_fetch address (fetched storage orb.key address 8)
