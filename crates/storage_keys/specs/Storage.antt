-- What main storage holds, and what each access to it answers (SA22-7832, chapter 3: storage, key-controlled
-- protection, prefixing).
use Rattle.std.specs.Prelude.{◌≡◌, ℕ, ◌+◌, ◌-◌, ◌*◌, ◌/◌, ◌%◌, ◌^◌, ◌<◌, ◌≤◌, Bool, true, false, not, ◌&&◌, ◌||◌, ◌==◌, nat_lt, nat_le, if◌then◌else◌, List, [], ◌∷◌, ◌++◌, map, length, take, drop, replicate, slice_get, slice_index, slice_set, slice_range, Result, Ok, Err, ok_or}
use Rattle.std.specs.List.{list_all, range_with_len}
use Rattle.std.proofs.Common.{lit<}
use Rattle.std.proofs.lemmas.Nat.{mod_below}
use Rattle.storage_keys.specs.declared.key.Key.{Key}
use Rattle.storage_keys.specs.declared.StorageFault.{StorageFault}
use Rattle.storage_keys.specs.declared.StorageFault.TheVariants.{Addressing, Protection, Specification}

-- the bytes by absolute address, the key of each block of 4,096 of them, and the prefix of each CPU
pub record Contents : Type 0 where
  pub bytes : List ℕ
  pub keys : List Key
  pub prefixes : List ℕ

-- a prefix names an area of 8,192 bytes in storage
abbrev pub IsPrefix : ℕ → ℕ → Type 0
IsPrefix size prefix = (prefix % 8192 ≡ 0) × (prefix + 8192 ≤ size)

-- what holds of every storage
pub record IsStorage (storage : Contents) : Type 0 where
  pub blocks : length storage.bytes ≡ 4096 * length storage.keys
  pub least : 65536 ≤ length storage.bytes
  pub greatest : length storage.bytes ≤ 2 ^ 24
  pub cpus : length storage.prefixes ≡ 16
  pub prefixes : (cpu : ℕ) → IsPrefix (length storage.bytes) (slice_index storage.prefixes cpu)

-- what holds of storage, whoever has it: at most 2^31 bytes in whole blocks, each with a key, and a prefix for each CPU, which names an
-- area of them
pub record IsAddressable (storage : Contents) : Type 0 where
  pub blocks : length storage.bytes ≡ 4096 * length storage.keys
  pub cpus : length storage.prefixes ≡ 16
  pub greatest : length storage.bytes ≤ 2 ^ 31
  pub prefixes : (cpu : ℕ) → IsPrefix (length storage.bytes) (slice_index storage.prefixes cpu)

-- the key of each block at first (own)
abbrev pub zero_key : Key
zero_key = record { access = 0; fetch_protected = false; referenced = false; changed = false; access_fits = lit< tt }

-- storage of so many blocks at first (own)
abbrev pub cleared_storage : ℕ → Contents
cleared_storage blocks = record { bytes = replicate (4096 * blocks) 0; keys = replicate blocks zero_key; prefixes = replicate 16 0 }

-- Key-controlled protection

abbrev pub bit_number : Bool → ℕ
bit_number true = 1
bit_number false = 0

-- a key as a byte: access-control bits 0 to 3, fetch protection 4, reference 5, change 6, bit 7 zero
abbrev pub byte_of : Key → ℕ
byte_of key = 16 * key.access + 8 * bit_number key.fetch_protected + 4 * bit_number key.referenced + 2 * bit_number key.changed

pub access-lt : (byte : ℕ) → byte / 16 % 16 < 16
access-lt byte = mod_below (byte / 16) 16 (lit< tt)

-- the key that a byte shows; bit 7 is ignored
abbrev pub key_of_byte : ℕ → Key
key_of_byte byte = record {
  access = byte / 16 % 16;
  fetch_protected = byte / 8 % 2 == 1;
  referenced = byte / 4 % 2 == 1;
  changed = byte / 2 % 2 == 1;
  access_fits = access-lt byte;
}

-- an access key permits a store into a block where it is zero or matches the block's access-control bits
abbrev pub key_permits_store : ℕ → Key → Bool
key_permits_store key block = key == 0 || key == block.access

-- a fetch is permitted also where the block is not fetch-protected
abbrev pub key_permits_fetch : ℕ → Key → Bool
key_permits_fetch key block = key_permits_store key block || not block.fetch_protected

-- Storage that a host lends: its bytes, the keys as bytes, and the prefixes

abbrev pub lent_contents : List ℕ → List ℕ → List ℕ → Contents
lent_contents bytes keys prefixes = record { bytes = bytes; keys = map key_of_byte keys; prefixes = prefixes }

-- a prefix is the address of an area of 8,192 bytes in storage of this size, on a boundary of as many
abbrev pub is_prefix : ℕ → ℕ → Bool
is_prefix size prefix = (prefix % 8192 == 0) && nat_le (prefix + 8192) size

-- 16 to 524,288 blocks may be lent, each with its key, and 16 prefixes, each with its area (own)
abbrev pub are_blocks : ℕ → ℕ → Bool
are_blocks size blocks = nat_le 16 blocks && (nat_le blocks 524288 && size == 4096 * blocks)

abbrev pub are_areas : ℕ → List ℕ → Bool
are_areas size prefixes = length prefixes == 16 && list_all (is_prefix size) prefixes

abbrev pub may_be_lent : ℕ → ℕ → List ℕ → Bool
may_be_lent size blocks prefixes = are_blocks size blocks && are_areas size prefixes

-- Accesses by absolute address

-- whether so many bytes from this address on are in storage
abbrev pub is_inside : Contents → ℕ → ℕ → Bool
is_inside storage address count = count == 0 || nat_le (address + count) (length storage.bytes)

-- the keys of the blocks in which so many bytes lie: from the first byte's to the last byte's
abbrev pub keys_of : Contents → ℕ → ℕ → List Key
keys_of storage address count = if count == 0 then [] else slice_range storage.keys (address / 4096) ((address + (count - 1)) / 4096 + 1)

-- whether the keys of all those blocks permit the access
abbrev pub keys_permit : (Key → Bool) → Contents → ℕ → ℕ → Bool
keys_permit permits storage address count = list_all permits (keys_of storage address count)

-- an access inside storage that is permitted may be made, or why not: addressing comes before protection
abbrev pub check_by : Bool → Bool → Result (Unit {0}) StorageFault
check_by inside permitted = if not inside then Err Addressing else (if permitted then Ok tt else Err Protection)

abbrev pub access_check : (Key → Bool) → Contents → ℕ → ℕ → Result (Unit {0}) StorageFault
access_check permits storage address count = check_by (is_inside storage address count) (keys_permit permits storage address count)

-- the value where a check permits, otherwise the check's fault
abbrev pub where_permitted : {X : Type 0} → Result (Unit {0}) StorageFault → X → Result X StorageFault
where_permitted (Ok u) value = Ok value
where_permitted (Err fault) value = Err fault

-- the bytes that a fetch answers
abbrev pub fetched : Contents → ℕ → ℕ → ℕ → Result (List ℕ) StorageFault
fetched storage key address count =
    where_permitted (access_check (key_permits_fetch key) storage address count) (slice_range storage.bytes address (address + count))

-- storage with these bytes from this address on
abbrev pub put_at : Contents → ℕ → List ℕ → Contents
put_at storage address bytes = record storage { bytes = take address storage.bytes ++ (bytes ++ drop (address + length bytes) storage.bytes) }

-- storage after a store
abbrev pub stored_bytes : Contents → ℕ → ℕ → List ℕ → Result Contents StorageFault
stored_bytes storage key address bytes = where_permitted (access_check (key_permits_store key) storage address (length bytes)) (put_at storage address bytes)

-- Prefixing

-- real addresses 0 to 8,191 and those of the area that the prefix names change places
abbrev pub absolute_under : ℕ → ℕ → ℕ
absolute_under prefix real =
    if nat_lt real 8192 then prefix + real
    else (if nat_le prefix real && nat_lt real (prefix + 8192) then real - prefix else real)

-- the absolute address of a CPU's real address
abbrev pub absolute : Contents → ℕ → ℕ → ℕ
absolute storage cpu real = absolute_under (slice_index storage.prefixes cpu) real

-- Operands of instructions (chapter 14): real addresses, turned to absolute byte by byte, with key 0

-- the absolute addresses of so many bytes from a real address on
unfoldable pub absolute_addresses : Contents → ℕ → ℕ → ℕ → List ℕ
absolute_addresses storage cpu address count = map (absolute storage cpu) (range_with_len address count)

-- whether each byte of an operand is in storage
abbrev pub is_operand_inside : Contents → ℕ → ℕ → ℕ → Bool
is_operand_inside storage cpu address count = list_all (λ other. nat_lt other (length storage.bytes)) (absolute_addresses storage cpu address count)

-- an operand is on its boundary and in storage, or why not: the boundary comes first
abbrev pub operand_check : Contents → ℕ → ℕ → ℕ → ℕ → Result (Unit {0}) StorageFault
operand_check storage cpu address count boundary =
    if not (address % boundary == 0) then Err Specification
    else (if is_operand_inside storage cpu address count then Ok tt else Err Addressing)

-- the bytes of an operand
abbrev pub operand_at : Contents → ℕ → ℕ → ℕ → ℕ → Result (List ℕ) StorageFault
operand_at storage cpu address count boundary =
    where_permitted (operand_check storage cpu address count boundary) (map (slice_index storage.bytes) (absolute_addresses storage cpu address count))

-- bytes with each of these values at its place, in order
abbrev pub with_values : List ℕ → List ℕ → List ℕ → List ℕ
with_values bytes (address ∷ addresses) (value ∷ values) = with_values (slice_set bytes address value) addresses values
with_values bytes addresses values = bytes

-- storage with an operand stored
abbrev pub operand_stored : Contents → ℕ → ℕ → List ℕ → Contents
operand_stored storage cpu address values =
    record storage { bytes = with_values storage.bytes (absolute_addresses storage cpu address (length values)) values }

-- The operator's acts (own): no key is asked

-- storage after bytes are put
abbrev pub put : Contents → ℕ → List ℕ → Result Contents StorageFault
put storage address bytes = if is_inside storage address (length bytes) then Ok (put_at storage address bytes) else Err Addressing

-- the bytes that are shown
abbrev pub shown : Contents → ℕ → ℕ → Result (List ℕ) StorageFault
shown storage address count = if is_inside storage address count then Ok (slice_range storage.bytes address (address + count)) else Err Addressing

-- the key of the block in which an address lies
abbrev pub key_at : Contents → ℕ → Result Key StorageFault
key_at storage address = ok_or (slice_get storage.keys (address / 4096)) Addressing

-- storage with this key of that block, and with this prefix of a CPU
abbrev pub with_key : Contents → ℕ → Key → Contents
with_key storage address key = record storage { keys = slice_set storage.keys (address / 4096) key }

abbrev pub with_prefix : Contents → ℕ → ℕ → Contents
with_prefix storage cpu address = record storage { prefixes = slice_set storage.prefixes cpu address }

-- storage after that key is set
abbrev pub key_set : Contents → ℕ → Key → Result Contents StorageFault
key_set storage address key = if is_inside storage address 1 then Ok (with_key storage address key) else Err Addressing

-- storage after a CPU's prefix is set
abbrev pub prefix_set : Contents → ℕ → ℕ → Result Contents StorageFault
prefix_set storage cpu address =
    if not (address % 8192 == 0) then Err Specification
    else (if is_inside storage address 8192 then Ok (with_prefix storage cpu address) else Err Addressing)
