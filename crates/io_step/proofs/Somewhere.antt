-- Storage as it is at first, in which real addresses up to 8,191 are absolute ones, has each operand there.
use Rattle.std.proofs.Common.{◌≡◌, refl, sym, ◌∙◌, ap, ℕ, zero, suc, ◌+◌, ◌-◌, ◌*◌, ◌%◌, ◌<◌, ◌≤◌, Bool, true, not, ◌&&◌, ◌==◌, List, [], ◌∷◌, ◌++◌, length, map, take, drop, Result, Ok, Err, if◌then◌else◌, arith, length-append}
use Rattle.std.specs.Prelude.{nat_lt, replicate, slice_index, slice_range}
use Rattle.std.specs.List.{list_all, range_with_len}
use Rattle.std.proofs.lemmas.Bool.Decides.{nat_tests}
use Rattle.std.proofs.lemmas.List.{length-replicate}
use Rattle.storage_keys.specs.declared.StorageFault.{StorageFault}
use Rattle.storage_keys.specs.declared.StorageFault.TheVariants.{Addressing, Specification}
use Rattle.storage_keys.specs.Storage.{Contents, absolute_under, absolute_addresses, cleared_storage, is_operand_inside, operand_at, operand_check, put_at, where_permitted}
use Rattle.storage_keys.proofs.OperandLemmas.{map-slice_index-range}
use Rattle.io_step.specs.declared.by_value.OtherByValue.{OtherByValue}
use Rattle.io_step.specs.declared.by_value.OtherByValue.TheVariants as given_other
use Rattle.io_step.specs.GivenOperands.{HasRoom}

no-prefix : (n cpu : ℕ) → slice_index (replicate n 0) cpu ≡ 0
no-prefix zero cpu = refl
no-prefix (suc n) zero = refl
no-prefix (suc n) (suc cpu) = no-prefix n cpu

absolute-low : (prefix real : ℕ) → prefix ≡ 0 → real < 8192 → absolute_under prefix real ≡ real
absolute-low prefix real none low = grind (arith, nat_tests)

low-places : (prefix : ℕ) → prefix ≡ 0 → (a n : ℕ) → a + n ≤ 8192 → map (absolute_under prefix) (range_with_len a n) ≡ range_with_len a n
low-places prefix none a zero h = refl
low-places prefix none a (suc n) h =
    ap (λ (x : ℕ). x ∷ map (absolute_under prefix) (range_with_len (a + 1) n)) (absolute-low prefix a none (omega (arith, h)))
    ∙ ap (λ (xs : List ℕ). a ∷ xs) (low-places prefix none (a + 1) n (omega (arith, h)))

addresses-low : (s : Contents) (cpu a n : ℕ) → slice_index s.prefixes cpu ≡ 0 → a + n ≤ 8192 → absolute_addresses s cpu a n ≡ range_with_len a n
unfolding absolute_addresses
addresses-low s cpu a n none h = low-places (slice_index s.prefixes cpu) none a n h

below : (a size : ℕ) → a < size → nat_lt a size ≡ true
below a size h = grind (arith, nat_tests)

all-below : (size a n : ℕ) → a + n ≤ size → list_all (λ other. nat_lt other size) (range_with_len a n) ≡ true
all-below size a zero h = refl
all-below size a (suc n) h =
    ap (λ (b : Bool). b && list_all (λ other. nat_lt other size) (range_with_len (a + 1) n)) (below a size (omega (arith, h)))
    ∙ all-below size (a + 1) n (omega (arith, h))

checked-low : (s : Contents) (cpu a n boundary : ℕ) → slice_index s.prefixes cpu ≡ 0 → a % boundary ≡ 0 → a + n ≤ 8192 → a + n ≤ length s.bytes →
    operand_check s cpu a n boundary ≡ Ok tt
checked-low s cpu a n boundary none aligned low inside =
    let there : is_operand_inside s cpu a n ≡ true =
    ap (list_all (λ other. nat_lt other (length s.bytes))) (addresses-low s cpu a n none low) ∙ all-below (length s.bytes) a n inside in
    ap (λ (k : ℕ). if not (k == 0) then Err Specification else (if is_operand_inside s cpu a n then Ok tt else Err Addressing)) aligned
    ∙ ap (λ (b : Bool). if b then Ok tt else Err Addressing) there

-- there is room at addresses up to 8,191
pub has-room : (blocks cpu a n boundary : ℕ) → 16 ≤ blocks → a % boundary ≡ 0 → a + n ≤ 8192 → operand_check (cleared_storage blocks) cpu a n boundary ≡ Ok tt
has-room blocks cpu a n boundary least aligned low =
    checked-low (cleared_storage blocks) cpu a n boundary (no-prefix 16 cpu) aligned low (omega (arith, length-replicate {A = ℕ} (4096 * blocks) 0, least, low))

first-bytes : (block rest : List ℕ) → take (length block) (block ++ rest) ≡ block
first-bytes [] rest = refl
first-bytes (x ∷ xs) rest = ap (λ (ys : List ℕ). x ∷ ys) (first-bytes xs rest)

-- a block stands at address 0 where it was put
pub has-block : (blocks cpu n : ℕ) (block : List ℕ) → length block ≡ n → n ≤ 8192 → operand_at (put_at (cleared_storage blocks) 0 block) cpu 0 n 4 ≡ Ok block
has-block blocks cpu n block size low =
    let s : Contents = put_at (cleared_storage blocks) 0 block in
    let none : slice_index s.prefixes cpu ≡ 0 = no-prefix 16 cpu in
    let rest : List ℕ = drop (0 + length block) (replicate (4096 * blocks) 0) in
    let inside : 0 + n ≤ length s.bytes = omega (arith, size, length-append block rest) in
    let area : 0 + n ≤ 8192 = omega (arith, low) in
    let whole : 0 + length block - 0 ≡ length block = omega arith in
    let stands : slice_range s.bytes 0 (0 + n) ≡ block =
    ap (λ (k : ℕ). slice_range s.bytes 0 (0 + k)) (sym size) ∙ (ap (λ (k : ℕ). take k s.bytes) whole ∙ first-bytes block rest) in
    let bytes = ap (map (slice_index s.bytes)) (addresses-low s cpu 0 n none area) ∙ (map-slice_index-range s.bytes 0 n (λ _. inside) ∙ stands) in
    ap (λ (r : Result (Unit {0}) StorageFault). where_permitted r (map (slice_index s.bytes) (absolute_addresses s cpu 0 n))) (checked-low s cpu 0 n 4 none refl area inside)
    ∙ ap (λ (xs : List ℕ). Ok xs) bytes

pub has-room-for : (i : OtherByValue) (blocks cpu : ℕ) → 16 ≤ blocks → HasRoom i (cleared_storage blocks) cpu 0
has-room-for (given_other.Tpi mask) blocks cpu least = has-room blocks cpu 184 12 4 least refl (omega arith)
has-room-for given_other.Stcrw blocks cpu least = has-room blocks cpu 0 4 4 least refl (omega arith)
has-room-for given_other.Stcps blocks cpu least = has-room blocks cpu 0 32 32 least refl (omega arith)
