-- What is copied and stored stands at the places of the formula.
use Rattle.std.proofs.Common.{◌≡◌, ◌≢◌, ℕ, ◌+◌, ◌-◌, ◌<◌, ◌≤◌, ◌⊎◌, inl, inr, Bool, true, false, List, [], length, map, refl, sym, ap, ◌∙◌, arith}
use Rattle.std.specs.Prelude.{Some, None, Ok, IsTrue, nat_lt, if◌then◌else◌, slice_index}
use Rattle.std.proofs.lemmas.Bool.{ltb-true, ltb-false}
use Rattle.std.specs.List.{range_with_len}
use Rattle.storage_keys.specs.Storage.{Contents, is_inside, where_permitted, put_at, stored_bytes, keys_permit, key_permits_store, check_by}
use Rattle.idaw.specs.Lists.{block}
use Rattle.idaw.specs.Places.{Reach, place_of_byte, places_from}
use Rattle.data_move.specs.Moving.{Moving, room, IsAt}
use Rattle.data_move.specs.Accesses.{bytes_at}
use Rattle.data_move.proofs.ListLemmas.{no_bytes, bytes_in_a_row}
use Rattle.data_move.proofs.PieceLemmas.{not_skipped}

skipped_none : (s : Bool) (p : ℕ) → s ≡ true → (if s then None else Some p) ≡ None
skipped_none true p e = refl
skipped_none false p e = absurd (cc)

-- skipped bytes have no place
pub skipped_at : (r : Reach) (m : Moving) (bytes : List ℕ) → IsAt r m → m.skipped ≡ true → [] ≡ bytes_at bytes (places_from (block m.kind) r m.done (room m))
skipped_at r m bytes a s = sym (no_bytes bytes (λ i. place_of_byte (block m.kind) r (m.done + i)) (room m) (λ i l. skipped_none r.skipped _ (sym a.skipped ∙ s)))

-- the next bytes are at their addresses
pub place_at : (r : Reach) (m : Moving) → IsAt r m → m.skipped ≡ false → (i : ℕ) → i < m.left → place_of_byte (block m.kind) r (m.done + i) ≡ Some (m.piece + i)
place_at r m a s i l = sym (a.next i l) ∙ not_skipped m.skipped (m.piece + i) s

pub copied_at : (r : Reach) (m : Moving) (bytes found : List ℕ) (address count : ℕ) → IsAt r m → m.skipped ≡ false → address ≡ m.piece → count ≡ room m
    → found ≡ map (slice_index bytes) (range_with_len address count) → found ≡ bytes_at bytes (places_from (block m.kind) r m.done (room m))
copied_at r m bytes found address count a s here all e =
    e ∙ ap (λ x. map (slice_index bytes) (range_with_len x count)) here ∙ ap (λ n. map (slice_index bytes) (range_with_len m.piece n)) all
    ∙ sym (bytes_in_a_row bytes (λ i. place_of_byte (block m.kind) r (m.done + i)) m.piece (room m) (λ i l. place_at r m a s i (omega arith)))

aside_by : (t u : Bool) (place first n : ℕ) → nat_lt place first ≡ t → nat_lt place (first + n) ≡ u → (first ≤ place → place < first + n → ⊥) → (place < first) ⊎ (first + n ≤ place)
aside_by true u place first n e f apart = inl (ltb-true place first e)
aside_by false true place first n e f apart = absurd (apart (ltb-false place first e) (ltb-true place (first + n) f))
aside_by false false place first n e f apart = inr (ltb-false place (first + n) f)

-- an address that is the place of none of the next bytes is before or after them
pub aside : (r : Reach) (m : Moving) (n place : ℕ) → IsAt r m → m.skipped ≡ false → n ≤ m.left → ((i : ℕ) → i < n → place_of_byte (block m.kind) r (m.done + i) ≢ Some place) → (place < m.piece) ⊎ (m.piece + n ≤ place)
aside r m n place a s within apart =
    aside_by (nat_lt place m.piece) (nat_lt place (m.piece + n)) place m.piece n refl refl
    (λ from below.
    let here : m.piece + (place - m.piece) ≡ place = omega arith in
    apart (place - m.piece) (omega arith) (place_at r m a s (place - m.piece) (omega arith) ∙ ap Some here))

-- what a store that is permitted did
permitted : (inside permits : Bool) (put new : Contents) → where_permitted (check_by inside permits) put ≡ Ok new → (inside ≡ true) × (put ≡ new)
permitted true true put new e = (refl, cc)
permitted true false put new e = absurd (cc)
permitted false permits put new e = absurd (cc)

either : (P Q R : Type 0) → (P → R) → (Q → R) → P ⊎ Q → R
either P Q R f g (inl p) = f p
either P Q R f g (inr q) = g q

-- bytes that are at none of the places stay, since those before and after the stored ones do
pub others_at : (r : Reach) (m : Moving) (old new : Contents) (key address : ℕ) (bytes : List ℕ) → IsAt r m → m.skipped ≡ false → address ≡ m.piece → length bytes ≤ m.left
    → stored_bytes old key address bytes ≡ Ok new
    → (IsTrue (is_inside old address (length bytes)) → (place : ℕ) → place < address → slice_index (put_at old address bytes).bytes place ≡ slice_index old.bytes place)
    → (IsTrue (is_inside old address (length bytes)) → (place : ℕ) → address + length bytes ≤ place → slice_index (put_at old address bytes).bytes place ≡ slice_index old.bytes place)
    → (place : ℕ) → ((i : ℕ) → i < length bytes → place_of_byte (block m.kind) r (m.done + i) ≢ Some place) → slice_index new.bytes place ≡ slice_index old.bytes place
others_at r m old new key address bytes a s here within done before after place apart =
    let did = permitted (is_inside old address (length bytes)) (keys_permit (key_permits_store key) old address (length bytes)) (put_at old address bytes) new done in
    ap (λ (x : Contents). slice_index x.bytes place) (sym did.1)
    ∙ either (place < m.piece) (m.piece + length bytes ≤ place) _
    (λ l. before did.0 place (omega arith)) (λ l. after did.0 place (omega arith))
    (aside r m (length bytes) place a s within apart)
