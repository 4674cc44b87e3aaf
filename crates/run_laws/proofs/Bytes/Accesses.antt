-- The bytes that are copied are those at the next places, and the bytes that are stored stand there.
use Rattle.std.proofs.Common.{◌≡◌, refl, ap, sym, ◌∙◌, subst, ℕ, zero, suc, ◌+◌, ◌-◌, ◌≤◌, ◌<◌, Bool, true, false, List, [], ◌∷◌, ◌++◌, length, map, Option, Some, None, Result, Ok, Err, inl, inr, arith}
use Rattle.std.specs.Prelude.{◌⊎◌, ◌||◌, ◌==◌, nat_le, nat_lt, IsTrue, slice_index, slice_get, if◌then◌else◌, Contains}
use Rattle.std.specs.List.{range_with_len}
use Rattle.std.proofs.lemmas.Bool.{eqb-true, ltb-true, ltb-false, leb-true}
use Rattle.std.proofs.lemmas.List.{length-map}
use Rattle.std.proofs.lemmas.List.FromFn.{map-range_with_len_more, length-range_with_len}
use Rattle.std.proofs.lemmas.Option.{slice_get-get_or, slice_get_past, get_or_from_slice_get, slice_get_within}
use Rattle.storage_keys.specs.declared.StorageFault.{StorageFault}
use Rattle.storage_keys.specs.Storage as keys
use Rattle.storage_keys.specs.Storage.{Contents, is_inside, where_permitted, fetched, put_at, keys_permit, key_permits_store, check_by}
use Rattle.idaw.specs.Places.{each_below}
use Rattle.data_move.specs.Moving.{Moving, room, next_place}
use Rattle.data_move.specs.Accesses as access
use Rattle.data_move.specs.Accesses.{bytes_at, checked}
use Rattle.run_laws.proofs.Bytes.Lists.{length-each_below}

-- what is proved below of storage
pub record AreAccesses : Type 0 where
  pub fetched : (storage : Contents) (key address count : ℕ) (bytes : List ℕ) → fetched storage key address count ≡ Ok bytes → bytes ≡ map (slice_index storage.bytes) (range_with_len address count)
  pub size : (storage : Contents) (address : ℕ) (bytes : List ℕ) → IsTrue (is_inside storage address (length bytes)) → length (put_at storage address bytes).bytes ≡ length storage.bytes
  pub placed : (storage : Contents) (address : ℕ) (bytes : List ℕ) → IsTrue (is_inside storage address (length bytes)) → (i : ℕ) → i < length bytes →
      slice_index (put_at storage address bytes).bytes (address + i) ≡ slice_index bytes i
  pub before : (storage : Contents) (address : ℕ) (bytes : List ℕ) → IsTrue (is_inside storage address (length bytes)) → (place : ℕ) → place < address →
      slice_index (put_at storage address bytes).bytes place ≡ slice_index storage.bytes place
  pub after : (storage : Contents) (address : ℕ) (bytes : List ℕ) → IsTrue (is_inside storage address (length bytes)) → (place : ℕ) → address + length bytes ≤ place →
      slice_index (put_at storage address bytes).bytes place ≡ slice_index storage.bytes place

-- lists
bytes_at-append : (bytes : List ℕ) (xs ys : List (Option ℕ)) → bytes_at bytes (xs ++ ys) ≡ bytes_at bytes xs ++ bytes_at bytes ys
bytes_at-append bytes [] ys = refl
bytes_at-append bytes (None ∷ xs) ys = bytes_at-append bytes xs ys
bytes_at-append bytes (Some x ∷ xs) ys = ap (λ zs. slice_index bytes x ∷ zs) (bytes_at-append bytes xs ys)

bytes_in_a_row : (bytes : List ℕ) (f : ℕ → Option ℕ) (a n : ℕ) → ((i : ℕ) → f i ≡ Some (a + i)) → bytes_at bytes (each_below f n) ≡ map (slice_index bytes) (range_with_len a n)
bytes_in_a_row bytes f a zero e = refl
bytes_in_a_row bytes f a (suc n) e =
    let more : n + 1 ≡ suc n = omega arith in
    bytes_at-append bytes (each_below f n) (f n ∷ [])
    ∙ ap (λ xs. xs ++ bytes_at bytes (f n ∷ [])) (bytes_in_a_row bytes f a n e)
    ∙ ap (λ x. map (slice_index bytes) (range_with_len a n) ++ bytes_at bytes (x ∷ [])) (e n)
    ∙ sym (map-range_with_len_more (slice_index bytes) a n (a + n) refl)
    ∙ ap (λ k. map (slice_index bytes) (range_with_len a k)) more

get-left : {A : Type 0} → (xs ys : List A) (i : ℕ) → i < length xs → slice_get (xs ++ ys) i ≡ slice_get xs i
get-left [] ys i l = absurd (omega (arith, l))
get-left (x ∷ xs) ys zero l = refl
get-left (x ∷ xs) ys (suc i) l = get-left xs ys i (omega (arith, l))

get-seam : {A : Type 0} → (xs : List A) (y : A) (ys : List A) → slice_get (xs ++ y ∷ ys) (length xs) ≡ Some y
get-seam [] y ys = refl
get-seam (x ∷ xs) y ys = get-seam xs y ys

below-or-at : (i n : ℕ) → i < suc n → (i < n) ⊎ (i ≡ n)
below-or-at i n l = by (nat_lt i n) refl
  where
    by : (b : Bool) → nat_lt i n ≡ b → (i < n) ⊎ (i ≡ n)
    by true e = inl (ltb-true i n e)
    by false e = let f : n ≤ i = ltb-false i n e in inr (omega (arith, l, f))

pub each-get : {A : Type 0} → (f : ℕ → A) (n i : ℕ) → i < n → slice_get (each_below f n) i ≡ Some (f i)
each-get f zero i l = absurd (omega (arith, l))
each-get f (suc n) i l =
    let long : length (each_below f n) ≡ n = length-each_below f n in
    elim (below-or-at i n l) [
      | inl h ↦ get-left (each_below f n) (f n ∷ []) i (omega (arith, long, h)) ∙ each-get f n i h
      | inr h ↦
          ap (λ (k : ℕ). slice_get (each_below f n ++ f n ∷ []) k) (h ∙ sym long) ∙ get-seam (each_below f n) (f n) [] ∙ ap (λ (k : ℕ). Some (f k)) (sym h)
    ]

-- accesses that were permitted
was-checked : {A : Type 0} → (r : Result A StorageFault) (x : A) → checked r ≡ Ok x → r ≡ Ok x
was-checked (Ok y) x e = let same : y ≡ x = cc e in ap Ok same
was-checked (Err f) x e = absurd (cc e)

was-permitted : {A : Type 0} → (inside permits : Bool) (value x : A) → where_permitted (check_by inside permits) value ≡ Ok x → (inside ≡ true) × (value ≡ x)
was-permitted true true value x e = (refl, cc e)
was-permitted true false value x e = absurd (cc e)
was-permitted false permits value x e = absurd (cc e)

place-is : (m : Moving) → m.skipped ≡ false → (i : ℕ) → next_place m i ≡ Some (m.piece + i)
place-is m e i = ap (λ (b : Bool). if b then None else Some (m.piece + i)) e

no-place : (m : Moving) → m.skipped ≡ true → (i : ℕ) → next_place m i ≡ None
no-place m e i = ap (λ (b : Bool). if b then None else Some (m.piece + i)) e

module _ (laws : AreAccesses) where
  -- copied
  fetched-length : (storage : Contents) (key address count : ℕ) (bytes : List ℕ) → fetched storage key address count ≡ Ok bytes → length bytes ≡ count
  fetched-length storage key address count bytes e =
      ap length (laws.fetched storage key address count bytes e) ∙ length-map (range_with_len address count) (slice_index storage.bytes) ∙ length-range_with_len address count

  abbrev IsCopy : Contents → Moving → List ℕ → Type 0
  IsCopy storage m bytes = (bytes ≡ bytes_at storage.bytes (each_below (next_place m) (length bytes))) × (length bytes ≤ room m)

  copied-by : (storage : Contents) (key : ℕ) (m : Moving) (bytes : List ℕ) (b : Bool) → m.skipped ≡ b →
      (if b then Ok [] else checked (fetched storage key m.piece (room m))) ≡ Ok bytes → IsCopy storage m bytes
  copied-by storage key m bytes true s e = let none : [] ≡ bytes = cc e in subst (IsCopy storage m) none (refl, omega arith)
  copied-by storage key m bytes false s e =
      let got : fetched storage key m.piece (room m) ≡ Ok bytes = was-checked (fetched storage key m.piece (room m)) bytes e in
      let long : length bytes ≡ room m = fetched-length storage key m.piece (room m) bytes got in (
        laws.fetched storage key m.piece (room m) bytes got ∙ sym (bytes_in_a_row storage.bytes (next_place m) m.piece (room m) (place-is m s))
            ∙ ap (λ (n : ℕ). bytes_at storage.bytes (each_below (next_place m) n)) (sym long),
        omega (arith, long),
      )

  pub copied-bytes : (storage : Contents) (key : ℕ) (m : Moving) (bytes : List ℕ) → access.copied storage key m ≡ Ok bytes →
      bytes ≡ bytes_at storage.bytes (each_below (next_place m) (length bytes))
  copied-bytes storage key m bytes e = (copied-by storage key m bytes m.skipped refl e).0

  pub copied-room : (storage : Contents) (key : ℕ) (m : Moving) (bytes : List ℕ) → access.copied storage key m ≡ Ok bytes → length bytes ≤ room m
  copied-room storage key m bytes e = (copied-by storage key m bytes m.skipped refl e).1

  copied-many : (storage : Contents) (key : ℕ) (m : Moving) (bytes : List ℕ) (b : Bool) → (if b then Ok [] else checked (fetched storage key m.piece (room m))) ≡ Ok bytes →
      length bytes ≡ (if b then 0 else room m)
  copied-many storage key m bytes true e = let none : [] ≡ bytes = cc e in ap length (sym none)
  copied-many storage key m bytes false e =
      fetched-length storage key m.piece (room m) bytes (was-checked (fetched storage key m.piece (room m)) bytes e)

  pub copied-length : (storage : Contents) (key : ℕ) (m : Moving) (bytes : List ℕ) → access.copied storage key m ≡ Ok bytes →
      length bytes ≡ (if m.skipped then 0 else room m)
  copied-length storage key m bytes e = copied-many storage key m bytes m.skipped e

  -- stored
  inside-cases : (storage : Contents) (address count : ℕ) → is_inside storage address count ≡ true → (count ≡ 0) ⊎ (address + count ≤ length storage.bytes)
  inside-cases storage address count e = by (count == 0) (nat_le (address + count) (length storage.bytes)) refl refl e
    where
      by : (b c : Bool) → (count == 0) ≡ b → nat_le (address + count) (length storage.bytes) ≡ c → (b || c) ≡ true → (count ≡ 0) ⊎ (address + count ≤ length storage.bytes)
      by true c f g h = inl (eqb-true count 0 f)
      by false true f g h = inr (leb-true (address + count) (length storage.bytes) g)
      by false false f g h = absurd (cc h)

  put-stands : (storage : Contents) (address : ℕ) (bytes : List ℕ) → is_inside storage address (length bytes) ≡ true → (i : ℕ) → i < length bytes →
      slice_get (put_at storage address bytes).bytes (address + i) ≡ slice_get bytes i
  put-stands storage address bytes w i l =
      elim (inside-cases storage address (length bytes) w) [
        | inl z ↦ absurd (omega (arith, z, l))
        | inr h ↦
            let long : length (put_at storage address bytes).bytes ≡ length storage.bytes = laws.size storage address bytes w in
            slice_get-get_or (put_at storage address bytes).bytes (address + i) 0 (omega (arith, l, h, long))
            ∙ ap Some (laws.placed storage address bytes w i l) ∙ sym (slice_get-get_or bytes i 0 l)
      ]

  same-get : (xs ys : List ℕ) (place : ℕ) → length xs ≡ length ys → slice_index xs place ≡ slice_index ys place → slice_get xs place ≡ slice_get ys place
  same-get xs ys place long e = by (nat_lt place (length xs)) refl
    where
      by : (b : Bool) → nat_lt place (length xs) ≡ b → slice_get xs place ≡ slice_get ys place
      by true f =
          let l : place < length xs = ltb-true place (length xs) f in
          slice_get-get_or xs place 0 l ∙ ap Some e ∙ sym (slice_get-get_or ys place 0 (omega (arith, l, long)))
      by false f =
          let l : length xs ≤ place = ltb-false place (length xs) f in
          slice_get_past xs place l ∙ sym (slice_get_past ys place (omega (arith, l, long)))

  contains-at : (xs : List (Option ℕ)) (k : ℕ) (x : Option ℕ) → slice_get xs k ≡ Some x → Contains xs x
  contains-at xs k x e = (k, slice_get_within xs k x e, get_or_from_slice_get xs k x x e)

  put-others : (storage : Contents) (m : Moving) (bytes : List ℕ) → m.skipped ≡ false → is_inside storage m.piece (length bytes) ≡ true → (place : ℕ) →
      Contains (each_below (next_place m) (length bytes)) (Some place) ⊎ (slice_get (put_at storage m.piece bytes).bytes place ≡ slice_get storage.bytes place)
  put-others storage m bytes s w place = by (nat_lt place m.piece) (nat_lt place (m.piece + length bytes)) refl refl
    where
      by : (b c : Bool) → nat_lt place m.piece ≡ b → nat_lt place (m.piece + length bytes) ≡ c →
          Contains (each_below (next_place m) (length bytes)) (Some place) ⊎ (slice_get (put_at storage m.piece bytes).bytes place ≡ slice_get storage.bytes place)
      by true c e f =
          inr (same-get (put_at storage m.piece bytes).bytes storage.bytes place (laws.size storage m.piece bytes w) (laws.before storage m.piece bytes w place (ltb-true place m.piece e)))
      by false true e f =
          let low : m.piece ≤ place = ltb-false place m.piece e in
          let high : place < m.piece + length bytes = ltb-true place (m.piece + length bytes) f in
          let here : m.piece + (place - m.piece) ≡ place = omega (arith, low) in
          inl (contains-at (each_below (next_place m) (length bytes)) (place - m.piece) (Some place)
          (each-get (next_place m) (length bytes) (place - m.piece) (omega (arith, low, high)) ∙ ap Some (place-is m s (place - m.piece) ∙ ap Some here)))
      by false false e f =
          inr (same-get (put_at storage m.piece bytes).bytes storage.bytes place (laws.size storage m.piece bytes w) (laws.after storage m.piece bytes w place (ltb-false place (m.piece + length bytes) f)))

  -- an index of a list of places
  each-within : (f : ℕ → Option ℕ) (n i : ℕ) (x : Option ℕ) → slice_get (each_below f n) i ≡ Some x → (i < n) × (f i ≡ x)
  each-within f n i x e =
      let l : i < length (each_below f n) = slice_get_within (each_below f n) i x e in
      let long : length (each_below f n) ≡ n = length-each_below f n in
      let within : i < n = omega (arith, l, long) in
      (within, cc (sym (each-get f n i within) ∙ e))

  pub record IsStore (old new : Contents) (m : Moving) (bytes : List ℕ) : Type 0 where
    pub stands : (i place : ℕ) → slice_get (each_below (next_place m) (length bytes)) i ≡ Some (Some place) → slice_get new.bytes place ≡ slice_get bytes i
    pub others : (place : ℕ) → Contains (each_below (next_place m) (length bytes)) (Some place) ⊎ (slice_get new.bytes place ≡ slice_get old.bytes place)
    pub alone : new ≡ record old { bytes = new.bytes }

  stored-by : (storage after : Contents) (key : ℕ) (m : Moving) (bytes : List ℕ) (b : Bool) → m.skipped ≡ b →
      (if b then Ok storage else checked (keys.stored_bytes storage key m.piece bytes)) ≡ Ok after → IsStore storage after m bytes
  stored-by storage after key m bytes true s e =
      let same : storage ≡ after = cc e in
      subst (λ (x : Contents). IsStore storage x m bytes) same
      (record {
        stands = λ i place h. let w : next_place m i ≡ Some place = (each-within (next_place m) (length bytes) i (Some place) h).1 in absurd (cc (sym (no-place m s i) ∙ w));
        others = λ place. inr refl;
        alone = refl;
      })
  stored-by storage after key m bytes false s e =
      let got : keys.stored_bytes storage key m.piece bytes ≡ Ok after = was-checked (keys.stored_bytes storage key m.piece bytes) after e in
      let did : (_ : is_inside storage m.piece (length bytes) ≡ true) × (put_at storage m.piece bytes ≡ after) =
      was-permitted (is_inside storage m.piece (length bytes)) (keys_permit (key_permits_store key) storage m.piece (length bytes)) (put_at storage m.piece bytes) after got in
      subst (λ (x : Contents). IsStore storage x m bytes) did.1
      (record {
        stands = λ i place h.
            let w : (_ : i < length bytes) × (next_place m i ≡ Some place) = each-within (next_place m) (length bytes) i (Some place) h in
            let here : m.piece + i ≡ place = cc (sym (place-is m s i) ∙ w.1) in
            ap (λ (k : ℕ). slice_get (put_at storage m.piece bytes).bytes k) (sym here) ∙ put-stands storage m.piece bytes did.0 i w.0;
        others = λ place. put-others storage m bytes s did.0 place;
        alone = refl;
      })

  pub stored-bytes : (storage after : Contents) (key : ℕ) (m : Moving) (bytes : List ℕ) → access.stored_or_skipped storage key m bytes ≡ Ok after → IsStore storage after m bytes
  stored-bytes storage after key m bytes e = stored-by storage after key m bytes m.skipped refl e
