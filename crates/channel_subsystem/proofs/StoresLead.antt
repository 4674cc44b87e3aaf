-- Whatever storage of a size held, its contents come about by stores.
use Rattle.std.proofs.Common.{◌≡◌, refl, sym, ◌∙◌, ap, ap₂, subst, ℕ, zero, suc, ◌+◌, ◌*◌, ◌/◌, ◌<◌, ◌≤◌, Bool, true, not, cond, ◌==◌, Result, Ok, Err, List, [], ◌∷◌, ◌++◌, length, take, drop, length-append, append_assoc, add-one, arith}
use Rattle.std.specs.Prelude.{slice_index, if◌then◌else◌}
use Rattle.std.proofs.lemmas.Bool.{le-leb}
use Rattle.std.proofs.lemmas.List.{append-nil, set_at}
use Rattle.std.proofs.lemmas.List.Sums.{sum_by-append, sum_by-cons}
use Rattle.storage_keys.specs.declared.key.Key.{Key}
use Rattle.storage_keys.specs.declared.StorageFault.{StorageFault}
use Rattle.storage_keys.specs.declared.StorageFault.TheVariants.{Addressing, Specification}
use Rattle.storage_keys.specs.Storage.{Contents, IsAddressable, IsPrefix, is_inside, key_set, prefix_set, put, put_at, with_key, with_prefix}
use Rattle.chan_events.specs.Events.{Event}
use Rattle.chan_events.specs.declared.reply.Entry.{Entry}
use Rattle.chan_events.specs.declared.reply.Reply.TheVariants as reply
use Rattle.machine_model.specs.State.{lent}
use Rattle.machine.proofs.Storing.{put_performs, key_performs, prefix_performs}
use Rattle.machine_model.specs.State.{State}
use Rattle.machine_model.specs.Steps.{HasRun, Step}
use Rattle.machine_model.specs.StorageSteps.{storage_result}
use Rattle.run_laws.specs.Stores.{besides_stores, is_store}
use Rattle.subsystem.proofs.Pasts.{KeepsSetUps, past-more}
use Rattle.channel_subsystem.specs.Stores.{done, done_each, put_byte, set_key_of, set_prefix_of, stores}

-- what each item needs, by its number
abbrev AllFit : {A : Type 0} → (ℕ → A → Type 0) → ℕ → List A → Type 0
AllFit Fits first [] = Unit {0}
AllFit Fits first (item ∷ items) = Fits first item × AllFit Fits (first + 1) items

-- one item after another takes its place
abbrev Replaces : {A : Type 0} → (ℕ → A → Event) → (List A → State) → (ℕ → A → Type 0) → Type 0
Replaces {A} of at Fits = (xs ys : List A) (y x : A) → Fits (length xs) x → Step (at (xs ++ y ∷ ys)) (of (length xs) x) reply.Done (at (xs ++ x ∷ ys))

each-leads : {A : Type 0} (of : ℕ → A → Event) (at : List A → State) (Fits : ℕ → A → Type 0) → Replaces of at Fits → KeepsSetUps →
    (xs olds news : List A) (h : List Entry) → length olds ≡ length news → AllFit Fits (length xs) news → HasRun h (at (xs ++ olds)) →
    HasRun (h ++ done_each of (length xs) news) (at (xs ++ news))
each-leads of at Fits replaces keeps xs [] [] h long fit run = subst (λ (k : List Entry). HasRun k (at (xs ++ []))) (sym (append-nil h)) run
each-leads of at Fits replaces keeps xs [] (x ∷ news) h long fit run = absurd (omega (arith, long))
each-leads of at Fits replaces keeps xs (y ∷ olds) [] h long fit run = absurd (omega (arith, long))
each-leads {A} of at Fits replaces keeps xs (y ∷ olds) (x ∷ news) h long fit run =
    let e = of (length xs) x in
    let more = h ++ done e ∷ [] in
    let front = xs ++ x ∷ [] in
    let size : length front ≡ length xs + 1 = length-append xs (x ∷ []) in
    let next : HasRun more (at (xs ++ x ∷ olds)) =
    past-more keeps h more (at (xs ++ y ∷ olds)) (at (xs ++ x ∷ olds)) e reply.Done run (replaces xs olds y x fit.0) refl in
    let rest : HasRun (more ++ done_each of (length front) news) (at (front ++ news)) =
    each-leads of at Fits replaces keeps front olds news more (omega (arith, long)) (subst (λ (n : ℕ). AllFit Fits n news) (sym size) fit.1)
    (subst (λ (l : List A). HasRun more (at l)) (sym (append_assoc xs (x ∷ []) olds)) next) in
    subst (λ (l : List A). HasRun (h ++ done_each of (length xs) (x ∷ news)) (at l)) (append_assoc xs (x ∷ []) news)
    (subst (λ (k : List Entry). HasRun k (at (front ++ news)))
    (ap (λ (n : ℕ). more ++ done_each of n news) size ∙ append_assoc h (done e ∷ []) (done_each of (length xs + 1) news)) rest)

-- a list is cut at one of its items
cut-take : {A : Type 0} (xs zs : List A) → take (length xs) (xs ++ zs) ≡ xs
cut-take [] zs = refl
cut-take (x ∷ xs) zs = ap (λ l. x ∷ l) (cut-take xs zs)

cut-drop : {A : Type 0} (xs : List A) (y : A) (ys : List A) → drop (suc (length xs)) (xs ++ y ∷ ys) ≡ ys
cut-drop [] y ys = refl
cut-drop (x ∷ xs) y ys = cut-drop xs y ys

abbrev contents : List ℕ → List Key → List ℕ → Contents
contents bytes keys prefixes = record { bytes = bytes; keys = keys; prefixes = prefixes }

-- bytes
byte-put : (keys : List Key) (prefixes xs ys : List ℕ) (y x : ℕ) → put (contents (xs ++ y ∷ ys) keys prefixes) (length xs) (x ∷ []) ≡ Ok (contents (xs ++ x ∷ ys) keys prefixes)
byte-put keys prefixes xs ys y x =
    let bytes = xs ++ y ∷ ys in
    let s = contents bytes keys prefixes in
    let inside : is_inside s (length xs) 1 ≡ true = le-leb (length xs + 1) (length bytes) (omega (arith, length-append xs (y ∷ ys))) in
    let spliced : (put_at s (length xs) (x ∷ [])).bytes ≡ xs ++ x ∷ ys =
    ap₂ (λ (a b : List ℕ). a ++ x ∷ b) (cut-take xs (y ∷ ys)) (ap (λ (n : ℕ). drop n bytes) (add-one (length xs)) ∙ cut-drop xs y ys) in
    ap (λ (i : Bool). if i then Ok (put_at s (length xs) (x ∷ [])) else Err Addressing) inside ∙ ap (λ (b : List ℕ). Ok (contents b keys prefixes)) spliced

byte-step : (m : State) (keys : List Key) (prefixes : List ℕ) → Replaces put_byte (λ bytes. lent m (contents bytes keys prefixes)) (λ n x. Unit {0})
byte-step m keys prefixes xs ys y x fit =
    let s = lent m (contents (xs ++ y ∷ ys) keys prefixes) in
    put_performs s (length xs) (x ∷ []) (Ok reply.Done) (lent m (contents (xs ++ x ∷ ys) keys prefixes))
    (ap (λ (r : Result Contents StorageFault). storage_result s r) (byte-put keys prefixes xs ys y x))

-- keys
key-put : (bytes prefixes : List ℕ) (xs ys : List Key) (y x : Key) → 4096 * length xs < length bytes →
    key_set (contents bytes (xs ++ y ∷ ys) prefixes) (4096 * length xs) x ≡ Ok (contents bytes (xs ++ x ∷ ys) prefixes)
key-put bytes prefixes xs ys y x within =
    let s = contents bytes (xs ++ y ∷ ys) prefixes in
    let at = 4096 * length xs in
    let inside : is_inside s at 1 ≡ true = le-leb (at + 1) (length bytes) (omega (arith, within)) in
    let placed : length xs ≡ at / 4096 = omega arith in
    ap (λ (i : Bool). if i then Ok (with_key s at x) else Err Addressing) inside
    ∙ ap (λ (k : List Key). Ok (contents bytes k prefixes)) (set_at xs y ys x (at / 4096) placed)

key-step : (m : State) (bytes prefixes : List ℕ) →
    Replaces set_key_of (λ keys. lent m (contents bytes keys prefixes)) (λ n x. 4096 * n < length bytes)
key-step m bytes prefixes xs ys y x within =
    let s = lent m (contents bytes (xs ++ y ∷ ys) prefixes) in
    key_performs s (4096 * length xs) x (Ok reply.Done) (lent m (contents bytes (xs ++ x ∷ ys) prefixes))
    (ap (λ (r : Result Contents StorageFault). storage_result s r) (key-put bytes prefixes xs ys y x within))

-- prefixes
prefix-put : (bytes : List ℕ) (keys : List Key) (xs ys : List ℕ) (y x : ℕ) → IsPrefix (length bytes) x →
    prefix_set (contents bytes keys (xs ++ y ∷ ys)) (length xs) x ≡ Ok (contents bytes keys (xs ++ x ∷ ys))
prefix-put bytes keys xs ys y x is =
    let s = contents bytes keys (xs ++ y ∷ ys) in
    let inside : is_inside s x 8192 ≡ true = le-leb (x + 8192) (length bytes) is.1 in
    ap (λ (n : ℕ). if not (n == 0) then Err Specification else (if is_inside s x 8192 then Ok (with_prefix s (length xs) x) else Err Addressing)) is.0
    ∙ ap (λ (i : Bool). if i then Ok (with_prefix s (length xs) x) else Err Addressing) inside
    ∙ ap (λ (p : List ℕ). Ok (contents bytes keys p)) (set_at xs y ys x (length xs) refl)

prefix-step : (m : State) (bytes : List ℕ) (keys : List Key) →
    Replaces set_prefix_of (λ prefixes. lent m (contents bytes keys prefixes)) (λ n x. IsPrefix (length bytes) x)
prefix-step m bytes keys xs ys y x is =
    let s = lent m (contents bytes keys (xs ++ y ∷ ys)) in
    prefix_performs s (length xs) x (Ok reply.Done) (lent m (contents bytes keys (xs ++ x ∷ ys)))
    (ap (λ (r : Result Contents StorageFault). storage_result s r) (prefix-put bytes keys xs ys y x is))

-- what all items need
bytes-fit : (n : ℕ) (xs : List ℕ) → AllFit (λ i x. Unit {0}) n xs
bytes-fit n [] = tt
bytes-fit n (x ∷ xs) = (tt, bytes-fit (n + 1) xs)

keys-fit : (size n : ℕ) (xs : List Key) → 4096 * (n + length xs) ≤ size → AllFit (λ i x. 4096 * i < size) n xs
keys-fit size n [] within = tt
keys-fit size n (x ∷ xs) within = (omega (arith, within), keys-fit size (n + 1) xs (omega (arith, within)))

prefixes-fit : (size n : ℕ) (xs : List ℕ) → ((i : ℕ) → IsPrefix size (slice_index xs i)) → AllFit (λ i x. IsPrefix size x) n xs
prefixes-fit size n [] is = tt
prefixes-fit size n (x ∷ xs) is = (is zero, prefixes-fit size (n + 1) xs (λ i. is (suc i)))

-- as many bytes, keys and prefixes
pub record IsAsLarge (old new : Contents) : Type 0 where
  pub bytes : length old.bytes ≡ length new.bytes
  pub keys : length old.keys ≡ length new.keys
  pub prefixes : length old.prefixes ≡ length new.prefixes

pub stores-lead : KeepsSetUps → (h : List Entry) (m : State) (old new : Contents) → IsAsLarge old new → IsAddressable new → HasRun h (lent m old) →
    HasRun (h ++ stores new) (lent m new)
stores-lead keeps h m old new large sound run =
    let size = length new.bytes in
    let puts = done_each put_byte 0 new.bytes in
    let sets = done_each set_key_of 0 new.keys in
    let names = done_each set_prefix_of 0 new.prefixes in
    let one : HasRun (h ++ puts) (lent m (contents new.bytes old.keys old.prefixes)) =
    each-leads put_byte (λ bytes. lent m (contents bytes old.keys old.prefixes)) (λ n x. Unit {0}) (byte-step m old.keys old.prefixes) keeps
    [] old.bytes new.bytes h large.bytes (bytes-fit 0 new.bytes) run in
    let two : HasRun ((h ++ puts) ++ sets) (lent m (contents new.bytes new.keys old.prefixes)) =
    each-leads set_key_of (λ keys. lent m (contents new.bytes keys old.prefixes)) (λ n x. 4096 * n < size) (key-step m new.bytes old.prefixes) keeps
    [] old.keys new.keys (h ++ puts) large.keys (keys-fit size 0 new.keys (omega (arith, sound.blocks))) one in
    let three : HasRun (((h ++ puts) ++ sets) ++ names) (lent m new) =
    each-leads set_prefix_of (λ prefixes. lent m (contents new.bytes new.keys prefixes)) (λ n x. IsPrefix size x) (prefix-step m new.bytes new.keys) keeps
    [] old.prefixes new.prefixes ((h ++ puts) ++ sets) large.prefixes (prefixes-fit size 0 new.prefixes sound.prefixes) two in
    subst (λ (k : List Entry). HasRun k (lent m new)) (append_assoc (h ++ puts) sets names ∙ append_assoc h puts (sets ++ names)) three

-- stores are not counted
pub besides-append : (h later : List Entry) → besides_stores (h ++ later) ≡ besides_stores h + besides_stores later
besides-append h later = sum_by-append (λ (entry : Entry). cond (not (is_store entry.event)) 1 0) h later

none-counted : {A : Type 0} (of : ℕ → A → Event) → ((n : ℕ) (x : A) → is_store (of n x) ≡ true) → (n : ℕ) (xs : List A) → besides_stores (done_each of n xs) ≡ 0
none-counted of is n [] = refl
none-counted of is n (x ∷ xs) =
    sum_by-cons (λ (entry : Entry). cond (not (is_store entry.event)) 1 0) (done (of n x)) (done_each of (n + 1) xs)
    ∙ ap₂ (λ (b : Bool) (k : ℕ). cond (not b) 1 0 + k) (is n x) (none-counted of is (n + 1) xs)

pub stores-uncounted : (storage : Contents) → besides_stores (stores storage) ≡ 0
stores-uncounted storage =
    let puts = done_each put_byte 0 storage.bytes in
    let sets = done_each set_key_of 0 storage.keys in
    let names = done_each set_prefix_of 0 storage.prefixes in
    besides-append puts (sets ++ names)
    ∙ ap₂ (λ (a b : ℕ). a + b) (none-counted put_byte (λ n x. refl) 0 storage.bytes)
    (besides-append sets names ∙ ap₂ (λ (a b : ℕ). a + b) (none-counted set_key_of (λ n x. refl) 0 storage.keys) (none-counted set_prefix_of (λ n x. refl) 0 storage.prefixes))
