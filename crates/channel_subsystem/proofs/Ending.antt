-- Histories that end by what is kept, as they go on.
use Rattle.std.proofs.Common.{◌≡◌, refl, sym, ◌∙◌, ap, ℕ, ◌+◌, true, List, [], ◌∷◌, ◌++◌, append_assoc}
use Rattle.std.specs.Prelude.{All}
use Rattle.std.proofs.lemmas.List.{append-nil}
use Rattle.std.proofs.lemmas.List.Elements.{All-append, All-cons, All-nil}
use Rattle.storage_keys.specs.Storage.{Contents}
use Rattle.chan_events.specs.Events.{Event}
use Rattle.chan_events.specs.declared.reply.Entry.{Entry}
use Rattle.run_laws.specs.Stores.{is_store}
use Rattle.channel_subsystem.specs.declared.keeping.Keeping.{Keeping}
use Rattle.channel_subsystem.specs.declared.keeping.Keeping.TheVariants.{LastEntry, AllEntries}
use Rattle.channel_subsystem.specs.Ends.{AreAmongStores, EndsBy, IsStore, still_kept}
use Rattle.channel_subsystem.specs.Stores.{done, done_each, put_byte, set_key_of, set_prefix_of, stores}

-- stores behind them
among-stored : (kept there later : List Entry) → All IsStore later → AreAmongStores kept there → AreAmongStores kept (there ++ later)
among-stored [] there later stored k = All-append IsStore there later k stored
among-stored (entry ∷ kept) there later stored (before, rest, same, are, k) =
    (before, rest ++ later, ap (λ (l : List Entry). l ++ later) same ∙ append_assoc before (entry ∷ rest) later, are, among-stored kept rest later stored k)

-- another entry behind them
among-entry : (kept there : List Entry) (new : Entry) → AreAmongStores kept there → AreAmongStores (kept ++ new ∷ []) (there ++ new ∷ [])
among-entry [] there new k = (there, [], refl, k, All-nil IsStore)
among-entry (entry ∷ kept) there new (before, rest, same, are, k) =
    (before, rest ++ new ∷ [], ap (λ (l : List Entry). l ++ new ∷ []) same ∙ append_assoc before (entry ∷ rest) (new ∷ []), are, among-entry kept rest new k)

-- a history ends by none of its entries
pub ends-none : (h : List Entry) → EndsBy h []
ends-none h = (h, [], sym (append-nil h), All-nil IsStore)

-- and goes on by stores, and by an entry that is kept
pub ends-stored : (h kept later : List Entry) → All IsStore later → EndsBy h kept → EndsBy (h ++ later) kept
ends-stored h kept later stored (earlier, there, same, k) =
    (earlier, there ++ later, ap (λ (l : List Entry). l ++ later) same ∙ append_assoc earlier there later, among-stored kept there later stored k)

pub ends-entry : (h kept : List Entry) (new : Entry) → EndsBy h kept → EndsBy (h ++ new ∷ []) (kept ++ new ∷ [])
ends-entry h kept new (earlier, there, same, k) =
    (earlier, there ++ new ∷ [], ap (λ (l : List Entry). l ++ new ∷ []) same ∙ append_assoc earlier there (new ∷ []), among-entry kept there new k)

-- it ends by what is kept still
pub ends-still : (keeping : Keeping) (h kept : List Entry) → EndsBy h kept → EndsBy h (still_kept keeping kept)
ends-still LastEntry h kept k = ends-none h
ends-still AllEntries h kept k = k

-- what a host stores by itself is stores
each-store : {A : Type 0} (of : ℕ → A → Event) → ((n : ℕ) (x : A) → is_store (of n x) ≡ true) → (n : ℕ) (xs : List A) → All IsStore (done_each of n xs)
each-store of is n [] = All-nil IsStore
each-store of is n (x ∷ xs) = All-cons IsStore (done (of n x)) (done_each of (n + 1) xs) (is n x) (each-store of is (n + 1) xs)

pub all-stores : (storage : Contents) → All IsStore (stores storage)
all-stores storage =
    let puts = done_each put_byte 0 storage.bytes in
    let sets = done_each set_key_of 0 storage.keys in
    let names = done_each set_prefix_of 0 storage.prefixes in
    All-append IsStore puts (sets ++ names) (each-store put_byte (λ n x. refl) 0 storage.bytes)
    (All-append IsStore sets names (each-store set_key_of (λ n x. refl) 0 storage.keys) (each-store set_prefix_of (λ n x. refl) 0 storage.prefixes))
