-- Histories that lead to a channel subsystem of a host, as they open and go on.
use Rattle.std.proofs.Common.{◌≡◌, refl, sym, ◌∙◌, ap, subst, ℕ, ◌+◌, ◌*◌, ◌/◌, ◌^◌, ◌≤◌, not, List, [], ◌∷◌, ◌++◌, length, append_assoc, arith}
use Rattle.std.proofs.lemmas.List.{length-replicate}
use Rattle.std.proofs.lemmas.List.Sums.{count_by-le-length}
use Rattle.storage_keys.specs.Storage.{Contents, IsAddressable, cleared_storage}
use Rattle.chan_events.specs.Events.{Event}
use Rattle.chan_events.specs.declared.reply.Entry.{Entry}
use Rattle.chan_events.specs.Replies.{Reply}
use Rattle.channel_config.proofs.Keeping.{lawful-storage}
use Rattle.channel_config.specs.Lawful.{IsLawful, hosted}
use Rattle.channel_config.specs.Setup.{Setup}
use Rattle.machine_model.specs.State.{lent, no_storage}
use Rattle.machine_model.specs.Setups.{IsSetUp}
use Rattle.machine_model.specs.State.{State, opening_of}
use Rattle.machine_model.specs.Steps.{HasRun, Step}
use Rattle.run_laws.specs.Stores.{besides_stores, is_store}
use Rattle.subsystem.proofs.Pasts.{KeepsSetUps, past-more, past-opens, past-set_up}
use Rattle.channel_subsystem.specs.Ends.{EndsBy, still_kept}
use Rattle.channel_subsystem.specs.Hosting.{HasLed, HasNumber, Hosted, IsAsBefore, IsOfSize, Leads}
use Rattle.channel_subsystem.specs.Stores.{stores}
use Rattle.channel_subsystem.proofs.Ending.{all-stores, ends-entry, ends-none, ends-still, ends-stored}
use Rattle.channel_subsystem.proofs.StoresLead.{IsAsLarge, besides-append, stores-lead, stores-uncounted}

-- storage that is whole blocks is of a size, or not, by its bytes
pub of-size : (blocks : ℕ) (storage : Contents) → IsAddressable storage → length storage.bytes / 4096 ≡ blocks → IsOfSize blocks storage
of-size blocks storage sound same = record { bytes = omega (arith, sound.blocks, same); keys = omega (arith, sound.blocks, same); cpus = sound.cpus }

pub not-of-size : (blocks : ℕ) (storage : Contents) → ¬ (length storage.bytes / 4096 ≡ blocks) → ¬ IsOfSize blocks storage
not-of-size blocks storage other k = other (let same : length storage.bytes ≡ 4096 * blocks = k.bytes in omega arith)

-- contents of one size are as large
large : (blocks : ℕ) (old new : Contents) → IsOfSize blocks old → IsOfSize blocks new → IsAsLarge old new
large blocks old new a b = record { bytes = a.bytes ∙ sym b.bytes; keys = a.keys ∙ sym b.keys; prefixes = a.cpus ∙ sym b.cpus }

-- what was stored since it was led to, with no other entry
pub led-stored : KeepsSetUps → (s : Hosted) (before : Contents) → IsOfSize s.blocks before → IsAddressable before → (h : List Entry) (storage : Contents) → Leads h s storage →
    Leads (h ++ stores before) s before
led-stored keeps s before size sound h storage k = record {
  run = stores-lead keeps h s.machine storage before (large s.blocks storage before k.size size) sound k.run;
  size = size;
  counted = omega (arith, k.counted, besides-append h (stores before), stores-uncounted before);
  ends = ends-stored h s.kept (stores before) (all-stores before) k.ends;
}

-- the entry of an event was added, and beside the machine nothing else is changed
pub record Adds (old new : Hosted) (e : Event) (r : Reply) : Type 0 where
  pub blocks : new.blocks ≡ old.blocks
  pub keeping : new.keeping ≡ old.keeping
  pub kept : new.kept ≡ still_kept old.keeping old.kept ++ record { event = e; reply = r } ∷ []
  pub room : old.room ≤ new.room + 1
  pub count : new.count ≡ old.count + 1

-- by a step from there
step-size : KeepsSetUps → (blocks : ℕ) (old new : State) (before after : Contents) (h : List Entry) (e : Event) (r : Reply) → HasRun h (lent old before) →
    Step (lent old before) e r (lent new after) → IsOfSize blocks before → IsAddressable after → IsOfSize blocks after
step-size keeps blocks old new before after h e r run step size sound =
    let setup : Setup = run.0.0 in
    let up : IsSetUp setup (lent old before) = run.0.1 in
    let stays : IsSetUp setup (lent new after) = keeps setup (lent old before) e r (lent new after) step up in
    let keys : length after.keys ≡ blocks = stays.blocks ∙ (sym up.blocks ∙ size.keys) in
    record { bytes = sound.blocks ∙ ap (λ (n : ℕ). 4096 * n) keys; keys = keys; cpus = sound.cpus }

pub led-by-entry : KeepsSetUps → (old new : Hosted) (before after : Contents) (e : Event) (r : Reply) → Adds old new e r → Step (lent old.machine before) e r (lent new.machine after) →
    IsAddressable after → (h : List Entry) → Leads h old before → Leads (h ++ record { event = e; reply = r } ∷ []) new after
led-by-entry keeps old new before after e r adds step further h k =
    let added : Entry = record { event = e; reply = r } in
    let entry : List Entry = added ∷ [] in
    let single : besides_stores entry ≤ 1 = count_by-le-length (λ (x : Entry). not (is_store x.event)) entry in
    let counts : besides_stores (h ++ entry) ≤ old.count + 1 = omega (arith, k.counted, besides-append h entry, single) in
    record {
      run = past-more keeps h (h ++ entry) (lent old.machine before) (lent new.machine after) e r k.run step refl;
      size = subst (λ (n : ℕ). IsOfSize n after) (sym adds.blocks) (step-size keeps old.blocks old.machine new.machine before after h e r k.run step k.size further);
      counted = subst (λ (n : ℕ). besides_stores (h ++ entry) ≤ n) (sym adds.count) counts;
      ends = subst (λ (l : List Entry). EndsBy (h ++ entry) l) (sym adds.kept) (ends-entry h (still_kept old.keeping old.kept) added (ends-still old.keeping h old.kept k.ends));
    }

-- by what was stored, and then by a step
pub led-further : KeepsSetUps → (old new : Hosted) (before after : Contents) (e : Event) (r : Reply) → Adds old new e r → Step (lent old.machine before) e r (lent new.machine after) →
    IsAddressable before → IsAddressable after → IsOfSize old.blocks before → (h : List Entry) (storage : Contents) → Leads h old storage →
    Leads (h ++ (stores before ++ record { event = e; reply = r } ∷ [])) new after
led-further keeps old new before after e r adds step sound further size h storage k =
    let entry : List Entry = record { event = e; reply = r } ∷ [] in
    subst (λ (l : List Entry). Leads l new after) (append_assoc h (stores before) entry)
    (led-by-entry keeps old new before after e r adds step further (h ++ stores before) (led-stored keeps old before size sound h storage k))

-- and by a call that was refused: what was kept of it is no matter, nor is the room
pub led-left : (old : Hosted) (room : ℕ) (h : List Entry) (storage : Contents) → Leads h old storage →
    Leads h (record old { kept = still_kept old.keeping old.kept; room = room }) storage
led-left old room h storage k = record { run = k.run; size = k.size; counted = k.counted; ends = ends-still old.keeping h old.kept k.ends }

pub led-as-before : (old new : Hosted) → IsAsBefore old new → HasLed old → HasLed new
led-as-before old new left (h, storage, k) = (h, storage, subst (λ (s : Hosted). Leads h s storage) (sym left.same) (led-left old new.room h storage k))

-- what was kept is let go
pub led-forgotten : (old : Hosted) (room : ℕ) (h : List Entry) (storage : Contents) → Leads h old storage → Leads h (record old { kept = []; room = room }) storage
led-forgotten old room h storage k = record { run = k.run; size = k.size; counted = k.counted; ends = ends-none h }

pub led-on : KeepsSetUps → (old new : Hosted) (before after : Contents) (e : Event) (r : Reply) → Adds old new e r → Step (lent old.machine before) e r (lent new.machine after) →
    IsAddressable before → IsAddressable after → IsOfSize old.blocks before → HasLed old → HasLed new
led-on keeps old new before after e r adds step sound further size (h, storage, k) =
    (h ++ (stores before ++ record { event = e; reply = r } ∷ []), after, led-further keeps old new before after e r adds step sound further size h storage k)

-- at the opening
pub led-opens : (setup : Setup) (blocks : ℕ) (s : Hosted) → IsLawful setup → 16 ≤ blocks → s.machine ≡ lent (opening_of setup) no_storage → s.blocks ≡ blocks → s.kept ≡ [] →
    Leads [] s (cleared_storage blocks)
led-opens setup blocks s lawful least opened same none = record {
  run = past-opens (hosted setup blocks) [] (lent s.machine (cleared_storage blocks)) (lawful-storage setup blocks least lawful) refl
      (ap (λ (m : State). lent m (cleared_storage blocks)) opened);
  size = record {
    bytes = length-replicate {A = ℕ} (4096 * blocks) 0 ∙ ap (λ (n : ℕ). 4096 * n) (sym same);
    keys = length-replicate blocks _ ∙ sym same;
    cpus = length-replicate {A = ℕ} 16 0;
  };
  counted = let none : besides_stores [] ≡ 0 = refl in omega (arith, none);
  ends = subst (λ (l : List Entry). EndsBy [] l) (sym none) (ends-none []);
}

pub set_up-opens : (setup : Setup) (blocks : ℕ) (machine : State) → IsLawful setup → 16 ≤ blocks → machine ≡ lent (opening_of setup) no_storage →
    IsSetUp (hosted setup blocks) (lent machine (cleared_storage blocks))
set_up-opens setup blocks machine lawful least opened =
    past-set_up (hosted setup blocks) (lent machine (cleared_storage blocks)) (lawful-storage setup blocks least lawful)
    (ap (λ (m : State). lent m (cleared_storage blocks)) opened)

-- there is a number for another event
pub led-number : KeepsSetUps → (s : Hosted) (before : Contents) → IsOfSize s.blocks before → IsAddressable before → s.count + 1 ≤ 2 ^ 62 → HasLed s → HasNumber (lent s.machine before)
led-number keeps s before size sound few (h, storage, k) =
    let there = led-stored keeps s before size sound h storage k in (h ++ stores before, there.run, omega (arith, there.counted, few))
