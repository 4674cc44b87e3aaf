-- One event and its answer, by what the machine did on the host's storage and what the log has.
use Rattle.std.proofs.Common.{◌≡◌, ◌≤◌, refl, sym, ◌∙◌, ap, subst, arith, ℕ, List, ◌++◌, Ok, Err, inl, inr}
use Rattle.std.specs.Prelude.{◌⊎◌, IfSome}
use Rattle.std.proofs.lemmas.List.{append-nil}
use Rattle.storage_keys.specs.Storage.{Contents, IsAddressable}
use Rattle.chan_events.specs.Events.{Event}
use Rattle.chan_events.specs.declared.reply.Entry.{Entry}
use Rattle.chan_events.specs.Replies.{Reply}
use Rattle.machine_model.specs.State.{lent, no_storage}
use Rattle.machine_model.specs.Ruled.{GoesByRule}
use Rattle.machine_model.specs.State.{State}
use Rattle.machine_model.specs.Steps.{Performs}
use Rattle.path_select.specs.Choice.{Rule}
use Rattle.subsystem.specs.Keeping.{all_serials}
use Rattle.subsystem.proofs.Pasts.{KeepsSetUps, performed-set_up}
use Rattle.subsystem.proofs.Rising.{GoesByTable, StandsPending, StepsLater, performed-brings, performed-rises, same-rises}
use Rattle.channel_subsystem.specs.Ends.{still_kept}
use Rattle.channel_subsystem.specs.Hosting.{HasNumber, Hosted, IsAsBefore, IsHostRefusal, IsHostStep, IsOfSize, Leads, machine_answer}
use Rattle.channel_subsystem.specs.Stores.{stores}
use Rattle.channel_subsystem.specs.declared.host_fault.HostFault.{HostFault}
use Rattle.channel_subsystem.specs.declared.keeping.Keeping.TheVariants.{AllEntries}
use Rattle.channel_subsystem.proofs.Leading.{Adds, led-by-entry, led-further, led-left, led-stored}

-- what the laws say
pub record HasLaws : Type 0 where
  pub keeps : KeepsSetUps
  pub later : StepsLater
  pub pending : StandsPending
  pub table : GoesByTable

-- the machine performed the event
pub accepted : HasLaws → (picks : Rule) (old new : Hosted) (before after : Contents) (e : Event) (r : Reply) → HasNumber (lent old.machine before) →
    Performs (lent old.machine before) e (Ok r) (lent new.machine after) → GoesByRule picks (lent old.machine before) e (Ok r) (lent new.machine after) → Adds old new e r →
    IsOfSize old.blocks before → IsAddressable before → IsAddressable after → IsHostStep picks old before e (Ok r) new after
accepted laws picks old new before after e r (h, run, few) step ruled adds size sound further = record {
  step = step;
  kept = adds.kept;
  room = adds.room;
  count = adds.count;
  size = size;
  blocks = adds.blocks;
  keeping = adds.keeping;
  ruled = ruled;
  refused = tt;
  refusal = tt;
  history = λ _. led-further laws.keeps old new before after e r adds step sound further size;
  at_once = led-by-entry laws.keeps old new before after e r adds step further;
  set_up = performed-set_up laws.keeps (lent old.machine before) e (Ok r) (lent new.machine after) step;
  rises = performed-rises laws.later h (lent old.machine before) e (Ok r) (lent new.machine after) run step;
  ordered = performed-brings laws.pending laws.table h (lent old.machine before) e (Ok r) (lent new.machine after) run step;
}

-- the call was refused, and nothing is changed
unmoved-left : KeepsSetUps → (picks : Rule) (old : Hosted) (room : ℕ) (before : Contents) (e : Event) (f : HostFault) → old.room ≤ room → IsAddressable before → IsHostRefusal old before e f →
    IfSome (machine_answer (Err f)) (λ a. GoesByRule picks (lent old.machine before) e a (lent old.machine before)) →
    IsHostStep picks old before e (Err f) (record old { kept = still_kept old.keeping old.kept; room = room }) before
unmoved-left keeps picks old room before e f more sound why ruled =
    let new : Hosted = record old { kept = still_kept old.keeping old.kept; room = room } in
    record {
      step = tt;
      kept = tt;
      room = omega (arith, more);
      count = tt;
      size = tt;
      blocks = refl;
      keeping = refl;
      ruled = ruled;
      refused = (record { same = refl; room = more }, refl);
      refusal = why;
      history = λ size h storage k.
          subst (λ (l : List Entry). Leads (h ++ l) new before) (sym (append-nil (stores before)))
          (led-left old room (h ++ stores before) before (led-stored keeps old before size sound h storage k));
      at_once = λ h k. subst (λ (l : List Entry). Leads l new before) (sym (append-nil h)) (led-left old room h before k);
      set_up = λ setup k. k;
      rises = same-rises (all_serials old.machine);
      ordered = tt;
    }

pub unmoved : KeepsSetUps → (picks : Rule) (old new : Hosted) (before after : Contents) (e : Event) (f : HostFault) → IsAsBefore old new → after ≡ before →
    IsAddressable before → IsHostRefusal old before e f → IfSome (machine_answer (Err f)) (λ a. GoesByRule picks (lent old.machine before) e a (lent old.machine before)) →
    IsHostStep picks old before e (Err f) new after
unmoved keeps picks old new before after e f left storage sound why ruled =
    subst (λ (x : Hosted). IsHostStep picks old before e (Err f) x after) (sym left.same)
    (subst (λ (x : Contents). IsHostStep picks old before e (Err f) (record old { kept = still_kept old.keeping old.kept; room = new.room }) x) (sym storage)
    (unmoved-left keeps picks old new.room before e f left.room sound why ruled))

-- what a call leaves of the log where it is refused
pub as-before : (old : Hosted) (kept : List Entry) (room : ℕ) → kept ≡ still_kept old.keeping old.kept → old.room ≤ room → IsAsBefore old (record old { kept = kept; room = room })
as-before old kept room still more = record { same = ap (λ (l : List Entry). record old { kept = l; room = room }) still; room = more }

pub unmoved-seen : KeepsSetUps → (picks : Rule) (old seen : Hosted) (kept : List Entry) (room : ℕ) (before after : Contents) (e : Event) (f : HostFault) → old ≡ seen →
    kept ≡ still_kept old.keeping old.kept → old.room ≤ room → after ≡ before → IsAddressable before → IsHostRefusal old before e f →
    IfSome (machine_answer (Err f)) (λ a. GoesByRule picks (lent old.machine before) e a (lent old.machine before)) →
    IsHostStep picks seen before e (Err f) (record old { kept = kept; room = room }) after
unmoved-seen keeps picks old seen kept room before after e f is still more storage sound why ruled =
    subst (λ (s : Hosted). IsHostStep picks s before e (Err f) (record old { kept = kept; room = room }) after) is
    (unmoved keeps picks old (record old { kept = kept; room = room }) before after e f (as-before old kept room still more) storage sound why ruled)

-- there was no room where all entries are kept
pub lacks-room : (s : Hosted) (room : ℕ) → (s.keeping ≡ AllEntries) ⊎ (1 ≤ room) → s.room ≤ room → room ≡ 0 → (s.keeping ≡ AllEntries) × (s.room ≡ 0)
lacks-room s room why more none =
    elim why [
      | inl all ↦ (all, omega (arith, more, none))
      | inr some ↦ absurd (omega (arith, some, none))
    ]

-- a refusal of the machine changed nothing beside storage either
pub same-machine : (old new : State) (before after : Contents) → lent new after ≡ lent old before → old ≡ lent old no_storage → new ≡ lent new no_storage → new ≡ old
same-machine old new before after same was is = is ∙ (ap (λ (s : State). lent s no_storage) same ∙ sym was)
