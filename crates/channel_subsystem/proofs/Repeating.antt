-- Entries whose events are performed once more, as they grow at their end.
use Rattle.std.proofs.Common.{◌≡◌, ◌≤◌, ◌<◌, refl, sym, ◌∙◌, ap, ap₂, subst, ℕ, ◌+◌, ◌-◌, Option, Some, Ok, List, [], ◌∷◌, ◌++◌, length, length-append, take, append_assoc, arith, inl, inr}
use Rattle.std.specs.Prelude.{slice_get}
use Rattle.std.proofs.lemmas.List.{append-nil, take_more}
use Rattle.std.proofs.lemmas.Option.{get_or_from_slice_get, slice_get_cases, slice_get_within}
use Rattle.storage_keys.specs.Storage.{Contents}
use Rattle.chan_events.specs.Events.{Event}
use Rattle.chan_events.specs.declared.reply.Entry.{Entry}
use Rattle.chan_events.specs.Replies.{Reply}
use Rattle.event_log.specs.Logs.{last_reply}
use Rattle.machine_model.specs.State.{lent}
use Rattle.machine_model.specs.Steps.{HasRun}
use Rattle.path_select.specs.Choice.{Rule}
use Rattle.subsystem.proofs.Pasts.{KeepsSetUps, past-more}
use Rattle.channel_subsystem.specs.Ends.{still_kept}
use Rattle.channel_subsystem.specs.Hosting.{Hosted, IsHostStep, Leads}
use Rattle.channel_subsystem.specs.Replaying.{AreRepeated, EndsAt, GoesOtherwise}
use Rattle.channel_subsystem.specs.declared.not_replayed.NotReplayed.{NotReplayed}

repeated-then : (picks : Rule) (old : Hosted) (before : Contents) (entries : List Entry) (next : Hosted) (storage : Contents) (entry : Entry) (new : Hosted) (after : Contents) →
    AreRepeated picks old before entries next storage → IsHostStep picks next storage entry.event (Ok entry.reply) new after → AreRepeated picks old before (entries ++ entry ∷ []) new after
repeated-then picks old before [] next storage entry new after done step = (
  new,
  after,
  subst (λ (s : Hosted). IsHostStep picks s before entry.event (Ok entry.reply) new after) done.0
      (subst (λ (c : Contents). IsHostStep picks next c entry.event (Ok entry.reply) new after) done.1 step),
  (refl, refl),
)
repeated-then picks old before (first ∷ entries) next storage entry new after done step =
    (done.0, done.1, done.2, repeated-then picks done.0 done.1 entries next storage entry new after done.3 step)

-- the entry of an index after those before it
pub repeated-more : (picks : Rule) (old : Hosted) (before : Contents) (entries : List Entry) (index : ℕ) (next : Hosted) (storage : Contents) (entry : Entry) (new : Hosted) (after : Contents) →
    slice_get entries index ≡ Some entry → AreRepeated picks old before (take index entries) next storage →
    IsHostStep picks next storage entry.event (Ok entry.reply) new after → AreRepeated picks old before (take (index + 1) entries) new after
repeated-more picks old before entries index next storage entry new after there done step =
    let longer : take (index + 1) entries ≡ take index entries ++ entry ∷ [] =
    take_more entries index entry (slice_get_within entries index entry there)
    ∙ ap (λ (x : Entry). take index entries ++ x ∷ []) (get_or_from_slice_get entries index entry entry there) in
    subst (λ (l : List Entry). AreRepeated picks old before l new after) (sym longer)
    (repeated-then picks old before (take index entries) next storage entry new after done step)

-- what led there goes on by them
pub repeated-leads : (picks : Rule) (old : Hosted) (before : Contents) (entries : List Entry) (new : Hosted) (after : Contents) → AreRepeated picks old before entries new after →
    (h : List Entry) → Leads h old before → Leads (h ++ entries) new after
repeated-leads picks old before [] new after done h k =
    subst (λ (l : List Entry). Leads l new after) (sym (append-nil h))
    (subst (λ (s : Hosted). Leads h s after) (sym done.0) (subst (λ (c : Contents). Leads h old c) (sym done.1) k))
repeated-leads picks old before (entry ∷ entries) new after done h k =
    subst (λ (l : List Entry). Leads l new after) (append_assoc h (entry ∷ []) entries)
    (repeated-leads picks done.0 done.1 entries new after done.3 (h ++ entry ∷ []) (done.2.at_once h k))

pub repeated-runs : KeepsSetUps → (picks : Rule) (old : Hosted) (before : Contents) (entries : List Entry) (new : Hosted) (after : Contents) → AreRepeated picks old before entries new after →
    (h : List Entry) → HasRun h (lent old.machine before) → HasRun (h ++ entries) (lent new.machine after)
repeated-runs keeps picks old before [] new after done h k =
    subst (λ (l : List Entry). HasRun l (lent new.machine after)) (sym (append-nil h))
    (subst (λ (s : Hosted). HasRun h (lent s.machine after)) (sym done.0) (subst (λ (c : Contents). HasRun h (lent old.machine c)) (sym done.1) k))
repeated-runs keeps picks old before (entry ∷ entries) new after done h k =
    let next : Hosted = done.0 in
    let storage : Contents = done.1 in
    subst (λ (l : List Entry). HasRun l (lent new.machine after)) (append_assoc h (entry ∷ []) entries)
    (repeated-runs keeps picks next storage entries new after done.3 (h ++ entry ∷ [])
    (past-more keeps h (h ++ entry ∷ []) (lent old.machine before) (lent next.machine storage) entry.event entry.reply k done.2.step refl))

-- the entry that is kept last
last-got : (kept : List Entry) (entry : Entry) → slice_get (kept ++ entry ∷ []) (length kept) ≡ Some entry
last-got [] entry = refl
last-got (first ∷ kept) entry = last-got kept entry

pub last-kept : (all kept : List Entry) (entry : Entry) → all ≡ kept ++ entry ∷ [] → slice_get all (length all - 1) ≡ Some entry
last-kept all kept entry is =
    let last : length (kept ++ entry ∷ []) - 1 ≡ length kept = omega (arith, length-append kept (entry ∷ [])) in
    subst (λ (l : List Entry). slice_get l (length l - 1) ≡ Some entry) (sym is)
    (ap (λ (n : ℕ). slice_get (kept ++ entry ∷ []) n) last ∙ last-got kept entry)

pub some-kept : (all kept : List Entry) (entry : Entry) → all ≡ kept ++ entry ∷ [] → 1 ≤ length all
some-kept all kept entry is = omega (arith, length-append kept (entry ∷ []), ap (λ (l : List Entry). length l) is)

some-same : {x y : Entry} → Some x ≡ Some y → x ≡ y
some-same same = cc same

-- whether it is the entry that was to be repeated
pub same-step : (picks : Rule) (old : Hosted) (before : Contents) (found : Entry) (here : Option Entry) (new : Hosted) (after : Contents) →
    IsHostStep picks old before found.event (Ok (last_reply new.kept)) new after → slice_get new.kept (length new.kept - 1) ≡ here →
    (entry : Entry) → here ≡ Some entry → IsHostStep picks old before entry.event (Ok entry.reply) new after
same-step picks old before found here new after step same entry there =
    let last : Entry = record { event = found.event; reply = last_reply new.kept } in
    let is : entry ≡ last = some-same (sym there ∙ (sym same ∙ last-kept new.kept (still_kept old.keeping old.kept) last step.kept)) in
    subst (λ (x : Entry). IsHostStep picks old before x.event (Ok x.reply) new after) (sym is) step

pub other-step : (picks : Rule) (old : Hosted) (before : Contents) (found : Entry) (here : Option Entry) (new : Hosted) (after : Contents) → here ≡ Some found →
    IsHostStep picks old before found.event (Ok (last_reply new.kept)) new after → ¬ ((length new.kept - 1 < length new.kept) × (slice_get new.kept (length new.kept - 1) ≡ here)) →
    (entry : Entry) → here ≡ Some entry → IsHostStep picks old before entry.event (Ok (last_reply new.kept)) new after × ¬ (last_reply new.kept ≡ entry.reply)
other-step picks old before found here new after is step other entry there =
    let last : Entry = record { event = found.event; reply = last_reply new.kept } in
    let one : entry ≡ found = some-same (sym there ∙ is) in
    let got = last-kept new.kept (still_kept old.keeping old.kept) last step.kept in
    let some = some-kept new.kept (still_kept old.keeping old.kept) last step.kept in (
      subst (λ (x : Entry). IsHostStep picks old before x.event (Ok (last_reply new.kept)) new after) (sym one) step,
      λ same. other (omega (arith, some), got ∙ (ap₂ (λ (e : Event) (r : Reply). Some (record { event = e; reply = r })) (ap (λ (x : Entry). x.event) (sym one)) same ∙ sym there)),
    )

-- the entries before an index and that there
pub repeated-on : (picks : Rule) (old : Hosted) (before : Contents) (entries : List Entry) (index : ℕ) (next : Hosted) (storage : Contents) (new : Hosted) (after : Contents) →
    index < length entries → AreRepeated picks old before (take index entries) next storage →
    ((entry : Entry) → slice_get entries index ≡ Some entry → IsHostStep picks next storage entry.event (Ok entry.reply) new after) →
    AreRepeated picks old before (take (index + 1) entries) new after
repeated-on picks old before entries index next storage new after within done step =
    elim (slice_get_cases entries index).1 [
      | inl x ↦ repeated-more picks old before entries index next storage x.0 new after x.2 done (step x.0 x.2)
      | inr x ↦ absurd (omega (arith, within, x.0))
    ]

-- the entry there went otherwise
pub ends-at : (picks : Rule) (old : Hosted) (before : Contents) (entries : List Entry) (n : NotReplayed) (next : Hosted) (storage : Contents) (new : Hosted) (after : Contents) →
    n.index < length entries → AreRepeated picks old before (take n.index entries) next storage →
    ((entry : Entry) → slice_get entries n.index ≡ Some entry → GoesOtherwise picks next storage entry n.difference new after) →
    EndsAt picks old before entries n new after
ends-at picks old before entries n next storage new after within done otherwise =
    elim (slice_get_cases entries n.index).1 [
      | inl x ↦ record { next = next; storage = storage; repeated = done; entry = x.0; there = x.2; otherwise = otherwise x.0 x.2 }
      | inr x ↦ absurd (omega (arith, within, x.0))
    ]
