-- Two entries are the same exactly where they are kept with the same numbers and have the same bytes.
use Rattle.std.proofs.Common.{◌≡◌, ◌≤◌, ℕ, ◌∙◌, sym, ap, ap₂, arith, List, ◌++◌, length, take, drop, take-add, length-drop, length-take-le, take-take, le_refl}
use Rattle.event_log.specs.declared.entries.KeptEntry.{KeptEntry}
use Rattle.chan_events.specs.Events.{event_in, event_length}
use Rattle.chan_events.specs.Replies.{reply_in, reply_length}
use Rattle.chan_events.specs.declared.reply.Entry.{Entry}
use Rattle.event_log.specs.Entries.{entry_bytes, entry_in, entry_length}
use Rattle.chan_events.proofs.Packed.{event-bytes, event-kept, kept_of_event, kept_of_reply, reply-bytes, reply-kept}
use Rattle.event_log.specs.Logs.{entry_at, Fits}

entry-bytes : (k : KeptEntry) (bytes : List ℕ) → entry_bytes (entry_in k bytes) ≡ take (entry_length k) bytes
entry-bytes k bytes =
    ap₂ (λ (a b : List ℕ). a ++ b) (reply-bytes k.reply bytes) (event-bytes k.event (drop (reply_length k.reply) bytes)) ∙ sym (take-add (reply_length k.reply) (event_length k.event) bytes)

-- two entries that are the same are kept with the same numbers, and have the same bytes
record IsKeptAs (k l : KeptEntry) (a b : List ℕ) : Type 0 where
  pub event : k.event ≡ l.event
  pub reply : k.reply ≡ l.reply
  pub bytes : take (entry_length k) a ≡ take (entry_length l) b

same-kept : (k l : KeptEntry) (a b : List ℕ) → entry_length k ≤ length a → entry_length l ≤ length b → entry_in k a ≡ entry_in l b → IsKeptAs k l a b
same-kept k l a b here there same = record {
  event = sym (event-kept k.event (drop (reply_length k.reply) a) (omega (arith, here, length-drop (reply_length k.reply) a)))
      ∙ ap (λ (e : Entry). kept_of_event e.event) same
      ∙ event-kept l.event (drop (reply_length l.reply) b) (omega (arith, there, length-drop (reply_length l.reply) b));
  reply = sym (reply-kept k.reply a (omega (arith, here))) ∙ ap (λ (e : Entry). kept_of_reply e.reply) same ∙ reply-kept l.reply b (omega (arith, there));
  bytes = sym (entry-bytes k a) ∙ ap entry_bytes same ∙ entry-bytes l b;
}

-- and those that are kept so are the same
kept-same : (k l : KeptEntry) (a b : List ℕ) → k.event ≡ l.event → k.reply ≡ l.reply → a ≡ b → entry_in k a ≡ entry_in l b
kept-same k l a b event reply bytes i = record { event = event_in (event i) (drop (reply_length (reply i)) (bytes i)); reply = reply_in (reply i) (bytes i) }

abbrev cut : List ℕ → KeptEntry → List ℕ
cut arena k = take (entry_length k) (drop k.start arena)

pub from_parts : (k l : KeptEntry) (a b : List ℕ) → (k.event ≡ l.event) × (k.reply ≡ l.reply) → cut a k ≡ cut b l → entry_at a k ≡ entry_at b l
from_parts k l a b (event, reply) bytes = kept-same k l (cut a k) (cut b l) event reply bytes

long : (arena : List ℕ) (k : KeptEntry) → Fits (length arena) k → entry_length k ≤ length (cut arena k)
long arena k fits =
    let within : entry_length k ≤ length (drop k.start arena) = omega (arith, fits, length-drop k.start arena) in
    omega (arith, length-take-le (entry_length k) (drop k.start arena) within)

whole : (arena : List ℕ) (k : KeptEntry) → take (entry_length k) (cut arena k) ≡ cut arena k
whole arena k = take-take (entry_length k) (entry_length k) (drop k.start arena) (le_refl (entry_length k))

pub to_parts : (k l : KeptEntry) (a b : List ℕ) → Fits (length a) k → Fits (length b) l → entry_at a k ≡ entry_at b l → ((k.event ≡ l.event) × (k.reply ≡ l.reply)) × (cut a k ≡ cut b l)
to_parts k l a b here there same =
    let s : IsKeptAs k l (cut a k) (cut b l) = same-kept k l (cut a k) (cut b l) (long a k here) (long b l there) same in
    ((s.event, s.reply), sym (whole a k) ∙ s.bytes ∙ whole b l)
