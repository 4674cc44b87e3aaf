-- Packed entries over one arena of bytes, and the entries that they are.
use Rattle.std.specs.Prelude.{ℕ, ◌≡◌, ◌+◌, ◌/◌, ◌≤◌, ◌<◌, ◌++◌, min, List, [], ◌∷◌, All, Vec, vec_len, vec_capacity, Result, Ok, Err, length, take, drop, map, slice_get}
use Rattle.chan_events.specs.declared.reply.Entry.{Entry}
use Rattle.chan_events.specs.Replies.{Reply}
use Rattle.chan_events.specs.declared.event.Event.TheVariants as event
use Rattle.chan_events.specs.declared.reply.Reply.TheVariants as reply
use Rattle.chan_model.specs.declared.fault.Fault.{Fault}
use Rattle.event_log.specs.Entries.{entry_in, entry_length}
use Rattle.chan_events.specs.Replies.{reply_bytes, reply_in, reply_length}
use Rattle.event_log.specs.declared.entries.KeptEntry.{KeptEntry}
use Rattle.chan_events.specs.Replies.{KeptReply}

-- entries, for how many more of them there is room, and the reply of the one that is being written: Done, until a step answers
pub record Logged : Type 0 where
  pub entries : List Entry
  pub room : ℕ
  pub reply : Reply

-- no entry came or went, and no room was lost
pub record IsKept (old new : Logged) : Type 0 where
  pub entries : new.entries ≡ old.entries
  pub room : old.room ≤ new.room

-- what a step came to: its refusal, or the reply that stands in the log
abbrev pub answer_in : {A : Type 0} → Result A Fault → Logged → Result Reply Fault
answer_in (Ok _) log = Ok log.reply
answer_in (Err f) log = Err f

-- room for one more takes a slot among the entries, and 768 bytes, as many as an entry may have
abbrev pub room_of : (slots bytes : ℕ) → ℕ
room_of slots bytes = min slots (bytes / 768)

-- the entry whose bytes stand from its start on
abbrev pub entry_at : List ℕ → KeptEntry → Entry
entry_at arena kept = entry_in kept (take (entry_length kept) (drop kept.start arena))

abbrev pub entries_at : List ℕ → List KeptEntry → List Entry
entries_at arena kept = map (entry_at arena) kept

-- its bytes are all there
abbrev pub Fits : ℕ → KeptEntry → Type 0
Fits size kept = kept.start + entry_length kept ≤ size

abbrev pub AllFit : List ℕ → List KeptEntry → Type 0
AllFit arena kept = All (Fits (length arena)) kept

-- the reply of the last entry; Done where there is none
abbrev pub last_reply : List Entry → Reply
last_reply [] = reply.Done
last_reply (e ∷ []) = e.reply
last_reply (e ∷ f ∷ h) = last_reply (f ∷ h)

-- the same in the part of an arena before an entry that is being written; behind it stand the bytes of its reply, and no others
pub record IsWritten (arena : List ℕ) (kept : List KeptEntry) (start : ℕ) (reply : KeptReply) : Type 0 where
  pub fit : All (Fits start) kept
  pub inside : start ≤ length arena
  pub whole : start + reply_length reply ≡ length arena
  pub bound : reply_length reply ≤ 512

-- an entry that is being written: its reply is known, its event is not
abbrev pub unfinished : ℕ → KeptReply → KeptEntry
unfinished start r = record { start = start; event = event.SystemReset; reply = r }

-- the reply of the entry that is being written; Done where no step has answered
abbrev pub written_reply : List KeptEntry → KeptReply
written_reply [] = reply.Done
written_reply (k ∷ ks) = k.reply

-- behind the entries that have ended stands the one that is being written, or none
abbrev pub IsPending : ℕ → List KeptEntry → Type 0
IsPending start [] = Unit
IsPending start (k ∷ []) = k ≡ unfinished start k.reply
IsPending start (k ∷ l ∷ ks) = ⊥

-- entries of which so many have ended, in their arena
pub record IsLogged (arena : List ℕ) (kept : List KeptEntry) (count start : ℕ) : Type 0 where
  pub some : count ≤ length kept
  pub pending : IsPending start (drop count kept)
  pub written : IsWritten arena (take count kept) start (written_reply (drop count kept))

-- an arena has grown by the bytes of a reply, which is told by what is kept of it and them
pub record IsPacked {Z : Type 0} (old new : Vec ℕ Z) (kept : KeptReply) (r : Reply) : Type 0 where
  pub told : (rest : List ℕ) → reply_in kept (reply_bytes r ++ rest) ≡ r
  pub long : reply_length kept ≡ length (reply_bytes r)
  pub items : new.items ≡ old.items ++ reply_bytes r
  pub bound : length (reply_bytes r) ≤ 512
  pub size : vec_len new ≡ vec_len old + length (reply_bytes r)
  pub capacity : vec_capacity old ≤ vec_capacity new

-- entries have one at an index, and others have the same at another
abbrev pub HasSame : List Entry → ℕ → List Entry → ℕ → Type 0
HasSame entries number others index = (number < length entries) × (slice_get entries number ≡ slice_get others index)
