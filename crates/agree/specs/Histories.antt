-- The history of a world: each event that was accepted, with what was seen of it (own).
use Rattle.std.specs.Prelude.{List, [], ◌∷◌, Ok, Err}
use Rattle.agree.specs.declared.event.WorldEvent.{WorldEvent}
use Rattle.agree.specs.declared.reply.WorldReply.{WorldReply}
use Rattle.agree.specs.State.{WorldState}
use Rattle.agree.specs.Results.{WorldResult, world_result, world_after}
use Rattle.agree.specs.Replies.{reply_of}

pub record WorldEntry : Type 0 where
  pub event : WorldEvent
  pub reply : WorldReply

abbrev pub entered : WorldState → WorldEvent → WorldResult → List WorldEntry → List WorldEntry
entered w e (Ok new) entries = record { event = e; reply = reply_of w e } ∷ entries
entered w e (Err f) entries = entries

-- each of these entries keeps to a claim, where this was seen before them
abbrev pub Throughout : {S : Type 0} → (WorldEvent → WorldReply → S → S) → (WorldReply → S → Type 0) → S → List WorldEntry → Type 0
Throughout after Claim k [] = Unit {0}
Throughout after Claim k (entry ∷ entries) = Claim entry.reply k × Throughout after Claim (after entry.event entry.reply k) entries

-- the entries of a list of events; a refused one leaves none
abbrev pub entries_of : WorldState → List WorldEvent → List WorldEntry
entries_of w [] = []
entries_of w (e ∷ es) = entered w e (world_result w e) (entries_of (world_after w e) es)
