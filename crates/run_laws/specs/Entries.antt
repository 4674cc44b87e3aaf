-- What is claimed of the entries of a history one by one, each by what was seen before it.
use Rattle.std.specs.Prelude.{List, [], ◌∷◌}
use Rattle.chan_events.specs.Events.{Event}
use Rattle.chan_events.specs.declared.reply.Entry.{Entry}
use Rattle.chan_events.specs.Replies.{Reply}

-- what is seen after these entries, where this was seen before them
abbrev pub seen_through : {S : Type 0} → (Event → Reply → S → S) → S → List Entry → S
seen_through after k [] = k
seen_through after k (entry ∷ entries) = seen_through after (after entry.event entry.reply k) entries

-- each of these entries keeps to a claim, where this was seen before them
abbrev pub Throughout : {S : Type 0} → (Event → Reply → S → S) → (Event → Reply → S → Type 0) → S → List Entry → Type 0
Throughout after Claim k [] = Unit {0}
Throughout after Claim k (entry ∷ entries) = Claim entry.event entry.reply k × Throughout after Claim (after entry.event entry.reply k) entries
