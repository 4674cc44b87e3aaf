-- An entry whose bytes stand elsewhere, and what it is with those bytes.
use Rattle.std.specs.Prelude.{ℕ, ◌+◌, List, ◌++◌, drop}
use Rattle.chan_events.specs.declared.reply.Entry.{Entry}
use Rattle.chan_events.specs.Events.{event_in, event_length, event_bytes}
use Rattle.chan_events.specs.Replies.{reply_in, reply_length, reply_bytes}
use Rattle.event_log.specs.declared.entries.KeptEntry.{KeptEntry}

-- the entry with the first of these bytes: those of the reply, which is known first, then those of the event
abbrev pub entry_in : KeptEntry → List ℕ → Entry
entry_in kept bytes = record { event = event_in kept.event (drop (reply_length kept.reply) bytes); reply = reply_in kept.reply bytes }

-- how many bytes it has
abbrev pub entry_length : KeptEntry → ℕ
entry_length kept = reply_length kept.reply + event_length kept.event

-- the bytes of an entry
abbrev pub entry_bytes : Entry → List ℕ
entry_bytes entry = reply_bytes entry.reply ++ event_bytes entry.event
