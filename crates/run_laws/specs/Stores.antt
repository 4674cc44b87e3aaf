-- Entries that are no stores: by these alone are the numbers of subchannels and units raised.
use Rattle.std.specs.Prelude.{ℕ, Bool, true, false, not, List, count_by}
use Rattle.chan_events.specs.Events.{Event}
use Rattle.chan_events.specs.declared.event.Event.TheVariants as event
use Rattle.chan_events.specs.declared.reply.Entry.{Entry}

-- bytes are put, or a key or a prefix is set
abbrev pub is_store : Event → Bool
is_store (event.Put address bytes) = true
is_store (event.SetKey address key) = true
is_store (event.SetPrefix cpu address) = true
is_store e = false

-- how many of these entries are no stores
abbrev pub besides_stores : List Entry → ℕ
besides_stores h = count_by (λ entry. not (is_store entry.event)) h
