-- What a host's CPUs and its operator store between two calls, as entries that nobody had to call for (own).
use Rattle.std.specs.Prelude.{ℕ, ◌+◌, ◌*◌, List, [], ◌∷◌, ◌++◌}
use Rattle.storage_keys.specs.declared.key.Key.{Key}
use Rattle.storage_keys.specs.Storage.{Contents}
use Rattle.chan_events.specs.Events.{Event}
use Rattle.chan_events.specs.declared.event.Event.TheVariants as event
use Rattle.chan_events.specs.declared.reply.Entry.{Entry}
use Rattle.chan_events.specs.declared.reply.Reply.TheVariants as reply

-- an event that was done
abbrev pub done : Event → Entry
done e = record { event = e; reply = reply.Done }

-- the events of these items in order, the first having this number
abbrev pub done_each : {A : Type 0} → (ℕ → A → Event) → ℕ → List A → List Entry
done_each of first [] = []
done_each of first (item ∷ items) = done (of first item) ∷ done_each of (first + 1) items

-- each byte is put at its address, the key of each block is set, and the prefix of each CPU
abbrev pub put_byte : ℕ → ℕ → Event
put_byte address byte = event.Put address (byte ∷ [])

abbrev pub set_key_of : ℕ → Key → Event
set_key_of block key = event.SetKey (4096 * block) key

abbrev pub set_prefix_of : ℕ → ℕ → Event
set_prefix_of cpu address = event.SetPrefix cpu address

-- whatever storage of this size held before, it holds these contents after them
abbrev pub stores : Contents → List Entry
stores storage = done_each put_byte 0 storage.bytes ++ (done_each set_key_of 0 storage.keys ++ done_each set_prefix_of 0 storage.prefixes)
