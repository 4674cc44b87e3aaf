-- The steps of storage: an operator's acts (own).
use Rattle.std.specs.Prelude.{ℕ, List, Result, Ok, Err}
use Rattle.storage_keys.specs.declared.key.Key.{Key}
use Rattle.storage_keys.specs.declared.StorageFault.{StorageFault}
use Rattle.storage_keys.specs.Storage.{Contents, put, shown, key_set, prefix_set}
use Rattle.chan_model.specs.declared.fault.Fault.TheVariants as fault
use Rattle.chan_events.specs.declared.reply.Reply.TheVariants as reply
use Rattle.machine_model.specs.State.{State}
use Rattle.machine_model.specs.Results.{Outcome, does}

-- an act on storage, which leaves it so or is refused
abbrev pub storage_result : State → Result Contents StorageFault → Outcome
storage_result s (Ok storage) = does reply.Done (record s { storage = storage })
storage_result s (Err f) = Err (fault.Storage f)

-- Put: bytes in storage
abbrev pub put_result : State → ℕ → List ℕ → Outcome
put_result s address bytes = storage_result s (put s.storage address bytes)

-- SetKey: the key of the block of an address
abbrev pub key_result : State → ℕ → Key → Outcome
key_result s address key = storage_result s (key_set s.storage address key)

-- SetPrefix: the prefix of a CPU
abbrev pub prefix_result : State → ℕ → ℕ → Outcome
prefix_result s cpu address = storage_result s (prefix_set s.storage cpu address)

-- Show: bytes of storage
abbrev pub show_result_of : State → Result (List ℕ) StorageFault → Outcome
show_result_of s r = elim r [ Ok bytes ↦ does (reply.Shown bytes) s | Err f ↦ Err (fault.Storage f) ]

abbrev pub show_result : State → ℕ → ℕ → Outcome
show_result s address count = show_result_of s (shown s.storage address count)
