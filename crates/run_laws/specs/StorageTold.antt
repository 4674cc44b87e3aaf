-- What an entry tells of main storage: what an operator puts there, and the operands that instructions store (SA22-7832, chapters 3
-- and 14).
use Rattle.std.specs.Prelude.{◌≡◌, ◌⊎◌, ℕ, List, [], ◌∷◌, length, Ok, ◌==◌, if◌then◌else◌}
use Rattle.storage_keys.specs.Storage.{Contents, put, shown, key_set, prefix_set, operand_stored}
use Rattle.chan_events.specs.Events.{Event}
use Rattle.chan_events.specs.declared.event.Event.TheVariants as event
use Rattle.chan_events.specs.declared.event.Instruction.TheVariants as instruction
use Rattle.chan_events.specs.declared.event.OtherInstruction.{OtherInstruction}
use Rattle.chan_events.specs.declared.event.OtherInstruction.TheVariants as other
use Rattle.chan_events.specs.declared.reply.Entry.{Entry}
use Rattle.chan_events.specs.Replies.{Reply}
use Rattle.chan_events.specs.declared.reply.Reply.TheVariants as reply

-- an operand of so many bytes is stored at a CPU's real address
abbrev pub IsOperandStored : Contents → ℕ → ℕ → ℕ → Contents → Type 0
IsOperandStored storage cpu address count after = (bytes : List ℕ) × (length bytes ≡ count) × (after ≡ operand_stored storage cpu address bytes)

abbrev pub StoresOther : Contents → ℕ → OtherInstruction → Reply → Contents → Type 0
StoresOther storage cpu (other.Tpi mask address) r after =
    (after ≡ storage) ⊎ IsOperandStored storage cpu (if address == 0 then 184 else address) (if address == 0 then 12 else 8) after
StoresOther storage cpu (other.Stcrw address) r after = IsOperandStored storage cpu address 4 after
StoresOther storage cpu (other.Stcps address) (reply.Paths engaged) after = after ≡ operand_stored storage cpu address engaged
StoresOther storage cpu i r after = after ≡ storage

-- TEST and STORE SUBCHANNEL store where they show a status word. A signal that comes up may bring bytes, which change no key and no
-- prefix: which bytes is told of its program
abbrev pub StoresBy : Contents → Event → Reply → Contents → Type 0
StoresBy storage (event.Put address bytes) r after = put storage address bytes ≡ Ok after
StoresBy storage (event.SetKey address key) r after = key_set storage address key ≡ Ok after
StoresBy storage (event.SetPrefix cpu address) r after = prefix_set storage cpu address ≡ Ok after
StoresBy storage (event.Show address count) (reply.Shown bytes) after = (shown storage address count ≡ Ok bytes) × (after ≡ storage)
StoresBy storage (event.Execute cpu (instruction.Tsch word address)) (reply.Status a scsw) after = IsOperandStored storage cpu address 64 after
StoresBy storage (event.Execute cpu (instruction.Stsch word address)) (reply.Status a scsw) after = IsOperandStored storage cpu address 52 after
StoresBy storage (event.Execute cpu (instruction.Enable word subclass multipath)) r after =
    IsOperandStored storage cpu 0xF00 52 after ⊎ IsOperandStored storage cpu 0xF04 4 after
StoresBy storage (event.ExecuteOther cpu i) r after = StoresOther storage cpu i r after
StoresBy storage (event.Up word path) r after = Unit {0}
StoresBy storage e r after = after ≡ storage

-- what storage held after each of these entries, from what it held before the first to what it held after the last
abbrev pub AreStored : Contents → List Entry → List Contents → Contents → Type 0
AreStored storage [] [] last = last ≡ storage
AreStored storage (entry ∷ entries) (after ∷ later) last = StoresBy storage entry.event entry.reply after × AreStored after entries later last
AreStored storage entries later last = ⊥
