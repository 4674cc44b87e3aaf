-- An instruction whose operand is given by value, as a step of a channel subsystem on each storage that has the operand.
use Rattle.std.proofs.Common.{◌≡◌, refl, ℕ, ◌+◌, ◌^◌, ◌≤◌, ◌⊎◌, List, Ok, Err}
use Rattle.std.specs.Prelude.{IfSome}
use Rattle.storage_keys.specs.Storage.{Contents, cleared_storage}
use Rattle.chan_events.specs.declared.reply.Entry.{Entry}
use Rattle.chan_events.specs.Replies.{PlainReply, reply_of}
use Rattle.io_step.specs.GivenOperands.{HasOperand, HasRoom, storage_with, with_block, with_reply}
use Rattle.io_step.specs.declared.by_value.Answered.{Answered}
use Rattle.io_step.specs.declared.by_value.ByValue.{ByValue}
use Rattle.io_step.specs.declared.by_value.OtherByValue.{OtherByValue}
use Rattle.machine_model.specs.State.{lent}
use Rattle.machine_model.specs.Ruled.{GoesByRule}
use Rattle.machine_model.specs.State.{State}
use Rattle.machine_model.specs.Steps.{Performs}
use Rattle.path_select.specs.Choice.{Rule}
use Rattle.subsystem.proofs.Pasts.{KeepsSetUps}
use Rattle.channel_subsystem.specs.Ends.{still_kept}
use Rattle.channel_subsystem.specs.GivenSteps.{IsGivenStep, IsOtherGivenStep, given_event, other_event}
use Rattle.chan_events.specs.Events.{Event}
use Rattle.channel_subsystem.specs.declared.keeping.Keeping.TheVariants.{AllEntries}
use Rattle.channel_subsystem.specs.Hosting.{HasLed, Hosted, IsHostRefusal, IsHostSize, LacksRoom, machine_answer}
use Rattle.channel_subsystem.specs.declared.host_fault.HostFault.{HostFault}
use Rattle.channel_subsystem.specs.declared.host_fault.HostFault.TheVariants as fault
use Rattle.channel_subsystem.proofs.Answering.{HasLaws, accepted, lacks-room, unmoved-seen}
use Rattle.channel_subsystem.proofs.GivenStorage.{at-first, block-addressable, given-storage, reply-addressable}
use Rattle.channel_subsystem.proofs.Leading.{Adds, led-number, led-on}

-- what a machine did with an instruction on a subchannel, wherever storage has its operand
abbrev pub HasGiven : (old new : State) (cpu word : ℕ) → ByValue → Answered → Type 0
HasGiven old new cpu word i answered =
    (storage : Contents) → HasOperand i storage cpu 0 →
    Performs (lent old storage) (given_event cpu word i) (Ok (reply_of answered.reply)) (lent new (with_block storage cpu 0 answered.block))

pub given-accepted : HasLaws → (picks : Rule) (old new : Hosted) (cpu word : ℕ) (i : ByValue) (answered : Answered) → HasLed old → old.count + 1 ≤ 2 ^ 62 →
    HasGiven old.machine new.machine cpu word i answered → Adds old new (given_event cpu word i) (reply_of answered.reply) → IsGivenStep picks old cpu word i (Ok answered) new
given-accepted laws picks old new cpu word i answered led few performs adds before size sound there =
    accepted laws picks old new before (with_block before cpu 0 answered.block) (given_event cpu word i) (reply_of answered.reply)
    (led-number laws.keeps old before size sound few led) (performs before there) tt adds size sound (block-addressable before cpu answered.block sound)

pub given-led : KeepsSetUps → (old new : Hosted) (cpu word : ℕ) (i : ByValue) (answered : Answered) → IsHostSize old.blocks → HasOperand i (storage_with i old.blocks) cpu 0 →
    HasGiven old.machine new.machine cpu word i answered → Adds old new (given_event cpu word i) (reply_of answered.reply) → HasLed old → HasLed new
given-led keeps old new cpu word i answered host there performs adds led =
    let before : Contents = storage_with i old.blocks in
    let hosts = given-storage i old.blocks cpu host there in
    led-on keeps old new before (with_block before cpu 0 answered.block) (given_event cpu word i) (reply_of answered.reply) adds (performs before there)
    hosts.sound (block-addressable before cpu answered.block hosts.sound) hosts.size led

-- there was no room for the entry
pub lacks-why : (s : Hosted) (room : ℕ) (before : Contents) (e : Event) (f : HostFault) → (s.keeping ≡ AllEntries) ⊎ (1 ≤ room) → s.room ≤ room → LacksRoom s.count room f →
    IsHostRefusal s before e f
lacks-why s room before e fault.OtherSize all more why = absurd why
lacks-why s room before e fault.NumbersUsedUp all more why = why
lacks-why s room before e fault.NoMemory all more why = lacks-room s room all more why
lacks-why s room before e (fault.Refused f) all more why = absurd why

-- the call was refused
given-unruled : (picks : Rule) (s : State) (cpu word : ℕ) (i : ByValue) (f : HostFault) → IfSome (machine_answer (Err f)) (λ a. GoesByRule picks s (given_event cpu word i) a s)
given-unruled picks s cpu word i fault.OtherSize = tt
given-unruled picks s cpu word i fault.NumbersUsedUp = tt
given-unruled picks s cpu word i fault.NoMemory = tt
given-unruled picks s cpu word i (fault.Refused f) = tt

pub given-unmoved : KeepsSetUps → (picks : Rule) (old seen : Hosted) (kept : List Entry) (room cpu word : ℕ) (i : ByValue) (f : HostFault) → old ≡ seen →
    kept ≡ still_kept old.keeping old.kept → old.room ≤ room → ((before : Contents) → HasOperand i before cpu 0 → IsHostRefusal old before (given_event cpu word i) f) →
    IsGivenStep picks seen cpu word i (Err f) (record old { kept = kept; room = room })
given-unmoved keeps picks old seen kept room cpu word i f is still more why before size sound there =
    unmoved-seen keeps picks old seen kept room before before (given_event cpu word i) f is still more refl sound (why before there)
    (given-unruled picks (lent old.machine before) cpu word i f)

-- the same of an instruction that names no subchannel
abbrev pub HasOtherGiven : (old new : State) (cpu : ℕ) → OtherByValue → PlainReply → Type 0
HasOtherGiven old new cpu i plain =
    (storage : Contents) → HasRoom i storage cpu 0 →
    Performs (lent old storage) (other_event cpu i) (Ok (reply_of plain)) (lent new (with_reply storage cpu 0 (reply_of plain)))

pub other-accepted : HasLaws → (picks : Rule) (old new : Hosted) (cpu : ℕ) (i : OtherByValue) (plain : PlainReply) → HasLed old → old.count + 1 ≤ 2 ^ 62 →
    HasOtherGiven old.machine new.machine cpu i plain → Adds old new (other_event cpu i) (reply_of plain) → IsOtherGivenStep picks old cpu i (Ok plain) new
other-accepted laws picks old new cpu i plain led few performs adds before size sound there =
    accepted laws picks old new before (with_reply before cpu 0 (reply_of plain)) (other_event cpu i) (reply_of plain)
    (led-number laws.keeps old before size sound few led) (performs before there) tt adds size sound (reply-addressable before cpu (reply_of plain) sound)

pub other-led : KeepsSetUps → (old new : Hosted) (cpu : ℕ) (i : OtherByValue) (plain : PlainReply) → IsHostSize old.blocks → HasRoom i (cleared_storage old.blocks) cpu 0 →
    HasOtherGiven old.machine new.machine cpu i plain → Adds old new (other_event cpu i) (reply_of plain) → HasLed old → HasLed new
other-led keeps old new cpu i plain host there performs adds led =
    let before : Contents = cleared_storage old.blocks in
    let hosts = at-first old.blocks host in
    led-on keeps old new before (with_reply before cpu 0 (reply_of plain)) (other_event cpu i) (reply_of plain) adds (performs before there)
    hosts.sound (reply-addressable before cpu (reply_of plain) hosts.sound) hosts.size led

other-unruled : (picks : Rule) (s : State) (cpu : ℕ) (i : OtherByValue) (f : HostFault) → IfSome (machine_answer (Err f)) (λ a. GoesByRule picks s (other_event cpu i) a s)
other-unruled picks s cpu i fault.OtherSize = tt
other-unruled picks s cpu i fault.NumbersUsedUp = tt
other-unruled picks s cpu i fault.NoMemory = tt
other-unruled picks s cpu i (fault.Refused f) = tt

pub other-unmoved : KeepsSetUps → (picks : Rule) (old seen : Hosted) (kept : List Entry) (room cpu : ℕ) (i : OtherByValue) (f : HostFault) → old ≡ seen →
    kept ≡ still_kept old.keeping old.kept → old.room ≤ room → ((before : Contents) → IsHostRefusal old before (other_event cpu i) f) →
    IsOtherGivenStep picks seen cpu i (Err f) (record old { kept = kept; room = room })
other-unmoved keeps picks old seen kept room cpu i f is still more why before size sound there =
    unmoved-seen keeps picks old seen kept room before before (other_event cpu i) f is still more refl sound (why before)
    (other-unruled picks (lent old.machine before) cpu i f)
