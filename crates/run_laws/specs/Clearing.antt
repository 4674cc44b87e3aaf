-- What clears status (SA22-7832, chapters 14 and 16).
use Rattle.std.specs.Prelude.{◌≡◌, ◌⊎◌, ℕ, true, Some, slice_get}
use Rattle.chan_model.specs.declared.answer.Answer.TheVariants as answer
use Rattle.chan_events.specs.Events.{Event}
use Rattle.chan_events.specs.declared.event.Event.TheVariants as event
use Rattle.chan_events.specs.declared.event.Instruction.TheVariants as instruction
use Rattle.chan_events.specs.Replies.{Reply}
use Rattle.chan_events.specs.declared.reply.Reply.TheVariants as reply
use Rattle.subchannel_model.specs.declared.state.Subchannel.{Subchannel}
use Rattle.subchannel_model.specs.Halt.{drops_status}
use Rattle.machine_model.specs.State.{State, index_of}

-- TEST and CLEAR SUBCHANNEL with code 0, HALT SUBCHANNEL with code 0 that drops an intermediate status, and a reset of the subsystem
abbrev pub IsClearing : State → Event → Reply → ℕ → Subchannel → Type 0
IsClearing s (event.Execute cpu (instruction.Tsch word address)) (reply.Status (answer.Zero serials) scsw) index sub = index_of s word ≡ Some index
IsClearing s (event.Execute cpu (instruction.Csch word)) (reply.Code (answer.Zero serials)) index sub = index_of s word ≡ Some index
IsClearing s (event.Execute cpu (instruction.Hsch word)) (reply.Code (answer.Zero serials)) index sub =
    (index_of s word ≡ Some index) × (drops_status sub.state.scsw ≡ true)
IsClearing s event.SystemReset r index sub = Unit {0}
IsClearing s e r index sub = ⊥

-- nothing else moves what is cleared of a subchannel, and each of these clears all that was made before
abbrev pub ClearsByCause : State → Event → Reply → State → Type 0
ClearsByCause s e r new = (index : ℕ) (sub after : Subchannel) → slice_get s.subs index ≡ Some sub → slice_get new.subs index ≡ Some after →
    ((after.state.serials.cleared ≡ sub.state.serials.cleared) ⊎ IsClearing s e r index sub)
    × (IsClearing s e r index sub → after.state.serials.cleared ≡ sub.state.serials.made)
