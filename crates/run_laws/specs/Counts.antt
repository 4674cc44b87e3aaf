-- The count that stands in the status word moves as status is made, and is zero as a start is accepted (SA22-7832, chapter 16).
use Rattle.std.specs.Prelude.{◌≡◌, ◌⊎◌, ℕ, Some, slice_get}
use Rattle.chan_model.specs.declared.answer.Answer.TheVariants as answer
use Rattle.chan_events.specs.Events.{Event}
use Rattle.chan_events.specs.declared.event.Event.TheVariants as event
use Rattle.chan_events.specs.declared.event.Instruction.TheVariants as instruction
use Rattle.chan_events.specs.Replies.{Reply}
use Rattle.chan_events.specs.declared.reply.Reply.TheVariants as reply
use Rattle.subchannel_model.specs.declared.state.Subchannel.{Subchannel}
use Rattle.machine_model.specs.State.{State, index_of}

-- START SUBCHANNEL with code 0
abbrev pub IsStart : State → Event → Reply → ℕ → Type 0
IsStart s (event.Execute cpu (instruction.Ssch word address)) (reply.Code (answer.Zero serials)) index = index_of s word ≡ Some index
IsStart s e r index = ⊥

-- it leaves the count zero; and where no status is made, the count stands, or becomes zero
abbrev pub CountsByStatus : State → Event → Reply → State → Type 0
CountsByStatus s e r new = (index : ℕ) (sub after : Subchannel) → slice_get s.subs index ≡ Some sub → slice_get new.subs index ≡ Some after →
    (IsStart s e r index → after.state.scsw.count ≡ 0)
    × (after.state.serials.made ≡ sub.state.serials.made → (after.state.scsw.count ≡ sub.state.scsw.count) ⊎ (after.state.scsw.count ≡ 0))
