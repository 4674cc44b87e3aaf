-- Why the hold of a subchannel is to be reset, and how that ends (own).
use Rattle.std.specs.Prelude.{◌≡◌, ◌⊎◌, ◌<◌, ℕ, ◌+◌, true, Some, slice_get}
use Rattle.chan_model.specs.declared.answer.Answer.TheVariants as answer
use Rattle.chan_model.specs.declared.hold_state.HoldPhase.TheVariants as hold
use Rattle.chan_model.specs.declared.signal.Up.TheVariants as up
use Rattle.chan_model.specs.ResetCauses.{rests_on}
use Rattle.chan_events.specs.Events.{Event}
use Rattle.chan_events.specs.declared.event.Event.TheVariants as event
use Rattle.chan_events.specs.declared.event.Instruction.TheVariants as instruction
use Rattle.chan_events.specs.Replies.{Reply}
use Rattle.chan_events.specs.declared.reply.Reply.TheVariants as reply
use Rattle.subchannel_model.specs.declared.state.Subchannel.{Subchannel}
use Rattle.machine_model.specs.State.{State, index_of}

-- the hold rests on this channel path
abbrev pub RestsOn : Subchannel → ℕ → Type 0
RestsOn sub chpid = (p : ℕ) × (slice_get sub.setup.paths p ≡ Some chpid) × (rests_on sub.state.hold p ≡ true)

-- the causes: an accepted CLEAR SUBCHANNEL, a Notice of more restarts than are known, a path that goes down or is reset and on which
-- the hold rests, and a reset of the subsystem
abbrev pub IsResetCause : State → Event → Reply → ℕ → Subchannel → Type 0
IsResetCause s (event.Execute cpu (instruction.Csch word)) (reply.Code (answer.Zero serials)) index sub = index_of s word ≡ Some index
IsResetCause s (event.Up word path) (reply.Up (up.Notice b) true sent) index sub = (index_of s word ≡ Some index) × (sub.state.hold.known_restarts < b)
IsResetCause s (event.PathDown chpid) r index sub = RestsOn sub chpid
IsResetCause s (event.PathReset chpid) r index sub = RestsOn sub chpid
IsResetCause s event.SystemReset r index sub = Unit {0}
IsResetCause s e r index sub = ⊥

-- a hold that is to be reset was so already, or one of these causes befell it in this step, under a fresh number
abbrev pub ResetsByCause : State → Event → Reply → State → Type 0
ResetsByCause s e r new = (index n : ℕ) (sub after : Subchannel) → slice_get s.subs index ≡ Some sub → slice_get new.subs index ≡ Some after →
    after.state.hold.phase ≡ hold.Reset n → (sub.state.hold.phase ≡ hold.Reset n) ⊎ ((n ≡ sub.state.drawn + 1) × IsResetCause s e r index sub)

-- the subchannel took the Cleared of this number
abbrev pub IsCleared : State → Event → Reply → ℕ → ℕ → Type 0
IsCleared s (event.Up word path) (reply.Up (up.Cleared r) true sent) index n = (index_of s word ≡ Some index) × (r ≡ n)
IsCleared s e r index n = ⊥

-- and it stays so until its Cleared comes, or a newer reset
abbrev pub StaysReset : State → Event → Reply → State → Type 0
StaysReset s e r new = (index n : ℕ) (sub after : Subchannel) → slice_get s.subs index ≡ Some sub → slice_get new.subs index ≡ Some after →
    sub.state.hold.phase ≡ hold.Reset n →
    (after.state.hold.phase ≡ hold.Reset n)
    ⊎ ((after.state.hold.phase ≡ hold.Reset (sub.state.drawn + 1)) × IsResetCause s e r index sub)
    ⊎ ((after.state.hold.phase ≡ hold.Free) × IsCleared s e r index n)
