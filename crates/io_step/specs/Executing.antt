-- An instruction on a subchannel, executed on storage and that subchannel alone (SA22-7832, chapter 14).
use Rattle.std.specs.Prelude.{◌≡◌, ℕ, None, Some, Result, Ok, Err, slice_get}
use Rattle.storage_keys.specs.Storage.{Contents}
use Rattle.chan_events.specs.declared.event.Instruction.{Instruction}
use Rattle.chan_model.specs.declared.fault.Fault.{Fault}
use Rattle.chan_events.specs.Replies.{Reply}
use Rattle.subchannel_model.specs.declared.state.Subchannel.{Subchannel}
use Rattle.machine_model.specs.State.{State, lent, with_sub}
use Rattle.machine_model.specs.Results.{Outcome, does}
use Rattle.machine_model.specs.InstructionSteps.{Executes_at}

-- in every machine that has this storage, and this subchannel at some index, the instruction is executed with this outcome:
-- what it answers, and the machine with what is left of both
abbrev pub Comes_to : Contents → Subchannel → ℕ → Instruction → (State → ℕ → Outcome) → Type 0
Comes_to storage sub cpu i outcome =
    (s : State) (index : ℕ) → slice_get s.subs index ≡ Some sub → Executes_at (lent s storage) cpu i (Some (record { index = index; sub = sub })) (outcome s index)

abbrev pub Executed : Contents → Subchannel → ℕ → Instruction → Result Reply Fault → Contents → Subchannel → Type 0
Executed before old cpu i (Ok r) after new = Comes_to before old cpu i (λ s index. does r (with_sub (lent s after) index new))
Executed before old cpu i (Err f) after new = Comes_to before old cpu i (λ s index. Err f) × ((new ≡ old) × (after ≡ before))

-- the same where the subchannel is not provided
abbrev pub Executed_absent : Contents → ℕ → Instruction → Result Reply Fault → Contents → Type 0
Executed_absent before cpu i (Ok r) after = (s : State) → Executes_at (lent s before) cpu i None (does r (lent s after))
Executed_absent before cpu i (Err f) after =
    ((s : State) → Executes_at (lent s before) cpu i None (Err f)) × (after ≡ before)
