-- An instruction whose operand is given by value, as the instruction that it is wherever storage has that operand.
use Rattle.std.proofs.Common.{◌≡◌, refl, sym, subst, ℕ, Option, None, Some, Result}
use Rattle.storage_keys.specs.Storage.{Contents}
use Rattle.chan_events.specs.Instructions.{subchannel_word}
use Rattle.chan_events.specs.declared.event.Instruction.{Instruction}
use Rattle.chan_events.specs.Replies.{Reply}
use Rattle.chan_model.specs.declared.answer.ConditionCode.{ConditionCode}
use Rattle.chan_model.specs.declared.answer.ConditionCode.TheVariants as code
use Rattle.chan_model.specs.declared.fault.Fault.{Fault}
use Rattle.machine_model.specs.Requests.{drops}
use Rattle.subchannel_model.specs.declared.state.Subchannel.{Subchannel}
use Rattle.io_step.specs.declared.by_value.Answered.{Answered}
use Rattle.io_step.specs.declared.by_value.ByValue.{ByValue}
use Rattle.io_step.specs.declared.by_value.ByValue.TheVariants as given
use Rattle.io_step.specs.Executing.{Executed}
use Rattle.io_step.specs.GivenOperands.{instruction_at, outcome, storage_after}

-- general register 1 is its own
pub word-of : (i : ByValue) (word address : ℕ) → subchannel_word (instruction_at i word address) ≡ word
word-of (given.Ssch orb) word address = refl
word-of (given.Msch schib) word address = refl
word-of given.Stsch word address = refl
word-of given.Tsch word address = refl

-- it drops the request of its subchannel or not wherever its operand is
pub drops-anywhere : (i : ByValue) (word address : ℕ) (set_code : Option ConditionCode) → drops (instruction_at i word address) set_code ≡ drops (instruction_at i 0 0) set_code
drops-anywhere (given.Ssch orb) word address c = refl
drops-anywhere (given.Msch schib) word address c = refl
drops-anywhere given.Stsch word address c = refl
drops-anywhere given.Tsch word address None = refl
drops-anywhere given.Tsch word address (Some code.Zero) = refl
drops-anywhere given.Tsch word address (Some code.One) = refl
drops-anywhere given.Tsch word address (Some code.Two) = refl
drops-anywhere given.Tsch word address (Some code.Three) = refl

-- where nothing is left to be stored
pub alone : (storage : Contents) (old new : Subchannel) (cpu address : ℕ) (i : Instruction) (r : Result Reply Fault) (a : Result Answered Fault) →
    outcome a ≡ r → storage_after storage cpu address a ≡ storage → Executed storage old cpu i r storage new →
    Executed storage old cpu i (outcome a) (storage_after storage cpu address a) new
alone storage old new cpu address i r a same after done =
    subst (λ (x : Result Reply Fault). Executed storage old cpu i x (storage_after storage cpu address a) new) (sym same)
    (subst (λ (x : Contents). Executed storage old cpu i r x new) (sym after) done)
