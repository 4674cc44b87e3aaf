-- One I/O instruction on all that it is lent (SA22-7832, chapter 14).
use Rattle.std.proofs.Common.{inl, inr}
use Rattle.std.specs.Borrow.{MutBor}
use Rattle.std.specs.Prelude.{◌≡◌, ◌⊎◌, ℕ, Option, None, Some, Result, Ok, Err}
use Rattle.storage_keys.specs.Storage.{Contents}
use Rattle.chan_events.specs.declared.event.Instruction.{Instruction}
use Rattle.chan_events.specs.declared.event.OtherInstruction.{OtherInstruction}
use Rattle.chan_model.specs.declared.fault.Fault.{Fault}
use Rattle.chan_events.specs.Replies.{Reply}
use Rattle.subchannel_model.specs.declared.state.Subchannel.{Subchannel}
use Rattle.interruptions.specs.Requests as requests
use Rattle.machine_model.specs.OtherSteps.{LentWhole, OtherResult, other_result}
use Rattle.machine_model.specs.Requests.{requests_after}
use Rattle.io_step.specs.declared.others.ChannelPaths.{ChannelPaths}
use Rattle.io_step.specs.Executing.{Executed, Executed_absent}

-- what an instruction on a subchannel is lent; the subchannel where it is provided
pub record Lent : Type 0 where
  pub storage : Contents
  pub sub : Option Subchannel
  pub requests : requests.WaitingRequests

abbrev pub lent : Contents → Option Subchannel → requests.WaitingRequests → Lent
lent storage sub waiting = record { storage = storage; sub = sub; requests = waiting }

-- the subchannel as it is lent, and as it is left
abbrev pub sub_lent : Option (MutBor Subchannel) → Option Subchannel
sub_lent None = None
sub_lent (Some sub) = Some sub.now

abbrev pub sub_left : Unit {0} ⊎ ((MutBor Subchannel × Unit {0}) ⊎ ⊥) → Option Subchannel
sub_left (inl left) = None
sub_left (inr (inl left)) = Some left.0.now
sub_left (inr (inr none)) = None

-- an instruction on a subchannel leaves storage and the subchannel as the machine's definitions say
abbrev pub Leaves : Contents → Option Subchannel → ℕ → Instruction → Result Reply Fault → Contents → Option Subchannel → Type 0
Leaves before None cpu i r after None = Executed_absent before cpu i r after
Leaves before None cpu i r after (Some new) = ⊥
Leaves before (Some old) cpu i r after None = ⊥
Leaves before (Some old) cpu i r after (Some new) = Executed before old cpu i r after new

-- a refusal changes nothing
abbrev pub Performed : Lent → ℕ → Instruction → Result Reply Fault → Lent → Type 0
Performed old cpu i (Ok r) new =
    Leaves old.storage old.sub cpu i (Ok r) new.storage new.sub × (new.requests ≡ requests_after old.requests old.sub i r)
Performed old cpu i (Err f) new = Leaves old.storage old.sub cpu i (Err f) new.storage new.sub × (new ≡ old)

-- a refusal changes nothing
abbrev pub Comes : LentWhole → Result OtherResult Fault → Result Reply Fault → LentWhole → Type 0
Comes old outcome (Ok r) new = outcome ≡ Ok (record { answer = r; left = new })
Comes old outcome (Err f) new = (outcome ≡ Err f) × (new ≡ old)

abbrev pub Performed_other : LentWhole → ChannelPaths → ℕ → OtherInstruction → Result Reply Fault → LentWhole → Type 0
Performed_other old paths cpu i r new = Comes old (other_result old paths.up paths.engaged cpu i) r new
