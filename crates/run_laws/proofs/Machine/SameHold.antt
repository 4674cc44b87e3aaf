-- A status that is made leaves the hold and the counter of numbers as they are.
use Rattle.std.proofs.Common.{refl, ◌≡◌, ◌∙◌, ℕ, Bool, Option}
use Rattle.ccw_walk.specs.Positions.{WalkPosition}
use Rattle.data_move.specs.declared.transfer.Transfer.{Transfer}
use Rattle.subchannel_model.specs.declared.cause.StatusCause.{StatusCause}
use Rattle.subchannel_model.specs.declared.state.ActiveProgram.{ActiveProgram}
use Rattle.subchannel_model.specs.declared.state.Program.{Program}
use Rattle.subchannel_model.specs.declared.state.SubchannelState.{SubchannelState}
use Rattle.subchannel_model.specs.Causes.{with_cause}
use Rattle.subchannel_model.specs.Test.{tested_wholly}
use Rattle.subchannel_model.specs.Halt.{status_dropped, halt_begun, halted, drops_status}
use Rattle.subchannel_model.specs.Attention.{with_attention}
use Rattle.run_laws.proofs.Machine.Beside.{IsBeside, cause-beside, interrupted-beside, moving-beside, suspending-beside, attention-beside, tested-beside, if-both, halt_performed-beside, clear_performed-beside}
use Rattle.subchannel_model.specs.Pci.{with_pci}
use Rattle.subchannel_model.specs.Data.{after_chunk}
use Rattle.subchannel_model.specs.Suspension.{program_suspended}
use Rattle.subchannel_model.specs.Accept.{halt_performed}
use Rattle.subchannel_model.specs.Cleared.{clear_performed}
use Rattle.subchannel_model.specs.Command.{with_transfer}

pub record IsSameHold (s x : SubchannelState) : Type 0 where
  pub drawn : x.drawn ≡ s.drawn
  pub hold : x.hold ≡ s.hold

pub same-hold : (s x : SubchannelState) → x.drawn ≡ s.drawn → x.hold ≡ s.hold → IsSameHold s x
same-hold s x n h = record { drawn = n; hold = h }

pub same-then : (s x y : SubchannelState) → IsSameHold s x → IsSameHold x y → IsSameHold s y
same-then s x y a b = record { drawn = b.drawn ∙ a.drawn; hold = b.hold ∙ a.hold }

-- what stays beside a status that is made
pub hold-of : (s x : SubchannelState) → IsBeside s x → IsSameHold s x
hold-of s x k = record { drawn = k.drawn; hold = k.hold }

pub cause-same : (s : SubchannelState) (c : StatusCause) → IsSameHold s (with_cause s c)
cause-same s c = hold-of s (with_cause s c) (cause-beside s c)

pub interrupted-same : (s : SubchannelState) (b : Option ActiveProgram) → IsSameHold s (with_pci s b)
interrupted-same s b = hold-of s (with_pci s b) (interrupted-beside s b)

pub moving-same : (s : SubchannelState) (b : ActiveProgram) (t : Transfer) → IsSameHold s (after_chunk s b t)
moving-same s b t = let k : IsBeside (with_transfer s b t) (after_chunk s b t) = moving-beside s b t in same-hold s (after_chunk s b t) k.drawn k.hold

pub suspending-same : (s : SubchannelState) (program : Program) (walk : WalkPosition) (count : ℕ) → IsSameHold s (program_suspended s program walk count)
suspending-same s program walk count = hold-of s (program_suspended s program walk count) (suspending-beside s program walk count)

pub halt_performed-same : (s : SubchannelState) → IsSameHold s (halt_performed s)
halt_performed-same s = hold-of s (halt_performed s) (halt_performed-beside s)

pub clear_performed-same : (s : SubchannelState) → IsSameHold s (clear_performed s)
clear_performed-same s = hold-of s (clear_performed s) (clear_performed-beside s)

pub attention-same : (s : SubchannelState) (shows : Bool) → IsSameHold s (with_attention s shows)
attention-same s shows = hold-of s (with_attention s shows) (attention-beside s shows)

pub tested-same : (s : SubchannelState) → IsSameHold s (tested_wholly s)
tested-same s = hold-of s (tested_wholly s) (tested-beside s)

pub halted-same : (s : SubchannelState) → IsSameHold s (halted s)
halted-same s = if-both (IsSameHold s) (drops_status s.scsw) (status_dropped (halt_begun s)) (halt_begun s) (same-hold s _ refl refl) (same-hold s _ refl refl)
