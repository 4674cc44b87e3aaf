-- A status that is made leaves the hold, the counter of numbers and the path-available mask as they are.
use Rattle.std.proofs.Common.{refl, ap, ◌≡◌, ◌∙◌, ℕ, Bool, Option}
use Rattle.ccw_walk.specs.Positions.{WalkPosition}
use Rattle.data_move.specs.declared.transfer.Transfer.{Transfer}
use Rattle.subchannel_model.specs.declared.cause.StatusCause.{StatusCause}
use Rattle.subchannel_model.specs.declared.state.ActiveProgram.{ActiveProgram}
use Rattle.subchannel_model.specs.declared.state.Program.{Program}
use Rattle.subchannel_model.specs.declared.state.SubchannelState.{SubchannelState}
use Rattle.subchannel_model.specs.Causes.{with_cause}
use Rattle.subchannel_model.specs.Test.{tested_wholly}
use Rattle.subchannel_model.specs.Halt.{status_dropped, halt_begun, halted, drops_status}
use Rattle.subchannel_model.specs.Attention.{with_attention}
use Rattle.subchannel_model.specs.Pci.{with_pci}
use Rattle.subchannel_model.specs.Data.{after_chunk}
use Rattle.subchannel_model.specs.Suspension.{program_suspended}
use Rattle.subchannel_model.specs.Accept.{halt_performed}
use Rattle.subchannel_model.specs.Cleared.{clear_performed}
use Rattle.subchannel_model.specs.Command.{with_transfer}
use Rattle.subchannel_model.specs.declared.state.PmcwState.{PmcwState}
use Rattle.run_laws.proofs.Machine.Beside.{IsBeside, cause-beside, interrupted-beside, moving-beside, suspending-beside, halt_performed-beside, clear_performed-beside, attention-beside, tested-beside, if-both}

pub record IsSame (s x : SubchannelState) : Type 0 where
  pub drawn : x.drawn ≡ s.drawn
  pub hold : x.hold ≡ s.hold
  pub available : x.pmcw.available ≡ s.pmcw.available

pub is-same : (s x : SubchannelState) → x.drawn ≡ s.drawn → x.hold ≡ s.hold → x.pmcw.available ≡ s.pmcw.available → IsSame s x
is-same s x n h a = record { drawn = n; hold = h; available = a }

pub same-then : (s x y : SubchannelState) → IsSame s x → IsSame x y → IsSame s y
same-then s x y a b = record { drawn = b.drawn ∙ a.drawn; hold = b.hold ∙ a.hold; available = b.available ∙ a.available }

-- what stays beside a status that is made
pub same-of : (s x : SubchannelState) → IsBeside s x → IsSame s x
same-of s x k = record { drawn = k.drawn; hold = k.hold; available = ap (λ (p : PmcwState). p.available) k.pmcw }

pub cause-same : (s : SubchannelState) (c : StatusCause) → IsSame s (with_cause s c)
cause-same s c = same-of s (with_cause s c) (cause-beside s c)

pub interrupted-same : (s : SubchannelState) (b : Option ActiveProgram) → IsSame s (with_pci s b)
interrupted-same s b = same-of s (with_pci s b) (interrupted-beside s b)

pub moving-same : (s : SubchannelState) (b : ActiveProgram) (t : Transfer) → IsSame s (after_chunk s b t)
moving-same s b t = let k : IsBeside (with_transfer s b t) (after_chunk s b t) = moving-beside s b t in is-same s (after_chunk s b t) k.drawn k.hold (ap (λ (p : PmcwState). p.available) k.pmcw)

pub suspending-same : (s : SubchannelState) (program : Program) (walk : WalkPosition) (count : ℕ) → IsSame s (program_suspended s program walk count)
suspending-same s program walk count = same-of s (program_suspended s program walk count) (suspending-beside s program walk count)

pub halt_performed-same : (s : SubchannelState) → IsSame s (halt_performed s)
halt_performed-same s = same-of s (halt_performed s) (halt_performed-beside s)

pub clear_performed-same : (s : SubchannelState) → IsSame s (clear_performed s)
clear_performed-same s = same-of s (clear_performed s) (clear_performed-beside s)

pub attention-same : (s : SubchannelState) (shows : Bool) → IsSame s (with_attention s shows)
attention-same s shows = same-of s (with_attention s shows) (attention-beside s shows)

pub tested-same : (s : SubchannelState) → IsSame s (tested_wholly s)
tested-same s = same-of s (tested_wholly s) (tested-beside s)

pub halted-same : (s : SubchannelState) → IsSame s (halted s)
halted-same s = if-both (IsSame s) (drops_status s.scsw) (status_dropped (halt_begun s)) (halt_begun s) (is-same s _ refl refl refl) (is-same s _ refl refl refl)
