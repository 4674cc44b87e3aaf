-- What a status that is made leaves as it is: the hold, the counter of numbers, the path-management-control word, and the path of
-- a dedicated allegiance.
use Rattle.std.proofs.Common.{◌≡◌, refl, ℕ, Bool, true, false, Option, None, Some}
use Rattle.std.specs.Prelude.{if◌then◌else◌}
use Rattle.ccw_walk.specs.Positions.{WalkPosition}
use Rattle.chan_model.specs.UnitReports.{is_last_end}
use Rattle.data_move.specs.Moving.{residual}
use Rattle.data_move.specs.declared.transfer.Transfer.{Transfer}
use Rattle.subchannel_model.specs.declared.cause.StatusCause.{StatusCause}
use Rattle.subchannel_model.specs.declared.cause.StatusCause.TheVariants as cause
use Rattle.subchannel_model.specs.declared.state.ActiveProgram.{ActiveProgram}
use Rattle.subchannel_model.specs.declared.state.Program.{Program}
use Rattle.subchannel_model.specs.declared.state.SubchannelState.{SubchannelState}
use Rattle.subchannel_model.specs.Causes.{without_begun, without_waiting, programs_after_end, row_of, with_cause}
use Rattle.subchannel_model.specs.Programs.{without_programs}
use Rattle.subchannel_model.specs.Test.{tested_wholly, ends_suspended, tested}
use Rattle.subchannel_model.specs.Attention.{with_attention}
use Rattle.subchannel_model.specs.Pci.{with_pci_of, without_pci, with_pci}
use Rattle.subchannel_model.specs.Command.{with_transfer}
use Rattle.subchannel_model.specs.Data.{after_chunk}
use Rattle.subchannel_model.specs.Suspension.{program_suspended, suspended_alone, with_suspended_program}
use Rattle.subchannel_model.specs.Accept.{halt_performed}
use Rattle.subchannel_model.specs.Cleared.{clear_performed}

pub record IsBeside (s x : SubchannelState) : Type 0 where
  pub drawn : x.drawn ≡ s.drawn
  pub hold : x.hold ≡ s.hold
  pub pmcw : x.pmcw ≡ s.pmcw
  pub dedicated : x.dedicated ≡ s.dedicated

beside : (s x : SubchannelState) → x.drawn ≡ s.drawn → x.hold ≡ s.hold → x.pmcw ≡ s.pmcw → x.dedicated ≡ s.dedicated → IsBeside s x
beside s x n h p d = record { drawn = n; hold = h; pmcw = p; dedicated = d }

pub if-both : (P : SubchannelState → Type 0) (b : Bool) (x y : SubchannelState) → P x → P y → P (if b then x else y)
if-both P true x y e f = e
if-both P false x y e f = f

after_end-beside : (s : SubchannelState) (b : ActiveProgram) (last : Bool) → IsBeside s (programs_after_end s b last)
after_end-beside s b true = beside s _ refl refl refl refl
after_end-beside s b false = beside s _ refl refl refl refl

without_begun-beside : (s : SubchannelState) (b : Option ActiveProgram) → IsBeside s (without_begun b s)
without_begun-beside s None = beside s _ refl refl refl refl
without_begun-beside s (Some b) = beside s _ refl refl refl refl

without_waiting-beside : (s : SubchannelState) (w : Option Program) → IsBeside s (without_waiting w s)
without_waiting-beside s None = beside s _ refl refl refl refl
without_waiting-beside s (Some w) = beside s _ refl refl refl refl

pub left-beside : (s : SubchannelState) (c : StatusCause) → IsBeside s (row_of s c).left
left-beside s (cause.End b status more) = after_end-beside s b (is_last_end status)
left-beside s (cause.FetchFault tried check count) = without_begun-beside s s.begun
left-beside s cause.NoPath = without_waiting-beside s s.waiting
left-beside s other = beside s _ refl refl refl refl

pub cause-beside : (s : SubchannelState) (c : StatusCause) → IsBeside s (with_cause s c)
cause-beside s c = let k : IsBeside s (row_of s c).left = left-beside s c in beside s (with_cause s c) k.drawn k.hold k.pmcw k.dedicated

interrupted_by-beside : (s : SubchannelState) (b : ActiveProgram) → IsBeside s (with_pci_of s b)
interrupted_by-beside s b =
    if-both (IsBeside s) b.transfer.pci_pending
    (with_cause (record s { begun = Some (without_pci b) }) (cause.Pci b.transfer.walk.tried (residual b.transfer.moving))) s
    (beside s _ refl refl refl refl) (beside s s refl refl refl refl)

pub interrupted-beside : (s : SubchannelState) (b : Option ActiveProgram) → IsBeside s (with_pci s b)
interrupted-beside s None = beside s s refl refl refl refl
interrupted-beside s (Some b) = interrupted_by-beside s b

pub moving-beside : (s : SubchannelState) (b : ActiveProgram) (t : Transfer) → IsBeside (with_transfer s b t) (after_chunk s b t)
moving-beside s b t = interrupted_by-beside (with_transfer s b t) (record b { transfer = t })

pub suspending-beside : (s : SubchannelState) (program : Program) (walk : WalkPosition) (count : ℕ) → IsBeside s (program_suspended s program walk count)
suspending-beside s program walk count =
    if-both (IsBeside s) program.orb.suppress_suspended
    (record (with_suspended_program s program walk count) { scsw = suspended_alone s.scsw }) (with_cause (with_suspended_program s program walk count) (cause.Suspension walk.tried count))
    (beside s _ refl refl refl refl) (beside s _ refl refl refl refl)

pub halt_performed-beside : (s : SubchannelState) → IsBeside s (halt_performed s)
halt_performed-beside s = if-both (IsBeside s) s.scsw.activity.halt_pending (with_cause s cause.HaltDone) s (cause-beside s cause.HaltDone) (beside s s refl refl refl refl)

pub clear_performed-beside : (s : SubchannelState) → IsBeside s (clear_performed s)
clear_performed-beside s = if-both (IsBeside s) s.scsw.activity.clear_pending (with_cause s cause.ClearDone) s (cause-beside s cause.ClearDone) (beside s s refl refl refl refl)

pub attention-beside : (s : SubchannelState) (shows : Bool) → IsBeside s (with_attention s shows)
attention-beside s shows = if-both (IsBeside s) shows (with_cause s cause.Attention) s (cause-beside s cause.Attention) (beside s s refl refl refl refl)

-- so does TEST
pub tested-beside : (s : SubchannelState) → IsBeside s (tested_wholly s)
tested-beside s = if-both (IsBeside s) (ends_suspended s.scsw) (without_programs (tested s)) (tested s) (beside s _ refl refl refl refl) (beside s _ refl refl refl refl)
