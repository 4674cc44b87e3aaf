-- What a cause of status keeps of a subchannel, and the command at work after its block's interruption.
use Rattle.std.proofs.Common.{◌≡◌, refl, ap, ◌∙◌, ℕ, Bool, true, false, Option, None, Some, inl, inr}
use Rattle.std.specs.Prelude.{◌⊎◌, if◌then◌else◌}
use Rattle.chan_model.specs.UnitReports.{is_last_end}
use Rattle.ccw_walk.specs.Positions.{WalkPosition}
use Rattle.data_move.specs.Moving.{residual}
use Rattle.subchannel_model.specs.declared.cause.StatusCause.{StatusCause}
use Rattle.subchannel_model.specs.declared.cause.StatusCause.TheVariants as cause
use Rattle.subchannel_model.specs.declared.signals.EndSignal.{EndSignal}
use Rattle.subchannel_model.specs.declared.state.ActiveProgram.{ActiveProgram}
use Rattle.subchannel_model.specs.declared.state.Program.{Program}
use Rattle.subchannel_model.specs.declared.state.SubchannelState.{SubchannelState}
use Rattle.subchannel_model.specs.Causes.{row_of, with_cause, without_begun, without_waiting, programs_after_end}
use Rattle.subchannel_model.specs.Ends.{has_shown}
use Rattle.subchannel_model.specs.End.{with_end_status}
use Rattle.subchannel_model.specs.Programs.{without_programs}
use Rattle.subchannel_model.specs.Halt.{halt_begun, drops_status, status_dropped, halted}
use Rattle.subchannel_model.specs.Test.{ends_suspended, tested_wholly, tested}
use Rattle.subchannel_model.specs.Attention.{with_attention}
use Rattle.subchannel_model.specs.Pci.{without_pci, with_pci}
use Rattle.subchannel_model.specs.Suspension.{program_suspended, with_suspended_program, suspended_alone}
use Rattle.subchannel_model.specs.Accept.{halt_performed}
use Rattle.subchannel_model.specs.Cleared.{clear_performed}

-- the hold, and the numbers that were drawn
pub record IsHoldKept (s x : SubchannelState) : Type 0 where
  pub hold : x.hold ≡ s.hold
  pub drawn : x.drawn ≡ s.drawn

same-kept : (s : SubchannelState) → IsHoldKept s s
same-kept s = record { hold = refl; drawn = refl }

end-kept : (s : SubchannelState) (b : ActiveProgram) (last : Bool) → IsHoldKept s (programs_after_end s b last)
end-kept s b true = record { hold = refl; drawn = refl }
end-kept s b false = record { hold = refl; drawn = refl }

begun-kept : (s : SubchannelState) (b : Option ActiveProgram) → IsHoldKept s (without_begun b s)
begun-kept s None = record { hold = refl; drawn = refl }
begun-kept s (Some b) = record { hold = refl; drawn = refl }

waiting-kept : (s : SubchannelState) (p : Option Program) → IsHoldKept s (without_waiting p s)
waiting-kept s None = record { hold = refl; drawn = refl }
waiting-kept s (Some p) = record { hold = refl; drawn = refl }

programs-kept : (s : SubchannelState) (c : StatusCause) → IsHoldKept s (row_of s c).left
programs-kept s (cause.End b status more) = end-kept s b (is_last_end status)
programs-kept s (cause.FetchFault tried check count) = begun-kept s s.begun
programs-kept s cause.NoPath = waiting-kept s s.waiting
programs-kept s (cause.Pci tried count) = same-kept s
programs-kept s (cause.Suspension tried count) = same-kept s
programs-kept s cause.ClearDone = same-kept s
programs-kept s other = record { hold = refl; drawn = refl }

pub cause-kept : (s : SubchannelState) (c : StatusCause) → IsHoldKept s (with_cause s c)
cause-kept s c = let k : IsHoldKept s (row_of s c).left = programs-kept s c in record { hold = k.hold; drawn = k.drawn }

-- a path that is missing leaves the program at work
pub path-begun : (s : SubchannelState) (p : Option Program) → (without_waiting p s).begun ≡ s.begun
path-begun s None = refl
path-begun s (Some p) = refl

-- an end leaves the program at work, its status shown, unless it is the last
pub end-begun : (s : SubchannelState) (b : ActiveProgram) (signal : EndSignal) (last : Bool) → is_last_end signal.status ≡ last →
    (with_end_status s b signal).begun ≡ (if last then None else Some (has_shown b))
end-begun s b signal last e = ap (λ (x : Bool). (programs_after_end s b x).begun) e ∙ by last
  where
    by : (x : Bool) → (programs_after_end s b x).begun ≡ (if x then None else Some (has_shown b))
    by true = refl
    by false = refl

-- a check ends the program at work, or the one that was to begin
pub fault-begun : (s : SubchannelState) (b : Option ActiveProgram) → s.begun ≡ b → (without_begun b s).begun ≡ None
fault-begun s None e = e
fault-begun s (Some b) e = refl

-- the command at work is as it was, but for its interruption
pub record IsUninterrupted (b c : ActiveProgram) : Type 0 where
  pub code : c.transfer.code ≡ b.transfer.code
  pub command : c.transfer.command ≡ b.transfer.command
  pub sequence : c.transfer.sequence ≡ b.transfer.sequence
  pub moving : c.transfer.moving ≡ b.transfer.moving

pub record IsInterrupted (s x : SubchannelState) (b : ActiveProgram) : Type 0 where
  pub begun : ActiveProgram
  pub is : x.begun ≡ Some begun
  pub same : IsUninterrupted b begun
  pub kept : IsHoldKept s x

pub interrupted-work : (s : SubchannelState) (b : ActiveProgram) → s.begun ≡ Some b → IsInterrupted s (with_pci s (Some b)) b
interrupted-work s b e = by b.transfer.pci_pending
  where
    by : (c : Bool) → IsInterrupted s (if c then with_cause (record s { begun = Some (without_pci b) }) (cause.Pci b.transfer.walk.tried (residual b.transfer.moving)) else s) b
    by true = record { begun = without_pci b; is = refl; same = record { code = refl; command = refl; sequence = refl; moving = refl }; kept = record { hold = refl; drawn = refl } }
    by false = record { begun = b; is = e; same = record { code = refl; command = refl; sequence = refl; moving = refl }; kept = same-kept s }

-- a program that is suspended
pub record IsWorkless (s x : SubchannelState) : Type 0 where
  pub begun : x.begun ≡ None
  pub kept : IsHoldKept s x

pub suspending-workless : (s : SubchannelState) (program : Program) (walk : WalkPosition) (count : ℕ) → IsWorkless s (program_suspended s program walk count)
suspending-workless s program walk count = by program.orb.suppress_suspended
  where
    by : (c : Bool) → IsWorkless s (if c then record (with_suspended_program s program walk count) { scsw = suspended_alone s.scsw } else with_cause (with_suspended_program s program walk count) (cause.Suspension walk.tried count))
    by true = record { begun = refl; kept = record { hold = refl; drawn = refl } }
    by false = record { begun = refl; kept = record { hold = refl; drawn = refl } }

-- a halt that is performed ends all programs, and a clear that is performed leaves what there is
pub halt-kept : (s : SubchannelState) → IsHoldKept s (halt_performed s)
halt-kept s = by s.scsw.activity.halt_pending
  where
    by : (c : Bool) → IsHoldKept s (if c then with_cause s cause.HaltDone else s)
    by true = cause-kept s cause.HaltDone
    by false = same-kept s

pub halt-begun : (s : SubchannelState) → s.begun ≡ None → (halt_performed s).begun ≡ None
halt-begun s e = by s.scsw.activity.halt_pending
  where
    by : (c : Bool) → (if c then with_cause s cause.HaltDone else s).begun ≡ None
    by true = refl
    by false = e

pub clear-kept : (s : SubchannelState) → IsHoldKept s (clear_performed s)
clear-kept s = by s.scsw.activity.clear_pending
  where
    by : (c : Bool) → IsHoldKept s (if c then with_cause s cause.ClearDone else s)
    by true = cause-kept s cause.ClearDone
    by false = same-kept s

pub clear-begun : (s : SubchannelState) → (clear_performed s).begun ≡ s.begun
clear-begun s = by s.scsw.activity.clear_pending
  where
    by : (c : Bool) → (if c then with_cause s cause.ClearDone else s).begun ≡ s.begun
    by true = refl
    by false = refl

pub attention-begun : (s : SubchannelState) (shows : Bool) → (with_attention s shows).begun ≡ s.begun
attention-begun s true = refl
attention-begun s false = refl

-- TEST and HALT
pub tested-kept : (s : SubchannelState) → IsHoldKept s (tested_wholly s)
tested-kept s = by (ends_suspended s.scsw)
  where
    by : (c : Bool) → IsHoldKept s (if c then without_programs (tested s) else tested s)
    by true = record { hold = refl; drawn = refl }
    by false = record { hold = refl; drawn = refl }

pub halted-kept : (s : SubchannelState) → IsHoldKept s (halted s)
halted-kept s = by (drops_status s.scsw)
  where
    by : (c : Bool) → IsHoldKept s (if c then status_dropped (halt_begun s) else halt_begun s)
    by true = record { hold = refl; drawn = refl }
    by false = record { hold = refl; drawn = refl }

-- the program at work stays, or is over
pub tested-begun : (s : SubchannelState) → ((tested_wholly s).begun ≡ s.begun) ⊎ ((tested_wholly s).begun ≡ None)
tested-begun s = by (ends_suspended s.scsw)
  where
    by : (c : Bool) → ((if c then without_programs (tested s) else tested s).begun ≡ s.begun) ⊎ ((if c then without_programs (tested s) else tested s).begun ≡ None)
    by true = inr refl
    by false = inl refl

pub halted-begun : (s : SubchannelState) → (halted s).begun ≡ s.begun
halted-begun s = by (drops_status s.scsw)
  where
    by : (c : Bool) → (if c then status_dropped (halt_begun s) else halt_begun s).begun ≡ s.begun
    by true = refl
    by false = refl
