-- A start that waits stays, or waits no more: by no signal does another begin to wait.
use Rattle.std.proofs.Common.{◌≡◌, sym, subst, ℕ, Bool, true, false, Option, None, Some}
use Rattle.std.specs.Prelude.{if◌then◌else◌}
use Rattle.chan_model.specs.Signals.{Up}
use Rattle.chan_model.specs.UnitReports.{is_last_end}
use Rattle.storage_keys.specs.Storage.{Contents}
use Rattle.subchannel_model.specs.declared.cause.StatusCause.{StatusCause}
use Rattle.subchannel_model.specs.declared.cause.StatusCause.TheVariants as cause
use Rattle.subchannel_model.specs.declared.state.ActiveProgram.{ActiveProgram}
use Rattle.subchannel_model.specs.declared.state.Program.{Program}
use Rattle.subchannel_model.specs.declared.state.SubchannelState.{SubchannelState}
use Rattle.subchannel_model.specs.Causes.{without_begun, without_waiting, programs_after_end, with_cause}
use Rattle.subchannel_model.specs.Halt.{halted, drops_status, status_dropped, halt_begun}
use Rattle.subchannel_model.specs.Losing.{reset_with}
use Rattle.subchannel_model.specs.Programs.{without_programs}
use Rattle.subchannel_model.specs.Test.{tested, tested_wholly, ends_suspended}
use Rattle.subchannel_model.specs.Taking.{takes_up}
use Rattle.run_laws.proofs.Traces.Signals.{signal-kept, reset-kept}

module _ (P : Option Program → Type 0) (none : P None) where
  abbrev Waits : SubchannelState → Type 0
  Waits s = P s.waiting

  if-waits : (b : Bool) (x y : SubchannelState) → Waits x → Waits y → Waits (if b then x else y)
  if-waits true x y e f = e
  if-waits false x y e f = f

  -- a status that is made
  after_end-waits : (s : SubchannelState) (b : ActiveProgram) (last : Bool) → Waits s → Waits (programs_after_end s b last)
  after_end-waits s b true k = none
  after_end-waits s b false k = k

  without_begun-waits : (s : SubchannelState) (b : Option ActiveProgram) → Waits s → Waits (without_begun b s)
  without_begun-waits s None k = none
  without_begun-waits s (Some b) k = k

  without_waiting-waits : (s : SubchannelState) (w : Option Program) → Waits s → Waits (without_waiting w s)
  without_waiting-waits s None k = k
  without_waiting-waits s (Some w) k = none

  pub cause-waits : (s : SubchannelState) (c : StatusCause) → Waits s → Waits (with_cause s c)
  cause-waits s (cause.End b status more) k = after_end-waits s b (is_last_end status) k
  cause-waits s (cause.FetchFault tried check count) k = without_begun-waits s s.begun k
  cause-waits s cause.NoPath k = without_waiting-waits s s.waiting k
  cause-waits s (cause.Pci tried count) k = k
  cause-waits s (cause.Suspension tried count) k = k
  cause-waits s cause.ClearDone k = k
  cause-waits s other k = none

  -- a signal that comes up, and a hold that is to be reset
  same-waits : (s x : SubchannelState) → x.waiting ≡ s.waiting → x.scsw ≡ s.scsw → x.pmcw.logical ≡ s.pmcw.logical → Waits s → Waits x
  same-waits s x w e l k = subst P (sym w) k

  pub takes-waits : (returns : Bool) (storage : Contents) (s : SubchannelState) (p : ℕ) (x : Up) → Waits s → Waits (takes_up returns storage s p x).step.state
  takes-waits = signal-kept Waits same-waits cause-waits (λ s program transfer k. none) (λ s program walk count k. none) (λ s program walk count k. none)

  pub reset-waits : (s : SubchannelState) (shows : Bool) → Waits s → Waits (reset_with s shows)
  reset-waits = reset-kept Waits same-waits cause-waits (λ s program transfer k. none) (λ s program walk count k. none) (λ s program walk count k. none)

  -- instructions
  pub test-waits : (s : SubchannelState) → Waits s → Waits (tested_wholly s)
  test-waits s k = if-waits (ends_suspended s.scsw) (without_programs (tested s)) (tested s) none k

  pub halt-waits : (s : SubchannelState) → Waits s → Waits (halted s)
  halt-waits s k = if-waits (drops_status s.scsw) (status_dropped (halt_begun s)) (halt_begun s) k k
