-- A signal draws no number.
use Rattle.std.proofs.Common.{◌≡◌, refl, ℕ, Bool, true, false, not, ◌==◌, Option, None, Some, ◌≤◌, ◌&&◌, nat_lt, arith}
use Rattle.std.specs.Prelude.{if◌then◌else◌}
use Rattle.storage_keys.specs.Storage.{Contents}
use Rattle.chan_model.specs.declared.hold_state.HoldPhase.{HoldPhase}
use Rattle.chan_model.specs.declared.hold_state.HoldPhase.TheVariants as hold
use Rattle.chan_model.specs.Signals.{Down, Load, Up}
use Rattle.chan_model.specs.declared.signal.Taken.{Taken}
use Rattle.chan_model.specs.declared.signal.Up.TheVariants as up
use Rattle.chan_model.specs.HoldTable.{HoldStep, hold_takes, hold_after, outcome_of, is_connected, is_on}
use Rattle.chan_model.specs.UnitReports.{is_last_end, is_outward, has_device_end}
use Rattle.ccw_walk.specs.Positions.{WalkPosition}
use Rattle.data_move.specs.Moving.{residual}
use Rattle.data_move.specs.declared.transfer.CommandStart.{CommandStart}
use Rattle.data_move.specs.declared.transfer.CommandStart.TheVariants as outcome
use Rattle.data_move.specs.declared.transfer.Transfer.{Transfer}
use Rattle.data_move.specs.Commands.{first_command, next_command, begun_with_room}
use Rattle.data_move.specs.ChunkNumbers.{is_answered}
use Rattle.subchannel_model.specs.Notice as on_notice
use Rattle.subchannel_model.specs.declared.cause.StatusCause.TheVariants as cause
use Rattle.subchannel_model.specs.declared.signals.DataSignal.{DataSignal}
use Rattle.subchannel_model.specs.declared.signals.EndSignal.{EndSignal}
use Rattle.subchannel_model.specs.declared.state.ActiveProgram.{ActiveProgram}
use Rattle.subchannel_model.specs.declared.state.ProgramPosition.{ProgramPosition}
use Rattle.subchannel_model.specs.declared.state.SubchannelState.{SubchannelState}
use Rattle.subchannel_model.specs.declared.state.UpStep.{UpStep}
use Rattle.subchannel_model.specs.Ends.{has_status_modifier, chains_command}
use Rattle.subchannel_model.specs.Outcomes.{SignalOutcome}
use Rattle.subchannel_model.specs.Accept.{takes_device, offered_position, with_path_used, with_program_at_work, first_ccw_outcome, begins_at, accepted_in_phase, takes_accept}
use Rattle.subchannel_model.specs.Command.{with_transfer}
use Rattle.subchannel_model.specs.Data.{after_chunk, moves_bytes, moves_data}
use Rattle.subchannel_model.specs.Cleared.{takes_cleared}
use Rattle.subchannel_model.specs.End.{with_first_end, with_allegiance_after_end, next_ccw_outcome, chains_at_device_end, concludes, ends_at_work}
use Rattle.subchannel_model.specs.Taking.{takes_up}
use Rattle.subchannel_model.specs.Losing.{is_offered_or_held, reset_with, reset_for}
use Rattle.subchannel_model.specs.Programs.{has_any}
use Rattle.subchannel_model.specs.Outcomes as outcomes
use Rattle.subchannel_model.specs.Attention as on_attention
use Rattle.run_laws.proofs.Traces.Caused.{cause-kept, interrupted-work, suspending-workless, halt-kept, clear-kept}

module _ (storage : Contents) where
  abbrev IsSame : SubchannelState → UpStep → Type 0
  IsSame s step = step.state.drawn ≡ s.drawn

  if-same : (s : SubchannelState) (c : Bool) (x y : UpStep) → IsSame s x → IsSame s y → IsSame s (if c then x else y)
  if-same s true x y e f = e
  if-same s false x y e f = f

  if-met : (s : SubchannelState) (c : Bool) (x y : SignalOutcome) → IsSame s x.step → IsSame s y.step → IsSame s (if c then x else y).step
  if-met s true x y e f = e
  if-met s false x y e f = f

  -- Accept
  beginning-same : (s : SubchannelState) (p t : ℕ) (st : ProgramPosition) (walk : WalkPosition) (r : CommandStart) → IsSame s (first_ccw_outcome storage s p t st walk r)
  beginning-same s p t st walk (outcome.Begins transfer) = (interrupted-work (with_program_at_work s st.program (begun_with_room storage transfer).transfer) _ refl).kept.drawn
  beginning-same s p t st walk outcome.Suspends = (suspending-workless s st.program walk st.count).kept.drawn
  beginning-same s p t st walk (outcome.Stops check) = (cause-kept s (cause.FetchFault walk.tried check st.count)).drawn

  standing-same : (s : SubchannelState) (p t : ℕ) (st : Option ProgramPosition) → IsSame s (begins_at storage s p t st)
  standing-same s p t None = refl
  standing-same s p t (Some st) = beginning-same s p t st (first_command storage st.walk).walk (first_command storage st.walk).outcome

  accepted_in_phase-same : (s : SubchannelState) (phase : HoldPhase) (taken : Taken Down) → IsSame s (accepted_in_phase storage s phase taken)
  accepted_in_phase-same s (hold.On t p c) taken = standing-same (record s { pmcw = with_path_used s.pmcw p }) p t (offered_position s)
  accepted_in_phase-same s (hold.Letting t p) taken = (halt-kept (record s { pmcw = with_path_used s.pmcw p })).drawn
  accepted_in_phase-same s other taken = refl

  accept-same : (s : SubchannelState) (step : Option HoldStep) → IsSame s (takes_accept storage s step)
  accept-same s step =
      if-same s (outcome_of step).taken _ _ (accepted_in_phase-same (record s { hold = hold_after s.hold step }) (hold_after s.hold step).phase (outcome_of step)) refl

  -- Data
  moving-same : (s : SubchannelState) (b : ActiveProgram) (t : Transfer) → (after_chunk s b t).drawn ≡ s.drawn
  moving-same s b t = (interrupted-work (with_transfer s b t) (record b { transfer = t }) refl).kept.drawn

  moves_bytes-same : (s : SubchannelState) (b : ActiveProgram) (signal : DataSignal) (load : Load) → IsSame s (moves_bytes storage s b signal load).step
  moves_bytes-same s b signal load = if-met s (is_outward b.transfer.code) _ _ (moving-same s b _) (moving-same s b _)

  moves_data-same : (s : SubchannelState) (b : Option ActiveProgram) (signal : DataSignal) (load : Load) → IsSame s (moves_data storage s b signal load).step
  moves_data-same s None signal load = refl
  moves_data-same s (Some b) signal load = if-met s (is_answered b.transfer signal.command signal.sequence) _ _ (moves_bytes-same s b signal load) refl

  -- End
  chaining-same : (s : SubchannelState) (b : ActiveProgram) (signal : EndSignal) (walk : WalkPosition) (r : CommandStart) → IsSame s (next_ccw_outcome storage s b signal walk r)
  chaining-same s b signal walk (outcome.Begins transfer) = moving-same s b (begun_with_room storage transfer).transfer
  chaining-same s b signal walk outcome.Suspends = (suspending-workless (with_allegiance_after_end s signal) b.program walk (residual b.transfer.moving)).kept.drawn
  chaining-same s b signal walk (outcome.Stops check) = (cause-kept (with_allegiance_after_end s signal) (cause.FetchFault walk.tried check (residual b.transfer.moving))).drawn

  chains_at_device_end-same : (s : SubchannelState) (b : ActiveProgram) (signal : EndSignal) → IsSame s (chains_at_device_end storage s b signal)
  chains_at_device_end-same s b signal =
      if-same s (has_device_end signal.status) _ _
      (chaining-same s b signal (next_command storage b.transfer (has_status_modifier signal.status)).walk (next_command storage b.transfer (has_status_modifier signal.status)).outcome) refl

  concludes-same : (s : SubchannelState) (b : ActiveProgram) (signal : EndSignal) → IsSame s (concludes s b signal)
  concludes-same s b signal = if-same s (is_last_end signal.status) _ _ (cause-kept s (cause.End b signal.status signal.more)).drawn (cause-kept s (cause.End b signal.status signal.more)).drawn

  ends_at_work-same : (s : SubchannelState) (b : Option ActiveProgram) (signal : EndSignal) → IsSame s (ends_at_work storage s b signal)
  ends_at_work-same s None signal = refl
  ends_at_work-same s (Some b) signal =
      if-same s (signal.command == b.transfer.command) _ _
      (if-same s (chains_command s.scsw b signal.status signal.more) _ _ (chains_at_device_end-same s (with_first_end b) signal) (concludes-same s b signal)) refl

  -- Cleared
  reset-same : (s : SubchannelState) (step : Option HoldStep) → IsSame s (takes_cleared s step)
  reset-same s None = refl
  reset-same s (Some step) = (clear-kept (record s { hold = step.state })).drawn

  no-less : (a b : ℕ) → b ≡ a → a ≤ b
  no-less a b e = omega (arith, e)

  reset-less : (s : SubchannelState) (shows : Bool) → s.drawn ≤ (reset_with s shows).drawn
  reset-less s true = omega arith
  reset-less s false = omega arith

  notice-less : (s : SubchannelState) (b : ℕ) (more : Bool) → s.drawn ≤ (if more then outcomes.signal_taken (reset_for (on_notice.with_known s b)) else outcomes.signal_ignored s).state.drawn
  notice-less s b true = reset-less (on_notice.with_known s b) (is_offered_or_held s.hold.phase && has_any s.waiting s.begun s.suspended)
  notice-less s b false = omega arith

  attention-drawn : (s : SubchannelState) (shows : Bool) → (on_attention.with_attention s shows).drawn ≡ s.drawn
  attention-drawn s true = refl
  attention-drawn s false = refl

  pub up-drawn : (returns : Bool) → (s : SubchannelState) (p : ℕ) (x : Up) → s.drawn ≤ (takes_up returns storage s p x).step.state.drawn
  up-drawn returns s p (up.Accept t) = no-less s.drawn _ (accept-same s (hold_takes s.hold p (up.Accept t) (takes_device s)))
  up-drawn returns s p (up.Data load t c n q) = no-less s.drawn _ (if-met s (is_connected s.hold.phase p t c) _ _ (moves_data-same s s.begun (record { path = p; number = t; connection = c; command = n; sequence = q }) load) refl)
  up-drawn returns s p (up.End t n status more) = no-less s.drawn _ (if-same s (is_on s.hold.phase t) _ _ (ends_at_work-same s s.begun (record { path = p; number = t; command = n; status = status; more = more })) refl)
  up-drawn returns s p (up.Cleared r) = no-less s.drawn _ (reset-same s (hold_takes s.hold p (up.Cleared r) false))
  up-drawn returns s p (up.Notice b) = notice-less s b (nat_lt s.hold.known_restarts b)
  up-drawn returns s p (up.Attn a status) =
      let step : Option HoldStep = hold_takes s.hold p (up.Attn a status) (on_attention.may_take_attention s) in
      no-less s.drawn _ (attention-drawn (record s { hold = hold_after s.hold step }) ((outcome_of step).taken && not (status.0 == 0x20)))
  up-drawn returns s p x = omega arith
