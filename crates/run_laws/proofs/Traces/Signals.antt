-- What a signal that comes up does to a subchannel: a claim is kept where each part of it keeps the claim.
use Rattle.std.proofs.Common.{◌≡◌, refl, ℕ, ◌==◌, ◌&&◌, not, nat_lt, Bool, true, false, Option, None, Some}
use Rattle.std.specs.Prelude.{if◌then◌else◌}
use Rattle.chan_model.specs.declared.hold_state.HoldPhase.{HoldPhase}
use Rattle.chan_model.specs.declared.hold_state.HoldPhase.TheVariants as hold
use Rattle.chan_model.specs.declared.hold_state.HoldState.{HoldState}
use Rattle.chan_model.specs.Signals.{Down, Load, Up, load_bytes}
use Rattle.chan_model.specs.declared.signal.Taken.{Taken}
use Rattle.chan_model.specs.declared.signal.Up.TheVariants as up
use Rattle.chan_model.specs.HoldTable.{HoldStep, hold_takes, hold_after, outcome_of, is_connected, is_on}
use Rattle.chan_model.specs.Loads.{load_length}
use Rattle.chan_model.specs.UnitReports.{is_last_end, is_outward, has_device_end}
use Rattle.ccw_walk.specs.Positions.{WalkPosition}
use Rattle.data_move.specs.Moving.{residual}
use Rattle.storage_keys.specs.Storage.{Contents}
use Rattle.data_move.specs.declared.transfer.CommandStart.{CommandStart}
use Rattle.data_move.specs.declared.transfer.CommandStart.TheVariants as outcome
use Rattle.data_move.specs.declared.transfer.Transfer.{Transfer}
use Rattle.data_move.specs.Commands.{first_command, next_command, begun_with_room, with_room}
use Rattle.data_move.specs.ToDevice.{chunk_absorbed, next_chunk}
use Rattle.data_move.specs.FromDevice.{chunk_stored}
use Rattle.data_move.specs.ChunkNumbers.{is_answered}
use Rattle.subchannel_model.specs.declared.cause.StatusCause.{StatusCause}
use Rattle.subchannel_model.specs.declared.cause.StatusCause.TheVariants as cause
use Rattle.subchannel_model.specs.declared.signals.DataSignal.{DataSignal}
use Rattle.subchannel_model.specs.declared.signals.EndSignal.{EndSignal}
use Rattle.subchannel_model.specs.declared.state.ActiveProgram.{ActiveProgram}
use Rattle.subchannel_model.specs.declared.state.Program.{Program}
use Rattle.subchannel_model.specs.declared.state.ProgramPosition.{ProgramPosition}
use Rattle.subchannel_model.specs.declared.state.SubchannelState.{SubchannelState}
use Rattle.subchannel_model.specs.declared.state.UpStep.{UpStep}
use Rattle.subchannel_model.specs.Causes.{with_cause}
use Rattle.subchannel_model.specs.Ends.{has_status_modifier, chains_command}
use Rattle.subchannel_model.specs.Losing.{is_offered_or_held, reset_drawn, reset_with, reset_for}
use Rattle.subchannel_model.specs.Programs.{has_any}
use Rattle.subchannel_model.specs.Taking.{takes_up}
use Rattle.subchannel_model.specs.Suspension.{suspended_alone, with_suspended_program, program_suspended}
use Rattle.subchannel_model.specs.End.{with_end_status, with_first_end, with_allegiance_after_end, next_ccw_outcome, chains_at_device_end, concludes, ends_command, ends_at_work}
use Rattle.subchannel_model.specs.Outcomes.{SignalOutcome, with_storage, signal_ignored, signal_taken, device_released}
use Rattle.subchannel_model.specs.Pci.{without_pci, with_pci}
use Rattle.subchannel_model.specs.Accept.{offered_position, takes_device, with_path_used, with_program_at_work, first_ccw_outcome, begins_at, halt_performed, accepted_in_phase, takes_accept}
use Rattle.subchannel_model.specs.Command.{with_transfer}
use Rattle.subchannel_model.specs.Data.{after_chunk, gives_chunk, tells_room_after, moves_bytes, moves_data}
use Rattle.subchannel_model.specs.Cleared.{clear_performed, takes_cleared}
use Rattle.subchannel_model.specs.Attention.{may_take_attention}

-- what the claim may be of: the program that waits, the status word and the logical-path mask; a status is made; a program takes the device, or
-- is suspended
module _ (Q : SubchannelState → Type 0) (same : (s x : SubchannelState) → x.waiting ≡ s.waiting → x.scsw ≡ s.scsw → x.pmcw.logical ≡ s.pmcw.logical → Q s → Q x)
    (cause-kept : (s : SubchannelState) (c : StatusCause) → Q s → Q (with_cause s c))
    (takes-kept : (s : SubchannelState) (program : Program) (transfer : Transfer) → Q s → Q (with_program_at_work s program transfer))
    (still-kept : (s : SubchannelState) (program : Program) (walk : WalkPosition) (count : ℕ) → Q s → Q (with_suspended_program s program walk count))
    (alone-kept : (s : SubchannelState) (program : Program) (walk : WalkPosition) (count : ℕ) → Q s → Q (record (with_suspended_program s program walk count) { scsw = suspended_alone s.scsw })) where
  if-kept : (b : Bool) (x y : SubchannelState) → Q x → Q y → Q (if b then x else y)
  if-kept true x y e f = e
  if-kept false x y e f = f

  if-step : (b : Bool) (x y : UpStep) → Q x.state → Q y.state → Q (if b then x else y).state
  if-step true x y e f = e
  if-step false x y e f = f

  if-met : (b : Bool) (x y : SignalOutcome) → Q x.step.state → Q y.step.state → Q (if b then x else y).step.state
  if-met true x y e f = e
  if-met false x y e f = f

  interrupted-kept : (s : SubchannelState) (b : Option ActiveProgram) → Q s → Q (with_pci s b)
  interrupted-kept s None k = k
  interrupted-kept s (Some b) k =
      let x : SubchannelState = record s { begun = Some (without_pci b) } in
      let c : StatusCause = cause.Pci b.transfer.walk.tried (residual b.transfer.moving) in
      if-kept b.transfer.pci_pending (with_cause x c) s (cause-kept x c (same s x refl refl refl k)) k

  suspending-kept : (s : SubchannelState) (program : Program) (walk : WalkPosition) (count : ℕ) → Q s → Q (program_suspended s program walk count)
  suspending-kept s program walk count k =
      let x : SubchannelState = with_suspended_program s program walk count in
      let c : StatusCause = cause.Suspension walk.tried count in
      if-kept program.orb.suppress_suspended (record x { scsw = suspended_alone s.scsw }) (with_cause x c)
      (alone-kept s program walk count k) (cause-kept x c (still-kept s program walk count k))

  device_released-kept : (s : SubchannelState) → Q s → Q (device_released s).state
  device_released-kept s k = same s (device_released s).state refl refl refl k

  halt_performed-kept : (s : SubchannelState) → Q s → Q (halt_performed s)
  halt_performed-kept s k = if-kept s.scsw.activity.halt_pending (with_cause s cause.HaltDone) s (cause-kept s cause.HaltDone k) k

  clear_performed-kept : (s : SubchannelState) → Q s → Q (clear_performed s)
  clear_performed-kept s k = if-kept s.scsw.activity.clear_pending (with_cause s cause.ClearDone) s (cause-kept s cause.ClearDone k) k

  -- Accept
  beginning-kept : (storage : Contents) (s : SubchannelState) (p t : ℕ) (st : ProgramPosition) (walk : WalkPosition) (c : CommandStart) → Q s → Q (first_ccw_outcome storage s p t st walk c).state
  beginning-kept storage s p t st walk (outcome.Begins transfer) k =
      let begun : Transfer = (begun_with_room storage transfer).transfer in
      let next : SubchannelState = with_program_at_work s st.program begun in interrupted-kept next next.begun (takes-kept s st.program begun k)
  beginning-kept storage s p t st walk outcome.Suspends k = let x : SubchannelState = program_suspended s st.program walk st.count in device_released-kept x (suspending-kept s st.program walk st.count k)
  beginning-kept storage s p t st walk (outcome.Stops check) k =
      let c : StatusCause = cause.FetchFault walk.tried check st.count in device_released-kept (with_cause s c) (cause-kept s c k)

  begin-kept : (storage : Contents) (s : SubchannelState) (p t : ℕ) (st : Option ProgramPosition) → Q s → Q (begins_at storage s p t st).state
  begin-kept storage s p t None k = k
  begin-kept storage s p t (Some st) k = beginning-kept storage s p t st (first_command storage st.walk).walk (first_command storage st.walk).outcome k

  with_path-kept : (s : SubchannelState) (p : ℕ) → Q s → Q (record s { pmcw = with_path_used s.pmcw p })
  with_path-kept s p k = same s (record s { pmcw = with_path_used s.pmcw p }) refl refl refl k

  with_hold-kept : (s : SubchannelState) (h : HoldState) → Q s → Q (record s { hold = h })
  with_hold-kept s h k = same s (record s { hold = h }) refl refl refl k

  accepted-kept : (storage : Contents) (s : SubchannelState) (phase : HoldPhase) (taken : Taken Down) → Q s → Q (accepted_in_phase storage s phase taken).state
  accepted-kept storage s (hold.On t p c) taken k = begin-kept storage (record s { pmcw = with_path_used s.pmcw p }) p t (offered_position s) (with_path-kept s p k)
  accepted-kept storage s (hold.Letting t p) taken k = halt_performed-kept (record s { pmcw = with_path_used s.pmcw p }) (with_path-kept s p k)
  accepted-kept storage s other taken k = k

  accept-kept : (storage : Contents) (s : SubchannelState) (step : Option HoldStep) → Q s → Q (takes_accept storage s step).state
  accept-kept storage s step k =
      let x : SubchannelState = record s { hold = hold_after s.hold step } in
      if-step (outcome_of step).taken (accepted_in_phase storage x x.hold.phase (outcome_of step)) (signal_ignored s)
      (accepted-kept storage x x.hold.phase (outcome_of step) (with_hold-kept s x.hold k)) k

  -- Data
  transfer-kept : (s : SubchannelState) (b : ActiveProgram) (t : Transfer) → Q s → Q (with_transfer s b t)
  transfer-kept s b t k = same s (with_transfer s b t) refl refl refl k

  moving-kept : (s : SubchannelState) (b : ActiveProgram) (t : Transfer) → Q s → Q (after_chunk s b t)
  moving-kept s b t k = let next : SubchannelState = with_transfer s b t in interrupted-kept next next.begun (transfer-kept s b t k)

  move-kept : (storage : Contents) (s : SubchannelState) (b : Option ActiveProgram) (signal : DataSignal) (load : Load) → Q s → Q (moves_data storage s b signal load).step.state
  move-kept storage s None signal load k = k
  move-kept storage s (Some b) signal load k =
      if-met (is_answered b.transfer signal.command signal.sequence) (moves_bytes storage s b signal load) (with_storage storage (signal_ignored s))
      (if-met (is_outward b.transfer.code) (with_storage storage (gives_chunk s b signal (next_chunk storage (chunk_absorbed storage b.transfer signal.sequence (load_length load)))))
      (tells_room_after s b signal (chunk_stored storage b.transfer signal.sequence (load_bytes load)))
      (moving-kept s b (next_chunk storage (chunk_absorbed storage b.transfer signal.sequence (load_length load))).transfer k)
      (moving-kept s b
      (with_room (chunk_stored storage b.transfer signal.sequence (load_bytes load)).storage (chunk_stored storage b.transfer signal.sequence (load_bytes load)).transfer).transfer k))
      k

  -- End
  ended-kept : (s : SubchannelState) (signal : EndSignal) → Q s → Q (with_allegiance_after_end s signal)
  ended-kept s signal k = same s (with_allegiance_after_end s signal) refl refl refl k

  chaining-kept : (storage : Contents) (s : SubchannelState) (b : ActiveProgram) (signal : EndSignal) (walk : WalkPosition) (c : CommandStart) → Q s → Q (next_ccw_outcome storage s b signal walk c).state
  chaining-kept storage s b signal walk (outcome.Begins transfer) k = moving-kept s b (begun_with_room storage transfer).transfer k
  chaining-kept storage s b signal walk outcome.Suspends k =
      let x : SubchannelState = with_allegiance_after_end s signal in
      device_released-kept (program_suspended x b.program walk (residual b.transfer.moving)) (suspending-kept x b.program walk (residual b.transfer.moving) (ended-kept s signal k))
  chaining-kept storage s b signal walk (outcome.Stops check) k =
      let x : SubchannelState = with_allegiance_after_end s signal in
      let c : StatusCause = cause.FetchFault walk.tried check (residual b.transfer.moving) in device_released-kept (with_cause x c) (cause-kept x c (ended-kept s signal k))

  goes-kept : (storage : Contents) (s : SubchannelState) (b : ActiveProgram) (signal : EndSignal) → Q s → Q (chains_at_device_end storage s b signal).state
  goes-kept storage s b signal k =
      let next = next_command storage b.transfer (has_status_modifier signal.status) in
      let x : SubchannelState = record (with_allegiance_after_end s signal) { begun = Some b } in
      if-step (has_device_end signal.status) (next_ccw_outcome storage s b signal next.walk next.outcome) (signal_taken x)
      (chaining-kept storage s b signal next.walk next.outcome k) (same s x refl refl refl k)

  stops-kept : (s : SubchannelState) (b : ActiveProgram) (signal : EndSignal) → Q s → Q (concludes s b signal).state
  stops-kept s b signal k =
      let c : StatusCause = cause.End b signal.status signal.more in
      let x : SubchannelState = with_end_status s b signal in
      let shown : Q x = same (with_cause s c) x refl refl refl (cause-kept s c k) in
      if-step (is_last_end signal.status) (device_released x) (signal_taken x) (device_released-kept x shown) shown

  ends_at_work-kept : (storage : Contents) (s : SubchannelState) (b : Option ActiveProgram) (signal : EndSignal) → Q s → Q (ends_at_work storage s b signal).state
  ends_at_work-kept storage s None signal k = k
  ends_at_work-kept storage s (Some b) signal k =
      if-step (signal.command == b.transfer.command) (ends_command storage s b signal) (signal_ignored s)
      (if-step (chains_command s.scsw b signal.status signal.more) (chains_at_device_end storage s (with_first_end b) signal) (concludes s b signal)
      (goes-kept storage s (with_first_end b) signal k) (stops-kept s b signal k))
      k

  -- the hold is to be reset
  pub reset-kept : (s : SubchannelState) (shows : Bool) → Q s → Q (reset_with s shows)
  reset-kept s true k = cause-kept (reset_drawn s) cause.InterfaceControlCheck (same s (reset_drawn s) refl refl refl k)
  reset-kept s false k = same s (reset_drawn s) refl refl refl k

  takes_cleared-kept : (s : SubchannelState) (step : Option HoldStep) → Q s → Q (takes_cleared s step).state
  takes_cleared-kept s None k = k
  takes_cleared-kept s (Some step) k = clear_performed-kept (record s { hold = step.state }) (with_hold-kept s step.state k)

  -- a signal
  pub signal-kept : (returns : Bool) (storage : Contents) (s : SubchannelState) (p : ℕ) (x : Up) → Q s → Q (takes_up returns storage s p x).step.state
  signal-kept returns storage s p (up.Accept t) k = accept-kept storage s (hold_takes s.hold p (up.Accept t) (takes_device s)) k
  signal-kept returns storage s p (up.Data load t c n seq) k =
      let signal : DataSignal = record { path = p; number = t; connection = c; command = n; sequence = seq } in
      if-met (is_connected s.hold.phase p t c) (moves_data storage s s.begun signal load) (with_storage storage (signal_ignored s)) (move-kept storage s s.begun signal load k) k
  signal-kept returns storage s p (up.End t n status more) k =
      let signal : EndSignal = record { path = p; number = t; command = n; status = status; more = more } in
      if-step (is_on s.hold.phase t) (ends_at_work storage s s.begun signal) (signal_ignored s) (ends_at_work-kept storage s s.begun signal k) k
  signal-kept returns storage s p (up.Cleared r) k = takes_cleared-kept s (hold_takes s.hold p (up.Cleared r) false) k
  signal-kept returns storage s p (up.Notice b) k =
      let x : SubchannelState = record s { hold = record s.hold { known_restarts = b } } in
      if-step (nat_lt s.hold.known_restarts b) (signal_taken (reset_for x)) (signal_ignored s)
      (reset-kept x (is_offered_or_held s.hold.phase && has_any s.waiting s.begun s.suspended) (with_hold-kept s x.hold k)) k
  signal-kept returns storage s p (up.Attn a status) k =
      let step : Option HoldStep = hold_takes s.hold p (up.Attn a status) (may_take_attention s) in
      let next : SubchannelState = record s { hold = hold_after s.hold step } in
      let held : Q next = with_hold-kept s next.hold k in
      if-kept ((outcome_of step).taken && not (status.0 == 0x20)) (with_cause next cause.Attention) next (cause-kept next cause.Attention held) held
  signal-kept returns storage s p x k = same s (takes_up returns storage s p x).step.state refl refl refl k
