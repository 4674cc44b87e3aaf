-- A program that was begun holds the device: the hold is connected or away.
use Rattle.std.proofs.Common.{◌≡◌, refl, sym, ◌∙◌, ap, subst, ℕ, ◌==◌, ◌&&◌, ◌||◌, not, nat_lt, Bool, true, false, Option, None, Some}
use Rattle.std.specs.Prelude.{if◌then◌else◌, is_some}
use Rattle.chan_events.specs.Events.{Event}
use Rattle.chan_events.specs.declared.event.Instruction.{Instruction}
use Rattle.chan_events.specs.declared.event.Instruction.TheVariants as instruction
use Rattle.chan_events.specs.Replies.{Reply}
use Rattle.chan_model.specs.declared.answer.ConditionCode.{ConditionCode}
use Rattle.chan_model.specs.declared.answer.ConditionCode.TheVariants as code
use Rattle.chan_model.specs.declared.hold_state.HoldPhase.{HoldPhase}
use Rattle.chan_model.specs.declared.hold_state.HoldPhase.TheVariants as hold
use Rattle.chan_model.specs.declared.hold_state.HoldState.{HoldState}
use Rattle.chan_model.specs.Signals.{Load, Up, load_bytes}
use Rattle.chan_model.specs.declared.signal.Up.TheVariants as up
use Rattle.chan_model.specs.HoldTable.{hold_takes, hold_after, program_begun, sending_reset, is_connected, is_on}
use Rattle.chan_model.specs.Loads.{load_length}
use Rattle.chan_model.specs.ResetCauses.{rests_on, is_held}
use Rattle.chan_model.specs.UnitReports.{is_last_end, is_outward, has_device_end}
use Rattle.channel_config.specs.declared.names.SubchannelId.{SubchannelId}
use Rattle.ccw_walk.specs.Positions.{WalkPosition}
use Rattle.data_move.specs.Moving.{residual}
use Rattle.storage_keys.specs.Storage.{Contents}
use Rattle.data_move.specs.declared.transfer.CommandStart.{CommandStart}
use Rattle.data_move.specs.declared.transfer.CommandStart.TheVariants as outcome
use Rattle.data_move.specs.declared.transfer.Transfer.{Transfer}
use Rattle.data_move.specs.Commands.{first_command, next_command, begun_with_room, with_room}
use Rattle.data_move.specs.ToDevice.{chunk_absorbed, next_chunk}
use Rattle.data_move.specs.FromDevice.{chunk_stored}
use Rattle.data_move.specs.ChunkNumbers.{is_answered}
use Rattle.machine_model.specs.declared.state.Sweep.{Sweep}
use Rattle.machine_model.specs.declared.state.Sweep.TheVariants as sweep
use Rattle.machine_model.specs.PathSteps.{swept}
use Rattle.subchannel_model.specs.declared.cause.StatusCause.{StatusCause}
use Rattle.subchannel_model.specs.declared.cause.StatusCause.TheVariants as cause
use Rattle.subchannel_model.specs.declared.signals.DataSignal.{DataSignal}
use Rattle.subchannel_model.specs.declared.signals.EndSignal.{EndSignal}
use Rattle.subchannel_model.specs.declared.state.ActiveProgram.{ActiveProgram}
use Rattle.subchannel_model.specs.declared.state.Chosen.{Chosen}
use Rattle.subchannel_model.specs.declared.state.Chosen.TheVariants.{Idle, Resets, PerformsClear, Halts, PerformsHalt, FindsNoPath, Offers}
use Rattle.subchannel_model.specs.declared.state.Program.{Program}
use Rattle.subchannel_model.specs.declared.state.ProgramPosition.{ProgramPosition}
use Rattle.subchannel_model.specs.declared.state.Subchannel.{Subchannel}
use Rattle.subchannel_model.specs.declared.state.SubchannelState.{SubchannelState}
use Rattle.subchannel_model.specs.declared.state.UpStep.{UpStep}
use Rattle.subchannel_model.specs.Causes.{without_begun, without_waiting, programs_after_end, with_cause}
use Rattle.subchannel_model.specs.Choosing.{chosen, marked_sub}
use Rattle.subchannel_model.specs.Conditions.{left_by}
use Rattle.subchannel_model.specs.Ends.{has_status_modifier, chains_command}
use Rattle.subchannel_model.specs.Halt.{drops_status, status_dropped, halt_begun}
use Rattle.subchannel_model.specs.Losing.{is_offered_or_held, reset_drawn, reset_with, reset_for, path_lost, path_index, loses_at, loses, shows_at}
use Rattle.subchannel_model.specs.Programs.{without_programs, has_any}
use Rattle.subchannel_model.specs.Taking.{takes_up}
use Rattle.subchannel_model.specs.Suspension.{suspended_alone, with_suspended_program, program_suspended}
use Rattle.subchannel_model.specs.End.{with_end_status, with_first_end, with_allegiance_after_end, next_ccw_outcome, chains_at_device_end, concludes, ends_command, ends_at_work}
use Rattle.subchannel_model.specs.Outcomes.{SignalOutcome, with_storage, signal_ignored, signal_taken, device_released}
use Rattle.subchannel_model.specs.Pci.{without_pci, with_pci}
use Rattle.subchannel_model.specs.Accept.{offered_position, takes_device, with_path_used, with_program_at_work, first_ccw_outcome, begins_at, halt_performed, takes_accept}
use Rattle.subchannel_model.specs.Command.{with_transfer}
use Rattle.subchannel_model.specs.Data.{after_chunk, gives_chunk, tells_room_after, moves_bytes, moves_data}
use Rattle.subchannel_model.specs.Cleared.{clear_performed, takes_cleared}
use Rattle.subchannel_model.specs.Back.{takes_back}
use Rattle.subchannel_model.specs.Attention.{takes_attention, may_take_attention}
use Rattle.subchannel_model.specs.Test.{tested, ends_suspended}
use Rattle.run_laws.proofs.Shown.Chosen.{why-chosen, IsWhy}
use Rattle.step_laws.proofs.Executed.{IsEffect, code_for}
use Rattle.run_laws.proofs.Shown.Turned.{Turned, Executes, Chooses, Meets, Sweeps, Rests, state_chosen}

abbrev pub Held : SubchannelState → Type 0
Held s = is_some s.begun ≡ true → is_held s.hold.phase ≡ true

pub none-some : {A : Type 0} (o : Option A) → o ≡ None → is_some o ≡ true → ⊥
none-some o e f = cc (sym f ∙ ap (λ (x : Option _). is_some x) e)

none-held : (s : SubchannelState) → s.begun ≡ None → Held s
none-held s none = λ e. absurd (cc (sym (ap (λ (b : Option ActiveProgram). is_some b) none) ∙ e))

-- where the hold is neither connected nor away
pub none-if : {A : Type 0} (o : Option A) → (is_some o ≡ true → ⊥) → o ≡ None
none-if None f = refl
none-if (Some x) f = absurd (f refl)

pub not-held : (s : SubchannelState) → Held s → is_held s.hold.phase ≡ false → s.begun ≡ None
not-held s h no-one = none-if s.begun (λ e. cc (sym (h e) ∙ no-one))

if-held : (b : Bool) (x y : SubchannelState) → Held x → Held y → Held (if b then x else y)
if-held true x y e f = e
if-held false x y e f = f

if-step : (b : Bool) (x y : UpStep) → (b ≡ true → Held x.state) → Held y.state → Held (if b then x else y).state
if-step true x y e f = e refl
if-step false x y e f = f

if-met : (b : Bool) (x y : SignalOutcome) → Held x.step.state → Held y.step.state → Held (if b then x else y).step.state
if-met true x y e f = e
if-met false x y e f = f

-- a status that is made
after_end-held : (s : SubchannelState) (b : ActiveProgram) (last : Bool) → is_held s.hold.phase ≡ true → Held (programs_after_end s b last)
after_end-held s b true h = λ e. absurd (cc e)
after_end-held s b false h = λ e. h

without_begun-held : (s : SubchannelState) (b : Option ActiveProgram) → Held s → Held (without_begun b s)
without_begun-held s None h = h
without_begun-held s (Some b) h = λ e. absurd (cc e)

without_waiting-held : (s : SubchannelState) (w : Option Program) → Held s → Held (without_waiting w s)
without_waiting-held s None h = h
without_waiting-held s (Some w) h = h

abbrev IsEndOf : SubchannelState → StatusCause → Type 0
IsEndOf s (cause.End b status more) = s.begun ≡ Some b
IsEndOf s c = Unit {0}

begun-held : (s : SubchannelState) (b : ActiveProgram) → Held s → s.begun ≡ Some b → is_held s.hold.phase ≡ true
begun-held s b h e = h (ap (λ (o : Option ActiveProgram). is_some o) e)

cause-held : (s : SubchannelState) (c : StatusCause) → IsEndOf s c → Held s → Held (with_cause s c)
cause-held s (cause.End b status more) m h = after_end-held s b (is_last_end status) (begun-held s b h m)
cause-held s (cause.FetchFault tried check count) m h = without_begun-held s s.begun h
cause-held s cause.NoPath m h = without_waiting-held s s.waiting h
cause-held s cause.InterfaceControlCheck m h = λ e. absurd (cc e)
cause-held s cause.HaltDone m h = λ e. absurd (cc e)
cause-held s other m h = h

interrupted-held : (s : SubchannelState) (b : Option ActiveProgram) → is_held s.hold.phase ≡ true → Held (with_pci s b)
interrupted-held s None h = λ e. h
interrupted-held s (Some b) h =
    if-held b.transfer.pci_pending
    (with_cause (record s { begun = Some (without_pci b) }) (cause.Pci b.transfer.walk.tried (residual b.transfer.moving))) s (λ e. h) (λ e. h)

-- what lets the device go has no program that was begun
device_released-held : (s : SubchannelState) → s.begun ≡ None → Held (device_released s).state
device_released-held s none = none-held (device_released s).state none

suspending-none : (s : SubchannelState) (program : Program) (walk : WalkPosition) (count : ℕ) (quiet : Bool) →
    (if quiet then record (with_suspended_program s program walk count) { scsw = suspended_alone s.scsw } else with_cause (with_suspended_program s program walk count) (cause.Suspension walk.tried count)).begun ≡ None
suspending-none s program walk count true = refl
suspending-none s program walk count false = refl

faulted-none : (s : SubchannelState) (b : Option ActiveProgram) → s.begun ≡ b → (without_begun b s).begun ≡ None
faulted-none s None e = e
faulted-none s (Some b) e = refl

ended-none : (s : SubchannelState) (b : ActiveProgram) (last : Bool) → last ≡ true → (programs_after_end s b last).begun ≡ None
ended-none s b true e = refl
ended-none s b false e = absurd (cc e)

-- Accept
begin-held : (storage : Contents) (s : SubchannelState) (p t : ℕ) (o : Option ProgramPosition) → is_held s.hold.phase ≡ true → Held (begins_at storage s p t o).state
begin-held storage s p t None h = λ e. h
begin-held storage s p t (Some st) h = by (first_command storage st.walk).walk (first_command storage st.walk).outcome
  where
    by : (walk : WalkPosition) (c : CommandStart) → Held (first_ccw_outcome storage s p t st walk c).state
    by walk (outcome.Begins transfer) =
        let next = with_program_at_work s st.program (begun_with_room storage transfer).transfer in interrupted-held next next.begun h
    by walk outcome.Suspends = device_released-held (program_suspended s st.program walk st.count) (suspending-none s st.program walk st.count st.program.orb.suppress_suspended)
    by walk (outcome.Stops check) = device_released-held (with_cause s (cause.FetchFault walk.tried check st.count)) (faulted-none s s.begun refl)

halt_performed-none : (s : SubchannelState) (pending : Bool) → s.begun ≡ None → (if pending then with_cause s cause.HaltDone else s).begun ≡ None
halt_performed-none s true none = refl
halt_performed-none s false none = none

abbrev with_hold : SubchannelState → HoldState → HoldPhase → SubchannelState
with_hold s h phase = record s { hold = record h { phase = phase } }

accepted-held : (storage : Contents) (s : SubchannelState) (h : HoldState) (t q u : ℕ) (may same : Bool) → s.begun ≡ None →
    Held (takes_accept storage (with_hold s h (hold.Offer t q)) (if same then Some (program_begun (record h { phase = hold.Offer t q }) t q may) else None)).state
accepted-held storage s h t q u true true none =
    let x = record s { hold = record h { phase = hold.On t q 0; seen = 0; first_path = Some q }; pmcw = with_path_used s.pmcw q } in begin-held storage x q t (offered_position s) refl
accepted-held storage s h t q u false true none =
    let x = record s { hold = record h { phase = hold.Letting t q; seen = 0; first_path = Some q }; pmcw = with_path_used s.pmcw q } in
    none-held (halt_performed x) (halt_performed-none x s.scsw.activity.halt_pending none)
accepted-held storage s h t q u may false none = none-held (with_hold s h (hold.Offer t q)) none

accept-held : (returns : Bool) (storage : Contents) (s : SubchannelState) (h : HoldState) (phase : HoldPhase) (p u : ℕ) → Held (with_hold s h phase) →
    Held (takes_up returns storage (with_hold s h phase) p (up.Accept u)).step.state
accept-held returns storage s h (hold.Offer t q) p u k = accepted-held storage s h t q u (takes_device s) (u == t) (not-held (with_hold s h (hold.Offer t q)) k refl)
accept-held returns storage s h other p u k = k

-- Data
moving-held : (s : SubchannelState) (b : ActiveProgram) (t : Transfer) → is_held s.hold.phase ≡ true → Held (after_chunk s b t)
moving-held s b t h = let next = with_transfer s b t in interrupted-held next next.begun h

move-held : (storage : Contents) (s : SubchannelState) (o : Option ActiveProgram) (signal : DataSignal) (load : Load) → s.begun ≡ o → Held s →
    Held (moves_data storage s o signal load).step.state
move-held storage s None signal load e h = h
move-held storage s (Some b) signal load e h =
    if-met (is_answered b.transfer signal.command signal.sequence) (moves_bytes storage s b signal load) (with_storage storage (signal_ignored s))
    (if-met (is_outward b.transfer.code) (with_storage storage (gives_chunk s b signal (next_chunk storage (chunk_absorbed storage b.transfer signal.sequence (load_length load)))))
    (tells_room_after s b signal (chunk_stored storage b.transfer signal.sequence (load_bytes load)))
    (moving-held s b (next_chunk storage (chunk_absorbed storage b.transfer signal.sequence (load_length load))).transfer (begun-held s b h e))
    (moving-held s b
    (with_room (chunk_stored storage b.transfer signal.sequence (load_bytes load)).storage (chunk_stored storage b.transfer signal.sequence (load_bytes load)).transfer).transfer
    (begun-held s b h e)))
    h

-- End
chaining-held : (storage : Contents) (s : SubchannelState) (b : ActiveProgram) (signal : EndSignal) (walk : WalkPosition) (c : CommandStart) → is_held s.hold.phase ≡ true →
    Held (next_ccw_outcome storage s b signal walk c).state
chaining-held storage s b signal walk (outcome.Begins transfer) h = moving-held s b (begun_with_room storage transfer).transfer h
chaining-held storage s b signal walk outcome.Suspends h =
    device_released-held (program_suspended (with_allegiance_after_end s signal) b.program walk (residual b.transfer.moving))
    (suspending-none (with_allegiance_after_end s signal) b.program walk (residual b.transfer.moving) b.program.orb.suppress_suspended)
chaining-held storage s b signal walk (outcome.Stops check) h =
    device_released-held (with_cause (with_allegiance_after_end s signal) (cause.FetchFault walk.tried check (residual b.transfer.moving))) (faulted-none (with_allegiance_after_end s signal) s.begun refl)

goes-held : (storage : Contents) (s : SubchannelState) (b : ActiveProgram) (signal : EndSignal) → is_held s.hold.phase ≡ true → Held (chains_at_device_end storage s b signal).state
goes-held storage s b signal h =
    let next = next_command storage b.transfer (has_status_modifier signal.status) in
    if-step (has_device_end signal.status) (next_ccw_outcome storage s b signal next.walk next.outcome) (signal_taken (record (with_allegiance_after_end s signal) { begun = Some b }))
    (λ e. chaining-held storage s b signal next.walk next.outcome h) (λ e. h)

stops-held : (s : SubchannelState) (b : ActiveProgram) (signal : EndSignal) → is_held s.hold.phase ≡ true → Held (concludes s b signal).state
stops-held s b signal h =
    if-step (is_last_end signal.status) (device_released (with_end_status s b signal)) (signal_taken (with_end_status s b signal))
    (λ e. device_released-held (with_end_status s b signal) (ended-none s b (is_last_end signal.status) e)) (after_end-held s b (is_last_end signal.status) h)

ends_at_work-held : (storage : Contents) (s : SubchannelState) (o : Option ActiveProgram) (signal : EndSignal) → s.begun ≡ o → Held s → Held (ends_at_work storage s o signal).state
ends_at_work-held storage s None signal e h = h
ends_at_work-held storage s (Some b) signal e h =
    if-step (signal.command == b.transfer.command) (ends_command storage s b signal) (signal_ignored s)
    (λ i. if-step (chains_command s.scsw b signal.status signal.more) (chains_at_device_end storage s (with_first_end b) signal) (concludes s b signal)
    (λ j. goes-held storage s (with_first_end b) signal (begun-held s b h e)) (stops-held s b signal (begun-held s b h e)))
    h

-- the hold is to be reset
shows-not : (s : SubchannelState) (phase : HoldPhase) (begun : Option ActiveProgram) → (is_some begun ≡ true → is_held phase ≡ true) →
    (is_offered_or_held phase && (is_some s.waiting || (is_some begun || is_some s.suspended))) ≡ false → begun ≡ None
shows-not s phase None h e = refl
shows-not s hold.Free (Some b) h e = absurd (cc (h refl))
shows-not s (hold.Offer t p) (Some b) h e = absurd (cc (h refl))
shows-not s (hold.On t p c) (Some b) h e = absurd (or-true (is_some s.waiting) e)
  where
    or-true : (w : Bool) → (true && (w || (true || is_some s.suspended))) ≡ false → ⊥
    or-true true f = cc f
    or-true false f = cc f
shows-not s (hold.Away t) (Some b) h e = absurd (or-true (is_some s.waiting) e)
  where
    or-true : (w : Bool) → (true && (w || (true || is_some s.suspended))) ≡ false → ⊥
    or-true true f = cc f
    or-true false f = cc f
shows-not s (hold.Letting t p) (Some b) h e = absurd (cc (h refl))
shows-not s (hold.Reset r) (Some b) h e = absurd (cc (h refl))

reset-held : (s : SubchannelState) (shows : Bool) → (shows ≡ false → s.begun ≡ None) → Held (reset_with s shows)
reset-held s true f = λ e. absurd (cc e)
reset-held s false f = none-held (reset_drawn s) (f refl)

reset_for-held : (s : SubchannelState) → Held s → Held (reset_for s)
reset_for-held s h =
    reset-held s (is_offered_or_held s.hold.phase && has_any s.waiting s.begun s.suspended) (shows-not s s.hold.phase s.begun h)

lost-held : (s : SubchannelState) (p : ℕ) → Held s → Held (path_lost s p)
lost-held s p h = if-held (rests_on s.hold p) (reset_for s) s (reset_for-held s h) h

-- signals that the hold alone takes
busy-held : (s : SubchannelState) (h : HoldState) (phase : HoldPhase) (p u : ℕ) → Held (with_hold s h phase) →
    Held (record s { hold = hold_after (record h { phase = phase }) (hold_takes (record h { phase = phase }) p (up.Busy u) false) })
busy-held s h (hold.Offer t q) p u k = λ e. absurd (none-some s.begun (not-held (with_hold s h (hold.Offer t q)) k refl) e)
busy-held s h other p u k = k

released-held : (s : SubchannelState) (h : HoldState) (phase : HoldPhase) (p u : ℕ) → Held (with_hold s h phase) →
    Held (record s { hold = hold_after (record h { phase = phase }) (hold_takes (record h { phase = phase }) p (up.Released u) false) })
released-held s h (hold.Letting t q) p u k = λ e. absurd (none-some s.begun (not-held (with_hold s h (hold.Letting t q)) k refl) e)
released-held s h other p u k = k

leave-held : (s : SubchannelState) (h : HoldState) (phase : HoldPhase) (p u d : ℕ) → Held (with_hold s h phase) →
    Held (record s { hold = hold_after (record h { phase = phase }) (hold_takes (record h { phase = phase }) p (up.Leave u d) false) })
leave-held s h hold.Free p u d k = k
leave-held s h (hold.Offer t q) p u d k = k
leave-held s h (hold.On t q c) p u d k = by ((u == t) && (d == c))
  where
    by : (b : Bool) → Held (record s { hold = hold_after (record h { phase = hold.On t q c }) (if b then Some (record { state = record h { phase = hold.Away t }; sent = None }) else None) })
    by true = λ e. refl
    by false = λ e. refl
leave-held s h (hold.Away t) p u d k = k
leave-held s h (hold.Letting t q) p u d k = k
leave-held s h (hold.Reset r) p u d k = k

back-held : (s : SubchannelState) (h : HoldState) (phase : HoldPhase) (p u c : ℕ) (may : Bool) → Held (with_hold s h phase) →
    Held (takes_back (with_hold s h phase) p (hold_takes (record h { phase = phase }) p (up.Back u c) may)).state
back-held s h hold.Free p u c may k = k
back-held s h (hold.Offer t q) p u c may k = k
back-held s h (hold.On t q d) p u c may k = by ((u == t) && nat_lt h.seen c)
  where
    by : (b : Bool) → Held (takes_back (with_hold s h (hold.On t q d)) p
        (if b then Some (record { state = record h { phase = hold.On t q d; seen = c }; sent = Some (record { path = p; signal = Rattle.chan_model.specs.declared.signal.Down.TheVariants.Refuse t c }) }) else None)).state
    by true = λ e. refl
    by false = λ e. refl
back-held s h (hold.Away t) p u c may k = by ((u == t) && nat_lt h.seen c) may
  where
    by : (b may : Bool) → Held (takes_back (with_hold s h (hold.Away t)) p
        (if b then (if may then Some (record { state = record h { phase = hold.On t p c; seen = c }; sent = Some (record { path = p; signal = Rattle.chan_model.specs.declared.signal.Down.TheVariants.Grant t c }) })
        else Some (record { state = record h { phase = hold.Away t; seen = c }; sent = Some (record { path = p; signal = Rattle.chan_model.specs.declared.signal.Down.TheVariants.Refuse t c }) })) else None)).state
    by true true = λ e. refl
    by true false = λ e. refl
    by false may = λ e. refl
back-held s h (hold.Letting t q) p u c may k = k
back-held s h (hold.Reset r) p u c may k = k

clear-none : (s : SubchannelState) (pending : Bool) → s.begun ≡ None → (if pending then with_cause s cause.ClearDone else s).begun ≡ None
clear-none s true none = none
clear-none s false none = none

cleared-held : (s : SubchannelState) (h : HoldState) (phase : HoldPhase) (p u : ℕ) → Held (with_hold s h phase) →
    Held (takes_cleared (with_hold s h phase) (hold_takes (record h { phase = phase }) p (up.Cleared u) false)).state
cleared-held s h hold.Free p u k = k
cleared-held s h (hold.Offer t q) p u k = k
cleared-held s h (hold.On t q c) p u k = k
cleared-held s h (hold.Away t) p u k = k
cleared-held s h (hold.Letting t q) p u k = k
cleared-held s h (hold.Reset r) p u k = by (u == r)
  where
    none : s.begun ≡ None
    none = not-held (with_hold s h (hold.Reset r)) k refl

    by : (b : Bool) → Held (takes_cleared (with_hold s h (hold.Reset r)) (if b then Some (record { state = record h { phase = hold.Free; reset_path = None }; sent = None }) else None)).state
    by true =
        let x = record s { hold = record h { phase = hold.Free; reset_path = None } } in none-held (clear_performed x) (clear-none x s.scsw.activity.clear_pending none)
    by false = k

attend-held : (s : SubchannelState) (h : HoldState) (phase : HoldPhase) (p a : ℕ) (status : Rattle.scsw_irb.specs.declared.status.DeviceStatus.DeviceStatus) (may : Bool) →
    Held (with_hold s h phase) → Held (takes_attention (with_hold s h phase) status (hold_takes (record h { phase = phase }) p (up.Attn a status) may)).state
attend-held s h hold.Free p a status true k = if-held (true && not (status.0 == 0x20)) (with_cause (with_hold s h hold.Free) cause.Attention) (with_hold s h hold.Free) k k
attend-held s h hold.Free p a status false k = k
attend-held s h other p a status may k = k

takes-held : (returns : Bool) (storage : Contents) (s : SubchannelState) (p : ℕ) (x : Up) → Held s → Held (takes_up returns storage s p x).step.state
takes-held returns storage s p (up.Accept t) h = accept-held returns storage s s.hold s.hold.phase p t h
takes-held returns storage s p (up.Busy t) h = busy-held s s.hold s.hold.phase p t h
takes-held returns storage s p (up.Leave t c) h = leave-held s s.hold s.hold.phase p t c h
takes-held returns storage s p (up.Back t c) h = back-held s s.hold s.hold.phase p t c returns h
takes-held returns storage s p (up.Data load t c n seq) h =
    let signal : DataSignal = record { path = p; number = t; connection = c; command = n; sequence = seq } in
    if-met (is_connected s.hold.phase p t c) (moves_data storage s s.begun signal load) (with_storage storage (signal_ignored s)) (move-held storage s s.begun signal load refl h) h
takes-held returns storage s p (up.End t n status more) h =
    let signal : EndSignal = record { path = p; number = t; command = n; status = status; more = more } in
    if-step (is_on s.hold.phase t) (ends_at_work storage s s.begun signal) (signal_ignored s) (λ i. ends_at_work-held storage s s.begun signal refl h) h
takes-held returns storage s p (up.Released t) h = released-held s s.hold s.hold.phase p t h
takes-held returns storage s p (up.Cleared r) h = cleared-held s s.hold s.hold.phase p r h
takes-held returns storage s p (up.Notice b) h =
    let x : SubchannelState = record s { hold = record s.hold { known_restarts = b } } in
    if-step (nat_lt s.hold.known_restarts b) (signal_taken (reset_for x)) (signal_ignored s) (λ i. reset_for-held x h) h
takes-held returns storage s p (up.Attn a status) h = attend-held s s.hold s.hold.phase p a status (may_take_attention s) h

-- instructions
effect-held : (i : Instruction) (sub : Subchannel) (effect : SubchannelState) → IsEffect i sub effect → Held sub.state → Held effect
effect-held (instruction.Ssch word address) sub effect is h = subst Held (sym is.1) h
effect-held (instruction.Tsch word address) sub effect is h =
    subst Held (sym is) (if-held (ends_suspended sub.state.scsw) (without_programs (tested sub.state)) (tested sub.state) (λ e. absurd (cc e)) h)
effect-held (instruction.Msch word address) sub effect is h = subst Held (sym is.1) h
effect-held (instruction.Hsch word) sub effect is h =
    subst Held (sym is) (if-held (drops_status sub.state.scsw) (status_dropped (halt_begun sub.state)) (halt_begun sub.state) h h)
effect-held (instruction.Csch word) sub effect is h = subst Held (sym is) (λ e. absurd (cc e))
effect-held i sub effect is h = subst Held (sym is) h

left-held : (c : ConditionCode) (s effect : SubchannelState) → Held s → Held effect → Held (left_by c s effect)
left-held code.Zero s effect h k = k
left-held c s effect h k = h

-- choices
reset-sent-held : (s : SubchannelState) (h : HoldState) (phase : HoldPhase) (path : ℕ) → Held (with_hold s h phase) →
    Held (record s { hold = hold_after (record h { phase = phase }) (sending_reset (record h { phase = phase }) phase path); last_path = Some path })
reset-sent-held s h hold.Free path k = k
reset-sent-held s h other path k = k

chosen-held : (sub : Subchannel) (choice : Option ℕ) (c : Chosen) → IsWhy sub.state c → Held sub.state → Held (state_chosen (marked_sub sub choice).state c)
chosen-held sub choice Idle why h = h
chosen-held sub choice (Resets r path) why h = reset-sent-held (marked_sub sub choice).state sub.state.hold sub.state.hold.phase path h
chosen-held sub choice PerformsClear why h = cause-held (marked_sub sub choice).state cause.ClearDone tt h
chosen-held sub choice (Halts t path) why h = h
chosen-held sub choice PerformsHalt why h = λ e. absurd (cc e)
chosen-held sub choice FindsNoPath why h = cause-held (marked_sub sub choice).state cause.NoPath tt h
chosen-held sub choice (Offers c path) why h = none-held (state_chosen (marked_sub sub choice).state (Offers c path)) (not-held sub.state h (ap is_held why.2))

-- lost paths
loses-held : (o : Option ℕ) (sub : Subchannel) → Held sub.state → Held (loses_at o sub).state
loses-held None sub h = h
loses-held (Some p) sub h = lost-held sub.state p h

shows-held : (o : Option ℕ) (up : Bool) (sub : Subchannel) → Held sub.state → Held (shows_at o up sub).state
shows-held None up sub h = h
shows-held (Some p) up sub h = h

swept-held : (what : Sweep) (sub : Subchannel) → Held sub.state → Held (swept what sub).state
swept-held (sweep.GoesDown chpid) sub h = shows-held (path_index chpid (loses chpid sub).setup.paths) false (loses chpid sub) (loses-held (path_index chpid sub.setup.paths) sub h)
swept-held (sweep.ComesUp chpid) sub h = shows-held (path_index chpid sub.setup.paths) true sub h
swept-held (sweep.PathReset chpid) sub h = loses-held (path_index chpid sub.setup.paths) sub h
swept-held sweep.SystemReset sub h = λ e. absurd (cc e)

pub turned-held : (sets : ℕ) (id : SubchannelId) (e : Event) (r : Reply) (sub : Subchannel) (after : SubchannelState) → Held sub.state → Turned sets id e r sub after → Held after
turned-held sets id _ _ _ _ h (Executes cpu i sub effect named is) = left-held (code_for i sub) sub.state effect h (effect-held i sub effect is h)
turned-held sets id _ _ _ _ h (Chooses word sub choice named away) = chosen-held sub choice (chosen sub choice) (why-chosen sub choice) h
turned-held sets id _ _ _ _ h (Meets word path returns storage sub x named) = takes-held returns storage sub.state path x h
turned-held sets id _ _ _ _ h (Sweeps what r sub) = swept-held what sub h
turned-held sets id _ _ _ _ h (Rests e r sub about) = h
