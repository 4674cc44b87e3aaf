-- An answer goes by the path of its signal, or by that of the program that is offered or connected.
use Rattle.std.proofs.Common.{◌≡◌, refl, sym, ◌∙◌, ap, subst, ℕ, Bool, true, false, Option, None, Some, inl, inr}
use Rattle.std.specs.Prelude.{◌==◌, ◌&&◌, if◌then◌else◌, nat_lt}
use Rattle.storage_keys.specs.Storage.{Contents}
use Rattle.chan_model.specs.declared.hold_state.HoldPhase.{HoldPhase}
use Rattle.chan_model.specs.declared.hold_state.HoldPhase.TheVariants as hold
use Rattle.chan_model.specs.declared.hold_state.HoldState.{HoldState}
use Rattle.chan_model.specs.Signals.{Load}
use Rattle.chan_model.specs.Signals.{Up}
use Rattle.chan_model.specs.declared.signal.Up.TheVariants as up
use Rattle.chan_model.specs.HoldTable.{HoldStep, hold_quietly, program_begun, offer_accepted, found_busy, left, refusing, granting, asked_back, released, reset_cleared, attended, outcome_of, letting_go, is_connected, is_on}
use Rattle.chan_model.specs.Loads.{load_length}
use Rattle.chan_model.specs.UnitReports.{is_last_end, is_outward, has_device_end}
use Rattle.ccw_walk.specs.Positions.{WalkPosition}
use Rattle.data_move.specs.Moving.{residual}
use Rattle.active_program.specs.Sent.{sent_path}
use Rattle.data_move.specs.declared.transfer.Beginning.{Beginning}
use Rattle.data_move.specs.declared.transfer.CommandStart.{CommandStart}
use Rattle.data_move.specs.declared.transfer.CommandStart.TheVariants as outcome
use Rattle.data_move.specs.ToDevice.{chunk_absorbed, next_chunk}
use Rattle.data_move.specs.FromDevice.{chunk_stored}
use Rattle.data_move.specs.ChunkNumbers.{is_answered}
use Rattle.data_move.specs.Commands.{first_command, next_command}
use Rattle.subchannel_model.specs.declared.cause.StatusCause.{StatusCause}
use Rattle.subchannel_model.specs.declared.cause.StatusCause.TheVariants as cause
use Rattle.subchannel_model.specs.declared.signals.DataSignal.{DataSignal}
use Rattle.subchannel_model.specs.declared.signals.EndSignal.{EndSignal}
use Rattle.subchannel_model.specs.declared.state.ActiveProgram.{ActiveProgram}
use Rattle.subchannel_model.specs.declared.state.Program.{Program}
use Rattle.subchannel_model.specs.declared.state.ProgramPosition.{ProgramPosition}
use Rattle.subchannel_model.specs.declared.state.SubchannelState.{SubchannelState}
use Rattle.subchannel_model.specs.declared.state.UpStep.{UpStep}
use Rattle.subchannel_model.specs.Causes.{without_begun, with_cause}
use Rattle.subchannel_model.specs.Ends.{has_status_modifier, chains_command}
use Rattle.subchannel_model.specs.Losing.{reset_for}
use Rattle.subchannel_model.specs.End.{with_end_status, with_allegiance_after_end, next_ccw_outcome, chains_at_device_end, with_first_end, concludes, ends_command, ends_at_work}
use Rattle.subchannel_model.specs.Outcomes.{SignalOutcome, with_storage, signal_ignored, signal_taken, device_released}
use Rattle.subchannel_model.specs.Suspension.{program_suspended}
use Rattle.subchannel_model.specs.Accept.{offered_position, takes_device, with_path_used, first_ccw_outcome, begins_at, takes_accept}
use Rattle.subchannel_model.specs.Data.{gives_chunk, tells_room_after, moves_bytes, moves_data}
use Rattle.subchannel_model.specs.Cleared.{takes_cleared}
use Rattle.subchannel_model.specs.Attention.{may_take_attention}
use Rattle.subchannel_model.specs.Taking.{takes_up}
use Rattle.chan_model.specs.Signals.{load_bytes}
use Rattle.subchannel.specs.Answering.{IsAnswerPath}

-- what a signal of this path, at a hold in this phase, is answered by
abbrev Goes : HoldPhase → ℕ → UpStep → Type 0
Goes phase p step = IsAnswerPath phase p (sent_path step.outcome.sent)

if-goes : (b : Bool) (phase : HoldPhase) (p : ℕ) (x y : UpStep) → Goes phase p x → Goes phase p y → Goes phase p (if b then x else y)
if-goes true phase p x y e f = e
if-goes false phase p x y e f = f

if-met : (b : Bool) (phase : HoldPhase) (p : ℕ) (x y : SignalOutcome) → Goes phase p x.step → Goes phase p y.step → Goes phase p (if b then x else y).step
if-met true phase p x y e f = e
if-met false phase p x y e f = f

if-came : (b : Bool) (phase : HoldPhase) (p : ℕ) (step : HoldStep) → IsAnswerPath phase p (sent_path step.sent) → IsAnswerPath phase p (sent_path (outcome_of (if b then Some step else None)).sent)
if-came true phase p step e = e
if-came false phase p step e = tt

-- the device is let go by the path of the program that is connected
letting : (h : HoldState) (phase : HoldPhase) (p : ℕ) → IsAnswerPath phase p (sent_path (outcome_of (letting_go h phase)).sent)
letting h hold.Free p = tt
letting h (hold.Offer t q) p = tt
letting h (hold.On t q c) p = inr refl
letting h (hold.Away t) p = tt
letting h (hold.Letting t q) p = tt
letting h (hold.Reset r) p = tt

let-goes : (s : SubchannelState) (h : HoldState) (p : ℕ) → s.hold ≡ h → Goes h.phase p (device_released s)
let-goes s h p e = subst (λ (x : HoldState). IsAnswerPath x.phase p (sent_path (device_released s).outcome.sent)) e (letting s.hold s.hold.phase p)

hold-if : (b : Bool) (x y : SubchannelState) (h : HoldState) → x.hold ≡ h → y.hold ≡ h → (if b then x else y).hold ≡ h
hold-if true x y h e f = e
hold-if false x y h e f = f

suspending-hold : (s : SubchannelState) (program : Program) (walk : WalkPosition) (count : ℕ) → (program_suspended s program walk count).hold ≡ s.hold
suspending-hold s program walk count = hold-if program.orb.suppress_suspended _ _ s.hold refl refl

begun-hold : (b : Option ActiveProgram) (s : SubchannelState) → (without_begun b s).hold ≡ s.hold
begun-hold None s = refl
begun-hold (Some b) s = refl

-- Accept: the program is connected by the path of its offer, and lets the device go by it
offered-goes : (y : SubchannelState) (t q p : ℕ) → y.hold.phase ≡ hold.On t q 0 → Goes (hold.Offer t q) p (device_released y)
offered-goes y t q p e = subst (λ (phase : HoldPhase). IsAnswerPath (hold.Offer t q) p (sent_path (outcome_of (letting_go y.hold phase)).sent)) (sym e) (inr refl)

begun-goes : (storage : Contents) (s : SubchannelState) (t q p : ℕ) (st : ProgramPosition) (walk : WalkPosition) (x : CommandStart) → s.hold.phase ≡ hold.On t q 0 →
    Goes (hold.Offer t q) p (first_ccw_outcome storage s q t st walk x)
begun-goes storage s t q p st walk (outcome.Begins transfer) e = inr refl
begun-goes storage s t q p st walk outcome.Suspends e =
    offered-goes (program_suspended s st.program walk st.count) t q p (ap (λ (h : HoldState). h.phase) (suspending-hold s st.program walk st.count) ∙ e)
begun-goes storage s t q p st walk (outcome.Stops check) e =
    offered-goes (with_cause s (cause.FetchFault walk.tried check st.count)) t q p (ap (λ (h : HoldState). h.phase) (begun-hold s.begun s) ∙ e)

standing-goes : (storage : Contents) (s : SubchannelState) (t q p : ℕ) (st : Option ProgramPosition) → s.hold.phase ≡ hold.On t q 0 → Goes (hold.Offer t q) p (begins_at storage s q t st)
standing-goes storage s t q p None e = tt
standing-goes storage s t q p (Some st) e = begun-goes storage s t q p st (first_command storage st.walk).walk (first_command storage st.walk).outcome e

offer-goes : (storage : Contents) (s : SubchannelState) (t q p : ℕ) (same may : Bool) → Goes (hold.Offer t q) p (takes_accept storage s (if same then Some (program_begun s.hold t q may) else None))
offer-goes storage s t q p false may = tt
offer-goes storage s t q p true true =
    standing-goes storage (record s { hold = record s.hold { phase = hold.On t q 0; seen = 0; first_path = Some q }; pmcw = with_path_used s.pmcw q }) t q p (offered_position s) refl
offer-goes storage s t q p true false = inr refl

accept-goes : (storage : Contents) (s : SubchannelState) (phase : HoldPhase) (p u : ℕ) (may : Bool) → Goes phase p (takes_accept storage s (offer_accepted s.hold phase u may))
accept-goes storage s hold.Free p u may = tt
accept-goes storage s (hold.Offer t q) p u may = offer-goes storage s t q p (u == t) may
accept-goes storage s (hold.On t q c) p u may = tt
accept-goes storage s (hold.Away t) p u may = tt
accept-goes storage s (hold.Letting t q) p u may = tt
accept-goes storage s (hold.Reset r) p u may = tt

-- what the hold alone takes
quiet-goes : (b : Bool) (phase : HoldPhase) (p : ℕ) (h : HoldState) → IsAnswerPath phase p (sent_path (outcome_of (if b then Some (hold_quietly h) else None)).sent)
quiet-goes b phase p h = if-came b phase p (hold_quietly h) tt

busy-goes : (h : HoldState) (phase : HoldPhase) (p u : ℕ) → IsAnswerPath phase p (sent_path (outcome_of (found_busy h phase u)).sent)
busy-goes h hold.Free p u = tt
busy-goes h (hold.Offer t q) p u = quiet-goes (u == t) (hold.Offer t q) p _
busy-goes h (hold.On t q c) p u = tt
busy-goes h (hold.Away t) p u = tt
busy-goes h (hold.Letting t q) p u = tt
busy-goes h (hold.Reset r) p u = tt

left-goes : (h : HoldState) (phase : HoldPhase) (p u d : ℕ) → IsAnswerPath phase p (sent_path (outcome_of (left h phase u d)).sent)
left-goes h hold.Free p u d = tt
left-goes h (hold.Offer t q) p u d = tt
left-goes h (hold.On t q c) p u d = quiet-goes ((u == t) && (d == c)) (hold.On t q c) p _
left-goes h (hold.Away t) p u d = tt
left-goes h (hold.Letting t q) p u d = tt
left-goes h (hold.Reset r) p u d = tt

released-goes : (h : HoldState) (phase : HoldPhase) (p u : ℕ) → IsAnswerPath phase p (sent_path (outcome_of (released h phase u)).sent)
released-goes h hold.Free p u = tt
released-goes h (hold.Offer t q) p u = tt
released-goes h (hold.On t q c) p u = tt
released-goes h (hold.Away t) p u = tt
released-goes h (hold.Letting t q) p u = quiet-goes (u == t) (hold.Letting t q) p _
released-goes h (hold.Reset r) p u = tt

away-goes : (h : HoldState) (phase : HoldPhase) (t p c : ℕ) (b may : Bool) →
    IsAnswerPath phase p (sent_path (outcome_of (if b then (if may then Some (granting h p t c) else Some (refusing h p t c)) else None)).sent)
away-goes h phase t p c true true = inl refl
away-goes h phase t p c true false = inl refl
away-goes h phase t p c false may = tt

back-goes : (h : HoldState) (phase : HoldPhase) (p u c : ℕ) (may : Bool) → IsAnswerPath phase p (sent_path (outcome_of (asked_back h phase p u c may)).sent)
back-goes h hold.Free p u c may = tt
back-goes h (hold.Offer t q) p u c may = tt
back-goes h (hold.On t q d) p u c may = if-came ((u == t) && nat_lt h.seen c) (hold.On t q d) p (refusing h p t c) (inl refl)
back-goes h (hold.Away t) p u c may = away-goes h (hold.Away t) t p c ((u == t) && nat_lt h.seen c) may
back-goes h (hold.Letting t q) p u c may = tt
back-goes h (hold.Reset r) p u c may = tt

cleared-by : (s : SubchannelState) (phase : HoldPhase) (p : ℕ) (b : Bool) (h : HoldState) → Goes phase p (takes_cleared s (if b then Some (hold_quietly h) else None))
cleared-by s phase p true h = tt
cleared-by s phase p false h = tt

cleared-goes : (s : SubchannelState) (phase : HoldPhase) (p u : ℕ) → Goes phase p (takes_cleared s (reset_cleared s.hold phase u))
cleared-goes s hold.Free p u = tt
cleared-goes s (hold.Offer t q) p u = tt
cleared-goes s (hold.On t q c) p u = tt
cleared-goes s (hold.Away t) p u = tt
cleared-goes s (hold.Letting t q) p u = tt
cleared-goes s (hold.Reset r) p u = cleared-by s (hold.Reset r) p (u == r) _

attended-goes : (h : HoldState) (phase : HoldPhase) (p a : ℕ) (may : Bool) → IsAnswerPath phase p (sent_path (outcome_of (attended h phase p a may)).sent)
attended-goes h hold.Free p a may = if-came may hold.Free p _ (inl refl)
attended-goes h (hold.Offer t q) p a may = tt
attended-goes h (hold.On t q c) p a may = tt
attended-goes h (hold.Away t) p a may = tt
attended-goes h (hold.Letting t q) p a may = tt
attended-goes h (hold.Reset r) p a may = tt

-- Data
moved-goes : (storage : Contents) (s : SubchannelState) (b : Option ActiveProgram) (signal : DataSignal) (load : Load) → Goes s.hold.phase signal.path (moves_data storage s b signal load).step
moved-goes storage s None signal load = tt
moved-goes storage s (Some b) signal load =
    let phase : HoldPhase = s.hold.phase in
    if-met (is_answered b.transfer signal.command signal.sequence) phase signal.path (moves_bytes storage s b signal load) (with_storage storage (signal_ignored s))
    (if-met (is_outward b.transfer.code) phase signal.path
    (with_storage storage (gives_chunk s b signal (next_chunk storage (chunk_absorbed storage b.transfer signal.sequence (load_length load)))))
    (tells_room_after s b signal (chunk_stored storage b.transfer signal.sequence (load_bytes load))) (inl refl) (inl refl))
    tt

-- End: the next command goes by its path
chaining-goes : (storage : Contents) (s : SubchannelState) (b : ActiveProgram) (signal : EndSignal) (walk : WalkPosition) (x : CommandStart) → Goes s.hold.phase signal.path (next_ccw_outcome storage s b signal walk x)
chaining-goes storage s b signal walk (outcome.Begins transfer) = inl refl
chaining-goes storage s b signal walk outcome.Suspends =
    let y : SubchannelState = program_suspended (with_allegiance_after_end s signal) b.program walk (residual b.transfer.moving) in
    let-goes y s.hold signal.path (suspending-hold (with_allegiance_after_end s signal) b.program walk (residual b.transfer.moving))
chaining-goes storage s b signal walk (outcome.Stops check) =
    let c : StatusCause = cause.FetchFault walk.tried check (residual b.transfer.moving) in
    let-goes (with_cause (with_allegiance_after_end s signal) c) s.hold signal.path (begun-hold s.begun (with_allegiance_after_end s signal))

stops-goes : (s : SubchannelState) (b : ActiveProgram) (signal : EndSignal) → Goes s.hold.phase signal.path (concludes s b signal)
stops-goes s b signal =
    if-goes (is_last_end signal.status) s.hold.phase signal.path (device_released (with_end_status s b signal)) (signal_taken (with_end_status s b signal))
    (let-goes (with_end_status s b signal) s.hold signal.path (hold-if (is_last_end signal.status) _ _ s.hold refl refl)) tt

ended-goes : (storage : Contents) (s : SubchannelState) (b : Option ActiveProgram) (signal : EndSignal) → Goes s.hold.phase signal.path (ends_at_work storage s b signal)
ended-goes storage s None signal = tt
ended-goes storage s (Some b) signal =
    let phase : HoldPhase = s.hold.phase in
    let next : Beginning = next_command storage (with_first_end b).transfer (has_status_modifier signal.status) in
    if-goes (signal.command == b.transfer.command) phase signal.path (ends_command storage s b signal) (signal_ignored s)
    (if-goes (chains_command s.scsw b signal.status signal.more) phase signal.path (chains_at_device_end storage s (with_first_end b) signal) (concludes s b signal)
    (if-goes (has_device_end signal.status) phase signal.path (next_ccw_outcome storage s (with_first_end b) signal next.walk next.outcome) _ (chaining-goes storage s (with_first_end b) signal next.walk next.outcome) tt)
    (stops-goes s b signal))
    tt

pub answer_goes : (returns : Bool) (storage : Contents) (s : SubchannelState) (p : ℕ) (signal : Up) →
    IsAnswerPath s.hold.phase p (sent_path (takes_up returns storage s p signal).step.outcome.sent)
answer_goes returns storage s p (up.Accept t) = accept-goes storage s s.hold.phase p t (takes_device s)
answer_goes returns storage s p (up.Busy t) = busy-goes s.hold s.hold.phase p t
answer_goes returns storage s p (up.Leave t c) = left-goes s.hold s.hold.phase p t c
answer_goes returns storage s p (up.Back t c) = back-goes s.hold s.hold.phase p t c returns
answer_goes returns storage s p (up.Data load t c n seq) =
    let signal : DataSignal = record { path = p; number = t; connection = c; command = n; sequence = seq } in
    if-met (is_connected s.hold.phase p t c) s.hold.phase p (moves_data storage s s.begun signal load) (with_storage storage (signal_ignored s)) (moved-goes storage s s.begun signal load) tt
answer_goes returns storage s p (up.End t n status more) =
    let signal : EndSignal = record { path = p; number = t; command = n; status = status; more = more } in
    if-goes (is_on s.hold.phase t) s.hold.phase p (ends_at_work storage s s.begun signal) (signal_ignored s) (ended-goes storage s s.begun signal) tt
answer_goes returns storage s p (up.Released t) = released-goes s.hold s.hold.phase p t
answer_goes returns storage s p (up.Cleared r) = cleared-goes s s.hold.phase p r
answer_goes returns storage s p (up.Notice b) =
    if-goes (nat_lt s.hold.known_restarts b) s.hold.phase p (signal_taken (reset_for (record s { hold = record s.hold { known_restarts = b } }))) (signal_ignored s) tt tt
answer_goes returns storage s p (up.Attn a status) = attended-goes s.hold s.hold.phase p a (may_take_attention s)
