-- Each signal that comes up but a Cleared and a Notice is calm.
use Rattle.std.proofs.Common.{◌≡◌, refl, sym, ◌∙◌, ℕ, ◌==◌, ◌&&◌, nat_lt, not, Bool, true, false, Option, None, Some}
use Rattle.std.specs.Prelude.{if◌then◌else◌}
use Rattle.storage_keys.specs.Storage.{Contents}
use Rattle.chan_model.specs.declared.hold_state.HoldPhase.{HoldPhase}
use Rattle.chan_model.specs.declared.hold_state.HoldPhase.TheVariants as hold
use Rattle.chan_model.specs.declared.hold_state.HoldState.{HoldState}
use Rattle.chan_model.specs.Signals.{Load, Up, load_bytes}
use Rattle.chan_model.specs.declared.signal.Up.TheVariants as up
use Rattle.chan_model.specs.Loads.{load_length}
use Rattle.chan_model.specs.HoldTable.{HoldStep, hold_quietly, refusing, granting, program_begun, offer_accepted, found_busy, left, asked_back, released, attended, hold_after, outcome_of, is_connected, is_on}
use Rattle.chan_model.specs.UnitReports.{is_last_end, is_outward, has_device_end}
use Rattle.ccw_walk.specs.Positions.{WalkPosition}
use Rattle.data_move.specs.Moving.{residual}
use Rattle.data_move.specs.declared.transfer.CommandStart.{CommandStart}
use Rattle.data_move.specs.declared.transfer.CommandStart.TheVariants as outcome
use Rattle.data_move.specs.Commands.{first_command, next_command, begun_with_room, with_room}
use Rattle.data_move.specs.ToDevice.{chunk_absorbed, next_chunk}
use Rattle.data_move.specs.FromDevice.{chunk_stored}
use Rattle.data_move.specs.ChunkNumbers.{is_answered}
use Rattle.subchannel_model.specs.declared.signals.DataSignal.{DataSignal}
use Rattle.subchannel_model.specs.declared.signals.EndSignal.{EndSignal}
use Rattle.subchannel_model.specs.declared.state.ActiveProgram.{ActiveProgram}
use Rattle.subchannel_model.specs.declared.state.ProgramPosition.{ProgramPosition}
use Rattle.subchannel_model.specs.declared.state.SubchannelState.{SubchannelState}
use Rattle.subchannel_model.specs.declared.state.UpStep.{UpStep}
use Rattle.subchannel_model.specs.declared.cause.StatusCause.TheVariants as cause
use Rattle.subchannel_model.specs.Causes.{with_cause}
use Rattle.subchannel_model.specs.Ends.{has_status_modifier, chains_command}
use Rattle.subchannel_model.specs.Taking.{takes_up}
use Rattle.subchannel_model.specs.Attention.{with_attention, may_take_attention}
use Rattle.run_laws.proofs.Machine.CalmStatus.{IsAsReset, as-same, IsCalm, calm-same, calm-then, counts-same, cause-calm, interrupted-calm, moving-calm, suspending-calm, attention-calm, halt_performed-calm, device_released-calm}
use Rattle.subchannel_model.specs.Data.{gives_next_chunk, tells_room_after, moves_bytes, moves_data}
use Rattle.subchannel_model.specs.Outcomes.{SignalOutcome, with_storage, signal_ignored, signal_taken, device_released, hold_outcome}
use Rattle.subchannel_model.specs.Pci.{with_pci}
use Rattle.subchannel_model.specs.Accept.{with_path_used, with_program_at_work, offered_position, takes_device, first_ccw_outcome, begins_at, halt_performed, takes_accept}
use Rattle.subchannel_model.specs.Suspension.{program_suspended}
use Rattle.subchannel_model.specs.End.{with_first_end, with_allegiance_after_end, next_ccw_outcome, chains_at_device_end, concludes, ends_command, ends_at_work, chains_with, with_end_status}

-- what the hold alone does with a signal
abbrev LeavesAs : HoldState → HoldPhase → Option HoldStep → Type 0
LeavesAs h phase step = IsAsReset phase (hold_after h step).phase

if-as : (h : HoldState) (phase : HoldPhase) (b : Bool) (x y : Option HoldStep) → LeavesAs h phase x → LeavesAs h phase y →
    LeavesAs h phase (if b then x else y)
if-as h phase true x y e f = e
if-as h phase false x y e f = f

busy-as : (h : HoldState) (phase : HoldPhase) (u : ℕ) → h.phase ≡ phase → LeavesAs h phase (found_busy h phase u)
busy-as h (hold.Offer t p) u e =
    if-as h (hold.Offer t p) (u == t) (Some (hold_quietly (record h { phase = hold.Free }))) None
    (record { still = λ n k. absurd (cc k); was = λ n k. absurd (cc k) })
    (as-same (hold.Offer t p) h.phase e)
busy-as h other u e = as-same other h.phase e

left-as : (h : HoldState) (phase : HoldPhase) (u d : ℕ) → h.phase ≡ phase → LeavesAs h phase (left h phase u d)
left-as h (hold.On t p c) u d e =
    if-as h (hold.On t p c) ((u == t) && (d == c)) (Some (hold_quietly (record h { phase = hold.Away t }))) None
    (record { still = λ n k. absurd (cc k); was = λ n k. absurd (cc k) }) (as-same (hold.On t p c) h.phase e)
left-as h other u d e = as-same other h.phase e

back-as : (h : HoldState) (phase : HoldPhase) (p u c : ℕ) (may : Bool) → h.phase ≡ phase → LeavesAs h phase (asked_back h phase p u c may)
back-as h (hold.On t q d) p u c may e =
    if-as h (hold.On t q d) ((u == t) && nat_lt h.seen c) (Some (refusing h p t c)) None (as-same (hold.On t q d) h.phase e)
    (as-same (hold.On t q d) h.phase e)
back-as h (hold.Away t) p u c may e =
    if-as h (hold.Away t) ((u == t) && nat_lt h.seen c) (if may then Some (granting h p t c) else Some (refusing h p t c)) None
    (if-as h (hold.Away t) may (Some (granting h p t c)) (Some (refusing h p t c)) (record { still = λ n k. absurd (cc k); was = λ n k. absurd (cc k) })
    (as-same (hold.Away t) h.phase e))
    (as-same (hold.Away t) h.phase e)
back-as h other p u c may e = as-same other h.phase e

released-as : (h : HoldState) (phase : HoldPhase) (u : ℕ) → h.phase ≡ phase → LeavesAs h phase (released h phase u)
released-as h (hold.Letting t p) u e =
    if-as h (hold.Letting t p) (u == t) (Some (hold_quietly (record h { phase = hold.Free }))) None
    (record { still = λ n k. absurd (cc k); was = λ n k. absurd (cc k) })
    (as-same (hold.Letting t p) h.phase e)
released-as h other u e = as-same other h.phase e

attended-as : (h : HoldState) (phase : HoldPhase) (p a : ℕ) (may : Bool) → h.phase ≡ phase → LeavesAs h phase (attended h phase p a may)
attended-as h hold.Free p a true e = as-same hold.Free h.phase e
attended-as h hold.Free p a false e = as-same hold.Free h.phase e
attended-as h other p a may e = as-same other h.phase e

-- what a subchannel does with it
abbrev Leaves : SubchannelState → UpStep → Type 0
Leaves s step = IsCalm s step.state

if-leaves : (s : SubchannelState) (b : Bool) (x y : UpStep) → Leaves s x → Leaves s y → Leaves s (if b then x else y)
if-leaves s true x y e f = e
if-leaves s false x y e f = f

if-meets : (s : SubchannelState) (b : Bool) (x y : SignalOutcome) → Leaves s x.step → Leaves s y.step → Leaves s (if b then x else y).step
if-meets s true x y e f = e
if-meets s false x y e f = f

stays : (s : SubchannelState) → IsCalm s s
stays s = calm-same s s refl refl refl refl

-- Accept
beginning-calm : (storage : Contents) (s : SubchannelState) (p t : ℕ) (st : ProgramPosition) (walk : WalkPosition) (r : CommandStart) →
    Leaves s (first_ccw_outcome storage s p t st walk r)
beginning-calm storage s p t st walk (outcome.Begins transfer) =
    let next : SubchannelState = with_program_at_work s st.program (begun_with_room storage transfer).transfer in
    calm-then s next (with_pci next next.begun) (calm-same s next refl refl refl refl) (interrupted-calm next next.begun)
beginning-calm storage s p t st walk outcome.Suspends =
    device_released-calm s (program_suspended s st.program walk st.count) (suspending-calm s st.program walk st.count)
beginning-calm storage s p t st walk (outcome.Stops check) =
    device_released-calm s (with_cause s (cause.FetchFault walk.tried check st.count)) (cause-calm s (cause.FetchFault walk.tried check st.count))

begin-calm : (storage : Contents) (s : SubchannelState) (p t : ℕ) (st : Option ProgramPosition) → Leaves s (begins_at storage s p t st)
begin-calm storage s p t None = stays s
begin-calm storage s p t (Some st) = beginning-calm storage s p t st (first_command storage st.walk).walk (first_command storage st.walk).outcome

begun-calm : (storage : Contents) (s : SubchannelState) (t q : ℕ) (may same : Bool) → s.hold.phase ≡ hold.Offer t q →
    Leaves s (takes_accept storage s (if same then Some (program_begun s.hold t q may) else None))
begun-calm storage s t q may false e = stays s
begun-calm storage s t q true true e =
    let next : SubchannelState =
    record s { hold = record s.hold { phase = hold.On t q 0; seen = 0; first_path = Some q }; pmcw = with_path_used s.pmcw q } in
    calm-then s next (begins_at storage next q t (offered_position s)).state
    (record { cleared = refl; reset = record { still = λ n k. absurd (cc (sym e ∙ k)); was = λ n k. absurd (cc k) }; counts = counts-same s next refl refl })
    (begin-calm storage next q t (offered_position s))
begun-calm storage s t q false true e =
    let next : SubchannelState =
    record s { hold = record s.hold { phase = hold.Letting t q; seen = 0; first_path = Some q }; pmcw = with_path_used s.pmcw q } in
    calm-then s next (halt_performed next)
    (record { cleared = refl; reset = record { still = λ n k. absurd (cc (sym e ∙ k)); was = λ n k. absurd (cc k) }; counts = counts-same s next refl refl })
    (halt_performed-calm next)

accept-calm : (storage : Contents) (s : SubchannelState) (phase : HoldPhase) (u : ℕ) (may : Bool) → s.hold.phase ≡ phase →
    Leaves s (takes_accept storage s (offer_accepted s.hold phase u may))
accept-calm storage s (hold.Offer t q) u may e = begun-calm storage s t q may (u == t) e
accept-calm storage s other u may e = stays s

-- Data
move-calm : (storage : Contents) (s : SubchannelState) (b : Option ActiveProgram) (signal : DataSignal) (load : Load) →
    Leaves s (moves_data storage s b signal load).step
move-calm storage s None signal load = stays s
move-calm storage s (Some b) signal load =
    if-meets s (is_answered b.transfer signal.command signal.sequence) (moves_bytes storage s b signal load) (with_storage storage (signal_ignored s))
    (if-meets s (is_outward b.transfer.code) (with_storage storage (gives_next_chunk storage s b signal (load_length load)))
    (tells_room_after s b signal (chunk_stored storage b.transfer signal.sequence (load_bytes load)))
    (moving-calm s b (next_chunk storage (chunk_absorbed storage b.transfer signal.sequence (load_length load))).transfer)
    (moving-calm s b (with_room (chunk_stored storage b.transfer signal.sequence (load_bytes load)).storage
    (chunk_stored storage b.transfer signal.sequence (load_bytes load)).transfer).transfer))
    (stays s)

-- End
chaining-calm : (storage : Contents) (s : SubchannelState) (b : ActiveProgram) (signal : EndSignal) (walk : WalkPosition) (r : CommandStart) →
    Leaves s (next_ccw_outcome storage s b signal walk r)
chaining-calm storage s b signal walk (outcome.Begins transfer) = moving-calm s b (begun_with_room storage transfer).transfer
chaining-calm storage s b signal walk outcome.Suspends =
    let x : SubchannelState = with_allegiance_after_end s signal in
    let y : SubchannelState = program_suspended x b.program walk (residual b.transfer.moving) in
    device_released-calm s y (calm-then s x y (calm-same s x refl refl refl refl) (suspending-calm x b.program walk (residual b.transfer.moving)))
chaining-calm storage s b signal walk (outcome.Stops check) =
    let x : SubchannelState = with_allegiance_after_end s signal in
    let y : SubchannelState = with_cause x (cause.FetchFault walk.tried check (residual b.transfer.moving)) in
    device_released-calm s y (calm-then s x y (calm-same s x refl refl refl refl) (cause-calm x (cause.FetchFault walk.tried check (residual b.transfer.moving))))

stops-calm : (s : SubchannelState) (b : ActiveProgram) (signal : EndSignal) → Leaves s (concludes s b signal)
stops-calm s b signal =
    let k : IsCalm s (with_cause s (cause.End b signal.status signal.more)) = cause-calm s (cause.End b signal.status signal.more) in
    let x : SubchannelState = with_end_status s b signal in
    let same : IsCalm s x = record { cleared = k.cleared; reset = k.reset; counts = k.counts } in
    if-leaves s (is_last_end signal.status) (device_released x) (signal_taken x) (device_released-calm s x same) same

ends_at_work-calm : (storage : Contents) (s : SubchannelState) (b : Option ActiveProgram) (signal : EndSignal) → Leaves s (ends_at_work storage s b signal)
ends_at_work-calm storage s None signal = stays s
ends_at_work-calm storage s (Some b) signal =
    if-leaves s (signal.command == b.transfer.command) (ends_command storage s b signal) (signal_ignored s)
    (if-leaves s (chains_command s.scsw b signal.status signal.more) (chains_at_device_end storage s (with_first_end b) signal) (concludes s b signal)
    (if-leaves s (has_device_end signal.status)
    (chains_with storage s (with_first_end b) signal (next_command storage (with_first_end b).transfer (has_status_modifier signal.status))) _
    (chaining-calm storage s (with_first_end b) signal (next_command storage (with_first_end b).transfer (has_status_modifier signal.status)).walk
    (next_command storage (with_first_end b).transfer (has_status_modifier signal.status)).outcome)
    (calm-same s _ refl refl refl refl))
    (stops-calm s b signal))
    (stays s)

-- Busy, Leave and Released
hold_outcome-calm : (s : SubchannelState) (step : Option HoldStep) → LeavesAs s.hold s.hold.phase step → Leaves s (hold_outcome s step)
hold_outcome-calm s step k = record { cleared = refl; reset = k; counts = counts-same s (hold_outcome s step).state refl refl }

-- the signals by which no hold is reset, and no reset ends
abbrev pub IsCalmSignal : Up → Type 0
IsCalmSignal (up.Cleared r) = ⊥
IsCalmSignal (up.Notice b) = ⊥
IsCalmSignal x = Unit {0}

pub takes-calm : (returns : Bool) (storage : Contents) (s : SubchannelState) (p : ℕ) (x : Up) → IsCalmSignal x →
    Leaves s (takes_up returns storage s p x).step
takes-calm returns storage s p (up.Accept t) k = accept-calm storage s s.hold.phase t (takes_device s) refl
takes-calm returns storage s p (up.Busy t) k = hold_outcome-calm s (found_busy s.hold s.hold.phase t) (busy-as s.hold s.hold.phase t refl)
takes-calm returns storage s p (up.Leave t c) k = hold_outcome-calm s (left s.hold s.hold.phase t c) (left-as s.hold s.hold.phase t c refl)
takes-calm returns storage s p (up.Back t c) k =
    record {
      cleared = refl;
      reset = back-as s.hold s.hold.phase p t c returns refl;
      counts = counts-same s (takes_up returns storage s p (up.Back t c)).step.state refl refl;
    }
takes-calm returns storage s p (up.Data load t c n seq) k =
    let signal : DataSignal = record { path = p; number = t; connection = c; command = n; sequence = seq } in
    if-meets s (is_connected s.hold.phase p t c) (moves_data storage s s.begun signal load) (with_storage storage (signal_ignored s))
    (move-calm storage s s.begun signal load) (stays s)
takes-calm returns storage s p (up.End t n status more) k =
    let signal : EndSignal = record { path = p; number = t; command = n; status = status; more = more } in
    if-leaves s (is_on s.hold.phase t) (ends_at_work storage s s.begun signal) (signal_ignored s) (ends_at_work-calm storage s s.begun signal) (stays s)
takes-calm returns storage s p (up.Released t) k = hold_outcome-calm s (released s.hold s.hold.phase t) (released-as s.hold s.hold.phase t refl)
takes-calm returns storage s p (up.Cleared r) k = absurd k
takes-calm returns storage s p (up.Notice b) k = absurd k
takes-calm returns storage s p (up.Attn a status) k =
    let step : Option HoldStep = attended s.hold s.hold.phase p a (may_take_attention s) in
    let x : SubchannelState = record s { hold = hold_after s.hold step } in
    let shows : Bool = (outcome_of step).taken && not (status.0 == 0x20) in
    calm-then s x (with_attention x shows) (record { cleared = refl; reset = attended-as s.hold s.hold.phase p a (may_take_attention s) refl; counts = counts-same s x refl refl })
    (attention-calm x shows)
