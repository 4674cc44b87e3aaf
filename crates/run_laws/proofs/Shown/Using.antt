-- What each step leaves of the path that a subchannel used last.
use Rattle.std.proofs.Common.{◌≡◌, refl, sym, ◌∙◌, ap, ℕ, ◌==◌, ◌&&◌, nat_lt, Bool, true, false, not, Option, None, Some}
use Rattle.std.specs.Prelude.{is_some, if◌then◌else◌}
use Rattle.std.proofs.lemmas.Bool.{and_parts}
use Rattle.storage_keys.specs.Storage.{Contents}
use Rattle.ccw_walk.specs.Positions.{WalkPosition}
use Rattle.chan_events.specs.declared.reply.Reply.TheVariants as reply
use Rattle.chan_model.specs.declared.hold_state.HoldPhase.{HoldPhase}
use Rattle.chan_model.specs.declared.hold_state.HoldPhase.TheVariants as hold
use Rattle.chan_model.specs.declared.hold_state.HoldState.{HoldState}
use Rattle.chan_model.specs.Signals.{Load, Up, load_bytes}
use Rattle.chan_model.specs.declared.signal.Up.TheVariants as up
use Rattle.chan_model.specs.HoldTable.{HoldStep, program_begun, offer_accepted, asked_back, letting_go, hold_takes, outcome_of, is_connected, is_on}
use Rattle.chan_model.specs.Loads.{load_length}
use Rattle.chan_model.specs.ResetCauses.{rests_on}
use Rattle.chan_model.specs.UnitReports.{is_last_end, is_outward, has_device_end}
use Rattle.data_move.specs.Moving.{residual}
use Rattle.data_move.specs.declared.transfer.Beginning.{Beginning}
use Rattle.data_move.specs.declared.transfer.CommandStart.{CommandStart}
use Rattle.data_move.specs.declared.transfer.CommandStart.TheVariants as outcome
use Rattle.data_move.specs.Commands.{first_command, next_command, begun_with_room, with_room}
use Rattle.data_move.specs.ToDevice.{chunk_absorbed, next_chunk}
use Rattle.data_move.specs.FromDevice.{chunk_stored}
use Rattle.data_move.specs.ChunkNumbers.{is_answered}
use Rattle.subchannel_model.specs.declared.cause.StatusCause.{StatusCause}
use Rattle.subchannel_model.specs.declared.cause.StatusCause.TheVariants as cause
use Rattle.subchannel_model.specs.declared.signals.DataSignal.{DataSignal}
use Rattle.subchannel_model.specs.declared.signals.EndSignal.{EndSignal}
use Rattle.subchannel_model.specs.declared.state.ActiveProgram.{ActiveProgram}
use Rattle.subchannel_model.specs.declared.state.Chosen.{Chosen}
use Rattle.subchannel_model.specs.declared.state.Chosen.TheVariants.{FindsNoPath}
use Rattle.subchannel_model.specs.declared.state.Program.{Program}
use Rattle.subchannel_model.specs.declared.state.ProgramPosition.{ProgramPosition}
use Rattle.subchannel_model.specs.declared.state.Subchannel.{Subchannel}
use Rattle.subchannel_model.specs.declared.state.SubchannelState.{SubchannelState}
use Rattle.subchannel_model.specs.declared.state.UpStep.{UpStep}
use Rattle.subchannel_model.specs.Causes.{without_begun, with_cause}
use Rattle.subchannel_model.specs.Ends.{has_status_modifier, chains_command}
use Rattle.subchannel_model.specs.Losing.{is_offered_or_held, reset_with, reset_for, loses_at, shows_at}
use Rattle.subchannel_model.specs.Programs.{has_any}
use Rattle.subchannel_model.specs.Taking.{takes_up}
use Rattle.subchannel_model.specs.Notice.{with_known}
use Rattle.subchannel_model.specs.Attention.{with_attention, may_take_attention}
use Rattle.subchannel_model.specs.Suspension.{suspended_alone, with_suspended_program, program_suspended}
use Rattle.subchannel_model.specs.End.{chains_with, with_end_status, with_first_end, with_allegiance_after_end, next_ccw_outcome, chains_at_device_end, concludes, ends_command, ends_at_work}
use Rattle.subchannel_model.specs.Outcomes.{SignalOutcome, with_storage, signal_ignored, signal_taken, device_released, hold_outcome}
use Rattle.subchannel_model.specs.Pci.{with_pci}
use Rattle.subchannel_model.specs.Accept.{offered_position, takes_device, with_path_used, with_program_at_work, first_ccw_outcome, begins_at, halt_performed, takes_accept}
use Rattle.subchannel_model.specs.Cleared.{clear_performed, takes_cleared}
use Rattle.subchannel_model.specs.Back.{takes_back}
use Rattle.subchannel_model.specs.Data.{gives_chunk, tells_room_after, moves_bytes, moves_data}
use Rattle.subchannel_model.specs.Command.{with_transfer}
use Rattle.run_laws.specs.Paths.{used_met}
use Rattle.run_laws.proofs.Shown.Turned.{state_chosen}
use Rattle.subchannel_model.specs.declared.state.PmcwState.{PmcwState}
use Rattle.run_laws.proofs.Machine.Beside.{IsBeside, cause-beside, interrupted-beside, suspending-beside, halt_performed-beside, clear_performed-beside}

-- it stays
abbrev pub IsSame : SubchannelState → SubchannelState → Type 0
IsSame s x = x.pmcw.last_used ≡ s.pmcw.last_used

pub if-same : (s : SubchannelState) (b : Bool) (x y : SubchannelState) → IsSame s x → IsSame s y → IsSame s (if b then x else y)
if-same s true x y e f = e
if-same s false x y e f = f

same-used : (s x : SubchannelState) → IsBeside s x → IsSame s x
same-used s x k = ap (λ (p : PmcwState). p.last_used) k.pmcw

pub cause-same : (s : SubchannelState) (c : StatusCause) → IsSame s (with_cause s c)
cause-same s c = same-used s (with_cause s c) (cause-beside s c)

interrupted-same : (s : SubchannelState) (b : Option ActiveProgram) → IsSame s (with_pci s b)
interrupted-same s b = same-used s (with_pci s b) (interrupted-beside s b)

suspending-same : (s : SubchannelState) (program : Program) (walk : WalkPosition) (count : ℕ) → IsSame s (program_suspended s program walk count)
suspending-same s program walk count = same-used s (program_suspended s program walk count) (suspending-beside s program walk count)

halt_performed-same : (s : SubchannelState) → IsSame s (halt_performed s)
halt_performed-same s = same-used s (halt_performed s) (halt_performed-beside s)

clear_performed-same : (s : SubchannelState) → IsSame s (clear_performed s)
clear_performed-same s = same-used s (clear_performed s) (clear_performed-beside s)

-- a path that is lost
reset-same : (s : SubchannelState) (shows : Bool) → IsSame s (reset_with s shows)
reset-same s true = refl
reset-same s false = refl

reset_for-same : (s : SubchannelState) → IsSame s (reset_for s)
reset_for-same s = reset-same s (is_offered_or_held s.hold.phase && has_any s.waiting s.begun s.suspended)

pub loses-same : (o : Option ℕ) (sub : Subchannel) → IsSame sub.state (loses_at o sub).state
loses-same None sub = refl
loses-same (Some p) sub = if-same sub.state (rests_on sub.state.hold p) (reset_for sub.state) sub.state (reset_for-same sub.state) refl

pub shows-same : (o : Option ℕ) (up : Bool) (sub : Subchannel) → IsSame sub.state (shows_at o up sub).state
shows-same None up sub = refl
shows-same (Some p) up sub = refl

-- a choice
pub chosen-same : (s : SubchannelState) (c : Chosen) → IsSame s (state_chosen s c)
chosen-same s FindsNoPath = cause-same s cause.NoPath
chosen-same s other = refl

-- a signal that comes up
abbrev Uses : Up → SubchannelState → UpStep → Type 0
Uses x s step = step.state.pmcw.last_used ≡ used_met (reply.Up x step.outcome.taken step.outcome.sent) s.pmcw.last_used

if-uses : (x : Up) (s : SubchannelState) (b : Bool) (y z : UpStep) → Uses x s y → Uses x s z → Uses x s (if b then y else z)
if-uses x s true y z k l = k
if-uses x s false y z k l = l

if-met : (x : Up) (s : SubchannelState) (b : Bool) (y z : SignalOutcome) → Uses x s y.step → Uses x s z.step → Uses x s (if b then y else z).step
if-met x s true y z k l = k
if-met x s false y z k l = l

-- Accept: it is answered by the path of its offer
device_released-uses : (y : SubchannelState) (u t q c : ℕ) (used : Option ℕ) → y.hold.phase ≡ hold.On t q c → y.pmcw.last_used ≡ Some q →
    (device_released y).state.pmcw.last_used ≡ used_met (reply.Up (up.Accept u) true (device_released y).outcome.sent) used
device_released-uses y u t q c used phase is =
    is ∙ sym (ap (λ (x : HoldPhase). used_met (reply.Up (up.Accept u) true (outcome_of (letting_go y.hold x)).sent) used) phase)

suspending-phase : (s : SubchannelState) (program : Program) (walk : WalkPosition) (count : ℕ) (quiet : Bool) →
    (if quiet then record (with_suspended_program s program walk count) { scsw = suspended_alone s.scsw } else with_cause (with_suspended_program s program walk count) (cause.Suspension walk.tried count)).hold.phase ≡ s.hold.phase
suspending-phase s program walk count true = refl
suspending-phase s program walk count false = refl

faulted-phase : (s : SubchannelState) (b : Option ActiveProgram) → (without_begun b s).hold.phase ≡ s.hold.phase
faulted-phase s None = refl
faulted-phase s (Some b) = refl

beginning-uses : (storage : Contents) (s : SubchannelState) (u q t : ℕ) (used : Option ℕ) (st : ProgramPosition) (walk : WalkPosition) (r : CommandStart) → s.hold.phase ≡ hold.On t q 0 → s.pmcw.last_used ≡ Some q →
    let step : UpStep = first_ccw_outcome storage s q t st walk r in step.state.pmcw.last_used ≡ used_met (reply.Up (up.Accept u) step.outcome.taken step.outcome.sent) used
beginning-uses storage s u q t used st walk (outcome.Begins transfer) phase is =
    let next : SubchannelState = with_program_at_work s st.program (begun_with_room storage transfer).transfer in interrupted-same next next.begun ∙ is
beginning-uses storage s u q t used st walk outcome.Suspends phase is =
    device_released-uses (program_suspended s st.program walk st.count) u t q 0 used (suspending-phase s st.program walk st.count st.program.orb.suppress_suspended ∙ phase)
    (suspending-same s st.program walk st.count ∙ is)
beginning-uses storage s u q t used st walk (outcome.Stops check) phase is =
    let c : StatusCause = cause.FetchFault walk.tried check st.count in
    device_released-uses (with_cause s c) u t q 0 used (faulted-phase s s.begun ∙ phase) (cause-same s c ∙ is)

standing-uses : (storage : Contents) (s : SubchannelState) (u q t : ℕ) (used : Option ℕ) (o : Option ProgramPosition) → is_some o ≡ true → s.hold.phase ≡ hold.On t q 0 → s.pmcw.last_used ≡ Some q →
    let step : UpStep = begins_at storage s q t o in step.state.pmcw.last_used ≡ used_met (reply.Up (up.Accept u) step.outcome.taken step.outcome.sent) used
standing-uses storage s u q t used None there phase is = absurd (cc there)
standing-uses storage s u q t used (Some st) there phase is =
    beginning-uses storage s u q t used st (first_command storage st.walk).walk (first_command storage st.walk).outcome phase is

abbrev phased : SubchannelState → HoldState → HoldPhase → SubchannelState
phased s h phase = record s { hold = record h { phase = phase } }

begun-uses : (storage : Contents) (s : SubchannelState) (h : HoldState) (t q u : ℕ) (may same : Bool) → (may ≡ true → is_some (offered_position s) ≡ true) →
    Uses (up.Accept u) s (takes_accept storage (phased s h (hold.Offer t q)) (if same then Some (program_begun (record h { phase = hold.Offer t q }) t q may) else None))
begun-uses storage s h t q u true true there =
    standing-uses storage (record s { hold = record h { phase = hold.On t q 0; seen = 0; first_path = Some q }; pmcw = with_path_used s.pmcw q }) u q t s.pmcw.last_used (offered_position s) (there refl) refl refl
begun-uses storage s h t q u false true there = halt_performed-same (record s { hold = record h { phase = hold.Letting t q; seen = 0; first_path = Some q }; pmcw = with_path_used s.pmcw q })
begun-uses storage s h t q u may false there = refl

accept-uses : (storage : Contents) (s : SubchannelState) (h : HoldState) (phase : HoldPhase) (u : ℕ) (may : Bool) → (may ≡ true → is_some (offered_position s) ≡ true) →
    Uses (up.Accept u) s (takes_accept storage (phased s h phase) (offer_accepted (record h { phase = phase }) phase u may))
accept-uses storage s h (hold.Offer t q) u may there = begun-uses storage s h t q u may (u == t) there
accept-uses storage s h other u may there = refl

-- Back: the path of a Grant
back-on-uses : (s : SubchannelState) (h : HoldState) (p t c : ℕ) (b may : Bool) →
    Uses (up.Back t c) s (takes_back s p (if b then (if may then Some (Rattle.chan_model.specs.HoldTable.granting h p t c) else Some (Rattle.chan_model.specs.HoldTable.refusing h p t c)) else None))
back-on-uses s h p t c true true = refl
back-on-uses s h p t c true false = refl
back-on-uses s h p t c false may = refl

refused-uses : (s : SubchannelState) (h : HoldState) (p t c : ℕ) (b : Bool) → Uses (up.Back t c) s (takes_back s p (if b then Some (Rattle.chan_model.specs.HoldTable.refusing h p t c) else None))
refused-uses s h p t c true = refl
refused-uses s h p t c false = refl

back-uses : (s : SubchannelState) (h : HoldState) (phase : HoldPhase) (p t c : ℕ) (may : Bool) → Uses (up.Back t c) s (takes_back s p (asked_back h phase p t c may))
back-uses s h (hold.On u q d) p t c may = refused-uses s h p u c ((t == u) && nat_lt h.seen c)
back-uses s h (hold.Away u) p t c may = back-on-uses s h p u c ((t == u) && nat_lt h.seen c) may
back-uses s h other p t c may = refl

-- Data
data-uses : (storage : Contents) (s : SubchannelState) (b : Option ActiveProgram) (p t c n q : ℕ) (load : Load) →
    Uses (up.Data load t c n q) s (moves_data storage s b (record { path = p; number = t; connection = c; command = n; sequence = q }) load).step
data-uses storage s None p t c n q load = refl
data-uses storage s (Some b) p t c n q load =
    let signal : DataSignal = record { path = p; number = t; connection = c; command = n; sequence = q } in
    let given = next_chunk storage (chunk_absorbed storage b.transfer q (load_length load)) in
    let x = chunk_stored storage b.transfer q (load_bytes load) in
    let room = with_room x.storage x.transfer in
    if-met (up.Data load t c n q) s (is_answered b.transfer n q) (moves_bytes storage s b signal load) (with_storage storage (signal_ignored s))
    (if-met (up.Data load t c n q) s (is_outward b.transfer.code) (with_storage storage (gives_chunk s b signal given)) (tells_room_after s b signal x)
    (interrupted-same (with_transfer s b given.transfer) (with_transfer s b given.transfer).begun)
    (interrupted-same (with_transfer s b room.transfer) (with_transfer s b room.transfer).begun))
    refl

-- End
abbrev end_up : EndSignal → Up
end_up x = up.End x.number x.command x.status x.more

chaining-uses : (storage : Contents) (s : SubchannelState) (b : ActiveProgram) (x : EndSignal) (walk : WalkPosition) (r : CommandStart) → Uses (end_up x) s (next_ccw_outcome storage s b x walk r)
chaining-uses storage s b x walk (outcome.Begins transfer) =
    let next : SubchannelState = with_transfer s b (begun_with_room storage transfer).transfer in interrupted-same next next.begun
chaining-uses storage s b x walk outcome.Suspends = suspending-same (with_allegiance_after_end s x) b.program walk (residual b.transfer.moving)
chaining-uses storage s b x walk (outcome.Stops check) = cause-same (with_allegiance_after_end s x) (cause.FetchFault walk.tried check (residual b.transfer.moving))

stops-uses : (s : SubchannelState) (b : ActiveProgram) (x : EndSignal) → Uses (end_up x) s (concludes s b x)
stops-uses s b x =
    let y : SubchannelState = with_end_status s b x in
    let same : IsSame s y = cause-same s (cause.End b x.status x.more) in
    if-uses (end_up x) s (is_last_end x.status) (device_released y) (signal_taken y) same same

end-uses : (storage : Contents) (s : SubchannelState) (b : Option ActiveProgram) (x : EndSignal) → Uses (end_up x) s (ends_at_work storage s b x)
end-uses storage s None x = refl
end-uses storage s (Some b) x =
    let next : Beginning = next_command storage (with_first_end b).transfer (has_status_modifier x.status) in
    if-uses (end_up x) s (x.command == b.transfer.command) (ends_command storage s b x) (signal_ignored s)
    (if-uses (end_up x) s (chains_command s.scsw b x.status x.more) (chains_at_device_end storage s (with_first_end b) x) (concludes s b x)
    (if-uses (end_up x) s (has_device_end x.status) (chains_with storage s (with_first_end b) x next) _ (chaining-uses storage s (with_first_end b) x next.walk next.outcome) refl)
    (stops-uses s b x))
    refl

-- the others
reset-uses : (s : SubchannelState) (step : Option HoldStep) → IsSame s (takes_cleared s step).state
reset-uses s None = refl
reset-uses s (Some step) = clear_performed-same (record s { hold = step.state })

notice-same : (s : SubchannelState) (b : ℕ) (more : Bool) → IsSame s (if more then signal_taken (reset_for (with_known s b)) else signal_ignored s).state
notice-same s b true = reset_for-same (with_known s b)
notice-same s b false = refl

attention-same : (s : SubchannelState) (shows : Bool) → IsSame s (with_attention s shows)
attention-same s shows = if-same s shows (with_cause s cause.Attention) s refl refl

pub takes-uses : (returns : Bool) (storage : Contents) (s : SubchannelState) (p : ℕ) (x : Up) → Uses x s (takes_up returns storage s p x).step
takes-uses returns storage s p (up.Accept t) =
    accept-uses storage s s.hold s.hold.phase t (takes_device s) (λ e. (and_parts (is_some (offered_position s)) (not s.scsw.activity.halt_pending) e).0)
takes-uses returns storage s p (up.Busy t) = refl
takes-uses returns storage s p (up.Leave t c) = refl
takes-uses returns storage s p (up.Back t c) = back-uses s s.hold s.hold.phase p t c returns
takes-uses returns storage s p (up.Data load t c n q) =
    let signal : DataSignal = record { path = p; number = t; connection = c; command = n; sequence = q } in
    if-met (up.Data load t c n q) s (is_connected s.hold.phase p t c) (moves_data storage s s.begun signal load) (with_storage storage (signal_ignored s)) (data-uses storage s s.begun p t c n q load) refl
takes-uses returns storage s p (up.End t n status more) =
    let x : EndSignal = record { path = p; number = t; command = n; status = status; more = more } in
    if-uses (end_up x) s (is_on s.hold.phase t) (ends_at_work storage s s.begun x) (signal_ignored s) (end-uses storage s s.begun x) refl
takes-uses returns storage s p (up.Released t) = refl
takes-uses returns storage s p (up.Cleared r) = reset-uses s (hold_takes s.hold p (up.Cleared r) false)
takes-uses returns storage s p (up.Notice b) = notice-same s b (nat_lt s.hold.known_restarts b)
takes-uses returns storage s p (up.Attn a status) =
    let step : Option HoldStep = hold_takes s.hold p (up.Attn a status) (may_take_attention s) in
    attention-same (hold_outcome s step).state ((outcome_of step).taken && not (status.0 == 0x20))
