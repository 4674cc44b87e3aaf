-- Which device status and which subchannel status a status brings.
use Rattle.std.proofs.Common.{◌≡◌, refl, sym, ◌∙◌, ap, subst, ℕ, ◌==◌, ◌&&◌, nat_lt, not, Bool, true, false, Option, None, Some, inl, inr}
use Rattle.std.specs.Prelude.{◌⊎◌, if◌then◌else◌, bit_or}
use Rattle.scsw_irb.specs.declared.scsw.ActivityControl.{ActivityControl}
use Rattle.scsw_irb.specs.declared.scsw.Scsw.{Scsw}
use Rattle.scsw_irb.specs.declared.serials.Serials.{Serials}
use Rattle.scsw_irb.specs.declared.status.DeviceStatus.{DeviceStatus}
use Rattle.scsw_irb.specs.Empty.{no_status}
use Rattle.storage_keys.specs.Storage.{Contents}
use Rattle.chan_model.specs.declared.hold_state.HoldPhase.{HoldPhase}
use Rattle.chan_model.specs.declared.hold_state.HoldPhase.TheVariants as hold
use Rattle.chan_model.specs.declared.hold_state.HoldState.{HoldState}
use Rattle.chan_model.specs.Signals.{Down, Load, Up, load_bytes}
use Rattle.chan_model.specs.declared.signal.OnPath.{OnPath}
use Rattle.chan_model.specs.declared.signal.Up.TheVariants as up
use Rattle.chan_model.specs.HoldTable.{HoldStep, program_begun, offer_accepted, hold_takes, outcome_of, is_connected, is_on, letting_go}
use Rattle.chan_model.specs.Loads.{load_length}
use Rattle.chan_model.specs.ResetCauses.{rests_on}
use Rattle.chan_model.specs.UnitReports.{is_last_end, is_outward, has_device_end}
use Rattle.ccw_walk.specs.declared.check.Check.{Check}
use Rattle.ccw_walk.specs.declared.check.Check.TheVariants.{Program as ProgramCheck, Protection}
use Rattle.ccw_walk.specs.Positions.{WalkPosition}
use Rattle.data_move.specs.Moving.{residual}
use Rattle.data_move.specs.declared.transfer.Beginning.{Beginning}
use Rattle.data_move.specs.declared.transfer.CommandStart.{CommandStart}
use Rattle.data_move.specs.declared.transfer.CommandStart.TheVariants as outcome
use Rattle.data_move.specs.ToDevice.{chunk_absorbed, next_chunk}
use Rattle.data_move.specs.FromDevice.{chunk_stored}
use Rattle.data_move.specs.ChunkNumbers.{is_answered}
use Rattle.data_move.specs.Commands.{first_command, next_command, begun_with_room, with_room}
use Rattle.subchannel_model.specs.declared.cause.StatusCause.{StatusCause}
use Rattle.subchannel_model.specs.declared.cause.StatusCause.TheVariants as cause
use Rattle.subchannel_model.specs.declared.signals.DataSignal.{DataSignal}
use Rattle.subchannel_model.specs.declared.signals.EndSignal.{EndSignal}
use Rattle.subchannel_model.specs.declared.state.ActiveProgram.{ActiveProgram}
use Rattle.subchannel_model.specs.declared.state.Program.{Program}
use Rattle.subchannel_model.specs.declared.state.ProgramPosition.{ProgramPosition}
use Rattle.subchannel_model.specs.declared.state.Subchannel.{Subchannel}
use Rattle.subchannel_model.specs.declared.state.SubchannelState.{SubchannelState}
use Rattle.subchannel_model.specs.declared.state.UpStep.{UpStep}
use Rattle.subchannel_model.specs.declared.status.StatusRow.{StatusRow}
use Rattle.subchannel_model.specs.Causes.{row_of, scsw_before, with_cause, scsw_joined}
use Rattle.subchannel_model.specs.Ends.{has_status_modifier, chains_command, shows_length, last_shown, work_shown}
use Rattle.subchannel_model.specs.Losing.{is_offered_or_held, reset_drawn, reset_with, reset_for, loses_at}
use Rattle.subchannel_model.specs.Programs.{has_any}
use Rattle.subchannel_model.specs.Suspension.{suspended_alone, with_suspended_program, program_suspended}
use Rattle.subchannel_model.specs.End.{chains_with, with_end_status, with_first_end, with_allegiance_after_end, next_ccw_outcome, chains_at_device_end, concludes, ends_command, ends_at_work}
use Rattle.subchannel_model.specs.Status.{check_bits, scsw_made, serials_made, with_joined, no_device_status, no_subchannel_status}
use Rattle.subchannel_model.specs.Taking.{takes_up}
use Rattle.subchannel_model.specs.Notice.{with_known}
use Rattle.subchannel_model.specs.Attention.{with_attention, may_take_attention}
use Rattle.subchannel_model.specs.Outcomes.{SignalOutcome, with_storage, signal_ignored, signal_taken, device_released, hold_outcome}
use Rattle.subchannel_model.specs.Pci.{without_pci, with_pci}
use Rattle.subchannel_model.specs.Accept.{offered_position, takes_device, with_path_used, with_program_at_work, first_ccw_outcome, begins_at, halt_performed, takes_accept}
use Rattle.subchannel_model.specs.Data.{gives_chunk, tells_room_after, moves_bytes, moves_data}
use Rattle.subchannel_model.specs.Command.{with_transfer}
use Rattle.subchannel_model.specs.Cleared.{takes_cleared}
use Rattle.run_laws.specs.StatusBytes.{joined_byte, Brings, is_command, BringsStop, BringsEnd, BringsChain, BringsAnswered, IsSignalBrought}
use Rattle.run_laws.proofs.Shown.Counted.{IsKept, cause-kept}
use Rattle.run_laws.proofs.Shown.Fitting.{cause-activity}

-- no status was made, or one that leaves such a word
abbrev pub Brought : (Scsw → Type 0) → SubchannelState → SubchannelState → Type 0
Brought P s y = (y.serials.made ≡ s.serials.made) ⊎ P y.scsw

-- the same of a signal, with what is sent in answer
abbrev BroughtBy : (Option (OnPath Down) → Scsw → Type 0) → SubchannelState → UpStep → Type 0
BroughtBy P s step = (step.state.serials.made ≡ s.serials.made) ⊎ P step.outcome.sent step.state.scsw

pub brought-if : (P Q : Scsw → Type 0) (s y : SubchannelState) → ((x : Scsw) → P x → Q x) → Brought P s y → Brought Q s y
brought-if P Q s y f c = elim c [ inl k ↦ inl k | inr k ↦ inr (f y.scsw k) ]

if-brought : (P : Scsw → Type 0) (s : SubchannelState) (b : Bool) (x y : SubchannelState) → Brought P s x → Brought P s y → Brought P s (if b then x else y)
if-brought P s true x y e f = e
if-brought P s false x y e f = f

if-step : (P : Option (OnPath Down) → Scsw → Type 0) (s : SubchannelState) (b : Bool) (y z : UpStep) → BroughtBy P s y → BroughtBy P s z → BroughtBy P s (if b then y else z)
if-step P s true y z k l = k
if-step P s false y z k l = l

if-met : (P : Option (OnPath Down) → Scsw → Type 0) (s : SubchannelState) (b : Bool) (y z : SignalOutcome) → BroughtBy P s y.step → BroughtBy P s z.step → BroughtBy P s (if b then y else z).step
if-met P s true y z k l = k
if-met P s false y z k l = l

-- a cause
joined-brings : (joins : Scsw) (shown : StatusRow) (pending : Bool) →
    let x : Scsw = if pending then with_joined joins joins.status joins.device_status joins.subchannel_status shown else with_joined joins no_status no_device_status no_subchannel_status shown in
    (x.device_status.0 ≡ joined_byte pending joins.device_status.0 shown.device.0) × (x.subchannel_status.0 ≡ joined_byte pending joins.subchannel_status.0 shown.subchannel.0)
joined-brings joins shown true = (refl, refl)
joined-brings joins shown false = (refl, refl)

status-brings : (e f : Bool) (x : Serials) (scsw joins : Scsw) (shown : StatusRow) → e ≡ f →
    ((serials_made e x).made ≡ x.made) ⊎ Brings joins (scsw_made e (scsw_joined f scsw joins) shown) shown.device.0 shown.subchannel.0
status-brings true true x scsw joins shown e =
    inr (joined-brings joins shown joins.status.pending)
status-brings false false x scsw joins shown e = inl refl
status-brings true false x scsw joins shown e = absurd (cc e)
status-brings false true x scsw joins shown e = absurd (cc e)

pub cause-brought : (s : SubchannelState) (c : StatusCause) →
    Brought (λ x. Brings (scsw_before s.scsw c) x (row_of s c).shown.device.0 (row_of s c).shown.subchannel.0) s (with_cause s c)
cause-brought s c =
    let left : SubchannelState = (row_of s c).left in
    let kept : IsKept s left = cause-kept s c in
    elim (status-brings left.pmcw.enabled s.pmcw.enabled left.serials s.scsw (scsw_before s.scsw c) (row_of s c).shown kept.0) [
      | inl k ↦ inl (k ∙ ap (λ (x : Serials). x.made) kept.1)
      | inr k ↦ inr k
    ]

-- an interruption by the program, a suspension, a halt, a check
interrupted-brought : (s : SubchannelState) (b : Option ActiveProgram) → Brought (λ x. Brings s.scsw x 0 0x80) s (with_pci s b)
interrupted-brought s None = inl refl
interrupted-brought s (Some b) =
    let x : SubchannelState = record s { begun = Some (without_pci b) } in
    let c : StatusCause = cause.Pci b.transfer.walk.tried (residual b.transfer.moving) in
    if-brought (λ x. Brings s.scsw x 0 0x80) s b.transfer.pci_pending (with_cause x c) s (cause-brought x c) (inl refl)

abbrev IsSuspended : Scsw → Scsw → Type 0
IsSuspended old x = Brings old x 0 0 × (x.activity.suspended ≡ true)

suspending-brought : (s : SubchannelState) (program : Program) (walk : WalkPosition) (count : ℕ) → Brought (IsSuspended s.scsw) s (program_suspended s program walk count)
suspending-brought s program walk count =
    let x : SubchannelState = with_suspended_program s program walk count in
    let c : StatusCause = cause.Suspension walk.tried count in
    let shows : Brought (IsSuspended s.scsw) s (with_cause x c) =
    elim (cause-brought x c) [ inl k ↦ inl k | inr k ↦ inr (k, ap (λ (a : ActivityControl). a.suspended) (cause-activity x c)) ] in
    if-brought (IsSuspended s.scsw) s program.orb.suppress_suspended (record x { scsw = suspended_alone s.scsw }) (with_cause x c) (inl refl) shows

halt_performed-brought : (s : SubchannelState) → Brought (λ x. Brings s.scsw x 0 0) s (halt_performed s)
halt_performed-brought s = if-brought (λ x. Brings s.scsw x 0 0) s s.scsw.activity.halt_pending (with_cause s cause.HaltDone) s (cause-brought s cause.HaltDone) (inl refl)

abbrev IsChecked : Scsw → Scsw → Type 0
IsChecked old x = Brings old x 0 0x20 ⊎ Brings old x 0 0x10

fault-brought : (s : SubchannelState) (tried : ℕ) (check : Check) (count : ℕ) → Brought (IsChecked s.scsw) s (with_cause s (cause.FetchFault tried check count))
fault-brought s tried ProgramCheck count = elim (cause-brought s (cause.FetchFault tried ProgramCheck count)) [ inl k ↦ inl k | inr k ↦ inr (inl k) ]
fault-brought s tried Protection count = elim (cause-brought s (cause.FetchFault tried Protection count)) [ inl k ↦ inl k | inr k ↦ inr (inr k) ]

-- what lets the device go sends no command
not-command : (h : HoldState) (phase : HoldPhase) → is_command (outcome_of (letting_go h phase)).sent ≡ false
not-command h hold.Free = refl
not-command h other = refl

abbrev Answered : SubchannelState → (Scsw → Type 0) → Option (OnPath Down) → Scsw → Type 0
Answered s P sent x = BringsAnswered (is_command sent) s.scsw x (P x)

let-brought : (s y : SubchannelState) (P : Scsw → Type 0) → Brought P s y → BroughtBy (Answered s P) s (device_released y)
let-brought s y P c =
    elim c [
      | inl k ↦ inl k
      | inr k ↦ inr (subst (λ (b : Bool). BringsAnswered b s.scsw y.scsw (P y.scsw)) (sym (not-command y.hold y.hold.phase)) k)
    ]

-- Accept
stop-suspended : (old x : Scsw) → IsSuspended old x → BringsStop old x
stop-suspended old x k = inl k.0

stop-checked : (old x : Scsw) → IsChecked old x → BringsStop old x
stop-checked old x k = inr k

abbrev Stopped : SubchannelState → Option (OnPath Down) → Scsw → Type 0
Stopped s sent x = Answered s (BringsStop s.scsw) sent x

beginning-brought : (storage : Contents) (s : SubchannelState) (p t : ℕ) (st : ProgramPosition) (walk : WalkPosition) (r : CommandStart) → BroughtBy (Stopped s) s (first_ccw_outcome storage s p t st walk r)
beginning-brought storage s p t st walk (outcome.Begins transfer) =
    let next : SubchannelState = with_program_at_work s st.program (begun_with_room storage transfer).transfer in interrupted-brought next next.begun
beginning-brought storage s p t st walk outcome.Suspends =
    let y : SubchannelState = program_suspended s st.program walk st.count in
    let-brought s y (BringsStop s.scsw) (brought-if (IsSuspended s.scsw) (BringsStop s.scsw) s y (stop-suspended s.scsw) (suspending-brought s st.program walk st.count))
beginning-brought storage s p t st walk (outcome.Stops check) =
    let y : SubchannelState = with_cause s (cause.FetchFault walk.tried check st.count) in
    let-brought s y (BringsStop s.scsw) (brought-if (IsChecked s.scsw) (BringsStop s.scsw) s y (stop-checked s.scsw) (fault-brought s walk.tried check st.count))

standing-brought : (storage : Contents) (s : SubchannelState) (p t : ℕ) (o : Option ProgramPosition) → BroughtBy (Stopped s) s (begins_at storage s p t o)
standing-brought storage s p t None = inl refl
standing-brought storage s p t (Some st) = beginning-brought storage s p t st (first_command storage st.walk).walk (first_command storage st.walk).outcome

abbrev phased : SubchannelState → HoldState → HoldPhase → SubchannelState
phased s h phase = record s { hold = record h { phase = phase } }

begun-brought : (storage : Contents) (s : SubchannelState) (h : HoldState) (t q : ℕ) (may same : Bool) →
    BroughtBy (Stopped s) s (takes_accept storage (phased s h (hold.Offer t q)) (if same then Some (program_begun (record h { phase = hold.Offer t q }) t q may) else None))
begun-brought storage s h t q true true =
    standing-brought storage (record s { hold = record h { phase = hold.On t q 0; seen = 0; first_path = Some q }; pmcw = with_path_used s.pmcw q }) q t (offered_position s)
begun-brought storage s h t q false true =
    let y : SubchannelState = record s { hold = record h { phase = hold.Letting t q; seen = 0; first_path = Some q }; pmcw = with_path_used s.pmcw q } in
    elim (halt_performed-brought y) [ inl k ↦ inl k | inr k ↦ inr (inl k) ]
begun-brought storage s h t q may false = inl refl

accept-brought : (storage : Contents) (s : SubchannelState) (h : HoldState) (phase : HoldPhase) (u : ℕ) (may : Bool) →
    BroughtBy (Stopped s) s (takes_accept storage (phased s h phase) (offer_accepted (record h { phase = phase }) phase u may))
accept-brought storage s h (hold.Offer t q) u may = begun-brought storage s h t q may (u == t)
accept-brought storage s h other u may = inl refl

-- Data
data-brought : (storage : Contents) (s : SubchannelState) (b : Option ActiveProgram) (signal : DataSignal) (load : Load) →
    BroughtBy (λ sent x. Brings s.scsw x 0 0x80) s (moves_data storage s b signal load).step
data-brought storage s None signal load = inl refl
data-brought storage s (Some b) signal load =
    let P : Option (OnPath Down) → Scsw → Type 0 = λ sent x. Brings s.scsw x 0 0x80 in
    let given = next_chunk storage (chunk_absorbed storage b.transfer signal.sequence (load_length load)) in
    let x = chunk_stored storage b.transfer signal.sequence (load_bytes load) in
    let room = with_room x.storage x.transfer in
    if-met P s (is_answered b.transfer signal.command signal.sequence) (moves_bytes storage s b signal load) (with_storage storage (signal_ignored s))
    (if-met P s (is_outward b.transfer.code) (with_storage storage (gives_chunk s b signal given)) (tells_room_after s b signal x)
    (interrupted-brought (with_transfer s b given.transfer) (with_transfer s b given.transfer).begun)
    (interrupted-brought (with_transfer s b room.transfer) (with_transfer s b room.transfer).begun))
    (inl refl)

-- End
abbrev IsEnded : SubchannelState → DeviceStatus → Scsw → Type 0
IsEnded s status x = BringsEnd s.scsw status.0 x ⊎ BringsChain s.scsw x

abbrev Ended : SubchannelState → DeviceStatus → Option (OnPath Down) → Scsw → Type 0
Ended s status sent x = Answered s (IsEnded s status) sent x

end-suspended : (s : SubchannelState) (status : DeviceStatus) (x : Scsw) → IsSuspended s.scsw x → IsEnded s status x
end-suspended s status x k = inr (inl k)

end-checked : (s : SubchannelState) (status : DeviceStatus) (x : Scsw) → IsChecked s.scsw x → IsEnded s status x
end-checked s status x k = inr (inr k)

chaining-brought : (storage : Contents) (s : SubchannelState) (b : ActiveProgram) (x : EndSignal) (walk : WalkPosition) (r : CommandStart) → BroughtBy (Ended s x.status) s (next_ccw_outcome storage s b x walk r)
chaining-brought storage s b x walk (outcome.Begins transfer) =
    let next : SubchannelState = with_transfer s b (begun_with_room storage transfer).transfer in interrupted-brought next next.begun
chaining-brought storage s b x walk outcome.Suspends =
    let y : SubchannelState = program_suspended (with_allegiance_after_end s x) b.program walk (residual b.transfer.moving) in
    let-brought s y (IsEnded s x.status)
    (brought-if (IsSuspended s.scsw) (IsEnded s x.status) s y (end-suspended s x.status) (suspending-brought (with_allegiance_after_end s x) b.program walk (residual b.transfer.moving)))
chaining-brought storage s b x walk (outcome.Stops check) =
    let y : SubchannelState = with_cause (with_allegiance_after_end s x) (cause.FetchFault walk.tried check (residual b.transfer.moving)) in
    let-brought s y (IsEnded s x.status)
    (brought-if (IsChecked s.scsw) (IsEnded s x.status) s y (end-checked s x.status) (fault-brought (with_allegiance_after_end s x) walk.tried check (residual b.transfer.moving)))

goes-brought : (storage : Contents) (s : SubchannelState) (b : ActiveProgram) (x : EndSignal) → BroughtBy (Ended s x.status) s (chains_at_device_end storage s b x)
goes-brought storage s b x =
    let next : Beginning = next_command storage b.transfer (has_status_modifier x.status) in
    if-step (Ended s x.status) s (has_device_end x.status) (chains_with storage s b x next) _ (chaining-brought storage s b x next.walk next.outcome) (inl refl)

-- what an End after which nothing is chained shows
end-bytes : (scsw : Scsw) (b : ActiveProgram) (w : Option Program) (status : DeviceStatus) (more last : Bool) →
    let shown : StatusRow = if last then last_shown scsw b w status more else work_shown scsw b status more false in
    (shown.device.0 ≡ status.0) × (shown.subchannel.0 ≡ bit_or (if shows_length scsw b status more then 0x40 else 0) (check_bits b.transfer.fault))
end-bytes scsw b None status more true = (refl, refl)
end-bytes scsw b (Some w) status more true = (refl, refl)
end-bytes scsw b w status more false = (refl, refl)

a-check : (fault : Option Check) → (check_bits fault ≡ 0) ⊎ ((check_bits fault ≡ 0x20) ⊎ (check_bits fault ≡ 0x10))
a-check None = inl refl
a-check (Some ProgramCheck) = inr (inl refl)
a-check (Some Protection) = inr (inr refl)

stops-brought : (s : SubchannelState) (b : ActiveProgram) (x : EndSignal) → BroughtBy (Ended s x.status) s (concludes s b x)
stops-brought s b x =
    let y : SubchannelState = with_end_status s b x in
    let c : StatusCause = cause.End b x.status x.more in
    let bytes = end-bytes s.scsw b s.waiting x.status x.more (is_last_end x.status) in
    let ends : Brought (IsEnded s x.status) s y =
    elim (cause-brought s c) [
      | inl k ↦ inl k
      | inr k ↦ inr (inl (
        shows_length s.scsw b x.status x.more,
        check_bits b.transfer.fault,
        a-check b.transfer.fault,
        (
          k.0 ∙ ap (λ (n : ℕ). joined_byte s.scsw.status.pending s.scsw.device_status.0 n) bytes.0,
          k.1 ∙ ap (λ (n : ℕ). joined_byte s.scsw.status.pending s.scsw.subchannel_status.0 n) bytes.1,
        ),
      ))
    ] in
    if-step (Ended s x.status) s (is_last_end x.status) (device_released y) (signal_taken y) (let-brought s y (IsEnded s x.status) ends) ends

end-brought : (storage : Contents) (s : SubchannelState) (o : Option ActiveProgram) (x : EndSignal) → BroughtBy (Ended s x.status) s (ends_at_work storage s o x)
end-brought storage s None x = inl refl
end-brought storage s (Some b) x =
    if-step (Ended s x.status) s (x.command == b.transfer.command) (ends_command storage s b x) (signal_ignored s)
    (if-step (Ended s x.status) s (chains_command s.scsw b x.status x.more) (chains_at_device_end storage s (with_first_end b) x) (concludes s b x) (goes-brought storage s (with_first_end b) x) (stops-brought s b x))
    (inl refl)

-- Cleared, Notice, Attn
abbrev pub IsZero : Scsw → Type 0
IsZero x = (x.device_status.0 ≡ 0) × (x.subchannel_status.0 ≡ 0)

pub clear-brought : (s : SubchannelState) → Brought IsZero s (with_cause s cause.ClearDone)
clear-brought s = elim (cause-brought s cause.ClearDone) [ inl k ↦ inl k | inr k ↦ inr k ]

cleared-brought : (s : SubchannelState) (step : Option HoldStep) → Brought IsZero s (takes_cleared s step).state
cleared-brought s None = inl refl
cleared-brought s (Some step) =
    let y : SubchannelState = record s { hold = step.state } in
    if-brought IsZero s s.scsw.activity.clear_pending (with_cause y cause.ClearDone) y (clear-brought y) (inl refl)

reset-brought : (s : SubchannelState) (shows : Bool) → Brought (λ x. Brings s.scsw x 0 0x02) s (reset_with s shows)
reset-brought s true = cause-brought (reset_drawn s) cause.InterfaceControlCheck
reset-brought s false = inl refl

reset_for-brought : (s : SubchannelState) → Brought (λ x. Brings s.scsw x 0 0x02) s (reset_for s)
reset_for-brought s = reset-brought s (is_offered_or_held s.hold.phase && has_any s.waiting s.begun s.suspended)

pub loses-brought : (o : Option ℕ) (sub : Subchannel) → Brought (λ x. Brings sub.state.scsw x 0 0x02) sub.state (loses_at o sub).state
loses-brought None sub = inl refl
loses-brought (Some p) sub =
    if-brought (λ x. Brings sub.state.scsw x 0 0x02) sub.state (rests_on sub.state.hold p) (reset_for sub.state) sub.state (reset_for-brought sub.state) (inl refl)

notice-brought : (s : SubchannelState) (b : ℕ) (more : Bool) → Brought (λ x. Brings s.scsw x 0 0x02) s (if more then signal_taken (reset_for (with_known s b)) else signal_ignored s).state
notice-brought s b true = reset_for-brought (with_known s b)
notice-brought s b false = inl refl

attention-brought : (s : SubchannelState) (shows : Bool) → Brought (λ x. Brings s.scsw x 0x80 0) s (with_attention s shows)
attention-brought s true = cause-brought s cause.Attention
attention-brought s false = inl refl

-- each signal
pub takes-brought : (returns : Bool) (storage : Contents) (s : SubchannelState) (p : ℕ) (x : Up) →
    BroughtBy (λ sent y. IsSignalBrought x sent s.scsw y) s (takes_up returns storage s p x).step
takes-brought returns storage s p (up.Accept t) = accept-brought storage s s.hold s.hold.phase t (takes_device s)
takes-brought returns storage s p (up.Busy t) = inl refl
takes-brought returns storage s p (up.Leave t c) = inl refl
takes-brought returns storage s p (up.Back t c) = inl refl
takes-brought returns storage s p (up.Data load t c n q) =
    let signal : DataSignal = record { path = p; number = t; connection = c; command = n; sequence = q } in
    if-met (λ sent y. Brings s.scsw y 0 0x80) s (is_connected s.hold.phase p t c) (moves_data storage s s.begun signal load) (with_storage storage (signal_ignored s)) (data-brought storage s s.begun signal load) (inl refl)
takes-brought returns storage s p (up.End t n status more) =
    let x : EndSignal = record { path = p; number = t; command = n; status = status; more = more } in
    if-step (Ended s status) s (is_on s.hold.phase t) (ends_at_work storage s s.begun x) (signal_ignored s) (end-brought storage s s.begun x) (inl refl)
takes-brought returns storage s p (up.Released t) = inl refl
takes-brought returns storage s p (up.Cleared r) = cleared-brought s (hold_takes s.hold p (up.Cleared r) false)
takes-brought returns storage s p (up.Notice b) = notice-brought s b (nat_lt s.hold.known_restarts b)
takes-brought returns storage s p (up.Attn a status) =
    let step : Option HoldStep = hold_takes s.hold p (up.Attn a status) (may_take_attention s) in
    attention-brought (hold_outcome s step).state ((outcome_of step).taken && not (status.0 == 0x20))
