-- Which deferred condition code a status brings.
use Rattle.std.proofs.Common.{◌≡◌, refl, sym, ◌∙◌, ap, subst, ℕ, ◌+◌, ◌==◌, ◌&&◌, nat_lt, Bool, true, false, not, Option, None, Some, inl, inr}
use Rattle.std.specs.Prelude.{◌⊎◌, is_some, option_map, unwrap_or, if◌then◌else◌}
use Rattle.std.proofs.lemmas.Bool.{and_parts}
use Rattle.scsw_irb.specs.declared.scsw.DeferredCode.{DeferredCode}
use Rattle.scsw_irb.specs.declared.scsw.DeferredCode.TheVariants as deferred
use Rattle.scsw_irb.specs.declared.scsw.Scsw.{Scsw}
use Rattle.scsw_irb.specs.declared.serials.Serials.{Serials}
use Rattle.scsw_irb.specs.declared.status.DeviceStatus.{DeviceStatus}
use Rattle.scsw_irb.specs.Empty.{no_status}
use Rattle.storage_keys.specs.Storage.{Contents}
use Rattle.ccw_walk.specs.Positions.{WalkPosition}
use Rattle.chan_model.specs.declared.hold_state.HoldPhase.{HoldPhase}
use Rattle.chan_model.specs.declared.hold_state.HoldPhase.TheVariants as hold
use Rattle.chan_model.specs.declared.hold_state.HoldState.{HoldState}
use Rattle.chan_model.specs.Signals.{Load, Up, load_bytes}
use Rattle.chan_model.specs.declared.signal.Up.TheVariants as up
use Rattle.chan_model.specs.HoldTable.{HoldStep, program_begun, offer_accepted, attended, hold_takes, outcome_of, is_connected, is_on}
use Rattle.chan_model.specs.Loads.{load_length}
use Rattle.chan_model.specs.ResetCauses.{rests_on}
use Rattle.chan_model.specs.UnitReports.{is_last_end, is_outward, has_device_end}
use Rattle.data_move.specs.Moving.{residual}
use Rattle.data_move.specs.declared.transfer.Beginning.{Beginning}
use Rattle.data_move.specs.declared.transfer.CommandStart.{CommandStart}
use Rattle.data_move.specs.declared.transfer.CommandStart.TheVariants as outcome
use Rattle.data_move.specs.Commands.{first_command, next_command, begun_with_room, with_room}
use Rattle.data_move.specs.ToDevice.{chunk_absorbed, next_chunk}
use Rattle.data_move.specs.FromDevice.{chunk_stored}
use Rattle.data_move.specs.ChunkNumbers.{is_answered}
use Rattle.subchannel_model.specs.declared.cause.StatusCause.{StatusCause}
use Rattle.subchannel_model.specs.declared.cause.StatusCause.TheVariants as cause
use Rattle.subchannel_model.specs.declared.signals.DataSignal.{DataSignal}
use Rattle.subchannel_model.specs.declared.signals.EndSignal.{EndSignal}
use Rattle.subchannel_model.specs.declared.state.ActiveProgram.{ActiveProgram}
use Rattle.subchannel_model.specs.declared.state.Program.{Program}
use Rattle.subchannel_model.specs.declared.state.ProgramPosition.{ProgramPosition}
use Rattle.subchannel_model.specs.declared.state.Subchannel.{Subchannel}
use Rattle.subchannel_model.specs.declared.state.SubchannelState.{SubchannelState}
use Rattle.subchannel_model.specs.declared.state.UpStep.{UpStep}
use Rattle.subchannel_model.specs.declared.status.StatusRow.{StatusRow}
use Rattle.subchannel_model.specs.Causes.{row_of, scsw_before, with_cause, scsw_joined}
use Rattle.subchannel_model.specs.Ends.{has_status_modifier, chains_command, last_shown, work_shown}
use Rattle.subchannel_model.specs.Losing.{is_offered_or_held, reset_drawn, reset_with, reset_for, loses_at}
use Rattle.subchannel_model.specs.Programs.{has_any}
use Rattle.subchannel_model.specs.Suspension.{suspended_alone, with_suspended_program, program_suspended}
use Rattle.subchannel_model.specs.End.{chains_with, with_end_status, with_first_end, with_allegiance_after_end, next_ccw_outcome, chains_at_device_end, concludes, ends_command, ends_at_work}
use Rattle.subchannel_model.specs.Status.{scsw_made, serials_made, with_joined, no_device_status, no_subchannel_status}
use Rattle.subchannel_model.specs.Taking.{takes_up}
use Rattle.subchannel_model.specs.Notice.{with_known}
use Rattle.subchannel_model.specs.Attention.{with_attention, may_take_attention}
use Rattle.subchannel_model.specs.Outcomes.{SignalOutcome, with_storage, signal_ignored, signal_taken, device_released, hold_outcome}
use Rattle.subchannel_model.specs.Pci.{without_pci, with_pci}
use Rattle.subchannel_model.specs.Accept.{offered_position, takes_device, with_path_used, with_program_at_work, first_ccw_outcome, begins_at, halt_performed, takes_accept}
use Rattle.subchannel_model.specs.Cleared.{clear_performed, takes_cleared}
use Rattle.subchannel_model.specs.Data.{gives_chunk, tells_room_after, moves_bytes, moves_data}
use Rattle.subchannel_model.specs.Command.{with_transfer}
use Rattle.run_laws.specs.Deferred.{IsLastEndCode, IsEndCode, IsSignalCode}
use Rattle.run_laws.proofs.Shown.Counted.{IsKept, cause-kept}
use Rattle.run_laws.proofs.Shown.Effects.{seen}
use Rattle.run_laws.proofs.Shown.Fitting.{Fits}
use Rattle.run_laws.proofs.Shown.Signals.{chains-free}
use Rattle.run_laws.proofs.Shown.Standing.{Stands, open-none, none-begun}

-- no status was made, and the code stayed; or one was, with such a code
abbrev pub Coded : (DeferredCode → Type 0) → SubchannelState → SubchannelState → Type 0
Coded P s y = ((y.serials.made ≡ s.serials.made) × (y.scsw.deferred ≡ s.scsw.deferred)) ⊎ ((y.serials.made ≡ s.serials.made + 1) × P y.scsw.deferred)

pub coded-if : (P Q : DeferredCode → Type 0) (s y : SubchannelState) → ((d : DeferredCode) → P d → Q d) → Coded P s y → Coded Q s y
coded-if P Q s y f c = elim c [ inl k ↦ inl k | inr k ↦ inr (k.0, f y.scsw.deferred k.1) ]

abbrev pub Stays : SubchannelState → SubchannelState → Type 0
Stays s y = Coded (λ d. d ≡ s.scsw.deferred) s y

-- what is shown of a cause
abbrev pub cause_code : SubchannelState → StatusCause → DeferredCode
cause_code s c = unwrap_or (row_of s c).shown.deferred (scsw_before s.scsw c).deferred

either-code : (b : Bool) (x y : Scsw) (d : DeferredCode) → x.deferred ≡ d → y.deferred ≡ d → (if b then x else y).deferred ≡ d
either-code true x y d e f = e
either-code false x y d e f = f

status-coded : (e f : Bool) (x : Serials) (scsw joins : Scsw) (shown : StatusRow) → e ≡ f →
    (((serials_made e x).made ≡ x.made) × ((scsw_made e (scsw_joined f scsw joins) shown).deferred ≡ scsw.deferred))
    ⊎ (((serials_made e x).made ≡ x.made + 1) × ((scsw_made e (scsw_joined f scsw joins) shown).deferred ≡ unwrap_or shown.deferred joins.deferred))
status-coded true true x scsw joins shown e =
    inr (
      refl,
      either-code joins.status.pending (with_joined joins joins.status joins.device_status joins.subchannel_status shown)
          (with_joined joins no_status no_device_status no_subchannel_status shown) (unwrap_or shown.deferred joins.deferred) refl refl,
    )
status-coded false false x scsw joins shown e = inl (refl, refl)
status-coded true false x scsw joins shown e = absurd (cc e)
status-coded false true x scsw joins shown e = absurd (cc e)

pub cause-coded : (s : SubchannelState) (c : StatusCause) → Coded (λ d. d ≡ cause_code s c) s (with_cause s c)
cause-coded s c =
    let left : SubchannelState = (row_of s c).left in
    let kept : IsKept s left = cause-kept s c in
    let made : left.serials.made ≡ s.serials.made = ap (λ (x : Serials). x.made) kept.1 in
    elim (status-coded left.pmcw.enabled s.pmcw.enabled left.serials s.scsw (scsw_before s.scsw c) (row_of s c).shown kept.0) [
      | inl k ↦ inl (k.0 ∙ made, k.1)
      | inr k ↦ inr (k.0 ∙ ap (λ (n : ℕ). n + 1) made, k.1)
    ]

if-coded : (P : DeferredCode → Type 0) (s : SubchannelState) (b : Bool) (x y : SubchannelState) → Coded P s x → Coded P s y → Coded P s (if b then x else y)
if-coded P s true x y e f = e
if-coded P s false x y e f = f

-- an interruption by the program, a suspension and a halt leave the code
interrupted-stays : (s : SubchannelState) (b : Option ActiveProgram) → Stays s (with_pci s b)
interrupted-stays s None = inl (refl, refl)
interrupted-stays s (Some b) =
    let x : SubchannelState = record s { begun = Some (without_pci b) } in
    let c : StatusCause = cause.Pci b.transfer.walk.tried (residual b.transfer.moving) in
    if-coded (λ d. d ≡ s.scsw.deferred) s b.transfer.pci_pending (with_cause x c) s (cause-coded x c) (inl (refl, refl))

suspending-stays : (s : SubchannelState) (program : Program) (walk : WalkPosition) (count : ℕ) → Stays s (program_suspended s program walk count)
suspending-stays s program walk count =
    let x : SubchannelState = with_suspended_program s program walk count in
    let c : StatusCause = cause.Suspension walk.tried count in
    if-coded (λ d. d ≡ s.scsw.deferred) s program.orb.suppress_suspended (record x { scsw = suspended_alone s.scsw }) (with_cause x c) (inl (refl, refl)) (cause-coded x c)

halt_performed-stays : (s : SubchannelState) → Stays s (halt_performed s)
halt_performed-stays s = if-coded (λ d. d ≡ s.scsw.deferred) s s.scsw.activity.halt_pending (with_cause s cause.HaltDone) s (cause-coded s cause.HaltDone) (inl (refl, refl))

-- a path that is lost
reset-stays : (s : SubchannelState) (shows : Bool) → Stays s (reset_with s shows)
reset-stays s true = cause-coded (reset_drawn s) cause.InterfaceControlCheck
reset-stays s false = inl (refl, refl)

reset_for-stays : (s : SubchannelState) → Stays s (reset_for s)
reset_for-stays s = reset-stays s (is_offered_or_held s.hold.phase && has_any s.waiting s.begun s.suspended)

pub loses-stays : (o : Option ℕ) (sub : Subchannel) → Stays sub.state (loses_at o sub).state
loses-stays None sub = inl (refl, refl)
loses-stays (Some p) sub =
    if-coded (λ d. d ≡ sub.state.scsw.deferred) sub.state (rests_on sub.state.hold p) (reset_for sub.state) sub.state (reset_for-stays sub.state) (inl (refl, refl))

-- signals
if-step : (P : DeferredCode → Type 0) (s : SubchannelState) (b : Bool) (y z : UpStep) → Coded P s y.state → Coded P s z.state → Coded P s (if b then y else z).state
if-step P s true y z k l = k
if-step P s false y z k l = l

when-step : (P : DeferredCode → Type 0) (s : SubchannelState) (b : Bool) (y z : UpStep) → (b ≡ true → Coded P s y.state) → Coded P s z.state → Coded P s (if b then y else z).state
when-step P s true y z k l = k refl
when-step P s false y z k l = l

if-met : (P : DeferredCode → Type 0) (s : SubchannelState) (b : Bool) (y z : SignalOutcome) → Coded P s y.step.state → Coded P s z.step.state → Coded P s (if b then y else z).step.state
if-met P s true y z k l = k
if-met P s false y z k l = l

-- Accept
beginning-stays : (storage : Contents) (s : SubchannelState) (p t : ℕ) (st : ProgramPosition) (walk : WalkPosition) (r : CommandStart) → Stays s (first_ccw_outcome storage s p t st walk r).state
beginning-stays storage s p t st walk (outcome.Begins transfer) =
    let next : SubchannelState = with_program_at_work s st.program (begun_with_room storage transfer).transfer in interrupted-stays next next.begun
beginning-stays storage s p t st walk outcome.Suspends = suspending-stays s st.program walk st.count
beginning-stays storage s p t st walk (outcome.Stops check) = cause-coded s (cause.FetchFault walk.tried check st.count)

standing-stays : (storage : Contents) (s : SubchannelState) (p t : ℕ) (o : Option ProgramPosition) → Stays s (begins_at storage s p t o).state
standing-stays storage s p t None = inl (refl, refl)
standing-stays storage s p t (Some st) = beginning-stays storage s p t st (first_command storage st.walk).walk (first_command storage st.walk).outcome

abbrev phased : SubchannelState → HoldState → HoldPhase → SubchannelState
phased s h phase = record s { hold = record h { phase = phase } }

begun-stays : (storage : Contents) (s : SubchannelState) (h : HoldState) (t q : ℕ) (may same : Bool) →
    Stays s (takes_accept storage (phased s h (hold.Offer t q)) (if same then Some (program_begun (record h { phase = hold.Offer t q }) t q may) else None)).state
begun-stays storage s h t q true true =
    standing-stays storage (record s { hold = record h { phase = hold.On t q 0; seen = 0; first_path = Some q }; pmcw = with_path_used s.pmcw q }) q t (offered_position s)
begun-stays storage s h t q false true = halt_performed-stays (record s { hold = record h { phase = hold.Letting t q; seen = 0; first_path = Some q }; pmcw = with_path_used s.pmcw q })
begun-stays storage s h t q may false = inl (refl, refl)

accept-stays : (storage : Contents) (s : SubchannelState) (h : HoldState) (phase : HoldPhase) (u : ℕ) (may : Bool) →
    Stays s (takes_accept storage (phased s h phase) (offer_accepted (record h { phase = phase }) phase u may)).state
accept-stays storage s h (hold.Offer t q) u may = begun-stays storage s h t q may (u == t)
accept-stays storage s h other u may = inl (refl, refl)

-- Data
data-stays : (storage : Contents) (s : SubchannelState) (b : Option ActiveProgram) (signal : DataSignal) (load : Load) → Stays s (moves_data storage s b signal load).step.state
data-stays storage s None signal load = inl (refl, refl)
data-stays storage s (Some b) signal load =
    let P : DeferredCode → Type 0 = λ d. d ≡ s.scsw.deferred in
    let given = next_chunk storage (chunk_absorbed storage b.transfer signal.sequence (load_length load)) in
    let x = chunk_stored storage b.transfer signal.sequence (load_bytes load) in
    let room = with_room x.storage x.transfer in
    if-met P s (is_answered b.transfer signal.command signal.sequence) (moves_bytes storage s b signal load) (with_storage storage (signal_ignored s))
    (if-met P s (is_outward b.transfer.code) (with_storage storage (gives_chunk s b signal given)) (tells_room_after s b signal x)
    (interrupted-stays (with_transfer s b given.transfer) (with_transfer s b given.transfer).begun)
    (interrupted-stays (with_transfer s b room.transfer) (with_transfer s b room.transfer).begun))
    (inl (refl, refl))

-- End
stay-last : (pending : Bool) (old d : DeferredCode) → pending ≡ false → d ≡ old → IsLastEndCode pending old d
stay-last true old d e f = absurd (cc e)
stay-last false old d e f = inl f

stay-end : (last : Bool) (old : Scsw) (d : DeferredCode) → old.activity.start_pending ≡ false → d ≡ old.deferred → IsEndCode last old d
stay-end true old d e f = stay-last old.activity.start_pending old.deferred d e f
stay-end false old d e f = f

chaining-stays : (storage : Contents) (s : SubchannelState) (b : ActiveProgram) (x : EndSignal) (walk : WalkPosition) (r : CommandStart) → Stays s (next_ccw_outcome storage s b x walk r).state
chaining-stays storage s b x walk (outcome.Begins transfer) =
    let next : SubchannelState = with_transfer s b (begun_with_room storage transfer).transfer in interrupted-stays next next.begun
chaining-stays storage s b x walk outcome.Suspends = suspending-stays (with_allegiance_after_end s x) b.program walk (residual b.transfer.moving)
chaining-stays storage s b x walk (outcome.Stops check) = cause-coded (with_allegiance_after_end s x) (cause.FetchFault walk.tried check (residual b.transfer.moving))

goes-stays : (storage : Contents) (s : SubchannelState) (b : ActiveProgram) (x : EndSignal) → Stays s (chains_at_device_end storage s b x).state
goes-stays storage s b x =
    let next : Beginning = next_command storage b.transfer (has_status_modifier x.status) in
    if-step (λ d. d ≡ s.scsw.deferred) s (has_device_end x.status) (chains_with storage s b x next) _ (chaining-stays storage s b x next.walk next.outcome) (inl (refl, refl))

none-code : (pending : Bool) (old : DeferredCode) → (pending ≡ true → false ≡ true) → IsLastEndCode pending old old
none-code true old f = absurd (cc (f refl))
none-code false old f = inl refl

some-code : (pending : Bool) (old : DeferredCode) → IsLastEndCode pending old deferred.One
some-code true old = refl
some-code false old = inr refl

end-code : (last : Bool) (w : Option Program) (scsw : Scsw) (b : ActiveProgram) (status : DeviceStatus) (more : Bool) → (scsw.activity.start_pending ≡ true → is_some w ≡ true) →
    IsEndCode last scsw (unwrap_or (if last then last_shown scsw b w status more else work_shown scsw b status more false).deferred scsw.deferred)
end-code true None scsw b status more f = none-code scsw.activity.start_pending scsw.deferred f
end-code true (Some w) scsw b status more f = some-code scsw.activity.start_pending scsw.deferred
end-code false w scsw b status more f = refl

stops-coded : (s : SubchannelState) (b : ActiveProgram) (x : EndSignal) → Fits (seen s) → Coded (IsEndCode (is_last_end x.status) s.scsw) s (concludes s b x).state
stops-coded s b x fits =
    let P : DeferredCode → Type 0 = IsEndCode (is_last_end x.status) s.scsw in
    let y : SubchannelState = with_end_status s b x in
    let c : StatusCause = cause.End b x.status x.more in
    let k : Coded P s y =
    coded-if (λ d. d ≡ cause_code s c) P s (with_cause s c)
    (λ d e. subst P (sym e) (end-code (is_last_end x.status) s.waiting s.scsw b x.status x.more fits.starts)) (cause-coded s c) in
    if-step P s (is_last_end x.status) (device_released y) (signal_taken y) k k

not-waiting : (w : Option Program) (pending : Bool) → w ≡ None → (pending ≡ true → is_some w ≡ true) → pending ≡ false
not-waiting w false e f = refl
not-waiting w true e f = absurd (cc (sym (f refl) ∙ ap (λ (o : Option Program). is_some o) e))

end-coded : (storage : Contents) (s : SubchannelState) (o : Option ActiveProgram) (x : EndSignal) → s.begun ≡ o → Fits (seen s) → Stands (seen s) →
    Coded (IsEndCode (is_last_end x.status) s.scsw) s (ends_at_work storage s o x).state
end-coded storage s None x e fits stands = inl (refl, refl)
end-coded storage s (Some b) x e fits stands =
    let P : DeferredCode → Type 0 = IsEndCode (is_last_end x.status) s.scsw in
    if-step P s (x.command == b.transfer.command) (ends_command storage s b x) (signal_ignored s)
    (when-step P s (chains_command s.scsw b x.status x.more) (chains_at_device_end storage s (with_first_end b) x) (concludes s b x)
    (λ i.
    let alone = (stands.chains b e (chains-free s b x i)).1 in
    let idle : s.scsw.activity.start_pending ≡ false = not-waiting s.waiting s.scsw.activity.start_pending alone fits.starts in
    coded-if (λ d. d ≡ s.scsw.deferred) P s (chains_at_device_end storage s (with_first_end b) x).state (λ d f. stay-end (is_last_end x.status) s.scsw d idle f) (goes-stays storage s (with_first_end b) x))
    (stops-coded s b x fits))
    (inl (refl, refl))

-- Cleared, Notice, Attn
clear_performed-coded : (s : SubchannelState) → Coded (λ d. d ≡ deferred.Zero) s (clear_performed s)
clear_performed-coded s = if-coded (λ d. d ≡ deferred.Zero) s s.scsw.activity.clear_pending (with_cause s cause.ClearDone) s (cause-coded s cause.ClearDone) (inl (refl, refl))

cleared-coded : (s : SubchannelState) (step : Option HoldStep) → Coded (λ d. d ≡ deferred.Zero) s (takes_cleared s step).state
cleared-coded s None = inl (refl, refl)
cleared-coded s (Some step) = clear_performed-coded (record s { hold = step.state })

notice-stays : (s : SubchannelState) (b : ℕ) (more : Bool) → Stays s (if more then signal_taken (reset_for (with_known s b)) else signal_ignored s).state
notice-stays s b true = reset_for-stays (with_known s b)
notice-stays s b false = inl (refl, refl)

attended-may : (h : HoldState) (phase : HoldPhase) (p a : ℕ) (may : Bool) → (outcome_of (attended h phase p a may)).taken ≡ true → may ≡ true
attended-may h hold.Free p a true e = refl
attended-may h hold.Free p a false e = absurd (cc e)
attended-may h other p a may e = absurd (cc e)

attention-code : (w : Option Program) (pending : Bool) (old : DeferredCode) → (pending ≡ true → is_some w ≡ true) → (is_some w ≡ true → pending ≡ true) →
    unwrap_or (option_map (λ program. deferred.One) w) old ≡ (if pending then deferred.One else old)
attention-code None true old f g = absurd (cc (f refl))
attention-code None false old f g = refl
attention-code (Some w) true old f g = refl
attention-code (Some w) false old f g = absurd (cc (g refl))

attention-coded : (s : SubchannelState) (shows : Bool) → Fits (seen s) → Stands (seen s) → (shows ≡ true → may_take_attention s ≡ true) →
    Coded (λ d. d ≡ (if s.scsw.activity.start_pending then deferred.One else s.scsw.deferred)) s (with_attention s shows)
attention-coded s false fits stands may = inl (refl, refl)
attention-coded s true fits stands may =
    let rests = open-none s.scsw.status.pending s.scsw.activity (may refl) in
    let none = none-begun (seen s) stands rests.0 in
    let same = attention-code s.waiting s.scsw.activity.start_pending s.scsw.deferred fits.starts (λ e. (stands.waiting e none).0) in
    coded-if (λ d. d ≡ cause_code s cause.Attention) (λ d. d ≡ (if s.scsw.activity.start_pending then deferred.One else s.scsw.deferred)) s (with_cause s cause.Attention)
    (λ d e. e ∙ same) (cause-coded s cause.Attention)

pub takes-coded : (returns : Bool) (storage : Contents) (s : SubchannelState) (p : ℕ) (x : Up) → Fits (seen s) → Stands (seen s) →
    Coded (IsSignalCode s.scsw x) s (takes_up returns storage s p x).step.state
takes-coded returns storage s p (up.Accept t) fits stands = accept-stays storage s s.hold s.hold.phase t (takes_device s)
takes-coded returns storage s p (up.Busy t) fits stands = inl (refl, refl)
takes-coded returns storage s p (up.Leave t c) fits stands = inl (refl, refl)
takes-coded returns storage s p (up.Back t c) fits stands = inl (refl, refl)
takes-coded returns storage s p (up.Data load t c n q) fits stands =
    let signal : DataSignal = record { path = p; number = t; connection = c; command = n; sequence = q } in
    if-met (λ d. d ≡ s.scsw.deferred) s (is_connected s.hold.phase p t c) (moves_data storage s s.begun signal load) (with_storage storage (signal_ignored s)) (data-stays storage s s.begun signal load) (inl (refl, refl))
takes-coded returns storage s p (up.End t n status more) fits stands =
    let x : EndSignal = record { path = p; number = t; command = n; status = status; more = more } in
    if-step (IsEndCode (is_last_end status) s.scsw) s (is_on s.hold.phase t) (ends_at_work storage s s.begun x) (signal_ignored s) (end-coded storage s s.begun x refl fits stands) (inl (refl, refl))
takes-coded returns storage s p (up.Released t) fits stands = inl (refl, refl)
takes-coded returns storage s p (up.Cleared r) fits stands = cleared-coded s (hold_takes s.hold p (up.Cleared r) false)
takes-coded returns storage s p (up.Notice b) fits stands = notice-stays s b (nat_lt s.hold.known_restarts b)
takes-coded returns storage s p (up.Attn a status) fits stands =
    let step : Option HoldStep = hold_takes s.hold p (up.Attn a status) (may_take_attention s) in
    let shows : Bool = (outcome_of step).taken && not (status.0 == 0x20) in
    attention-coded (hold_outcome s step).state shows
    (record { clears = fits.clears; starts = fits.starts })
    (record { begun = stands.begun; chains = stands.chains; waiting = stands.waiting; alone = stands.alone; suspended = stands.suspended; clears = stands.clears })
    (λ e. attended-may s.hold s.hold.phase p a (may_take_attention s) (and_parts (outcome_of step).taken (not (status.0 == 0x20)) e).0)
