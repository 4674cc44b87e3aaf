-- What each event leaves of the dedicated allegiance of a subchannel.
use Rattle.std.proofs.Common.{◌≡◌, refl, sym, ◌∙◌, ℕ, ◌+◌, ◌==◌, ◌&&◌, nat_lt, Bool, true, false, not, Option, None, Some, Result, IfOk, if◌then◌else◌}
use Rattle.std.proofs.lemmas.Bool.{and_parts}
use Rattle.std.specs.Prelude.{is_some, ◌||◌}
use Rattle.ccw_walk.specs.Positions.{WalkPosition}
use Rattle.chan_model.specs.declared.fault.Fault.{Fault}
use Rattle.chan_model.specs.declared.hold_state.HoldPhase.{HoldPhase}
use Rattle.chan_model.specs.declared.hold_state.HoldPhase.TheVariants as hold
use Rattle.chan_model.specs.declared.hold_state.HoldState.{HoldState}
use Rattle.chan_model.specs.declared.signal.Down.TheVariants as down
use Rattle.chan_model.specs.Signals.{Load, Up, load_bytes}
use Rattle.chan_model.specs.declared.signal.Up.TheVariants as up
use Rattle.chan_model.specs.HoldTable.{HoldStep, program_begun, offer_accepted, hold_takes, outcome_of, is_connected, is_on}
use Rattle.chan_model.specs.Loads.{load_length}
use Rattle.chan_model.specs.UnitReports.{is_last_end, is_outward, has_device_end, has_unit_check}
use Rattle.storage_keys.specs.Storage.{Contents}
use Rattle.data_move.specs.declared.transfer.Beginning.{Beginning}
use Rattle.data_move.specs.declared.transfer.CommandStart.{CommandStart}
use Rattle.data_move.specs.declared.transfer.CommandStart.TheVariants as outcome
use Rattle.data_move.specs.Commands.{first_command, next_command, begun_with_room}
use Rattle.data_move.specs.FromDevice.{chunk_stored}
use Rattle.data_move.specs.ChunkNumbers.{is_answered}
use Rattle.subchannel_model.specs.declared.cause.StatusCause.{StatusCause}
use Rattle.subchannel_model.specs.declared.cause.StatusCause.TheVariants as cause
use Rattle.subchannel_model.specs.declared.signals.DataSignal.{DataSignal}
use Rattle.subchannel_model.specs.declared.signals.EndSignal.{EndSignal}
use Rattle.subchannel_model.specs.declared.state.ActiveProgram.{ActiveProgram}
use Rattle.subchannel_model.specs.declared.state.Chosen.{Chosen}
use Rattle.subchannel_model.specs.declared.state.Chosen.TheVariants.{Idle, Resets, PerformsClear, Halts, PerformsHalt, FindsNoPath, Offers}
use Rattle.subchannel_model.specs.declared.state.Program.{Program}
use Rattle.subchannel_model.specs.declared.state.ProgramPosition.{ProgramPosition}
use Rattle.subchannel_model.specs.declared.state.Subchannel.{Subchannel}
use Rattle.subchannel_model.specs.declared.state.SubchannelState.{SubchannelState}
use Rattle.subchannel_model.specs.declared.state.UpStep.{UpStep}
use Rattle.subchannel_model.specs.Causes.{with_cause}
use Rattle.subchannel_model.specs.Ends.{has_status_modifier, breaks_chain, chains_command, has_unit_exception, shows_length}
use Rattle.subchannel_model.specs.Halt.{status_dropped, halt_begun, halted, drops_status}
use Rattle.subchannel_model.specs.Losing.{is_offered_or_held, reset_with, reset_for, loses_at, shows_at}
use Rattle.subchannel_model.specs.Programs.{has_any}
use Rattle.subchannel_model.specs.End.{chains_with, with_end_status, with_first_end, with_allegiance_after_end, dedicated_after_end, next_ccw_outcome, chains_at_device_end, concludes, ends_command, ends_at_work}
use Rattle.subchannel_model.specs.Sending.{carried_by, finds_full}
use Rattle.subchannel_model.specs.Test.{tested_wholly}
use Rattle.subchannel_model.specs.Taking.{takes_up}
use Rattle.subchannel_model.specs.Notice.{with_known}
use Rattle.subchannel_model.specs.Attention.{with_attention, may_take_attention}
use Rattle.subchannel_model.specs.Data.{gives_next_chunk, tells_room_after, moves_bytes, moves_data}
use Rattle.subchannel_model.specs.Outcomes.{SignalOutcome, with_storage, signal_ignored, signal_taken, device_released, hold_outcome}
use Rattle.subchannel_model.specs.Pci.{with_pci}
use Rattle.subchannel_model.specs.Accept.{offered_position, takes_device, with_path_used, with_program_at_work, first_ccw_outcome, begins_at, halt_performed, takes_accept}
use Rattle.subchannel_model.specs.Suspension.{program_suspended}
use Rattle.subchannel_model.specs.Cleared.{clear_performed, takes_cleared}
use Rattle.machine_model.specs.ChooseSteps.{choose_sub}
use Rattle.machine_model.specs.Results.{SubResult}
use Rattle.chan_model.specs.ResetCauses.{rests_on}
use Rattle.run_laws.proofs.Machine.Beside.{cause-beside, interrupted-beside, suspending-beside, halt_performed-beside, clear_performed-beside, attention-beside, tested-beside}

-- it stays
abbrev pub IsStill : SubchannelState → SubchannelState → Type 0
IsStill s x = x.dedicated ≡ s.dedicated

if-still : (s : SubchannelState) (b : Bool) (x y : SubchannelState) → IsStill s x → IsStill s y → IsStill s (if b then x else y)
if-still s true x y e f = e
if-still s false x y e f = f

pub cause-still : (s : SubchannelState) (c : StatusCause) → IsStill s (with_cause s c)
cause-still s c = (cause-beside s c).dedicated

interrupted-still : (s : SubchannelState) (b : Option ActiveProgram) → IsStill s (with_pci s b)
interrupted-still s b = (interrupted-beside s b).dedicated

suspending-still : (s : SubchannelState) (program : Program) (walk : WalkPosition) (count : ℕ) → IsStill s (program_suspended s program walk count)
suspending-still s program walk count = (suspending-beside s program walk count).dedicated

halt_performed-still : (s : SubchannelState) → IsStill s (halt_performed s)
halt_performed-still s = (halt_performed-beside s).dedicated

clear_performed-still : (s : SubchannelState) → IsStill s (clear_performed s)
clear_performed-still s = (clear_performed-beside s).dedicated

attention-still : (s : SubchannelState) (shows : Bool) → IsStill s (with_attention s shows)
attention-still s shows = (attention-beside s shows).dedicated

pub tested-still : (s : SubchannelState) → IsStill s (tested_wholly s)
tested-still s = (tested-beside s).dedicated

pub halted-still : (s : SubchannelState) → IsStill s (halted s)
halted-still s = if-still s (drops_status s.scsw) (status_dropped (halt_begun s)) (halt_begun s) refl refl

-- a path that is lost
reset-still : (s : SubchannelState) (shows : Bool) → IsStill s (reset_with s shows)
reset-still s true = refl
reset-still s false = refl

reset_for-still : (s : SubchannelState) → IsStill s (reset_for s)
reset_for-still s = reset-still s (is_offered_or_held s.hold.phase && has_any s.waiting s.begun s.suspended)

pub loses-still : (sub : Subchannel) (o : Option ℕ) → IsStill sub.state (loses_at o sub).state
loses-still sub None = refl
loses-still sub (Some p) = if-still sub.state (rests_on sub.state.hold p) (reset_for sub.state) sub.state (reset_for-still sub.state) refl

pub shows-still : (sub : Subchannel) (o : Option ℕ) (b : Bool) → IsStill sub.state (shows_at o b sub).state
shows-still sub None b = refl
shows-still sub (Some p) b = refl

-- choosing
if-ok : {A : Type 0} (P : A → Type 0) (b : Bool) (x y : Result A Fault) → IfOk x P → IfOk y P → IfOk (if b then x else y) P
if-ok P true x y e f = e
if-ok P false x y e f = f

pub choose-still : (sub : Subchannel) (c : Chosen) → IfOk (choose_sub sub c) (λ t. IsStill sub.state t.sub.state)
choose-still sub Idle = refl
choose-still sub (Resets r path) =
    if-ok (λ (t : SubResult). IsStill sub.state t.sub.state) (finds_full sub.wires.down (carried_by sub (Some (record { path = path; signal = down.Reset r sub.state.hold.known_restarts })))) _ _ tt refl
choose-still sub PerformsClear = cause-still sub.state cause.ClearDone
choose-still sub (Halts t path) =
    if-ok (λ (t : SubResult). IsStill sub.state t.sub.state) (finds_full sub.wires.down (carried_by sub (Some (record { path = path; signal = down.Halt t })))) _ _ tt refl
choose-still sub PerformsHalt = cause-still sub.state cause.HaltDone
choose-still sub FindsNoPath = cause-still sub.state cause.NoPath
choose-still sub (Offers c path) =
    if-ok (λ (t : SubResult). IsStill sub.state t.sub.state) (finds_full sub.wires.down (carried_by sub (Some (record { path = path; signal = down.Select (sub.state.drawn + 1) })))) _ _ tt refl

-- a signal that came up: a Data that is taken may end it, and so may an End; an End with unit check brings one to its path
abbrev pub IsByCheck : Bool → ℕ → Option ℕ → Type 0
IsByCheck true p new = new ≡ Some p
IsByCheck false p new = Unit {0}

abbrev pub IsLeft : ℕ → Up → Bool → Option ℕ → Option ℕ → Type 0
IsLeft p (up.Data load t c n s) true old new = Unit {0}
IsLeft p (up.End t n status more) true old new = IsByCheck (has_unit_check status) p new
IsLeft p x taken old new = new ≡ old

abbrev Left : ℕ → Up → SubchannelState → UpStep → Type 0
Left p x s step = IsLeft p x step.outcome.taken s.dedicated step.state.dedicated

if-left : (p : ℕ) (x : Up) (s : SubchannelState) (b : Bool) (y z : UpStep) → (b ≡ true → Left p x s y) → Left p x s z → Left p x s (if b then y else z)
if-left p x s true y z k l = k refl
if-left p x s false y z k l = l

if-met : (p : ℕ) (x : Up) (s : SubchannelState) (b : Bool) (y z : SignalOutcome) → Left p x s y.step → Left p x s z.step → Left p x s (if b then y else z).step
if-met p x s true y z k l = k
if-met p x s false y z k l = l

-- Accept
beginning-left : (storage : Contents) (s : SubchannelState) (p t : ℕ) (st : ProgramPosition) (walk : WalkPosition) (r : CommandStart) → IsStill s (first_ccw_outcome storage s p t st walk r).state
beginning-left storage s p t st walk (outcome.Begins transfer) =
    let next : SubchannelState = with_program_at_work s st.program (begun_with_room storage transfer).transfer in interrupted-still next next.begun
beginning-left storage s p t st walk outcome.Suspends = suspending-still s st.program walk st.count
beginning-left storage s p t st walk (outcome.Stops check) = cause-still s (cause.FetchFault walk.tried check st.count)

standing-left : (storage : Contents) (s : SubchannelState) (p t : ℕ) (st : Option ProgramPosition) → IsStill s (begins_at storage s p t st).state
standing-left storage s p t None = refl
standing-left storage s p t (Some st) = beginning-left storage s p t st (first_command storage st.walk).walk (first_command storage st.walk).outcome

abbrev phased : SubchannelState → HoldState → HoldPhase → SubchannelState
phased s h phase = record s { hold = record h { phase = phase } }

begun-left : (storage : Contents) (s : SubchannelState) (h : HoldState) (t q : ℕ) (may same : Bool) →
    IsStill s (takes_accept storage (phased s h (hold.Offer t q)) (if same then Some (program_begun (record h { phase = hold.Offer t q }) t q may) else None)).state
begun-left storage s h t q true true =
    standing-left storage (record s { hold = record h { phase = hold.On t q 0; seen = 0; first_path = Some q }; pmcw = with_path_used s.pmcw q }) q t (offered_position s)
begun-left storage s h t q false true = halt_performed-still (record s { hold = record h { phase = hold.Letting t q; seen = 0; first_path = Some q }; pmcw = with_path_used s.pmcw q })
begun-left storage s h t q may false = refl

accept-left : (storage : Contents) (s : SubchannelState) (h : HoldState) (phase : HoldPhase) (u : ℕ) (may : Bool) →
    IsStill s (takes_accept storage (phased s h phase) (offer_accepted (record h { phase = phase }) phase u may)).state
accept-left storage s h (hold.Offer t q) u may = begun-left storage s h t q may (u == t)
accept-left storage s h other u may = refl

-- Data
data-left : (storage : Contents) (s : SubchannelState) (b : Option ActiveProgram) (p t c n q : ℕ) (load : Load) →
    Left p (up.Data load t c n q) s (moves_data storage s b (record { path = p; number = t; connection = c; command = n; sequence = q }) load).step
data-left storage s None p t c n q load = refl
data-left storage s (Some b) p t c n q load =
    let signal : DataSignal = record { path = p; number = t; connection = c; command = n; sequence = q } in
    if-met p (up.Data load t c n q) s (is_answered b.transfer n q) (moves_bytes storage s b signal load) (with_storage storage (signal_ignored s))
    (if-met p (up.Data load t c n q) s (is_outward b.transfer.code) (with_storage storage (gives_next_chunk storage s b signal (load_length load)))
    (tells_room_after s b signal (chunk_stored storage b.transfer q (load_bytes load))) tt tt)
    refl

-- End
abbrev end_up : EndSignal → Up
end_up x = up.End x.number x.command x.status x.more

by-check : (check : Bool) (p : ℕ) (old new : Option ℕ) → new ≡ (if check then Some p else old) → IsByCheck check p new
by-check true p old new e = e
by-check false p old new e = tt

end-check : (s : SubchannelState) (x : EndSignal) → dedicated_after_end s.dedicated x ≡ (if has_unit_check x.status then Some x.path else None)
end-check s x = refl

ended-left : (s y : SubchannelState) (x : EndSignal) → y.dedicated ≡ dedicated_after_end s.dedicated x → IsByCheck (has_unit_check x.status) x.path y.dedicated
ended-left s y x e = by-check (has_unit_check x.status) x.path None y.dedicated (e ∙ end-check s x)

-- nothing is chained after unit check
no-check : (a b c d : Bool) → (a && (b && (c && not d))) ≡ true → d ≡ false
no-check a b c true e = absurd (cc (sym (and_parts c false (and_parts b (c && false) (and_parts a (b && (c && false)) e).1).1).1))
no-check a b c false e = refl

chained-check : (s : SubchannelState) (b : ActiveProgram) (x : EndSignal) → chains_command s.scsw b x.status x.more ≡ true → has_unit_check x.status ≡ false
chained-check s b x e =
    first-false (has_unit_check x.status) (has_unit_exception x.status || (shows_length s.scsw b x.status x.more || (is_some b.transfer.fault || s.scsw.functions.halt)))
    (no-check b.transfer.moving.ccw.chain_command (not b.transfer.moving.ccw.chain_data) (not b.transfer.unchained) (breaks_chain s.scsw b x.status x.more) e)
  where
    first-false : (a b : Bool) → (a || b) ≡ false → a ≡ false
    first-false true b e = e
    first-false false b e = refl

unchecked : (check : Bool) (p : ℕ) (new : Option ℕ) → check ≡ false → IsByCheck check p new
unchecked true p new e = absurd (cc e)
unchecked false p new e = tt

chaining-left : (storage : Contents) (s : SubchannelState) (b : ActiveProgram) (x : EndSignal) (walk : WalkPosition) (r : CommandStart) → has_unit_check x.status ≡ false →
    Left x.path (end_up x) s (next_ccw_outcome storage s b x walk r)
chaining-left storage s b x walk (outcome.Begins transfer) e = unchecked (has_unit_check x.status) x.path _ e
chaining-left storage s b x walk outcome.Suspends e = unchecked (has_unit_check x.status) x.path _ e
chaining-left storage s b x walk (outcome.Stops check) e = unchecked (has_unit_check x.status) x.path _ e

stops-left : (s : SubchannelState) (b : ActiveProgram) (x : EndSignal) → Left x.path (end_up x) s (concludes s b x)
stops-left s b x =
    let y : SubchannelState = with_end_status s b x in
    if-left x.path (end_up x) s (is_last_end x.status) (device_released y) (signal_taken y) (λ e. ended-left s y x refl) (ended-left s y x refl)

end-left : (storage : Contents) (s : SubchannelState) (b : Option ActiveProgram) (x : EndSignal) → Left x.path (end_up x) s (ends_at_work storage s b x)
end-left storage s None x = refl
end-left storage s (Some b) x =
    let next : Beginning = next_command storage (with_first_end b).transfer (has_status_modifier x.status) in
    if-left x.path (end_up x) s (x.command == b.transfer.command) (ends_command storage s b x) (signal_ignored s)
    (λ h.
    if-left x.path (end_up x) s (chains_command s.scsw b x.status x.more) (chains_at_device_end storage s (with_first_end b) x) (concludes s b x)
    (λ e.
    if-left x.path (end_up x) s (has_device_end x.status) (chains_with storage s (with_first_end b) x next) _ (λ f. chaining-left storage s (with_first_end b) x next.walk next.outcome (chained-check s b x e))
    (ended-left s (record (with_allegiance_after_end s x) { begun = Some (with_first_end b) }) x refl))
    (stops-left s b x))
    refl

-- the others
reset-left : (s : SubchannelState) (step : Option HoldStep) → IsStill s (takes_cleared s step).state
reset-left s None = refl
reset-left s (Some step) = clear_performed-still (record s { hold = step.state })

notice-left : (s : SubchannelState) (b : ℕ) (more : Bool) → IsStill s (if more then signal_taken (reset_for (with_known s b)) else signal_ignored s).state
notice-left s b true = reset_for-still (with_known s b)
notice-left s b false = refl

pub takes-left : (returns : Bool) (storage : Contents) (s : SubchannelState) (p : ℕ) (x : Up) → Left p x s (takes_up returns storage s p x).step
takes-left returns storage s p (up.Accept t) = accept-left storage s s.hold s.hold.phase t (takes_device s)
takes-left returns storage s p (up.Busy t) = refl
takes-left returns storage s p (up.Leave t c) = refl
takes-left returns storage s p (up.Back t c) = refl
takes-left returns storage s p (up.Data load t c n q) =
    let signal : DataSignal = record { path = p; number = t; connection = c; command = n; sequence = q } in
    if-met p (up.Data load t c n q) s (is_connected s.hold.phase p t c) (moves_data storage s s.begun signal load) (with_storage storage (signal_ignored s)) (data-left storage s s.begun p t c n q load) refl
takes-left returns storage s p (up.End t n status more) =
    let x : EndSignal = record { path = p; number = t; command = n; status = status; more = more } in
    if-left p (end_up x) s (is_on s.hold.phase t) (ends_at_work storage s s.begun x) (signal_ignored s) (λ e. end-left storage s s.begun x) refl
takes-left returns storage s p (up.Released t) = refl
takes-left returns storage s p (up.Cleared r) = reset-left s (hold_takes s.hold p (up.Cleared r) false)
takes-left returns storage s p (up.Notice b) = notice-left s b (nat_lt s.hold.known_restarts b)
takes-left returns storage s p (up.Attn a status) =
    let step : Option HoldStep = hold_takes s.hold p (up.Attn a status) (may_take_attention s) in
    attention-still (hold_outcome s step).state ((outcome_of step).taken && not (status.0 == 0x20))
