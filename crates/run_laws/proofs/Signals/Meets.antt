-- What a subchannel does with a signal that came up, told by the phase of its hold: what it was, what is sent, and what it is then.
use Rattle.std.proofs.Common.{◌≡◌, refl, sym, ◌∙◌, ap, subst, ℕ, Bool, true, false, not, ◌==◌, ◌&&◌, nat_lt, Option, None, Some, List, inl, inr}
use Rattle.std.specs.Prelude.{◌⊎◌, if◌then◌else◌}
use Rattle.std.proofs.lemmas.Bool.{eqb-true, and_parts}
use Rattle.storage_keys.specs.Storage.{Contents}
use Rattle.chan_model.specs.declared.hold_state.HoldPhase.{HoldPhase}
use Rattle.chan_model.specs.declared.hold_state.HoldPhase.TheVariants as hold
use Rattle.chan_model.specs.declared.hold_state.HoldState.{HoldState}
use Rattle.chan_model.specs.Signals.{Down, Load, Up, load_bytes}
use Rattle.chan_model.specs.declared.signal.Down.TheVariants as down
use Rattle.chan_model.specs.declared.signal.OnPath.{OnPath}
use Rattle.chan_model.specs.declared.signal.Up.TheVariants as up
use Rattle.chan_model.specs.HoldTable.{HoldStep, program_begun, offer_accepted, found_busy, left, refusing, granting, asked_back, released, reset_cleared, attended, hold_takes, hold_after, is_connected, is_on, letting_go, outcome_of}
use Rattle.chan_model.specs.UnitReports.{is_last_end, is_outward, has_device_end}
use Rattle.ccw_walk.specs.Positions.{WalkPosition}
use Rattle.data_move.specs.Moving.{residual}
use Rattle.data_move.specs.declared.transfer.CommandStart.{CommandStart}
use Rattle.data_move.specs.declared.transfer.CommandStart.TheVariants as outcome
use Rattle.data_move.specs.Commands.{first_command, next_command, begun_with_room, with_room}
use Rattle.data_move.specs.ToDevice.{chunk_absorbed, next_chunk}
use Rattle.data_move.specs.FromDevice.{chunk_stored}
use Rattle.data_move.specs.ChunkNumbers.{is_answered}
use Rattle.chan_model.specs.Loads.{load_length}
use Rattle.subchannel_model.specs.declared.cause.StatusCause.TheVariants as cause
use Rattle.subchannel_model.specs.declared.signals.DataSignal.{DataSignal}
use Rattle.subchannel_model.specs.declared.signals.EndSignal.{EndSignal}
use Rattle.subchannel_model.specs.declared.state.ActiveProgram.{ActiveProgram}
use Rattle.subchannel_model.specs.declared.state.ProgramPosition.{ProgramPosition}
use Rattle.subchannel_model.specs.declared.state.SubchannelState.{SubchannelState}
use Rattle.subchannel_model.specs.declared.state.UpStep.{UpStep}
use Rattle.subchannel_model.specs.Causes.{with_cause}
use Rattle.subchannel_model.specs.Ends.{has_status_modifier, chains_command}
use Rattle.subchannel_model.specs.Losing.{is_offered_or_held, reset_with, reset_for}
use Rattle.subchannel_model.specs.Programs.{has_any}
use Rattle.subchannel_model.specs.Taking.{takes_up}
use Rattle.subchannel_model.specs.Notice.{with_known, takes_notice}
use Rattle.subchannel_model.specs.Attention.{with_attention, may_take_attention}
use Rattle.run_laws.proofs.Machine.SameHold.{IsSameHold, same-hold, same-then, cause-same, interrupted-same, moving-same, suspending-same, attention-same, halt_performed-same, clear_performed-same}
use Rattle.subchannel_model.specs.End.{chains_with, with_end_status, with_first_end, with_allegiance_after_end, next_ccw_outcome, chains_at_device_end, concludes, ends_command, ends_at_work, takes_end}
use Rattle.subchannel_model.specs.Data.{gives_next_chunk, tells_room_after, moves_bytes, moves_data}
use Rattle.subchannel_model.specs.Outcomes.{SignalOutcome, with_storage, signal_ignored, signal_taken, device_released, hold_outcome}
use Rattle.subchannel_model.specs.Accept.{offered_position, takes_device, with_path_used, with_program_at_work, first_ccw_outcome, begins_at, halt_performed, takes_accept}
use Rattle.subchannel_model.specs.Pci.{with_pci}
use Rattle.subchannel_model.specs.Suspension.{program_suspended}
use Rattle.subchannel_model.specs.Cleared.{clear_performed, takes_cleared}

-- no program is offered or holds the device any more
abbrev pub IsGone : HoldPhase → Type 0
IsGone (hold.Offer t p) = ⊥
IsGone (hold.On t p c) = ⊥
IsGone (hold.Away t) = ⊥
IsGone phase = Unit {0}

abbrev pub Stays : HoldPhase → HoldPhase → Type 0
Stays phase next = (next ≡ phase) ⊎ IsGone next

-- signals that say nothing of a connection
abbrev pub IsPlainUp : Up → Type 0
IsPlainUp (up.Accept t) = ⊥
IsPlainUp (up.Data load t c n s) = ⊥
IsPlainUp (up.End t n status more) = ⊥
IsPlainUp (up.Leave t c) = ⊥
IsPlainUp x = Unit {0}

pub data IsPlainDown : Down → Type 0 where
  Offers : (t : ℕ) → IsPlainDown (down.Select t)
  Refuses : (t c : ℕ) → IsPlainDown (down.Refuse t c)
  Halts : (t : ℕ) → IsPlainDown (down.Halt t)
  Resets : (r b : ℕ) → IsPlainDown (down.Reset r b)
  Answers : (a : ℕ) → IsPlainDown (down.Got a)

abbrev pub ArePlainDown : Option (OnPath Down) → Type 0
ArePlainDown None = Unit {0}
ArePlainDown (Some s) = IsPlainDown s.signal

-- a command of this number on this path, or nothing
pub data IsCommandOn (t p q : ℕ) : Down → Type 0 where
  Sends_command : (u n code room : ℕ) → t ≡ u → p ≡ q → IsCommandOn t p q (down.Command u n code room)

abbrev pub AreCommandsOn : ℕ → ℕ → Option (OnPath Down) → Type 0
AreCommandsOn t p None = Unit {0}
AreCommandsOn t p (Some s) = IsCommandOn t p s.path s.signal

-- an answer to Data of this number, path and connection
pub data IsDataAnswer (t p c q : ℕ) : Down → Type 0 where
  Sends_room : (u n s room : ℕ) → t ≡ u → p ≡ q → IsDataAnswer t p c q (down.Took u n s room)
  Sends_bytes : (bytes : List ℕ) (u d n s : ℕ) → t ≡ u → p ≡ q → c ≡ d → IsDataAnswer t p c q (down.Give bytes u d n s)

abbrev pub AreDataAnswers : ℕ → ℕ → ℕ → Option (OnPath Down) → Type 0
AreDataAnswers t p c None = Unit {0}
AreDataAnswers t p c (Some s) = IsDataAnswer t p c s.path s.signal

abbrev pub releases : ℕ → ℕ → Option (OnPath Down)
releases t p = Some (record { path = p; signal = down.Release t })

pub data Meets (p : ℕ) : Up → HoldPhase → Bool → Option (OnPath Down) → HoldPhase → Type 0 where
  Ignored : (x : Up) (phase : HoldPhase) → Meets p x phase false None phase
  Turns : (x : Up) (phase next : HoldPhase) (sent : Option (OnPath Down)) → IsPlainUp x → Stays phase next → ArePlainDown sent → Meets p x phase true sent next
  Begins : (t q : ℕ) (sent : Option (OnPath Down)) → AreCommandsOn t q sent → Meets p (up.Accept t) (hold.Offer t q) true sent (hold.On t q 0)
  Declines : (t q : ℕ) → Meets p (up.Accept t) (hold.Offer t q) true (releases t q) (hold.Letting t q)
  Moves : (t c n s : ℕ) (load : Load) (sent : Option (OnPath Down)) → AreDataAnswers t p c sent →
      Meets p (up.Data load t c n s) (hold.On t p c) true sent (hold.On t p c)
  Ends : (x : EndSignal) (t q c : ℕ) (sent : Option (OnPath Down)) → AreCommandsOn t p sent →
      Meets p (up.End t x.command x.status x.more) (hold.On t q c) true sent (hold.On t q c)
  Ends_last : (x : EndSignal) (t q c : ℕ) → Meets p (up.End t x.command x.status x.more) (hold.On t q c) true (releases t q) (hold.Letting t q)
  Leaves : (t q c : ℕ) → Meets p (up.Leave t c) (hold.On t q c) true None (hold.Away t)
  Grants : (t c : ℕ) → Meets p (up.Back t c) (hold.Away t) true (Some (record { path = p; signal = down.Grant t c })) (hold.On t p c)

abbrev pub IsMet : ℕ → Up → SubchannelState → UpStep → Type 0
IsMet p x s step = Meets p x s.hold.phase step.outcome.taken step.outcome.sent step.state.hold.phase

if-met : (p : ℕ) (x : Up) (s : SubchannelState) (b : Bool) (y z : UpStep) → (b ≡ true → IsMet p x s y) → IsMet p x s z → IsMet p x s (if b then y else z)
if-met p x s true y z e f = e refl
if-met p x s false y z e f = f

if-meets : (p : ℕ) (x : Up) (s : SubchannelState) (b : Bool) (y z : SignalOutcome) → (b ≡ true → IsMet p x s y.step) → IsMet p x s z.step → IsMet p x s (if b then y else z).step
if-meets p x s true y z e f = e refl
if-meets p x s false y z e f = f

ignored : (p : ℕ) (x : Up) (s : SubchannelState) → IsMet p x s (signal_ignored s)
ignored p x s = Ignored x s.hold.phase

-- by other names of the phases and of what is sent
met-as : (p : ℕ) (x : Up) (phase old next new : HoldPhase) (taken : Bool) (sent one : Option (OnPath Down)) → old ≡ phase → new ≡ next → one ≡ sent →
    Meets p x phase taken sent next → Meets p x old taken one new
met-as p x phase old next new taken sent one e f g m =
    subst (λ (y : HoldPhase). Meets p x y taken one new) (sym e)
    (subst (λ (y : HoldPhase). Meets p x phase taken one y) (sym f)
    (subst (λ (y : Option (OnPath Down)). Meets p x phase taken y next) (sym g) m))

pub phase-of : (s x : SubchannelState) → IsSameHold s x → x.hold.phase ≡ s.hold.phase
phase-of s x h = ap (λ (y : HoldState). y.phase) h.hold

-- the device is let go where a program is connected
lets-sent : (h : HoldState) (phase : HoldPhase) (t q c : ℕ) → phase ≡ hold.On t q c → (outcome_of (letting_go h phase)).sent ≡ releases t q
lets-sent h phase t q c e = subst (λ (y : HoldPhase). (outcome_of (letting_go h y)).sent ≡ releases t q) (sym e) refl

lets-phase : (h : HoldState) (phase : HoldPhase) (t q c : ℕ) → phase ≡ hold.On t q c → (hold_after h (letting_go h phase)).phase ≡ hold.Letting t q
lets-phase h phase t q c e = subst (λ (y : HoldPhase). (hold_after h (letting_go h y)).phase ≡ hold.Letting t q) (sym e) refl

-- Accept
let-accepted : (p t q : ℕ) (x : SubchannelState) → x.hold.phase ≡ hold.On t q 0 →
    Meets p (up.Accept t) (hold.Offer t q) true (device_released x).outcome.sent (device_released x).state.hold.phase
let-accepted p t q x e =
    met-as p (up.Accept t) (hold.Offer t q) (hold.Offer t q) (hold.Letting t q) _ true (releases t q) _ refl
    (lets-phase x.hold x.hold.phase t q 0 e) (lets-sent x.hold x.hold.phase t q 0 e) (Declines t q)

beginning-meets : (storage : Contents) (s : SubchannelState) (p t q : ℕ) (st : ProgramPosition) (walk : WalkPosition) (r : CommandStart) → s.hold.phase ≡ hold.On t q 0 →
    Meets p (up.Accept t) (hold.Offer t q) (first_ccw_outcome storage s q t st walk r).outcome.taken (first_ccw_outcome storage s q t st walk r).outcome.sent (first_ccw_outcome storage s q t st walk r).state.hold.phase
beginning-meets storage s p t q st walk (outcome.Begins transfer) e =
    let next = with_program_at_work s st.program (begun_with_room storage transfer).transfer in
    met-as p (up.Accept t) (hold.Offer t q) (hold.Offer t q) (hold.On t q 0) _ true _ _ refl
    (phase-of s (with_pci next next.begun) (same-then s next (with_pci next next.begun) (same-hold s next refl refl) (interrupted-same next next.begun)) ∙ e) refl
    (Begins t q _ (Sends_command _ _ _ _ refl refl))
beginning-meets storage s p t q st walk outcome.Suspends e =
    let x = program_suspended s st.program walk st.count in
    let-accepted p t q x (phase-of s x (suspending-same s st.program walk st.count) ∙ e)
beginning-meets storage s p t q st walk (outcome.Stops check) e =
    let x = with_cause s (cause.FetchFault walk.tried check st.count) in
    let-accepted p t q x (phase-of s x (cause-same s (cause.FetchFault walk.tried check st.count)) ∙ e)

begin-meets : (storage : Contents) (s : SubchannelState) (p t q : ℕ) (st : Option ProgramPosition) → s.hold.phase ≡ hold.On t q 0 →
    Meets p (up.Accept t) (hold.Offer t q) (begins_at storage s q t st).outcome.taken (begins_at storage s q t st).outcome.sent (begins_at storage s q t st).state.hold.phase
begin-meets storage s p t q None e = met-as p (up.Accept t) (hold.Offer t q) (hold.Offer t q) (hold.On t q 0) _ true None None refl e refl (Begins t q None tt)
begin-meets storage s p t q (Some st) e = beginning-meets storage s p t q st (first_command storage st.walk).walk (first_command storage st.walk).outcome e

abbrev with_hold : SubchannelState → HoldState → HoldPhase → SubchannelState
with_hold s h phase = record s { hold = record h { phase = phase } }

begun-meets : (storage : Contents) (s : SubchannelState) (h : HoldState) (p t q u : ℕ) (may same : Bool) → (same ≡ true → u ≡ t) →
    IsMet p (up.Accept u) (with_hold s h (hold.Offer t q))
    (takes_accept storage (with_hold s h (hold.Offer t q)) (if same then Some (program_begun (record h { phase = hold.Offer t q }) t q may) else None))
begun-meets storage s h p t q u true true e =
    let n : u ≡ t = e refl in
    let x = record s { hold = record h { phase = hold.On t q 0; seen = 0; first_path = Some q }; pmcw = with_path_used s.pmcw q } in
    subst (λ (v : ℕ). Meets p (up.Accept v) (hold.Offer t q) (begins_at storage x q t (offered_position s)).outcome.taken (begins_at storage x q t (offered_position s)).outcome.sent
    (begins_at storage x q t (offered_position s)).state.hold.phase) (sym n)
    (begin-meets storage x p t q (offered_position s) refl)
begun-meets storage s h p t q u false true e =
    let n : u ≡ t = e refl in
    let next = record s { hold = record h { phase = hold.Letting t q; seen = 0; first_path = Some q }; pmcw = with_path_used s.pmcw q } in
    subst (λ (v : ℕ). Meets p (up.Accept v) (hold.Offer t q) true (releases t q) (halt_performed next).hold.phase) (sym n)
    (met-as p (up.Accept t) (hold.Offer t q) (hold.Offer t q) (hold.Letting t q) _ true (releases t q) (releases t q) refl
    (phase-of next (halt_performed next) (halt_performed-same next)) refl (Declines t q))
begun-meets storage s h p t q u may false e = Ignored (up.Accept u) (hold.Offer t q)

accept-meets : (storage : Contents) (s : SubchannelState) (h : HoldState) (phase : HoldPhase) (p u : ℕ) (may : Bool) →
    IsMet p (up.Accept u) (with_hold s h phase) (takes_accept storage (with_hold s h phase) (offer_accepted (record h { phase = phase }) phase u may))
accept-meets storage s h (hold.Offer t q) p u may = begun-meets storage s h p t q u may (u == t) (λ e. eqb-true u t e)
accept-meets storage s h other p u may = Ignored (up.Accept u) other

-- Data
connected-phase : (phase : HoldPhase) (p u c : ℕ) → is_connected phase p u c ≡ true → phase ≡ hold.On u p c
connected-phase (hold.On t q d) p u c e =
    let a = and_parts (u == t) ((p == q) && (c == d)) e in
    let b = and_parts (p == q) (c == d) a.1 in
    let same : u ≡ t = eqb-true u t a.0 in
    let path : p ≡ q = eqb-true p q b.0 in
    let last : c ≡ d = eqb-true c d b.1 in
    subst (λ (n : ℕ). hold.On n q d ≡ hold.On u p c) same
    (subst (λ (n : ℕ). hold.On u n d ≡ hold.On u p c) path
    (subst (λ (n : ℕ). hold.On u p n ≡ hold.On u p c) last refl))
connected-phase other p u c e = absurd (cc e)

moves-by : (s x : SubchannelState) (p t c n q : ℕ) (load : Load) (sent : Option (OnPath Down)) → s.hold.phase ≡ hold.On t p c → IsSameHold s x → AreDataAnswers t p c sent →
    Meets p (up.Data load t c n q) s.hold.phase true sent x.hold.phase
moves-by s x p t c n q load sent e h a =
    met-as p (up.Data load t c n q) (hold.On t p c) s.hold.phase (hold.On t p c) x.hold.phase true sent sent e (phase-of s x h ∙ e) refl (Moves t c n q load sent a)

move-meets : (storage : Contents) (s : SubchannelState) (b : Option ActiveProgram) (p t c n q : ℕ) (load : Load) → s.hold.phase ≡ hold.On t p c →
    IsMet p (up.Data load t c n q) s (moves_data storage s b (record { path = p; number = t; connection = c; command = n; sequence = q }) load).step
move-meets storage s None p t c n q load e = ignored p (up.Data load t c n q) s
move-meets storage s (Some b) p t c n q load e =
    let signal : DataSignal = record { path = p; number = t; connection = c; command = n; sequence = q } in
    if-meets p (up.Data load t c n q) s (is_answered b.transfer n q) (moves_bytes storage s b signal load) (with_storage storage (signal_ignored s))
    (λ y.
    if-meets p (up.Data load t c n q) s (is_outward b.transfer.code) (with_storage storage (gives_next_chunk storage s b signal (load_length load)))
    (tells_room_after s b signal (chunk_stored storage b.transfer q (load_bytes load)))
    (λ z. moves-by s _ p t c n q load _ e (moving-same s b (next_chunk storage (chunk_absorbed storage b.transfer q (load_length load))).transfer) (Sends_bytes _ _ _ _ _ refl refl refl))
    (moves-by s _ p t c n q load _ e
    (moving-same s b (with_room (chunk_stored storage b.transfer q (load_bytes load)).storage (chunk_stored storage b.transfer q (load_bytes load)).transfer).transfer) (Sends_room _ _ _ _ refl refl)))
    (ignored p (up.Data load t c n q) s)

-- End
on-phase : (phase : HoldPhase) (u : ℕ) → is_on phase u ≡ true → (q : ℕ) × (c : ℕ) × (phase ≡ hold.On u q c)
on-phase (hold.On t q d) u e = let same : u ≡ t = eqb-true u t e in (q, d, ap (λ (n : ℕ). hold.On n q d) (sym same))
on-phase other u e = absurd (cc e)

abbrev end_up : EndSignal → Up
end_up x = up.End x.number x.command x.status x.more

ends-by : (s y : SubchannelState) (x : EndSignal) (q c : ℕ) (sent : Option (OnPath Down)) → s.hold.phase ≡ hold.On x.number q c → IsSameHold s y → AreCommandsOn x.number x.path sent →
    Meets x.path (end_up x) s.hold.phase true sent y.hold.phase
ends-by s y x q c sent e h a =
    met-as x.path (end_up x) (hold.On x.number q c) s.hold.phase (hold.On x.number q c) y.hold.phase true sent sent e (phase-of s y h ∙ e) refl (Ends x x.number q c sent a)

let-ended : (s y : SubchannelState) (x : EndSignal) (q c : ℕ) → s.hold.phase ≡ hold.On x.number q c → IsSameHold s y → IsMet x.path (end_up x) s (device_released y)
let-ended s y x q c e h =
    met-as x.path (end_up x) (hold.On x.number q c) s.hold.phase (hold.Letting x.number q) _ true (releases x.number q) _ e
    (lets-phase y.hold y.hold.phase x.number q c (phase-of s y h ∙ e)) (lets-sent y.hold y.hold.phase x.number q c (phase-of s y h ∙ e)) (Ends_last x x.number q c)

chaining-meets : (storage : Contents) (s : SubchannelState) (b : ActiveProgram) (x : EndSignal) (q c : ℕ) (walk : WalkPosition) (r : CommandStart) → s.hold.phase ≡ hold.On x.number q c →
    IsMet x.path (end_up x) s (next_ccw_outcome storage s b x walk r)
chaining-meets storage s b x q c walk (outcome.Begins transfer) e = ends-by s _ x q c _ e (moving-same s b (begun_with_room storage transfer).transfer) (Sends_command _ _ _ _ refl refl)
chaining-meets storage s b x q c walk outcome.Suspends e =
    let same : IsSameHold (with_allegiance_after_end s x) _ = suspending-same (with_allegiance_after_end s x) b.program walk (residual b.transfer.moving) in
    let-ended s _ x q c e (same-then s (with_allegiance_after_end s x) _ (same-hold s (with_allegiance_after_end s x) refl refl) same)
chaining-meets storage s b x q c walk (outcome.Stops check) e =
    let same : IsSameHold (with_allegiance_after_end s x) _ = cause-same (with_allegiance_after_end s x) (cause.FetchFault walk.tried check (residual b.transfer.moving)) in
    let-ended s _ x q c e (same-then s (with_allegiance_after_end s x) _ (same-hold s (with_allegiance_after_end s x) refl refl) same)

stops-meets : (s : SubchannelState) (b : ActiveProgram) (x : EndSignal) (q c : ℕ) → s.hold.phase ≡ hold.On x.number q c → IsMet x.path (end_up x) s (concludes s b x)
stops-meets s b x q c e =
    let same : IsSameHold s (with_cause s (cause.End b x.status x.more)) = cause-same s (cause.End b x.status x.more) in
    let y = with_end_status s b x in
    let h : IsSameHold s y = same-hold s y same.drawn same.hold in
    if-met x.path (end_up x) s (is_last_end x.status) (device_released y) (signal_taken y) (λ z. let-ended s y x q c e h) (ends-by s y x q c None e h tt)

ends_at_work-meets : (storage : Contents) (s : SubchannelState) (b : Option ActiveProgram) (x : EndSignal) (q c : ℕ) → s.hold.phase ≡ hold.On x.number q c →
    IsMet x.path (end_up x) s (ends_at_work storage s b x)
ends_at_work-meets storage s None x q c e = ignored x.path (end_up x) s
ends_at_work-meets storage s (Some b) x q c e =
    if-met x.path (end_up x) s (x.command == b.transfer.command) (ends_command storage s b x) (signal_ignored s)
    (λ y.
    if-met x.path (end_up x) s (chains_command s.scsw b x.status x.more) (chains_at_device_end storage s (with_first_end b) x) (concludes s b x)
    (λ z.
    if-met x.path (end_up x) s (has_device_end x.status) (chains_with storage s (with_first_end b) x (next_command storage (with_first_end b).transfer (has_status_modifier x.status))) _
    (λ w. chaining-meets storage s (with_first_end b) x q c _ _ e)
    (let y : SubchannelState = record (with_allegiance_after_end s x) { begun = Some (with_first_end b) } in ends-by s y x q c None e (same-hold s y refl refl) tt))
    (stops-meets s b x q c e))
    (ignored x.path (end_up x) s)

end-meets : (storage : Contents) (s : SubchannelState) (x : EndSignal) → IsMet x.path (end_up x) s (takes_end storage s x)
end-meets storage s x =
    if-met x.path (end_up x) s (is_on s.hold.phase x.number) (ends_at_work storage s s.begun x) (signal_ignored s)
    (λ e. let at = on-phase s.hold.phase x.number e in ends_at_work-meets storage s s.begun x at.0 at.1 at.2)
    (ignored x.path (end_up x) s)

-- what the hold does alone
abbrev Stepped : ℕ → Up → HoldState → Option HoldStep → Type 0
Stepped p x h step = Meets p x h.phase (outcome_of step).taken (outcome_of step).sent (hold_after h step).phase

abbrev phased : HoldState → HoldPhase → HoldState
phased h phase = record h { phase = phase }

if-stepped : (p : ℕ) (x : Up) (h : HoldState) (b : Bool) (y z : Option HoldStep) → (b ≡ true → Stepped p x h y) → Stepped p x h z → Stepped p x h (if b then y else z)
if-stepped p x h true y z e f = e refl
if-stepped p x h false y z e f = f

no-step : (p : ℕ) (x : Up) (h : HoldState) → Stepped p x h None
no-step p x h = Ignored x h.phase

busy-stepped : (p : ℕ) (h : HoldState) (phase : HoldPhase) (u : ℕ) → Stepped p (up.Busy u) (phased h phase) (found_busy (phased h phase) phase u)
busy-stepped p h (hold.Offer t q) u =
    if-stepped p (up.Busy u) (phased h (hold.Offer t q)) (u == t) _ None (λ e. Turns (up.Busy u) (hold.Offer t q) hold.Free None tt (inr tt) tt)
    (no-step p (up.Busy u) (phased h (hold.Offer t q)))
busy-stepped p h other u = no-step p (up.Busy u) (phased h other)

left-stepped : (p : ℕ) (h : HoldState) (phase : HoldPhase) (u d : ℕ) → Stepped p (up.Leave u d) (phased h phase) (left (phased h phase) phase u d)
left-stepped p h (hold.On t q c) u d =
    if-stepped p (up.Leave u d) (phased h (hold.On t q c)) ((u == t) && (d == c)) _ None
    (λ e.
    let a = and_parts (u == t) (d == c) e in
    subst (λ (n : ℕ). Meets p (up.Leave n d) (hold.On t q c) true None (hold.Away t)) (sym (eqb-true u t a.0))
    (subst (λ (n : ℕ). Meets p (up.Leave t n) (hold.On t q c) true None (hold.Away t)) (sym (eqb-true d c a.1)) (Leaves t q c)))
    (no-step p (up.Leave u d) (phased h (hold.On t q c)))
left-stepped p h other u d = no-step p (up.Leave u d) (phased h other)

back-stepped : (p : ℕ) (h : HoldState) (phase : HoldPhase) (u c : ℕ) (may : Bool) → Stepped p (up.Back u c) (phased h phase) (asked_back (phased h phase) phase p u c may)
back-stepped p h (hold.On t q d) u c may =
    if-stepped p (up.Back u c) (phased h (hold.On t q d)) ((u == t) && nat_lt h.seen c) _ None
    (λ e. Turns (up.Back u c) (hold.On t q d) (hold.On t q d) _ tt (inl refl) (Refuses t c)) (no-step p (up.Back u c) (phased h (hold.On t q d)))
back-stepped p h (hold.Away t) u c may =
    if-stepped p (up.Back u c) (phased h (hold.Away t)) ((u == t) && nat_lt h.seen c) _ None
    (λ e.
    if-stepped p (up.Back u c) (phased h (hold.Away t)) may (Some (granting (phased h (hold.Away t)) p t c)) (Some (refusing (phased h (hold.Away t)) p t c))
    (λ f.
    subst (λ (n : ℕ). Meets p (up.Back n c) (hold.Away t) true (Some (record { path = p; signal = down.Grant t c })) (hold.On t p c))
    (sym (eqb-true u t (and_parts (u == t) (nat_lt h.seen c) e).0)) (Grants t c))
    (Turns (up.Back u c) (hold.Away t) (hold.Away t) _ tt (inl refl) (Refuses t c)))
    (no-step p (up.Back u c) (phased h (hold.Away t)))
back-stepped p h other u c may = no-step p (up.Back u c) (phased h other)

released-stepped : (p : ℕ) (h : HoldState) (phase : HoldPhase) (u : ℕ) → Stepped p (up.Released u) (phased h phase) (released (phased h phase) phase u)
released-stepped p h (hold.Letting t q) u =
    if-stepped p (up.Released u) (phased h (hold.Letting t q)) (u == t) _ None (λ e. Turns (up.Released u) (hold.Letting t q) hold.Free None tt (inr tt) tt)
    (no-step p (up.Released u) (phased h (hold.Letting t q)))
released-stepped p h other u = no-step p (up.Released u) (phased h other)

cleared-stepped : (p : ℕ) (h : HoldState) (phase : HoldPhase) (u : ℕ) → Stepped p (up.Cleared u) (phased h phase) (reset_cleared (phased h phase) phase u)
cleared-stepped p h (hold.Reset r) u =
    if-stepped p (up.Cleared u) (phased h (hold.Reset r)) (u == r) _ None (λ e. Turns (up.Cleared u) (hold.Reset r) hold.Free None tt (inr tt) tt)
    (no-step p (up.Cleared u) (phased h (hold.Reset r)))
cleared-stepped p h other u = no-step p (up.Cleared u) (phased h other)

attended-stepped : (p : ℕ) (h : HoldState) (phase : HoldPhase) (x : Up) (a : ℕ) (may : Bool) → IsPlainUp x → Stepped p x (phased h phase) (attended (phased h phase) phase p a may)
attended-stepped p h hold.Free x a may plain =
    if-stepped p x (phased h hold.Free) may _ None (λ e. Turns x hold.Free hold.Free _ plain (inl refl) (Answers a)) (no-step p x (phased h hold.Free))
attended-stepped p h (hold.Offer t q) x a may plain = no-step p x (phased h (hold.Offer t q))
attended-stepped p h (hold.On t q c) x a may plain = no-step p x (phased h (hold.On t q c))
attended-stepped p h (hold.Away t) x a may plain = no-step p x (phased h (hold.Away t))
attended-stepped p h (hold.Letting t q) x a may plain = no-step p x (phased h (hold.Letting t q))
attended-stepped p h (hold.Reset r) x a may plain = no-step p x (phased h (hold.Reset r))

reset-met : (p : ℕ) (x : Up) (s : SubchannelState) (step : Option HoldStep) → Stepped p x s.hold step → IsMet p x s (takes_cleared s step)
reset-met p x s None m = m
reset-met p x s (Some step) m =
    let next = record s { hold = step.state } in
    met-as p x s.hold.phase s.hold.phase step.state.phase (clear_performed next).hold.phase true step.sent step.sent refl (phase-of next (clear_performed next) (clear_performed-same next)) refl m

-- the hold is to be reset
pub reset-gone : (s : SubchannelState) (shows : Bool) → IsGone (reset_with s shows).hold.phase
reset-gone s true = tt
reset-gone s false = tt

notice-met : (p b : ℕ) (s : SubchannelState) → IsMet p (up.Notice b) s (takes_notice s b)
notice-met p b s =
    if-met p (up.Notice b) s (nat_lt s.hold.known_restarts b) (signal_taken (reset_for (with_known s b))) (signal_ignored s)
    (λ e. Turns (up.Notice b) s.hold.phase _ None tt
    (inr (reset-gone (with_known s b) (is_offered_or_held s.hold.phase && has_any s.waiting s.begun s.suspended))) tt)
    (ignored p (up.Notice b) s)

pub takes-meets : (returns : Bool) (storage : Contents) (s : SubchannelState) (p : ℕ) (x : Up) → IsMet p x s (takes_up returns storage s p x).step
takes-meets returns storage s p (up.Accept t) = accept-meets storage s s.hold s.hold.phase p t (takes_device s)
takes-meets returns storage s p (up.Busy t) = busy-stepped p s.hold s.hold.phase t
takes-meets returns storage s p (up.Leave t c) = left-stepped p s.hold s.hold.phase t c
takes-meets returns storage s p (up.Back t c) = back-stepped p s.hold s.hold.phase t c returns
takes-meets returns storage s p (up.Data load t c n seq) =
    let signal : DataSignal = record { path = p; number = t; connection = c; command = n; sequence = seq } in
    if-meets p (up.Data load t c n seq) s (is_connected s.hold.phase p t c) (moves_data storage s s.begun signal load) (with_storage storage (signal_ignored s))
    (λ e. move-meets storage s s.begun p t c n seq load (connected-phase s.hold.phase p t c e)) (ignored p (up.Data load t c n seq) s)
takes-meets returns storage s p (up.End t n status more) = end-meets storage s (record { path = p; number = t; command = n; status = status; more = more })
takes-meets returns storage s p (up.Released t) = released-stepped p s.hold s.hold.phase t
takes-meets returns storage s p (up.Cleared r) = reset-met p (up.Cleared r) s (hold_takes s.hold p (up.Cleared r) false) (cleared-stepped p s.hold s.hold.phase r)
takes-meets returns storage s p (up.Notice b) = notice-met p b s
takes-meets returns storage s p (up.Attn a status) =
    let step : Option HoldStep = hold_takes s.hold p (up.Attn a status) (may_take_attention s) in
    let next : SubchannelState = (hold_outcome s step).state in
    let shows : Bool = (outcome_of step).taken && not (status.0 == 0x20) in
    met-as p (up.Attn a status) s.hold.phase s.hold.phase next.hold.phase (with_attention next shows).hold.phase _ _ _ refl
    (phase-of next (with_attention next shows) (attention-same next shows)) refl
    (attended-stepped p s.hold s.hold.phase (up.Attn a status) a (may_take_attention s) tt)
