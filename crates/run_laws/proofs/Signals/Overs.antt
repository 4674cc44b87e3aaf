-- An offer that is over: a halt is pending, or the start that was offered is no longer there. It stays over, and its Accept is answered by
-- Release.
use Rattle.std.proofs.Common.{◌≡◌, refl, sym, ◌∙◌, ap, subst, ℕ, ◌+◌, ◌==◌, ◌&&◌, ◌||◌, not, nat_lt, Bool, true, false, Option, None, Some, Result, Ok, Err, inl, inr, arith}
use Rattle.std.specs.Prelude.{◌⊎◌, if◌then◌else◌, is_some}
use Rattle.std.proofs.lemmas.Bool.{eqb-true, ne_eqb, and_left, and_right, and_parts}
use Rattle.chan_model.specs.declared.answer.ConditionCode.TheVariants as code
use Rattle.chan_model.specs.declared.hold_state.HoldPhase.{HoldPhase}
use Rattle.chan_model.specs.declared.hold_state.HoldPhase.TheVariants as hold
use Rattle.chan_model.specs.declared.hold_state.HoldState.{HoldState}
use Rattle.chan_model.specs.Signals.{Down, Up}
use Rattle.chan_model.specs.declared.signal.Down.TheVariants as down
use Rattle.chan_model.specs.declared.signal.OnPath.{OnPath}
use Rattle.chan_model.specs.declared.signal.Up.TheVariants as up
use Rattle.chan_events.specs.declared.reply.Reply.TheVariants as reply
use Rattle.chan_model.specs.ConditionCodes.{in_order}
use Rattle.chan_model.specs.HoldTable.{HoldStep, hold_after, outcome_of, program_begun, letting_go}
use Rattle.ccw_walk.specs.declared.program.Advance.{Advance}
use Rattle.ccw_walk.specs.declared.program.Advance.TheVariants as advance
use Rattle.ccw_walk.specs.Positions.{WalkPosition, after_acts}
use Rattle.ccw_walk.specs.Advancing.{advance_acts, advance_of_acts}
use Rattle.data_move.specs.Accesses as access
use Rattle.data_move.specs.Moving.{Moving}
use Rattle.ccw_walk.specs.declared.check.Check.{Check}
use Rattle.orb_block.specs.declared.Orb.{Orb}
use Rattle.storage_keys.specs.Storage.{Contents}
use Rattle.data_move.specs.declared.transfer.CommandStart.{CommandStart}
use Rattle.data_move.specs.declared.transfer.CommandStart.TheVariants as outcome
use Rattle.data_move.specs.declared.transfer.Transfer.{Transfer}
use Rattle.data_move.specs.declared.transfer.WithRoom.{WithRoom}
use Rattle.data_move.specs.Commands.{first_command, command_begins, begun_with_room, with_room, with_located}
use Rattle.subchannel_model.specs.declared.cause.StatusCause.TheVariants as cause
use Rattle.subchannel_model.specs.declared.state.Program.{Program}
use Rattle.subchannel_model.specs.declared.state.ProgramPosition.{ProgramPosition}
use Rattle.subchannel_model.specs.declared.state.SubchannelState.{SubchannelState}
use Rattle.subchannel_model.specs.declared.state.UpStep.{UpStep}
use Rattle.subchannel_model.specs.Causes.{with_cause}
use Rattle.subchannel_model.specs.Conditions.{condition_of}
use Rattle.subchannel_model.specs.Halt.{hsch_code, shows_end, halted, drops_status, status_dropped, halt_begun}
use Rattle.subchannel_model.specs.Losing.{reset_for}
use Rattle.subchannel_model.specs.Programs.{without_programs, has_any}
use Rattle.subchannel_model.specs.Start.{started}
use Rattle.subchannel_model.specs.Status.{intermediate_alone, without_status, serials_cleared}
use Rattle.subchannel_model.specs.Test.{ended_scsw, suspended_scsw, ends_suspended, tested, tested_wholly}
use Rattle.subchannel_model.specs.Taking.{takes_up}
use Rattle.subchannel_model.specs.Notice.{with_known}
use Rattle.subchannel_model.specs.Outcomes.{signal_taken, signal_ignored, device_released}
use Rattle.subchannel_model.specs.Accept.{offered_position, takes_device, position_at_start, with_path_used, first_ccw_outcome, begins_at, takes_accept}
use Rattle.subchannel_model.specs.Suspension.{program_suspended}
use Rattle.run_laws.proofs.Machine.SameHold.{suspending-same, cause-same}
use Rattle.run_laws.specs.BeginsItsOwn.{IsAnswered, IsAcceptRight}
use Rattle.run_laws.proofs.Signals.Meets.{Meets, Ignored, Turns, IsGone, IsPlainUp, releases, phase-of, reset-gone, takes-meets}
use Rattle.run_laws.proofs.Signals.Starts.{Within}

abbrev pub IsHalting : SubchannelState → Type 0
IsHalting s = (s.scsw.activity.halt_pending ≡ true) × (shows_end s.scsw.status ≡ false)

abbrev pub IsOver : SubchannelState → Type 0
IsOver s = IsHalting s ⊎ (offered_position s ≡ None)

-- where a program is offered, and what was seen says that it is over, it is
abbrev pub Tied : Bool → SubchannelState → Type 0
Tied over s = (t p : ℕ) → s.hold.phase ≡ hold.Offer t p → over ≡ true → IsOver s

pub over-stops : (s : SubchannelState) → IsOver s → takes_device s ≡ false
over-stops s (inl h) = and_right (is_some (offered_position s)) (not s.scsw.activity.halt_pending) (ap not h.0)
over-stops s (inr e) = and_left (is_some (offered_position s)) (not s.scsw.activity.halt_pending) (ap is_some e)

-- a later start
pub start-over : (s : SubchannelState) (orb : Orb) → Within s → IsOver (started s orb)
start-over s orb k =
    let program : Program = record { start = s.starts + 1; orb = orb; single_path = not s.pmcw.multipath } in
    let other : ((s.starts + 1) == s.offered) ≡ false = ne_eqb (s.starts + 1) s.offered (λ e. absurd (omega (arith, e, k.0))) in
    inr (ap (λ (b : Bool). if b then Some (position_at_start program) else None) other)

-- a test: status that stands beside a pending halt is none, or intermediate alone
shows-alone : (pending i a p q : Bool) → (pending && (not i || (a || (p || q)))) ≡ false → (pending && not (i && (not a && (not p && not q)))) ≡ false
shows-alone false i a p q e = refl
shows-alone true false a p q e = absurd (cc e)
shows-alone true true true p q e = absurd (cc e)
shows-alone true true false true q e = absurd (cc e)
shows-alone true true false false true e = absurd (cc e)
shows-alone true true false false false e = refl

abbrev tested_by : SubchannelState → Bool → Bool → Bool → Bool → SubchannelState
tested_by s pending alone suspended halts =
    let x : SubchannelState = record s {
      scsw = if not pending then s.scsw
          else (if alone then (if not suspended then without_status s.scsw else (if halts then ended_scsw s.scsw else suspended_scsw s.scsw)) else ended_scsw s.scsw);
      serials = serials_cleared s.serials;
    } in
    if pending && (alone && (suspended && halts)) then without_programs x else x

test-halting : (s : SubchannelState) (pending alone suspended halts : Bool) → (pending && not alone) ≡ false → IsHalting s → IsOver (tested_by s pending alone suspended halts)
test-halting s false b c d e h = inl h
test-halting s true false c d e h = absurd (cc e)
test-halting s true true false d e h = inl (h.0, refl)
test-halting s true true true true e h = inr refl
test-halting s true true true false e h = inl (h.0, refl)

test-stands : (s : SubchannelState) (b : Bool) (x : SubchannelState) → offered_position x ≡ None → IsOver (if b then without_programs x else x)
test-stands s true x e = inr refl
test-stands s false x e = inr e

pub test-over : (s : SubchannelState) → IsOver s → IsOver (tested_wholly s)
test-over s (inl h) =
    let st = s.scsw.status in
    test-halting s s.scsw.status.pending (intermediate_alone s.scsw.status) s.scsw.activity.suspended s.scsw.functions.halt
    (shows-alone st.pending st.intermediate st.alert st.primary st.secondary h.1) h
test-over s (inr e) = test-stands s (ends_suspended s.scsw) (tested s) e

-- a halt
if-over : (b : Bool) (x y : SubchannelState) → IsOver x → IsOver y → IsOver (if b then x else y)
if-over true x y e f = e
if-over false x y e f = f

in_order-one : (a b c : Bool) → in_order a b c ≡ code.Zero → b ≡ false
in_order-one false b c e = absurd (cc e)
in_order-one true true c e = absurd (cc e)
in_order-one true false c e = refl

pub halt-over : (s : SubchannelState) → hsch_code (condition_of (Some s)) ≡ code.Zero → IsOver (halted s)
halt-over s e =
    let shows : shows_end s.scsw.status ≡ false = in_order-one s.pmcw.enabled (shows_end s.scsw.status) (s.scsw.functions.halt || s.scsw.functions.clear) e in
    if-over (drops_status s.scsw) (status_dropped (halt_begun s)) (halt_begun s) (inl (refl, refl)) (inl (refl, shows))

pub halt-stays : (s : SubchannelState) → IsOver s → IsOver (halted s)
halt-stays s (inl h) = if-over (drops_status s.scsw) (status_dropped (halt_begun s)) (halt_begun s) (inl (refl, refl)) (inl (refl, h.1))
halt-stays s (inr e) = if-over (drops_status s.scsw) (status_dropped (halt_begun s)) (halt_begun s) (inr e) (inr e)

pub halted-phase : (s : SubchannelState) → (halted s).hold.phase ≡ s.hold.phase
halted-phase s = either (drops_status s.scsw)
  where
    either : (b : Bool) → (if b then status_dropped (halt_begun s) else halt_begun s).hold.phase ≡ s.hold.phase
    either true = refl
    either false = refl

pub tested-phase : (s : SubchannelState) → (tested_wholly s).hold.phase ≡ s.hold.phase
tested-phase s = either (ends_suspended s.scsw) (tested s)
  where
    either : (b : Bool) (x : SubchannelState) → (if b then without_programs x else x).hold.phase ≡ x.hold.phase
    either true x = refl
    either false x = refl

-- the first command
abbrev IsFirst : CommandStart → Type 0
IsFirst (outcome.Begins transfer) = transfer.command ≡ 1
IsFirst c = Unit {0}

begins-first : (walk : WalkPosition) (o : Option Advance) → IsFirst (command_begins walk 1 o)
begins-first walk (Some (advance.Takes ccw)) = refl
begins-first walk other = tt

first-first : (storage : Contents) (walk : WalkPosition) → IsFirst (first_command storage walk).outcome
first-first storage walk = begins-first (after_acts walk (advance_acts storage walk)) (advance_of_acts walk (advance_acts storage walk))

located-command : (t : Transfer) (r : Result Moving Check) → (with_located t r).command ≡ t.command
located-command t (Ok m) = refl
located-command t (Err c) = refl

if-command : (b : Bool) (t x y : Transfer) → x.command ≡ t.command → y.command ≡ t.command → (if b then x else y).command ≡ t.command
if-command true t x y e f = e
if-command false t x y e f = f

room-command : (b : Bool) (t : Transfer) (x y : WithRoom) → x.transfer.command ≡ t.command → y.transfer.command ≡ t.command → (if b then x else y).transfer.command ≡ t.command
room-command true t x y e f = e
room-command false t x y e f = f

begun-command : (storage : Contents) (t : Transfer) → (begun_with_room storage t).transfer.command ≡ t.command
begun-command storage t =
    let r : Result Moving Check = access.located storage t.walk.orb.key t.moving in
    room-command _ t (with_room storage t) (record { transfer = t; room = 0 })
    (if-command (is_some t.fault) t t (with_located t r) refl (located-command t r)) refl

-- Accept
lets-sent : (h : HoldState) (phase : HoldPhase) (t q c : ℕ) → phase ≡ hold.On t q c → (outcome_of (letting_go h phase)).sent ≡ releases t q
lets-sent h phase t q c e = subst (λ (y : HoldPhase). (outcome_of (letting_go h y)).sent ≡ releases t q) (sym e) refl

let-answered : (t q : ℕ) (x : SubchannelState) → x.hold.phase ≡ hold.On t q 0 → IsAnswered false t (device_released x).outcome.sent
let-answered t q x e = subst (λ (o : Option (OnPath Down)). IsAnswered false t o) (sym (lets-sent x.hold x.hold.phase t q 0 e)) (inl refl)

beginning-answered : (storage : Contents) (s : SubchannelState) (t q : ℕ) (st : ProgramPosition) (walk : WalkPosition) (c : CommandStart) → IsFirst c → s.hold.phase ≡ hold.On t q 0 →
    IsAnswered false t (first_ccw_outcome storage s q t st walk c).outcome.sent
beginning-answered storage s t q st walk (outcome.Begins transfer) f e =
    let x : WithRoom = begun_with_room storage transfer in
    inr (x.transfer.code, x.room, ap (λ (n : ℕ). down.Command t n x.transfer.code x.room) (begun-command storage transfer ∙ f))
beginning-answered storage s t q st walk outcome.Suspends f e =
    let x = program_suspended s st.program walk st.count in let-answered t q x (phase-of s x (suspending-same s st.program walk st.count) ∙ e)
beginning-answered storage s t q st walk (outcome.Stops check) f e =
    let x = with_cause s (cause.FetchFault walk.tried check st.count) in
    let-answered t q x (phase-of s x (cause-same s (cause.FetchFault walk.tried check st.count)) ∙ e)

begin-answered : (storage : Contents) (s : SubchannelState) (t q : ℕ) (st : Option ProgramPosition) → is_some st ≡ true → s.hold.phase ≡ hold.On t q 0 →
    IsAnswered false t (begins_at storage s q t st).outcome.sent
begin-answered storage s t q None h e = absurd (cc h)
begin-answered storage s t q (Some st) h e =
    beginning-answered storage s t q st (first_command storage st.walk).walk (first_command storage st.walk).outcome (first-first storage st.walk) e

either-answered : (over : Bool) (t : ℕ) (sent : Option (OnPath Down)) → (over ≡ true → ⊥) → IsAnswered false t sent → IsAnswered over t sent
either-answered true t sent n a = absurd (n refl)
either-answered false t sent n a = a

release-answered : (over : Bool) (t q : ℕ) → IsAnswered over t (releases t q)
release-answered true t q = refl
release-answered false t q = inl refl

abbrev pub with_hold : SubchannelState → HoldState → HoldPhase → SubchannelState
with_hold s h phase = record s { hold = record h { phase = phase } }

abbrev pub offer_begun : HoldState → ℕ → ℕ → Bool → Bool → Option HoldStep
offer_begun h t q may same = if same then Some (program_begun (record h { phase = hold.Offer t q }) t q may) else None

begun-answered : (storage : Contents) (s : SubchannelState) (h : HoldState) (t q u : ℕ) (over may same : Bool) → (same ≡ true → u ≡ t) → (may ≡ true → is_some (offered_position s) ≡ true) →
    (over ≡ true → may ≡ false) → (takes_accept storage (with_hold s h (hold.Offer t q)) (offer_begun h t q may same)).outcome.taken ≡ true →
    IsAnswered over u (takes_accept storage (with_hold s h (hold.Offer t q)) (offer_begun h t q may same)).outcome.sent
begun-answered storage s h t q u over true true e f g i =
    let n : u ≡ t = e refl in
    let x = record s { hold = record h { phase = hold.On t q 0; seen = 0; first_path = Some q }; pmcw = with_path_used s.pmcw q } in
    subst (λ (v : ℕ). IsAnswered over v (begins_at storage x q t (offered_position s)).outcome.sent) (sym n)
    (either-answered over t (begins_at storage x q t (offered_position s)).outcome.sent (λ y. absurd (cc (g y))) (begin-answered storage x t q (offered_position s) (f refl) refl))
begun-answered storage s h t q u over false true e f g i = subst (λ (v : ℕ). IsAnswered over v (releases t q)) (sym (e refl)) (release-answered over t q)
begun-answered storage s h t q u over may false e f g i = absurd (cc i)

accept-answered : (returns : Bool) (storage : Contents) (s : SubchannelState) (h : HoldState) (phase : HoldPhase) (p u : ℕ) (over : Bool) → Tied over (with_hold s h phase) →
    (takes_up returns storage (with_hold s h phase) p (up.Accept u)).step.outcome.taken ≡ true →
    IsAnswered over u (takes_up returns storage (with_hold s h phase) p (up.Accept u)).step.outcome.sent
accept-answered returns storage s h (hold.Offer t q) p u over k i =
    begun-answered storage s h t q u over (takes_device s) (u == t) (λ e. eqb-true u t e)
    (λ e. (and_parts (is_some (offered_position s)) (not s.scsw.activity.halt_pending) e).0)
    (λ e. over-stops (with_hold s h (hold.Offer t q)) (k t q refl e)) i
accept-answered returns storage s h other p u over k i = absurd (cc i)

taken-right : (over taken : Bool) (u : ℕ) (sent : Option (OnPath Down)) → (taken ≡ true → IsAnswered over u sent) → IsAcceptRight (reply.Up (up.Accept u) taken sent) over
taken-right over true u sent f = f refl
taken-right over false u sent f = tt

pub takes-right : (returns : Bool) (storage : Contents) (s : SubchannelState) (p : ℕ) (x : Up) (over : Bool) → Tied over s →
    IsAcceptRight (reply.Up x (takes_up returns storage s p x).step.outcome.taken (takes_up returns storage s p x).step.outcome.sent) over
takes-right returns storage s p (up.Accept t) over k =
    let step : UpStep = (takes_up returns storage s p (up.Accept t)).step in
    taken-right over step.outcome.taken t step.outcome.sent (accept-answered returns storage s s.hold s.hold.phase p t over k)
takes-right returns storage s p (up.Busy t) over k = tt
takes-right returns storage s p (up.Leave t c) over k = tt
takes-right returns storage s p (up.Back t c) over k = tt
takes-right returns storage s p (up.Data load t c n seq) over k = tt
takes-right returns storage s p (up.End t n status more) over k = tt
takes-right returns storage s p (up.Released t) over k = tt
takes-right returns storage s p (up.Cleared r) over k = tt
takes-right returns storage s p (up.Notice b) over k = tt
takes-right returns storage s p (up.Attn a status) over k = tt

-- an offer stays only where nothing changed
pub gone-offer : (phase : HoldPhase) (t q : ℕ) → IsGone phase → phase ≡ hold.Offer t q → ⊥
gone-offer phase t q g e = subst (λ (y : HoldPhase). IsGone y) e g

pub meets-offer : (p : ℕ) (x : Up) (phase : HoldPhase) (taken : Bool) (sent : Option (OnPath Down)) (next : HoldPhase) (t q : ℕ) → Meets p x phase taken sent next → next ≡ hold.Offer t q →
    phase ≡ hold.Offer t q
meets-offer p _ _ _ _ _ t q (Ignored x phase) e = e
meets-offer p _ _ _ _ _ t q (Turns x phase next sent plain (inl same) quiet) e = sym same ∙ e
meets-offer p _ _ _ _ _ t q (Turns x phase next sent plain (inr gone) quiet) e = absurd (gone-offer next t q gone e)
meets-offer p _ _ _ _ _ t q other e = absurd (cc e)

-- nothing changed, or no program is offered any more
abbrev pub IsSameOr : SubchannelState → SubchannelState → Type 0
IsSameOr s y = (y ≡ s) ⊎ ((t q : ℕ) → y.hold.phase ≡ hold.Offer t q → ⊥)

if-same : (s : SubchannelState) (b : Bool) (x y : UpStep) → IsSameOr s x.state → IsSameOr s y.state → IsSameOr s (if b then x else y).state
if-same s true x y e f = e
if-same s false x y e f = f

starts-taken : (storage : Contents) (s : SubchannelState) (p t : ℕ) (st : ProgramPosition) (walk : WalkPosition) (c : CommandStart) → (first_ccw_outcome storage s p t st walk c).outcome.taken ≡ true
starts-taken storage s p t st walk (outcome.Begins transfer) = refl
starts-taken storage s p t st walk outcome.Suspends = refl
starts-taken storage s p t st walk (outcome.Stops check) = refl

pub begin-taken : (storage : Contents) (s : SubchannelState) (p t : ℕ) (o : Option ProgramPosition) → (begins_at storage s p t o).outcome.taken ≡ true
begin-taken storage s p t None = refl
begin-taken storage s p t (Some st) = starts-taken storage s p t st (first_command storage st.walk).walk (first_command storage st.walk).outcome

pub meets-accept : (p u : ℕ) (x : Up) (phase : HoldPhase) (taken : Bool) (sent : Option (OnPath Down)) (next : HoldPhase) (t q : ℕ) → x ≡ up.Accept u → taken ≡ true → Meets p x phase taken sent next →
    next ≡ hold.Offer t q → ⊥
meets-accept p u _ _ _ _ _ t q h i (Ignored x phase) e = absurd (cc i)
meets-accept p u _ _ _ _ _ t q h i (Turns x phase next sent plain stays quiet) e = subst (λ (y : Up). IsPlainUp y) h plain
meets-accept p u _ _ _ _ _ t q h i other e = absurd (cc e)

begun-same : (storage : Contents) (s : SubchannelState) (h : HoldState) (p t q u : ℕ) (may same : Bool) →
    Meets p (up.Accept u) (hold.Offer t q) (takes_accept storage (with_hold s h (hold.Offer t q)) (offer_begun h t q may same)).outcome.taken
    (takes_accept storage (with_hold s h (hold.Offer t q)) (offer_begun h t q may same)).outcome.sent
    (takes_accept storage (with_hold s h (hold.Offer t q)) (offer_begun h t q may same)).state.hold.phase →
    IsSameOr (with_hold s h (hold.Offer t q)) (takes_accept storage (with_hold s h (hold.Offer t q)) (offer_begun h t q may same)).state
begun-same storage s h p t q u true true m =
    let x = record s { hold = record h { phase = hold.On t q 0; seen = 0; first_path = Some q }; pmcw = with_path_used s.pmcw q } in
    inr (λ v w e. meets-accept p u (up.Accept u) _ _ _ _ v w refl (begin-taken storage x q t (offered_position s)) m e)
begun-same storage s h p t q u false true m = inr (λ v w e. meets-accept p u (up.Accept u) _ _ _ _ v w refl refl m e)
begun-same storage s h p t q u may false m = inl refl

same-at : (returns : Bool) (storage : Contents) (s : SubchannelState) (h : HoldState) (t q p : ℕ) (x : Up) →
    IsSameOr (with_hold s h (hold.Offer t q)) (takes_up returns storage (with_hold s h (hold.Offer t q)) p x).step.state
same-at returns storage s h t q p (up.Accept u) =
    begun-same storage s h p t q u (takes_device s) (u == t) (takes-meets returns storage (with_hold s h (hold.Offer t q)) p (up.Accept u))
same-at returns storage s h t q p (up.Busy u) = either (u == t)
  where
    x : SubchannelState
    x = with_hold s h (hold.Offer t q)

    either : (b : Bool) → IsSameOr x (record x { hold = hold_after x.hold (if b then Some (record { state = record x.hold { phase = hold.Free }; sent = None }) else None) })
    either true = inr (λ v w e. absurd (cc e))
    either false = inl refl
same-at returns storage s h t q p (up.Leave u c) = inl refl
same-at returns storage s h t q p (up.Back u c) = inl refl
same-at returns storage s h t q p (up.Data load u c n seq) = inl refl
same-at returns storage s h t q p (up.End u n status more) = inl refl
same-at returns storage s h t q p (up.Released u) = inl refl
same-at returns storage s h t q p (up.Cleared r) = inl refl
same-at returns storage s h t q p (up.Notice b) =
    let x : SubchannelState = with_hold s h (hold.Offer t q) in
    if-same x (nat_lt h.known_restarts b) (signal_taken (reset_for (with_known x b))) (signal_ignored x)
    (inr (λ v w e. gone-offer (reset_for (with_known x b)).hold.phase v w (reset-gone (with_known x b) (true && has_any s.waiting s.begun s.suspended)) e)) (inl refl)
same-at returns storage s h t q p (up.Attn a status) = inl refl

pub same-in : (returns : Bool) (storage : Contents) (s : SubchannelState) (t q p : ℕ) (x : Up) → s.hold.phase ≡ hold.Offer t q → IsSameOr s (takes_up returns storage s p x).step.state
same-in returns storage s t q p x e =
    subst (λ (y : HoldPhase). IsSameOr (with_hold s s.hold y) (takes_up returns storage (with_hold s s.hold y) p x).step.state) (sym e)
    (same-at returns storage s s.hold t q p x)

pub takes-tied : (returns : Bool) (storage : Contents) (s : SubchannelState) (p : ℕ) (x : Up) (over : Bool) → Tied over s → Tied over (takes_up returns storage s p x).step.state
takes-tied returns storage s p x over k = λ t q e o.
    let step : UpStep = (takes_up returns storage s p x).step in
    let old : s.hold.phase ≡ hold.Offer t q = meets-offer p x s.hold.phase step.outcome.taken step.outcome.sent step.state.hold.phase t q (takes-meets returns storage s p x) e in
    elim (same-in returns storage s t q p x old) [
      | inl same ↦ subst (λ (y : SubchannelState). IsOver y) (sym same) (k t q old o)
      | inr n ↦ absurd (n t q e)
    ]
