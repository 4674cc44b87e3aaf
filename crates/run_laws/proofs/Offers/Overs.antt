-- Where a program is offered, it is over by what was seen, or its Accept goes ahead.
use Rattle.std.proofs.Common.{◌≡◌, refl, sym, ◌∙◌, ap, subst, ℕ, ◌+◌, ◌==◌, ◌&&◌, ◌||◌, not, Bool, true, false, Option, None, Some, List, [], ◌∷◌, inl, inr}
use Rattle.std.specs.Prelude.{if◌then◌else◌, is_some, nat_lt, option_map, unwrap_or, slice_get, length, IfOk}
use Rattle.std.proofs.lemmas.Bool.{and_parts, eq-eqb, ne_eqb}
use Rattle.allegiance.specs.PathUse.{reachable_paths}
use Rattle.chan_model.specs.PathSets.{is_any}
use Rattle.orb_block.specs.declared.Orb.{Orb}
use Rattle.scsw_irb.specs.declared.scsw.Scsw.{Scsw}
use Rattle.storage_keys.specs.Storage.{Contents}
use Rattle.chan_model.specs.declared.answer.ConditionCode.TheVariants as code
use Rattle.chan_model.specs.declared.hold_state.HoldPhase.{HoldPhase}
use Rattle.chan_model.specs.declared.hold_state.HoldPhase.TheVariants as hold
use Rattle.chan_model.specs.declared.signal.Down.TheVariants as down
use Rattle.chan_model.specs.Signals.{Up}
use Rattle.chan_events.specs.declared.reply.Reply.TheVariants as reply
use Rattle.wires.specs.Queues.{queue}
use Rattle.subchannel_model.specs.declared.cause.StatusCause.TheVariants as cause
use Rattle.subchannel_model.specs.declared.state.Candidate.{Candidate}
use Rattle.subchannel_model.specs.declared.state.Chosen.{Chosen}
use Rattle.subchannel_model.specs.declared.state.Chosen.TheVariants.{Idle, Resets, PerformsClear, Halts, PerformsHalt, FindsNoPath, Offers}
use Rattle.subchannel_model.specs.declared.state.Program.{Program}
use Rattle.subchannel_model.specs.declared.state.ProgramPosition.{ProgramPosition}
use Rattle.subchannel_model.specs.declared.state.Subchannel.{Subchannel}
use Rattle.subchannel_model.specs.declared.state.SubchannelState.{SubchannelState}
use Rattle.subchannel_model.specs.Cancel.{cancelled, xsch_code}
use Rattle.subchannel_model.specs.Causes.{with_cause}
use Rattle.subchannel_model.specs.Choosing.{first_some, candidate, path_use, reset_chosen, clear_chosen, halt_at, offer_at, over_unless, chosen, unsent_reset, marked_sub, reset_sent, halt_sent, offered, halt_chosen, offer_chosen, starting, resuming}
use Rattle.subchannel_model.specs.Conditions.{condition_of}
use Rattle.subchannel_model.specs.Halt.{halted, hsch_code, shows_end}
use Rattle.subchannel_model.specs.Losing.{is_offered_or_held, reset_with, shows_at}
use Rattle.subchannel_model.specs.Programs.{without_programs, has_any}
use Rattle.subchannel_model.specs.Resume.{resumed}
use Rattle.subchannel_model.specs.Sending.{carried_by, finds_full}
use Rattle.subchannel_model.specs.Start.{started}
use Rattle.subchannel_model.specs.Status.{intermediate_alone, without_status}
use Rattle.subchannel_model.specs.Accept.{takes_device, offered_position, position_of_start, suspended_position, position_at_start}
use Rattle.subchannel_model.specs.Taking.{takes_up}
use Rattle.subchannel_model.specs.Test.{tested_scsw, ended_scsw, suspended_scsw, ends_suspended, tested, tested_wholly}
use Rattle.machine_model.specs.ChooseSteps.{choose_sub}
use Rattle.machine_model.specs.PathSteps.{swept}
use Rattle.machine_model.specs.Results.{SubResult, UpResult}
use Rattle.machine_model.specs.UpSteps.{up_front, up_sub}
use Rattle.machine_model.specs.declared.state.Sweep.{Sweep}
use Rattle.run_laws.proofs.Machine.SameHold.{cause-same}
use Rattle.run_laws.proofs.Machine.TraceEvents.{reset-phase}
use Rattle.run_laws.specs.BeginsItsOwn.{over_chosen}
use Rattle.run_laws.proofs.Signals.Meets.{phase-of, takes-meets}
use Rattle.run_laws.proofs.Signals.Overs.{start-over, test-over, halt-over, tested-phase, meets-offer, same-in}
use Rattle.run_laws.proofs.Signals.OwnSteps.{chosen-idle, offered-or}
use Rattle.run_laws.proofs.Signals.Starts.{Within, IsChosenBy, cause-within, takes-within, start-within, test-within, halt-within, reset-within, chosen-by}
use Rattle.run_laws.proofs.Traces.Sweeps.{swept-kept}
use Rattle.run_laws.proofs.Units.UnitActs.{if-ok}
use Rattle.run_laws.proofs.Links.Vanishing.{send-ok}
use Rattle.run_laws.proofs.Traces.Telling.{IsJust}

pub not-eqb : (a b : ℕ) → (a ≡ b → ⊥) → (a == b) ≡ false
not-eqb a b n = ne_eqb a b n

-- of one subchannel
abbrev pub Tied : Bool → SubchannelState → Type 0
Tied over s = (t q : ℕ) → s.hold.phase ≡ hold.Offer t q → IsJust over s

abbrev pub Owned : Bool → SubchannelState → Type 0
Owned over s = Within s × Tied over s

pub same-tied : (over next : Bool) (s x : SubchannelState) → x.hold.phase ≡ s.hold.phase → (IsJust over s → IsJust next x) → Tied over s → Tied next x
same-tied over next s x e f k = λ t q h. f (k t q (sym e ∙ h))

pub reset-tied : (over : Bool) (x : SubchannelState) (r : ℕ) → x.hold.phase ≡ hold.Reset r → Tied over x
reset-tied over x r e = λ t q h. absurd (cc (sym e ∙ h))

-- the instructions
pub halt-owned : (over : Bool) (s : SubchannelState) → hsch_code (condition_of (Some s)) ≡ code.Zero → Owned over s → Owned true (halted s)
halt-owned over s e k = (halt-within s k.0, λ t q h. halt-over s e)

pub cancel-owned : (over : Bool) (s : SubchannelState) → xsch_code (condition_of (Some s)) ≡ code.Zero → Owned over s → Owned true (cancelled s)
cancel-owned over s e k = ((k.0.0, tt, k.0.2, tt), λ t q h. inr refl)

pub start-owned : (over : Bool) (s : SubchannelState) (orb : Orb) → Owned over s → Owned true (started s orb)
start-owned over s orb k = (start-within s orb k.0, λ t q h. start-over s orb k.0)

-- a test
test-halt : (scsw : Scsw) (pending alone suspended halts : Bool) → not scsw.activity.halt_pending ≡ true →
    not (if not pending then scsw
    else (if alone then (if not suspended then without_status scsw else (if halts then ended_scsw scsw else suspended_scsw scsw)) else ended_scsw scsw)).activity.halt_pending ≡ true
test-halt scsw false b c d e = e
test-halt scsw true false c d e = refl
test-halt scsw true true false d e = e
test-halt scsw true true true true e = refl
test-halt scsw true true true false e = e

and-both : (a b : Bool) → a ≡ true → b ≡ true → (a && b) ≡ true
and-both true b e f = f
and-both false b e f = absurd (cc e)

test-ahead : (s : SubchannelState) → takes_device s ≡ true → takes_device (tested s) ≡ true
test-ahead s e =
    let parts = and_parts (is_some (offered_position s)) (not s.scsw.activity.halt_pending) e in
    and-both (is_some (offered_position s)) (not (tested_scsw s.scsw).activity.halt_pending) parts.0
    (test-halt s.scsw s.scsw.status.pending (intermediate_alone s.scsw.status) s.scsw.activity.suspended s.scsw.functions.halt parts.1)

test-just : (over : Bool) (s : SubchannelState) → IsJust over s → IsJust (over || ends_suspended s.scsw) (tested_wholly s)
test-just true s k = test-over s k
test-just false s k = by (ends_suspended s.scsw)
  where
    by : (b : Bool) → IsJust b (if b then without_programs (tested s) else tested s)
    by true = inr refl
    by false = test-ahead s k

pub test-owned : (over : Bool) (s : SubchannelState) → Owned over s → Owned (over || ends_suspended s.scsw) (tested_wholly s)
test-owned over s k = (test-within s k.0, same-tied over (over || ends_suspended s.scsw) s (tested_wholly s) (tested-phase s) (test-just over s) k.1)

pub resume-just : (over : Bool) (s : SubchannelState) → IsJust over s → IsJust over (resumed s)
resume-just true s k = k
resume-just false s k = k

-- Choose: what is offered stands, and no halt is pending
abbrev pub IsAhead : SubchannelState → Chosen → Type 0
IsAhead s (Offers c path) = (s.scsw.activity.halt_pending ≡ false) × (candidate s ≡ Some c)
IsAhead s c = Unit {0}

abbrev AreAhead : SubchannelState → Option Chosen → Type 0
AreAhead s None = Unit {0}
AreAhead s (Some c) = IsAhead s c

or-idle : (s : SubchannelState) (a : Option Chosen) → AreAhead s a → IsAhead s (unwrap_or a Idle)
or-idle s None k = tt
or-idle s (Some x) k = k

first-ahead : (s : SubchannelState) (a : Option Chosen) (later : List (Option Chosen)) → AreAhead s a → AreAhead s (first_some later) → AreAhead s (first_some (a ∷ later))
first-ahead s None later here after = after
first-ahead s (Some x) later here after = here

reset-ahead : (s : SubchannelState) (choice unsent : Option ℕ) → AreAhead s (reset_chosen unsent choice)
reset-ahead s choice None = tt
reset-ahead s None (Some r) = tt
reset-ahead s (Some path) (Some r) = tt

clear-ahead : (s : SubchannelState) (unsent : Option ℕ) (pending : Bool) → AreAhead s (clear_chosen unsent pending)
clear-ahead s None pending = tt
clear-ahead s (Some r) false = tt
clear-ahead s (Some r) true = tt

no-offer : (s : SubchannelState) (found : Option Candidate) (reachable : Bool) (choice : Option ℕ) (phase : HoldPhase) → ((c : Candidate) → AreAhead s (first_some (offer_at phase c reachable choice ∷ []))) →
    AreAhead s (first_some (offer_chosen phase found reachable choice ∷ []))
no-offer s None reachable choice phase f = tt
no-offer s (Some c) reachable choice phase f = f c

unless-ahead : (s : SubchannelState) (reachable : Bool) → AreAhead s (first_some (over_unless reachable ∷ []))
unless-ahead s true = tt
unless-ahead s false = tt

-- where a halt is pending none is offered
halting-ahead : (s : SubchannelState) (found : Option Candidate) (reachable : Bool) (choice : Option ℕ) (phase : HoldPhase) →
    AreAhead s (first_some (halt_at phase choice ∷ offer_chosen phase found reachable choice ∷ []))
halting-ahead s found reachable choice (hold.Offer t p) = no-offer s found reachable choice (hold.Offer t p) (λ c. tt)
halting-ahead s found reachable None (hold.Away t) = no-offer s found reachable None (hold.Away t) (λ c. tt)
halting-ahead s found reachable (Some path) (hold.Away t) = tt
halting-ahead s found reachable choice other = tt

offer_at-ahead : (s : SubchannelState) (c : Candidate) (reachable : Bool) (choice : Option ℕ) (phase : HoldPhase) → s.scsw.activity.halt_pending ≡ false → candidate s ≡ Some c →
    AreAhead s (first_some (offer_at phase c reachable choice ∷ []))
offer_at-ahead s c reachable None hold.Free h e = unless-ahead s reachable
offer_at-ahead s c reachable (Some path) hold.Free h e = (h, e)
offer_at-ahead s c reachable choice (hold.Reset r) h e = unless-ahead s reachable
offer_at-ahead s c reachable choice other h e = tt

offer-ahead : (s : SubchannelState) (found : Option Candidate) (reachable : Bool) (choice : Option ℕ) (phase : HoldPhase) → s.scsw.activity.halt_pending ≡ false → candidate s ≡ found →
    AreAhead s (first_some (offer_chosen phase found reachable choice ∷ []))
offer-ahead s None reachable choice phase h e = tt
offer-ahead s (Some c) reachable choice phase h e = offer_at-ahead s c reachable choice phase h e

rest-ahead : (s : SubchannelState) (pending : Bool) (found : Option Candidate) (reachable : Bool) (choice : Option ℕ) (phase : HoldPhase) → s.scsw.activity.halt_pending ≡ pending → candidate s ≡ found →
    AreAhead s (first_some (halt_chosen pending phase choice ∷ offer_chosen phase found reachable choice ∷ []))
rest-ahead s true found reachable choice phase h e = halting-ahead s found reachable choice phase
rest-ahead s false found reachable choice phase h e = offer-ahead s found reachable choice phase h e

pub chosen-ahead : (sub : Subchannel) (choice : Option ℕ) → IsAhead sub.state (chosen sub choice)
chosen-ahead sub choice =
    let s : SubchannelState = sub.state in
    or-idle s _
    (first-ahead s _ _ (reset-ahead s choice (unsent_reset s.hold))
    (first-ahead s _ _ (clear-ahead s (unsent_reset s.hold) s.scsw.activity.clear_pending)
    (rest-ahead s s.scsw.activity.halt_pending (candidate s) (is_any (reachable_paths (path_use sub))) choice s.hold.phase refl refl)))

-- it stands
suspended-stands : (st : ProgramPosition) → is_some (suspended_position (Some st) st.program.start) ≡ true
suspended-stands st = ap (λ (b : Bool). is_some (if b then Some st else None)) (eq-eqb st.program.start st.program.start refl)

either-stands : (w : Option Program) (st : ProgramPosition) → is_some (position_of_start w (Some st) st.program.start) ≡ true
either-stands None st = suspended-stands st
either-stands (Some program) st = by (program.start == st.program.start)
  where
    by : (b : Bool) → is_some (if b then Some (position_at_start program) else suspended_position (Some st) st.program.start) ≡ true
    by true = refl
    by false = suspended-stands st

waiting-stands : (program : Program) (st : Option ProgramPosition) → is_some (position_of_start (Some program) st program.start) ≡ true
waiting-stands program st = ap (λ (b : Bool). is_some (if b then Some (position_at_start program) else suspended_position st program.start)) (eq-eqb program.start program.start refl)

resuming-stands : (w : Option Program) (pending : Bool) (st : Option ProgramPosition) (c : Candidate) → first_some (resuming pending st ∷ []) ≡ Some c →
    is_some (position_of_start w st c.program.start) ≡ true
resuming-stands w false st c e = absurd (cc e)
resuming-stands w true None c e = absurd (cc e)
resuming-stands w true (Some st) c e =
    let same : st.program ≡ c.program = ap (λ (x : Option Program). unwrap_or x st.program) (ap (λ (o : Option Candidate). option_map (λ (y : Candidate). y.program) o) e) in
    subst (λ (p : Program). is_some (position_of_start w (Some st) p.start) ≡ true) same (either-stands w st)

found-stands : (w : Option Program) (first second : Bool) (st : Option ProgramPosition) (c : Candidate) → first_some (starting first w ∷ resuming second st ∷ []) ≡ Some c →
    is_some (position_of_start w st c.program.start) ≡ true
found-stands w false second st c e = resuming-stands w second st c e
found-stands None true second st c e = resuming-stands None second st c e
found-stands (Some program) true second st c e =
    let same : program ≡ c.program = ap (λ (x : Option Program). unwrap_or x program) (ap (λ (o : Option Candidate). option_map (λ (y : Candidate). y.program) o) e) in
    subst (λ (p : Program). is_some (position_of_start (Some program) st p.start) ≡ true) same (waiting-stands program st)

offers-tied : (s : SubchannelState) (c : Candidate) (path : ℕ) → s.scsw.activity.halt_pending ≡ false → candidate s ≡ Some c → Tied false (offered s c.program path)
offers-tied s c path h e = λ t q o.
    and-both (is_some (position_of_start s.waiting s.suspended c.program.start)) (not s.scsw.activity.halt_pending)
    (found-stands s.waiting s.scsw.activity.start_pending s.scsw.activity.resume_pending s.suspended c e) (ap not h)

abbrev pub IsTurn : Bool → SubResult → Type 0
IsTurn over t = Owned (over_chosen t.reply over) t.sub.state

not-offered : (over : Bool) (s x : SubchannelState) → ((t p : ℕ) → s.hold.phase ≡ hold.Offer t p → ⊥) → x.hold.phase ≡ s.hold.phase → Tied over x
not-offered over s x n e = λ t p h. absurd (n t p (sym e ∙ h))

choose-owned : (over : Bool) (sub : Subchannel) (c : Chosen) → IsChosenBy sub.state.starts c → IsAhead sub.state c → ((t p : ℕ) → sub.state.hold.phase ≡ hold.Offer t p → ⊥) → Owned over sub.state →
    IfOk (choose_sub sub c) (IsTurn over)
choose-owned over sub Idle m a n k = k
choose-owned over sub (Resets r path) m a n k =
    send-ok (IsTurn over) sub (reset_sent sub.state path) path (down.Reset r sub.state.hold.known_restarts) (reply.ResetSent r path)
    (k.0, not-offered over sub.state (reset_sent sub.state path) n (reset-phase sub.state.hold sub.state.hold.phase path))
choose-owned over sub PerformsClear m a n k = (cause-within sub.state cause.ClearDone tt k.0, not-offered over sub.state (with_cause sub.state cause.ClearDone) n refl)
choose-owned over sub (Halts t path) m a n k =
    send-ok (IsTurn over) sub (halt_sent sub.state) path (down.Halt t) (reply.HaltSent t path) (k.0, not-offered over sub.state (halt_sent sub.state) n refl)
choose-owned over sub PerformsHalt m a n k = (cause-within sub.state cause.HaltDone tt k.0, not-offered over sub.state (with_cause sub.state cause.HaltDone) n refl)
choose-owned over sub FindsNoPath m a n k = (
  cause-within sub.state cause.NoPath tt k.0,
  not-offered over sub.state (with_cause sub.state cause.NoPath) n
      (phase-of sub.state (with_cause sub.state cause.NoPath) (cause-same sub.state cause.NoPath)),
)
choose-owned over sub (Offers c path) m a n k =
    send-ok (IsTurn over) sub (offered sub.state c.program path) path (down.Select (sub.state.drawn + 1)) (reply.Offered (sub.state.drawn + 1) path c.resumes)
    ((m, k.0.1, k.0.2, k.0.3), offers-tied sub.state c path a.0 a.1)

marked-just : (over : Bool) (sub : Subchannel) (choice : Option ℕ) → IsJust over sub.state → IsJust over (marked_sub sub choice).state
marked-just true sub choice k = k
marked-just false sub choice k = k

marked-ahead : (sub : Subchannel) (choice : Option ℕ) (c : Chosen) → IsAhead sub.state c → IsAhead (marked_sub sub choice).state c
marked-ahead sub choice (Offers c path) k = k
marked-ahead sub choice other k = tt

pub chosen-owned : (over : Bool) (sub : Subchannel) (choice : Option ℕ) → Owned over sub.state → IfOk (choose_sub (marked_sub sub choice) (chosen sub choice)) (IsTurn over)
chosen-owned over sub choice k =
    let marked : Subchannel = marked_sub sub choice in
    let kept : Owned over marked.state = (k.0, same-tied over over sub.state marked.state refl (marked-just over sub choice) k.1) in
    elim (offered-or sub.state.hold.phase) [
      | inl o ↦ subst (λ (c : Chosen). IfOk (choose_sub marked c) (IsTurn over)) (sym (chosen-idle sub choice o.0 o.1 o.2)) kept
      | inr n ↦ choose-owned over marked (chosen sub choice) (chosen-by sub choice k.0) (marked-ahead sub choice (chosen sub choice) (chosen-ahead sub choice)) n kept
    ]

-- a signal that comes up
takes-tied : (over returns : Bool) (storage : Contents) (s : SubchannelState) (p : ℕ) (x : Up) → Tied over s → Tied over (takes_up returns storage s p x).step.state
takes-tied over returns storage s p x k = λ t q e.
    let step = (takes_up returns storage s p x).step in
    let old : s.hold.phase ≡ hold.Offer t q = meets-offer p x s.hold.phase step.outcome.taken step.outcome.sent step.state.hold.phase t q (takes-meets returns storage s p x) e in
    elim (same-in returns storage s t q p x old) [
      | inl same ↦ subst (λ (y : SubchannelState). IsJust over y) (sym same) (k t q old)
      | inr n ↦ absurd (n t q e)
    ]

front-owned : (over returns : Bool) (storage : Contents) (sub : Subchannel) (path : ℕ) (front : Option Up) → Owned over sub.state → IfOk (up_front returns storage sub path front) (λ t. Owned over t.sub.state)
front-owned over returns storage sub path None k = tt
front-owned over returns storage sub path (Some x) k =
    if-ok (λ (t : UpResult). Owned over t.sub.state) (finds_full sub.wires.down (carried_by sub (takes_up returns storage sub.state path x).step.outcome.sent)) _ _ tt
    (takes-within returns storage sub.state path x k.0, takes-tied over returns storage sub.state path x k.1)

pub up-owned : (over returns : Bool) (storage : Contents) (sub : Subchannel) (path : ℕ) → Owned over sub.state → IfOk (up_sub returns storage sub path) (λ t. Owned over t.sub.state)
up-owned over returns storage sub path k =
    if-ok (λ (t : UpResult). Owned over t.sub.state) (nat_lt path (length sub.setup.paths)) (up_front returns storage sub path (slice_get (queue sub.wires.up path) 0)) _
    (front-owned over returns storage sub path (slice_get (queue sub.wires.up path) 0) k) tt

-- a path is lost, or all is reset
reset-owned : (over : Bool) (s : SubchannelState) (shows : Bool) → Owned over s → Owned over (reset_with s shows)
reset-owned over s true k = (reset-within s true k.0, reset-tied over (reset_with s true) _ refl)
reset-owned over s false k = (reset-within s false k.0, reset-tied over (reset_with s false) _ refl)

pub same-just : (over : Bool) (s x : SubchannelState) → x.waiting ≡ s.waiting → x.suspended ≡ s.suspended → x.offered ≡ s.offered → x.scsw ≡ s.scsw → IsJust over s → IsJust over x
same-just true s x w st o c (inl h) = inl (ap (λ (y : Scsw). y.activity.halt_pending) c ∙ h.0, ap (λ (y : Scsw). shows_end y.status) c ∙ h.1)
same-just true s x w st o c (inr e) =
    inr (ap (λ (y : Option Program). position_of_start y x.suspended x.offered) w ∙ ap (λ (y : Option ProgramPosition). position_of_start s.waiting y x.offered) st
    ∙ ap (λ (y : ℕ). position_of_start s.waiting s.suspended y) o ∙ e)
same-just false s x w st o c e =
    ap (λ (y : Option Program). is_some (position_of_start y x.suspended x.offered) && not x.scsw.activity.halt_pending) w
    ∙ ap (λ (y : Option ProgramPosition). is_some (position_of_start s.waiting y x.offered) && not x.scsw.activity.halt_pending) st
    ∙ ap (λ (y : ℕ). is_some (position_of_start s.waiting s.suspended y) && not x.scsw.activity.halt_pending) o
    ∙ ap (λ (y : Scsw). is_some (offered_position s) && not y.activity.halt_pending) c ∙ e

pub swept-owned : (over : Bool) (what : Sweep) (x : Subchannel) → Owned over x.state → Owned over (swept what x).state
swept-owned over what x k =
    swept-kept x (λ y. Owned over y.state)
    (λ y path up g. (g.0, same-tied over over y.state (shows_at (Some path) up y).state refl (same-just over y.state (shows_at (Some path) up y).state refl refl refl refl) g.1))
    (λ path g. g)
    (λ wires g. reset-owned over x.state (is_offered_or_held x.state.hold.phase && has_any x.state.waiting x.state.begun x.state.suspended) g)
    (λ g. ((g.0.0, tt, tt, tt), reset-tied over _ _ refl)) what k
