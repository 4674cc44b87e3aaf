-- What is told of the starts of a subchannel stays true with each event.
use Rattle.std.proofs.Common.{◌≡◌, refl, sym, ◌∙◌, ap, subst, ℕ, ◌+◌, ◌<◌, Bool, true, false, Option, None, Some, List, [], ◌∷◌, ◌++◌, length, arith, inl, inr}
use Rattle.std.specs.Prelude.{◌⊎◌, AllPairs, Contains, IfOk, nat_lt, if◌then◌else◌, slice_get}
use Rattle.std.proofs.lemmas.List.Elements.{All-contains_itself, Contains-append_left, Contains-append_right}
use Rattle.storage_keys.specs.Storage.{Contents}
use Rattle.orb_block.specs.declared.Orb.{Orb}
use Rattle.chan_model.specs.declared.hold_state.HoldPhase.{HoldPhase}
use Rattle.chan_model.specs.declared.hold_state.HoldPhase.TheVariants as hold
use Rattle.chan_model.specs.declared.hold_state.HoldState.{HoldState}
use Rattle.chan_model.specs.ResetCauses.{is_held}
use Rattle.chan_model.specs.declared.names.Side.{Side}
use Rattle.chan_model.specs.declared.answer.ConditionCode.{ConditionCode}
use Rattle.chan_model.specs.declared.answer.ConditionCode.TheVariants as code
use Rattle.chan_events.specs.declared.reply.Reply.TheVariants as reply
use Rattle.chan_model.specs.Signals.{Down, Up}
use Rattle.chan_model.specs.declared.signal.Down.TheVariants as down
use Rattle.chan_model.specs.declared.signal.OnPath.{OnPath}
use Rattle.chan_model.specs.declared.signal.Up.TheVariants as up
use Rattle.chan_model.specs.declared.unit_state.Own.{Own}
use Rattle.chan_model.specs.declared.unit_state.Own.TheVariants as own
use Rattle.chan_model.specs.declared.unit_state.UnitState.{UnitState}
use Rattle.chan_model.specs.HoldTable.{sending_reset, hold_after}
use Rattle.chan_model.specs.UnitTable.{UnitStep, outcome_of, side_of, raised, selected, telling, unit_takes, unit_works}
use Rattle.wires.specs.Queues.{queue}
use Rattle.schib_block.specs.declared.pmcw.Pmcw as block
use Rattle.agreement_laws.specs.Claims.{IsPassed}
use Rattle.agreement_laws.specs.Links.{Links, link_of, with_signal, with_accepted}
use Rattle.subchannel_model.specs.declared.cause.StatusCause.TheVariants as cause
use Rattle.subchannel_model.specs.declared.state.ActiveProgram.{ActiveProgram}
use Rattle.subchannel_model.specs.declared.state.Candidate.{Candidate}
use Rattle.subchannel_model.specs.declared.state.Chosen.{Chosen}
use Rattle.subchannel_model.specs.declared.state.Chosen.TheVariants as chosen_is
use Rattle.subchannel_model.specs.declared.state.Subchannel.{Subchannel}
use Rattle.subchannel_model.specs.declared.state.SubchannelState.{SubchannelState}
use Rattle.subchannel_model.specs.Causes.{with_cause}
use Rattle.scsw_irb.specs.declared.scsw.Scsw.{Scsw}
use Rattle.subchannel_model.specs.declared.state.PmcwState.{PmcwState}
use Rattle.subchannel_model.specs.Choosing.{IsFitFor, marked_sub, reset_sent, halt_sent, offered}
use Rattle.subchannel_model.specs.Test.{ends_suspended, tested}
use Rattle.subchannel_model.specs.Programs.{without_programs}
use Rattle.subchannel_model.specs.Resume.{resumed}
use Rattle.subchannel_model.specs.Halt.{drops_status, status_dropped, halt_begun}
use Rattle.subchannel_model.specs.Clear.{cleared}
use Rattle.subchannel_model.specs.Cancel.{cancelled}
use Rattle.subchannel_model.specs.Modify.{modified_state}
use Rattle.subchannel_model.specs.Start.{started}
use Rattle.machine_model.specs.InstructionSteps.{test_with, function_sub}
use Rattle.machine_model.specs.ChooseSteps.{choose_sub}
use Rattle.subchannel_model.specs.Sending.{carried_by, finds_full}
use Rattle.machine_model.specs.UpSteps.{up_front, up_sub}
use Rattle.subchannel_model.specs.Taking.{takes_up}
use Rattle.run_laws.specs.Beginnings.{StartCounts, with_offer, with_taken, with_start, starts_with_answer}
use Rattle.run_laws.proofs.Machine.Moves.{if-ok}
use Rattle.run_laws.proofs.Machine.Tales.{IsAccepted, AreSpent, AreSpentBut, IsTold, told-wider, told-same, told-turned, told-start, told-offer, told-resume, busy-spent, begun-of}
use Rattle.run_laws.proofs.Machine.Waits.{IsBegunHeld, Waits, Turned, IsCalm, kept, none, cause-calm, without_waiting-begun, none-held, held-on, moved-as, calm-turned}
use Rattle.run_laws.proofs.Machine.WaitsUp.{takes-turned}
use Rattle.step_laws.specs.Walks.{Function, Resumes, Halts, Clears, Cancels, effect_of, IsFound, IsForProgram}
use Rattle.run_laws.proofs.Traces.Sequences.{backward}

-- Select is answered by an Accept of its own number, or by no Accept
abbrev IsAcceptOf : ℕ → Up → Type 0
IsAcceptOf t (up.Accept u) = u ≡ t
IsAcceptOf t signal = Unit {0}

abbrev IsOfSelect : ℕ → Option (OnPath Up) → Type 0
IsOfSelect t None = Unit {0}
IsOfSelect t (Some x) = IsAcceptOf t x.signal

abbrev IsOfDown : Down → Option (OnPath Up) → Type 0
IsOfDown (down.Select t) one = IsOfSelect t one
IsOfDown signal one = Unit {0}

if-select : (t : ℕ) (b : Bool) (x y : Option UnitStep) → IsOfSelect t (outcome_of x).sent → IsOfSelect t (outcome_of y).sent → IsOfSelect t (outcome_of (if b then x else y)).sent
if-select t true x y e f = e
if-select t false x y e f = f

selected-of : (u : UnitState) (o : Own) (side : Side) (p t : ℕ) (may : Bool) → IsOfSelect t (outcome_of (selected u o side p t may)).sent
selected-of u own.Idle side p t true = refl
selected-of u own.Idle side p t false = tt
selected-of u (own.Owned k v connection) side p t may = tt

pub takes-of : (u : UnitState) (side : Side) (p : ℕ) (d : Down) (may : Bool) → IsOfDown d (outcome_of (unit_takes u side p d may)).sent
takes-of u side p (down.Select t) may =
    if-select t (side_of u side).fresh (telling u p) (unit_works u side p (down.Select t) may) tt
    (if-select t (nat_lt (side_of u side).floor t) (selected (raised u side t) u.own side p t may) None (selected-of (raised u side t) u.own side p t may) tt)
takes-of u side p (down.Command t n code room) may = tt
takes-of u side p (down.Grant t c) may = tt
takes-of u side p (down.Refuse t c) may = tt
takes-of u side p (down.Took t n s room) may = tt
takes-of u side p (down.Give bytes t c n s) may = tt
takes-of u side p (down.Halt t) may = tt
takes-of u side p (down.Release t) may = tt
takes-of u side p (down.Reset r c) may = tt
takes-of u side p (down.Got a) may = tt

-- what was accepted, with what is sent
signal-wider : (ts : List ℕ) (x : Up) (t : ℕ) → Contains ts t → Contains (with_signal ts x) t
signal-wider ts (up.Accept u) t c = Contains-append_left ts (u ∷ []) t c
signal-wider ts (up.Busy u) t c = c
signal-wider ts (up.Leave u d) t c = c
signal-wider ts (up.Back u d) t c = c
signal-wider ts (up.Data load u d n s) t c = c
signal-wider ts (up.End u n status more) t c = c
signal-wider ts (up.Released u) t c = c
signal-wider ts (up.Cleared r) t c = c
signal-wider ts (up.Notice b) t c = c
signal-wider ts (up.Attn a status) t c = c

pub accepted-wider : (ts : List ℕ) (one : Option (OnPath Up)) (t : ℕ) → Contains ts t → Contains (with_accepted ts one) t
accepted-wider ts None t c = c
accepted-wider ts (Some x) t c = signal-wider ts x.signal t c

-- what is told of a subchannel after its unit took a signal, or sent another
pub record Wide (v w : Links) (side : Side) (one : Option (OnPath Up)) : Type 0 where
  pub passed : (t : ℕ) → IsPassed v side t → IsPassed w side t
  pub accepted : (t : ℕ) → IsAccepted v side t → IsAccepted w side t
  pub once : AllPairs (λ a b. a < b) (link_of w side).accepted
  pub list : (link_of w side).accepted ≡ with_accepted (link_of v side).accepted one

wide-told : (k : StartCounts) (s : SubchannelState) (v w : Links) (side : Side) (one : Option (OnPath Up)) → Wide v w side one → IsTold k s v side → IsTold k s w side
wide-told k s v w side one h t = told-wider k s v w side h.passed h.accepted t

answer-told : (k : StartCounts) (s : SubchannelState) (v w : Links) (side : Side) (t p : ℕ) (x : Up) → Wide v w side (Some (record { path = p; signal = x })) → IsAcceptOf t x →
    IsTold k s v side → IsTold (starts_with_answer t x k) s w side
answer-told k s v w side t p (up.Accept u) h e told =
    let list : (link_of w side).accepted ≡ (link_of v side).accepted ++ t ∷ [] = h.list ∙ ap (λ (n : ℕ). (link_of v side).accepted ++ n ∷ []) e in
    begun-of k s v w side t k.offers h.passed h.accepted (subst (λ (ts : List ℕ). AllPairs (λ a b. a < b) ts) list h.once)
    (subst (λ (ts : List ℕ). Contains ts t) (sym list) (Contains-append_right (link_of v side).accepted (t ∷ []) t (0, omega arith, refl)))
    (All-contains_itself (backward k.offers)) told
answer-told k s v w side t p (up.Busy u) h e told = wide-told k s v w side _ h told
answer-told k s v w side t p (up.Leave u d) h e told = wide-told k s v w side _ h told
answer-told k s v w side t p (up.Back u d) h e told = wide-told k s v w side _ h told
answer-told k s v w side t p (up.Data load u d n q) h e told = wide-told k s v w side _ h told
answer-told k s v w side t p (up.End u n status more) h e told = wide-told k s v w side _ h told
answer-told k s v w side t p (up.Released u) h e told = wide-told k s v w side _ h told
answer-told k s v w side t p (up.Cleared r) h e told = wide-told k s v w side _ h told
answer-told k s v w side t p (up.Notice b) h e told = wide-told k s v w side _ h told
answer-told k s v w side t p (up.Attn a status) h e told = wide-told k s v w side _ h told

sent-told : (k : StartCounts) (s : SubchannelState) (v w : Links) (side : Side) (t : ℕ) (one : Option (OnPath Up)) → Wide v w side one → IsOfSelect t one → IsTold k s v side →
    IsTold (with_taken (reply.Down (down.Select t) true one) k) s w side
sent-told k s v w side t None h e told = wide-told k s v w side None h told
sent-told k s v w side t (Some x) h e told = answer-told k s v w side t x.path x.signal h e told

pub taken-told : (k : StartCounts) (s : SubchannelState) (v w : Links) (side : Side) (d : Down) (taken : Bool) (one : Option (OnPath Up)) → Wide v w side one → IsOfDown d one →
    IsTold k s v side → IsTold (with_taken (reply.Down d taken one) k) s w side
taken-told k s v w side (down.Select t) true one h e told = sent-told k s v w side t one h e told
taken-told k s v w side (down.Select t) false one h e told = wide-told k s v w side one h told
taken-told k s v w side (down.Command t n code room) taken one h e told = wide-told k s v w side one h told
taken-told k s v w side (down.Grant t c) taken one h e told = wide-told k s v w side one h told
taken-told k s v w side (down.Refuse t c) taken one h e told = wide-told k s v w side one h told
taken-told k s v w side (down.Took t n q room) taken one h e told = wide-told k s v w side one h told
taken-told k s v w side (down.Give bytes t c n q) taken one h e told = wide-told k s v w side one h told
taken-told k s v w side (down.Halt t) taken one h e told = wide-told k s v w side one h told
taken-told k s v w side (down.Release t) taken one h e told = wide-told k s v w side one h told
taken-told k s v w side (down.Reset r c) taken one h e told = wide-told k s v w side one h told
taken-told k s v w side (down.Got a) taken one h e told = wide-told k s v w side one h told

-- what a subchannel does keeps what is told, where the Busy signals that wait are passed
abbrev pub AreBusyPassed : Subchannel → Links → Side → Type 0
AreBusyPassed sub w side = (p t : ℕ) → slice_get (queue sub.wires.up p) 0 ≡ Some (up.Busy t) → IsPassed w side t

abbrev pub Tells : Subchannel → SubchannelState → StartCounts → StartCounts → Type 0
Tells sub x k next = (w : Links) (side : Side) → AreBusyPassed sub w side → IsTold k sub.state w side → IsTold next x w side

pub tells-same : (sub : Subchannel) (k : StartCounts) → Tells sub sub.state k k
tells-same sub k w side b t = t

tells-turned : (sub : Subchannel) (x : SubchannelState) (k : StartCounts) →
    ((w : Links) (side : Side) → Waits (AreSpent w side k) (AreSpentBut w side k) sub.state → Turned (AreSpent w side k) (AreSpentBut w side k) sub.state x) → Tells sub x k k
tells-turned sub x k f w side b t = told-turned k sub.state x w side (f w side t.waits) t

-- instructions
pub start-tells : (sub : Subchannel) (orb : Orb) (c : ConditionCode) (k : StartCounts) → Tells sub (function_sub sub c (started sub.state orb)).sub.state k (with_start (function_sub sub c (started sub.state orb)).reply k)
start-tells sub orb code.Zero k w side b t = told-start k sub.state orb w side t
start-tells sub orb c k w side b t = t

calm-tells : (sub : Subchannel) (x : SubchannelState) (k : StartCounts) → IsCalm sub.state x → x.begun ≡ None ⊎ (x.begun ≡ sub.state.begun) → Tells sub x k k
calm-tells sub x k c g =
    tells-turned sub x k
    (λ w side h. calm-turned (AreSpent w side k) (AreSpentBut w side k) sub.state x c h.waiting
    (elim g [
      | inl e ↦ none-held x.begun x.hold.phase e
      | inr e ↦ subst (λ (y : Option ActiveProgram). IsBegunHeld y x.hold.phase) (sym e)
          (subst (λ (g : HoldState). IsBegunHeld sub.state.begun g.phase) (sym c.hold) h.begun)
    ]))

if-tells : (sub : Subchannel) (b : Bool) (x y : SubchannelState) (k : StartCounts) → Tells sub x k k → Tells sub y k k → Tells sub (if b then x else y) k k
if-tells sub true x y k e f = e
if-tells sub false x y k e f = f

pub test-tells : (sub : Subchannel) (c : ConditionCode) (k : StartCounts) → Tells sub (test_with sub c).sub.state k k
test-tells sub code.Zero k =
    if-tells sub (ends_suspended sub.state.scsw) (without_programs (tested sub.state)) (tested sub.state) k
    (calm-tells sub (without_programs (tested sub.state)) k (none sub.state (without_programs (tested sub.state)) refl refl refl refl refl) (inl refl))
    (calm-tells sub (tested sub.state) k (kept sub.state (tested sub.state) refl refl refl refl refl) (inr refl))
test-tells sub c k = tells-same sub k

pub modify-tells : (sub : Subchannel) (given : block.Pmcw) (c : ConditionCode) (k : StartCounts) → Tells sub (function_sub sub c (modified_state sub given)).sub.state k k
modify-tells sub given code.Zero k =
    calm-tells sub (modified_state sub given) k (kept sub.state (modified_state sub given) refl refl refl refl refl) (inr refl)
modify-tells sub given c k = tells-same sub k

effect-tells : (sub : Subchannel) (f : Function) (k : StartCounts) → Tells sub (effect_of f sub.state) k k
effect-tells sub Resumes k = calm-tells sub (resumed sub.state) k (kept sub.state (resumed sub.state) refl refl refl refl refl) (inr refl)
effect-tells sub Halts k =
    if-tells sub (drops_status sub.state.scsw) (status_dropped (halt_begun sub.state)) (halt_begun sub.state) k
    (calm-tells sub (status_dropped (halt_begun sub.state)) k (kept sub.state (status_dropped (halt_begun sub.state)) refl refl refl refl refl) (inr refl))
    (calm-tells sub (halt_begun sub.state) k (kept sub.state (halt_begun sub.state) refl refl refl refl refl) (inr refl))
effect-tells sub Clears k = λ w side b t. told-same k sub.state (cleared sub.state) w side refl (omega arith) (record { waiting = tt; begun = tt }) t
effect-tells sub Cancels k = calm-tells sub (cancelled sub.state) k (none sub.state (cancelled sub.state) refl refl refl refl refl) (inr refl)

pub function-tells : (sub : Subchannel) (f : Function) (c : ConditionCode) (k : StartCounts) → Tells sub (function_sub sub c (effect_of f sub.state)).sub.state k k
function-tells sub f code.Zero k = effect-tells sub f k
function-tells sub f c k = tells-same sub k

-- Choose
pub reset-phase : (h : HoldState) (phase : HoldPhase) (path : ℕ) → (hold_after h (sending_reset h phase path)).phase ≡ h.phase
reset-phase h hold.Free path = refl
reset-phase h other path = refl

reset-tells : (sub : Subchannel) (path : ℕ) (k : StartCounts) → Tells sub (reset_sent sub.state path) k k
reset-tells sub path k w side b t =
    told-same k sub.state (reset_sent sub.state path) w side refl (omega arith)
    (record {
      waiting = moved-as (AreSpent w side k) (AreSpentBut w side k) sub.state (reset_sent sub.state path) refl refl
          (λ u p h. reset-phase sub.state.hold sub.state.hold.phase path ∙ h) sub.state.waiting t.waits.waiting;
      begun = held-on sub.state.begun sub.state.hold.phase (reset_sent sub.state path).hold.phase
          (λ h. ap is_held (reset-phase sub.state.hold sub.state.hold.phase path) ∙ h) t.waits.begun;
    })
    t

offer-tells : (sub : Subchannel) (c : Candidate) (path : ℕ) (resumes : Bool) (k : StartCounts) → c.resumes ≡ resumes → IsFitFor (chosen_is.Offers c path) sub.state.hold →
    IsForProgram (chosen_is.Offers c path) sub.state → Tells sub (offered sub.state c.program path) k (with_offer (reply.Offered (sub.state.drawn + 1) path resumes) k)
offer-tells sub c path true k e fit of w side b t = told-resume k sub.state c.program path w side fit t
offer-tells sub c path false k e fit of w side b t = told-offer k sub.state c.program path w side (subst (λ (b : Bool). IsFound sub.state.waiting sub.state.suspended b c.program) e of) fit t

pub choose-tells : (sub : Subchannel) (c : Chosen) (k : StartCounts) → IsFitFor c sub.state.hold → IsForProgram c sub.state →
    IfOk (choose_sub sub c) (λ t. Tells sub t.sub.state k (with_offer t.reply k))
choose-tells sub chosen_is.Idle k fit of = tells-same sub k
choose-tells sub (chosen_is.Resets r path) k fit of =
    if-ok (λ t. Tells sub t.sub.state k (with_offer t.reply k)) (finds_full sub.wires.down (carried_by sub (Some (record { path = path; signal = down.Reset r sub.state.hold.known_restarts })))) _ _ tt (reset-tells sub path k)
choose-tells sub chosen_is.PerformsClear k fit of =
    calm-tells sub (with_cause sub.state cause.ClearDone) k (cause-calm sub.state cause.ClearDone) (inr refl)
choose-tells sub (chosen_is.Halts t path) k fit of =
    if-ok (λ t. Tells sub t.sub.state k (with_offer t.reply k)) (finds_full sub.wires.down (carried_by sub (Some (record { path = path; signal = down.Halt t })))) _ _ tt
    (calm-tells sub (halt_sent sub.state) k (kept sub.state (halt_sent sub.state) refl refl refl refl refl) (inr refl))
choose-tells sub chosen_is.PerformsHalt k fit of =
    calm-tells sub (with_cause sub.state cause.HaltDone) k (cause-calm sub.state cause.HaltDone) (inl refl)
choose-tells sub chosen_is.FindsNoPath k fit of =
    calm-tells sub (with_cause sub.state cause.NoPath) k (cause-calm sub.state cause.NoPath) (inr (without_waiting-begun sub.state sub.state.waiting))
choose-tells sub (chosen_is.Offers c path) k fit of =
    if-ok (λ t. Tells sub t.sub.state k (with_offer t.reply k)) (finds_full sub.wires.down (carried_by sub (Some (record { path = path; signal = down.Select (sub.state.drawn + 1) })))) _ _ tt (offer-tells sub c path c.resumes k refl fit of)

-- of the masks of paths and of the status word nothing is told
pub told-masks : (k : StartCounts) (s : SubchannelState) (pmcw : PmcwState) (scsw : Scsw) (w : Links) (side : Side) → IsTold k s w side →
    IsTold k (record s { pmcw = pmcw; scsw = scsw }) w side
told-masks k s pmcw scsw w side t =
    let x : SubchannelState = record s { pmcw = pmcw; scsw = scsw } in
    told-same k s x w side refl (omega arith)
    (record {
      waiting = moved-as (AreSpent w side k) (AreSpentBut w side k) s x refl refl (λ u p h. h) s.waiting t.waits.waiting;
      begun = t.waits.begun;
    })
    t

pub marked-tells : (sub : Subchannel) (choice : Option ℕ) (x : SubchannelState) (k next : StartCounts) → Tells (marked_sub sub choice) x k next → Tells sub x k next
marked-tells sub choice x k next f w side b t =
    f w side b (told-masks k sub.state (marked_sub sub choice).state.pmcw (marked_sub sub choice).state.scsw w side t)

-- Up
up-tells : (returns : Bool) → (storage : Contents) (sub : Subchannel) (path : ℕ) (x : Up) (k : StartCounts) → slice_get (queue sub.wires.up path) 0 ≡ Some x →
    Tells sub (takes_up returns storage sub.state path x).step.state k k
up-tells returns storage sub path x k e w side b t =
    told-turned k sub.state (takes_up returns storage sub.state path x).step.state w side
    (takes-turned (AreSpent w side k) (AreSpentBut w side k) returns storage sub.state path x (λ u f but. busy-spent k w side u (b path u (e ∙ ap Some f)) but) t.waits)
    t

front-tells : (returns : Bool) → (storage : Contents) (sub : Subchannel) (path : ℕ) (front : Option Up) (k : StartCounts) → slice_get (queue sub.wires.up path) 0 ≡ front →
    IfOk (up_front returns storage sub path front) (λ t. Tells sub t.sub.state k k)
front-tells returns storage sub path None k e = tt
front-tells returns storage sub path (Some x) k e =
    if-ok (λ t. Tells sub t.sub.state k k) (finds_full sub.wires.down (carried_by sub (takes_up returns storage sub.state path x).step.outcome.sent)) _ _ tt (up-tells returns storage sub path x k e)

pub up_sub-tells : (returns : Bool) → (storage : Contents) (sub : Subchannel) (path : ℕ) (k : StartCounts) → IfOk (up_sub returns storage sub path) (λ t. Tells sub t.sub.state k k)
up_sub-tells returns storage sub path k =
    if-ok (λ t. Tells sub t.sub.state k k) (nat_lt path (length sub.setup.paths)) (up_front returns storage sub path (slice_get (queue sub.wires.up path) 0)) _
    (front-tells returns storage sub path (slice_get (queue sub.wires.up path) 0) k refl) tt
