-- What a subchannel sends down as it meets a signal: a Command is the one at work, under the number of its connection.
use Rattle.std.proofs.Common.{◌≡◌, refl, sym, ◌∙◌, ap, ℕ, Bool, true, false, ◌==◌, ◌&&◌, nat_lt, Option, None, Some}
use Rattle.std.specs.Prelude.{if◌then◌else◌, IfSome}
use Rattle.std.proofs.lemmas.Bool.{eq-eqb}
use Rattle.storage_keys.specs.Storage.{Contents}
use Rattle.chan_model.specs.declared.hold_state.HoldPhase.{HoldPhase}
use Rattle.chan_model.specs.declared.hold_state.HoldPhase.TheVariants as hold
use Rattle.chan_model.specs.declared.hold_state.HoldState.{HoldState}
use Rattle.chan_model.specs.Signals.{Down, Load, Up}
use Rattle.chan_model.specs.declared.signal.Down.TheVariants as down
use Rattle.chan_model.specs.declared.signal.OnPath.{OnPath}
use Rattle.chan_model.specs.declared.signal.Taken.{Taken}
use Rattle.chan_model.specs.declared.signal.Up.TheVariants as up
use Rattle.chan_model.specs.HoldTable.{HoldStep, refusing, granting, program_begun, offer_accepted, left, asked_back, found_busy, released, reset_cleared, attended, hold_after, outcome_of, is_connected, is_on, letting_go}
use Rattle.chan_model.specs.UnitReports.{is_last_end, is_outward, has_device_end}
use Rattle.ccw_walk.specs.Positions.{WalkPosition}
use Rattle.data_move.specs.declared.transfer.CommandStart.{CommandStart}
use Rattle.data_move.specs.declared.transfer.CommandStart.TheVariants as outcome
use Rattle.data_move.specs.declared.transfer.WithRoom.{WithRoom}
use Rattle.data_move.specs.Commands.{first_command, next_command, begun_with_room}
use Rattle.data_move.specs.ChunkNumbers.{is_answered}
use Rattle.subchannel_model.specs.Notice as on_notice
use Rattle.subchannel_model.specs.declared.signals.DataSignal.{DataSignal}
use Rattle.subchannel_model.specs.declared.signals.EndSignal.{EndSignal}
use Rattle.subchannel_model.specs.declared.state.ActiveProgram.{ActiveProgram}
use Rattle.subchannel_model.specs.declared.state.ProgramPosition.{ProgramPosition}
use Rattle.subchannel_model.specs.declared.state.SubchannelState.{SubchannelState}
use Rattle.subchannel_model.specs.declared.state.UpStep.{UpStep}
use Rattle.subchannel_model.specs.Ends.{has_status_modifier, chains_command}
use Rattle.subchannel_model.specs.Outcomes as outcomes
use Rattle.subchannel_model.specs.Back as on_back
use Rattle.subchannel_model.specs.Attention as on_attention
use Rattle.subchannel_model.specs.Losing.{reset_for}
use Rattle.subchannel_model.specs.Outcomes.{SignalOutcome, signal_ignored, hold_outcome, device_released}
use Rattle.subchannel_model.specs.Accept.{takes_device, offered_position, with_path_used, with_program_at_work, halt_performed, first_ccw_outcome, begins_at, accepted_in_phase, takes_accept}
use Rattle.subchannel_model.specs.Command.{with_transfer}
use Rattle.subchannel_model.specs.Data.{after_chunk, moves_bytes, moves_data, takes_data}
use Rattle.subchannel_model.specs.Cleared.{takes_cleared, clear_performed}
use Rattle.subchannel_model.specs.End.{with_first_end, next_ccw_outcome, chains_at_device_end, concludes, ends_command, ends_at_work, takes_end}
use Rattle.subchannel_model.specs.Taking.{takes_up}
use Rattle.run_laws.proofs.Traces.Caused.{IsInterrupted, interrupted-work}

-- a Command is of the transfer at work
pub record IsAtWork (s : SubchannelState) (t n code : ℕ) : Type 0 where
  pub begun : ActiveProgram
  pub is : s.begun ≡ Some begun
  pub command : n ≡ begun.transfer.command
  pub same_code : code ≡ begun.transfer.code
  pub on : is_on s.hold.phase t ≡ true

abbrev pub IsOf : SubchannelState → Down → Type 0
IsOf s (down.Select t) = ⊥
IsOf s (down.Command t n code room) = IsAtWork s t n code
IsOf s (down.Reset r b) = ⊥
IsOf s d = Unit {0}

-- and it is sent nothing else that raises a number
abbrev pub IsSent : SubchannelState → Option (OnPath Down) → Type 0
IsSent s one = IfSome one (λ x. IsOf s x.signal)

abbrev Sends : UpStep → Type 0
Sends step = IsSent step.state step.outcome.sent

if-sends : (c : Bool) (x y : UpStep) → Sends x → Sends y → Sends (if c then x else y)
if-sends true x y e f = e
if-sends false x y e f = f

if-met : (c : Bool) (x y : SignalOutcome) → Sends x.step → Sends y.step → Sends (if c then x else y).step
if-met true x y e f = e
if-met false x y e f = f

-- the hold alone
abbrev pub IsOfHold : Down → Type 0
IsOfHold (down.Grant t c) = Unit {0}
IsOfHold (down.Refuse t c) = Unit {0}
IsOfHold (down.Halt t) = Unit {0}
IsOfHold (down.Release t) = Unit {0}
IsOfHold (down.Got a) = Unit {0}
IsOfHold d = ⊥

abbrev pub SendsHoldSignal : Option HoldStep → Type 0
SendsHoldSignal step = IfSome (outcome_of step).sent (λ x. IsOfHold x.signal)

of-hold : (s : SubchannelState) (d : Down) → IsOfHold d → IsOf s d
of-hold s (down.Grant t c) h = tt
of-hold s (down.Refuse t c) h = tt
of-hold s (down.Halt t) h = tt
of-hold s (down.Release t) h = tt
of-hold s (down.Got a) h = tt
of-hold s d h = absurd h

muttered : (s : SubchannelState) (one : Option (OnPath Down)) → IfSome one (λ x. IsOfHold x.signal) → IsSent s one
muttered s None h = tt
muttered s (Some x) h = of-hold s x.signal h

if-mutters : (c : Bool) (x y : Option HoldStep) → SendsHoldSignal x → SendsHoldSignal y → SendsHoldSignal (if c then x else y)
if-mutters true x y e f = e
if-mutters false x y e f = f

nothing : SendsHoldSignal None
nothing = tt

begun-mutters : (h : HoldState) (t p : ℕ) (may : Bool) → SendsHoldSignal (Some (program_begun h t p may))
begun-mutters h t p true = tt
begun-mutters h t p false = tt

pub accepted-mutters : (h : HoldState) (phase : HoldPhase) (u : ℕ) (may : Bool) → SendsHoldSignal (offer_accepted h phase u may)
accepted-mutters h (hold.Offer t p) u may = if-mutters (u == t) _ None (begun-mutters h t p may) nothing
accepted-mutters h other u may = nothing

pub busy-mutters : (h : HoldState) (phase : HoldPhase) (u : ℕ) → SendsHoldSignal (found_busy h phase u)
busy-mutters h (hold.Offer t p) u = if-mutters (u == t) _ None tt nothing
busy-mutters h other u = nothing

pub left-mutters : (h : HoldState) (phase : HoldPhase) (u d : ℕ) → SendsHoldSignal (left h phase u d)
left-mutters h (hold.On t p c) u d = if-mutters ((u == t) && (d == c)) _ None tt nothing
left-mutters h other u d = nothing

pub back-mutters : (h : HoldState) (phase : HoldPhase) (p u c : ℕ) (may : Bool) → SendsHoldSignal (asked_back h phase p u c may)
back-mutters h (hold.On t q d) p u c may = if-mutters ((u == t) && nat_lt h.seen c) (Some (refusing h p t c)) None tt nothing
back-mutters h (hold.Away t) p u c may =
    if-mutters ((u == t) && nat_lt h.seen c) (if may then Some (granting h p t c) else Some (refusing h p t c)) None
    (if-mutters may (Some (granting h p t c)) (Some (refusing h p t c)) tt tt) nothing
back-mutters h other p u c may = nothing

pub released-mutters : (h : HoldState) (phase : HoldPhase) (u : ℕ) → SendsHoldSignal (released h phase u)
released-mutters h (hold.Letting t p) u = if-mutters (u == t) _ None tt nothing
released-mutters h other u = nothing

pub cleared-mutters : (h : HoldState) (phase : HoldPhase) (u : ℕ) → SendsHoldSignal (reset_cleared h phase u)
cleared-mutters h (hold.Reset r) u = if-mutters (u == r) _ None tt nothing
cleared-mutters h other u = nothing

pub attended-mutters : (h : HoldState) (phase : HoldPhase) (p a : ℕ) (may : Bool) → SendsHoldSignal (attended h phase p a may)
attended-mutters h hold.Free p a may = if-mutters may _ None tt nothing
attended-mutters h other p a may = nothing

hold_outcome-sends : (s : SubchannelState) (step : Option HoldStep) → SendsHoldSignal step → Sends (hold_outcome s step)
hold_outcome-sends s step m = muttered (hold_outcome s step).state (outcome_of step).sent m

-- the device is let go
pub letting-mutters : (h : HoldState) (phase : HoldPhase) → SendsHoldSignal (letting_go h phase)
letting-mutters h (hold.On t p c) = tt
letting-mutters h other = nothing

device_released-sends : (s : SubchannelState) → Sends (device_released s)
device_released-sends s = muttered (device_released s).state (outcome_of (letting_go s.hold s.hold.phase)).sent (letting-mutters s.hold s.hold.phase)

-- Accept
-- a command that begins is the one at work
work-sends : (s x : SubchannelState) (b : ActiveProgram) (t : ℕ) → IsInterrupted s x b → is_on s.hold.phase t ≡ true → IsAtWork x t b.transfer.command b.transfer.code
work-sends s x b t i e = record {
  begun = i.begun;
  is = i.is;
  command = sym i.same.command;
  same_code = sym i.same.code;
  on = ap (λ (h : HoldState). is_on h.phase t) i.kept.hold ∙ e;
}

beginning-sends : (storage : Contents) (s : SubchannelState) (p t : ℕ) (st : ProgramPosition) (walk : WalkPosition) (r : CommandStart) → is_on s.hold.phase t ≡ true →
    Sends (first_ccw_outcome storage s p t st walk r)
beginning-sends storage s p t st walk (outcome.Begins transfer) e =
    let next : SubchannelState = with_program_at_work s st.program (begun_with_room storage transfer).transfer in
    let b : ActiveProgram = record { program = st.program; primary_shown = false; transfer = (begun_with_room storage transfer).transfer } in
    work-sends next _ b t (interrupted-work next b refl) e
beginning-sends storage s p t st walk outcome.Suspends e = device_released-sends _
beginning-sends storage s p t st walk (outcome.Stops check) e = device_released-sends _

standing-sends : (storage : Contents) (s : SubchannelState) (p t : ℕ) (st : Option ProgramPosition) → is_on s.hold.phase t ≡ true → Sends (begins_at storage s p t st)
standing-sends storage s p t None e = tt
standing-sends storage s p t (Some st) e =
    beginning-sends storage s p t st (first_command storage st.walk).walk (first_command storage st.walk).outcome e

is-self : (t p c : ℕ) → is_on (hold.On t p c) t ≡ true
is-self t p c = eq-eqb t t refl

accepted_in_phase-sends : (storage : Contents) (s : SubchannelState) (phase : HoldPhase) (outcome : Taken Down) → s.hold.phase ≡ phase → IfSome outcome.sent (λ x. IsOfHold x.signal) →
    Sends (accepted_in_phase storage s phase outcome)
accepted_in_phase-sends storage s (hold.On t p c) outcome e m =
    standing-sends storage (record s { pmcw = with_path_used s.pmcw p }) p t (offered_position s) (ap (λ (x : HoldPhase). is_on x t) e ∙ is-self t p c)
accepted_in_phase-sends storage s (hold.Letting t p) outcome e m = muttered (halt_performed (record s { pmcw = with_path_used s.pmcw p })) outcome.sent m
accepted_in_phase-sends storage s other outcome e m = muttered s outcome.sent m

accept-sends : (storage : Contents) (s : SubchannelState) (step : Option HoldStep) → SendsHoldSignal step → Sends (takes_accept storage s step)
accept-sends storage s step m =
    if-sends (outcome_of step).taken _ _ (accepted_in_phase-sends storage (record s { hold = hold_after s.hold step }) (hold_after s.hold step).phase (outcome_of step) refl m) tt

-- Data
moves_bytes-sends : (storage : Contents) (s : SubchannelState) (b : ActiveProgram) (signal : DataSignal) (load : Load) → Sends (moves_bytes storage s b signal load).step
moves_bytes-sends storage s b signal load = if-met (is_outward b.transfer.code) _ _ tt tt

moves_data-sends : (storage : Contents) (s : SubchannelState) (b : Option ActiveProgram) (signal : DataSignal) (load : Load) → Sends (moves_data storage s b signal load).step
moves_data-sends storage s None signal load = tt
moves_data-sends storage s (Some b) signal load = if-met (is_answered b.transfer signal.command signal.sequence) _ _ (moves_bytes-sends storage s b signal load) tt

takes_data-sends : (storage : Contents) (s : SubchannelState) (signal : DataSignal) (load : Load) → Sends (takes_data storage s signal load).step
takes_data-sends storage s signal load = if-met (is_connected s.hold.phase signal.path signal.number signal.connection) _ _ (moves_data-sends storage s s.begun signal load) tt

-- End
chaining-sends : (storage : Contents) (s : SubchannelState) (b : ActiveProgram) (signal : EndSignal) (walk : WalkPosition) (r : CommandStart) → is_on s.hold.phase signal.number ≡ true →
    Sends (next_ccw_outcome storage s b signal walk r)
chaining-sends storage s b signal walk (outcome.Begins transfer) e =
    let x : WithRoom = begun_with_room storage transfer in
    let c : ActiveProgram = record b { transfer = x.transfer } in
    let next : SubchannelState = with_transfer s b x.transfer in
    work-sends next (after_chunk s b x.transfer) c signal.number (interrupted-work next c refl) e
chaining-sends storage s b signal walk outcome.Suspends e = device_released-sends _
chaining-sends storage s b signal walk (outcome.Stops check) e = device_released-sends _

chains_at_device_end-sends : (storage : Contents) (s : SubchannelState) (b : ActiveProgram) (signal : EndSignal) → is_on s.hold.phase signal.number ≡ true → Sends (chains_at_device_end storage s b signal)
chains_at_device_end-sends storage s b signal e =
    if-sends (has_device_end signal.status) _ _
    (chaining-sends storage s b signal (next_command storage b.transfer (has_status_modifier signal.status)).walk (next_command storage b.transfer (has_status_modifier signal.status)).outcome e) tt

concludes-sends : (s : SubchannelState) (b : ActiveProgram) (signal : EndSignal) → Sends (concludes s b signal)
concludes-sends s b signal = if-sends (is_last_end signal.status) _ _ (device_released-sends _) tt

ends_command-sends : (storage : Contents) (s : SubchannelState) (b : ActiveProgram) (signal : EndSignal) → is_on s.hold.phase signal.number ≡ true →
    Sends (ends_command storage s b signal)
ends_command-sends storage s b signal e =
    if-sends (chains_command s.scsw b signal.status signal.more) _ _ (chains_at_device_end-sends storage s (with_first_end b) signal e) (concludes-sends s b signal)

ends_at_work-sends : (storage : Contents) (s : SubchannelState) (b : Option ActiveProgram) (signal : EndSignal) → is_on s.hold.phase signal.number ≡ true →
    Sends (ends_at_work storage s b signal)
ends_at_work-sends storage s None signal e = tt
ends_at_work-sends storage s (Some b) signal e = if-sends (signal.command == b.transfer.command) _ _ (ends_command-sends storage s b signal e) tt

takes_end-sends : (storage : Contents) (s : SubchannelState) (signal : EndSignal) → Sends (takes_end storage s signal)
takes_end-sends storage s signal = by (is_on s.hold.phase signal.number) refl
  where
    by : (c : Bool) → is_on s.hold.phase signal.number ≡ c → Sends (if c then ends_at_work storage s s.begun signal else signal_ignored s)
    by true e = ends_at_work-sends storage s s.begun signal e
    by false e = tt

reset-sends : (s : SubchannelState) (step : Option HoldStep) → SendsHoldSignal step → Sends (takes_cleared s step)
reset-sends s None m = tt
reset-sends s (Some step) m = muttered (clear_performed (record s { hold = step.state })) (outcome_of (Some step)).sent m

notice-sends : (s : SubchannelState) (b : ℕ) (more : Bool) → Sends (if more then outcomes.signal_taken (reset_for (on_notice.with_known s b)) else outcomes.signal_ignored s)
notice-sends s b true = tt
notice-sends s b false = tt

pub up-sends : (returns : Bool) → (storage : Contents) (s : SubchannelState) (p : ℕ) (x : Up) → Sends (takes_up returns storage s p x).step
up-sends returns storage s p (up.Accept t) = accept-sends storage s (offer_accepted s.hold s.hold.phase t (takes_device s)) (accepted-mutters s.hold s.hold.phase t (takes_device s))
up-sends returns storage s p (up.Data load t c n q) = takes_data-sends storage s (record { path = p; number = t; connection = c; command = n; sequence = q }) load
up-sends returns storage s p (up.End t n status more) = takes_end-sends storage s (record { path = p; number = t; command = n; status = status; more = more })
up-sends returns storage s p (up.Busy t) = hold_outcome-sends s (found_busy s.hold s.hold.phase t) (busy-mutters s.hold s.hold.phase t)
up-sends returns storage s p (up.Leave t c) = hold_outcome-sends s (left s.hold s.hold.phase t c) (left-mutters s.hold s.hold.phase t c)
up-sends returns storage s p (up.Back t c) =
    let step : Option HoldStep = asked_back s.hold s.hold.phase p t c returns in
    muttered (on_back.takes_back s p step).state (outcome_of step).sent (back-mutters s.hold s.hold.phase p t c returns)
up-sends returns storage s p (up.Released t) = hold_outcome-sends s (released s.hold s.hold.phase t) (released-mutters s.hold s.hold.phase t)
up-sends returns storage s p (up.Cleared r) = reset-sends s (reset_cleared s.hold s.hold.phase r) (cleared-mutters s.hold s.hold.phase r)
up-sends returns storage s p (up.Notice b) = notice-sends s b (nat_lt s.hold.known_restarts b)
up-sends returns storage s p (up.Attn a status) =
    let step : Option HoldStep = attended s.hold s.hold.phase p a (on_attention.may_take_attention s) in
    muttered (on_attention.takes_attention s status step).state (outcome_of step).sent (attended-mutters s.hold s.hold.phase p a (on_attention.may_take_attention s))
