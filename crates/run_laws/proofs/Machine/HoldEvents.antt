-- What a subchannel does, of itself or with a signal that came up, is acts of its hold.
use Rattle.std.proofs.Common.{◌≡◌, refl, sym, ◌∙◌, ap, ℕ, ◌+◌, Bool, true, false, not, ◌==◌, ◌&&◌, nat_lt, length, Option, None, Some, Result}
use Rattle.std.specs.Prelude.{if◌then◌else◌, slice_get, IfOk, Contains}
use Rattle.storage_keys.specs.Storage.{Contents}
use Rattle.chan_model.specs.declared.hold_state.HoldPhase.{HoldPhase}
use Rattle.chan_model.specs.declared.hold_state.HoldPhase.TheVariants as hold
use Rattle.chan_model.specs.declared.hold_state.HoldState.{HoldState}
use Rattle.chan_model.specs.declared.fault.Fault.{Fault}
use Rattle.chan_model.specs.Signals.{Down, Load, Up, load_bytes}
use Rattle.chan_model.specs.declared.signal.Down.TheVariants as down
use Rattle.chan_model.specs.declared.signal.OnPath.{OnPath}
use Rattle.chan_model.specs.declared.signal.Up.TheVariants as up
use Rattle.chan_model.specs.HoldTable.{HoldStep, program_begun, hold_after, hold_takes, is_connected, is_on, letting_go, sending_reset, outcome_of}
use Rattle.chan_model.specs.UnitReports.{is_last_end, is_outward, has_device_end}
use Rattle.wires.specs.Queues.{queue}
use Rattle.agreement_laws.specs.Links.{Link}
use Rattle.agreement_laws.specs.Moving.{reset_again, Offers, Sends_reset, Lets_go, Is_reset, Takes, Sends, HoldActed, still, hold_stepped, hold_offered, hold_acts}
use Rattle.subchannel_model.specs.declared.signals.DataSignal.{DataSignal}
use Rattle.subchannel_model.specs.declared.signals.EndSignal.{EndSignal}
use Rattle.subchannel_model.specs.declared.state.ActiveProgram.{ActiveProgram}
use Rattle.ccw_walk.specs.Positions.{WalkPosition}
use Rattle.subchannel_model.specs.declared.state.Chosen.{Chosen}
use Rattle.subchannel_model.specs.declared.state.Chosen.TheVariants as chosen
use Rattle.subchannel_model.specs.declared.state.Subchannel.{Subchannel}
use Rattle.subchannel_model.specs.declared.state.SubchannelState.{SubchannelState}
use Rattle.data_move.specs.declared.transfer.CommandStart.{CommandStart}
use Rattle.data_move.specs.declared.transfer.CommandStart.TheVariants as outcome
use Rattle.data_move.specs.Moving.{residual}
use Rattle.chan_model.specs.Loads.{load_length}
use Rattle.data_move.specs.declared.transfer.NextChunk.{NextChunk}
use Rattle.data_move.specs.declared.transfer.WithRoom.{WithRoom}
use Rattle.data_move.specs.Commands.{first_command, next_command, begun_with_room, with_room}
use Rattle.data_move.specs.ToDevice.{chunk_absorbed, next_chunk}
use Rattle.data_move.specs.FromDevice.{chunk_stored}
use Rattle.data_move.specs.ChunkNumbers.{is_answered}
use Rattle.subchannel_model.specs.Clear.{cleared}
use Rattle.subchannel_model.specs.declared.state.UpStep.{UpStep}
use Rattle.subchannel_model.specs.declared.cause.StatusCause.TheVariants as cause
use Rattle.subchannel_model.specs.declared.state.ProgramPosition.{ProgramPosition}
use Rattle.subchannel_model.specs.Causes.{with_cause}
use Rattle.subchannel_model.specs.Choosing.{IsFitFor, marked_sub, reset_sent, halt_sent}
use Rattle.subchannel_model.specs.SystemReset.{reset_by_system}
use Rattle.subchannel_model.specs.Ends.{has_status_modifier, chains_command}
use Rattle.machine_model.specs.Results.{SubResult, UpResult}
use Rattle.machine_model.specs.ChooseSteps.{choose_sub}
use Rattle.subchannel_model.specs.Sending.{carried_by, finds_full}
use Rattle.machine_model.specs.UpSteps.{up_front, up_sub}
use Rattle.subchannel_model.specs.Taking.{takes_up}
use Rattle.subchannel_model.specs.Notice.{with_known}
use Rattle.subchannel_model.specs.Attention.{with_attention, may_take_attention}
use Rattle.subchannel_model.specs.Programs.{has_any}
use Rattle.subchannel_model.specs.Data.{gives_next_chunk, after_chunk, gives_chunk, tells_room, tells_room_after, moves_bytes, moves_data}
use Rattle.subchannel_model.specs.Outcomes.{SignalOutcome, with_storage, signal_ignored, signal_taken, signal_answered, device_released, hold_outcome}
use Rattle.subchannel_model.specs.Accept.{offered_position, takes_device, with_path_used, with_program_at_work, first_ccw_outcome, begins_at, halt_performed, takes_accept}
use Rattle.subchannel_model.specs.Pci.{with_pci}
use Rattle.subchannel_model.specs.Suspension.{program_suspended}
use Rattle.subchannel_model.specs.End.{with_first_end, with_allegiance_after_end, next_ccw_outcome, chains_at_device_end, concludes, ends_command, ends_at_work, chains_with, with_end_status}
use Rattle.subchannel_model.specs.Cleared.{takes_cleared}
use Rattle.subchannel_model.specs.Losing.{is_offered_or_held, reset_for}
use Rattle.run_laws.proofs.Machine.Resetting.{reset-acted}
use Rattle.run_laws.proofs.Machine.SameHold.{IsSameHold, same-hold, same-then, cause-same, interrupted-same, moving-same, suspending-same, halt_performed-same, clear_performed-same, attention-same}
use Rattle.run_laws.proofs.Machine.Growth.{covers-taken, covers-first, IsLink, Keeps, IsAt, Reaches, stays, acts, chain, IsReached, reached}

-- what a subchannel does is acts of its hold, and left it so set up
pub record IsOfHold (sub new : Subchannel) : Type 0 where
  pub setup : new.setup ≡ sub.setup
  pub reaches : (l : Link) → IsLink sub l → IsReached l new

abbrev acted_of : UpStep → HoldActed
acted_of step = record { drawn = step.state.drawn; hold = step.state.hold; sent = step.outcome.sent }

abbrev IsOf : Link → SubchannelState → Type 0
IsOf l s = IsAt l s.drawn s.hold

abbrev Leaves : Link → UpStep → Type 0
Leaves l step = Reaches l (acted_of step)

if-leaves : (l : Link) (b : Bool) (x y : UpStep) → Leaves l x → Leaves l y → Leaves l (if b then x else y)
if-leaves l true x y e f = e
if-leaves l false x y e f = f

if-meets : (l : Link) (b : Bool) (x y : SignalOutcome) → Leaves l x.step → Leaves l y.step → Leaves l (if b then x else y).step
if-meets l true x y e f = e
if-meets l false x y e f = f

ignored : (l : Link) (s : SubchannelState) → IsOf l s → Leaves l (signal_ignored s)
ignored l s at = stays l s.drawn s.hold at

stepped-is : (n : ℕ) (h : HoldState) (step : Option HoldStep) → hold_stepped n h step ≡ record { drawn = n; hold = hold_after h step; sent = (outcome_of step).sent }
stepped-is n h None = refl
stepped-is n h (Some step) = refl

abbrev IsSubResult : Subchannel → Result SubResult Fault → Type 0
IsSubResult sub r = IfOk r (λ t. IsOfHold sub t.sub)

abbrev IsUpResult : Subchannel → Result UpResult Fault → Type 0
IsUpResult sub r = IfOk r (λ t. IsOfHold sub t.sub)

if-turns : {A : Type 0} (P : A → Type 0) (b : Bool) (x y : Result A Fault) → IfOk x P → IfOk y P → IfOk (if b then x else y) P
if-turns P true x y e f = e
if-turns P false x y e f = f

-- nothing but the state was changed, and the hold was not
pub kept-turns : (sub : Subchannel) (s : SubchannelState) → sub.state.drawn ≡ s.drawn → sub.state.hold ≡ s.hold → IsOfHold sub (record sub { state = s })
kept-turns sub s n h =
    record {
      setup = refl;
      reaches = λ l k. reached sub l s None sub.wires.up k (stays l s.drawn s.hold (record { drawn = k.drawn ∙ n; hold = k.hold ∙ h })) (λ m c. c);
    }

pub same-turns : (sub : Subchannel) (s : SubchannelState) → IsSameHold sub.state s → IsOfHold sub (record sub { state = s })
same-turns sub s h = kept-turns sub s (sym h.drawn) (sym h.hold)

-- acts that lead to the hold and the counter of one state lead to those of another that has the same
still-of : (l : Link) (s x : SubchannelState) → IsSameHold s x → IsOf l s → IsOf l x
still-of l s x h at = record { drawn = at.drawn ∙ sym h.drawn; hold = at.hold ∙ sym h.hold }

reaches-same : (l : Link) (s x : SubchannelState) (one : Option (OnPath Down)) → IsSameHold s x → Reaches l (record { drawn = s.drawn; hold = s.hold; sent = one }) →
    Reaches l (record { drawn = x.drawn; hold = x.hold; sent = one })
reaches-same l s x one h r = record { link = r.link; leads = r.leads; at = still-of r.link s x h r.at; downs = r.downs; sent = r.sent; ups = r.ups; accepted = r.accepted }

quiet-leaves : (l : Link) (s x : SubchannelState) → IsSameHold s x → IsOf l s → Leaves l (signal_taken x)
quiet-leaves l s x h at = stays l x.drawn x.hold (still-of l s x h at)

reset-leaves : (l : Link) (s : SubchannelState) (step : Option HoldStep) → Leaves l (hold_outcome s step) → Leaves l (takes_cleared s step)
reset-leaves l s None r = r
reset-leaves l s (Some step) r = reaches-same l (record s { hold = step.state }) _ step.sent (clear_performed-same (record s { hold = step.state })) r

module _ (keeps : Keeps) where
  device_released-leaves : (l : Link) (n : ℕ) (h : HoldState) → IsAt l n h →
      Reaches l (record { drawn = n; hold = hold_after h (letting_go h h.phase); sent = (outcome_of (letting_go h h.phase)).sent })
  device_released-leaves l n h at = acts keeps l n h Lets_go _ tt at (stepped-is n h (letting_go h h.phase))

  hold_outcome-leaves : (returns : Bool) → (l : Link) (s : SubchannelState) (p : ℕ) (x : Up) → Contains l.ups (record { path = p; signal = x }) → IsOf l s →
      hold_acts s.drawn s.hold (Takes (record { path = p; signal = x }) returns) ≡ hold_stepped s.drawn s.hold (hold_takes s.hold p x returns) →
      Leaves l (hold_outcome s (hold_takes s.hold p x returns))
  hold_outcome-leaves returns l s p x c at e =
      acts keeps l s.drawn s.hold (Takes (record { path = p; signal = x }) returns) _ c at (e ∙ stepped-is s.drawn s.hold (hold_takes s.hold p x returns))

  -- Notice
  notice-leaves : (l : Link) (s : SubchannelState) (p b : ℕ) (more : Bool) → Contains l.ups (record { path = p; signal = up.Notice b }) → IsOf l s → nat_lt s.hold.known_restarts b ≡ more →
      Leaves l (if more then signal_taken (reset_for (with_known s b)) else signal_ignored s)
  notice-leaves l s p b true c at e =
      acts keeps l s.drawn s.hold (Takes (record { path = p; signal = up.Notice b }) false) _ c at
      (ap (λ (m : Bool). if m then reset_again s.drawn (record s.hold { known_restarts = b }) else still s.drawn s.hold) e
      ∙ reset-acted (with_known s b) (is_offered_or_held s.hold.phase && has_any s.waiting s.begun s.suspended))
  notice-leaves l s p b false c at e = ignored l s at

  let-leaves : (l : Link) (s x : SubchannelState) → IsSameHold s x → IsOf l s → Leaves l (device_released x)
  let-leaves l s x h at = device_released-leaves l x.drawn x.hold (still-of l s x h at)

  -- a signal of its program is sent
  command-leaves : (l : Link) (s x : SubchannelState) (p t n code room : ℕ) → IsSameHold s x → IsOf l s → Leaves l (signal_answered x p (down.Command t n code room))
  command-leaves l s x p t n code room h at = acts keeps l x.drawn x.hold (Sends _) _ tt (still-of l s x h at) refl

  -- Accept: the program that was offered begins or goes on, or lets the device go
  beginning-leaves : (storage : Contents) (l : Link) (s : SubchannelState) (p t : ℕ) (st : ProgramPosition) (walk : WalkPosition) (r : CommandStart) → IsOf l s →
      Leaves l (first_ccw_outcome storage s p t st walk r)
  beginning-leaves storage l s p t st walk (outcome.Begins transfer) at =
      let next = with_program_at_work s st.program (begun_with_room storage transfer).transfer in
      command-leaves l s (with_pci next next.begun) p t _ _ _ (same-then s next (with_pci next next.begun) (same-hold s next refl refl) (interrupted-same next next.begun)) at
  beginning-leaves storage l s p t st walk outcome.Suspends at = let-leaves l s (program_suspended s st.program walk st.count) (suspending-same s st.program walk st.count) at
  beginning-leaves storage l s p t st walk (outcome.Stops check) at =
      let-leaves l s (with_cause s (cause.FetchFault walk.tried check st.count)) (cause-same s (cause.FetchFault walk.tried check st.count)) at

  begin-leaves : (storage : Contents) (l : Link) (s : SubchannelState) (p t : ℕ) (st : Option ProgramPosition) → IsOf l s → Leaves l (begins_at storage s p t st)
  begin-leaves storage l s p t None at = ignored l s at
  begin-leaves storage l s p t (Some st) at = beginning-leaves storage l s p t st (first_command storage st.walk).walk (first_command storage st.walk).outcome at

  -- the hold offers the number u, or another
  begun-leaves : (storage : Contents) (l : Link) (s : SubchannelState) (h : HoldState) (p t q u : ℕ) (may same : Bool) →
      Contains l.ups (record { path = p; signal = up.Accept u }) → IsAt l s.drawn (record h { phase = hold.Offer t q }) → (u == t) ≡ same →
      Leaves l (takes_accept storage (record s { hold = record h { phase = hold.Offer t q } }) (if same then Some (program_begun (record h { phase = hold.Offer t q }) t q may) else None))
  begun-leaves storage l s h p t q u true true c at e =
      chain l (still s.drawn (record h { phase = hold.On t q 0; seen = 0; first_path = Some q })) _
      (acts keeps l s.drawn (record h { phase = hold.Offer t q }) (Takes (record { path = p; signal = up.Accept u }) true) _ c at
      (ap (λ (b : Bool). hold_stepped s.drawn (record h { phase = hold.Offer t q }) (if b then Some (program_begun (record h { phase = hold.Offer t q }) t q true) else None)) e))
      (λ m on. begin-leaves storage m (record s { hold = record h { phase = hold.On t q 0; seen = 0; first_path = Some q }; pmcw = with_path_used s.pmcw q }) q t (offered_position s) on)
  begun-leaves storage l s h p t q u false true c at e =
      let next = record s { hold = record h { phase = hold.Letting t q; seen = 0; first_path = Some q }; pmcw = with_path_used s.pmcw q } in
      reaches-same l next (halt_performed next) (Some (record { path = q; signal = down.Release t })) (halt_performed-same next)
      (acts keeps l s.drawn (record h { phase = hold.Offer t q }) (Takes (record { path = p; signal = up.Accept u }) false) _ c at
      (ap (λ (b : Bool). hold_stepped s.drawn (record h { phase = hold.Offer t q }) (if b then Some (program_begun (record h { phase = hold.Offer t q }) t q false) else None)) e))
  begun-leaves storage l s h p t q u may false c at e = stays l s.drawn (record h { phase = hold.Offer t q }) at

  accept-leaves : (storage : Contents) (l : Link) (s : SubchannelState) (h : HoldState) (phase : HoldPhase) (p u : ℕ) (may : Bool) →
      Contains l.ups (record { path = p; signal = up.Accept u }) → IsAt l s.drawn (record h { phase = phase }) →
      Leaves l (takes_accept storage (record s { hold = record h { phase = phase } }) (hold_takes (record h { phase = phase }) p (up.Accept u) may))
  accept-leaves storage l s h hold.Free p u may c at = stays l s.drawn (record h { phase = hold.Free }) at
  accept-leaves storage l s h (hold.Offer t q) p u may c at = begun-leaves storage l s h p t q u may (u == t) c at refl
  accept-leaves storage l s h (hold.On t q d) p u may c at = stays l s.drawn (record h { phase = hold.On t q d }) at
  accept-leaves storage l s h (hold.Away t) p u may c at = stays l s.drawn (record h { phase = hold.Away t }) at
  accept-leaves storage l s h (hold.Letting t q) p u may c at = stays l s.drawn (record h { phase = hold.Letting t q }) at
  accept-leaves storage l s h (hold.Reset r) p u may c at = stays l s.drawn (record h { phase = hold.Reset r }) at

  -- Data
  given-leaves : (l : Link) (s : SubchannelState) (b : ActiveProgram) (signal : DataSignal) (given : NextChunk) → IsOf l s → Leaves l (gives_chunk s b signal given)
  given-leaves l s b signal given at =
      let x = after_chunk s b given.transfer in acts keeps l x.drawn x.hold (Sends _) _ tt (still-of l s x (moving-same s b given.transfer) at) refl

  answer-leaves : (l : Link) (s : SubchannelState) (b : ActiveProgram) (signal : DataSignal) (roomy : WithRoom) → IsOf l s → Leaves l (tells_room s b signal roomy)
  answer-leaves l s b signal roomy at =
      let x = after_chunk s b roomy.transfer in acts keeps l x.drawn x.hold (Sends _) _ tt (still-of l s x (moving-same s b roomy.transfer) at) refl

  move-leaves : (storage : Contents) (l : Link) (s : SubchannelState) (b : Option ActiveProgram) (signal : DataSignal) (load : Load) → IsOf l s →
      Leaves l (moves_data storage s b signal load).step
  move-leaves storage l s None signal load at = ignored l s at
  move-leaves storage l s (Some b) signal load at =
      if-meets l (is_answered b.transfer signal.command signal.sequence) (moves_bytes storage s b signal load) (with_storage storage (signal_ignored s))
      (if-meets l (is_outward b.transfer.code) (with_storage storage (gives_next_chunk storage s b signal (load_length load))) (tells_room_after s b signal (chunk_stored storage b.transfer signal.sequence (load_bytes load)))
      (given-leaves l s b signal (next_chunk storage (chunk_absorbed storage b.transfer signal.sequence (load_length load))) at)
      (answer-leaves l s b signal (with_room (chunk_stored storage b.transfer signal.sequence (load_bytes load)).storage (chunk_stored storage b.transfer signal.sequence (load_bytes load)).transfer) at))
      (ignored l s at)

  -- End
  chaining-leaves : (storage : Contents) (l : Link) (s : SubchannelState) (b : ActiveProgram) (signal : EndSignal) (walk : WalkPosition) (r : CommandStart) → IsOf l s →
      Leaves l (next_ccw_outcome storage s b signal walk r)
  chaining-leaves storage l s b signal walk (outcome.Begins transfer) at =
      let x = after_chunk s b (begun_with_room storage transfer).transfer in
      command-leaves l s x signal.path signal.number _ _ _ (moving-same s b (begun_with_room storage transfer).transfer) at
  chaining-leaves storage l s b signal walk outcome.Suspends at =
      let x = program_suspended (with_allegiance_after_end s signal) b.program walk (residual b.transfer.moving) in
      let-leaves l (with_allegiance_after_end s signal) x (suspending-same (with_allegiance_after_end s signal) b.program walk (residual b.transfer.moving)) at
  chaining-leaves storage l s b signal walk (outcome.Stops check) at =
      let x = with_cause (with_allegiance_after_end s signal) (cause.FetchFault walk.tried check (residual b.transfer.moving)) in
      let-leaves l (with_allegiance_after_end s signal) x (cause-same (with_allegiance_after_end s signal) (cause.FetchFault walk.tried check (residual b.transfer.moving))) at

  stops-leaves : (l : Link) (s : SubchannelState) (b : ActiveProgram) (signal : EndSignal) → IsOf l s → Leaves l (concludes s b signal)
  stops-leaves l s b signal at =
      let e : IsSameHold s (with_cause s (cause.End b signal.status signal.more)) = cause-same s (cause.End b signal.status signal.more) in
      let x = with_end_status s b signal in
      let same : IsSameHold s x = same-hold s x e.drawn e.hold in
      if-leaves l (is_last_end signal.status) (device_released x) (signal_taken x) (let-leaves l s x same at) (quiet-leaves l s x same at)

  ends_at_work-leaves : (storage : Contents) (l : Link) (s : SubchannelState) (b : Option ActiveProgram) (signal : EndSignal) → IsOf l s →
      Leaves l (ends_at_work storage s b signal)
  ends_at_work-leaves storage l s None signal at = ignored l s at
  ends_at_work-leaves storage l s (Some b) signal at =
      if-leaves l (signal.command == b.transfer.command) (ends_command storage s b signal) (signal_ignored s)
      (if-leaves l (chains_command s.scsw b signal.status signal.more) (chains_at_device_end storage s (with_first_end b) signal) (concludes s b signal)
      (if-leaves l (has_device_end signal.status) (chains_with storage s (with_first_end b) signal (next_command storage (with_first_end b).transfer (has_status_modifier signal.status))) _
      (chaining-leaves storage l s (with_first_end b) signal _ _ at) (stays l s.drawn s.hold at))
      (stops-leaves l s b signal at))
      (ignored l s at)

  takes-leaves : (returns : Bool) → (storage : Contents) (l : Link) (s : SubchannelState) (p : ℕ) (x : Up) → Contains l.ups (record { path = p; signal = x }) → IsOf l s →
      Leaves l (takes_up returns storage s p x).step
  takes-leaves returns storage l s p (up.Accept t) c at = accept-leaves storage l s s.hold s.hold.phase p t (takes_device s) c at
  takes-leaves returns storage l s p (up.Busy t) c at = hold_outcome-leaves false l s p (up.Busy t) c at refl
  takes-leaves returns storage l s p (up.Leave t d) c at = hold_outcome-leaves false l s p (up.Leave t d) c at refl
  takes-leaves returns storage l s p (up.Back t d) c at = hold_outcome-leaves returns l s p (up.Back t d) c at refl
  takes-leaves returns storage l s p (up.Data load t d n seq) c at =
      if-meets l (is_connected s.hold.phase p t d) (moves_data storage s s.begun (record { path = p; number = t; connection = d; command = n; sequence = seq }) load) (with_storage storage (signal_ignored s))
      (move-leaves storage l s s.begun (record { path = p; number = t; connection = d; command = n; sequence = seq }) load at) (ignored l s at)
  takes-leaves returns storage l s p (up.End t n status more) c at =
      if-leaves l (is_on s.hold.phase t) _ (signal_ignored s) (ends_at_work-leaves storage l s s.begun (record { path = p; number = t; command = n; status = status; more = more }) at) (ignored l s at)
  takes-leaves returns storage l s p (up.Released t) c at = hold_outcome-leaves false l s p (up.Released t) c at refl
  takes-leaves returns storage l s p (up.Cleared r) c at = reset-leaves l s (hold_takes s.hold p (up.Cleared r) false) (hold_outcome-leaves false l s p (up.Cleared r) c at refl)
  takes-leaves returns storage l s p (up.Notice b) c at = notice-leaves l s p b (nat_lt s.hold.known_restarts b) c at refl
  takes-leaves returns storage l s p (up.Attn a status) c at =
      let step : Option HoldStep = hold_takes s.hold p (up.Attn a status) (may_take_attention s) in
      let shows : Bool = (outcome_of step).taken && not (status.0 == 0x20) in
      reaches-same l (hold_outcome s step).state (with_attention (hold_outcome s step).state shows) (outcome_of step).sent (attention-same (hold_outcome s step).state shows)
      (hold_outcome-leaves (may_take_attention s) l s p (up.Attn a status) c at refl)

  up_front-turns : (returns : Bool) → (storage : Contents) (sub : Subchannel) (path : ℕ) (front : Option Up) → slice_get (queue sub.wires.up path) 0 ≡ front →
      IsUpResult sub (up_front returns storage sub path front)
  up_front-turns returns storage sub path None e = tt
  up_front-turns returns storage sub path (Some x) e =
      if-turns (λ t. IsOfHold sub t.sub) (finds_full sub.wires.down (carried_by sub (takes_up returns storage sub.state path x).step.outcome.sent)) _ _ tt
      (record {
        setup = refl;
        reaches = λ l k.
            reached sub l (takes_up returns storage sub.state path x).step.state (takes_up returns storage sub.state path x).step.outcome.sent _ k
            (takes-leaves returns storage l sub.state path x (covers-first l.ups sub.wires.up path x k.ups e) (record { drawn = k.drawn; hold = k.hold }))
            (λ m c. covers-taken m sub.wires.up path c);
      })

  pub up-turns : (returns : Bool) → (storage : Contents) (sub : Subchannel) (path : ℕ) → IsUpResult sub (up_sub returns storage sub path)
  up-turns returns storage sub path =
      if-turns (λ t. IsOfHold sub t.sub) (nat_lt path (length sub.setup.paths)) (up_front returns storage sub path (slice_get (queue sub.wires.up path) 0)) _
      (up_front-turns returns storage sub path (slice_get (queue sub.wires.up path) 0) refl) tt

  -- Choose
  pub choose-turns : (sub : Subchannel) (c : Chosen) → IsFitFor c sub.state.hold → IsSubResult sub (choose_sub sub c)
  choose-turns sub chosen.Idle fit = kept-turns sub sub.state refl refl
  choose-turns sub (chosen.Resets r path) fit =
      if-turns (λ t. IsOfHold sub t.sub) (finds_full sub.wires.down (carried_by sub (Some (record { path = path; signal = down.Reset r sub.state.hold.known_restarts })))) _ _ tt
      (record {
        setup = refl;
        reaches = λ l k.
            reached sub l (reset_sent sub.state path) (Some (record { path = path; signal = down.Reset r sub.state.hold.known_restarts })) sub.wires.up k
            (acts keeps l sub.state.drawn sub.state.hold (Sends_reset path) _ tt (record { drawn = k.drawn; hold = k.hold })
            (stepped-is sub.state.drawn sub.state.hold (sending_reset sub.state.hold sub.state.hold.phase path)
            ∙ ap (λ (phase : HoldPhase). record { drawn = sub.state.drawn; hold = (reset_sent sub.state path).hold; sent = (outcome_of (sending_reset sub.state.hold phase path)).sent }) fit))
            (λ m c. c);
      })
  choose-turns sub chosen.PerformsClear fit = same-turns sub (with_cause sub.state cause.ClearDone) (cause-same sub.state cause.ClearDone)
  choose-turns sub (chosen.Halts t path) fit =
      if-turns (λ t. IsOfHold sub t.sub) (finds_full sub.wires.down (carried_by sub (Some (record { path = path; signal = down.Halt t })))) _ _ tt
      (record {
        setup = refl;
        reaches = λ l k.
            reached sub l (halt_sent sub.state) (Some (record { path = path; signal = down.Halt t })) sub.wires.up k
            (acts keeps l sub.state.drawn sub.state.hold (Sends _) _ tt (record { drawn = k.drawn; hold = k.hold }) refl)
            (λ m c. c);
      })
  choose-turns sub chosen.PerformsHalt fit = same-turns sub (with_cause sub.state cause.HaltDone) (cause-same sub.state cause.HaltDone)
  choose-turns sub chosen.FindsNoPath fit = same-turns sub (with_cause sub.state cause.NoPath) (cause-same sub.state cause.NoPath)
  choose-turns sub (chosen.Offers c path) fit =
      if-turns (λ t. IsOfHold sub t.sub) (finds_full sub.wires.down (carried_by sub (Some (record { path = path; signal = down.Select (sub.state.drawn + 1) })))) _ _ tt
      (record {
        setup = refl;
        reaches = λ l k.
            reached sub l _ (Some (record { path = path; signal = down.Select (sub.state.drawn + 1) })) sub.wires.up k
            (acts keeps l sub.state.drawn sub.state.hold (Offers path c.program.single_path) _ tt (record { drawn = k.drawn; hold = k.hold })
            (ap (λ (phase : HoldPhase). hold_offered sub.state.drawn sub.state.hold phase path c.program.single_path) fit))
            (λ m c. c);
      })

  -- CLEAR, and a reset of the subsystem
  pub clear-turns : (sub : Subchannel) → IsOfHold sub (record sub { state = cleared sub.state })
  clear-turns sub =
      record {
        setup = refl;
        reaches = λ l k.
            reached sub l (cleared sub.state) None sub.wires.up k
            (acts keeps l sub.state.drawn sub.state.hold Is_reset _ tt (record { drawn = k.drawn; hold = k.hold }) refl) (λ m c. c);
      }

  pub system-turns : (sub : Subchannel) → IsOfHold sub (reset_by_system sub)
  system-turns sub =
      record {
        setup = refl;
        reaches = λ l k.
            reached sub l (reset_by_system sub).state None sub.wires.up k
            (acts keeps l sub.state.drawn sub.state.hold Is_reset _ tt (record { drawn = k.drawn; hold = k.hold }) refl) (λ m c. c);
      }

-- the masks of paths and the status word are nothing to the links
pub marked-turns : (sub new : Subchannel) (choice : Option ℕ) → IsOfHold (marked_sub sub choice) new → IsOfHold sub new
marked-turns sub new choice h =
    record { setup = h.setup; reaches = λ l k. h.reaches l (record { drawn = k.drawn; hold = k.hold; downs = k.downs; ups = k.ups }) }
