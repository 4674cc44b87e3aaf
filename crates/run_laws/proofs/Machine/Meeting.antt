-- What a subchannel does with a signal that came up: a program is begun on the path of its offer, and one that is away is connected
-- only where it may come back.
use Rattle.std.proofs.Common.{◌≡◌, refl, sym, ◌∙◌, ap, subst, ℕ, ◌≤◌, ◌==◌, ◌&&◌, nat_lt, Bool, true, false, not, Option, None, Some, if◌then◌else◌, inl, inr, arith}
use Rattle.std.specs.Prelude.{◌⊎◌, unwrap_or}
use Rattle.std.proofs.lemmas.Bool.{eqb-true}
use Rattle.ccw_walk.specs.Positions.{WalkPosition}
use Rattle.chan_events.specs.declared.reply.Reply.TheVariants as reply
use Rattle.chan_model.specs.declared.hold_state.HoldPhase.{HoldPhase}
use Rattle.chan_model.specs.declared.hold_state.HoldPhase.TheVariants as hold
use Rattle.chan_model.specs.declared.hold_state.HoldState.{HoldState}
use Rattle.chan_model.specs.Signals.{Down, Load, Up, load_bytes}
use Rattle.chan_model.specs.declared.signal.Down.TheVariants as down
use Rattle.chan_model.specs.declared.signal.OnPath.{OnPath}
use Rattle.chan_model.specs.declared.signal.Up.TheVariants as up
use Rattle.chan_model.specs.HoldTable.{HoldStep, hold_takes, hold_after, outcome_of, program_begun, asked_back, granting, refusing, is_connected, is_on}
use Rattle.chan_model.specs.Loads.{load_length}
use Rattle.chan_model.specs.ResetCauses.{engaged_path, is_held}
use Rattle.chan_model.specs.UnitReports.{is_last_end, is_outward, has_device_end}
use Rattle.data_move.specs.Moving.{residual}
use Rattle.storage_keys.specs.Storage.{Contents}
use Rattle.data_move.specs.declared.transfer.Beginning.{Beginning}
use Rattle.data_move.specs.declared.transfer.CommandStart.{CommandStart}
use Rattle.data_move.specs.declared.transfer.CommandStart.TheVariants as outcome
use Rattle.data_move.specs.declared.transfer.NextChunk.{NextChunk}
use Rattle.data_move.specs.declared.transfer.WithRoom.{WithRoom}
use Rattle.data_move.specs.Commands.{first_command, next_command, begun_with_room, with_room}
use Rattle.data_move.specs.ToDevice.{chunk_absorbed, next_chunk}
use Rattle.data_move.specs.FromDevice.{chunk_stored}
use Rattle.data_move.specs.ChunkNumbers.{is_answered}
use Rattle.subchannel_model.specs.declared.cause.StatusCause.TheVariants as cause
use Rattle.subchannel_model.specs.declared.signals.DataSignal.{DataSignal}
use Rattle.subchannel_model.specs.declared.signals.EndSignal.{EndSignal}
use Rattle.subchannel_model.specs.declared.state.ActiveProgram.{ActiveProgram}
use Rattle.subchannel_model.specs.declared.state.ProgramPosition.{ProgramPosition}
use Rattle.subchannel_model.specs.declared.state.SubchannelState.{SubchannelState}
use Rattle.subchannel_model.specs.declared.state.UpStep.{UpStep}
use Rattle.subchannel_model.specs.Causes.{with_cause}
use Rattle.subchannel_model.specs.Ends.{has_status_modifier, chains_command}
use Rattle.subchannel_model.specs.Taking.{takes_up}
use Rattle.run_laws.specs.Returns.{accepted_by, granted_path}
use Rattle.run_laws.proofs.Machine.SameState.{IsSame, is-same, same-then, cause-same, interrupted-same, moving-same, suspending-same, halt_performed-same}
use Rattle.subchannel_model.specs.Data.{gives_next_chunk, after_chunk, gives_chunk, tells_room, tells_room_after, moves_bytes, moves_data}
use Rattle.subchannel_model.specs.Outcomes.{SignalOutcome, with_storage, signal_ignored, signal_taken, device_released}
use Rattle.subchannel_model.specs.Pci.{with_pci}
use Rattle.subchannel_model.specs.Accept.{offered_position, takes_device, with_path_used, with_program_at_work, first_ccw_outcome, begins_at, halt_performed, takes_accept}
use Rattle.subchannel_model.specs.Suspension.{program_suspended}
use Rattle.subchannel_model.specs.End.{with_first_end, with_allegiance_after_end, next_ccw_outcome, chains_at_device_end, concludes, ends_command, ends_at_work, chains_with, with_end_status}
use Rattle.subchannel_model.specs.Back.{takes_back}
use Rattle.subchannel_model.specs.Attention.{may_take_attention}
use Rattle.run_laws.proofs.Machine.Told.{Remembers, IsTiedUp}
use Rattle.run_laws.proofs.Machine.CalmPaths.{IsPlain, ArePlain, IsCalm, same-calm, ignored-calm, with_phase, busy-step, left-step, released-step, cleared-step, attended-step, hold_outcome-calm, cleared-calm, attention-calm, let-calm, notice-calm}

-- the path of the first of two Accepts, and that of a Grant
abbrev first_of_both : Option ℕ → ℕ → Option ℕ
first_of_both before path = Some (unwrap_or before path)

abbrev granted_on : Option (OnPath Down) → Option ℕ
granted_on sent = granted_path (reply.Up (up.Notice 0) true sent)

-- what may be answered to a signal that came by p: no offer, and a Grant on p only, to a program that is held and may come back
abbrev pub IsAnswer : Bool → ℕ → HoldPhase → ℕ → Down → Type 0
IsAnswer returns p phase q (down.Select t) = ⊥
IsAnswer returns p phase q (down.Grant t c) = (returns ≡ true) × (q ≡ p) × (is_held phase ≡ true)
IsAnswer returns p phase q d = Unit {0}

abbrev pub AreAnswers : Bool → ℕ → HoldPhase → Option (OnPath Down) → Type 0
AreAnswers returns p phase None = Unit {0}
AreAnswers returns p phase (Some s) = IsAnswer returns p phase s.path s.signal

pub record IsMet (returns : Bool) (p : ℕ) (x : Up) (s : SubchannelState) (step : UpStep) : Type 0 where
  pub drawn : s.drawn ≤ step.state.drawn
  pub available : step.state.pmcw.available ≡ s.pmcw.available
  pub engaged : (q : ℕ) → engaged_path step.state.hold.phase ≡ Some q → (engaged_path s.hold.phase ≡ Some q) ⊎ ((returns ≡ true) × (q ≡ p))
  pub offered : (t q : ℕ) → step.state.hold.phase ≡ hold.Offer t q → s.hold.phase ≡ hold.Offer t q
  pub remembers : (accepted : Option ℕ) → IsTiedUp s.drawn s.hold.phase p x → Remembers s.hold.phase s.hold.first_path accepted →
      Remembers step.state.hold.phase step.state.hold.first_path (accepted_by (reply.Up x step.outcome.taken step.outcome.sent) p accepted)
  pub sent : AreAnswers returns p s.hold.phase step.outcome.sent

plain-answer : (returns : Bool) (p : ℕ) (phase : HoldPhase) (q : ℕ) (d : Down) → IsPlain d → IsAnswer returns p phase q d
plain-answer returns p phase q (down.Select t) plain = absurd plain
plain-answer returns p phase q (down.Command t n code room) plain = tt
plain-answer returns p phase q (down.Grant t c) plain = absurd plain
plain-answer returns p phase q (down.Refuse t c) plain = tt
plain-answer returns p phase q (down.Took t n s room) plain = tt
plain-answer returns p phase q (down.Give bytes t c n s) plain = tt
plain-answer returns p phase q (down.Halt t) plain = tt
plain-answer returns p phase q (down.Release t) plain = tt
plain-answer returns p phase q (down.Reset r b) plain = tt
plain-answer returns p phase q (down.Got a) plain = tt

plain-answers : (returns : Bool) (p : ℕ) (phase : HoldPhase) (one : Option (OnPath Down)) → ArePlain one → AreAnswers returns p phase one
plain-answers returns p phase None plain = tt
plain-answers returns p phase (Some s) plain = plain-answer returns p phase s.path s.signal plain

-- by any signal but Accept and Back
calm-met : (returns : Bool) (p : ℕ) (x : Up) (s : SubchannelState) (step : UpStep) →
    ((accepted : Option ℕ) → accepted_by (reply.Up x step.outcome.taken step.outcome.sent) p accepted ≡ accepted) → IsCalm s step → IsMet returns p x s step
calm-met returns p x s step silent k =
    record {
      drawn = k.drawn;
      available = k.available;
      engaged = λ q e. inl (k.hold.engaged q e);
      offered = k.hold.offered;
      remembers = λ accepted tied m.
          subst (λ (o : Option ℕ). Remembers step.state.hold.phase step.state.hold.first_path o) (sym (silent accepted)) (k.hold.remembers accepted m);
      sent = plain-answers returns p s.hold.phase step.outcome.sent k.sent;
    }

if-calm : (s : SubchannelState) (b : Bool) (x y : UpStep) → IsCalm s x → IsCalm s y → IsCalm s (if b then x else y)
if-calm s true x y k l = k
if-calm s false x y k l = l

if-met : (s : SubchannelState) (b : Bool) (x y : SignalOutcome) → IsCalm s x.step → IsCalm s y.step → IsCalm s (if b then x else y).step
if-met s true x y k l = k
if-met s false x y k l = l

-- Accept
record IsTaken (s : SubchannelState) (step : UpStep) : Type 0 where
  calm : IsCalm s step
  taken : step.outcome.taken ≡ true

beginning-taken : (storage : Contents) (s : SubchannelState) (p t : ℕ) (st : ProgramPosition) (walk : WalkPosition) (r : CommandStart) →
    IsTaken s (first_ccw_outcome storage s p t st walk r)
beginning-taken storage s p t st walk (outcome.Begins transfer) =
    let next : SubchannelState = with_program_at_work s st.program (begun_with_room storage transfer).transfer in
    record {
      calm = same-calm s (with_pci next next.begun) _
          (same-then s next (with_pci next next.begun) (is-same s next refl refl refl) (interrupted-same next next.begun)) tt;
      taken = refl;
    }
beginning-taken storage s p t st walk outcome.Suspends =
    record { calm = let-calm s (program_suspended s st.program walk st.count) (suspending-same s st.program walk st.count); taken = refl }
beginning-taken storage s p t st walk (outcome.Stops check) =
    record {
      calm = let-calm s (with_cause s (cause.FetchFault walk.tried check st.count)) (cause-same s (cause.FetchFault walk.tried check st.count));
      taken = refl;
    }

standing-taken : (storage : Contents) (s : SubchannelState) (p t : ℕ) (st : Option ProgramPosition) → IsTaken s (begins_at storage s p t st)
standing-taken storage s p t None = record { calm = same-calm s s _ (is-same s s refl refl refl) tt; taken = refl }
standing-taken storage s p t (Some st) = beginning-taken storage s p t st (first_command storage st.walk).walk (first_command storage st.walk).outcome

accepted-first : (accepted : Option ℕ) (p q : ℕ) → accepted ≡ None → p ≡ q → first_of_both accepted p ≡ Some q
accepted-first None p q none e = ap Some e
accepted-first (Some first) p q none e = absurd (cc none)

record IsBegun (q : ℕ) (s x : SubchannelState) : Type 0 where
  drawn : x.drawn ≡ s.drawn
  available : x.pmcw.available ≡ s.pmcw.available
  engaged : engaged_path x.hold.phase ≡ Some q
  offered : (t r : ℕ) → x.hold.phase ≡ hold.Offer t r → ⊥
  remembers : Remembers x.hold.phase x.hold.first_path (Some q)

begun-met : (returns : Bool) (p u t q : ℕ) (s x : SubchannelState) (step : UpStep) → s.hold.phase ≡ hold.Offer t q → IsBegun q s x → u ≡ t →
    IsTaken x step → IsMet returns p (up.Accept u) s step
begun-met returns p u t q s x step e b same k =
    record {
      drawn = let n : x.drawn ≡ s.drawn = b.drawn in let m : x.drawn ≤ step.state.drawn = k.calm.drawn in omega (arith, n, m);
      available = k.calm.available ∙ b.available;
      engaged = λ r h. inl (ap engaged_path e ∙ sym b.engaged ∙ k.calm.hold.engaged r h);
      offered = λ v r h. absurd (b.offered v r (k.calm.hold.offered v r h));
      remembers = λ accepted tied m.
          let none : accepted ≡ None = subst (λ (phase : HoldPhase). Remembers phase s.hold.first_path accepted) e m in
          let on : p ≡ q = tied.1 q (e ∙ ap (λ (n : ℕ). hold.Offer n q) (sym same)) in
          subst (λ (taken : Bool). Remembers step.state.hold.phase step.state.hold.first_path (accepted_by (reply.Up (up.Accept u) taken step.outcome.sent) p accepted))
          (sym k.taken)
          (subst (λ (o : Option ℕ). Remembers step.state.hold.phase step.state.hold.first_path o) (sym (accepted-first accepted p q none on))
          (k.calm.hold.remembers (Some q) b.remembers));
      sent = plain-answers returns p s.hold.phase step.outcome.sent k.calm.sent;
    }

accept-begun : (returns : Bool) (storage : Contents) (s : SubchannelState) (h : HoldState) (p t q u : ℕ) (may same : Bool) → (u == t) ≡ same →
    IsMet returns p (up.Accept u) (record s { hold = with_phase h (hold.Offer t q) })
    (takes_accept storage (record s { hold = with_phase h (hold.Offer t q) }) (if same then Some (program_begun (with_phase h (hold.Offer t q)) t q may) else None))
accept-begun returns storage s h p t q u true true e =
    let x : SubchannelState = record s { hold = record h { phase = hold.On t q 0; seen = 0; first_path = Some q }; pmcw = with_path_used s.pmcw q } in
    begun-met returns p u t q (record s { hold = with_phase h (hold.Offer t q) }) x _ refl
    (record { drawn = refl; available = refl; engaged = refl; offered = λ v r f. absurd (cc f); remembers = refl }) (eqb-true u t e)
    (standing-taken storage x q t (offered_position s))
accept-begun returns storage s h p t q u false true e =
    let x : SubchannelState = record s { hold = record h { phase = hold.Letting t q; seen = 0; first_path = Some q }; pmcw = with_path_used s.pmcw q } in
    begun-met returns p u t q (record s { hold = with_phase h (hold.Offer t q) }) x _ refl
    (record { drawn = refl; available = refl; engaged = refl; offered = λ v r f. absurd (cc f); remembers = tt }) (eqb-true u t e)
    (record { calm = same-calm x (halt_performed x) _ (halt_performed-same x) tt; taken = refl })
accept-begun returns storage s h p t q u may false e =
    calm-met returns p (up.Accept u) (record s { hold = with_phase h (hold.Offer t q) }) _ (λ accepted. refl)
    (ignored-calm (record s { hold = with_phase h (hold.Offer t q) }))

accept-ignored : (returns : Bool) (s : SubchannelState) (p u : ℕ) → IsMet returns p (up.Accept u) s (signal_ignored s)
accept-ignored returns s p u = calm-met returns p (up.Accept u) s (signal_ignored s) (λ accepted. refl) (ignored-calm s)

accept-met : (returns : Bool) (storage : Contents) (s : SubchannelState) (h : HoldState) (phase : HoldPhase) (p u : ℕ) (may : Bool) →
    IsMet returns p (up.Accept u) (record s { hold = with_phase h phase })
    (takes_accept storage (record s { hold = with_phase h phase }) (hold_takes (with_phase h phase) p (up.Accept u) may))
accept-met returns storage s h (hold.Offer t q) p u may = accept-begun returns storage s h p t q u may (u == t) refl
accept-met returns storage s h other p u may = accept-ignored returns (record s { hold = with_phase h other }) p u

-- Back
record IsBack (returns : Bool) (p : ℕ) (h : HoldState) (step : Option HoldStep) : Type 0 where
  engaged : (q : ℕ) → engaged_path (hold_after h step).phase ≡ Some q → (engaged_path h.phase ≡ Some q) ⊎ ((returns ≡ true) × (q ≡ p))
  offered : (t q : ℕ) → (hold_after h step).phase ≡ hold.Offer t q → h.phase ≡ hold.Offer t q
  remembers : (accepted : Option ℕ) → Remembers h.phase h.first_path accepted → Remembers (hold_after h step).phase (hold_after h step).first_path accepted
  sent : AreAnswers returns p h.phase (outcome_of step).sent

no-back : (returns : Bool) (p : ℕ) (h : HoldState) → IsBack returns p h None
no-back returns p h = record { engaged = λ q e. inl e; offered = λ t q e. e; remembers = λ accepted m. m; sent = tt }

if-back : (returns : Bool) (p : ℕ) (h : HoldState) (b : Bool) (step : Option HoldStep) → IsBack returns p h step → IsBack returns p h (if b then step else None)
if-back returns p h true step k = k
if-back returns p h false step k = no-back returns p h

refused-back : (returns : Bool) (p : ℕ) (h : HoldState) (t c : ℕ) → IsBack returns p h (Some (refusing h p t c))
refused-back returns p h t c = record { engaged = λ q e. inl e; offered = λ u q e. e; remembers = λ accepted m. m; sent = tt }

away-back : (returns : Bool) (p : ℕ) (h : HoldState) (t c : ℕ) →
    IsBack returns p (with_phase h (hold.Away t)) (if returns then Some (granting (with_phase h (hold.Away t)) p t c) else Some (refusing (with_phase h (hold.Away t)) p t c))
away-back true p h t c =
    record { engaged = λ q e. inr (refl, cc (sym e)); offered = λ u q e. absurd (cc e); remembers = λ accepted m. m; sent = (refl, refl, refl) }
away-back false p h t c = refused-back false p (with_phase h (hold.Away t)) t c

back-step : (returns : Bool) (h : HoldState) (phase : HoldPhase) (p u c : ℕ) →
    IsBack returns p (with_phase h phase) (asked_back (with_phase h phase) phase p u c returns)
back-step returns h (hold.On t q d) p u c =
    if-back returns p (with_phase h (hold.On t q d)) ((u == t) && nat_lt h.seen c) (Some (refusing (with_phase h (hold.On t q d)) p t c))
    (refused-back returns p (with_phase h (hold.On t q d)) t c)
back-step returns h (hold.Away t) p u c =
    if-back returns p (with_phase h (hold.Away t)) ((u == t) && nat_lt h.seen c) _ (away-back returns p h t c)
back-step returns h other p u c = no-back returns p (with_phase h other)

back-met : (returns : Bool) (s : SubchannelState) (p t c : ℕ) → IsMet returns p (up.Back t c) s (takes_back s p (hold_takes s.hold p (up.Back t c) returns))
back-met returns s p t c =
    let k : IsBack returns p s.hold (hold_takes s.hold p (up.Back t c) returns) = back-step returns s.hold s.hold.phase p t c in
    record {
      drawn = omega arith;
      available = refl;
      engaged = k.engaged;
      offered = k.offered;
      remembers = λ accepted tied m. k.remembers accepted m;
      sent = k.sent;
    }

-- Data
given-calm : (s : SubchannelState) (b : ActiveProgram) (signal : DataSignal) (given : NextChunk) → IsCalm s (gives_chunk s b signal given)
given-calm s b signal given = same-calm s (after_chunk s b given.transfer) _ (moving-same s b given.transfer) tt

answer-calm : (s : SubchannelState) (b : ActiveProgram) (signal : DataSignal) (roomy : WithRoom) → IsCalm s (tells_room s b signal roomy)
answer-calm s b signal roomy = same-calm s (after_chunk s b roomy.transfer) _ (moving-same s b roomy.transfer) tt

data-calm : (storage : Contents) (s : SubchannelState) (b : Option ActiveProgram) (signal : DataSignal) (load : Load) →
    IsCalm s (moves_data storage s b signal load).step
data-calm storage s None signal load = ignored-calm s
data-calm storage s (Some b) signal load =
    if-met s (is_answered b.transfer signal.command signal.sequence) (moves_bytes storage s b signal load) (with_storage storage (signal_ignored s))
    (if-met s (is_outward b.transfer.code) (with_storage storage (gives_next_chunk storage s b signal (load_length load)))
    (tells_room_after s b signal (chunk_stored storage b.transfer signal.sequence (load_bytes load)))
    (given-calm s b signal (next_chunk storage (chunk_absorbed storage b.transfer signal.sequence (load_length load))))
    (answer-calm s b signal
    (with_room (chunk_stored storage b.transfer signal.sequence (load_bytes load)).storage (chunk_stored storage b.transfer signal.sequence (load_bytes load)).transfer)))
    (ignored-calm s)

-- End
ended-same : (s x : SubchannelState) (signal : EndSignal) → IsSame (with_allegiance_after_end s signal) x → IsSame s x
ended-same s x signal same = is-same s x same.drawn same.hold same.available

chaining-calm : (storage : Contents) (s : SubchannelState) (b : ActiveProgram) (signal : EndSignal) (walk : WalkPosition) (r : CommandStart) →
    IsCalm s (next_ccw_outcome storage s b signal walk r)
chaining-calm storage s b signal walk (outcome.Begins transfer) =
    same-calm s (after_chunk s b (begun_with_room storage transfer).transfer) _ (moving-same s b (begun_with_room storage transfer).transfer) tt
chaining-calm storage s b signal walk outcome.Suspends =
    let x : SubchannelState = program_suspended (with_allegiance_after_end s signal) b.program walk (residual b.transfer.moving) in
    let-calm s x (ended-same s x signal (suspending-same (with_allegiance_after_end s signal) b.program walk (residual b.transfer.moving)))
chaining-calm storage s b signal walk (outcome.Stops check) =
    let x : SubchannelState = with_cause (with_allegiance_after_end s signal) (cause.FetchFault walk.tried check (residual b.transfer.moving)) in
    let-calm s x (ended-same s x signal (cause-same (with_allegiance_after_end s signal) (cause.FetchFault walk.tried check (residual b.transfer.moving))))

stops-calm : (s : SubchannelState) (b : ActiveProgram) (signal : EndSignal) → IsCalm s (concludes s b signal)
stops-calm s b signal =
    let e : IsSame s (with_cause s (cause.End b signal.status signal.more)) = cause-same s (cause.End b signal.status signal.more) in
    let x : SubchannelState = with_end_status s b signal in
    let same : IsSame s x = is-same s x e.drawn e.hold e.available in
    if-calm s (is_last_end signal.status) (device_released x) (signal_taken x) (let-calm s x same) (same-calm s x _ same tt)

end-calm : (storage : Contents) (s : SubchannelState) (b : Option ActiveProgram) (signal : EndSignal) → IsCalm s (ends_at_work storage s b signal)
end-calm storage s None signal = ignored-calm s
end-calm storage s (Some b) signal =
    let next : Beginning = next_command storage (with_first_end b).transfer (has_status_modifier signal.status) in
    if-calm s (signal.command == b.transfer.command) (ends_command storage s b signal) (signal_ignored s)
    (if-calm s (chains_command s.scsw b signal.status signal.more) (chains_at_device_end storage s (with_first_end b) signal) (concludes s b signal)
    (if-calm s (has_device_end signal.status) (chains_with storage s (with_first_end b) signal next) _
    (chaining-calm storage s (with_first_end b) signal next.walk next.outcome)
    (same-calm s (record (with_allegiance_after_end s signal) { begun = Some (with_first_end b) }) _ (is-same s _ refl refl refl) tt))
    (stops-calm s b signal))
    (ignored-calm s)

pub takes-met : (returns : Bool) (storage : Contents) (s : SubchannelState) (p : ℕ) (x : Up) → IsMet returns p x s (takes_up returns storage s p x).step
takes-met returns storage s p (up.Accept t) = accept-met returns storage s s.hold s.hold.phase p t (takes_device s)
takes-met returns storage s p (up.Busy t) =
    calm-met returns p (up.Busy t) s _ (λ accepted. refl) (hold_outcome-calm s (hold_takes s.hold p (up.Busy t) false) (busy-step s.hold s.hold.phase t))
takes-met returns storage s p (up.Leave t c) =
    calm-met returns p (up.Leave t c) s _ (λ accepted. refl) (hold_outcome-calm s (hold_takes s.hold p (up.Leave t c) false) (left-step s.hold s.hold.phase t c))
takes-met returns storage s p (up.Back t c) = back-met returns s p t c
takes-met returns storage s p (up.Data load t c n seq) =
    let signal : DataSignal = record { path = p; number = t; connection = c; command = n; sequence = seq } in
    calm-met returns p (up.Data load t c n seq) s _ (λ accepted. refl)
    (if-met s (is_connected s.hold.phase p t c) (moves_data storage s s.begun signal load) (with_storage storage (signal_ignored s)) (data-calm storage s s.begun signal load)
    (ignored-calm s))
takes-met returns storage s p (up.End t n status more) =
    let signal : EndSignal = record { path = p; number = t; command = n; status = status; more = more } in
    calm-met returns p (up.End t n status more) s _ (λ accepted. refl)
    (if-calm s (is_on s.hold.phase t) (ends_at_work storage s s.begun signal) (signal_ignored s) (end-calm storage s s.begun signal) (ignored-calm s))
takes-met returns storage s p (up.Released t) =
    calm-met returns p (up.Released t) s _ (λ accepted. refl)
    (hold_outcome-calm s (hold_takes s.hold p (up.Released t) false) (released-step s.hold s.hold.phase t))
takes-met returns storage s p (up.Cleared r) =
    calm-met returns p (up.Cleared r) s _ (λ accepted. refl)
    (cleared-calm s (hold_takes s.hold p (up.Cleared r) false) (cleared-step s.hold s.hold.phase r))
takes-met returns storage s p (up.Notice b) = calm-met returns p (up.Notice b) s _ (λ accepted. refl) (notice-calm s b)
takes-met returns storage s p (up.Attn a status) =
    let step : Option HoldStep = hold_takes s.hold p (up.Attn a status) (may_take_attention s) in
    calm-met returns p (up.Attn a status) s _ (λ accepted. refl)
    (attention-calm s ((outcome_of step).taken && not (status.0 == 0x20)) step (attended-step s.hold s.hold.phase p a (may_take_attention s)))

-- a Grant goes by the path of the Back, to a program that may come back
answer-granted : (returns : Bool) (p : ℕ) (phase : HoldPhase) (q r : ℕ) (d : Down) → IsAnswer returns p phase q d →
    granted_on (Some (record { path = q; signal = d })) ≡ Some r → (returns ≡ true) × (r ≡ p) × (is_held phase ≡ true)
answer-granted returns p phase q r (down.Select t) a e = absurd a
answer-granted returns p phase q r (down.Command t n code room) a e = absurd (cc e)
answer-granted returns p phase q r (down.Grant t c) a e = let same : q ≡ r = cc e in (a.0, sym same ∙ a.1, a.2)
answer-granted returns p phase q r (down.Refuse t c) a e = absurd (cc e)
answer-granted returns p phase q r (down.Took t n s room) a e = absurd (cc e)
answer-granted returns p phase q r (down.Give bytes t c n s) a e = absurd (cc e)
answer-granted returns p phase q r (down.Halt t) a e = absurd (cc e)
answer-granted returns p phase q r (down.Release t) a e = absurd (cc e)
answer-granted returns p phase q r (down.Reset n b) a e = absurd (cc e)
answer-granted returns p phase q r (down.Got n) a e = absurd (cc e)

pub answers-granted : (returns : Bool) (p : ℕ) (phase : HoldPhase) (one : Option (OnPath Down)) (r : ℕ) → AreAnswers returns p phase one → granted_on one ≡ Some r →
    (returns ≡ true) × (r ≡ p) × (is_held phase ≡ true)
answers-granted returns p phase None r a e = absurd (cc e)
answers-granted returns p phase (Some s) r a e = answer-granted returns p phase s.path r s.signal a e
