-- What is seen of a subchannel's program is where its hold has it, after each signal that it takes.
use Rattle.std.proofs.Common.{◌≡◌, refl, sym, ◌∙◌, ap, subst, ℕ, ◌≤◌, ◌==◌, ◌&&◌, nat_lt, Bool, true, false, not, Option, None, Some, if◌then◌else◌, inl, arith}
use Rattle.ccw_walk.specs.Positions.{WalkPosition}
use Rattle.chan_events.specs.declared.reply.Reply.TheVariants as reply
use Rattle.chan_model.specs.declared.hold_state.HoldPhase.{HoldPhase}
use Rattle.chan_model.specs.declared.hold_state.HoldPhase.TheVariants as hold
use Rattle.chan_model.specs.declared.hold_state.HoldState.{HoldState}
use Rattle.chan_model.specs.Signals.{Down, Load, Up, load_bytes}
use Rattle.chan_model.specs.declared.signal.OnPath.{OnPath}
use Rattle.chan_model.specs.declared.signal.Taken.{Taken}
use Rattle.chan_model.specs.declared.signal.Up.TheVariants as up
use Rattle.chan_model.specs.HoldTable.{HoldStep, program_begun, offer_accepted, hold_takes, hold_after, outcome_of, is_connected, is_on, letting_go}
use Rattle.chan_model.specs.Loads.{load_length}
use Rattle.chan_model.specs.ResetCauses.{engaged_path}
use Rattle.chan_model.specs.UnitReports.{is_last_end, is_outward, has_device_end}
use Rattle.data_move.specs.Moving.{residual}
use Rattle.storage_keys.specs.Storage.{Contents}
use Rattle.data_move.specs.declared.transfer.Beginning.{Beginning}
use Rattle.data_move.specs.declared.transfer.CommandStart.{CommandStart}
use Rattle.data_move.specs.declared.transfer.CommandStart.TheVariants as outcome
use Rattle.data_move.specs.Commands.{first_command, next_command, begun_with_room, with_room}
use Rattle.data_move.specs.ToDevice.{chunk_absorbed, next_chunk}
use Rattle.data_move.specs.FromDevice.{chunk_stored}
use Rattle.data_move.specs.ChunkNumbers.{is_answered}
use Rattle.subchannel_model.specs.declared.cause.StatusCause.TheVariants as cause
use Rattle.subchannel_model.specs.declared.signals.DataSignal.{DataSignal}
use Rattle.subchannel_model.specs.declared.signals.EndSignal.{EndSignal}
use Rattle.subchannel_model.specs.declared.state.ActiveProgram.{ActiveProgram}
use Rattle.subchannel_model.specs.declared.state.ProgramPosition.{ProgramPosition}
use Rattle.subchannel_model.specs.declared.state.SubchannelState.{SubchannelState}
use Rattle.subchannel_model.specs.declared.state.UpStep.{UpStep}
use Rattle.subchannel_model.specs.Causes.{with_cause}
use Rattle.subchannel_model.specs.Ends.{has_status_modifier, chains_command}
use Rattle.subchannel_model.specs.Losing.{is_offered_or_held, reset_with, reset_for}
use Rattle.subchannel_model.specs.Programs.{has_any}
use Rattle.subchannel_model.specs.Taking.{takes_up}
use Rattle.subchannel_model.specs.Notice.{with_known}
use Rattle.subchannel_model.specs.Attention.{with_attention, may_take_attention}
use Rattle.run_laws.proofs.Machine.SameState.{IsSame, is-same, same-then, cause-same, interrupted-same, moving-same, suspending-same, attention-same, halt_performed-same, clear_performed-same}
use Rattle.subchannel_model.specs.End.{chains_with, with_end_status, with_first_end, with_allegiance_after_end, next_ccw_outcome, chains_at_device_end, concludes, ends_command, ends_at_work}
use Rattle.subchannel_model.specs.Data.{gives_next_chunk, after_chunk, tells_room_after, moves_bytes, moves_data}
use Rattle.subchannel_model.specs.Outcomes.{SignalOutcome, with_storage, signal_ignored, signal_taken, device_released, hold_outcome}
use Rattle.subchannel_model.specs.Pci.{with_pci}
use Rattle.subchannel_model.specs.Accept.{offered_position, takes_device, with_path_used, with_program_at_work, first_ccw_outcome, begins_at, halt_performed, takes_accept}
use Rattle.subchannel_model.specs.Suspension.{program_suspended}
use Rattle.subchannel_model.specs.Cleared.{clear_performed, takes_cleared}
use Rattle.run_laws.specs.Links.{Link, Offered, accepted, engaged_by, link_sent, SubSeen, sub_met, program_of, mover_of, IsSilent, IsTaken}
use Rattle.run_laws.proofs.Signals.LinkHolds.{Stands, IsHeldAs, phased, is_offer_of, same-offered, certain, IsSentAs, AreSentAs, Turned, TurnedBy, ignored, busy-turned, left-turned, released-turned, cleared-turned, back-turned, attended-turned}
use Rattle.run_laws.proofs.Signals.Meets.{Meets, Ignored, Turns, Begins, Declines, Moves, Ends, Ends_last, Leaves, Grants, IsPlainUp, AreCommandsOn, AreDataAnswers, takes-meets, Sends_command, Sends_room, Sends_bytes}

-- the hold was left as it was, but for its phase
abbrev Rephased : HoldState → HoldState → Type 0
Rephased h x = x ≡ phased h x.phase

record IsLeft (s : SubchannelState) (step : UpStep) : Type 0 where
  hold : Rephased s.hold step.state.hold
  drawn : step.state.drawn ≡ s.drawn

same-left : (s x : SubchannelState) (outcome : Taken Down) → IsSame s x → IsLeft s (record { state = x; outcome = outcome })
same-left s x outcome same = record { hold = subst (λ (h : HoldState). Rephased s.hold h) (sym same.hold) refl; drawn = same.drawn }

lets : (h : HoldState) (phase : HoldPhase) → Rephased (phased h phase) (hold_after (phased h phase) (letting_go (phased h phase) phase))
lets h hold.Free = refl
lets h other = refl

let-left : (s x : SubchannelState) → IsSame s x → IsLeft s (device_released x)
let-left s x same = record {
  hold = subst (λ (h : HoldState). Rephased h (hold_after x.hold (letting_go x.hold x.hold.phase))) same.hold (lets x.hold x.hold.phase);
  drawn = same.drawn;
}

ignored-left : (s : SubchannelState) → IsLeft s (signal_ignored s)
ignored-left s = record { hold = refl; drawn = refl }

if-left : (s : SubchannelState) (b : Bool) (x y : UpStep) → IsLeft s x → IsLeft s y → IsLeft s (if b then x else y)
if-left s true x y k l = k
if-left s false x y k l = l

if-met : (s : SubchannelState) (b : Bool) (x y : SignalOutcome) → IsLeft s x.step → IsLeft s y.step → IsLeft s (if b then x else y).step
if-met s true x y k l = k
if-met s false x y k l = l

-- Accept
record IsBegun (s : SubchannelState) (step : UpStep) : Type 0 where
  left : IsLeft s step
  taken : step.outcome.taken ≡ true

beginning-left : (storage : Contents) (s : SubchannelState) (p t : ℕ) (st : ProgramPosition) (walk : WalkPosition) (r : CommandStart) → IsBegun s (first_ccw_outcome storage s p t st walk r)
beginning-left storage s p t st walk (outcome.Begins transfer) =
    let next : SubchannelState = with_program_at_work s st.program (begun_with_room storage transfer).transfer in
    record {
      left = same-left s (with_pci next next.begun) _ (same-then s next (with_pci next next.begun) (is-same s next refl refl refl) (interrupted-same next next.begun));
      taken = refl;
    }
beginning-left storage s p t st walk outcome.Suspends =
    record { left = let-left s (program_suspended s st.program walk st.count) (suspending-same s st.program walk st.count); taken = refl }
beginning-left storage s p t st walk (outcome.Stops check) =
    record { left = let-left s (with_cause s (cause.FetchFault walk.tried check st.count)) (cause-same s (cause.FetchFault walk.tried check st.count)); taken = refl }

standing-left : (storage : Contents) (s : SubchannelState) (p t : ℕ) (st : Option ProgramPosition) → IsBegun s (begins_at storage s p t st)
standing-left storage s p t None = record { left = same-left s s _ (is-same s s refl refl refl); taken = refl }
standing-left storage s p t (Some st) = beginning-left storage s p t st (first_command storage st.walk).walk (first_command storage st.walk).outcome

abbrev noted : Up → Bool → HoldState → HoldPhase → HoldState
noted (up.Accept t) true h phase = record h { phase = phase; seen = 0; first_path = engaged_path h.phase }
noted x taken h phase = phased h phase

record IsNoted (x : Up) (s : SubchannelState) (step : UpStep) : Type 0 where
  hold : step.state.hold ≡ noted x step.outcome.taken s.hold step.state.hold.phase
  drawn : step.state.drawn ≡ s.drawn

record IsAccepted (u : ℕ) (s : SubchannelState) (step : UpStep) : Type 0 where
  noted : IsNoted (up.Accept u) s step
  taken : step.outcome.taken ≡ is_offer_of s.hold.phase u

not-accepted : (u : ℕ) (s : SubchannelState) (h : HoldState) (phase : HoldPhase) → is_offer_of phase u ≡ false → IsAccepted u (record s { hold = phased h phase }) (signal_ignored (record s { hold = phased h phase }))
not-accepted u s h phase e = record { noted = record { hold = refl; drawn = refl }; taken = sym e }

begun-noted : (u t q : ℕ) (s : SubchannelState) (h : HoldState) (x : SubchannelState) (phase : HoldPhase) (step : UpStep) → x.hold ≡ record h { phase = phase; seen = 0; first_path = Some q } → x.drawn ≡ s.drawn →
    (u == t) ≡ true → IsBegun x step → IsAccepted u (record s { hold = phased h (hold.Offer t q) }) step
begun-noted u t q s h x phase step e n same b = record {
  noted = record {
    hold = subst (λ (taken : Bool). step.state.hold ≡ noted (up.Accept u) taken (phased h (hold.Offer t q)) step.state.hold.phase) (sym b.taken)
        (b.left.hold ∙ ap (λ (y : HoldState). phased y step.state.hold.phase) e);
    drawn = b.left.drawn ∙ n;
  };
  taken = b.taken ∙ sym same;
}

accept-begun : (storage : Contents) (s : SubchannelState) (h : HoldState) (t q u : ℕ) (may same : Bool) → (u == t) ≡ same →
    IsAccepted u (record s { hold = phased h (hold.Offer t q) })
    (takes_accept storage (record s { hold = phased h (hold.Offer t q) }) (if same then Some (program_begun (phased h (hold.Offer t q)) t q may) else None))
accept-begun storage s h t q u true true e =
    let x : SubchannelState = record s { hold = record h { phase = hold.On t q 0; seen = 0; first_path = Some q }; pmcw = with_path_used s.pmcw q } in
    begun-noted u t q s h x (hold.On t q 0) _ refl refl e (standing-left storage x q t (offered_position s))
accept-begun storage s h t q u false true e =
    let x : SubchannelState = record s { hold = record h { phase = hold.Letting t q; seen = 0; first_path = Some q }; pmcw = with_path_used s.pmcw q } in
    begun-noted u t q s h x (hold.Letting t q) _ refl refl e (record { left = same-left x (halt_performed x) _ (halt_performed-same x); taken = refl })
accept-begun storage s h t q u may false e = not-accepted u s h (hold.Offer t q) e

accept-noted : (storage : Contents) (s : SubchannelState) (h : HoldState) (phase : HoldPhase) (u : ℕ) (may : Bool) →
    IsAccepted u (record s { hold = phased h phase }) (takes_accept storage (record s { hold = phased h phase }) (offer_accepted (phased h phase) phase u may))
accept-noted storage s h (hold.Offer t q) u may = accept-begun storage s h t q u may (u == t) refl
accept-noted storage s h other u may = not-accepted u s h other refl

-- Data
data-left : (storage : Contents) (s : SubchannelState) (b : Option ActiveProgram) (signal : DataSignal) (load : Load) → IsLeft s (moves_data storage s b signal load).step
data-left storage s None signal load = ignored-left s
data-left storage s (Some b) signal load =
    if-met s (is_answered b.transfer signal.command signal.sequence) (moves_bytes storage s b signal load) (with_storage storage (signal_ignored s))
    (if-met s (is_outward b.transfer.code) (with_storage storage (gives_next_chunk storage s b signal (load_length load))) (tells_room_after s b signal (chunk_stored storage b.transfer signal.sequence (load_bytes load)))
    (same-left s (after_chunk s b (next_chunk storage (chunk_absorbed storage b.transfer signal.sequence (load_length load))).transfer) _ (moving-same s b _))
    (same-left s
    (after_chunk s b (with_room (chunk_stored storage b.transfer signal.sequence (load_bytes load)).storage (chunk_stored storage b.transfer signal.sequence (load_bytes load)).transfer).transfer) _
    (moving-same s b _)))
    (ignored-left s)

-- End
ended-same : (s x : SubchannelState) (signal : EndSignal) → IsSame (with_allegiance_after_end s signal) x → IsSame s x
ended-same s x signal same = is-same s x same.drawn same.hold same.available

chaining-left : (storage : Contents) (s : SubchannelState) (b : ActiveProgram) (signal : EndSignal) (walk : WalkPosition) (r : CommandStart) → IsLeft s (next_ccw_outcome storage s b signal walk r)
chaining-left storage s b signal walk (outcome.Begins transfer) =
    same-left s (after_chunk s b (begun_with_room storage transfer).transfer) _ (moving-same s b (begun_with_room storage transfer).transfer)
chaining-left storage s b signal walk outcome.Suspends =
    let x : SubchannelState = program_suspended (with_allegiance_after_end s signal) b.program walk (residual b.transfer.moving) in
    let-left s x (ended-same s x signal (suspending-same (with_allegiance_after_end s signal) b.program walk (residual b.transfer.moving)))
chaining-left storage s b signal walk (outcome.Stops check) =
    let x : SubchannelState = with_cause (with_allegiance_after_end s signal) (cause.FetchFault walk.tried check (residual b.transfer.moving)) in
    let-left s x (ended-same s x signal (cause-same (with_allegiance_after_end s signal) (cause.FetchFault walk.tried check (residual b.transfer.moving))))

stops-left : (s : SubchannelState) (b : ActiveProgram) (signal : EndSignal) → IsLeft s (concludes s b signal)
stops-left s b signal =
    let e : IsSame s (with_cause s (cause.End b signal.status signal.more)) = cause-same s (cause.End b signal.status signal.more) in
    let x : SubchannelState = with_end_status s b signal in
    let same : IsSame s x = is-same s x e.drawn e.hold e.available in
    if-left s (is_last_end signal.status) (device_released x) (signal_taken x) (let-left s x same) (same-left s x _ same)

end-left : (storage : Contents) (s : SubchannelState) (b : Option ActiveProgram) (signal : EndSignal) → IsLeft s (ends_at_work storage s b signal)
end-left storage s None signal = ignored-left s
end-left storage s (Some b) signal =
    let next : Beginning = next_command storage (with_first_end b).transfer (has_status_modifier signal.status) in
    if-left s (signal.command == b.transfer.command) (ends_command storage s b signal) (signal_ignored s)
    (if-left s (chains_command s.scsw b signal.status signal.more) (chains_at_device_end storage s (with_first_end b) signal) (concludes s b signal)
    (if-left s (has_device_end signal.status) (chains_with storage s (with_first_end b) signal next) _ (chaining-left storage s (with_first_end b) signal next.walk next.outcome)
    (same-left s (record (with_allegiance_after_end s signal) { begun = Some (with_first_end b) }) _ (is-same s _ refl refl refl)))
    (stops-left s b signal))
    (ignored-left s)

-- what these signals leave of what is seen
abbrev IsSteady : Up → Type 0
IsSteady (up.Accept t) = Unit {0}
IsSteady (up.Data load t c n s) = Unit {0}
IsSteady (up.End t n status more) = Unit {0}
IsSteady x = ⊥

not-plain : (x : Up) → IsSteady x → IsPlainUp x → ⊥
not-plain (up.Accept t) s a = a
not-plain (up.Busy t) s a = s
not-plain (up.Leave t c) s a = a
not-plain (up.Back t c) s a = s
not-plain (up.Data load t c n q) s a = a
not-plain (up.End t n status more) s a = a
not-plain (up.Released t) s a = s
not-plain (up.Cleared r) s a = s
not-plain (up.Notice b) s a = s
not-plain (up.Attn a status) s b = s

ignored-noted : (x : Up) (h : HoldState) (phase : HoldPhase) → IsSteady x → noted x false h phase ≡ phased h phase
ignored-noted (up.Accept t) h phase s = refl
ignored-noted (up.Busy t) h phase s = absurd s
ignored-noted (up.Leave t c) h phase s = absurd s
ignored-noted (up.Back t c) h phase s = absurd s
ignored-noted (up.Data load t c n q) h phase s = refl
ignored-noted (up.End t n status more) h phase s = refl
ignored-noted (up.Released t) h phase s = absurd s
ignored-noted (up.Cleared r) h phase s = absurd s
ignored-noted (up.Notice b) h phase s = absurd s
ignored-noted (up.Attn a status) h phase s = absurd s

command-link : (t p q : ℕ) (d : Down) (l : Link) → AreCommandsOn t p (Some (record { path = q; signal = d })) → (link_sent (Some (record { path = q; signal = d })) l ≡ l)
command-link t p q _ l (Sends_command u n code room number path) = refl

commands-link : (t p : ℕ) (one : Option (OnPath Down)) (l : Link) → AreCommandsOn t p one → link_sent one l ≡ l
commands-link t p None l a = refl
commands-link t p (Some s) l a = command-link t p s.path s.signal l a

data-link : (t p c q : ℕ) (d : Down) (l : Link) → AreDataAnswers t p c (Some (record { path = q; signal = d })) → (link_sent (Some (record { path = q; signal = d })) l ≡ l)
data-link t p c q _ l (Sends_room u n s room number path) = refl
data-link t p c q _ l (Sends_bytes bytes u d n s number path connection) = refl

data-links : (t p c : ℕ) (one : Option (OnPath Down)) (l : Link) → AreDataAnswers t p c one → link_sent one l ≡ l
data-links t p c None l a = refl
data-links t p c (Some s) l a = data-link t p c s.path s.signal l a

-- what is sent of a program answers a signal of it
as-number : (o : Option ℕ) (t u : ℕ) → o ≡ Some t → t ≡ u → o ≡ Some u
as-number o t u e f = e ∙ ap Some f

command-sent : (k : SubSeen) (path : ℕ) (x : Up) (t p q : ℕ) (d : Down) → program_of x ≡ Some t → AreCommandsOn t p (Some (record { path = q; signal = d })) → IsSentAs k path x q d
command-sent k path x t p q _ e (Sends_command u n code room number way) = as-number (program_of x) t u e number

commands-sent : (k : SubSeen) (path : ℕ) (x : Up) (t p : ℕ) (one : Option (OnPath Down)) → program_of x ≡ Some t → IsSilent true x → AreCommandsOn t p one → AreSentAs k path x true one
commands-sent k path x t p None e quiet a = quiet
commands-sent k path x t p (Some s) e quiet a = command-sent k path x t p s.path s.signal e a

data-sent : (k : SubSeen) (path : ℕ) (x : Up) (t p c q : ℕ) (d : Down) → mover_of x ≡ Some t → AreDataAnswers t p c (Some (record { path = q; signal = d })) → IsSentAs k path x q d
data-sent k path x t p c q _ e (Sends_room u n s room number way) = as-number (mover_of x) t u e number
data-sent k path x t p c q _ e (Sends_bytes bytes u d n s number way connection) = as-number (mover_of x) t u e number

datas-sent : (k : SubSeen) (path : ℕ) (x : Up) (t p c : ℕ) (one : Option (OnPath Down)) → mover_of x ≡ Some t → IsSilent true x → AreDataAnswers t p c one → AreSentAs k path x true one
datas-sent k path x t p c None e quiet a = quiet
datas-sent k path x t p c (Some s) e quiet a = data-sent k path x t p c s.path s.signal e a

meets-sent : (p : ℕ) (x : Up) (phase : HoldPhase) (taken : Bool) (sent : Option (OnPath Down)) (next : HoldPhase) (k : SubSeen) → Meets p x phase taken sent next → IsSteady x → AreSentAs k p x taken sent
meets-sent p _ _ _ _ _ k (Ignored x phase) steady = tt
meets-sent p _ _ _ _ _ k (Turns x phase next sent plain stays quiet) steady = absurd (not-plain x steady plain)
meets-sent p _ _ _ _ _ k (Begins t q sent commands) steady = commands-sent k p (up.Accept t) t q sent refl tt commands
meets-sent p _ _ _ _ _ k (Declines t q) steady = refl
meets-sent p _ _ _ _ _ k (Moves t c n s load sent answers) steady = datas-sent k p (up.Data load t c n s) t p c sent refl tt answers
meets-sent p _ _ _ _ _ k (Ends x t q c sent commands) steady = commands-sent k p (up.End t x.command x.status x.more) t p sent refl tt commands
meets-sent p _ _ _ _ _ k (Ends_last x t q c) steady = refl
meets-sent p _ _ _ _ _ k (Leaves t q c) steady = absurd steady
meets-sent p _ _ _ _ _ k (Grants t c) steady = absurd steady

-- a Data or End that is taken is of the program that is connected
abbrev IsWork : Up → Type 0
IsWork (up.Data load t c n s) = Unit {0}
IsWork (up.End t n status more) = Unit {0}
IsWork x = ⊥

work-not-plain : (x : Up) → IsWork x → IsPlainUp x → ⊥
work-not-plain (up.Accept t) w a = w
work-not-plain (up.Busy t) w a = w
work-not-plain (up.Leave t c) w a = w
work-not-plain (up.Back t c) w a = w
work-not-plain (up.Data load t c n q) w a = a
work-not-plain (up.End t n status more) w a = a
work-not-plain (up.Released t) w a = w
work-not-plain (up.Cleared r) w a = w
work-not-plain (up.Notice b) w a = w
work-not-plain (up.Attn a status) w b = w

ignored-work : (k : SubSeen) (p : ℕ) (x : Up) → IsWork x → IsTaken k p x false
ignored-work k p (up.Accept t) w = absurd w
ignored-work k p (up.Busy t) w = absurd w
ignored-work k p (up.Leave t c) w = absurd w
ignored-work k p (up.Back t c) w = absurd w
ignored-work k p (up.Data load t c n q) w = λ e. absurd (cc e)
ignored-work k p (up.End t n status more) w = λ e. absurd (cc e)
ignored-work k p (up.Released t) w = absurd w
ignored-work k p (up.Cleared r) w = absurd w
ignored-work k p (up.Notice b) w = absurd w
ignored-work k p (up.Attn a status) w = absurd w

work-taken : (p : ℕ) (x : Up) (phase : HoldPhase) (taken : Bool) (sent : Option (OnPath Down)) (next : HoldPhase) (k : SubSeen) (reset : Option ℕ) → Meets p x phase taken sent next → IsWork x →
    Stands k phase reset → IsTaken k p x taken
work-taken p _ _ _ _ _ k reset (Ignored x phase) work stands = ignored-work k p x work
work-taken p _ _ _ _ _ k reset (Turns x phase next sent plain stays quiet) work stands = absurd (work-not-plain x work plain)
work-taken p _ _ _ _ _ k reset (Moves t c n s load sent answers) work stands = λ e. certain k (hold.On t p c) reset (λ r f. absurd (cc f)) stands
work-taken p _ _ _ _ _ k reset (Ends x t q c sent commands) work stands = λ e. (q, c, certain k (hold.On t q c) reset (λ r f. absurd (cc f)) stands)
work-taken p _ _ _ _ _ k reset (Ends_last x t q c) work stands = λ e. (q, c, certain k (hold.On t q c) reset (λ r f. absurd (cc f)) stands)
work-taken p _ _ _ _ _ k reset other work stands = absurd work

-- a program that goes on by its connection
goes-on-after : (k : SubSeen) (h : HoldState) (n t q c : ℕ) (link : Link) → IsHeldAs k (phased h (hold.On t q c)) n → link ≡ k.link →
    IsHeldAs (record k { link = link; doubt = false }) (phased h (hold.On t q c)) n
goes-on-after k h n t q c link tie e = record {
  stands = inl (e ∙ certain k (hold.On t q c) h.reset_path (λ r f. absurd (cc f)) tie.stands);
  asked = tie.asked;
  first = tie.first;
  known_restarts = tie.known_restarts;
  drawn = tie.drawn;
  due = tt;
  single = tie.single;
}

meets-after : (p : ℕ) (x : Up) (phase : HoldPhase) (taken : Bool) (sent : Option (OnPath Down)) (next : HoldPhase) (k : SubSeen) (h : HoldState) (n : ℕ) → Meets p x phase taken sent next → IsSteady x →
    IsHeldAs k (phased h phase) n → IsHeldAs (sub_met (reply.Up x taken sent) k) (noted x taken (phased h phase) next) n
meets-after p _ _ _ _ _ k h n (Ignored x phase) steady tie = subst (λ (y : HoldState). IsHeldAs k y n) (sym (ignored-noted x (phased h phase) phase steady)) tie
meets-after p _ _ _ _ _ k h n (Turns x phase next sent plain stays quiet) steady tie = absurd (not-plain x steady plain)
meets-after p _ _ _ _ _ k h n (Begins t q sent commands) steady tie =
    let was : k.link ≡ Offered t q = certain k (hold.Offer t q) h.reset_path (λ r f. absurd (cc f)) tie.stands in
    record {
      stands = inl (commands-link t q sent _ commands ∙ ap (λ (l : Link). accepted l) was);
      asked = refl;
      first = ap engaged_by was;
      known_restarts = tie.known_restarts;
      drawn = tie.drawn;
      due = tt;
      single = λ e. refl;
    }
meets-after p _ _ _ _ _ k h n (Declines t q) steady tie =
    let was : k.link ≡ Offered t q = certain k (hold.Offer t q) h.reset_path (λ r f. absurd (cc f)) tie.stands in
    record { stands = inl refl; asked = refl; first = ap engaged_by was; known_restarts = tie.known_restarts; drawn = tie.drawn; due = tt; single = tt }
meets-after p _ _ _ _ _ k h n (Moves t c m s load sent answers) steady tie = goes-on-after k h n t p c (link_sent sent k.link) tie (data-links t p c sent k.link answers)
meets-after p _ _ _ _ _ k h n (Ends x t q c sent commands) steady tie = goes-on-after k h n t q c (link_sent sent k.link) tie (commands-link t p sent k.link commands)
meets-after p _ _ _ _ _ k h n (Ends_last x t q c) steady tie =
    record { stands = inl refl; asked = tie.asked; first = tie.first; known_restarts = tie.known_restarts; drawn = tie.drawn; due = tt; single = tt }
meets-after p _ _ _ _ _ k h n (Leaves t q c) steady tie = absurd steady
meets-after p _ _ _ _ _ k h n (Grants t c) steady tie = absurd steady

-- the signals together
abbrev IsTurn : ℕ → Up → SubSeen → UpStep → Type 0
IsTurn p x k step = Turned p x k step.outcome.taken step.outcome.sent step.state.hold step.state.drawn

after-as : (k : SubSeen) (h x : HoldState) (n m : ℕ) → x ≡ h → m ≡ n → IsHeldAs k h n → IsHeldAs k x m
after-as k h x n m e f tie = subst (λ (y : HoldState). IsHeldAs k y m) (sym e) (subst (λ (j : ℕ). IsHeldAs k h j) (sym f) tie)

steady-turned : (p : ℕ) (x : Up) (k : SubSeen) (s : SubchannelState) (step : UpStep) → IsSteady x → Meets p x s.hold.phase step.outcome.taken step.outcome.sent step.state.hold.phase → IsNoted x s step →
    IsTaken k p x step.outcome.taken → IsHeldAs k s.hold s.drawn → IsTurn p x k step
steady-turned p x k s step steady m noted taken tie = record {
  taken = taken;
  sent = meets-sent p x s.hold.phase step.outcome.taken step.outcome.sent step.state.hold.phase k m steady;
  after = after-as (sub_met (reply.Up x step.outcome.taken step.outcome.sent) k) _ step.state.hold s.drawn step.state.drawn noted.hold noted.drawn
      (meets-after p x s.hold.phase step.outcome.taken step.outcome.sent step.state.hold.phase k s.hold s.drawn m steady tie);
}

same-turned : (p : ℕ) (x : Up) (k : SubSeen) (s y : SubchannelState) (taken : Bool) (sent : Option (OnPath Down)) → IsSame s y → Turned p x k taken sent s.hold s.drawn → Turned p x k taken sent y.hold y.drawn
same-turned p x k s y taken sent same t = record { taken = t.taken; sent = t.sent; after = after-as (sub_met (reply.Up x taken sent) k) s.hold y.hold s.drawn y.drawn same.hold same.drawn t.after }

cleared-step : (p : ℕ) (x : Up) (k : SubSeen) (s : SubchannelState) (step : Option HoldStep) → TurnedBy p x k s.hold s.drawn step → IsTurn p x k (takes_cleared s step)
cleared-step p x k s None t = t
cleared-step p x k s (Some step) t =
    let next : SubchannelState = record s { hold = step.state } in same-turned p x k next (clear_performed next) true step.sent (clear_performed-same next) t

-- Notice: the hold is to be reset under a fresh number
notice-after : (k : SubSeen) (s : SubchannelState) (b : ℕ) (shows : Bool) → IsHeldAs k s.hold s.drawn →
    IsHeldAs (sub_met (reply.Up (up.Notice b) true None) k) (reset_with (with_known s b) shows).hold (reset_with (with_known s b) shows).drawn
notice-after k s b true tie =
    let l : k.drawn ≤ s.drawn = tie.drawn in
    record { stands = inl refl; asked = tie.asked; first = tie.first; known_restarts = refl; drawn = omega (arith, l); due = (omega (arith, l), omega arith); single = tt }
notice-after k s b false tie =
    let l : k.drawn ≤ s.drawn = tie.drawn in
    record { stands = inl refl; asked = tie.asked; first = tie.first; known_restarts = refl; drawn = omega (arith, l); due = (omega (arith, l), omega arith); single = tt }

notice-turned : (p : ℕ) (k : SubSeen) (s : SubchannelState) (b : ℕ) (more : Bool) → nat_lt s.hold.known_restarts b ≡ more → IsHeldAs k s.hold s.drawn →
    IsTurn p (up.Notice b) k (if more then signal_taken (reset_for (with_known s b)) else signal_ignored s)
notice-turned p k s b true e tie = record {
  taken = sym (ap (λ (m : ℕ). nat_lt m b) tie.known_restarts ∙ e);
  sent = tt;
  after = notice-after k s b (is_offered_or_held s.hold.phase && has_any s.waiting s.begun s.suspended) tie;
}
notice-turned p k s b false e tie = ignored p (up.Notice b) k s.hold s.drawn (sym (ap (λ (m : ℕ). nat_lt m b) tie.known_restarts ∙ e)) tie

-- the number of a Cleared is one that was seen to be sent
abbrev pub IsSeenUp : ℕ → Up → Type 0
IsSeenUp n (up.Cleared r) = r ≤ n
IsSeenUp n x = Unit {0}

pub takes-turned : (returns : Bool) (storage : Contents) (s : SubchannelState) (p : ℕ) (x : Up) (k : SubSeen) → (returns ≡ true → s.hold.single_path ≡ true → s.hold.first_path ≡ Some p) →
    IsSeenUp k.drawn x → IsHeldAs k s.hold s.drawn → IsTurn p x k (takes_up returns storage s p x).step
takes-turned returns storage s p (up.Accept t) k single seen tie =
    let a = accept-noted storage s s.hold s.hold.phase t (takes_device s) in
    steady-turned p (up.Accept t) k s (takes_up returns storage s p (up.Accept t)).step tt (takes-meets returns storage s p (up.Accept t)) a.noted
    (a.taken ∙ sym (same-offered k s.hold.phase s.hold.reset_path t tie.stands)) tie
takes-turned returns storage s p (up.Busy t) k single seen tie = busy-turned p k s.hold s.drawn s.hold.phase t tie
takes-turned returns storage s p (up.Leave t c) k single seen tie = left-turned p k s.hold s.drawn s.hold.phase t c tie
takes-turned returns storage s p (up.Back t c) k single seen tie = back-turned p k s.hold s.drawn s.hold.phase t c returns single tie
takes-turned returns storage s p (up.Data load t c n q) k single seen tie =
    let signal : DataSignal = record { path = p; number = t; connection = c; command = n; sequence = q } in
    let left : IsLeft s (takes_up returns storage s p (up.Data load t c n q)).step =
    if-met s (is_connected s.hold.phase p t c) (moves_data storage s s.begun signal load) (with_storage storage (signal_ignored s)) (data-left storage s s.begun signal load) (ignored-left s) in
    steady-turned p (up.Data load t c n q) k s (takes_up returns storage s p (up.Data load t c n q)).step tt (takes-meets returns storage s p (up.Data load t c n q)) (record { hold = left.hold; drawn = left.drawn })
    (work-taken p (up.Data load t c n q) s.hold.phase _ _ _ k s.hold.reset_path (takes-meets returns storage s p (up.Data load t c n q)) tt tie.stands) tie
takes-turned returns storage s p (up.End t n status more) k single seen tie =
    let signal : EndSignal = record { path = p; number = t; command = n; status = status; more = more } in
    let left : IsLeft s (takes_up returns storage s p (up.End t n status more)).step =
    if-left s (is_on s.hold.phase t) (ends_at_work storage s s.begun signal) (signal_ignored s) (end-left storage s s.begun signal) (ignored-left s) in
    steady-turned p (up.End t n status more) k s (takes_up returns storage s p (up.End t n status more)).step tt (takes-meets returns storage s p (up.End t n status more)) (record { hold = left.hold; drawn = left.drawn })
    (work-taken p (up.End t n status more) s.hold.phase _ _ _ k s.hold.reset_path (takes-meets returns storage s p (up.End t n status more)) tt tie.stands) tie
takes-turned returns storage s p (up.Released t) k single seen tie = released-turned p k s.hold s.drawn s.hold.phase t tie
takes-turned returns storage s p (up.Cleared r) k single seen tie =
    cleared-step p (up.Cleared r) k s (hold_takes s.hold p (up.Cleared r) false) (cleared-turned p k s.hold s.drawn s.hold.phase r seen tie)
takes-turned returns storage s p (up.Notice b) k single seen tie = notice-turned p k s b (nat_lt s.hold.known_restarts b) refl tie
takes-turned returns storage s p (up.Attn a status) k single seen tie =
    let step : Option HoldStep = hold_takes s.hold p (up.Attn a status) (may_take_attention s) in
    let shows : Bool = (outcome_of step).taken && not (status.0 == 0x20) in
    same-turned p (up.Attn a status) k (hold_outcome s step).state (with_attention (hold_outcome s step).state shows) (outcome_of step).taken (outcome_of step).sent
    (attention-same (hold_outcome s step).state shows) (attended-turned p k s.hold s.drawn s.hold.phase a status (may_take_attention s) tie)
