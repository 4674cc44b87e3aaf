-- Between steps no interruption by the program is left to be made: each is made as its block takes control.
use Rattle.std.proofs.Common.{◌≡◌, refl, sym, ◌∙◌, ap, subst, ℕ, Bool, true, false, List, Option, None, Some, Result, Err, ◌⊎◌, inl, inr}
use Rattle.std.specs.Prelude.{◌&&◌, ◌==◌, ◌+◌, not, nat_lt, length, slice_get, if◌then◌else◌, IfOk}
use Rattle.chan_events.specs.declared.reply.Entry.{Entry}
use Rattle.chan_events.specs.declared.reply.Reply.TheVariants as reply
use Rattle.chan_model.specs.declared.fault.Fault.{Fault}
use Rattle.chan_model.specs.declared.fault.Fault.TheVariants as fault
use Rattle.chan_model.specs.declared.hold_state.HoldPhase.{HoldPhase}
use Rattle.chan_model.specs.declared.hold_state.HoldPhase.TheVariants as hold
use Rattle.chan_model.specs.Signals.{Down, Load, Up, load_bytes}
use Rattle.chan_model.specs.declared.signal.Down.TheVariants as down
use Rattle.chan_model.specs.declared.signal.Taken.{Taken}
use Rattle.chan_model.specs.declared.signal.Up.TheVariants as up
use Rattle.chan_model.specs.declared.unit_state.UnitState.{UnitState}
use Rattle.chan_model.specs.HoldTable.{HoldStep, outcome_of, hold_after, hold_takes, is_connected, is_on}
use Rattle.chan_model.specs.Loads.{load_length}
use Rattle.chan_model.specs.UnitReports.{has_device_end, is_last_end, is_outward}
use Rattle.channel_config.specs.Lawful.{IsLawful}
use Rattle.channel_config.specs.Setup.{Setup}
use Rattle.channel_config.specs.declared.parts.SubchannelSetup.{SubchannelSetup}
use Rattle.ccw_walk.specs.Positions.{WalkPosition}
use Rattle.data_move.specs.Moving.{residual}
use Rattle.storage_keys.specs.Storage.{Contents}
use Rattle.data_move.specs.declared.transfer.CommandStart.{CommandStart}
use Rattle.data_move.specs.declared.transfer.CommandStart.TheVariants as outcome
use Rattle.data_move.specs.declared.transfer.Transfer.{Transfer}
use Rattle.data_move.specs.FromDevice.{chunk_stored}
use Rattle.data_move.specs.ChunkNumbers.{is_answered}
use Rattle.data_move.specs.ToDevice.{next_chunk, chunk_absorbed}
use Rattle.data_move.specs.Commands.{begun_with_room, first_command, next_command, with_room}
use Rattle.subchannel_model.specs.declared.cause.StatusCause.TheVariants as cause
use Rattle.subchannel_model.specs.declared.signals.DataSignal.{DataSignal}
use Rattle.subchannel_model.specs.declared.signals.EndSignal.{EndSignal}
use Rattle.subchannel_model.specs.declared.state.ActiveProgram.{ActiveProgram}
use Rattle.subchannel_model.specs.declared.state.Chosen.{Chosen}
use Rattle.subchannel_model.specs.declared.state.Chosen.TheVariants.{Idle, Resets, PerformsClear, Halts, PerformsHalt, FindsNoPath, Offers}
use Rattle.subchannel_model.specs.declared.state.ProgramPosition.{ProgramPosition}
use Rattle.subchannel_model.specs.declared.state.Subchannel.{Subchannel}
use Rattle.subchannel_model.specs.declared.state.SubchannelState.{SubchannelState}
use Rattle.subchannel_model.specs.Data.{gives_next_chunk}
use Rattle.subchannel_model.specs.Causes.{programs_after_end, with_cause, without_begun}
use Rattle.subchannel_model.specs.Choosing.{chosen, halt_sent, marked_sub, offered, reset_sent}
use Rattle.subchannel_model.specs.Ends.{chains_command, has_status_modifier}
use Rattle.subchannel_model.specs.Losing.{is_offered_or_held, reset_for, reset_with}
use Rattle.subchannel_model.specs.Programs.{has_any}
use Rattle.subchannel_model.specs.End.{chains_with, with_first_end}
use Rattle.subchannel_model.specs.Sending.{carried_by, finds_full}
use Rattle.subchannel_model.specs.Taking.{takes_up}
use Rattle.subchannel_model.specs.Notice.{with_known}
use Rattle.subchannel_model.specs.Accept as on_accept
use Rattle.subchannel_model.specs.Suspension as suspension
use Rattle.subchannel_model.specs.Outcomes.{device_released}
use Rattle.subchannel_model.specs.Outcomes as outcomes
use Rattle.subchannel_model.specs.Data as on_data
use Rattle.subchannel_model.specs.Command as command_spec
use Rattle.subchannel_model.specs.End as on_end
use Rattle.subchannel_model.specs.Cleared as on_cleared
use Rattle.subchannel_model.specs.Attention as on_attention
use Rattle.subchannel_model.specs.Pci.{without_pci}
use Rattle.machine_model.specs.ChooseSteps.{choose_sub}
use Rattle.machine_model.specs.declared.state.Sweep.{Sweep}
use Rattle.machine_model.specs.PathSteps.{swept}
use Rattle.machine_model.specs.State.{State, opening_of}
use Rattle.machine_model.specs.Steps.{Run, Opened, Stepped}
use Rattle.machine_model.specs.Results.{SubResult, UpResult, DownResult}
use Rattle.machine_model.specs.UpSteps.{up_front, up_sub}
use Rattle.wires.specs.Queues.{queue}
use Rattle.step_laws.specs.Walks.{AreWalks}
use Rattle.step_laws.proofs.Indices.{map-get}
use Rattle.subchannel_model.specs.Opening.{opened}
use Rattle.run_laws.specs.Traces.{ProgramTrace}
use Rattle.run_laws.proofs.Traces.Caused.{attention-begun, clear-begun, fault-begun, halted-begun, path-begun, suspending-workless, tested-begun}
use Rattle.run_laws.proofs.Units.RunSides.{run-one-sided}
use Rattle.run_laws.proofs.Traces.Sweeps.{swept-kept}
use Rattle.run_laws.proofs.Traces.Turns.{IndexStep, Stays, Starts_with_orb, Is_tested, Is_resumed, Is_halted, Is_cleared, Is_cancelled, Is_modified, Is_chosen, Meets, Sinks, Is_reported, Other_sinks, Other_reported, Unit_acts, Is_swept, IsSameSub, down-same, report-same, step-happens}
use Rattle.run_laws.proofs.Units.UnitActs.{if-ok}
use Rattle.run_laws.proofs.Links.Vanishing.{send-ok}

abbrev pub IsUnasked : Option ActiveProgram → Type 0
IsUnasked None = Unit {0}
IsUnasked (Some b) = b.transfer.pci_pending ≡ false

unasked-as : (b c : Option ActiveProgram) → c ≡ b → IsUnasked b → IsUnasked c
unasked-as b c e u = subst (λ (x : Option ActiveProgram). IsUnasked x) (sym e) u

unasked-none : (b : Option ActiveProgram) → b ≡ None → IsUnasked b
unasked-none b e = unasked-as None b e tt

unasked-or : (b c : Option ActiveProgram) → (c ≡ b) ⊎ (c ≡ None) → IsUnasked b → IsUnasked c
unasked-or b c (inl e) u = unasked-as b c e u
unasked-or b c (inr e) u = unasked-none c e

-- a block that took control
asked-made : (s : SubchannelState) (b : ActiveProgram) (x : Bool) → b.transfer.pci_pending ≡ x → s.begun ≡ Some b →
    IsUnasked (if x then with_cause (record s { begun = Some (without_pci b) }) (cause.Pci b.transfer.walk.tried (residual b.transfer.moving)) else s).begun
asked-made s b true p e = refl
asked-made s b false p e = unasked-as (Some b) s.begun e p

-- Accept
begins-unasked : (storage : Contents) (s : SubchannelState) (p t : ℕ) (st : ProgramPosition) (walk : WalkPosition) (c : CommandStart) →
    IsUnasked (on_accept.first_ccw_outcome storage s p t st walk c).state.begun
begins-unasked storage s p t st walk (outcome.Begins transfer) =
    let u : Transfer = (begun_with_room storage transfer).transfer in
    asked-made (on_accept.with_program_at_work s st.program u) (record { program = st.program; primary_shown = false; transfer = u }) u.pci_pending refl refl
begins-unasked storage s p t st walk outcome.Suspends = unasked-none (suspension.program_suspended s st.program walk st.count).begun (suspending-workless s st.program walk st.count).begun
begins-unasked storage s p t st walk (outcome.Stops check) = unasked-none (without_begun s.begun s).begun (fault-begun s s.begun refl)

standing-unasked : (storage : Contents) (s : SubchannelState) (p t : ℕ) (o : Option ProgramPosition) → IsUnasked s.begun →
    IsUnasked (on_accept.begins_at storage s p t o).state.begun
standing-unasked storage s p t None u = u
standing-unasked storage s p t (Some st) u = begins-unasked storage s p t st (first_command storage st.walk).walk (first_command storage st.walk).outcome

halt-unasked : (s : SubchannelState) → IsUnasked s.begun → IsUnasked (on_accept.halt_performed s).begun
halt-unasked s u = by s.scsw.activity.halt_pending
  where
    by : (c : Bool) → IsUnasked (if c then with_cause s cause.HaltDone else s).begun
    by true = tt
    by false = u

phase-unasked : (storage : Contents) (s : SubchannelState) (phase : HoldPhase) (taken : Taken Down) → IsUnasked s.begun →
    IsUnasked (on_accept.accepted_in_phase storage s phase taken).state.begun
phase-unasked storage s (hold.On t p c) taken u = standing-unasked storage (record s { pmcw = on_accept.with_path_used s.pmcw p }) p t (on_accept.offered_position s) u
phase-unasked storage s (hold.Letting t p) taken u = halt-unasked (record s { pmcw = on_accept.with_path_used s.pmcw p }) u
phase-unasked storage s other taken u = u

accept-unasked : (storage : Contents) (s : SubchannelState) (step : Option HoldStep) → IsUnasked s.begun → IsUnasked (on_accept.takes_accept storage s step).state.begun
accept-unasked storage s step u = by (outcome_of step).taken
  where
    by : (x : Bool) →
        IsUnasked (if x then on_accept.accepted_in_phase storage (record s { hold = hold_after s.hold step }) (hold_after s.hold step).phase (outcome_of step) else outcomes.signal_ignored s).state.begun
    by true = phase-unasked storage (record s { hold = hold_after s.hold step }) (hold_after s.hold step).phase (outcome_of step) u
    by false = u

-- Data
move-unasked : (storage : Contents) (s : SubchannelState) (b : ActiveProgram) (signal : DataSignal) (load : Load) (x : Bool) →
    IsUnasked
    (if x then outcomes.with_storage storage (gives_next_chunk storage s b signal (load_length load))
    else on_data.tells_room_after s b signal (chunk_stored storage b.transfer signal.sequence (load_bytes load))).step.state.begun
move-unasked storage s b signal load true =
    let t = (next_chunk storage (chunk_absorbed storage b.transfer signal.sequence (load_length load))).transfer in
    asked-made (command_spec.with_transfer s b t) (record b { transfer = t }) t.pci_pending refl refl
move-unasked storage s b signal load false =
    let t = (with_room (chunk_stored storage b.transfer signal.sequence (load_bytes load)).storage (chunk_stored storage b.transfer signal.sequence (load_bytes load)).transfer).transfer in
    asked-made (command_spec.with_transfer s b t) (record b { transfer = t }) t.pci_pending refl refl

answered-unasked : (storage : Contents) (s : SubchannelState) (b : ActiveProgram) (signal : DataSignal) (load : Load) (x : Bool) → IsUnasked s.begun →
    IsUnasked (if x then on_data.moves_bytes storage s b signal load else outcomes.with_storage storage (outcomes.signal_ignored s)).step.state.begun
answered-unasked storage s b signal load true u = move-unasked storage s b signal load (is_outward b.transfer.code)
answered-unasked storage s b signal load false u = u

begun-unasked : (storage : Contents) (s : SubchannelState) (b : Option ActiveProgram) (signal : DataSignal) (load : Load) → IsUnasked s.begun →
    IsUnasked (on_data.moves_data storage s b signal load).step.state.begun
begun-unasked storage s None signal load u = u
begun-unasked storage s (Some b) signal load u = answered-unasked storage s b signal load (is_answered b.transfer signal.command signal.sequence) u

data-unasked : (storage : Contents) (s : SubchannelState) (signal : DataSignal) (load : Load) (x : Bool) → IsUnasked s.begun →
    IsUnasked (if x then on_data.moves_data storage s s.begun signal load else outcomes.with_storage storage (outcomes.signal_ignored s)).step.state.begun
data-unasked storage s signal load true u = begun-unasked storage s s.begun signal load u
data-unasked storage s signal load false u = u

-- End
chaining-unasked : (storage : Contents) (s : SubchannelState) (b : ActiveProgram) (signal : EndSignal) (walk : WalkPosition) (c : CommandStart) →
    IsUnasked (on_end.next_ccw_outcome storage s b signal walk c).state.begun
chaining-unasked storage s b signal walk (outcome.Begins transfer) =
    let t : Transfer = (begun_with_room storage transfer).transfer in
    asked-made (command_spec.with_transfer s b t) (record b { transfer = t }) t.pci_pending refl refl
chaining-unasked storage s b signal walk outcome.Suspends =
    unasked-none (suspension.program_suspended (on_end.with_allegiance_after_end s signal) b.program walk (residual b.transfer.moving)).begun
    (suspending-workless (on_end.with_allegiance_after_end s signal) b.program walk (residual b.transfer.moving)).begun
chaining-unasked storage s b signal walk (outcome.Stops check) =
    unasked-none (without_begun s.begun (on_end.with_allegiance_after_end s signal)).begun (fault-begun (on_end.with_allegiance_after_end s signal) s.begun refl)

left-unasked : (s : SubchannelState) (b : ActiveProgram) (last : Bool) → IsUnasked (Some b) → IsUnasked (programs_after_end s b last).begun
left-unasked s b true u = tt
left-unasked s b false u = u

stops-unasked : (s : SubchannelState) (b : ActiveProgram) (signal : EndSignal) (x : Bool) → IsUnasked (Some b) →
    let shown : SubchannelState = record (with_cause s (cause.End b signal.status signal.more)) { dedicated = on_end.dedicated_after_end s.dedicated signal } in
    IsUnasked (if x then device_released shown else outcomes.signal_taken shown).state.begun
stops-unasked s b signal true u = left-unasked s b (is_last_end signal.status) u
stops-unasked s b signal false u = left-unasked s b (is_last_end signal.status) u

goes-unasked : (storage : Contents) (s : SubchannelState) (b : ActiveProgram) (signal : EndSignal) (x : Bool) → IsUnasked (Some b) →
    IsUnasked
    (if x then chains_with storage s (with_first_end b) signal (next_command storage (with_first_end b).transfer (has_status_modifier signal.status))
    else outcomes.signal_taken (record (on_end.with_allegiance_after_end s signal) { begun = Some (with_first_end b) })).state.begun
goes-unasked storage s b signal true u =
    let next = next_command storage (with_first_end b).transfer (has_status_modifier signal.status) in
    chaining-unasked storage s (with_first_end b) signal next.walk next.outcome
goes-unasked storage s b signal false u = u

command-unasked : (storage : Contents) (s : SubchannelState) (b : ActiveProgram) (signal : EndSignal) (x : Bool) → IsUnasked (Some b) →
    IsUnasked (if x then on_end.chains_at_device_end storage s (with_first_end b) signal else on_end.concludes s b signal).state.begun
command-unasked storage s b signal true u = goes-unasked storage s b signal (has_device_end signal.status) u
command-unasked storage s b signal false u = stops-unasked s b signal (is_last_end signal.status) u

ended-unasked : (storage : Contents) (s : SubchannelState) (b : ActiveProgram) (signal : EndSignal) (x : Bool) → IsUnasked s.begun → IsUnasked (Some b) →
    IsUnasked (if x then on_end.ends_command storage s b signal else outcomes.signal_ignored s).state.begun
ended-unasked storage s b signal true u w = command-unasked storage s b signal (chains_command s.scsw b signal.status signal.more) w
ended-unasked storage s b signal false u w = u

work-unasked : (storage : Contents) (s : SubchannelState) (b : Option ActiveProgram) (signal : EndSignal) → IsUnasked s.begun → IsUnasked b →
    IsUnasked (on_end.ends_at_work storage s b signal).state.begun
work-unasked storage s None signal u w = u
work-unasked storage s (Some b) signal u w = ended-unasked storage s b signal (signal.command == b.transfer.command) u w

end-unasked : (storage : Contents) (s : SubchannelState) (signal : EndSignal) (x : Bool) → IsUnasked s.begun →
    IsUnasked (if x then on_end.ends_at_work storage s s.begun signal else outcomes.signal_ignored s).state.begun
end-unasked storage s signal true u = work-unasked storage s s.begun signal u u
end-unasked storage s signal false u = u

-- the other signals
cleared-unasked : (s : SubchannelState) (step : Option HoldStep) → IsUnasked s.begun → IsUnasked (on_cleared.takes_cleared s step).state.begun
cleared-unasked s None u = u
cleared-unasked s (Some step) u = unasked-as s.begun _ (clear-begun (record s { hold = step.state })) u

reset-unasked : (s : SubchannelState) (shows : Bool) → IsUnasked s.begun → IsUnasked (reset_with s shows).begun
reset-unasked s true u = tt
reset-unasked s false u = u

lost-unasked : (s : SubchannelState) → IsUnasked s.begun → IsUnasked (reset_for s).begun
lost-unasked s u = reset-unasked s (is_offered_or_held s.hold.phase && has_any s.waiting s.begun s.suspended) u

noticed-unasked : (s : SubchannelState) (b : ℕ) (more : Bool) → IsUnasked s.begun →
    IsUnasked (if more then outcomes.signal_taken (reset_for (with_known s b)) else outcomes.signal_ignored s).state.begun
noticed-unasked s b true u = lost-unasked (with_known s b) u
noticed-unasked s b false u = u

takes-unasked : (returns : Bool) (storage : Contents) (s : SubchannelState) (p : ℕ) (x : Up) → IsUnasked s.begun → IsUnasked (takes_up returns storage s p x).step.state.begun
takes-unasked returns storage s p (up.Accept t) u = accept-unasked storage s (hold_takes s.hold p (up.Accept t) (on_accept.takes_device s)) u
takes-unasked returns storage s p (up.Data load t c n q) u =
    data-unasked storage s (record { path = p; number = t; connection = c; command = n; sequence = q }) load (is_connected s.hold.phase p t c) u
takes-unasked returns storage s p (up.End t n status more) u =
    end-unasked storage s (record { path = p; number = t; command = n; status = status; more = more }) (is_on s.hold.phase t) u
takes-unasked returns storage s p (up.Cleared r) u = cleared-unasked s (hold_takes s.hold p (up.Cleared r) false) u
takes-unasked returns storage s p (up.Notice b) u = noticed-unasked s b (nat_lt s.hold.known_restarts b) u
takes-unasked returns storage s p (up.Attn a status) u =
    let step : Option HoldStep = hold_takes s.hold p (up.Attn a status) (on_attention.may_take_attention s) in
    unasked-as s.begun _ (attention-begun (record s { hold = hold_after s.hold step }) ((outcome_of step).taken && not (status.0 == 0x20))) u
takes-unasked returns storage s p x u = u

front-unasked : (returns : Bool) (storage : Contents) (sub : Subchannel) (path : ℕ) (front : Option Up) → IsUnasked sub.state.begun →
    IfOk (up_front returns storage sub path front) (λ t. IsUnasked t.sub.state.begun)
front-unasked returns storage sub path None u = tt
front-unasked returns storage sub path (Some x) u =
    if-ok (λ t. IsUnasked t.sub.state.begun) (finds_full sub.wires.down (carried_by sub (takes_up returns storage sub.state path x).step.outcome.sent)) (Err fault.WireFull) _ tt
    (takes-unasked returns storage sub.state path x u)

up-unasked : (returns : Bool) (storage : Contents) (sub : Subchannel) (path : ℕ) → IsUnasked sub.state.begun → IfOk (up_sub returns storage sub path) (λ t. IsUnasked t.sub.state.begun)
up-unasked returns storage sub path u =
    if-ok (λ t. IsUnasked t.sub.state.begun) (nat_lt path (length sub.setup.paths)) (up_front returns storage sub path (slice_get (queue sub.wires.up path) 0)) (Err fault.NoSuchPath)
    (front-unasked returns storage sub path (slice_get (queue sub.wires.up path) 0) u) tt

-- Choose
choose-unasked : (sub : Subchannel) (c : Chosen) → IsUnasked sub.state.begun → IfOk (choose_sub sub c) (λ t. IsUnasked t.sub.state.begun)
choose-unasked sub Idle u = u
choose-unasked sub (Resets r path) u =
    send-ok (λ t. IsUnasked t.sub.state.begun) sub (reset_sent sub.state path) path (down.Reset r sub.state.hold.known_restarts) (reply.ResetSent r path) u
choose-unasked sub PerformsClear u = u
choose-unasked sub (Halts t path) u = send-ok (λ t. IsUnasked t.sub.state.begun) sub (halt_sent sub.state) path (down.Halt t) (reply.HaltSent t path) u
choose-unasked sub PerformsHalt u = tt
choose-unasked sub FindsNoPath u = unasked-as sub.state.begun _ (path-begun sub.state sub.state.waiting) u
choose-unasked sub (Offers c path) u =
    send-ok (λ t. IsUnasked t.sub.state.begun) sub (offered sub.state c.program path) path (down.Select (sub.state.drawn + 1))
    (reply.Offered (sub.state.drawn + 1) path c.resumes) u

-- all that befalls a subchannel
swept-unasked : (what : Sweep) (x : Subchannel) → IsUnasked x.state.begun → IsUnasked (swept what x).state.begun
swept-unasked what x u =
    swept-kept x (λ y. IsUnasked y.state.begun) (λ y path up f. f) (λ path f. f) (λ wires f. lost-unasked x.state u) (λ f. tt) what u

by-state : (new : Subchannel) (s : SubchannelState) → new.state ≡ s → IsUnasked s.begun → IsUnasked new.state.begun
by-state new s e u = subst (λ (x : SubchannelState). IsUnasked x.begun) (sym e) u

abbrev state-of : Subchannel → SubchannelState
state-of x = x.state

happens-unasked : (storage : Contents) (old new : Subchannel) (u v : Option UnitState) (f : Option ProgramTrace → Option ProgramTrace) → IndexStep storage old new u v f →
    IsUnasked old.state.begun → IsUnasked new.state.begun
happens-unasked storage old new u v f (Stays e w g) n = by-state new old.state (ap state-of e) n
happens-unasked storage old new u v f (Starts_with_orb orb e w g) n = by-state new _ (ap state-of e) n
happens-unasked storage old new u v f (Is_tested e w g) n =
    by-state new _ (ap state-of e) (unasked-or old.state.begun _ (tested-begun old.state) n)
happens-unasked storage old new u v f (Is_resumed e w g) n = by-state new _ (ap state-of e) n
happens-unasked storage old new u v f (Is_halted e w g) n = by-state new _ (ap state-of e) (unasked-as old.state.begun _ (halted-begun old.state) n)
happens-unasked storage old new u v f (Is_cleared e w g) n = by-state new _ (ap state-of e) tt
happens-unasked storage old new u v f (Is_cancelled e w g) n = by-state new _ (ap state-of e) n
happens-unasked storage old new u v f (Is_modified pmcw e w g) n = by-state new _ (ap state-of e) n
happens-unasked storage old new u v f (Is_chosen choice t x c e w g) n =
    by-state new t.sub.state (ap state-of e)
    (subst (λ (r : Result SubResult Fault). IfOk r (λ t. IsUnasked t.sub.state.begun)) c (choose-unasked (marked_sub old choice) (chosen old choice) n))
happens-unasked storage old new u v f (Meets path returns t c e w g) n =
    by-state new t.sub.state (ap state-of e)
    (subst (λ (r : Result UpResult Fault). IfOk r (λ t. IsUnasked t.sub.state.begun)) c (up-unasked returns storage old path n))
happens-unasked storage old new u v f (Sinks path may owed x t a c e w g) n =
    let same : IsSameSub old t.sub = subst (λ (r : Result DownResult Fault). IfOk r (λ t. IsSameSub old t.sub)) c (down-same may old path x) in
    by-state new old.state (ap state-of e ∙ same.1) n
happens-unasked storage old new u v f (Is_reported report x t a b c e w g) n =
    let same : IsSameSub old t.sub = subst (λ (r : Result DownResult Fault). IfOk r (λ t. IsSameSub old t.sub)) c (report-same old x report) in
    by-state new old.state (ap state-of e ∙ same.1) n
happens-unasked storage old new u v f (Other_sinks other path may owed x t a b c e w g) n = by-state new old.state (ap state-of e) n
happens-unasked storage old new u v f (Other_reported other report x t a b c d e w g) n = by-state new old.state (ap state-of e) n
happens-unasked storage old new u v f (Unit_acts x y sends is gentle quiet e w g) n = by-state new old.state (ap state-of e) n
happens-unasked storage old new u v f (Is_swept what e w g) n = by-state new _ (ap state-of e) (swept-unasked what old n)

-- after a run
opened-unasked : (sub : Subchannel) (setup : SubchannelSetup) → opened setup ≡ sub → IsUnasked sub.state.begun
opened-unasked sub setup e = subst (λ (x : Subchannel). IsUnasked x.state.begun) e tt

pub run-unasked : AreWalks → (setup : Setup) → IsLawful setup → (h : List Entry) (s : State) → Run (opening_of setup) h s → (index : ℕ) (sub : Subchannel) →
    slice_get s.subs index ≡ Some sub → IsUnasked sub.state.begun
run-unasked walks setup lawful _ _ Opened index sub e =
    let a : (s : SubchannelSetup) × (slice_get setup.subchannels index ≡ Some s) × (opened s ≡ sub) = map-get opened setup.subchannels index sub e in
    opened-unasked sub a.0 a.2
run-unasked walks setup lawful _ _ (Stepped h old e r new run step) index sub at =
    let a = step-happens old (run-one-sided walks setup lawful h old run) index e r new (walks old e r new step) sub at in
    happens-unasked old.storage a.0 sub (slice_get old.units a.0.setup.«unit») (slice_get new.units a.0.setup.«unit») _ a.3
    (run-unasked walks setup lawful h old run index a.0 a.1)
