-- Where a program is at work, a start waits behind it exactly where the entries tell that one does.
use Rattle.std.proofs.Common.{◌≡◌, refl, sym, ◌∙◌, ap, subst, ℕ, ◌==◌, ◌&&◌, not, nat_lt, Bool, true, false, Option, None, Some}
use Rattle.std.specs.Prelude.{if◌then◌else◌, is_none, is_some}
use Rattle.scsw_irb.specs.declared.status.DeviceStatus.{DeviceStatus}
use Rattle.chan_events.specs.Events.{Event}
use Rattle.chan_events.specs.declared.event.Event.TheVariants as event
use Rattle.chan_events.specs.declared.event.Instruction.{Instruction}
use Rattle.chan_events.specs.declared.event.Instruction.TheVariants as instruction
use Rattle.chan_events.specs.Replies.{Reply}
use Rattle.chan_events.specs.declared.reply.Reply.TheVariants as reply
use Rattle.chan_model.specs.declared.answer.ConditionCode.{ConditionCode}
use Rattle.chan_model.specs.declared.answer.ConditionCode.TheVariants as code
use Rattle.chan_model.specs.declared.hold_state.HoldPhase.{HoldPhase}
use Rattle.chan_model.specs.declared.hold_state.HoldPhase.TheVariants as hold
use Rattle.chan_model.specs.declared.hold_state.HoldState.{HoldState}
use Rattle.chan_model.specs.Signals.{Load, Up, load_bytes}
use Rattle.chan_model.specs.declared.signal.Up.TheVariants as up
use Rattle.chan_model.specs.HoldTable.{HoldStep, hold_takes, hold_after, outcome_of, program_begun, is_connected, is_on}
use Rattle.chan_model.specs.Loads.{load_length}
use Rattle.chan_model.specs.ResetCauses.{rests_on}
use Rattle.chan_model.specs.UnitReports.{is_last_end, is_outward, has_device_end}
use Rattle.channel_config.specs.declared.names.SubchannelId.{SubchannelId}
use Rattle.ccw_walk.specs.Positions.{WalkPosition}
use Rattle.data_move.specs.Moving.{residual}
use Rattle.storage_keys.specs.Storage.{Contents}
use Rattle.data_move.specs.declared.transfer.CommandStart.{CommandStart}
use Rattle.data_move.specs.declared.transfer.CommandStart.TheVariants as outcome
use Rattle.data_move.specs.declared.transfer.Transfer.{Transfer}
use Rattle.data_move.specs.Commands.{first_command, next_command, begun_with_room, with_room}
use Rattle.data_move.specs.ToDevice.{chunk_absorbed, next_chunk}
use Rattle.data_move.specs.FromDevice.{chunk_stored}
use Rattle.data_move.specs.ChunkNumbers.{is_answered}
use Rattle.machine_model.specs.declared.state.Sweep.{Sweep}
use Rattle.machine_model.specs.declared.state.Sweep.TheVariants as sweep
use Rattle.machine_model.specs.PathSteps.{swept}
use Rattle.step_laws.specs.Walks.{sweep_event}
use Rattle.subchannel_model.specs.declared.cause.StatusCause.TheVariants as cause
use Rattle.subchannel_model.specs.declared.signals.DataSignal.{DataSignal}
use Rattle.subchannel_model.specs.declared.signals.EndSignal.{EndSignal}
use Rattle.subchannel_model.specs.declared.state.ActiveProgram.{ActiveProgram}
use Rattle.subchannel_model.specs.declared.state.Chosen.{Chosen}
use Rattle.subchannel_model.specs.declared.state.Chosen.TheVariants.{PerformsHalt, FindsNoPath}
use Rattle.subchannel_model.specs.declared.state.Program.{Program}
use Rattle.subchannel_model.specs.declared.state.ProgramPosition.{ProgramPosition}
use Rattle.subchannel_model.specs.declared.state.Subchannel.{Subchannel}
use Rattle.subchannel_model.specs.declared.state.SubchannelState.{SubchannelState}
use Rattle.subchannel_model.specs.declared.state.UpStep.{UpStep}
use Rattle.subchannel_model.specs.Causes.{without_begun, without_waiting, programs_after_end, with_cause}
use Rattle.subchannel_model.specs.Choosing.{chosen, marked_sub}
use Rattle.subchannel_model.specs.Conditions.{left_by}
use Rattle.subchannel_model.specs.Ends.{has_status_modifier, chains_command}
use Rattle.subchannel_model.specs.Halt.{drops_status, status_dropped, halt_begun}
use Rattle.subchannel_model.specs.Losing.{is_offered_or_held, reset_with, reset_for, path_index, loses_at, loses, shows_at}
use Rattle.subchannel_model.specs.Programs.{without_programs, has_any}
use Rattle.subchannel_model.specs.Taking.{takes_up}
use Rattle.subchannel_model.specs.Suspension.{suspended_alone, with_suspended_program}
use Rattle.subchannel_model.specs.End.{with_end_status, with_first_end, with_allegiance_after_end, next_ccw_outcome, chains_at_device_end, concludes, ends_command, ends_at_work}
use Rattle.subchannel_model.specs.Outcomes.{SignalOutcome, with_storage, signal_ignored, signal_taken, device_released}
use Rattle.subchannel_model.specs.Pci.{without_pci}
use Rattle.subchannel_model.specs.Accept.{offered_position, takes_device, with_path_used, with_program_at_work, first_ccw_outcome, begins_at, takes_accept}
use Rattle.subchannel_model.specs.Command.{with_transfer}
use Rattle.subchannel_model.specs.Data.{after_chunk, gives_chunk, tells_room_after, moves_bytes, moves_data}
use Rattle.subchannel_model.specs.Cleared.{takes_cleared}
use Rattle.subchannel_model.specs.Attention.{takes_attention, may_take_attention}
use Rattle.subchannel_model.specs.Test.{tested, ends_suspended, tested_wholly}
use Rattle.run_laws.specs.Behind.{behind_met, behind_after}
use Rattle.run_laws.specs.Shown.{is_about}
use Rattle.run_laws.proofs.Shown.Chosen.{nopath-chosen}
use Rattle.run_laws.proofs.Shown.Effects.{Seen, seen}
use Rattle.step_laws.proofs.Executed.{IsEffect, reply_of, code_for, state_left}
use Rattle.run_laws.proofs.Shown.Holding.{Held, none-some, not-held}
use Rattle.run_laws.proofs.Shown.Showing.{IsWhole}
use Rattle.run_laws.proofs.Shown.Signals.{Comes, Ignored, Taken, takes-comes}
use Rattle.run_laws.proofs.Shown.Standing.{Stands, open-none}
use Rattle.run_laws.proofs.Shown.Turned.{Turned, Executes, Chooses, Meets, Sweeps, Rests, met, reply_met, reply_chosen, state_chosen}

abbrev pub IsBehind : Bool → SubchannelState → Type 0
IsBehind behind s = is_some s.begun ≡ true → is_none s.waiting ≡ not behind

-- no program begins, and a start that waits behind one goes on waiting
abbrev Keeps : SubchannelState → SubchannelState → Type 0
Keeps s x = is_some x.begun ≡ true → (is_some s.begun ≡ true) × (x.waiting ≡ s.waiting)

kept : (behind : Bool) (s x : SubchannelState) → Keeps s x → IsBehind behind s → IsBehind behind x
kept behind s x k j = λ e. let was = k e in ap (λ (o : Option Program). is_none o) was.1 ∙ j was.0

-- a program that begins is alone
abbrev Alone : SubchannelState → Type 0
Alone x = is_some x.begun ≡ true → x.waiting ≡ None

-- after a block that could not be fetched, and where no path was found, none is at work
fault-none : (x : SubchannelState) (o : Option ActiveProgram) → x.begun ≡ o → is_some (without_begun o x).begun ≡ true → ⊥
fault-none x None i e = none-some x.begun i e
fault-none x (Some b) i e = cc e

path-none : (x : SubchannelState) (w : Option Program) → x.begun ≡ None → is_some (without_waiting w x).begun ≡ true → ⊥
path-none x None i e = none-some x.begun i e
path-none x (Some w) i e = none-some x.begun i e

module _ (s : SubchannelState) where
  if-keeps : (b : Bool) (x y : SubchannelState) → Keeps s x → Keeps s y → Keeps s (if b then x else y)
  if-keeps true x y e f = e
  if-keeps false x y e f = f

  if-step : (b : Bool) (x y : UpStep) → Keeps s x.state → Keeps s y.state → Keeps s (if b then x else y).state
  if-step true x y e f = e
  if-step false x y e f = f

  if-met : (b : Bool) (x y : SignalOutcome) → Keeps s x.step.state → Keeps s y.step.state → Keeps s (if b then x else y).step.state
  if-met true x y e f = e
  if-met false x y e f = f

  -- a status that is made
  end-by : (b : ActiveProgram) (last : Bool) → s.begun ≡ Some b → is_some (programs_after_end s b last).begun ≡ true → (is_some s.begun ≡ true) × ((programs_after_end s b last).waiting ≡ s.waiting)
  end-by b true i e = absurd (cc e)
  end-by b false i e = (ap (λ (o : Option ActiveProgram). is_some o) i, refl)

  -- where nothing is changed
  same : Keeps s s
  same = λ e. (e, refl)

  -- Data
  moving-keeps : (b : ActiveProgram) (t : Transfer) → is_some s.begun ≡ true → Keeps s (after_chunk s b t)
  moving-keeps b t i =
      let next : SubchannelState = with_transfer s b t in
      if-keeps t.pci_pending (with_cause (record next { begun = Some (without_pci (record b { transfer = t })) }) (cause.Pci t.walk.tried (residual t.moving))) next
      (λ e. (i, refl)) (λ e. (i, refl))

  move-keeps : (storage : Contents) (o : Option ActiveProgram) (signal : DataSignal) (load : Load) → s.begun ≡ o → Keeps s (moves_data storage s o signal load).step.state
  move-keeps storage None signal load i = same
  move-keeps storage (Some b) signal load i =
      let some : is_some s.begun ≡ true = ap (λ (o : Option ActiveProgram). is_some o) i in
      if-met (is_answered b.transfer signal.command signal.sequence) (moves_bytes storage s b signal load) (with_storage storage (signal_ignored s))
      (if-met (is_outward b.transfer.code) (with_storage storage (gives_chunk s b signal (next_chunk storage (chunk_absorbed storage b.transfer signal.sequence (load_length load)))))
      (tells_room_after s b signal (chunk_stored storage b.transfer signal.sequence (load_bytes load)))
      (moving-keeps b (next_chunk storage (chunk_absorbed storage b.transfer signal.sequence (load_length load))).transfer some)
      (moving-keeps b
      (with_room (chunk_stored storage b.transfer signal.sequence (load_bytes load)).storage (chunk_stored storage b.transfer signal.sequence (load_bytes load)).transfer).transfer some))
      same

  -- End
  chaining-keeps : (storage : Contents) (b : ActiveProgram) (signal : EndSignal) (walk : WalkPosition) (c : CommandStart) → is_some s.begun ≡ true →
      Keeps s (next_ccw_outcome storage s b signal walk c).state
  chaining-keeps storage b signal walk (outcome.Begins transfer) i = moving-keeps b (begun_with_room storage transfer).transfer i
  chaining-keeps storage b signal walk outcome.Suspends i =
      let x : SubchannelState = with_suspended_program (with_allegiance_after_end s signal) b.program walk (residual b.transfer.moving) in
      if-keeps b.program.orb.suppress_suspended (record x { scsw = suspended_alone s.scsw }) (with_cause x (cause.Suspension walk.tried (residual b.transfer.moving)))
      (λ e. absurd (cc e)) (λ e. absurd (cc e))
  chaining-keeps storage b signal walk (outcome.Stops check) i = λ e. absurd (fault-none (with_allegiance_after_end s signal) s.begun refl e)

  goes-keeps : (storage : Contents) (b : ActiveProgram) (signal : EndSignal) → is_some s.begun ≡ true → Keeps s (chains_at_device_end storage s b signal).state
  goes-keeps storage b signal i =
      let next = next_command storage b.transfer (has_status_modifier signal.status) in
      if-step (has_device_end signal.status) (next_ccw_outcome storage s b signal next.walk next.outcome) (signal_taken (record (with_allegiance_after_end s signal) { begun = Some b }))
      (chaining-keeps storage b signal next.walk next.outcome i) (λ e. (i, refl))

  stops-keeps : (b : ActiveProgram) (signal : EndSignal) → s.begun ≡ Some b → Keeps s (concludes s b signal).state
  stops-keeps b signal i =
      if-step (is_last_end signal.status) (device_released (with_end_status s b signal)) (signal_taken (with_end_status s b signal))
      (end-by b (is_last_end signal.status) i) (end-by b (is_last_end signal.status) i)

  ends_at_work-keeps : (storage : Contents) (o : Option ActiveProgram) (signal : EndSignal) → s.begun ≡ o → Keeps s (ends_at_work storage s o signal).state
  ends_at_work-keeps storage None signal i = same
  ends_at_work-keeps storage (Some b) signal i =
      if-step (signal.command == b.transfer.command) (ends_command storage s b signal) (signal_ignored s)
      (if-step (chains_command s.scsw b signal.status signal.more) (chains_at_device_end storage s (with_first_end b) signal) (concludes s b signal)
      (goes-keeps storage (with_first_end b) signal (ap (λ (o : Option ActiveProgram). is_some o) i)) (stops-keeps b signal i))
      same

  -- the hold is to be reset
  reset-keeps : (x : SubchannelState) (shows : Bool) → x.begun ≡ s.begun → x.waiting ≡ s.waiting → Keeps s (reset_with x shows)
  reset-keeps x true b w = λ e. absurd (cc e)
  reset-keeps x false b w = λ e. (sym (ap (λ (o : Option ActiveProgram). is_some o) b) ∙ e, w)

  takes_cleared-keeps : (step : Option HoldStep) → Keeps s (takes_cleared s step).state
  takes_cleared-keeps None = same
  takes_cleared-keeps (Some step) =
      let x : SubchannelState = record s { hold = step.state } in
      if-keeps s.scsw.activity.clear_pending (with_cause x cause.ClearDone) x (λ e. (e, refl)) (λ e. (e, refl))

  -- Attn is taken only where no program is at work
  attn-keeps : (storage : Contents) (p a : ℕ) (status : DeviceStatus) → Stands (seen s) → Keeps s (takes_attention s status (hold_takes s.hold p (up.Attn a status) (may_take_attention s))).state
  attn-keeps storage p a status t = by s.begun refl (takes-comes false storage s p (up.Attn a status))
    where
      by : (o : Option ActiveProgram) → s.begun ≡ o → Comes (Held s) (seen s) (up.Attn a status) (takes_attention s status (hold_takes s.hold p (up.Attn a status) (may_take_attention s))) →
          Keeps s (takes_attention s status (hold_takes s.hold p (up.Attn a status) (may_take_attention s))).state
      by None i c =
          let y : Option HoldStep = hold_takes s.hold p (up.Attn a status) (may_take_attention s) in
          let next : SubchannelState = record s { hold = hold_after s.hold y } in
          if-keeps ((outcome_of y).taken && not (status.0 == 0x20)) (with_cause next cause.Attention) next
          (λ e. absurd (none-some s.begun i e)) (λ e. absurd (none-some s.begun i e))
      by (Some b) i (Ignored taken e) = λ f. (ap (λ (o : Option ActiveProgram). is_some o) i, ap (λ (k : Seen). k.waiting) e)
      by (Some b) i (Taken n taken effect due) =
          absurd (cc (sym (t.begun b i).0 ∙ (open-none s.scsw.status.pending s.scsw.activity due.0).0))

-- Accept
beginning-alone : (storage : Contents) (s : SubchannelState) (p t : ℕ) (st : ProgramPosition) (walk : WalkPosition) (c : CommandStart) → s.begun ≡ None →
    ((first_ccw_outcome storage s p t st walk c).outcome.taken ≡ true) × Alone (first_ccw_outcome storage s p t st walk c).state
beginning-alone storage s p t st walk (outcome.Begins transfer) none = (refl, by (begun_with_room storage transfer).transfer.pci_pending)
  where
    by : (b : Bool) →
        Alone (if b then with_cause (record (with_program_at_work s st.program (begun_with_room storage transfer).transfer)
        { begun = Some (without_pci (record { program = st.program; primary_shown = false; transfer = (begun_with_room storage transfer).transfer })) })
        (cause.Pci (begun_with_room storage transfer).transfer.walk.tried (residual (begun_with_room storage transfer).transfer.moving))
        else with_program_at_work s st.program (begun_with_room storage transfer).transfer)
    by true = λ e. refl
    by false = λ e. refl
beginning-alone storage s p t st walk outcome.Suspends none = (refl, by st.program.orb.suppress_suspended)
  where
    by : (b : Bool) →
        Alone (if b then record (with_suspended_program s st.program walk st.count) { scsw = suspended_alone s.scsw }
        else with_cause (with_suspended_program s st.program walk st.count) (cause.Suspension walk.tried st.count))
    by true = λ e. absurd (cc e)
    by false = λ e. absurd (cc e)
beginning-alone storage s p t st walk (outcome.Stops check) none = (refl, λ e. absurd (fault-none s s.begun refl e))

begin-alone : (storage : Contents) (s : SubchannelState) (p t : ℕ) (o : Option ProgramPosition) → s.begun ≡ None →
    ((begins_at storage s p t o).outcome.taken ≡ true) × Alone (begins_at storage s p t o).state
begin-alone storage s p t None none = (refl, λ e. absurd (none-some s.begun none e))
begin-alone storage s p t (Some st) none = let first = first_command storage st.walk in beginning-alone storage s p t st first.walk first.outcome none

abbrev AcceptBehind : Bool → ℕ → UpStep → Type 0
AcceptBehind behind u step = IsBehind (behind_met (reply.Up (up.Accept u) step.outcome.taken step.outcome.sent) behind) step.state

alone-behind : (behind : Bool) (u : ℕ) (step : UpStep) → step.outcome.taken ≡ true → Alone step.state → AcceptBehind behind u step
alone-behind behind u step taken alone =
    subst (λ (b : Bool). IsBehind (behind_met (reply.Up (up.Accept u) b step.outcome.sent) behind) step.state) (sym taken)
    (λ e. ap (λ (o : Option Program). is_none o) (alone e))

module _ (storage : Contents) (behind : Bool) where
  abbrev with_hold : SubchannelState → HoldState → HoldPhase → SubchannelState
  with_hold s h phase = record s { hold = record h { phase = phase } }

  halted-alone : (s : SubchannelState) (b : Bool) → s.begun ≡ None → Alone (if b then with_cause s cause.HaltDone else s)
  halted-alone s true none = λ e. absurd (cc e)
  halted-alone s false none = λ e. absurd (none-some s.begun none e)

  begun-behind : (s : SubchannelState) (h : HoldState) (t q u : ℕ) (may same : Bool) → s.begun ≡ None → IsBehind behind s →
      AcceptBehind behind u (takes_accept storage (with_hold s h (hold.Offer t q)) (if same then Some (program_begun (record h { phase = hold.Offer t q }) t q may) else None))
  begun-behind s h t q u true true none j =
      let x : SubchannelState = record s { hold = record h { phase = hold.On t q 0; seen = 0; first_path = Some q }; pmcw = with_path_used s.pmcw q } in
      let k = begin-alone storage x q t (offered_position s) none in
      alone-behind behind u (begins_at storage x q t (offered_position s)) k.0 k.1
  begun-behind s h t q u false true none j =
      let x : SubchannelState = record s { hold = record h { phase = hold.Letting t q; seen = 0; first_path = Some q }; pmcw = with_path_used s.pmcw q } in
      λ e. ap (λ (o : Option Program). is_none o) (halted-alone x s.scsw.activity.halt_pending none e)
  begun-behind s h t q u may false none j = j

  accept-behind : (returns : Bool) (s : SubchannelState) (h : HoldState) (phase : HoldPhase) (p u : ℕ) → Held (with_hold s h phase) → IsBehind behind s →
      AcceptBehind behind u (takes_up returns storage (with_hold s h phase) p (up.Accept u)).step
  accept-behind returns s h (hold.Offer t q) p u k j = begun-behind s h t q u (takes_device s) (u == t) (not-held (with_hold s h (hold.Offer t q)) k refl) j
  accept-behind returns s h other p u k j = j

-- a signal that came up
met-behind : (returns : Bool) (storage : Contents) (s : SubchannelState) (p : ℕ) (x : Up) (behind : Bool) → IsWhole s → IsBehind behind s →
    IsBehind (behind_met (reply_met x (takes_up returns storage s p x)) behind) (takes_up returns storage s p x).step.state
met-behind returns storage s p (up.Accept t) behind k j = accept-behind storage behind returns s s.hold s.hold.phase p t k.held j
met-behind returns storage s p (up.Busy t) behind k j = j
met-behind returns storage s p (up.Leave t c) behind k j = j
met-behind returns storage s p (up.Back t c) behind k j = j
met-behind returns storage s p (up.Data load t c n seq) behind k j =
    let signal : DataSignal = record { path = p; number = t; connection = c; command = n; sequence = seq } in
    kept behind s (takes_up returns storage s p (up.Data load t c n seq)).step.state
    (if-met s (is_connected s.hold.phase p t c) (moves_data storage s s.begun signal load) (with_storage storage (signal_ignored s)) (move-keeps s storage s.begun signal load refl) (same s)) j
met-behind returns storage s p (up.End t n status more) behind k j =
    let signal : EndSignal = record { path = p; number = t; command = n; status = status; more = more } in
    kept behind s (takes_up returns storage s p (up.End t n status more)).step.state (if-step s (is_on s.hold.phase t) (ends_at_work storage s s.begun signal) (signal_ignored s) (ends_at_work-keeps s storage s.begun signal refl) (same s)) j
met-behind returns storage s p (up.Released t) behind k j = j
met-behind returns storage s p (up.Cleared r) behind k j = kept behind s (takes_up returns storage s p (up.Cleared r)).step.state (takes_cleared-keeps s (hold_takes s.hold p (up.Cleared r) false)) j
met-behind returns storage s p (up.Notice b) behind k j =
    let x : SubchannelState = record s { hold = record s.hold { known_restarts = b } } in
    kept behind s (takes_up returns storage s p (up.Notice b)).step.state
    (if-step s (nat_lt s.hold.known_restarts b) (signal_taken (reset_for x)) (signal_ignored s)
    (reset-keeps s x (is_offered_or_held s.hold.phase && has_any s.waiting s.begun s.suspended) refl refl) (same s)) j
met-behind returns storage s p (up.Attn a status) behind k j = kept behind s (takes_up returns storage s p (up.Attn a status)).step.state (attn-keeps s storage p a status k.stands) j

-- choices
chosen-keeps : (sub : Subchannel) (choice : Option ℕ) (c : Chosen) → c ≡ chosen sub choice → Held sub.state → Keeps sub.state (state_chosen (marked_sub sub choice).state c)
chosen-keeps sub choice PerformsHalt i h = λ e. absurd (cc e)
chosen-keeps sub choice FindsNoPath i h = λ e.
    absurd (path-none (marked_sub sub choice).state sub.state.waiting (not-held sub.state h (nopath-chosen sub choice (sym i))) e)
chosen-keeps sub choice other i h = λ e. (e, refl)

-- lost paths
loses-keeps : (o : Option ℕ) (sub : Subchannel) → Keeps sub.state (loses_at o sub).state
loses-keeps None sub = same sub.state
loses-keeps (Some p) sub = by (rests_on sub.state.hold p)
  where
    by : (b : Bool) → Keeps sub.state (if b then reset_for sub.state else sub.state)
    by true = reset-keeps sub.state sub.state (is_offered_or_held sub.state.hold.phase && has_any sub.state.waiting sub.state.begun sub.state.suspended) refl refl
    by false = same sub.state

shown-keeps : (o : Option ℕ) (up : Bool) (s : SubchannelState) (sub : Subchannel) → Keeps s sub.state → Keeps s (shows_at o up sub).state
shown-keeps None up s sub k = k
shown-keeps (Some p) up s sub k = k

swept-keeps : (what : Sweep) (sub : Subchannel) → Keeps sub.state (swept what sub).state
swept-keeps (sweep.GoesDown chpid) sub =
    shown-keeps (path_index chpid (loses chpid sub).setup.paths) false sub.state (loses chpid sub) (loses-keeps (path_index chpid sub.setup.paths) sub)
swept-keeps (sweep.ComesUp chpid) sub = shown-keeps (path_index chpid sub.setup.paths) true sub.state sub (same sub.state)
swept-keeps (sweep.PathReset chpid) sub = loses-keeps (path_index chpid sub.setup.paths) sub
swept-keeps sweep.SystemReset sub = λ e. absurd (cc e)

swept-same : (mine : Bool) (what : Sweep) (r : Reply) (behind : Bool) → behind_after mine (sweep_event what) r behind ≡ behind
swept-same true (sweep.GoesDown chpid) r behind = refl
swept-same false what r behind = refl
swept-same true what r behind = refl

-- instructions
abbrev LeftBehind : Bool → Instruction → ConditionCode → SubchannelState → SubchannelState → Type 0
LeftBehind behind i c s effect = (cpu : ℕ) → IsBehind (behind_after true (event.Execute cpu i) (reply_of i c s (left_by c s effect)) behind) (left_by c s effect)

ssch-left : (behind : Bool) (word address : ℕ) (c : ConditionCode) (s effect : SubchannelState) → is_none effect.waiting ≡ false → IsBehind behind s →
    LeftBehind behind (instruction.Ssch word address) c s effect
ssch-left behind word address code.Zero s effect w j = λ cpu e. w
ssch-left behind word address c s effect w j = λ cpu. j

xsch-left : (behind : Bool) (word : ℕ) (c : ConditionCode) (s effect : SubchannelState) → is_none effect.waiting ≡ true → IsBehind behind s →
    LeftBehind behind (instruction.Xsch word) c s effect
xsch-left behind word code.Zero s effect w j = λ cpu e. w
xsch-left behind word c s effect w j = λ cpu. j

left-behind : (behind : Bool) (c : ConditionCode) (s effect : SubchannelState) → Keeps s effect → IsBehind behind s → IsBehind behind (left_by c s effect)
left-behind behind code.Zero s effect k j = kept behind s effect k j
left-behind behind c s effect k j = j

test-keeps : (s : SubchannelState) → Keeps s (tested_wholly s)
test-keeps s = if-keeps s (ends_suspended s.scsw) (without_programs (tested s)) (tested s) (λ e. absurd (cc e)) (λ e. (e, refl))

halt-keeps : (s : SubchannelState) (b : Bool) → Keeps s (if b then status_dropped (halt_begun s) else halt_begun s)
halt-keeps s true = λ e. (e, refl)
halt-keeps s false = λ e. (e, refl)

instruction-behind : (behind : Bool) (i : Instruction) (sub : Subchannel) (effect : SubchannelState) → IsEffect i sub effect → IsBehind behind sub.state →
    LeftBehind behind i (code_for i sub) sub.state effect
instruction-behind behind (instruction.Ssch word address) sub effect is j =
    ssch-left behind word address (code_for (instruction.Ssch word address) sub) sub.state effect (ap (λ (x : SubchannelState). is_none x.waiting) is.1) j
instruction-behind behind (instruction.Tsch word address) sub effect is j = λ cpu.
    left-behind behind (code_for (instruction.Tsch word address) sub) sub.state effect (subst (λ (x : SubchannelState). Keeps sub.state x) (sym is) (test-keeps sub.state)) j
instruction-behind behind (instruction.Msch word address) sub effect is j = λ cpu.
    left-behind behind (code_for (instruction.Msch word address) sub) sub.state effect (subst (λ (x : SubchannelState). Keeps sub.state x) (sym is.1) (λ e. (e, refl))) j
instruction-behind behind (instruction.Hsch word) sub effect is j = λ cpu.
    left-behind behind (code_for (instruction.Hsch word) sub) sub.state effect
    (subst (λ (x : SubchannelState). Keeps sub.state x) (sym is) (halt-keeps sub.state (drops_status sub.state.scsw))) j
instruction-behind behind (instruction.Csch word) sub effect is j = λ cpu.
    left-behind behind (code_for (instruction.Csch word) sub) sub.state effect (subst (λ (x : SubchannelState). Keeps sub.state x) (sym is) (λ e. absurd (cc e))) j
instruction-behind behind (instruction.Xsch word) sub effect is j =
    xsch-left behind word (code_for (instruction.Xsch word) sub) sub.state effect (ap (λ (x : SubchannelState). is_none x.waiting) is) j
instruction-behind behind i sub effect is j = λ cpu.
    left-behind behind (code_for i sub) sub.state effect (subst (λ (x : SubchannelState). Keeps sub.state x) (sym is) (λ e. (e, refl))) j

rests-same : (mine : Bool) (e : Event) (r : Reply) (behind : Bool) → mine ≡ false → behind_after mine e r behind ≡ behind
rests-same true e r behind i = absurd (cc i)
rests-same false e r behind i = refl

-- after each step
pub turned-behind : (sets : ℕ) (id : SubchannelId) (e : Event) (r : Reply) (sub : Subchannel) (after : SubchannelState) (behind : Bool) → IsWhole sub.state → Turned sets id e r sub after →
    IsBehind behind sub.state → IsBehind (behind_after (is_about sets id e) e r behind) after
turned-behind sets id _ _ _ _ behind k (Executes cpu i sub effect named is) j =
    subst (λ (b : Bool). IsBehind (behind_after b (event.Execute cpu i) (reply_of i (code_for i sub) sub.state (state_left i sub effect)) behind) (state_left i sub effect)) (sym named)
    (instruction-behind behind i sub effect is j cpu)
turned-behind sets id _ _ _ _ behind k (Chooses word sub choice named away) j =
    subst (λ (b : Bool). IsBehind (behind_after b (event.Choose word) (reply_chosen (marked_sub sub choice).state (chosen sub choice)) behind) (state_chosen (marked_sub sub choice).state (chosen sub choice)))
    (sym named)
    (kept behind sub.state (state_chosen (marked_sub sub choice).state (chosen sub choice)) (chosen-keeps sub choice (chosen sub choice) refl k.held) j)
turned-behind sets id _ _ _ _ behind k (Meets word path returns storage sub x named) j =
    subst (λ (b : Bool). IsBehind (behind_after b (event.Up word path) (reply_met x (met returns storage sub path x)) behind) (met returns storage sub path x).step.state) (sym named)
    (met-behind returns storage sub.state path x behind k j)
turned-behind sets id _ _ _ _ behind k (Sweeps what r sub) j =
    subst (λ (b : Bool). IsBehind b (swept what sub).state) (sym (swept-same (is_about sets id (sweep_event what)) what r behind))
    (kept behind sub.state (swept what sub).state (swept-keeps what sub) j)
turned-behind sets id _ _ _ _ behind k (Rests e r sub about) j =
    subst (λ (b : Bool). IsBehind b sub.state) (sym (rests-same (is_about sets id e) e r behind about)) j

-- an End that is taken is of a program at work
end-begun : (storage : Contents) (s : SubchannelState) (signal : EndSignal) (on : Bool) (o : Option ActiveProgram) → (if on then ends_at_work storage s o signal else signal_ignored s).outcome.taken ≡ true → is_some o ≡ true
end-begun storage s signal true None e = absurd (cc e)
end-begun storage s signal true (Some b) e = refl
end-begun storage s signal false o e = absurd (cc e)

abbrev pub IsEnd : Event → Reply → Type 0
IsEnd (event.Up word path) (reply.Up (up.End t n status more) true sent) = Unit {0}
IsEnd e r = ⊥

met-begun : (returns : Bool) (storage : Contents) (sub : Subchannel) (path word : ℕ) (x : Up) → IsEnd (event.Up word path) (reply_met x (met returns storage sub path x)) → is_some sub.state.begun ≡ true
met-begun returns storage sub path word (up.End t n status more) i =
    let signal : EndSignal = record { path = path; number = t; command = n; status = status; more = more } in
    end-begun storage sub.state signal (is_on sub.state.hold.phase t) sub.state.begun (taken (met returns storage sub path (up.End t n status more)).step.outcome.taken i)
  where
    taken : (b : Bool) → IsEnd (event.Up word path) (reply.Up (up.End t n status more) b (met returns storage sub path (up.End t n status more)).step.outcome.sent) → b ≡ true
    taken true j = refl
    taken false j = absurd j
met-begun returns storage sub path word (up.Accept t) i = absurd i
met-begun returns storage sub path word (up.Busy t) i = absurd i
met-begun returns storage sub path word (up.Leave t c) i = absurd i
met-begun returns storage sub path word (up.Back t c) i = absurd i
met-begun returns storage sub path word (up.Data load t c n q) i = absurd i
met-begun returns storage sub path word (up.Released t) i = absurd i
met-begun returns storage sub path word (up.Cleared r) i = absurd i
met-begun returns storage sub path word (up.Notice b) i = absurd i
met-begun returns storage sub path word (up.Attn a status) i = absurd i

pub turned-begun : (sets : ℕ) (id : SubchannelId) (e : Event) (r : Reply) (sub : Subchannel) (after : SubchannelState) → Turned sets id e r sub after → is_about sets id e ≡ true → IsEnd e r →
    is_some sub.state.begun ≡ true
turned-begun sets id _ _ _ _ (Meets word path returns storage sub x named) mine end = met-begun returns storage sub path word x end
turned-begun sets id _ _ _ _ (Sweeps (sweep.GoesDown chpid) r sub) mine end = absurd end
turned-begun sets id _ _ _ _ (Rests e r sub about) mine end = absurd (cc (sym mine ∙ about))
turned-begun sets id _ _ _ _ other mine end = absurd end
