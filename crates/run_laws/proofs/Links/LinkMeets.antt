-- The bytes that a device absorbs for its command: what the subsystem does with a signal keeps what holds of them.
use Rattle.std.proofs.Common.{◌≡◌, refl, sym, ◌∙◌, ap, subst, ℕ, ◌+◌, ◌≤◌, Bool, true, false, ◌==◌, ◌&&◌, ◌||◌, not, length, Option, None, Some, List, [], ◌++◌, inl, inr, arith}
use Rattle.std.specs.Prelude.{◌⊎◌, if◌then◌else◌, min, IfSome, is_some}
use Rattle.std.proofs.lemmas.Bool.{eqb-true, eqb-false}
use Rattle.std.proofs.Math.Nat.{min-eq_left}
use Rattle.scsw_irb.specs.declared.status.DeviceStatus.{DeviceStatus}
use Rattle.orb_block.specs.declared.Orb.{Orb}
use Rattle.storage_keys.specs.Storage.{Contents}
use Rattle.chan_model.specs.declared.hold_state.HoldPhase.{HoldPhase}
use Rattle.chan_model.specs.declared.hold_state.HoldPhase.TheVariants as hold
use Rattle.chan_model.specs.declared.hold_state.HoldState.{HoldState}
use Rattle.chan_model.specs.declared.names.Side.{Side}
use Rattle.chan_model.specs.Signals.{Down, Load, Up, load_bytes}
use Rattle.chan_model.specs.declared.signal.Down.TheVariants as down
use Rattle.chan_model.specs.declared.signal.OnPath.{OnPath}
use Rattle.chan_model.specs.declared.signal.Up.TheVariants as up
use Rattle.chan_model.specs.declared.unit_state.CurrentCommand.{CurrentCommand}
use Rattle.chan_model.specs.declared.unit_state.UnitState.{UnitState}
use Rattle.chan_model.specs.HoldTable as hold_table
use Rattle.chan_model.specs.HoldTable.{HoldStep, hold_after, outcome_of, is_connected, is_on, letting_go, left, asked_back, found_busy, released, reset_cleared, attended}
use Rattle.chan_model.specs.Loads.{load_length}
use Rattle.chan_model.specs.UnitReports.{is_outward, is_last_end, has_device_end}
use Rattle.ccw_walk.specs.Sequences.{Sequence, ◌▸◌, ◌▸▸◌, count}
use Rattle.ccw_walk.specs.Acts.{Act, End}
use Rattle.ccw_walk.specs.Programs.{commands}
use Rattle.ccw_walk.specs.Positions.{WalkPosition, after_command_end}
use Rattle.idaw.specs.Places.{each_below}
use Rattle.data_move.specs.Moving.{residual, room}
use Rattle.data_move.specs.declared.transfer.Transfer.{Transfer}
use Rattle.data_move.specs.declared.transfer.CommandStart.{CommandStart}
use Rattle.data_move.specs.declared.transfer.CommandStart.TheVariants as outcome
use Rattle.data_move.specs.declared.transfer.NextChunk.{NextChunk}
use Rattle.data_move.specs.Commands.{first_command, next_command, begun_with_room, with_room}
use Rattle.data_move.specs.FromDevice.{StoredChunk, chunk_stored}
use Rattle.data_move.specs.ToDevice.{chunk_absorbed, next_chunk}
use Rattle.data_move.specs.ChunkNumbers.{is_answered}
use Rattle.subchannel_model.specs.declared.signals.DataSignal.{DataSignal}
use Rattle.subchannel_model.specs.declared.signals.EndSignal.{EndSignal}
use Rattle.subchannel_model.specs.declared.state.ActiveProgram.{ActiveProgram}
use Rattle.subchannel_model.specs.declared.state.Program.{Program}
use Rattle.subchannel_model.specs.declared.state.ProgramPosition.{ProgramPosition}
use Rattle.subchannel_model.specs.declared.state.SubchannelState.{SubchannelState}
use Rattle.subchannel_model.specs.declared.state.UpStep.{UpStep}
use Rattle.subchannel_model.specs.Ends.{has_status_modifier, has_shown, chains_command}
use Rattle.subchannel_model.specs.Causes.{with_cause}
use Rattle.subchannel_model.specs.declared.cause.StatusCause.TheVariants as cause
use Rattle.subchannel_model.specs.Outcomes as outcomes
use Rattle.subchannel_model.specs.Accept as on_accept
use Rattle.subchannel_model.specs.Suspension as suspension
use Rattle.subchannel_model.specs.Data as on_data
use Rattle.subchannel_model.specs.Command as command_spec
use Rattle.subchannel_model.specs.End as on_end
use Rattle.subchannel_model.specs.Cleared as on_cleared
use Rattle.subchannel_model.specs.Attention as on_attention
use Rattle.subchannel_model.specs.Accept.{takes_device, position_at_start}
use Rattle.subchannel_model.specs.Taking.{takes_up}
use Rattle.subchannel_model.specs.End.{with_first_end}
use Rattle.subchannel_model.specs.Sending.{with_any_sent}
use Rattle.wires.specs.Queues.{taken}
use Rattle.run_laws.specs.DataAreas.{data_areas}
use Rattle.run_laws.specs.Traces.{CommandTrace, no_trace, ProgramTrace}
use Rattle.run_laws.proofs.Traces.MachineActs.{with_acts, gives, takes_in, first_acts, next_acts}
use Rattle.run_laws.proofs.Traces.MachineTraces as stories
use Rattle.run_laws.specs.Traces as traced
use Rattle.run_laws.proofs.Traces.MachineTraces.{trace_meets}
use Rattle.run_laws.specs.ProgramClaims.{AbsorbsInOrder}
use Rattle.run_laws.proofs.Traces.Ties.{AreLaws}
use Rattle.run_laws.proofs.Bytes.Accesses.{AreAccesses}
use Rattle.run_laws.proofs.Traces.Parts.{IsSame, absorbed-same, next_chunk-same, located-same, brought-same, room-seq, WentOn}
use Rattle.run_laws.proofs.Traces.Holds.{IsPhase, IsHeld, HasWork}
use Rattle.run_laws.proofs.Traces.HoldMeets.{chains-facts, next-went}
use Rattle.run_laws.proofs.Traces.Caused.{IsUninterrupted, suspending-workless, fault-begun, end-begun, halt-begun, clear-begun, attention-begun}
use Rattle.run_laws.proofs.Bytes.UnitFlows.{View, Flow, IsGive, IsData, IsGood, answered-hand, answered-flow, answered-give, answered-data, located-give, located-data, located-hand, located-flow}
use Rattle.run_laws.proofs.Bytes.UnitFlows as flows
use Rattle.run_laws.proofs.Commands.UnitGrowth.{codes_of}
use Rattle.run_laws.proofs.Commands.LinkSent.{IsOfHold, SendsHoldSignal, busy-mutters, left-mutters, back-mutters, released-mutters, cleared-mutters, attended-mutters, letting-mutters}
use Rattle.run_laws.proofs.Links.LinkNeeds.{IsLast, on-number, connected-number, held-needs}
use Rattle.run_laws.proofs.Links.LinkViews.{view_of, answers-view, repeats-view, goes-new, current-facts}
use Rattle.run_laws.proofs.Links.LinkWires.{CurrentClosed, IsClosed, IsGiving, IsTelling, IsWired, wired-holds, sent-hold}
use Rattle.run_laws.proofs.Bytes.LinkCourses.{mode-marked, mode-ended, mode-with, interrupted-mode, flow-absorbs, absorbs-on}
use Rattle.run_laws.proofs.Bytes.LinkModes.{AnyGive, NoGive, AnyData, CurrentPlain, CurrentFlow, Mode, Waits, Over, Reads, Writes, mode-carried, absorbs-none}
use Rattle.run_laws.proofs.Traces.Sequences.{backward}

-- any but a Notice, which may empty what is begun
abbrev pub IsNoNotice : Up → Type 0
IsNoNotice (up.Notice b) = ⊥
IsNoNotice signal = Unit {0}

module _ (laws : AreLaws) (accesses : AreAccesses) (storage : Contents) (side : Side) (s : SubchannelState) (k : ProgramTrace) (downs : List (List Down)) (ups : List (List Up)) (u : UnitState) (path : ℕ)
    (held : IsHeld s k) (mode : Mode side s.begun k downs ups u) where
  abbrev Goes : UpStep → ProgramTrace → Type 0
  Goes step new = Mode side step.state.begun new (with_any_sent downs step.outcome.sent) (taken ups path) u

  abbrev m : ℕ
  m = length (backward k.taken)

  -- nothing is done for the program
  pub quiet : (begun : Option ActiveProgram) (one : Option (OnPath Down)) → begun ≡ s.begun → IfSome one (λ d. IsOfHold d.signal) → Mode side begun k (with_any_sent downs one) (taken ups path) u
  quiet begun one e h =
      subst (λ (b : Option ActiveProgram). Mode side b k (with_any_sent downs one) (taken ups path) u) (sym e)
      (mode-carried side s.begun k downs (with_any_sent downs one) ups (taken ups path) u u
      (λ P Q R f w. wired-holds side k.number m P P Q Q R R downs ups u one path (λ x y. y) (λ i bytes y. y) (λ i l y. y) (sent-hold k.number m Q one h) w) mode)

  hold_outcome-goes : (step : Option HoldStep) → SendsHoldSignal step → Goes (outcomes.hold_outcome s step) k
  hold_outcome-goes step h = quiet s.begun (outcome_of step).sent refl h

  -- wires, where the device's command is over
  abbrev Closed : List (List Down) → List (List Up) → Type 0
  Closed d x = IsWired side k.number m CurrentClosed AnyGive AnyData d x u

  closed-holds : (P : Option CurrentCommand → Type 0) (Q : ℕ → List ℕ → Type 0) (R : ℕ → Load → Type 0) (one : Option (OnPath Down)) → IsClosed side k.number u → IfSome one (λ d. IsGiving k.number m AnyGive d.signal) →
      IsWired side k.number m P Q R downs ups u → Closed (with_any_sent downs one) (taken ups path)
  closed-holds P Q R one c h w =
      let n : IsWired side k.number m (λ h. Unit {0}) AnyGive AnyData (with_any_sent downs one) (taken ups path) u =
      wired-holds side k.number m P (λ h. Unit {0}) Q AnyGive R AnyData downs ups u one path (λ x y. tt) (λ i bytes y. tt) (λ i l y. tt) h w in
      record { hand = c; gives = n.gives; tells = n.tells }

  -- Accept
  over-facts : (begun : Option ActiveProgram) → Mode side begun k downs ups u → begun ≡ None →
      (length (backward k.taken) ≡ k.sent) × (k.sent ≡ 0 → k.absorbed ≡ []) × Closed downs ups
  over-facts begun (Waits b e n q i a w) z = absurd (cc (sym e ∙ z))
  over-facts begun (Over e n q a w) z = (n, q, w)
  over-facts begun (Reads b e n o q w) z = absurd (cc (sym e ∙ z))
  over-facts begun (Writes b e n o lead f w) z = absurd (cc (sym e ∙ z))

  -- from the beginning, or from where it was suspended
  abbrev from : Orb → ℕ → CommandTrace → ProgramTrace
  from orb earlier part = record k { orb = orb; earlier = earlier; now = part }

  device_released-goes : (x : SubchannelState) (orb : Orb) (earlier : ℕ) (part : CommandTrace) (acts : Sequence Act) → x.begun ≡ None → s.begun ≡ None → k.sent ≡ 0 →
      Goes (outcomes.device_released x) (record (from orb earlier part) { now = with_acts part acts })
  device_released-goes x orb earlier part acts e n z =
      let f = over-facts s.begun mode n in
      let one : Option (OnPath Down) = (outcome_of (letting_go x.hold x.hold.phase)).sent in
      Over e f.0 f.1 (absorbs-none orb (with_acts part acts) k.absorbed (f.1 z))
      (wired-holds side k.number m CurrentClosed CurrentClosed AnyGive AnyGive AnyData AnyData downs ups u one path (λ x y. y) (λ i bytes y. y) (λ i l y. y)
      (sent-hold k.number m AnyGive one (letting-mutters x.hold x.hold.phase)) f.2)

  begins-goes : (r : SubchannelState) (p t : ℕ) (st : ProgramPosition) (walk : WalkPosition) (c : CommandStart) (orb : Orb) (earlier : ℕ) (part : CommandTrace) → (first_command storage st.walk).outcome ≡ c → r.begun ≡ s.begun →
      s.begun ≡ None → k.sent ≡ 0 →
      Goes (on_accept.first_ccw_outcome storage r p t st walk c) (stories.trace_goes_on storage c (first_acts storage st.walk) (from orb earlier part))
  begins-goes r p t st walk (outcome.Begins tr) orb earlier part c e n z =
      let f = over-facts s.begun mode n in
      let x : Transfer = (begun_with_room storage tr).transfer in
      let b : ActiveProgram = record { program = st.program; primary_shown = false; transfer = x } in
      let one : Option (OnPath Down) = Some (record { path = p; signal = down.Command t x.command x.code (begun_with_room storage tr).room }) in
      let new : ProgramTrace = stories.trace_goes_on storage (outcome.Begins tr) (first_acts storage st.walk) (from orb earlier part) in
      let made : Mode side (Some b) new (with_any_sent downs one) (taken ups path) u =
      Waits b refl (ap (λ (i : ℕ). i + 1) f.0) (room-seq storage tr ∙ goes-new storage 1 st.walk tr c) refl (absorbs-none orb part k.absorbed (f.1 z))
      (wired-holds side k.number m CurrentClosed CurrentClosed AnyGive AnyGive AnyData AnyData downs ups u one path (λ x y. y) (λ i bytes y. y) (λ i l y. y) tt f.2) in
      interrupted-mode side (on_accept.with_program_at_work r st.program x) b new (with_any_sent downs one) (taken ups path) u refl made
  begins-goes r p t st walk outcome.Suspends orb earlier part c e n z =
      device_released-goes (suspension.program_suspended r st.program walk st.count) orb earlier part (first_acts storage st.walk) (suspending-workless r st.program walk st.count).begun n z
  begins-goes r p t st walk (outcome.Stops check) orb earlier part c e n z =
      device_released-goes (with_cause r (cause.FetchFault walk.tried check st.count)) orb earlier part (first_acts storage st.walk) (fault-begun r r.begun refl) n z

  again-goes : (r : SubchannelState) (p t start : ℕ) (suspended : Option ProgramPosition) → r.begun ≡ s.begun → s.begun ≡ None → k.sent ≡ 0 →
      Goes (on_accept.begins_at storage r p t (on_accept.suspended_position suspended start)) (stories.again_as storage suspended start k)
  again-goes r p t start None e n z = quiet r.begun None e tt
  again-goes r p t start (Some st) e n z = by (st.program.start == start)
    where
      by : (b : Bool) → Goes (on_accept.begins_at storage r p t (if b then Some st else None)) (if b then stories.begins_again storage st k else k)
      by true =
          begins-goes r p t st (first_command storage st.walk).walk (first_command storage st.walk).outcome k.orb (count (commands k.orb k.now.acts)) (traced.past_part k.now) refl e n z
      by false = quiet r.begun None e tt

  standing-goes : (r : SubchannelState) (p t start : ℕ) (waiting : Option Program) (suspended : Option ProgramPosition) → r.begun ≡ s.begun → s.begun ≡ None → k.sent ≡ 0 →
      Goes (on_accept.begins_at storage r p t (on_accept.position_of_start waiting suspended start)) (stories.begins_as storage waiting suspended start k)
  standing-goes r p t start None suspended e n z = again-goes r p t start suspended e n z
  standing-goes r p t start (Some program) suspended e n z = by (program.start == start)
    where
      by : (b : Bool) → Goes (on_accept.begins_at storage r p t (if b then Some (position_at_start program) else on_accept.suspended_position suspended start))
          (if b then stories.begins_anew storage program k else stories.again_as storage suspended start k)
      by true =
          let st : ProgramPosition = position_at_start program in
          begins-goes r p t st (first_command storage st.walk).walk (first_command storage st.walk).outcome program.orb 0 no_trace refl e n z
      by false = again-goes r p t start suspended e n z

  begun-goes : (h : HoldState) (t p : ℕ) (may : Bool) → s.begun ≡ None → k.sent ≡ 0 →
      Goes (on_accept.takes_accept storage s (Some (hold_table.program_begun h t p may))) (stories.trace_accepted storage s (Some (hold_table.program_begun h t p may)) k)
  begun-goes h t p true n z =
      standing-goes (record s { hold = record h { phase = hold.On t p 0; seen = 0; first_path = Some p }; pmcw = on_accept.with_path_used s.pmcw p }) p t s.offered s.waiting s.suspended refl n z
  begun-goes h t p false n z =
      let x : SubchannelState = record s { hold = record h { phase = hold.Letting t p; seen = 0; first_path = Some p }; pmcw = on_accept.with_path_used s.pmcw p } in
      quiet (on_accept.halt_performed x).begun (Some (record { path = p; signal = down.Release t })) (halt-begun x n ∙ sym n) tt

  accepts-goes : (h : HoldState) (phase : HoldPhase) (t : ℕ) (may : Bool) → IsPhase phase k.number s.begun k.sent →
      Goes (on_accept.takes_accept storage s (hold_table.offer_accepted h phase t may)) (stories.trace_accepted storage s (hold_table.offer_accepted h phase t may) k)
  accepts-goes h hold.Free t may i = quiet s.begun None refl tt
  accepts-goes h (hold.Offer v p) t may i = by (t == v)
    where
      by : (b : Bool) → Goes (on_accept.takes_accept storage s (if b then Some (hold_table.program_begun h v p may) else None)) (stories.trace_accepted storage s (if b then Some (hold_table.program_begun h v p may) else None) k)
      by true = begun-goes h v p may i.1 i.2
      by false = quiet s.begun None refl tt
  accepts-goes h (hold.On v p c) t may i = quiet s.begun None refl tt
  accepts-goes h (hold.Away v) t may i = quiet s.begun None refl tt
  accepts-goes h (hold.Letting v p) t may i = quiet s.begun None refl tt
  accepts-goes h (hold.Reset r) t may i = quiet s.begun None refl tt

  -- Data
  at-work : (b : ActiveProgram) → s.begun ≡ Some b → HasWork (Some b) k
  at-work b e = subst (λ (x : Option ActiveProgram). HasWork x k) e held.work

  -- of the command that was sent last
  abbrev Front : (ℕ → Load → Type 0) → Up → Type 0
  Front R x = IsTelling k.number m R (IsClosed side k.number u) x

  data-front : (R : ℕ → Load → Type 0) (b : ActiveProgram) (t c n seq : ℕ) (l : Load) → s.begun ≡ Some b → t ≡ k.number → n ≡ b.transfer.command → Front R (up.Data l t c n seq) → (n ≤ m) × (n ≡ m → R seq l) × (n ≡ k.sent)
  data-front R b t c n seq l e z i f =
      let g = f.1 z in
      (g.0, g.1, i ∙ (at-work b e).1)

  abbrev with_now : CommandTrace → ProgramTrace
  with_now now = record k { now = now }

  now-wires : (P W : Option CurrentCommand → Type 0) (Q X : ℕ → List ℕ → Type 0) (R Y : ℕ → Load → Type 0) (one : Option (OnPath Down)) → ((h : Option CurrentCommand) → P h → W h) → ((i : ℕ) (bytes : List ℕ) → Q i bytes → X i bytes) → ((i : ℕ) (l : Load) → R i l → Y i l) →
      IfSome one (λ d. IsGiving k.number m X d.signal) → IsWired side k.number m P Q R downs ups u → IsWired side k.number m W X Y (with_any_sent downs one) (taken ups path) u
  now-wires P W Q X R Y one f g h d w = wired-holds side k.number m P W Q X R Y downs ups u one path f g h d w

  -- a read
  reads-goes : (b : ActiveProgram) (signal : DataSignal) (x : StoredChunk) (now : CommandTrace) → IsSame b.transfer x.transfer → length (backward k.taken) ≡ k.sent → is_outward b.transfer.code ≡ false → k.absorbed ≡ [] →
      IsWired side k.number m CurrentPlain NoGive AnyData downs ups u → Goes (on_data.tells_room_after s b signal x).step (record k { now = now })
  reads-goes b signal x now same l out z w =
      let y : Transfer = (with_room x.storage x.transfer).transfer in
      let code : y.code ≡ b.transfer.code = (located-same x.storage x.transfer).0 ∙ same.0 in
      let c : ActiveProgram = record b { transfer = y } in
      let one : Option (OnPath Down) = Some (record { path = signal.path; signal = down.Took signal.number signal.command signal.sequence (with_room x.storage x.transfer).room }) in
      let made : Mode side (Some c) (record k { now = now }) (with_any_sent downs one) (taken ups path) u =
      Reads c refl l (ap is_outward code ∙ out) z (now-wires CurrentPlain CurrentPlain NoGive NoGive AnyData AnyData one (λ h r. r) (λ i bytes r. r) (λ i r q. q) tt w) in
      interrupted-mode side (command_spec.with_transfer s b y) c (record k { now = now }) (with_any_sent downs one) (taken ups path) u refl made

  -- a write
  given-signal : (w : View) (t c n seq : ℕ) (bytes : List ℕ) → t ≡ k.number → n ≤ m → seq ≡ w.seq → (bytes ≡ []) ⊎ IsGood w bytes →
      IsGiving k.number m (IsGive w) (down.Give bytes t c n (seq + 1))
  given-signal w t c n seq bytes z l q g = (omega (arith, z), λ e. (l, λ i. (omega (arith, q), λ j. g)))

  same-hand : (c d : ℕ) (v w : View) (lead after : Option ℕ) → d ≡ c → ((x : CurrentCommand) → flows.Hand v lead x → flows.Hand w after x) → (h : Option CurrentCommand) → CurrentFlow c v lead h → CurrentFlow d w after h
  same-hand c d v w lead after e f None r = tt
  same-hand c d v w lead after e f (Some x) r = (r.0 ∙ sym e, f x r.1)

  module _ (b : ActiveProgram) (signal : DataSignal) (l : Load) where
    abbrev v : View
    v = view_of b.transfer k.now

    abbrev x : NextChunk
    x = next_chunk storage (chunk_absorbed storage b.transfer signal.sequence (load_length l))

    abbrev now : CommandTrace
    now = gives storage b.transfer signal.sequence (load_length l) k.now

    abbrev w : View
    w = view_of x.transfer now

    code : x.transfer.code ≡ b.transfer.code
    code = (next_chunk-same storage (chunk_absorbed storage b.transfer signal.sequence (load_length l))).0 ∙ (absorbed-same storage b.transfer signal.sequence (load_length l)).0

    given :
        Mode side (Some (record b { transfer = x.transfer })) (with_now now) (with_any_sent downs (Some (record { path = signal.path; signal = down.Give x.bytes signal.number signal.connection signal.command (signal.sequence + 1) }))) (taken ups path) u →
        Goes (on_data.gives_next_chunk storage s b signal (load_length l)) (with_now now)
    given g =
        interrupted-mode side (command_spec.with_transfer s b x.transfer) (record b { transfer = x.transfer }) (with_now now) (with_any_sent downs (Some (record { path = signal.path; signal = down.Give x.bytes signal.number signal.connection signal.command (signal.sequence + 1) })))
        (taken ups path) u refl g

    writes-goes : (lead : Option ℕ) → s.begun ≡ Some b → signal.number ≡ k.number → signal.command ≤ m → length (backward k.taken) ≡ k.sent → is_outward b.transfer.code ≡ true →
        (signal.sequence ≡ b.transfer.sequence) ⊎ (signal.sequence ≡ b.transfer.sequence + 1) → IsData (view_of b.transfer k.now) lead signal.sequence l → Flow (view_of b.transfer k.now) k.absorbed lead →
        IsWired side k.number m (CurrentFlow b.transfer.code (view_of b.transfer k.now) lead) (IsGive (view_of b.transfer k.now)) (IsData (view_of b.transfer k.now) lead) downs ups u →
        Goes (on_data.gives_next_chunk storage s b signal (load_length l)) (with_now (gives storage b.transfer signal.sequence (load_length l) k.now))
    writes-goes lead e z le taken-all out at d f wired = by (signal.sequence == b.transfer.sequence + 1) refl
      where
        outward : is_outward x.transfer.code ≡ true
        outward = ap is_outward code ∙ out

        by : (y : Bool) → (signal.sequence == b.transfer.sequence + 1) ≡ y → Goes (on_data.gives_next_chunk storage s b signal (load_length l)) (with_now now)
        by true y =
            let is : signal.sequence ≡ b.transfer.sequence + 1 = eqb-true signal.sequence (b.transfer.sequence + 1) y in
            let a = answers-view accesses storage b.transfer signal.sequence (load_length l) k.now y in
            let j : ℕ = load_length l in
            let ahead : lead ≡ Some j = d.1 is in
            let flow : Flow v k.absorbed (Some j) = subst (Flow v k.absorbed) ahead f in
            let all : min j (room b.transfer.moving) ≡ j = min-eq_left flow.within in
            let moved : w.moved ≡ v.moved ++ each_below v.next j = a.0.moved ∙ ap (λ (i : ℕ). v.moved ++ each_below v.next i) all in
            given (Writes (record b { transfer = x.transfer }) refl taken-all outward None (answered-flow v w k.absorbed j a.0.copied moved flow)
            (now-wires (CurrentFlow b.transfer.code v lead) (CurrentFlow x.transfer.code w None) (IsGive v) (IsGive w) (IsData v lead) (IsData w None) (Some (record { path = signal.path; signal = down.Give x.bytes signal.number signal.connection signal.command (signal.sequence + 1) }))
            (same-hand b.transfer.code x.transfer.code v w lead None code (λ h r. answered-hand v w j h a.0.seq (subst (λ (i : Option ℕ). flows.Hand v i h) ahead r)))
            (λ i bytes r. answered-give v w i bytes a.0.seq r) (λ i r q. answered-data v w lead i r a.0.seq q) (given-signal w signal.number signal.connection signal.command signal.sequence x.bytes z le (is ∙ sym a.0.seq) a.1) wired))
        by false y =
            let not : signal.sequence ≡ b.transfer.sequence + 1 → ⊥ = eqb-false signal.sequence (b.transfer.sequence + 1) y in
            let is : signal.sequence ≡ b.transfer.sequence = elim at [ inl h ↦ h | inr h ↦ absurd (not h) ] in
            let a = repeats-view accesses storage b.transfer signal.sequence (load_length l) k.now y in
            given (Writes (record b { transfer = x.transfer }) refl taken-all outward lead (located-flow v w k.absorbed lead a.located f)
            (now-wires (CurrentFlow b.transfer.code v lead) (CurrentFlow x.transfer.code w lead) (IsGive v) (IsGive w) (IsData v lead) (IsData w lead) (Some (record { path = signal.path; signal = down.Give x.bytes signal.number signal.connection signal.command (signal.sequence + 1) }))
            (same-hand b.transfer.code x.transfer.code v w lead lead code (λ h r. located-hand v w lead h a.located r)) (λ i bytes r. located-give v w i bytes a.located r)
            (λ i r q. located-data v w lead i r a.located q) (given-signal w signal.number signal.connection signal.command signal.sequence x.bytes z le (is ∙ sym a.located.seq) a.good) wired))

  -- by the direction
  moves-goes : (b : ActiveProgram) (signal : DataSignal) (l : Load) → s.begun ≡ Some b → signal.number ≡ k.number → signal.command ≡ b.transfer.command → (signal.sequence ≡ b.transfer.sequence) ⊎ (signal.sequence ≡ b.transfer.sequence + 1) →
      ((P : Option CurrentCommand → Type 0) (Q : ℕ → List ℕ → Type 0) (R : ℕ → Load → Type 0) → IsWired side k.number m P Q R downs ups u → Front R (up.Data l signal.number signal.connection signal.command signal.sequence)) →
      Goes (on_data.moves_bytes storage s b signal l).step (stories.moves storage b.transfer signal.sequence l k)
  moves-goes b signal l e z i at f = by mode
    where
      by : Mode side s.begun k downs ups u → Goes (on_data.moves_bytes storage s b signal l).step (stories.moves storage b.transfer signal.sequence l k)
      by (Waits d h g q y a w) =
          let r = data-front AnyData b signal.number signal.connection signal.command signal.sequence l e z i (f CurrentClosed AnyGive AnyData w) in
          absurd (omega (arith, r.0, r.2, g))
      by (Over h g q a w) = absurd (cc (sym e ∙ h))
      by (Reads d h g o q w) =
          let same : d ≡ b = cc (sym h ∙ e) in
          let out : is_outward b.transfer.code ≡ false = subst (λ (x : ActiveProgram). is_outward x.transfer.code ≡ false) same o in
          subst (λ (x : Bool). Goes (if x then outcomes.with_storage storage (on_data.gives_next_chunk storage s b signal (load_length l)) else on_data.tells_room_after s b signal (chunk_stored storage b.transfer signal.sequence (load_bytes l))).step
          (if x then with_now (gives storage b.transfer signal.sequence (load_length l) k.now) else with_now (takes_in storage b.transfer signal.sequence (load_bytes l) k.now))) (sym out)
          (reads-goes b signal (chunk_stored storage b.transfer signal.sequence (load_bytes l)) (takes_in storage b.transfer signal.sequence (load_bytes l) k.now) (brought-same storage b.transfer signal.sequence (load_bytes l)) g out q w)
      by (Writes d h g o lead y w) =
          let same : d ≡ b = cc (sym h ∙ e) in
          let out : is_outward b.transfer.code ≡ true = subst (λ (x : ActiveProgram). is_outward x.transfer.code ≡ true) same o in
          let y' : Flow (view_of b.transfer k.now) k.absorbed lead = subst (λ (x : ActiveProgram). Flow (view_of x.transfer k.now) k.absorbed lead) same y in
          let w' : IsWired side k.number m (CurrentFlow b.transfer.code (view_of b.transfer k.now) lead) (IsGive (view_of b.transfer k.now)) (IsData (view_of b.transfer k.now) lead) downs ups u =
          subst (λ (x : ActiveProgram). IsWired side k.number m (CurrentFlow x.transfer.code (view_of x.transfer k.now) lead) (IsGive (view_of x.transfer k.now)) (IsData (view_of x.transfer k.now) lead) downs ups u) same w in
          let r = data-front (IsData (view_of b.transfer k.now) lead) b signal.number signal.connection signal.command signal.sequence l e z i
          (f (CurrentFlow b.transfer.code (view_of b.transfer k.now) lead) (IsGive (view_of b.transfer k.now)) (IsData (view_of b.transfer k.now) lead) w') in
          subst (λ (x : Bool). Goes (if x then outcomes.with_storage storage (on_data.gives_next_chunk storage s b signal (load_length l)) else on_data.tells_room_after s b signal (chunk_stored storage b.transfer signal.sequence (load_bytes l))).step
          (if x then with_now (gives storage b.transfer signal.sequence (load_length l) k.now) else with_now (takes_in storage b.transfer signal.sequence (load_bytes l) k.now))) (sym out)
          (writes-goes b signal l lead e z r.0 g out at (r.1 (r.2 ∙ sym g)) y' w')

  module _ (signal : DataSignal) (l : Load) (front : (P : Option CurrentCommand → Type 0) (Q : ℕ → List ℕ → Type 0) (R : ℕ → Load → Type 0) → IsWired side k.number m P Q R downs ups u → Front R (up.Data l signal.number signal.connection signal.command signal.sequence)) where
    answers-goes : (begun : Option ActiveProgram) → s.begun ≡ begun → signal.number ≡ k.number → Goes (on_data.moves_data storage s begun signal l).step (stories.answers storage begun signal.command signal.sequence l k)
    answers-goes None e z = quiet s.begun None refl tt
    answers-goes (Some b) e z = by (is_answered b.transfer signal.command signal.sequence) refl
      where
        by : (x : Bool) → is_answered b.transfer signal.command signal.sequence ≡ x →
            Goes (if x then on_data.moves_bytes storage s b signal l else outcomes.with_storage storage (outcomes.signal_ignored s)).step (if x then stories.moves storage b.transfer signal.sequence l k else k)
        by true x =
            let f = current-facts b.transfer signal.command signal.sequence (is_outward b.transfer.code || not (signal.sequence == 0)) x in
            moves-goes b signal l e z f.0 f.1 front
        by false x = quiet s.begun None refl tt

    data-goes : Goes (on_data.takes_data storage s signal l).step (if is_connected s.hold.phase signal.path signal.number signal.connection then stories.answers storage s.begun signal.command signal.sequence l k else k)
    data-goes = by (is_connected s.hold.phase signal.path signal.number signal.connection) refl
      where
        by : (x : Bool) → is_connected s.hold.phase signal.path signal.number signal.connection ≡ x →
            Goes (if x then on_data.moves_data storage s s.begun signal l else outcomes.with_storage storage (outcomes.signal_ignored s)).step (if x then stories.answers storage s.begun signal.command signal.sequence l k else k)
        by true x = answers-goes s.begun refl (connected-number s.hold.phase k.number s.begun k.sent signal.path signal.number signal.connection held.phase x)
        by false x = quiet s.begun None refl tt

  -- the device's command is over
  pub record IsOver (b : ActiveProgram) : Type 0 where
    pub taken_all : length (backward k.taken) ≡ k.sent
    pub absorbs : AbsorbsInOrder k.orb k.now k.absorbed
    pub some : k.sent ≡ 0 → k.absorbed ≡ []
    pub wires : (one : Option (OnPath Down)) → IfSome one (λ d. IsGiving k.number m AnyGive d.signal) → Closed (with_any_sent downs one) (taken ups path)

  none-sent : (b : ActiveProgram) → s.begun ≡ Some b → k.sent ≡ 0 → k.absorbed ≡ []
  none-sent b e z =
      let l : IsLast (codes_of k) k.sent b.transfer = (held-needs (Some k) s held).begun b e in
      absurd (omega (arith, l.count, l.at, z))

  is-over : (b : ActiveProgram) (t n : ℕ) (status : DeviceStatus) (more : Bool) → s.begun ≡ Some b → t ≡ k.number → n ≡ b.transfer.command →
      ((P : Option CurrentCommand → Type 0) (Q : ℕ → List ℕ → Type 0) (R : ℕ → Load → Type 0) → IsWired side k.number m P Q R downs ups u → Front R (up.End t n status more)) → IsOver b
  is-over b t n status more e z i f = by mode
    where
      at : n ≡ k.sent
      at = i ∙ (at-work b e).1

      number : t ≡ k.number
      number = z

      by : Mode side s.begun k downs ups u → IsOver b
      by (Waits d h g q y a w) = let r = (f CurrentClosed AnyGive AnyData w).1 number in absurd (omega (arith, r.0, at, g))
      by (Over h g q a w) = absurd (cc (sym e ∙ h))
      by (Reads d h g o q w) =
          let r = (f CurrentPlain NoGive AnyData w).1 number in
          record {
            taken_all = g;
            absorbs = absorbs-none k.orb k.now k.absorbed q;
            some = none-sent b e;
            wires = λ one x. closed-holds CurrentPlain NoGive AnyData one (r.1 (at ∙ sym g)) x w;
          }
      by (Writes d h g o lead y w) =
          let same : d ≡ b = cc (sym h ∙ e) in
          let r = (f (CurrentFlow d.transfer.code (view_of d.transfer k.now) lead) (IsGive (view_of d.transfer k.now)) (IsData (view_of d.transfer k.now) lead) w).1 number in
          record {
            taken_all = g;
            absorbs = flow-absorbs laws k b.transfer lead (at-work b e).0.tied (subst (λ (x : ActiveProgram). Flow (view_of x.transfer k.now) k.absorbed lead) same y);
            some = none-sent b e;
            wires = λ one x. closed-holds (CurrentFlow d.transfer.code (view_of d.transfer k.now) lead) (IsGive (view_of d.transfer k.now)) (IsData (view_of d.transfer k.now) lead) one (r.1 (at ∙ sym g)) x w;
          }

  -- the transfer is marked
  marked : (b c : ActiveProgram) (begun : Option ActiveProgram) (one : Option (OnPath Down)) → s.begun ≡ Some b → begun ≡ Some c → IsUninterrupted b c → IfSome one (λ d. IsOfHold d.signal) →
      Mode side begun k (with_any_sent downs one) (taken ups path) u
  marked b c begun one e g i h =
      subst (λ (x : Option ActiveProgram). Mode side x k (with_any_sent downs one) (taken ups path) u) (sym g)
      (mode-marked side b c k (with_any_sent downs one) (taken ups path) u i
      (subst (λ (x : Option ActiveProgram). Mode side x k (with_any_sent downs one) (taken ups path) u) e (quiet s.begun one refl h)))

  -- the next command, or the program is suspended or over
  next-over : (b : ActiveProgram) (x : SubchannelState) (now : CommandTrace) → x.begun ≡ None → IsOver b → now.copied ≡ k.now.copied → data_areas k.orb now.acts ≡ data_areas k.orb k.now.acts →
      Goes (outcomes.device_released x) (record k { now = now })
  next-over b x now e o c r =
      let one : Option (OnPath Down) = (outcome_of (letting_go x.hold x.hold.phase)).sent in
      Over e o.taken_all o.some (absorbs-on laws k now c r o.absorbs) (o.wires one (sent-hold k.number m AnyGive one (letting-mutters x.hold x.hold.phase)))

  chains-goes : (b : ActiveProgram) (signal : EndSignal) (walk : WalkPosition) (c : CommandStart) → (next_command storage b.transfer (has_status_modifier signal.status)).walk ≡ walk →
      (next_command storage b.transfer (has_status_modifier signal.status)).outcome ≡ c → s.begun ≡ Some b → IsOver b →
      b.transfer.moving.ccw.chain_data ≡ false → is_some b.transfer.fault ≡ false →
      Goes (on_end.next_ccw_outcome storage s (with_first_end b) signal walk c) (stories.trace_goes_on storage c (next_acts storage b.transfer (has_status_modifier signal.status)) k)
  chains-goes b signal walk c at is e o d f = by c is
    where
      acts : Sequence Act
      acts = next_acts storage b.transfer (has_status_modifier signal.status)

      went : WentOn k.earlier laws storage k.orb (k.now.acts ▸ End (record { goes_on = true; modifier = has_status_modifier signal.status })) (k.now.acts ▸▸ acts) (b.transfer.command + 1)
          (next_command storage b.transfer (has_status_modifier signal.status)).walk (next_command storage b.transfer (has_status_modifier signal.status)).outcome
      went = next-went laws accesses k.earlier storage k.orb k.now b.transfer (has_status_modifier signal.status) (at-work b e).0.tied d f

      Went : CommandStart → Type 0
      Went c =
          WentOn k.earlier laws storage k.orb (k.now.acts ▸ End (record { goes_on = true; modifier = has_status_modifier signal.status })) (k.now.acts ▸▸ acts) (b.transfer.command + 1)
          (next_command storage b.transfer (has_status_modifier signal.status)).walk c

      by : (c : CommandStart) → (next_command storage b.transfer (has_status_modifier signal.status)).outcome ≡ c → Goes (on_end.next_ccw_outcome storage s (with_first_end b) signal walk c) (stories.trace_goes_on storage c acts k)
      by (outcome.Begins tr) c =
          let x : Transfer = (begun_with_room storage tr).transfer in
          let n : ActiveProgram = record (with_first_end b) { transfer = x } in
          let one : Option (OnPath Down) = Some (record { path = signal.path; signal = down.Command signal.number x.command x.code (begun_with_room storage tr).room }) in
          let new : ProgramTrace = stories.trace_goes_on storage (outcome.Begins tr) acts k in
          let made : Mode side (Some n) new (with_any_sent downs one) (taken ups path) u =
          Waits n refl (ap (λ (i : ℕ). i + 1) o.taken_all)
          (room-seq storage tr ∙ goes-new storage (b.transfer.command + 1) (after_command_end b.transfer.walk (record { goes_on = true; modifier = has_status_modifier signal.status })) tr c) refl o.absorbs (o.wires one tt) in
          interrupted-mode side (command_spec.with_transfer s (with_first_end b) x) n new (with_any_sent downs one) (taken ups path) u refl made
      by outcome.Suspends c =
          next-over b (suspension.program_suspended (on_end.with_allegiance_after_end s signal) (with_first_end b).program walk (residual (with_first_end b).transfer.moving)) (with_acts k.now acts)
          (suspending-workless (on_end.with_allegiance_after_end s signal) (with_first_end b).program walk (residual (with_first_end b).transfer.moving)).begun o refl (subst Went c went).1
      by (outcome.Stops check) c =
          next-over b (with_cause (on_end.with_allegiance_after_end s signal) (cause.FetchFault walk.tried check (residual (with_first_end b).transfer.moving))) (with_acts k.now acts)
          (fault-begun (on_end.with_allegiance_after_end s signal) s.begun refl) o refl (subst Went c went).1

  ends-by : (b : ActiveProgram) (signal : EndSignal) (x y : Bool) → chains_command s.scsw b signal.status signal.more ≡ x → s.begun ≡ Some b → IsOver b →
      Goes
      (if x then (if y then on_end.chains_with storage s (with_first_end b) signal (next_command storage (with_first_end b).transfer (has_status_modifier signal.status))
      else outcomes.signal_taken (record (on_end.with_allegiance_after_end s signal) { begun = Some (with_first_end b) }))
      else on_end.concludes s b signal)
      (if x then (if y then stories.trace_goes_on storage (next_command storage b.transfer (has_status_modifier signal.status)).outcome (next_acts storage b.transfer (has_status_modifier signal.status)) k else stories.with_ended k) else stories.ends_alone signal.status k)
  ends-by b signal true true c e o =
      let f = chains-facts laws accesses s.scsw b signal.status signal.more c in
      chains-goes b signal (next_command storage b.transfer (has_status_modifier signal.status)).walk (next_command storage b.transfer (has_status_modifier signal.status)).outcome refl refl e o f.0 f.1
  ends-by b signal true false c e o = mode-with side (Some (with_first_end b)) k downs (taken ups path) u (marked b (with_first_end b) (Some (with_first_end b)) None e refl (record { code = refl; command = refl; sequence = refl; moving = refl }) tt)
  ends-by b signal false y c e o = stops (is_last_end signal.status) refl
    where
      x : SubchannelState
      x = on_end.with_end_status s b signal

      stops : (last : Bool) → is_last_end signal.status ≡ last → Goes (if last then outcomes.device_released x else outcomes.signal_taken x) (stories.ends_alone signal.status k)
      stops true l = next-over b x (stories.ends_alone signal.status k).now (end-begun s b signal true l) o refl refl
      stops false l =
          mode-ended signal.status side x.begun k downs (taken ups path) u
          (marked b (has_shown b) x.begun None e (end-begun s b signal false l) (record { code = refl; command = refl; sequence = refl; moving = refl }) tt)

  module _ (signal : EndSignal)
      (front : (P : Option CurrentCommand → Type 0) (Q : ℕ → List ℕ → Type 0) (R : ℕ → Load → Type 0) → IsWired side k.number m P Q R downs ups u → Front R (up.End signal.number signal.command signal.status signal.more)) where
    ended-goes : (begun : Option ActiveProgram) → s.begun ≡ begun → signal.number ≡ k.number → Goes (on_end.ends_at_work storage s begun signal) (stories.trace_ends storage s begun signal.command signal.status signal.more k)
    ended-goes None e z = quiet s.begun None refl tt
    ended-goes (Some b) e z = by (signal.command == b.transfer.command) refl
      where
        by : (x : Bool) → (signal.command == b.transfer.command) ≡ x →
            Goes (if x then on_end.ends_command storage s b signal else outcomes.signal_ignored s) (if x then stories.chains storage s b signal.status signal.more k else k)
        by true x = ends-by b signal (chains_command s.scsw b signal.status signal.more) (has_device_end signal.status) refl e (is-over b signal.number signal.command signal.status signal.more e z (eqb-true signal.command b.transfer.command x) front)
        by false x = quiet s.begun None refl tt

    end-goes : Goes (on_end.takes_end storage s signal) (if is_on s.hold.phase signal.number then stories.trace_ends storage s s.begun signal.command signal.status signal.more k else k)
    end-goes = by (is_on s.hold.phase signal.number) refl
      where
        by : (x : Bool) → is_on s.hold.phase signal.number ≡ x →
            Goes (if x then on_end.ends_at_work storage s s.begun signal else outcomes.signal_ignored s) (if x then stories.trace_ends storage s s.begun signal.command signal.status signal.more k else k)
        by true x = ended-goes s.begun refl (on-number s.hold.phase k.number s.begun k.sent signal.number held.phase x)
        by false x = quiet s.begun None refl tt

  reset-goes : (step : Option HoldStep) → SendsHoldSignal step → Goes (on_cleared.takes_cleared s step) k
  reset-goes None h = quiet s.begun None refl tt
  reset-goes (Some step) h =
      quiet (on_cleared.clear_performed (record s { hold = step.state })).begun (outcome_of (Some step)).sent (clear-begun (record s { hold = step.state })) h

  -- any signal
  pub mode-meets : (returns : Bool) → (x : Up) → ((P : Option CurrentCommand → Type 0) (Q : ℕ → List ℕ → Type 0) (R : ℕ → Load → Type 0) → IsWired side k.number m P Q R downs ups u → Front R x) → IsNoNotice x →
      Goes (takes_up returns storage s path x).step (trace_meets storage s path x k)
  mode-meets returns (up.Accept t) f other = accepts-goes s.hold s.hold.phase t (takes_device s) held.phase
  mode-meets returns (up.Data l t c n seq) f other = data-goes (record { path = path; number = t; connection = c; command = n; sequence = seq }) l f
  mode-meets returns (up.End t n status more) f other = end-goes (record { path = path; number = t; command = n; status = status; more = more }) f
  mode-meets returns (up.Busy t) f other = hold_outcome-goes (found_busy s.hold s.hold.phase t) (busy-mutters s.hold s.hold.phase t)
  mode-meets returns (up.Leave t c) f other = hold_outcome-goes (left s.hold s.hold.phase t c) (left-mutters s.hold s.hold.phase t c)
  mode-meets returns (up.Back t c) f other = hold_outcome-goes (asked_back s.hold s.hold.phase path t c returns) (back-mutters s.hold s.hold.phase path t c returns)
  mode-meets returns (up.Released t) f other = hold_outcome-goes (released s.hold s.hold.phase t) (released-mutters s.hold s.hold.phase t)
  mode-meets returns (up.Cleared r) f other = reset-goes (reset_cleared s.hold s.hold.phase r) (cleared-mutters s.hold s.hold.phase r)
  mode-meets returns (up.Notice b) f other = absurd other
  mode-meets returns (up.Attn a status) f other =
      let step : Option HoldStep = attended s.hold s.hold.phase path a (on_attention.may_take_attention s) in
      quiet (on_attention.takes_attention s status step).state.begun (outcome_of step).sent
      (attention-begun (record s { hold = hold_after s.hold step }) ((outcome_of step).taken && not (status.0 == 0x20)))
      (attended-mutters s.hold s.hold.phase path a (on_attention.may_take_attention s))
