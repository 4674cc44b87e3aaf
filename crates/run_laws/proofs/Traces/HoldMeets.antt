-- What a subchannel does for its program with a signal keeps it in agreement with the trace.
use Rattle.std.proofs.Common.{◌≡◌, refl, ap, sym, ◌∙◌, subst, ℕ, ◌+◌, ◌≤◌, Bool, true, false, List, Option, Some, None, inl, inr, arith}
use Rattle.std.specs.Prelude.{if◌then◌else◌, ◌==◌, ◌&&◌, ◌||◌, not, nat_lt, is_some}
use Rattle.std.proofs.lemmas.Bool.{and_parts}
use Rattle.orb_block.specs.declared.Orb.{Orb}
use Rattle.scsw_irb.specs.declared.scsw.Scsw.{Scsw}
use Rattle.scsw_irb.specs.declared.status.DeviceStatus.{DeviceStatus}
use Rattle.storage_keys.specs.Storage.{Contents}
use Rattle.chan_model.specs.declared.hold_state.HoldPhase.{HoldPhase}
use Rattle.chan_model.specs.declared.hold_state.HoldPhase.TheVariants as hold
use Rattle.chan_model.specs.declared.hold_state.HoldState.{HoldState}
use Rattle.chan_model.specs.Signals.{Load, Up, load_bytes}
use Rattle.chan_model.specs.declared.signal.Up.TheVariants as up
use Rattle.chan_model.specs.HoldTable as hold_table
use Rattle.chan_model.specs.HoldTable.{HoldStep, hold_takes, outcome_of, is_connected, is_on}
use Rattle.chan_model.specs.Loads.{load_length}
use Rattle.subchannel_model.specs.Notice as on_notice
use Rattle.subchannel_model.specs.declared.status.StatusRow.{StatusRow}
use Rattle.chan_model.specs.UnitReports.{is_outward, is_last_end, has_device_end, has_unit_check}
use Rattle.ccw_walk.specs.declared.check.Check.{Check}
use Rattle.ccw_walk.specs.declared.program.Ended.{Ended}
use Rattle.ccw_walk.specs.Sequences.{Sequence, Nothing, ◌▸◌, ◌▸▸◌, count}
use Rattle.ccw_walk.specs.Acts.{Act, End}
use Rattle.ccw_walk.specs.Programs.{IsProgram, role_of, commands}
use Rattle.ccw_walk.specs.Positions.{WalkPosition, walk_position, after_command_end}
use Rattle.idaw.specs.Lists.{block, kind_of}
use Rattle.run_laws.specs.DataAreas.{places_of_bytes, data_areas, counts}
use Rattle.data_move.specs.Moving.{residual}
use Rattle.data_move.specs.declared.transfer.Transfer.{Transfer}
use Rattle.data_move.specs.declared.transfer.Beginning.{Beginning}
use Rattle.data_move.specs.declared.transfer.CommandStart.{CommandStart}
use Rattle.data_move.specs.declared.transfer.CommandStart.TheVariants as outcome
use Rattle.data_move.specs.Commands.{first_command, next_command, goes_to, begun_with_room, with_room}
use Rattle.data_move.specs.ToDevice.{chunk_absorbed, next_chunk}
use Rattle.data_move.specs.FromDevice.{chunk_stored}
use Rattle.data_move.specs.ChunkNumbers.{is_answered}
use Rattle.subchannel_model.specs.declared.signals.DataSignal.{DataSignal}
use Rattle.subchannel_model.specs.declared.signals.EndSignal.{EndSignal}
use Rattle.subchannel_model.specs.declared.state.ActiveProgram.{ActiveProgram}
use Rattle.subchannel_model.specs.declared.state.Program.{Program}
use Rattle.subchannel_model.specs.declared.state.SubchannelState.{SubchannelState}
use Rattle.subchannel_model.specs.declared.state.ProgramPosition.{ProgramPosition}
use Rattle.subchannel_model.specs.declared.cause.StatusCause.TheVariants as cause
use Rattle.subchannel_model.specs.Ends.{has_status_modifier, chains_command, breaks_chain, shows_length, has_unit_exception, has_shown, end_shown}
use Rattle.subchannel_model.specs.Causes as causes
use Rattle.subchannel_model.specs.Causes.{with_cause, without_begun, fetch_fault_shown, with_row}
use Rattle.subchannel_model.specs.Accept as on_accept
use Rattle.subchannel_model.specs.Data as on_data
use Rattle.subchannel_model.specs.Command as command_spec
use Rattle.subchannel_model.specs.Outcomes as outcomes
use Rattle.subchannel_model.specs.End as on_end
use Rattle.subchannel_model.specs.Attention as on_attention
use Rattle.subchannel_model.specs.Taking.{takes_up}
use Rattle.subchannel_model.specs.Programs.{has_any}
use Rattle.subchannel_model.specs.Accept.{takes_device, with_path_used, with_program_at_work, position_at_start, suspended_position, position_of_start}
use Rattle.subchannel_model.specs.Outcomes.{device_released}
use Rattle.subchannel_model.specs.End.{with_first_end}
use Rattle.subchannel_model.specs.Pci.{without_pci, with_pci}
use Rattle.subchannel_model.specs.Suspension.{program_suspended, with_suspended_program, suspended_alone}
use Rattle.run_laws.specs.Traces.{CommandTrace, no_trace, ProgramTrace, past_part}
use Rattle.run_laws.proofs.Traces.MachineActs.{with_acts, goes_acts, first_acts, next_acts, gives, takes_in}
use Rattle.run_laws.proofs.Traces.MachineTraces as stories
use Rattle.run_laws.proofs.Traces.MachineTraces.{trace_meets}
use Rattle.run_laws.specs.ProgramClaims.{IsBeginning, places_of, places_arrived, IsSuspended, EndsAtCheck, IsWhole}
use Rattle.run_laws.specs.Shows.{IsRest}
use Rattle.run_laws.proofs.Bytes.Accesses.{AreAccesses}
use Rattle.run_laws.proofs.Traces.Ties.{AreLaws, Tied, changed, spot-counts}
use Rattle.run_laws.proofs.Traces.Parts.{IsDone, IsAtWork, HasArrived, done-of, arrived-none, gives-work, takes_in-work, WentOn, goes-on, IsSame, absorbed-same, next_chunk-same, located-same, brought-same, room-same}
use Rattle.subchannel_model.specs.Losing.{is_offered_or_held, reset_with, reset_for}
use Rattle.run_laws.proofs.Traces.Holds.{IsPhase, IsDrawn, fresh-marked, IsMarked, HasWork, IsStanding, IsHeld, IsHold, done-held, phase-some, phase-none, unshown-begun, busy-phase, left-phase, back-phase, released-phase, attended-phase, hold_outcome-held, back-held, attention-held, device_released-held, standing-some, none-stands, halt_performed-held, takes_cleared-held, nothing-done, past-done}
use Rattle.run_laws.proofs.Traces.Endings.{ended-work, with_ended-work}
use Rattle.run_laws.proofs.Traces.Standing.{suspended-unchecked}
use Rattle.run_laws.proofs.Traces.Sequences.{joined-in-order}

module _ (laws : AreLaws) (accesses : AreAccesses) where
  -- the program is over or suspended, where a command can't begin
  over-done : (orb : Orb) (before acts : Sequence Act) (p : CommandTrace) → IsProgram orb acts → data_areas orb acts ≡ data_areas orb before → data_areas orb before ≡ data_areas orb p.acts →
      IsWhole orb acts → EndsAtCheck orb acts → IsDone orb p → IsDone orb (record p { acts = acts })
  over-done orb before acts p w f e o en d =
      let same : places_of orb acts ≡ places_of orb p.acts = ap (places_of_bytes (block (kind_of orb))) (f ∙ e) in
      record {
        program = w;
        whole = o;
        ends = en;
        moves = subst (λ (xs : List (Option ℕ)). IsBeginning p.moved xs) (sym same) d.moves;
        arrived = d.arrived;
        arrives = subst (λ (xs : List (Option ℕ)). IsBeginning (places_arrived p.arrived) xs) (sym same) d.arrives;
      }

  -- an interruption by the program
  interrupted-if : (s : SubchannelState) (b : ActiveProgram) (k : ProgramTrace) (x : Bool) → s.begun ≡ Some b → IsHeld s k →
      IsHeld (if x then with_cause (record s { begun = Some (without_pci b) }) (cause.Pci b.transfer.walk.tried (residual b.transfer.moving)) else s) k
  interrupted-if s b k true e h =
      let w : HasWork (Some b) k = subst (λ (x : Option ActiveProgram). HasWork x k) e h.work in
      let t : Transfer = record b.transfer { pci_pending = false } in
      record {
        number = h.number;
        phase = phase-some s.hold.phase k.number b (without_pci b) k.sent k.sent (subst (λ (x : Option ActiveProgram). IsPhase s.hold.phase k.number x k.sent) e h.phase);
        drawn = h.drawn;
        work = (
          record { tied = changed k.earlier k.orb k.now.acts k.now.moved b.transfer t refl refl refl refl (λ y. y) (λ y. y) w.0.tied; arrived = w.0.arrived },
          w.1,
          w.2,
          w.3,
          w.4,
        );
        standing = none-stands s.waiting (Some (without_pci b)) s.suspended k (standing-some s.waiting s.begun b s.suspended k e h.standing);
      }
  interrupted-if s b k false e h = h

  interrupted-held : (s : SubchannelState) (b : Option ActiveProgram) (k : ProgramTrace) → s.begun ≡ b → IsHeld s k → IsHeld (with_pci s b) k
  interrupted-held s None k e h = h
  interrupted-held s (Some b) k e h = interrupted-if s b k b.transfer.pci_pending e h

  -- the program is suspended, or over as a command can't begin
  suspends-held : (s : SubchannelState) (program : Program) (walk : WalkPosition) (count : ℕ) (k : ProgramTrace) → k.number ≤ s.drawn →
      IsHold s.drawn k.number s.begun k.sent s.hold.phase → IsDone k.orb k.now → walk ≡ walk_position k.orb k.now.acts → (role_of k.orb k.now.acts).chained ≡ false → IsRest count k →
      IsSuspended k.orb k.now.acts → program.orb ≡ k.orb → IsHeld (device_released (program_suspended s program walk count)).state k
  suspends-held s program walk count k n p d w c r su o = by program.orb.suppress_suspended
    where
      by : (x : Bool) → IsHeld (device_released (if x then record (with_suspended_program s program walk count) { scsw = suspended_alone s.scsw }
          else with_cause (with_suspended_program s program walk count) (cause.Suspension walk.tried count))).state k
      by true =
          device_released-held (record (with_suspended_program s program walk count) { scsw = suspended_alone s.scsw }) k n (phase-none s.hold.phase k.number s.begun k.sent p.0, p.1) refl d (refl, refl, w, c, r, su, o)
      by false =
          device_released-held (with_cause (with_suspended_program s program walk count) (cause.Suspension walk.tried count)) k n (phase-none s.hold.phase k.number s.begun k.sent p.0, p.1) refl d (refl, refl, w, c, r, su, o)

  abbrev fault-left : SubchannelState → Option ActiveProgram → ℕ → Check → ℕ → SubchannelState
  fault-left s b tried check count =
      with_row s (record { shown = fetch_fault_shown tried check count; left = without_begun b s }) s.scsw

  fault-by : (s : SubchannelState) (b : Option ActiveProgram) (tried : ℕ) (check : Check) (count : ℕ) (k : ProgramTrace) → s.begun ≡ b → k.number ≤ s.drawn →
      IsHold s.drawn k.number s.begun k.sent s.hold.phase → IsDone k.orb k.now → ((c : ActiveProgram) → s.begun ≡ Some c → s.suspended ≡ None) →
      IsHeld (device_released (fault-left s b tried check count)).state k
  fault-by s None tried check count k e n p d f = device_released-held (fault-left s None tried check count) k n p e d tt
  fault-by s (Some b) tried check count k e n p d f =
      device_released-held (fault-left s (Some b) tried check count) k n (phase-none s.hold.phase k.number s.begun k.sent p.0, p.1) refl d (none-stands s.waiting None s.suspended k (f b e))

  fault-held : (s : SubchannelState) (tried : ℕ) (check : Check) (count : ℕ) (k : ProgramTrace) → k.number ≤ s.drawn → IsHold s.drawn k.number s.begun k.sent s.hold.phase →
      IsDone k.orb k.now → ((c : ActiveProgram) → s.begun ≡ Some c → s.suspended ≡ None) → IsHeld (device_released (with_cause s (cause.FetchFault tried check count))).state k
  fault-held s tried check count k n p d f = fault-by s s.begun tried check count k refl n p d f

  -- Accept
  on-hold : (s : SubchannelState) (t p n sent : ℕ) → s.hold.phase ≡ hold.On t p 0 → t ≡ n → (b : Option ActiveProgram) → IsHold s.drawn n b sent s.hold.phase
  on-hold s t p n sent e f b = subst (λ (x : HoldPhase). IsHold s.drawn n b sent x) (sym e) (f, tt)

  begins-held : (storage : Contents) (s : SubchannelState) (p t : ℕ) (st : ProgramPosition) (walk : WalkPosition) (k : ProgramTrace) (c : CommandStart) (acts : Sequence Act) →
      WentOn k.earlier laws storage k.orb k.now.acts (k.now.acts ▸▸ acts) 1 walk c → k.number ≤ s.drawn → s.hold.phase ≡ hold.On t p 0 → t ≡ k.number →
      s.begun ≡ None → k.sent ≡ 0 → IsDone k.orb k.now → IsRest st.count k → st.program.orb ≡ k.orb → IsHeld (on_accept.first_ccw_outcome storage s p t st walk c).state (stories.trace_goes_on storage c acts k)
  begins-held storage s p t st walk k (outcome.Begins transfer) acts w n on f z none d r o =
      let b : ActiveProgram = record { program = st.program; primary_shown = false; transfer = (begun_with_room storage transfer).transfer } in
      let new : ProgramTrace = stories.trace_goes_on storage (outcome.Begins transfer) acts k in
      let next : SubchannelState = with_program_at_work s st.program (begun_with_room storage transfer).transfer in
      let x : IsHold s.drawn k.number (Some b) (k.sent + 1) s.hold.phase = on-hold s t p k.number (k.sent + 1) on f (Some b) in
      interrupted-held next (Some b) new refl
      (record {
        number = n;
        phase = x.0;
        drawn = x.1;
        work = (
          record { tied = w.0; arrived = arrived-none new.now b.transfer.fault b.transfer.sequence (is_outward b.transfer.code) refl refl w.2.3.0 },
          (room-same storage transfer).1 ∙ w.1 ∙ (let y : 1 ≡ k.sent + 1 = omega (arith, none) in y),
          omega arith,
          fresh-marked b.transfer w.2.3,
          o,
        );
        standing = tt;
      })
  begins-held storage s p t st walk k outcome.Suspends acts w n on f z none d r o =
      suspends-held s st.program walk st.count (record k { now = with_acts k.now acts }) n (on-hold s t p k.number k.sent on f s.begun)
      (over-done k.orb k.now.acts (k.now.acts ▸▸ acts) k.now w.0 w.1 refl (inr (inr w.5)) w.6 d) w.4 w.3 (ap counts w.1 ∙ r) w.5 o
  begins-held storage s p t st walk k (outcome.Stops check) acts w n on f z none d r o =
      fault-held s walk.tried check st.count (record k { now = with_acts k.now acts }) n (on-hold s t p k.number k.sent on f s.begun)
      (over-done k.orb k.now.acts (k.now.acts ▸▸ acts) k.now w.0 w.1 refl (inr (inl w.3)) w.4 d) (λ c e. absurd (cc (sym z ∙ e)))

  -- where it was suspended
  again-held : (storage : Contents) (s : SubchannelState) (p t : ℕ) (k : ProgramTrace) (st : ProgramPosition) (x : Bool) → IsHeld s k → s.hold.phase ≡ hold.On t p 0 → t ≡ k.number → s.begun ≡ None →
      k.sent ≡ 0 → st.walk ≡ walk_position k.orb k.now.acts → (role_of k.orb k.now.acts).chained ≡ false → IsRest st.count k → IsSuspended k.orb k.now.acts → st.program.orb ≡ k.orb →
      IsHeld (on_accept.begins_at storage s p t (if x then Some st else None)).state (if x then stories.begins_again storage st k else k)
  again-held storage s p t k st true h on f z none w c r su o =
      let past : ProgramTrace = record k { earlier = count (commands k.orb k.now.acts); now = past_part k.now } in
      let d : IsDone k.orb k.now = done-held s k h in
      subst
      (λ (old : WalkPosition). IsHeld (on_accept.first_ccw_outcome storage s p t st (first_command storage old).walk (first_command storage old).outcome).state
      (stories.trace_goes_on storage (first_command storage old).outcome (first_acts storage old) past))
      (sym w)
      (let old : WalkPosition = walk_position k.orb k.now.acts in
      begins-held storage s p t st (first_command storage old).walk past (first_command storage old).outcome (first_acts storage old)
      (goes-on past.earlier laws storage k.orb k.now.acts 1 c refl d.program (suspended-unchecked k.orb k.now.acts su d.ends) d.ends) h.number on f z none (past-done k.orb k.now d) r o)
  again-held storage s p t k st false h on f z none w c r su o = h

  suspended-held : (storage : Contents) (s : SubchannelState) (p t : ℕ) (k : ProgramTrace) (w : Option Program) (b : Option ActiveProgram) (st : Option ProgramPosition) (start : ℕ) → IsHeld s k →
      s.hold.phase ≡ hold.On t p 0 → t ≡ k.number → s.begun ≡ None → k.sent ≡ 0 → IsStanding w b st k →
      IsHeld (on_accept.begins_at storage s p t (suspended_position st start)).state (stories.again_as storage st start k)
  suspended-held storage s p t k w b None start h on f z none x = h
  suspended-held storage s p t k w b (Some st) start h on f z none x = again-held storage s p t k st (st.program.start == start) h on f z none x.2 x.3 x.4 x.5 x.6

  anew-held : (storage : Contents) (s : SubchannelState) (p t : ℕ) (k : ProgramTrace) (w : Option Program) (b : Option ActiveProgram) (st : Option ProgramPosition) (start : ℕ) (program : Program) (x : Bool) →
      IsHeld s k → s.hold.phase ≡ hold.On t p 0 → t ≡ k.number → s.begun ≡ None → k.sent ≡ 0 → IsStanding w b st k →
      IsHeld (on_accept.begins_at storage s p t (if x then Some (position_at_start program) else suspended_position st start)).state
      (if x then stories.begins_anew storage program k else stories.again_as storage st start k)
  anew-held storage s p t k w b st start program true h on f z none x =
      let old : WalkPosition = walk_position program.orb Nothing in
      begins-held storage s p t (position_at_start program) (first_command storage old).walk (record k { orb = program.orb; earlier = 0; now = no_trace }) (first_command storage old).outcome
      (first_acts storage old) (goes-on 0 laws storage program.orb Nothing 1 refl refl tt refl tt) h.number on f z none (nothing-done program.orb) refl refl
  anew-held storage s p t k w b st start program false h on f z none x = suspended-held storage s p t k w b st start h on f z none x

  stands-held : (storage : Contents) (s : SubchannelState) (p t : ℕ) (k : ProgramTrace) (w : Option Program) (b : Option ActiveProgram) (st : Option ProgramPosition) (start : ℕ) → IsHeld s k →
      s.hold.phase ≡ hold.On t p 0 → t ≡ k.number → s.begun ≡ None → k.sent ≡ 0 → IsStanding w b st k →
      IsHeld (on_accept.begins_at storage s p t (position_of_start w st start)).state (stories.begins_as storage w st start k)
  stands-held storage s p t k None b st start h on f z none x = suspended-held storage s p t k None b st start h on f z none x
  stands-held storage s p t k (Some program) b st start h on f z none x = anew-held storage s p t k (Some program) b st start program (program.start == start) h on f z none x

  begun-held : (storage : Contents) (s : SubchannelState) (k : ProgramTrace) (t q : ℕ) (may : Bool) → IsHeld s k → t ≡ k.number → s.begun ≡ None → k.sent ≡ 0 →
      IsHeld (on_accept.takes_accept storage s (Some (hold_table.program_begun s.hold t q may))).state (stories.trace_accepted storage s (Some (hold_table.program_begun s.hold t q may)) k)
  begun-held storage s k t q true h e z none =
      stands-held storage (record s { hold = record s.hold { phase = hold.On t q 0; seen = 0; first_path = Some q }; pmcw = with_path_used s.pmcw q }) q t k s.waiting s.begun s.suspended s.offered
      (record { number = h.number; phase = e; drawn = tt; work = h.work; standing = h.standing }) refl e z none h.standing
  begun-held storage s k t q false h e z none =
      halt_performed-held (record s { hold = record s.hold { phase = hold.Letting t q; seen = 0; first_path = Some q }; pmcw = with_path_used s.pmcw q }) k
      (record { number = h.number; phase = (e, z); drawn = tt; work = h.work; standing = h.standing })

  offer-held : (storage : Contents) (s : SubchannelState) (k : ProgramTrace) (t q : ℕ) (x may : Bool) → IsHeld s k → t ≡ k.number → s.begun ≡ None → k.sent ≡ 0 →
      let step : Option HoldStep = if x then Some (hold_table.program_begun s.hold t q may) else None in
      IsHeld (on_accept.takes_accept storage s step).state (stories.trace_accepted storage s step k)
  offer-held storage s k t q true may h e z none = begun-held storage s k t q may h e z none
  offer-held storage s k t q false may h e z none = h

  accept-held : (storage : Contents) (s : SubchannelState) (k : ProgramTrace) (u : ℕ) (may : Bool) (phase : HoldPhase) → s.hold.phase ≡ phase → IsHeld s k →
      IsHeld (on_accept.takes_accept storage s (hold_table.offer_accepted s.hold phase u may)).state (stories.trace_accepted storage s (hold_table.offer_accepted s.hold phase u may) k)
  accept-held storage s k u may (hold.Offer t q) e h =
      let f : IsPhase (hold.Offer t q) k.number s.begun k.sent = subst (λ (x : HoldPhase). IsPhase x k.number s.begun k.sent) e h.phase in
      offer-held storage s k t q (u == t) may h f.0 f.1 f.2
  accept-held storage s k u may other e h = h

  -- Data
  transfer-held : (s : SubchannelState) (b : ActiveProgram) (k : ProgramTrace) (t : Transfer) (now : CommandTrace) → s.begun ≡ Some b → IsHeld s k → IsSame b.transfer t →
      IsAtWork k.earlier k.orb now t (is_outward b.transfer.code) → (b.transfer.command ≡ k.sent) × (1 ≤ k.sent) → IsMarked now t → b.program.orb ≡ k.orb →
      IsHeld (on_data.after_chunk s b t) (record k { now = now })
  transfer-held s b k t now e h same w n marks o =
      interrupted-held (command_spec.with_transfer s b t) (Some (record b { transfer = t })) (record k { now = now }) refl
      (record {
        number = h.number;
        phase = phase-some s.hold.phase k.number b (record b { transfer = t }) k.sent k.sent (subst (λ (x : Option ActiveProgram). IsPhase s.hold.phase k.number x k.sent) e h.phase);
        drawn = h.drawn;
        work = (subst (λ (c : ℕ). IsAtWork k.earlier k.orb now t (is_outward c)) (sym same.0) w, same.1 ∙ n.0, n.1, marks, o);
        standing = none-stands s.waiting (Some (record b { transfer = t })) s.suspended (record k { now = now }) (standing-some s.waiting s.begun b s.suspended k e h.standing);
      })

  out-held : (storage : Contents) (s : SubchannelState) (b : ActiveProgram) (k : ProgramTrace) (signal : DataSignal) (load : Load) (x : Bool) → is_outward b.transfer.code ≡ x → s.begun ≡ Some b → IsHeld s k →
      IsAtWork k.earlier k.orb k.now b.transfer (is_outward b.transfer.code) → (b.transfer.command ≡ k.sent) × (1 ≤ k.sent) → b.program.orb ≡ k.orb →
      IsHeld (if x then outcomes.with_storage storage (on_data.gives_next_chunk storage s b signal (load_length load))
      else on_data.tells_room_after s b signal (chunk_stored storage b.transfer signal.sequence (load_bytes load))).step.state
      (if x then record k { now = gives storage b.transfer signal.sequence (load_length load) k.now } else record k { now = takes_in storage b.transfer signal.sequence (load_bytes load) k.now })
  out-held storage s b k signal load true d e h w m o =
      let a : Transfer = chunk_absorbed storage b.transfer signal.sequence (load_length load) in
      let u : Transfer = (next_chunk storage a).transfer in
      let f : IsSame b.transfer a = absorbed-same storage b.transfer signal.sequence (load_length load) in
      let g : IsSame a u = next_chunk-same storage a in
      transfer-held s b k u (gives storage b.transfer signal.sequence (load_length load) k.now) e h (g.0 ∙ f.0, g.1 ∙ f.1)
      (subst (λ (y : Bool). IsAtWork k.earlier k.orb (gives storage b.transfer signal.sequence (load_length load) k.now) u y) (sym d)
      (gives-work k.earlier laws storage k.orb k.now b.transfer signal.sequence (load_length load) (subst (λ (y : Bool). IsAtWork k.earlier k.orb k.now b.transfer y) d w)))
      m (refl, refl, refl, refl, refl, refl) o
  out-held storage s b k signal load false d e h w m o =
      let a = chunk_stored storage b.transfer signal.sequence (load_bytes load) in
      let u : Transfer = (with_room a.storage a.transfer).transfer in
      let f : IsSame b.transfer a.transfer = brought-same storage b.transfer signal.sequence (load_bytes load) in
      let g : IsSame a.transfer u = located-same a.storage a.transfer in
      transfer-held s b k u (takes_in storage b.transfer signal.sequence (load_bytes load) k.now) e h (g.0 ∙ f.0, g.1 ∙ f.1)
      (subst (λ (y : Bool). IsAtWork k.earlier k.orb (takes_in storage b.transfer signal.sequence (load_bytes load) k.now) u y) (sym d)
      (takes_in-work k.earlier laws accesses storage k.orb k.now b.transfer signal.sequence (load_bytes load) (subst (λ (y : Bool). IsAtWork k.earlier k.orb k.now b.transfer y) d w)))
      m (refl, refl, refl, refl, refl, refl) o

  answered-held : (storage : Contents) (s : SubchannelState) (b : ActiveProgram) (k : ProgramTrace) (signal : DataSignal) (load : Load) (x : Bool) → s.begun ≡ Some b → IsHeld s k →
      IsAtWork k.earlier k.orb k.now b.transfer (is_outward b.transfer.code) → (b.transfer.command ≡ k.sent) × (1 ≤ k.sent) → b.program.orb ≡ k.orb →
      IsHeld (if x then on_data.moves_bytes storage s b signal load else outcomes.with_storage storage (outcomes.signal_ignored s)).step.state
      (if x then stories.moves storage b.transfer signal.sequence load k else k)
  answered-held storage s b k signal load true e h w m o = out-held storage s b k signal load (is_outward b.transfer.code) refl e h w m o
  answered-held storage s b k signal load false e h w m o = h

  data-held : (storage : Contents) (s : SubchannelState) (b : Option ActiveProgram) (k : ProgramTrace) (signal : DataSignal) (load : Load) → s.begun ≡ b → IsHeld s k → HasWork b k →
      IsHeld (on_data.moves_data storage s b signal load).step.state (stories.answers storage b signal.command signal.sequence load k)
  data-held storage s None k signal load e h w = h
  data-held storage s (Some b) k signal load e h w = answered-held storage s b k signal load (is_answered b.transfer signal.command signal.sequence) e h w.0 (w.1, w.2) w.4

  connected-held : (storage : Contents) (s : SubchannelState) (k : ProgramTrace) (signal : DataSignal) (load : Load) (x : Bool) → IsHeld s k →
      IsHeld (if x then on_data.moves_data storage s s.begun signal load else outcomes.with_storage storage (outcomes.signal_ignored s)).step.state
      (if x then stories.answers storage s.begun signal.command signal.sequence load k else k)
  connected-held storage s k signal load true h = data-held storage s s.begun k signal load refl h h.work
  connected-held storage s k signal load false h = h

  -- End
  not-true : (b : Bool) → not b ≡ true → b ≡ false
  not-true true e = absurd (cc e)
  not-true false e = refl

  or-false : (a b : Bool) → (a || b) ≡ false → (_ : a ≡ false) × (b ≡ false)
  or-false true b e = absurd (cc e)
  or-false false b e = (refl, e)

  pub chains-facts : (scsw : Scsw) (b : ActiveProgram) (status : DeviceStatus) (more : Bool) → chains_command scsw b status more ≡ true →
      (_ : b.transfer.moving.ccw.chain_data ≡ false) × (is_some b.transfer.fault ≡ false)
  chains-facts scsw b status more e =
      let unbroken : Bool = not (breaks_chain scsw b status more) in
      let f : (_ : b.transfer.moving.ccw.chain_command ≡ true) × ((not b.transfer.moving.ccw.chain_data && (not b.transfer.unchained && unbroken)) ≡ true) =
      and_parts b.transfer.moving.ccw.chain_command (not b.transfer.moving.ccw.chain_data && (not b.transfer.unchained && unbroken)) e in
      let g : (_ : not b.transfer.moving.ccw.chain_data ≡ true) × ((not b.transfer.unchained && unbroken) ≡ true) =
      and_parts (not b.transfer.moving.ccw.chain_data) (not b.transfer.unchained && unbroken) f.1 in
      let h : (_ : not b.transfer.unchained ≡ true) × (unbroken ≡ true) = and_parts (not b.transfer.unchained) unbroken g.1 in
      let last : Bool = is_some b.transfer.fault || scsw.functions.halt in
      let whole : breaks_chain scsw b status more ≡ false = not-true (breaks_chain scsw b status more) h.1 in
      let i : (_ : has_unit_check status ≡ false) × ((has_unit_exception status || (shows_length scsw b status more || last)) ≡ false) =
      or-false (has_unit_check status) (has_unit_exception status || (shows_length scsw b status more || last)) whole in
      let j : (_ : has_unit_exception status ≡ false) × ((shows_length scsw b status more || last) ≡ false) = or-false (has_unit_exception status) (shows_length scsw b status more || last) i.1 in
      let l : (_ : shows_length scsw b status more ≡ false) × (last ≡ false) = or-false (shows_length scsw b status more) last j.1 in
      (not-true b.transfer.moving.ccw.chain_data g.0, (or-false (is_some b.transfer.fault) scsw.functions.halt l.1).0)

  abbrev pub ending : Bool → Ended
  ending modifier = record { goes_on = true; modifier = modifier }

  pub next-went : (earlier : ℕ) (storage : Contents) (orb : Orb) (p : CommandTrace) (t : Transfer) (modifier : Bool) → Tied earlier orb p.acts p.moved t → t.moving.ccw.chain_data ≡ false →
      is_some t.fault ≡ false →
      WentOn earlier laws storage orb (p.acts ▸ End (ending modifier)) (p.acts ▸▸ next_acts storage t modifier) (t.command + 1) (next_command storage t modifier).walk
      (next_command storage t modifier).outcome
  next-went earlier storage orb p t modifier k d f =
      let before : Sequence Act = p.acts ▸ End (ending modifier) in
      let n : ℕ = t.command + 1 in
      let old : WalkPosition = walk_position orb before in
      let m : count (commands orb before) ≡ earlier + t.command = k.number in
      let went : WentOn earlier laws storage orb before (before ▸▸ goes_acts storage n old) n (goes_to storage n old).walk (goes_to storage n old).outcome =
      goes-on earlier laws storage orb before n (k.chained f ∙ d) (omega (arith, m)) (k.stands, k.program) (k.checked f) k.ends in
      subst
      (λ (w : WalkPosition). WentOn earlier laws storage orb before (p.acts ▸▸ (Nothing ▸ End (ending modifier) ▸▸ goes_acts storage n (after_command_end w (ending modifier)))) n
      (goes_to storage n (after_command_end w (ending modifier))).walk (goes_to storage n (after_command_end w (ending modifier))).outcome)
      (sym k.walk)
      (subst (λ (xs : Sequence Act). WentOn earlier laws storage orb before xs n (goes_to storage n old).walk (goes_to storage n old).outcome)
      (sym (joined-in-order p.acts (Nothing ▸ End (ending modifier)) (goes_acts storage n old))) went)

  chains-held : (storage : Contents) (s : SubchannelState) (b : ActiveProgram) (k : ProgramTrace) (signal : EndSignal) (walk : WalkPosition) (c : CommandStart) (acts before : Sequence Act) (n : ℕ) →
      s.begun ≡ Some b → IsHeld s k → IsDone k.orb k.now → WentOn k.earlier laws storage k.orb before (k.now.acts ▸▸ acts) n walk c →
      data_areas k.orb before ≡ data_areas k.orb k.now.acts → n ≡ k.sent + 1 → IsHeld (on_end.next_ccw_outcome storage s (with_first_end b) signal walk c).state (stories.trace_goes_on storage c acts k)
  chains-held storage s b k signal walk (outcome.Begins transfer) acts before n e h d w r m =
      let u : Transfer = (begun_with_room storage transfer).transfer in
      let next : ActiveProgram = record (with_first_end b) { transfer = u } in
      interrupted-held (command_spec.with_transfer s (with_first_end b) u) (Some next) (stories.trace_goes_on storage (outcome.Begins transfer) acts k) refl
      (record {
        number = h.number;
        phase = phase-some s.hold.phase k.number b next k.sent (k.sent + 1) (subst (λ (x : Option ActiveProgram). IsPhase s.hold.phase k.number x k.sent) e h.phase);
        drawn = h.drawn;
        work = (
          record { tied = w.0; arrived = arrived-none (stories.trace_goes_on storage (outcome.Begins transfer) acts k).now u.fault u.sequence (is_outward u.code) refl refl w.2.3.0 },
          (room-same storage transfer).1 ∙ w.1 ∙ m,
          omega arith,
          fresh-marked u w.2.3,
          (subst (λ (x : Option ActiveProgram). HasWork x k) e h.work).4,
        );
        standing = none-stands s.waiting (Some next) s.suspended (stories.trace_goes_on storage (outcome.Begins transfer) acts k) (standing-some s.waiting s.begun b s.suspended k e h.standing);
      })
  chains-held storage s b k signal walk outcome.Suspends acts before n e h d w r m =
      let work : HasWork (Some b) k = subst (λ (x : Option ActiveProgram). HasWork x k) e h.work in
      suspends-held (on_end.with_allegiance_after_end s signal) b.program walk (residual b.transfer.moving) (record k { now = with_acts k.now acts }) h.number (h.phase, h.drawn)
      (over-done k.orb before (k.now.acts ▸▸ acts) k.now w.0 w.1 r (inr (inr w.5)) w.6 d) w.4 w.3
      (ap counts (w.1 ∙ r) ∙ spot-counts k.orb (data_areas k.orb k.now.acts) b.transfer k.now.moved work.0.tied.spot) w.5 work.4
  chains-held storage s b k signal walk (outcome.Stops check) acts before n e h d w r m =
      fault-held (on_end.with_allegiance_after_end s signal) walk.tried check (residual b.transfer.moving) (record k { now = with_acts k.now acts }) h.number (h.phase, h.drawn)
      (over-done k.orb before (k.now.acts ▸▸ acts) k.now w.0 w.1 r (inr (inl w.3)) w.4 d) (λ c f. standing-some s.waiting s.begun c s.suspended k f h.standing)

  -- the transfer has ended
  shown-held : (s : SubchannelState) (b c : ActiveProgram) (k : ProgramTrace) (now : CommandTrace) (u : SubchannelState) → s.begun ≡ Some b → IsHeld s k →
      IsAtWork k.earlier k.orb now b.transfer (is_outward b.transfer.code) → (b.transfer.command ≡ k.sent) × (1 ≤ k.sent) → IsMarked now c.transfer → c.program.orb ≡ k.orb → u.begun ≡ Some c → u.hold ≡ s.hold → u.drawn ≡ s.drawn →
      u.suspended ≡ s.suspended → c.transfer.walk ≡ b.transfer.walk → c.transfer.moving ≡ b.transfer.moving → c.transfer.code ≡ b.transfer.code →
      c.transfer.command ≡ b.transfer.command → c.transfer.fault ≡ b.transfer.fault → c.transfer.sequence ≡ b.transfer.sequence → IsHeld u (record k { now = now })
  shown-held s b c k now u e h w m marks o f g n v walk moving code command f2 last =
      let t : Transfer = b.transfer in
      let z : Transfer = c.transfer in
      let work : IsAtWork k.earlier k.orb now z (is_outward z.code) =
      subst (λ (x : ℕ). IsAtWork k.earlier k.orb now z (is_outward x)) (sym code)
      (record {
        tied = changed k.earlier k.orb now.acts now.moved t z walk moving code command (λ y. ap (λ x. is_some x) (sym f2) ∙ y) (λ y. ap (λ x. is_some x) f2 ∙ y) w.tied;
        arrived =
            subst (λ (x : ℕ). HasArrived now z.fault x (is_outward t.code)) (sym last)
            (subst (λ (x : Option Check). HasArrived now x t.sequence (is_outward t.code)) (sym f2) w.arrived);
      }) in
      record {
        number = subst (λ (x : ℕ). k.number ≤ x) (sym n) h.number;
        phase =
            subst (λ (x : Option ActiveProgram). IsPhase u.hold.phase k.number x k.sent) (sym f)
            (subst (λ (x : HoldState). IsPhase x.phase k.number (Some c) k.sent) (sym g)
            (phase-some s.hold.phase k.number b c k.sent k.sent (subst (λ (x : Option ActiveProgram). IsPhase s.hold.phase k.number x k.sent) e h.phase)));
        drawn = subst (λ (x : HoldState). IsDrawn x.phase u.drawn) (sym g) (subst (λ (x : ℕ). IsDrawn s.hold.phase x) (sym n) h.drawn);
        work = subst (λ (x : Option ActiveProgram). HasWork x (record k { now = now })) (sym f) (work, command ∙ m.0, m.1, marks, o);
        standing = none-stands u.waiting u.begun u.suspended (record k { now = now }) (v ∙ standing-some s.waiting s.begun b s.suspended k e h.standing);
      }

  abbrev pub end-left : SubchannelState → ActiveProgram → EndSignal → StatusRow → Bool → SubchannelState
  end-left s b signal shown last =
      record (with_row s (record { shown = shown; left = causes.programs_after_end s b last }) s.scsw) {
        dedicated = on_end.dedicated_after_end s.dedicated signal;
      }

  stops-held : (s : SubchannelState) (b : ActiveProgram) (k : ProgramTrace) (now : CommandTrace) (signal : EndSignal) (shown : StatusRow) (last : Bool) → s.begun ≡ Some b → IsHeld s k →
      IsAtWork k.earlier k.orb now b.transfer (is_outward b.transfer.code) → (b.transfer.command ≡ k.sent) × (1 ≤ k.sent) → IsMarked now (has_shown b).transfer → b.program.orb ≡ k.orb →
      IsHeld (if last then device_released (end-left s b signal shown last) else outcomes.signal_taken (end-left s b signal shown last)).state (record k { now = now })
  stops-held s b k now signal shown true e h w m marks o =
      device_released-held (end-left s b signal shown true) (record k { now = now }) h.number (phase-none s.hold.phase k.number s.begun k.sent h.phase, h.drawn) refl
      (done-of k.earlier k.orb now b.transfer (is_outward b.transfer.code) w) tt
  stops-held s b k now signal shown false e h w m marks o =
      shown-held s b (has_shown b) k now (end-left s b signal shown false) e h w m marks o refl refl refl refl refl refl refl refl refl refl

  goes-held : (storage : Contents) (s : SubchannelState) (b : ActiveProgram) (k : ProgramTrace) (signal : EndSignal) (x y : Bool) → chains_command s.scsw b signal.status signal.more ≡ x →
      s.begun ≡ Some b → IsHeld s k → IsAtWork k.earlier k.orb k.now b.transfer (is_outward b.transfer.code) → (b.transfer.command ≡ k.sent) × (1 ≤ k.sent) →
      IsMarked k.now b.transfer → b.program.orb ≡ k.orb → IsHeld (if x then (if y then on_end.chains_with storage s (with_first_end b) signal (next_command storage (with_first_end b).transfer (has_status_modifier signal.status))
      else outcomes.signal_taken (record (on_end.with_allegiance_after_end s signal) { begun = Some (with_first_end b) }))
      else on_end.concludes s b signal).state
      (if x then (if y then stories.trace_goes_on storage (next_command storage b.transfer (has_status_modifier signal.status)).outcome (next_acts storage b.transfer (has_status_modifier signal.status)) k else stories.with_ended k)
      else stories.ends_alone signal.status k)
  goes-held storage s b k signal true true c e h w m marks o =
      let f : (_ : b.transfer.moving.ccw.chain_data ≡ false) × (is_some b.transfer.fault ≡ false) = chains-facts s.scsw b signal.status signal.more c in
      let modifier : Bool = has_status_modifier signal.status in
      let next : Beginning = next_command storage b.transfer modifier in
      chains-held storage s b k signal next.walk next.outcome (next_acts storage b.transfer modifier) (k.now.acts ▸ End (ending modifier)) (b.transfer.command + 1) e h
      (done-of k.earlier k.orb k.now b.transfer (is_outward b.transfer.code) w) (next-went k.earlier storage k.orb k.now b.transfer modifier w.tied f.0 f.1) refl
      (ap (λ (n : ℕ). n + 1) m.0)
  goes-held storage s b k signal true false c e h w m marks o =
      shown-held s b (with_first_end b) k (stories.with_ended k).now (record (on_end.with_allegiance_after_end s signal) { begun = Some (with_first_end b) }) e h
      (with_ended-work k b.transfer (is_outward b.transfer.code) w) m
      (marks.0, marks.1, marks.2, marks.3, refl, marks.5) o refl refl refl refl refl refl refl refl refl refl
  goes-held storage s b k signal false y c e h w m marks o =
      stops-held s b k (stories.ends_alone signal.status k).now signal (end_shown s b signal.status signal.more) (is_last_end signal.status) e
      h (ended-work k signal.status b.transfer (is_outward b.transfer.code) w) m
      (marks.0, marks.1, marks.2, marks.3, refl, refl) o

  same-command-held : (storage : Contents) (s : SubchannelState) (b : ActiveProgram) (k : ProgramTrace) (signal : EndSignal) (x : Bool) → s.begun ≡ Some b → IsHeld s k →
      IsAtWork k.earlier k.orb k.now b.transfer (is_outward b.transfer.code) → (b.transfer.command ≡ k.sent) × (1 ≤ k.sent) → IsMarked k.now b.transfer → b.program.orb ≡ k.orb →
      IsHeld (if x then on_end.ends_command storage s b signal else outcomes.signal_ignored s).state (if x then stories.chains storage s b signal.status signal.more k else k)
  same-command-held storage s b k signal true e h w m marks o =
      goes-held storage s b k signal (chains_command s.scsw b signal.status signal.more) (has_device_end signal.status) refl e h w m marks o
  same-command-held storage s b k signal false e h w m marks o = h

  end-held : (storage : Contents) (s : SubchannelState) (b : Option ActiveProgram) (k : ProgramTrace) (signal : EndSignal) → s.begun ≡ b → IsHeld s k → HasWork b k →
      IsHeld (on_end.ends_at_work storage s b signal).state (stories.trace_ends storage s b signal.command signal.status signal.more k)
  end-held storage s None k signal e h w = h
  end-held storage s (Some b) k signal e h w = same-command-held storage s b k signal (signal.command == b.transfer.command) e h w.0 (w.1, w.2) w.3 w.4

  on-held : (storage : Contents) (s : SubchannelState) (k : ProgramTrace) (signal : EndSignal) (x : Bool) → IsHeld s k →
      IsHeld (if x then on_end.ends_at_work storage s s.begun signal else outcomes.signal_ignored s).state (if x then stories.trace_ends storage s s.begun signal.command signal.status signal.more k else k)
  on-held storage s k signal true h = end-held storage s s.begun k signal refl h h.work
  on-held storage s k signal false h = h

  -- the hold is to be reset: no program is begun any more
  pub reset-held : (s : SubchannelState) (k : ProgramTrace) (shows : Bool) → (is_offered_or_held s.hold.phase && has_any s.waiting s.begun s.suspended) ≡ shows → IsHeld s k → IsHeld (reset_with s shows) k
  reset-held s k true e h =
      let n : k.number ≤ s.drawn = h.number in
      record { number = omega (arith, n); phase = (refl, omega (arith, n)); drawn = omega arith; work = done-held s k h; standing = tt }
  reset-held s k false e h =
      let n : k.number ≤ s.drawn = h.number in
      record {
        number = omega (arith, n);
        phase = (unshown-begun s.hold.phase k.number k.sent s.waiting s.begun s.suspended e h.phase, omega (arith, n));
        drawn = omega arith;
        work = h.work;
        standing = h.standing;
      }

  notice-held : (s : SubchannelState) (k : ProgramTrace) (b : ℕ) (more : Bool) → IsHeld s k → IsHeld (if more then outcomes.signal_taken (reset_for (on_notice.with_known s b)) else outcomes.signal_ignored s).state k
  notice-held s k b true h =
      reset-held (on_notice.with_known s b) k (is_offered_or_held s.hold.phase && has_any s.waiting s.begun s.suspended) refl
      (record { number = h.number; phase = h.phase; drawn = h.drawn; work = h.work; standing = h.standing })
  notice-held s k b false h = h

  -- a signal
  pub signal-held : (returns : Bool) → (storage : Contents) (s : SubchannelState) (p : ℕ) (signal : Up) (k : ProgramTrace) → IsHeld s k →
      IsHeld (takes_up returns storage s p signal).step.state (trace_meets storage s p signal k)
  signal-held returns storage s p (up.Accept t) k h = accept-held storage s k t (takes_device s) s.hold.phase refl h
  signal-held returns storage s p (up.Busy t) k h =
      hold_outcome-held s k (hold_takes s.hold p (up.Busy t) false) h (busy-phase s.drawn k.number s.begun k.sent s.hold s.hold.phase t refl (h.phase, h.drawn))
  signal-held returns storage s p (up.Leave t c) k h =
      hold_outcome-held s k (hold_takes s.hold p (up.Leave t c) false) h (left-phase s.drawn k.number s.begun k.sent s.hold s.hold.phase t c refl (h.phase, h.drawn))
  signal-held returns storage s p (up.Back t c) k h =
      back-held s k p (hold_takes s.hold p (up.Back t c) returns) h (back-phase s.drawn k.number s.begun k.sent s.hold s.hold.phase p t c returns refl (h.phase, h.drawn))
  signal-held returns storage s p (up.Data load t c n seq) k h = connected-held storage s k (record { path = p; number = t; connection = c; command = n; sequence = seq }) load
      (is_connected s.hold.phase p t c) h
  signal-held returns storage s p (up.End t n status more) k h = on-held storage s k (record { path = p; number = t; command = n; status = status; more = more }) (is_on s.hold.phase t) h
  signal-held returns storage s p (up.Released t) k h =
      hold_outcome-held s k (hold_takes s.hold p (up.Released t) false) h (released-phase s.drawn k.number s.begun k.sent s.hold s.hold.phase t refl (h.phase, h.drawn))
  signal-held returns storage s p (up.Cleared r) k h = takes_cleared-held s k r s.hold.phase refl h
  signal-held returns storage s p (up.Notice b) k h =
      notice-held s k b (nat_lt s.hold.known_restarts b) h
  signal-held returns storage s p (up.Attn a status) k h =
      let step : Option HoldStep = hold_takes s.hold p (up.Attn a status) (on_attention.may_take_attention s) in
      attention-held (outcomes.hold_outcome s step).state k ((outcome_of step).taken && not (status.0 == 0x20))
      (hold_outcome-held s k step h (attended-phase s.drawn k.number s.begun k.sent s.hold s.hold.phase p a (on_attention.may_take_attention s) refl (h.phase, h.drawn)))
