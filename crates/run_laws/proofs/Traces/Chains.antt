-- What a subchannel does for its program with an End is what is seen of it.
use Rattle.std.proofs.Common.{◌≡◌, refl, sym, ◌∙◌, ap, subst, arith, ℕ, ◌+◌, ◌<◌, ◌==◌, Bool, true, false, Option, Some, None, inl, inr}
use Rattle.std.specs.Prelude.{if◌then◌else◌, ◌&&◌, ◌||◌, not, is_none, is_some, length}
use Rattle.std.proofs.lemmas.Bool.{eqb-true}
use Rattle.scsw_irb.specs.declared.status.DeviceStatus.{DeviceStatus}
use Rattle.storage_keys.specs.Storage.{Contents}
use Rattle.chan_model.specs.declared.signal.Up.TheVariants as up
use Rattle.chan_model.specs.declared.hold_state.HoldPhase.{HoldPhase}
use Rattle.chan_model.specs.declared.hold_state.HoldPhase.TheVariants as hold
use Rattle.chan_model.specs.HoldTable.{is_on}
use Rattle.chan_model.specs.UnitReports.{has_device_end, has_unit_check, is_last_end}
use Rattle.ccw_walk.specs.Programs.{latest, next}
use Rattle.ccw_walk.specs.Sequences.{Sequence, ◌▸◌, ◌▸▸◌}
use Rattle.ccw_walk.specs.Acts.{Act, End}
use Rattle.ccw_walk.specs.Positions.{WalkPosition}
use Rattle.data_move.specs.declared.transfer.Beginning.{Beginning}
use Rattle.data_move.specs.declared.transfer.CommandStart.{CommandStart}
use Rattle.data_move.specs.declared.transfer.CommandStart.TheVariants as outcome
use Rattle.data_move.specs.Commands.{next_command, begun_with_room}
use Rattle.scsw_irb.specs.declared.serials.Serials.{Serials}
use Rattle.subchannel_model.specs.declared.signals.EndSignal.{EndSignal}
use Rattle.subchannel_model.specs.declared.state.ActiveProgram.{ActiveProgram}
use Rattle.subchannel_model.specs.declared.state.SubchannelState.{SubchannelState}
use Rattle.subchannel_model.specs.declared.state.UpStep.{UpStep}
use Rattle.subchannel_model.specs.declared.status.StatusRow.{StatusRow}
use Rattle.subchannel_model.specs.Ends.{has_status_modifier, has_unit_exception, is_unit_check_alone, is_channel_end_alone, shows_length, breaks_chain, chains_command, end_shown}
use Rattle.scsw_irb.specs.declared.scsw.Scsw.{Scsw}
use Rattle.orb_block.specs.declared.Orb.{Orb}
use Rattle.ccw_codec.specs.declared.Ccw.{Ccw}
use Rattle.ccw_walk.specs.declared.program.Latest.{Latest}
use Rattle.data_move.specs.Moving.{residual}
use Rattle.subchannel_model.specs.Status.{serials_made}
use Rattle.subchannel_model.specs.declared.cause.StatusCause.TheVariants as cause
use Rattle.subchannel_model.specs.Causes.{with_cause}
use Rattle.subchannel_model.specs.End as on_end
use Rattle.subchannel_model.specs.Command as command_spec
use Rattle.subchannel_model.specs.Suspension as suspension
use Rattle.subchannel_model.specs.Outcomes as outcomes
use Rattle.subchannel_model.specs.Outcomes.{device_released}
use Rattle.subchannel_model.specs.End.{with_first_end}
use Rattle.run_laws.specs.Traces.{CommandTrace, ProgramTrace}
use Rattle.run_laws.specs.Shows.{IsShownBy}
use Rattle.run_laws.specs.Interrupts.{asked, Interrupts, OnlyInterrupts}
use Rattle.run_laws.specs.Tells.{command_sent, is_length_wrong, IsChained, Chains, Meets}
use Rattle.run_laws.proofs.Traces.Asks.{BeginsAsking, next-asking, asked-interrupts, only-asked, none-sent}
use Rattle.run_laws.proofs.Traces.Latest.{IsLatest, latest-of, next-chains}
use Rattle.run_laws.proofs.Bytes.Used.{rest-none}
use Rattle.run_laws.proofs.Traces.Ties.{spot-counts, AreLaws}
use Rattle.run_laws.specs.DataAreas.{data_areas, counts}
use Rattle.run_laws.proofs.Traces.MachineActs.{next_acts}
use Rattle.run_laws.proofs.Traces.MachineTraces as stories
use Rattle.run_laws.proofs.Bytes.Accesses.{AreAccesses}
use Rattle.run_laws.proofs.Traces.Holds.{IsPhase, HasWork, IsHeld}
use Rattle.run_laws.proofs.Traces.HoldMeets.{chains-facts, next-went, end-left}
use Rattle.run_laws.proofs.Traces.Fetches.{next-adds}
use Rattle.run_laws.proofs.Statuses.Shows.{unmade, stops-shows, next-shows}
use Rattle.run_laws.proofs.Statuses.StatusCounts.{none-counted}
use Rattle.run_laws.proofs.Traces.Goings.{device_released-silent, chains-goes}

-- the signal is taken
chaining-taken : (storage : Contents) (s : SubchannelState) (b : ActiveProgram) (signal : EndSignal) (walk : WalkPosition) (c : CommandStart) →
    (on_end.next_ccw_outcome storage s b signal walk c).outcome.taken ≡ true
chaining-taken storage s b signal walk (outcome.Begins transfer) = refl
chaining-taken storage s b signal walk outcome.Suspends = refl
chaining-taken storage s b signal walk (outcome.Stops check) = refl

-- status that is made is counted
made-more : (enabled : Bool) (x : Serials) → enabled ≡ true → x.made < (serials_made enabled x).made
made-more true x e = omega arith
made-more false x e = absurd (cc e)

module _ (laws : AreLaws) (accesses : AreAccesses) where
  -- the command chains, or not
  abbrev wrong-by : Orb → CommandTrace → Bool → DeviceStatus → Bool → Option Latest → Bool
  wrong-by orb k halted status more last = elim last [ None ↦ false | Some x ↦ is_length_wrong orb k halted status more x.ccw ]

  length-by : (scsw : Scsw) (b : ActiveProgram) (k : ProgramTrace) (status : DeviceStatus) (more : Bool) (last : Option Latest) → IsLatest last b.transfer.moving.ccw → HasWork (Some b) k →
      shows_length scsw b status more ≡ wrong-by k.orb k.now scsw.functions.halt status more last
  length-by scsw b k status more None l w = absurd l
  length-by scsw b k status more (Some last) l w =
      let t = b.transfer in
      let h : Bool = scsw.functions.halt in
      let all : counts (data_areas k.orb k.now.acts) ≡ length k.now.moved + residual t.moving =
      spot-counts k.orb (data_areas k.orb k.now.acts) t k.now.moved w.0.tied.spot in
      let whole : (residual t.moving == 0) ≡ (length k.now.moved == counts (data_areas k.orb k.now.acts)) =
      sym (rest-none (counts (data_areas k.orb k.now.acts)) (length k.now.moved) (residual t.moving) (residual t.moving == 0) all refl) in
      ap (λ (e : Bool). not e && ((not (residual t.moving == 0) || more) && (not (is_unit_check_alone status) && (not h
      && (not (t.moving.ccw.suppress_length && not t.moving.ccw.chain_data)
      && (not (is_channel_end_alone status) || (b.program.orb.format_one && not b.program.orb.suppress_length))))))) (sym w.3.4)
      ∙ ap (λ (e : Bool). not k.now.ended && ((not e || more) && (not (is_unit_check_alone status) && (not h
      && (not (t.moving.ccw.suppress_length && not t.moving.ccw.chain_data)
      && (not (is_channel_end_alone status) || (b.program.orb.format_one && not b.program.orb.suppress_length))))))) whole
      ∙ ap (λ (c : Ccw). not k.now.ended && ((not (length k.now.moved == counts (data_areas k.orb k.now.acts)) || more) && (not (is_unit_check_alone status) && (not h
      && (not (c.suppress_length && not c.chain_data)
      && (not (is_channel_end_alone status) || (b.program.orb.format_one && not b.program.orb.suppress_length))))))) (sym l)
      ∙ ap (λ (o : Orb). not k.now.ended && ((not (length k.now.moved == counts (data_areas k.orb k.now.acts)) || more) && (not (is_unit_check_alone status) && (not h
      && (not (last.ccw.suppress_length && not last.ccw.chain_data) && (not (is_channel_end_alone status) || (o.format_one && not o.suppress_length))))))) w.4

  is-chained : (s : SubchannelState) (b : ActiveProgram) (k : ProgramTrace) (status : DeviceStatus) (more x : Bool) → HasWork (Some b) k →
      chains_command s.scsw b status more ≡ x → IsChained x s.scsw.functions.halt status more k
  is-chained s b k status more x w c =
      let last : Option Latest = latest k.orb k.now.acts in
      let h : Bool = s.scsw.functions.halt in
      let n : Bool = is_some (next k.orb (k.now.acts ▸ End (record { goes_on = true; modifier = has_status_modifier status }))) in
      let wrong : Bool = wrong-by k.orb k.now h status more last in
      ap (λ (u : Bool). n && not (u || (has_unit_check status || (has_unit_exception status || (wrong || (k.now.stopped_by_check || h)))))) w.3.5
      ∙ ap (λ (f : Bool). n && not (b.transfer.unchained || (has_unit_check status || (has_unit_exception status || (wrong || (f || h)))))) w.3.3
      ∙ ap (λ (y : Bool). n && not (b.transfer.unchained || (has_unit_check status || (has_unit_exception status || (y || (is_some b.transfer.fault || h))))))
      (sym (length-by s.scsw b k status more last (latest-of k.earlier k.orb k.now.acts k.now.moved b.transfer w.0.tied) w))
      ∙ next-chains k.earlier k.orb k.now.acts k.now.moved b.transfer (has_status_modifier status) b.transfer.unchained (breaks_chain s.scsw b status more) w.0.tied ∙ c

  abbrev EndBy : Contents → SubchannelState → EndSignal → UpStep → ProgramTrace → ProgramTrace → Type 0
  EndBy storage s signal x k after =
      IsHeld x.state after →
      Meets storage storage s x.state (up.End signal.number signal.command signal.status signal.more) x.outcome.taken x.outcome.sent k after

  -- a next command
  chains-on : (storage : Contents) (s : SubchannelState) (b : ActiveProgram) (k : ProgramTrace) (signal : EndSignal) → chains_command s.scsw b signal.status signal.more ≡ true →
      has_device_end signal.status ≡ true → HasWork (Some b) k → signal.number ≡ k.number →
      let next : Beginning = next_command storage b.transfer (has_status_modifier signal.status) in
      let acts : Sequence Act = next_acts storage b.transfer (has_status_modifier signal.status) in
      Chains storage signal.status (on_end.chains_with storage s (with_first_end b) signal next).outcome.sent k (stories.trace_goes_on storage next.outcome acts k)
  chains-on storage s b k signal c d w m =
      let modifier : Bool = has_status_modifier signal.status in
      let f = chains-facts laws accesses s.scsw b signal.status signal.more c in
      let next : Beginning = next_command storage b.transfer modifier in
      let acts : Sequence Act = next_acts storage b.transfer modifier in
      let adds = next-adds k.earlier laws storage k.orb k.now.acts k.now.moved b.transfer modifier f.0 f.1 w.0.tied in
      inl (
        d,
        (
          k.now.acts ▸▸ acts,
          adds,
          chains-goes laws storage s (with_first_end b) signal next.walk k next.outcome acts
              (k.now.acts ▸ End (record { goes_on = true; modifier = modifier })) (b.transfer.command + 1)
              (next-went laws accesses k.earlier storage k.orb k.now b.transfer modifier w.0.tied f.0 f.1) refl m (ap (λ (n : ℕ). n + 1) w.1),
        ),
      )

  -- whose block may ask for an interruption
  chains-asks : (storage : Contents) (s : SubchannelState) (b : ActiveProgram) (k : ProgramTrace) (signal : EndSignal) (walk : WalkPosition) (c : CommandStart) (acts : Sequence Act) →
      BeginsAsking storage (asked k.orb k.now.acts) (asked k.orb (k.now.acts ▸▸ acts)) c →
      Interrupts s (on_end.next_ccw_outcome storage s b signal walk c).state k (stories.trace_goes_on storage c acts k)
  chains-asks storage s b k signal walk (outcome.Begins transfer) acts a =
      let u = (begun_with_room storage transfer).transfer in
      asked-interrupts (command_spec.with_transfer s b u) (record b { transfer = u }) (asked k.orb k.now.acts) (asked k.orb (k.now.acts ▸▸ acts)) u.pci_pending a.0
  chains-asks storage s b k signal walk outcome.Suspends acts a = λ l on. absurd (omega (arith, a, l))
  chains-asks storage s b k signal walk (outcome.Stops check) acts a = λ l on. absurd (omega (arith, a, l))

  next-asks : (storage : Contents) (s : SubchannelState) (b : ActiveProgram) (k : ProgramTrace) (signal : EndSignal) → HasWork (Some b) k →
      let next : Beginning = next_command storage b.transfer (has_status_modifier signal.status) in
      Interrupts s (on_end.chains_with storage s (with_first_end b) signal next).state k
      (stories.trace_goes_on storage next.outcome (next_acts storage b.transfer (has_status_modifier signal.status)) k)
  next-asks storage s b k signal w =
      let modifier : Bool = has_status_modifier signal.status in
      let next : Beginning = next_command storage b.transfer modifier in
      chains-asks storage s (with_first_end b) k signal next.walk next.outcome (next_acts storage b.transfer modifier)
      (next-asking storage k.orb k.now.acts b.transfer modifier w.0.tied.walk)

  chains-only : (storage : Contents) (s : SubchannelState) (b : ActiveProgram) (k : ProgramTrace) (signal : EndSignal) (walk : WalkPosition) (c : CommandStart) (acts : Sequence Act) →
      BeginsAsking storage (asked k.orb k.now.acts) (asked k.orb (k.now.acts ▸▸ acts)) c →
      is_some (command_sent (on_end.next_ccw_outcome storage s b signal walk c).outcome.sent) ≡ true →
      OnlyInterrupts s (on_end.next_ccw_outcome storage s b signal walk c).state k (stories.trace_goes_on storage c acts k)
  chains-only storage s b k signal walk (outcome.Begins transfer) acts a e =
      let u = (begun_with_room storage transfer).transfer in
      only-asked (command_spec.with_transfer s b u) (record b { transfer = u }) (asked k.orb k.now.acts) (asked k.orb (k.now.acts ▸▸ acts)) u.pci_pending a.1
  chains-only storage s b k signal walk outcome.Suspends acts a e =
      none-sent (device_released-silent (suspension.program_suspended (on_end.with_allegiance_after_end s signal) b.program walk (residual b.transfer.moving))) e
  chains-only storage s b k signal walk (outcome.Stops check) acts a e =
      none-sent (device_released-silent (with_cause (on_end.with_allegiance_after_end s signal) (cause.FetchFault walk.tried check (residual b.transfer.moving)))) e

  next-only : (storage : Contents) (s : SubchannelState) (b : ActiveProgram) (k : ProgramTrace) (signal : EndSignal) → HasWork (Some b) k →
      let next : Beginning = next_command storage b.transfer (has_status_modifier signal.status) in
      let x : UpStep = on_end.chains_with storage s (with_first_end b) signal next in
      is_some (command_sent x.outcome.sent) ≡ true →
      OnlyInterrupts s x.state k (stories.trace_goes_on storage next.outcome (next_acts storage b.transfer (has_status_modifier signal.status)) k)
  next-only storage s b k signal w e =
      let modifier : Bool = has_status_modifier signal.status in
      let next : Beginning = next_command storage b.transfer modifier in
      chains-only storage s (with_first_end b) k signal next.walk next.outcome (next_acts storage b.transfer modifier)
      (next-asking storage k.orb k.now.acts b.transfer modifier w.0.tied.walk) e

  -- none
  stops-meets : (storage : Contents) (s : SubchannelState) (b : ActiveProgram) (k : ProgramTrace) (signal : EndSignal) (shown : StatusRow) (last : Bool) →
      IsChained false s.scsw.functions.halt signal.status signal.more k → signal.number ≡ k.number → signal.command ≡ k.sent →
      let x : UpStep = if last then device_released (end-left laws accesses s b signal shown last) else outcomes.signal_taken (end-left laws accesses s b signal shown last) in
      let after : ProgramTrace = stories.ends_alone signal.status k in
      IsShownBy (is_none s.waiting || not (is_last_end signal.status)) s x.state after →
      Meets storage storage s x.state (up.End signal.number signal.command signal.status signal.more) x.outcome.taken x.outcome.sent k after
  stops-meets storage s b k signal shown true c m n r = (m, n, refl, inl (c, refl, device_released-silent (end-left laws accesses s b signal shown true), made-more s.pmcw.enabled s.serials, r))
  stops-meets storage s b k signal shown false c m n r = (m, n, refl, inl (c, refl, refl, made-more s.pmcw.enabled s.serials, r))

  goes-meets : (storage : Contents) (s : SubchannelState) (b : ActiveProgram) (k : ProgramTrace) (signal : EndSignal) (x y : Bool) → chains_command s.scsw b signal.status signal.more ≡ x →
      has_device_end signal.status ≡ y → s.begun ≡ Some b → HasWork (Some b) k → signal.number ≡ k.number → signal.command ≡ k.sent →
      EndBy storage s signal
      (if x then (if y then on_end.chains_with storage s (with_first_end b) signal (next_command storage (with_first_end b).transfer (has_status_modifier signal.status))
      else outcomes.signal_taken (record (on_end.with_allegiance_after_end s signal) { begun = Some (with_first_end b) }))
      else on_end.concludes s b signal) k
      (if x then (if y then stories.trace_goes_on storage (next_command storage b.transfer (has_status_modifier signal.status)).outcome (next_acts storage b.transfer (has_status_modifier signal.status)) k else stories.with_ended k)
      else stories.ends_alone signal.status k)
  goes-meets storage s b k signal true true c d e w m n r =
      let next : Beginning = next_command storage b.transfer (has_status_modifier signal.status) in
      let x : UpStep = on_end.chains_with storage s (with_first_end b) signal next in
      let after : ProgramTrace = stories.trace_goes_on storage next.outcome (next_acts storage b.transfer (has_status_modifier signal.status)) k in
      subst (λ (t : Bool). Meets storage storage s x.state (up.End signal.number signal.command signal.status signal.more) t x.outcome.sent k after)
      (sym (chaining-taken storage s (with_first_end b) signal next.walk next.outcome)) (
        m,
        n,
        refl,
        inr (
          is-chained s b k signal.status signal.more true w c,
          chains-on storage s b k signal c d w m,
          next-shows laws accesses storage s b k signal c w r,
          next-asks storage s b k signal w,
          next-only storage s b k signal w,
        ),
      )
  goes-meets storage s b k signal true false c d e w m n r =
      (m, n, refl, inr (is-chained s b k signal.status signal.more true w c, inr (d, refl, refl), unmade s.serials.made (record (on_end.with_allegiance_after_end s signal) { begun = Some (with_first_end b) }) (stories.with_ended k) refl, λ l on. absurd (omega (arith, l)), λ c l. absurd (omega (arith, l))))
  goes-meets storage s b k signal false y c d e w m n r =
      stops-meets storage s b k signal (end_shown s b signal.status signal.more) (is_last_end signal.status) (is-chained s b k signal.status signal.more false w c) m n
      (stops-shows laws accesses s b k signal w)

  command-meets : (storage : Contents) (s : SubchannelState) (b : ActiveProgram) (k : ProgramTrace) (signal : EndSignal) (x : Bool) → (signal.command == b.transfer.command) ≡ x → s.begun ≡ Some b → HasWork (Some b) k → signal.number ≡ k.number →
      EndBy storage s signal (if x then on_end.ends_command storage s b signal else outcomes.signal_ignored s) k (if x then stories.chains storage s b signal.status signal.more k else k)
  command-meets storage s b k signal true i e w m r =
      goes-meets storage s b k signal (chains_command s.scsw b signal.status signal.more) (has_device_end signal.status) refl refl e w m
      (eqb-true signal.command b.transfer.command i ∙ w.1) r
  command-meets storage s b k signal false i e w m r = (refl, refl, none-counted s s k refl)

  work-ends : (storage : Contents) (s : SubchannelState) (b : Option ActiveProgram) (k : ProgramTrace) (signal : EndSignal) → s.begun ≡ b → HasWork b k → signal.number ≡ k.number →
      EndBy storage s signal (on_end.ends_at_work storage s b signal) k (stories.trace_ends storage s b signal.command signal.status signal.more k)
  work-ends storage s None k signal e w m r = (refl, refl, none-counted s s k refl)
  work-ends storage s (Some b) k signal e w m r = command-meets storage s b k signal (signal.command == b.transfer.command) refl e w m r

  -- the program is connected under its number
  on-number : (phase : HoldPhase) (u n sent : ℕ) (b : Option ActiveProgram) → is_on phase u ≡ true → IsPhase phase n b sent → u ≡ n
  on-number (hold.On t p c) u n sent b e k = eqb-true u t e ∙ k
  on-number other u n sent b e k = absurd (cc e)

  end-by : (storage : Contents) (s : SubchannelState) (k : ProgramTrace) (signal : EndSignal) (x : Bool) → is_on s.hold.phase signal.number ≡ x → IsHeld s k →
      EndBy storage s signal (if x then on_end.ends_at_work storage s s.begun signal else outcomes.signal_ignored s) k
      (if x then stories.trace_ends storage s s.begun signal.command signal.status signal.more k else k)
  end-by storage s k signal true e h r = work-ends storage s s.begun k signal refl h.work (on-number s.hold.phase signal.number k.number k.sent s.begun e h.phase) r
  end-by storage s k signal false e h r = (refl, refl, none-counted s s k refl)

  pub end-meets : (storage : Contents) (s : SubchannelState) (k : ProgramTrace) (signal : EndSignal) (x : Bool) → is_on s.hold.phase signal.number ≡ x → IsHeld s k →
      let met : UpStep = if x then on_end.ends_at_work storage s s.begun signal else outcomes.signal_ignored s in
      let after : ProgramTrace = if x then stories.trace_ends storage s s.begun signal.command signal.status signal.more k else k in
      IsHeld met.state after →
      Meets storage storage s met.state (up.End signal.number signal.command signal.status signal.more) met.outcome.taken met.outcome.sent k after
  end-meets storage s k signal x e h g = end-by storage s k signal x e h g
