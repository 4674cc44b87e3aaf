-- A program goes on by the command that is sent, or none is sent and none comes to it.
use Rattle.std.proofs.Common.{◌≡◌, refl, sym, ◌∙◌, ap, subst, arith, ℕ, ◌+◌, List, [], ◌∷◌, ◌++◌, length, is_some, Option, Some, None, length-append}
use Rattle.orb_block.specs.declared.Orb.{Orb}
use Rattle.storage_keys.specs.Storage.{Contents}
use Rattle.chan_model.specs.declared.hold_state.HoldPhase.{HoldPhase}
use Rattle.chan_model.specs.declared.hold_state.HoldPhase.TheVariants as hold
use Rattle.chan_model.specs.declared.hold_state.HoldState.{HoldState}
use Rattle.chan_model.specs.Signals.{Down}
use Rattle.chan_model.specs.declared.signal.OnPath.{OnPath}
use Rattle.chan_model.specs.HoldTable.{outcome_of, letting_go}
use Rattle.ccw_walk.specs.Sequences.{Sequence, ◌▸◌, ◌▸▸◌, count, each}
use Rattle.ccw_walk.specs.Acts.{Act}
use Rattle.ccw_walk.specs.Programs.{Command, commands, code}
use Rattle.ccw_walk.specs.Positions.{WalkPosition}
use Rattle.data_move.specs.Moving.{residual}
use Rattle.data_move.specs.declared.transfer.Transfer.{Transfer}
use Rattle.data_move.specs.declared.transfer.CommandStart.{CommandStart}
use Rattle.data_move.specs.declared.transfer.CommandStart.TheVariants as outcome
use Rattle.data_move.specs.Commands.{begun_with_room}
use Rattle.subchannel_model.specs.declared.signals.EndSignal.{EndSignal}
use Rattle.subchannel_model.specs.declared.state.ActiveProgram.{ActiveProgram}
use Rattle.subchannel_model.specs.declared.state.ProgramPosition.{ProgramPosition}
use Rattle.subchannel_model.specs.declared.state.SubchannelState.{SubchannelState}
use Rattle.subchannel_model.specs.declared.cause.StatusCause.TheVariants as cause
use Rattle.subchannel_model.specs.Causes.{with_cause}
use Rattle.subchannel_model.specs.Accept as on_accept
use Rattle.subchannel_model.specs.Suspension as suspension
use Rattle.subchannel_model.specs.End as on_end
use Rattle.subchannel_model.specs.Outcomes.{device_released}
use Rattle.run_laws.specs.Traces.{ProgramTrace}
use Rattle.run_laws.specs.Tells.{SentCommand, command_sent, GoesTo}
use Rattle.run_laws.specs.Reached.{BeginsData}
use Rattle.run_laws.proofs.Traces.MachineActs.{with_acts}
use Rattle.run_laws.proofs.Traces.MachineTraces as stories
use Rattle.run_laws.proofs.Traces.Ties.{AreLaws}
use Rattle.run_laws.proofs.Traces.Parts.{WentOn, room-same}
use Rattle.run_laws.proofs.Commands.UnitGrowth.{Adds, acts-add}
use Rattle.run_laws.proofs.Traces.Sequences.{count-each, backward, length-backward, same-backward}

-- a device that is let go is sent no command
phase-silent : (h : HoldState) (phase : HoldPhase) → command_sent (outcome_of (letting_go h phase)).sent ≡ None
phase-silent h hold.Free = refl
phase-silent h other = refl

pub device_released-silent : (s : SubchannelState) → command_sent (device_released s).outcome.sent ≡ None
device_released-silent s = phase-silent s.hold s.hold.phase

-- as many commands are the same commands
no-more : (more xs ys : List ℕ) → ys ≡ more ++ xs → length ys ≡ length xs → ys ≡ xs
no-more [] xs ys e l = e
no-more (c ∷ more) xs ys e l =
    let f : length ys ≡ length (c ∷ more) + length xs = ap length e ∙ length-append (c ∷ more) xs in
    absurd (omega (arith, f, l))

pub same-codes : (orb : Orb) (more before : Sequence Act) → count (commands orb (before ▸▸ more)) ≡ count (commands orb before) →
    each code (commands orb (before ▸▸ more)) ≡ each code (commands orb before)
same-codes orb more before l =
    let old : Sequence ℕ = each code (commands orb before) in
    let new : Sequence ℕ = each code (commands orb (before ▸▸ more)) in
    let a : Adds (backward old) (backward new) = acts-add orb more before in
    same-backward new old (no-more a.0 (backward old) (backward new) a.1
    (length-backward new ∙ count-each code (commands orb (before ▸▸ more)) ∙ l ∙ sym (length-backward old ∙ count-each code (commands orb before))))

-- none is sent
pub unsent-goes : (storage : Contents) (sent : Option (OnPath Down)) (acts before : Sequence Act) (k : ProgramTrace) → command_sent sent ≡ None → commands k.orb (k.now.acts ▸▸ acts) ≡ commands k.orb before →
    commands k.orb before ≡ commands k.orb k.now.acts → GoesTo storage (command_sent sent) (k.now.acts ▸▸ acts) k (record k { now = with_acts k.now acts })
unsent-goes storage sent acts before k e f g =
    subst (λ (c : Option SentCommand). GoesTo storage c (k.now.acts ▸▸ acts) k (record k { now = with_acts k.now acts })) (sym e) (ap (λ (cs : Sequence Command). each code cs) (f ∙ g), refl)

module _ (laws : AreLaws) where
  -- the next is sent
  sent-goes : (storage : Contents) (acts before : Sequence Act) (n t : ℕ) (walk : WalkPosition) (transfer : Transfer) (k : ProgramTrace) →
      WentOn k.earlier laws storage k.orb before (k.now.acts ▸▸ acts) n walk (outcome.Begins transfer) → commands k.orb before ≡ commands k.orb k.now.acts → t ≡ k.number → n ≡ k.sent + 1 →
      GoesTo storage (Some (record { number = t; command = (begun_with_room storage transfer).transfer.command; sent_code = (begun_with_room storage transfer).transfer.code; room = (begun_with_room storage transfer).room }))
      (k.now.acts ▸▸ acts) k (stories.trace_goes_on storage (outcome.Begins transfer) acts k)
  sent-goes storage acts before n t walk transfer k w e f g =
      let c : ℕ = (begun_with_room storage transfer).transfer.code in
      let same : code w.2.0 ≡ c = w.2.2 ∙ sym (room-same storage transfer).0 in (
        f,
        (room-same storage transfer).1 ∙ w.1 ∙ g,
        ap (λ (cs : Sequence Command). each code cs) w.2.1 ∙ ap (λ (x : ℕ). each code (commands k.orb before) ▸ x) same ∙ ap (λ (cs : Sequence Command). each code cs ▸ c) e,
        is_some (begun_with_room storage transfer).transfer.fault,
        subst (λ (y : ℕ). BeginsData storage k.orb y (begun_with_room storage transfer).room (is_some (begun_with_room storage transfer).transfer.fault) (k.now.acts ▸▸ acts))
            (sym (room-same storage transfer).0) w.3,
        refl,
      )

  -- at an Accept
  pub begins-goes : (storage : Contents) (s : SubchannelState) (p t : ℕ) (st : ProgramPosition) (walk : WalkPosition) (k : ProgramTrace) (c : CommandStart) (acts : Sequence Act) (n : ℕ) →
      WentOn k.earlier laws storage k.orb k.now.acts (k.now.acts ▸▸ acts) n walk c → t ≡ k.number → n ≡ k.sent + 1 →
      GoesTo storage (command_sent (on_accept.first_ccw_outcome storage s p t st walk c).outcome.sent) (k.now.acts ▸▸ acts) k (stories.trace_goes_on storage c acts k)
  begins-goes storage s p t st walk k (outcome.Begins transfer) acts n w f g = sent-goes storage acts k.now.acts n t walk transfer k w refl f g
  begins-goes storage s p t st walk k outcome.Suspends acts n w f g =
      let x : SubchannelState = suspension.program_suspended s st.program walk st.count in
      unsent-goes storage (device_released x).outcome.sent acts k.now.acts k (device_released-silent x) w.2 refl
  begins-goes storage s p t st walk k (outcome.Stops check) acts n w f g =
      let x : SubchannelState = with_cause s (cause.FetchFault walk.tried check st.count) in
      unsent-goes storage (device_released x).outcome.sent acts k.now.acts k (device_released-silent x) w.2 refl

  -- and at an End
  pub chains-goes : (storage : Contents) (s : SubchannelState) (b : ActiveProgram) (signal : EndSignal) (walk : WalkPosition) (k : ProgramTrace) (c : CommandStart) (acts before : Sequence Act) (n : ℕ) →
      WentOn k.earlier laws storage k.orb before (k.now.acts ▸▸ acts) n walk c → commands k.orb before ≡ commands k.orb k.now.acts → signal.number ≡ k.number → n ≡ k.sent + 1 →
      GoesTo storage (command_sent (on_end.next_ccw_outcome storage s b signal walk c).outcome.sent) (k.now.acts ▸▸ acts) k (stories.trace_goes_on storage c acts k)
  chains-goes storage s b signal walk k (outcome.Begins transfer) acts before n w e f g = sent-goes storage acts before n signal.number walk transfer k w e f g
  chains-goes storage s b signal walk k outcome.Suspends acts before n w e f g =
      let x : SubchannelState = suspension.program_suspended (on_end.with_allegiance_after_end s signal) b.program walk (residual b.transfer.moving) in
      unsent-goes storage (device_released x).outcome.sent acts before k (device_released-silent x) w.2 e
  chains-goes storage s b signal walk k (outcome.Stops check) acts before n w e f g =
      let x : SubchannelState = with_cause (on_end.with_allegiance_after_end s signal) (cause.FetchFault walk.tried check (residual b.transfer.moving)) in
      unsent-goes storage (device_released x).outcome.sent acts before k (device_released-silent x) w.2 e
