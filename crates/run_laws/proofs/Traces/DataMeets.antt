-- What a subchannel does for its program with a Data is what is seen of it.
use Rattle.std.proofs.Common.{◌≡◌, refl, sym, ◌∙◌, subst, ℕ, ◌+◌, ◌==◌, Bool, true, false, List, Option, Some, None}
use Rattle.std.proofs.lemmas.Bool.{eqb-true}
use Rattle.std.specs.Prelude.{◌||◌, ◌&&◌, if◌then◌else◌, is_some}
use Rattle.storage_keys.specs.Storage.{Contents}
use Rattle.chan_model.specs.declared.hold_state.HoldPhase.{HoldPhase}
use Rattle.chan_model.specs.declared.hold_state.HoldPhase.TheVariants as hold
use Rattle.chan_model.specs.HoldTable.{is_connected}
use Rattle.chan_model.specs.Signals.{Load, load_bytes}
use Rattle.chan_model.specs.declared.signal.Up.TheVariants as up
use Rattle.chan_model.specs.Loads.{load_length}
use Rattle.chan_model.specs.UnitReports.{is_outward}
use Rattle.ccw_walk.specs.Positions.{walk_position}
use Rattle.data_move.specs.declared.transfer.NextChunk.{NextChunk}
use Rattle.data_move.specs.declared.transfer.Transfer.{Transfer}
use Rattle.data_move.specs.Commands.{located_transfer}
use Rattle.data_move.specs.FromDevice.{StoredChunk, chunk_stored}
use Rattle.data_move.specs.ToDevice.{chunk_absorbed, next_chunk}
use Rattle.data_move.specs.ChunkNumbers.{is_answered}
use Rattle.subchannel_model.specs.declared.signals.DataSignal.{DataSignal}
use Rattle.subchannel_model.specs.declared.state.ActiveProgram.{ActiveProgram}
use Rattle.subchannel_model.specs.declared.state.SubchannelState.{SubchannelState}
use Rattle.subchannel_model.specs.Outcomes as outcomes
use Rattle.subchannel_model.specs.Data as on_data
use Rattle.subchannel_model.specs.Command as command_spec
use Rattle.subchannel_model.specs.Outcomes.{SignalOutcome}
use Rattle.run_laws.specs.Traces.{CommandTrace, ProgramTrace}
use Rattle.run_laws.specs.Fetches.{AddsFetched}
use Rattle.run_laws.specs.Interrupts.{asked, Interrupts, OnlyInterrupts}
use Rattle.run_laws.specs.Tells.{is_used_up, acts_used, Moves, Meets}
use Rattle.run_laws.proofs.Traces.Asks.{asked-interrupts, only-asked, gives-asking, takes_in-asking}
use Rattle.run_laws.proofs.Traces.Unasked.{IsUnasked}
use Rattle.run_laws.proofs.Traces.MachineActs.{gives, takes_in}
use Rattle.run_laws.proofs.Traces.MachineTraces as stories
use Rattle.run_laws.proofs.Bytes.Accesses.{AreAccesses}
use Rattle.run_laws.proofs.Traces.Ties.{AreLaws}
use Rattle.run_laws.proofs.Traces.Parts.{IsSame, IsAtWork, absorbed-same, next_chunk-same, located-same, brought-same, gives-work, takes_in-work}
use Rattle.run_laws.proofs.Traces.Holds.{IsPhase, IsMarked, HasWork, IsHeld}
use Rattle.run_laws.proofs.Traces.Fetches.{gives-adds, takes_in-adds}
use Rattle.run_laws.proofs.Statuses.Shows.{ShowsRestOf, data-shows}
use Rattle.run_laws.proofs.Statuses.StatusCounts.{none-counted}
use Rattle.run_laws.proofs.Bytes.Moves.{work-codes}
use Rattle.run_laws.proofs.Bytes.NextChunks.{gives-next, takes-next, gives-flags, takes-flags}

module _ (laws : AreLaws) (accesses : AreAccesses) where
  abbrev MovesOf : Contents → SignalOutcome → ℕ → Load → ProgramTrace → ProgramTrace → Type 0
  MovesOf storage x seq load k after = Moves storage x.storage seq load x.step.outcome.sent k after

  out-told : (storage : Contents) (s : SubchannelState) (b : ActiveProgram) (k : ProgramTrace) (signal : DataSignal) (load : Load) → IsAtWork k.earlier k.orb k.now b.transfer true → IsMarked k.now b.transfer →
      ((signal.sequence == b.transfer.sequence) || (signal.sequence == b.transfer.sequence + 1)) ≡ true →
      MovesOf storage (outcomes.with_storage storage (on_data.gives_next_chunk storage s b signal (load_length load))) signal.sequence load k (record k { now = gives storage b.transfer signal.sequence (load_length load) k.now })
  out-told storage s b k signal load w marks at =
      let t : Transfer = b.transfer in
      let count : ℕ = load_length load in
      let a : Transfer = chunk_absorbed storage t signal.sequence count in
      let given : NextChunk = next_chunk storage a in
      let f : IsSame t a = absorbed-same storage t signal.sequence count in
      let g : IsSame a given.transfer = next_chunk-same storage a in
      let now : CommandTrace = gives storage t signal.sequence count k.now in
      let used : Bool = is_used_up k.orb (is_some t.fault) k.now now in
      let adds : AddsFetched storage k.orb (acts_used used k.now.acts) now.acts = gives-adds k.earlier laws storage k.orb k.now t signal.sequence count w in
      let flags = gives-flags laws accesses k.earlier storage k.now t signal.sequence count marks in (
        now,
        refl,
        subst (λ (x : Bool). AddsFetched storage k.orb (acts_used (is_used_up k.orb x k.now now) k.now.acts) now.acts) (sym marks.3) adds,
        work-codes k.earlier storage k.orb k.now now used t given.transfer true true (g.0 ∙ f.0, g.1 ∙ f.1) w
            (gives-work k.earlier laws storage k.orb k.now t signal.sequence count w) adds,
        flags.0,
        flags.1,
        (refl, gives-next laws accesses k.earlier storage k.orb k.now t signal.sequence count w marks at),
      )

  in-told : (storage : Contents) (s : SubchannelState) (b : ActiveProgram) (k : ProgramTrace) (signal : DataSignal) (load : Load) → IsAtWork k.earlier k.orb k.now b.transfer false → IsMarked k.now b.transfer →
      ((signal.sequence == b.transfer.sequence) || (signal.sequence == b.transfer.sequence + 1)) ≡ true →
      MovesOf storage (on_data.tells_room_after s b signal (chunk_stored storage b.transfer signal.sequence (load_bytes load))) signal.sequence load k
      (record k { now = takes_in storage b.transfer signal.sequence (load_bytes load) k.now })
  in-told storage s b k signal load w marks at =
      let t : Transfer = b.transfer in
      let bytes : List ℕ = load_bytes load in
      let a : StoredChunk = chunk_stored storage t signal.sequence bytes in
      let f : IsSame t a.transfer = brought-same storage t signal.sequence bytes in
      let u : Transfer = located_transfer a.storage a.transfer in
      let g : IsSame a.transfer u = located-same a.storage a.transfer in
      let now : CommandTrace = takes_in storage t signal.sequence bytes k.now in
      let used : Bool = is_used_up k.orb (is_some t.fault) k.now now in
      let adds : AddsFetched a.storage k.orb (acts_used used k.now.acts) now.acts = takes_in-adds k.earlier laws accesses storage k.orb k.now t signal.sequence bytes w in
      let flags = takes-flags laws accesses k.earlier storage k.now t signal.sequence bytes marks in (
        now,
        refl,
        subst (λ (x : Bool). AddsFetched a.storage k.orb (acts_used (is_used_up k.orb x k.now now) k.now.acts) now.acts) (sym marks.3) adds,
        work-codes k.earlier a.storage k.orb k.now now used t u false false (g.0 ∙ f.0, g.1 ∙ f.1) w
            (takes_in-work k.earlier laws accesses storage k.orb k.now t signal.sequence bytes w) adds,
        flags.0,
        flags.1,
        takes-next laws accesses k.earlier storage k.orb k.now t signal.sequence bytes w marks at,
      )

  -- a block that data is chained to may ask for an interruption
  out-asks : (storage : Contents) (s : SubchannelState) (b : ActiveProgram) (k : ProgramTrace) (signal : DataSignal) (load : Load) → b.transfer.walk ≡ walk_position k.orb k.now.acts → b.transfer.pci_pending ≡ false →
      Interrupts s (on_data.gives_next_chunk storage s b signal (load_length load)).state k (record k { now = gives storage b.transfer signal.sequence (load_length load) k.now })
  out-asks storage s b k signal load e f =
      let count : ℕ = load_length load in
      let now : CommandTrace = gives storage b.transfer signal.sequence count k.now in
      let t : Transfer = (next_chunk storage (chunk_absorbed storage b.transfer signal.sequence count)).transfer in
      asked-interrupts (command_spec.with_transfer s b t) (record b { transfer = t }) (asked k.orb k.now.acts) (asked k.orb now.acts) t.pci_pending
      (gives-asking storage k.orb k.now b.transfer signal.sequence count e f).0

  in-asks : (storage : Contents) (s : SubchannelState) (b : ActiveProgram) (k : ProgramTrace) (signal : DataSignal) (load : Load) → b.transfer.walk ≡ walk_position k.orb k.now.acts → b.transfer.pci_pending ≡ false →
      Interrupts s (on_data.tells_room_after s b signal (chunk_stored storage b.transfer signal.sequence (load_bytes load))).step.state k
      (record k { now = takes_in storage b.transfer signal.sequence (load_bytes load) k.now })
  in-asks storage s b k signal load e f =
      let bytes : List ℕ = load_bytes load in
      let now : CommandTrace = takes_in storage b.transfer signal.sequence bytes k.now in
      let x : StoredChunk = chunk_stored storage b.transfer signal.sequence bytes in
      let t : Transfer = located_transfer x.storage x.transfer in
      asked-interrupts (command_spec.with_transfer s b t) (record b { transfer = t }) (asked k.orb k.now.acts) (asked k.orb now.acts) t.pci_pending
      (takes_in-asking storage k.orb k.now b.transfer signal.sequence bytes e f).0

  out-only : (storage : Contents) (s : SubchannelState) (b : ActiveProgram) (k : ProgramTrace) (signal : DataSignal) (load : Load) → b.transfer.walk ≡ walk_position k.orb k.now.acts → b.transfer.pci_pending ≡ false →
      OnlyInterrupts s (on_data.gives_next_chunk storage s b signal (load_length load)).state k (record k { now = gives storage b.transfer signal.sequence (load_length load) k.now })
  out-only storage s b k signal load e f =
      let count : ℕ = load_length load in
      let now : CommandTrace = gives storage b.transfer signal.sequence count k.now in
      let t : Transfer = (next_chunk storage (chunk_absorbed storage b.transfer signal.sequence count)).transfer in
      only-asked (command_spec.with_transfer s b t) (record b { transfer = t }) (asked k.orb k.now.acts) (asked k.orb now.acts) t.pci_pending
      (gives-asking storage k.orb k.now b.transfer signal.sequence count e f).1

  in-only : (storage : Contents) (s : SubchannelState) (b : ActiveProgram) (k : ProgramTrace) (signal : DataSignal) (load : Load) → b.transfer.walk ≡ walk_position k.orb k.now.acts → b.transfer.pci_pending ≡ false →
      OnlyInterrupts s (on_data.tells_room_after s b signal (chunk_stored storage b.transfer signal.sequence (load_bytes load))).step.state k
      (record k { now = takes_in storage b.transfer signal.sequence (load_bytes load) k.now })
  in-only storage s b k signal load e f =
      let bytes : List ℕ = load_bytes load in
      let now : CommandTrace = takes_in storage b.transfer signal.sequence bytes k.now in
      let x : StoredChunk = chunk_stored storage b.transfer signal.sequence bytes in
      let t : Transfer = located_transfer x.storage x.transfer in
      only-asked (command_spec.with_transfer s b t) (record b { transfer = t }) (asked k.orb k.now.acts) (asked k.orb now.acts) t.pci_pending
      (takes_in-asking storage k.orb k.now b.transfer signal.sequence bytes e f).1

  and-left : (a b : Bool) → (a && b) ≡ true → a ≡ true
  and-left true b e = refl
  and-left false b e = absurd (cc e)

  and-right : (a b : Bool) → (a && b) ≡ true → b ≡ true
  and-right true b e = e
  and-right false b e = absurd (cc e)

  connected-number : (phase : HoldPhase) (signal : DataSignal) (n : ℕ) (b : Option ActiveProgram) (sent : ℕ) → is_connected phase signal.path signal.number signal.connection ≡ true →
      IsPhase phase n b sent → signal.number ≡ n
  connected-number (hold.On t p c) signal n b sent e k = eqb-true signal.number t (and-left _ _ e) ∙ k
  connected-number other signal n b sent e k = absurd (cc e)

  -- a Data
  abbrev DataBy : Contents → SubchannelState → DataSignal → Load → SignalOutcome → ProgramTrace → ProgramTrace → Type 0
  DataBy storage s signal load x k after =
      ShowsRestOf s.serials.made x.step.state after →
      Meets storage x.storage s x.step.state (up.Data load signal.number signal.connection signal.command signal.sequence) x.step.outcome.taken x.step.outcome.sent k after

  moves-meets : (storage : Contents) (s : SubchannelState) (b : ActiveProgram) (k : ProgramTrace) (signal : DataSignal) (load : Load) (x : Bool) → s.begun ≡ Some b → is_outward b.transfer.code ≡ x →
      b.transfer.pci_pending ≡ false →
      signal.number ≡ k.number → signal.command ≡ k.sent → IsMarked k.now b.transfer →
      ((signal.sequence == b.transfer.sequence) || (signal.sequence == b.transfer.sequence + 1)) ≡ true → IsAtWork k.earlier k.orb k.now b.transfer (is_outward b.transfer.code) →
      DataBy storage s signal load (if x then outcomes.with_storage storage (on_data.gives_next_chunk storage s b signal (load_length load))
      else on_data.tells_room_after s b signal (chunk_stored storage b.transfer signal.sequence (load_bytes load))) k
      (if x then record k { now = gives storage b.transfer signal.sequence (load_length load) k.now } else record k { now = takes_in storage b.transfer signal.sequence (load_bytes load) k.now })
  moves-meets storage s b k signal load true is d c u n marks at w r = (
    u,
    n,
    (refl, refl, refl, refl),
    out-told storage s b k signal load (subst (λ (y : Bool). IsAtWork k.earlier k.orb k.now b.transfer y) d w) marks at,
    r,
    out-asks storage s b k signal load w.tied.walk c,
    out-only storage s b k signal load w.tied.walk c,
  )
  moves-meets storage s b k signal load false is d c u n marks at w r = (
    u,
    n,
    (refl, refl, refl),
    in-told storage s b k signal load (subst (λ (y : Bool). IsAtWork k.earlier k.orb k.now b.transfer y) d w) marks at,
    r,
    in-asks storage s b k signal load w.tied.walk c,
    in-only storage s b k signal load w.tied.walk c,
  )

  answers-meets : (storage : Contents) (s : SubchannelState) (b : ActiveProgram) (k : ProgramTrace) (signal : DataSignal) (load : Load) (x : Bool) → is_answered b.transfer signal.command signal.sequence ≡ x → s.begun ≡ Some b → b.transfer.pci_pending ≡ false →
      signal.number ≡ k.number → b.transfer.command ≡ k.sent → IsMarked k.now b.transfer → IsAtWork k.earlier k.orb k.now b.transfer (is_outward b.transfer.code) →
      DataBy storage s signal load (if x then on_data.moves_bytes storage s b signal load else outcomes.with_storage storage (outcomes.signal_ignored s)) k
      (if x then stories.moves storage b.transfer signal.sequence load k else k)
  answers-meets storage s b k signal load true e is c u m marks w r =
      let n : signal.command ≡ b.transfer.command = eqb-true signal.command b.transfer.command (and-left _ _ (and-left _ _ e)) in
      moves-meets storage s b k signal load (is_outward b.transfer.code) is refl c u (n ∙ m) marks (and-right _ _ (and-left _ _ e)) w r
  answers-meets storage s b k signal load false e is c u m marks w r = (refl, refl, none-counted s s k refl)

  work-meets : (storage : Contents) (s : SubchannelState) (b : Option ActiveProgram) (k : ProgramTrace) (signal : DataSignal) (load : Load) → s.begun ≡ b → IsUnasked b → HasWork b k → signal.number ≡ k.number →
      DataBy storage s signal load (on_data.moves_data storage s b signal load) k (stories.answers storage b signal.command signal.sequence load k)
  work-meets storage s None k signal load is c w u r = (refl, refl, none-counted s s k refl)
  work-meets storage s (Some b) k signal load is c w u r = answers-meets storage s b k signal load (is_answered b.transfer signal.command signal.sequence) refl is c u w.1 w.3 w.0 r

  data-by : (storage : Contents) (s : SubchannelState) (k : ProgramTrace) (signal : DataSignal) (load : Load) (x : Bool) → is_connected s.hold.phase signal.path signal.number signal.connection ≡ x → IsHeld s k → IsUnasked s.begun →
      DataBy storage s signal load (if x then on_data.moves_data storage s s.begun signal load else outcomes.with_storage storage (outcomes.signal_ignored s)) k
      (if x then stories.answers storage s.begun signal.command signal.sequence load k else k)
  data-by storage s k signal load true e h c r =
      work-meets storage s s.begun k signal load refl c h.work (connected-number s.hold.phase signal k.number s.begun k.sent e h.phase) r
  data-by storage s k signal load false e h c r = (refl, refl, none-counted s s k refl)

  pub data-meets : (storage : Contents) (s : SubchannelState) (k : ProgramTrace) (signal : DataSignal) (load : Load) (x : Bool) → is_connected s.hold.phase signal.path signal.number signal.connection ≡ x → IsHeld s k → IsUnasked s.begun →
      let met : SignalOutcome = if x then on_data.moves_data storage s s.begun signal load else outcomes.with_storage storage (outcomes.signal_ignored s) in
      let after : ProgramTrace = if x then stories.answers storage s.begun signal.command signal.sequence load k else k in
      IsHeld met.step.state after →
      Meets storage met.storage s met.step.state (up.Data load signal.number signal.connection signal.command signal.sequence) met.step.outcome.taken met.step.outcome.sent k after
  data-meets storage s k signal load x e h c g =
      data-by storage s k signal load x e h c
      (data-shows storage s signal load (if x then stories.answers storage s.begun signal.command signal.sequence load k else k) x g)
