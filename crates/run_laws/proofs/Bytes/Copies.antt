-- What was copied for the device is as storage stood then.
use Rattle.std.proofs.Common.{◌≡◌, refl, ℕ, ◌+◌, Bool, true, false, List, ◌∷◌, length, Option, Some, None, Result, Ok, Err, ◌++◌, []}
use Rattle.std.specs.Prelude.{◌==◌, min, is_some, if◌then◌else◌, All}
use Rattle.std.proofs.lemmas.List.Elements.{All-nil, All-push}
use Rattle.storage_keys.specs.Storage.{Contents}
use Rattle.scsw_irb.specs.declared.status.DeviceStatus.{DeviceStatus}
use Rattle.chan_model.specs.declared.hold_state.HoldPhase.{HoldPhase}
use Rattle.chan_model.specs.declared.hold_state.HoldPhase.TheVariants as hold
use Rattle.chan_model.specs.Signals.{Load, Up, load_bytes}
use Rattle.chan_model.specs.declared.signal.Up.TheVariants as up
use Rattle.chan_model.specs.HoldTable.{HoldStep, hold_takes, hold_after, outcome_of, is_connected, is_on}
use Rattle.chan_model.specs.Loads.{load_length}
use Rattle.chan_model.specs.UnitReports.{is_outward, has_device_end}
use Rattle.ccw_walk.specs.declared.check.Check.{Check}
use Rattle.ccw_walk.specs.Sequences.{Sequence, Nothing, count}
use Rattle.ccw_walk.specs.Acts.{Act}
use Rattle.ccw_walk.specs.Programs.{commands}
use Rattle.ccw_walk.specs.Positions.{WalkPosition, walk_position}
use Rattle.data_move.specs.Moving.{room}
use Rattle.data_move.specs.Accesses as access
use Rattle.data_move.specs.declared.transfer.Transfer.{Transfer}
use Rattle.data_move.specs.declared.transfer.CommandStart.{CommandStart}
use Rattle.data_move.specs.declared.transfer.CommandStart.TheVariants as outcome
use Rattle.data_move.specs.Commands.{first_command, next_command, located_transfer, has_stopped}
use Rattle.data_move.specs.DataChaining.{chains_data, with_bytes_moved}
use Rattle.data_move.specs.ToDevice.{with_chunk_counted, chunk_absorbed}
use Rattle.data_move.specs.FromDevice.{fitting_bytes}
use Rattle.data_move.specs.ChunkNumbers.{is_answered}
use Rattle.subchannel_model.specs.declared.state.ActiveProgram.{ActiveProgram}
use Rattle.subchannel_model.specs.declared.state.Program.{Program}
use Rattle.subchannel_model.specs.declared.state.ProgramPosition.{ProgramPosition}
use Rattle.subchannel_model.specs.declared.state.SubchannelState.{SubchannelState}
use Rattle.subchannel_model.specs.Ends.{has_status_modifier, chains_command}
use Rattle.subchannel_model.specs.Accept.{takes_device}
use Rattle.run_laws.proofs.Traces.MachineActs as doing
use Rattle.run_laws.specs.Traces.{CommandTrace, no_trace, ProgramTrace, past_part}
use Rattle.run_laws.proofs.Traces.MachineActs.{with_acts, with_places, with_copy, located_acts, chunk_of, chained_acts, trace_answered, gives, with_arrival, storing, takes_in, first_acts, next_acts}
use Rattle.run_laws.proofs.Traces.MachineTraces as stories
use Rattle.run_laws.proofs.Traces.MachineTraces.{trace_meets}
use Rattle.run_laws.specs.ProgramClaims.{part_of, IsCopied}
use Rattle.run_laws.proofs.Bytes.Accesses.{AreAccesses, copied-bytes}

abbrev pub AllCopied : CommandTrace → Type 0
AllCopied p = All IsCopied p.copied

-- of the command that was sent last, and of the one before
abbrev pub AreCopied : ProgramTrace → Type 0
AreCopied k = AllCopied k.now × AllCopied k.before

pub copied-part : (k : ProgramTrace) → AreCopied k → AllCopied (part_of k)
copied-part k c = by (count k.taken == k.sent)
  where
    by : (b : Bool) → AllCopied (if b then k.now else k.before)
    by true = c.0
    by false = c.1

moved-if : (storage : Contents) (t : Transfer) (n : ℕ) (p : CommandTrace) (b : Bool) → AllCopied p →
    AllCopied (if b then with_acts (with_places p t.moving n) (chained_acts storage (with_bytes_moved t n)) else with_places p t.moving n)
moved-if storage t n p true c = c
moved-if storage t n p false c = c

moved-copied : (storage : Contents) (t : Transfer) (n : ℕ) (p : CommandTrace) → AllCopied p → AllCopied (doing.trace_moved_on storage t n p)
moved-copied storage t n p c = moved-if storage t n p (chains_data (with_bytes_moved t n) n) c

answer-if : (storage : Contents) (t : Transfer) (s count : ℕ) (p : CommandTrace) (b : Bool) → AllCopied p →
    AllCopied (if b then doing.trace_moved_on storage (with_chunk_counted t s count) (min count (room t.moving)) p else p)
answer-if storage t s count p true c = moved-copied storage (with_chunk_counted t s count) (min count (room t.moving)) p c
answer-if storage t s count p false c = c

arrival-copied : (storage : Contents) (t : Transfer) (bytes : List ℕ) (r : Result Contents Check) (p : CommandTrace) → AllCopied p → AllCopied (with_arrival storage t bytes r p)
arrival-copied storage t bytes (Ok after) p c =
    moved-copied after t (length bytes) (record p { arrived = p.arrived ++ record { former = storage.bytes; chunk = chunk_of after t.moving bytes } ∷ [] }) c
arrival-copied storage t bytes (Err check) p c = c

store-if : (storage : Contents) (t : Transfer) (bytes : List ℕ) (r : Result Contents Check) (p : CommandTrace) (b : Bool) → AllCopied p →
    AllCopied (if b then p else with_arrival storage t bytes r p)
store-if storage t bytes r p true c = c
store-if storage t bytes r p false c = arrival-copied storage t bytes r p c

arrive-if : (storage : Contents) (t : Transfer) (s : ℕ) (bytes : List ℕ) (p : CommandTrace) (b : Bool) → AllCopied p →
    AllCopied (if b then storing storage (record t { sequence = s }) (fitting_bytes t bytes) p else p)
arrive-if storage t s bytes p true c =
    store-if storage (record t { sequence = s }) (fitting_bytes t bytes) (access.stored_or_skipped storage t.walk.orb.key t.moving (fitting_bytes t bytes)) p (is_some t.fault) c
arrive-if storage t s bytes p false c = c

takes_in-copied : (storage : Contents) (t : Transfer) (s : ℕ) (bytes : List ℕ) (p : CommandTrace) → AllCopied p → AllCopied (takes_in storage t s bytes p)
takes_in-copied storage t s bytes p c = arrive-if storage t s bytes p (s == t.sequence + 1) c

module _ (accesses : AreAccesses) where
  copy-by : (storage : Contents) (t : Transfer) (r : Result (List ℕ) Check) (p : CommandTrace) → access.copied storage t.walk.orb.key t.moving ≡ r → AllCopied p →
      AllCopied (with_copy storage t r p)
  copy-by storage t (Ok bytes) p e c =
      All-push IsCopied p.copied (chunk_of storage t.moving bytes) c (copied-bytes accesses storage t.walk.orb.key t.moving bytes e)
  copy-by storage t (Err check) p e c = c

  copy-if : (storage : Contents) (t : Transfer) (p : CommandTrace) (b : Bool) → AllCopied p →
      AllCopied (if b then p else with_copy storage t (access.copied storage t.walk.orb.key t.moving) p)
  copy-if storage t p true c = c
  copy-if storage t p false c = copy-by storage t (access.copied storage t.walk.orb.key t.moving) p refl c

  gives-copied : (storage : Contents) (t : Transfer) (s count : ℕ) (p : CommandTrace) → AllCopied p → AllCopied (gives storage t s count p)
  gives-copied storage t s count p c =
      let a : Transfer = chunk_absorbed storage t s count in
      let u : Transfer = located_transfer storage a in
      copy-if storage u (with_acts (trace_answered storage t s count p) (located_acts storage a)) (has_stopped u) (answer-if storage t s count p (s == t.sequence + 1) c)

  -- the trace
  goes-copied : (storage : Contents) (c : CommandStart) (acts : Sequence Act) (k : ProgramTrace) → AreCopied k → AreCopied (stories.trace_goes_on storage c acts k)
  goes-copied storage (outcome.Begins t) acts k c = (All-nil IsCopied, c.0)
  goes-copied storage outcome.Suspends acts k c = c
  goes-copied storage (outcome.Stops check) acts k c = c

  begins-copied : (storage : Contents) (walk : WalkPosition) (k : ProgramTrace) → AreCopied k → AreCopied (stories.trace_begins storage walk k)
  begins-copied storage walk k c = goes-copied storage (first_command storage walk).outcome (first_acts storage walk) k c

  again-if : (storage : Contents) (st : ProgramPosition) (k : ProgramTrace) (b : Bool) → AreCopied k → AreCopied (if b then stories.begins_again storage st k else k)
  again-if storage st k true c = begins-copied storage st.walk (record k { earlier = count (commands k.orb k.now.acts); now = past_part k.now }) (All-nil IsCopied, c.1)
  again-if storage st k false c = c

  again-copied : (storage : Contents) (suspended : Option ProgramPosition) (start : ℕ) (k : ProgramTrace) → AreCopied k → AreCopied (stories.again_as storage suspended start k)
  again-copied storage None start k c = c
  again-copied storage (Some st) start k c = again-if storage st k (st.program.start == start) c

  anew-if : (storage : Contents) (program : Program) (suspended : Option ProgramPosition) (start : ℕ) (k : ProgramTrace) (b : Bool) → AreCopied k →
      AreCopied (if b then stories.begins_anew storage program k else stories.again_as storage suspended start k)
  anew-if storage program suspended start k true c =
      begins-copied storage (walk_position program.orb Nothing) (record k { orb = program.orb; earlier = 0; now = no_trace }) (All-nil IsCopied, c.1)
  anew-if storage program suspended start k false c = again-copied storage suspended start k c

  begins_as-copied : (storage : Contents) (waiting : Option Program) (suspended : Option ProgramPosition) (start : ℕ) (k : ProgramTrace) → AreCopied k →
      AreCopied (stories.begins_as storage waiting suspended start k)
  begins_as-copied storage None suspended start k c = again-copied storage suspended start k c
  begins_as-copied storage (Some program) suspended start k c = anew-if storage program suspended start k (program.start == start) c

  accepted-copied : (storage : Contents) (phase : HoldPhase) (s : SubchannelState) (k : ProgramTrace) → AreCopied k → AreCopied (stories.accepted_at storage phase s k)
  accepted-copied storage (hold.On t p d) s k c = begins_as-copied storage s.waiting s.suspended s.offered k c
  accepted-copied storage other s k c = c

  accept-if : (storage : Contents) (s : SubchannelState) (step : Option HoldStep) (k : ProgramTrace) (b : Bool) → AreCopied k →
      AreCopied (if b then stories.accepted_at storage (hold_after s.hold step).phase s k else k)
  accept-if storage s step k true c = accepted-copied storage (hold_after s.hold step).phase s k c
  accept-if storage s step k false c = c

  move-if : (storage : Contents) (t : Transfer) (seq : ℕ) (load : Load) (k : ProgramTrace) (b : Bool) → AreCopied k →
      AreCopied (if b then record k { now = gives storage t seq (load_length load) k.now } else record k { now = takes_in storage t seq (load_bytes load) k.now })
  move-if storage t seq load k true c = (gives-copied storage t seq (load_length load) k.now c.0, c.1)
  move-if storage t seq load k false c = (takes_in-copied storage t seq (load_bytes load) k.now c.0, c.1)

  answers-if : (storage : Contents) (t : Transfer) (seq : ℕ) (load : Load) (k : ProgramTrace) (b : Bool) → AreCopied k → AreCopied (if b then stories.moves storage t seq load k else k)
  answers-if storage t seq load k true c = move-if storage t seq load k (is_outward t.code) c
  answers-if storage t seq load k false c = c

  answers-copied : (storage : Contents) (b : Option ActiveProgram) (n seq : ℕ) (load : Load) (k : ProgramTrace) → AreCopied k → AreCopied (stories.answers storage b n seq load k)
  answers-copied storage None n seq load k c = c
  answers-copied storage (Some b) n seq load k c = answers-if storage b.transfer seq load k (is_answered b.transfer n seq) c

  data-if : (storage : Contents) (s : SubchannelState) (n seq : ℕ) (load : Load) (k : ProgramTrace) (b : Bool) → AreCopied k →
      AreCopied (if b then stories.answers storage s.begun n seq load k else k)
  data-if storage s n seq load k true c = answers-copied storage s.begun n seq load k c
  data-if storage s n seq load k false c = c

  chains-if : (storage : Contents) (b : ActiveProgram) (status : DeviceStatus) (k : ProgramTrace) (x y : Bool) → AreCopied k →
      AreCopied (if x then (if y then stories.trace_goes_on storage (next_command storage b.transfer (has_status_modifier status)).outcome (next_acts storage b.transfer (has_status_modifier status)) k else stories.with_ended k)
      else stories.ends_alone status k)
  chains-if storage b status k true true c = goes-copied storage (next_command storage b.transfer (has_status_modifier status)).outcome (next_acts storage b.transfer (has_status_modifier status)) k c
  chains-if storage b status k true false c = c
  chains-if storage b status k false y c = c

  end-if : (storage : Contents) (s : SubchannelState) (b : ActiveProgram) (status : DeviceStatus) (more : Bool) (k : ProgramTrace) (x : Bool) → AreCopied k →
      AreCopied (if x then stories.chains storage s b status more k else k)
  end-if storage s b status more k true c = chains-if storage b status k (chains_command s.scsw b status more) (has_device_end status) c
  end-if storage s b status more k false c = c

  ends-copied : (storage : Contents) (s : SubchannelState) (b : Option ActiveProgram) (n : ℕ) (status : DeviceStatus) (more : Bool) (k : ProgramTrace) → AreCopied k →
      AreCopied (stories.trace_ends storage s b n status more k)
  ends-copied storage s None n status more k c = c
  ends-copied storage s (Some b) n status more k c = end-if storage s b status more k (n == b.transfer.command) c

  on-if : (storage : Contents) (s : SubchannelState) (n : ℕ) (status : DeviceStatus) (more : Bool) (k : ProgramTrace) (x : Bool) → AreCopied k →
      AreCopied (if x then stories.trace_ends storage s s.begun n status more k else k)
  on-if storage s n status more k true c = ends-copied storage s s.begun n status more k c
  on-if storage s n status more k false c = c

  pub meets-copied : (storage : Contents) (s : SubchannelState) (p : ℕ) (signal : Up) (k : ProgramTrace) → AreCopied k → AreCopied (trace_meets storage s p signal k)
  meets-copied storage s p (up.Accept t) k c =
      let step : Option HoldStep = hold_takes s.hold p (up.Accept t) (takes_device s) in
      accept-if storage s step k (outcome_of step).taken c
  meets-copied storage s p (up.Data load t d n seq) k c = data-if storage s n seq load k (is_connected s.hold.phase p t d) c
  meets-copied storage s p (up.End t n status more) k c = on-if storage s n status more k (is_on s.hold.phase t) c
  meets-copied storage s p x k c = c
