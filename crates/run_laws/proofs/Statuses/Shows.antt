-- Status that a Data or an End makes shows the address of the program, and the count of the command less the bytes that were moved,
-- but that the last End of a program while a start waits leaves those of that start.
use Rattle.std.proofs.Common.{◌≡◌, refl, sym, ◌∙◌, ap, subst, arith, ℕ, ◌+◌, ◌<◌, Bool, true, false, Option, Some, None}
use Rattle.std.specs.Prelude.{if◌then◌else◌, ◌||◌, not, is_none, is_some}
use Rattle.scsw_irb.specs.declared.scsw.Scsw.{Scsw}
use Rattle.scsw_irb.specs.declared.serials.Serials.{Serials}
use Rattle.scsw_irb.specs.declared.status.DeviceStatus.{DeviceStatus}
use Rattle.scsw_irb.specs.Empty.{no_status}
use Rattle.storage_keys.specs.Storage.{Contents}
use Rattle.chan_model.specs.Signals.{Load, load_bytes}
use Rattle.chan_model.specs.Loads.{load_length}
use Rattle.chan_model.specs.UnitReports.{is_outward, is_last_end}
use Rattle.ccw_walk.specs.declared.check.Check.{Check}
use Rattle.ccw_walk.specs.Sequences.{Sequence, ◌▸◌, ◌▸▸◌}
use Rattle.ccw_walk.specs.Acts.{Act, End}
use Rattle.ccw_walk.specs.Positions.{WalkPosition, walk_position}
use Rattle.data_move.specs.Moving.{residual}
use Rattle.data_move.specs.declared.transfer.Beginning.{Beginning}
use Rattle.data_move.specs.declared.transfer.CommandStart.{CommandStart}
use Rattle.data_move.specs.declared.transfer.CommandStart.TheVariants as outcome
use Rattle.data_move.specs.Commands.{next_command, begun_with_room, with_room}
use Rattle.data_move.specs.FromDevice.{chunk_stored}
use Rattle.data_move.specs.ChunkNumbers.{is_answered}
use Rattle.data_move.specs.ToDevice.{next_chunk, chunk_absorbed}
use Rattle.subchannel_model.specs.declared.signals.DataSignal.{DataSignal}
use Rattle.subchannel_model.specs.declared.signals.EndSignal.{EndSignal}
use Rattle.subchannel_model.specs.declared.state.ActiveProgram.{ActiveProgram}
use Rattle.subchannel_model.specs.declared.state.Program.{Program}
use Rattle.subchannel_model.specs.declared.state.SubchannelState.{SubchannelState}
use Rattle.subchannel_model.specs.declared.status.StatusRow.{StatusRow}
use Rattle.subchannel_model.specs.declared.cause.StatusCause.TheVariants as cause
use Rattle.subchannel_model.specs.Status.{no_device_status, no_subchannel_status, with_joined, scsw_made, serials_made}
use Rattle.subchannel_model.specs.Ends.{has_status_modifier, chains_command, last_shown, end_shown, channel_end_shown}
use Rattle.subchannel_model.specs.Causes.{without_begun, fetch_fault_shown, pci_shown, suspension_shown, with_cause, scsw_joined, with_row}
use Rattle.subchannel_model.specs.End.{chains_with, with_first_end}
use Rattle.subchannel_model.specs.End as on_end
use Rattle.subchannel_model.specs.Suspension.{with_suspended_program, suspended_alone}
use Rattle.subchannel_model.specs.Outcomes.{device_released}
use Rattle.subchannel_model.specs.Outcomes as outcomes
use Rattle.subchannel_model.specs.Data as on_data
use Rattle.subchannel_model.specs.Command as command_spec
use Rattle.subchannel_model.specs.Pci.{without_pci}
use Rattle.run_laws.proofs.Traces.MachineActs.{with_acts, next_acts}
use Rattle.run_laws.specs.DataAreas.{data_areas, counts}
use Rattle.run_laws.specs.Shows.{IsShownBy, IsRest, IsRestAt}
use Rattle.run_laws.proofs.Traces.MachineTraces as stories
use Rattle.run_laws.specs.Traces.{ProgramTrace}
use Rattle.run_laws.proofs.Bytes.Accesses.{AreAccesses}
use Rattle.run_laws.proofs.Traces.Ties.{AreLaws, spot-counts}
use Rattle.run_laws.proofs.Traces.Parts.{WentOn}
use Rattle.run_laws.proofs.Traces.Holds.{HasWork, IsHeld}
use Rattle.run_laws.proofs.Traces.HoldMeets.{chains-facts, ending, next-went, end-left}

-- a status shows its address and its count
abbrev pub HasPosition : Scsw → ℕ → ℕ → Type 0
HasPosition scsw address count = (scsw.command_address ≡ address) × (scsw.count ≡ count)

joined-count : (b : Bool) (scsw : Scsw) (shown : StatusRow) →
    HasPosition
    (if b then with_joined scsw scsw.status scsw.device_status scsw.subchannel_status shown
    else with_joined scsw no_status no_device_status no_subchannel_status shown)
    shown.command_address shown.count
joined-count true scsw shown = (refl, refl)
joined-count false scsw shown = (refl, refl)

pub status-count : (enabled : Bool) (scsw : Scsw) (x : Serials) (shown : StatusRow) → x.made < (serials_made enabled x).made →
    HasPosition (scsw_made enabled scsw shown) shown.command_address shown.count
status-count true scsw x shown l = joined-count scsw.status.pending scsw shown
status-count false scsw x shown l = absurd (omega (arith, l))

-- where a status was made, its address is that of the program, and its count is the rest
abbrev pub ShowsRestOf : ℕ → SubchannelState → ProgramTrace → Type 0
ShowsRestOf made s k = made < s.serials.made → IsRestAt s.scsw.command_address s.scsw.count k

pub unmade : (made : ℕ) (s : SubchannelState) (k : ProgramTrace) → s.serials.made ≡ made → ShowsRestOf made s k
unmade made s k e = λ l. absurd (omega (arith, e, l))

pub counted : (scsw : Scsw) (address count : ℕ) (k : ProgramTrace) → HasPosition scsw address count → IsRestAt address count k → IsRestAt scsw.command_address scsw.count k
counted scsw address count k e r = (e.0 ∙ r.0, subst (λ (x : ℕ). IsRest x k) (sym e.1) r.1)

-- of a command at work
pub rest-of : (b : ActiveProgram) (k : ProgramTrace) → HasWork (Some b) k → IsRestAt b.transfer.walk.tried (residual b.transfer.moving) k
rest-of b k w =
    (ap (λ (x : WalkPosition). x.tried) w.0.tied.walk, spot-counts k.orb (data_areas k.orb k.now.acts) b.transfer k.now.moved w.0.tied.spot)

-- an interruption by the program
pub interrupted-shows : (s : SubchannelState) (b : ActiveProgram) (k : ProgramTrace) (x : Bool) →
    let after : SubchannelState = if x then with_cause (record s { begun = Some (without_pci b) }) (cause.Pci b.transfer.walk.tried (residual b.transfer.moving)) else s in
    IsHeld after k → ShowsRestOf s.serials.made after k
interrupted-shows s b k true h =
    λ l. counted (with_cause (record s { begun = Some (without_pci b) }) (cause.Pci b.transfer.walk.tried (residual b.transfer.moving))).scsw
    b.transfer.walk.tried (residual b.transfer.moving) k
    (status-count s.pmcw.enabled (scsw_joined s.pmcw.enabled s.scsw s.scsw) s.serials
    (pci_shown (record s { begun = Some (without_pci b) }) b.transfer.walk.tried (residual b.transfer.moving)) l)
    (rest-of (without_pci b) k h.work)
interrupted-shows s b k false h = unmade s.serials.made s k refl

-- Data
move-shows : (storage : Contents) (s : SubchannelState) (b : ActiveProgram) (signal : DataSignal) (load : Load) (k : ProgramTrace) (x : Bool) →
    let after : SubchannelState = (if x then outcomes.with_storage storage (on_data.gives_next_chunk storage s b signal (load_length load))
    else on_data.tells_room_after s b signal (chunk_stored storage b.transfer signal.sequence (load_bytes load))).step.state in
    IsHeld after k → ShowsRestOf s.serials.made after k
move-shows storage s b signal load k true h =
    let t = (next_chunk storage (chunk_absorbed storage b.transfer signal.sequence (load_length load))).transfer in
    interrupted-shows (command_spec.with_transfer s b t) (record b { transfer = t }) k t.pci_pending h
move-shows storage s b signal load k false h =
    let t = (with_room (chunk_stored storage b.transfer signal.sequence (load_bytes load)).storage (chunk_stored storage b.transfer signal.sequence (load_bytes load)).transfer).transfer in
    interrupted-shows (command_spec.with_transfer s b t) (record b { transfer = t }) k t.pci_pending h

answered-shows : (storage : Contents) (s : SubchannelState) (b : ActiveProgram) (signal : DataSignal) (load : Load) (k : ProgramTrace) (x : Bool) →
    let after : SubchannelState = (if x then on_data.moves_bytes storage s b signal load else outcomes.with_storage storage (outcomes.signal_ignored s)).step.state in
    IsHeld after k → ShowsRestOf s.serials.made after k
answered-shows storage s b signal load k true h = move-shows storage s b signal load k (is_outward b.transfer.code) h
answered-shows storage s b signal load k false h = unmade s.serials.made s k refl

begun-shows : (storage : Contents) (s : SubchannelState) (b : Option ActiveProgram) (signal : DataSignal) (load : Load) (k : ProgramTrace) →
    IsHeld (on_data.moves_data storage s b signal load).step.state k → ShowsRestOf s.serials.made (on_data.moves_data storage s b signal load).step.state k
begun-shows storage s None signal load k h = unmade s.serials.made s k refl
begun-shows storage s (Some b) signal load k h = answered-shows storage s b signal load k (is_answered b.transfer signal.command signal.sequence) h

pub data-shows : (storage : Contents) (s : SubchannelState) (signal : DataSignal) (load : Load) (k : ProgramTrace) (x : Bool) →
    let after : SubchannelState = (if x then on_data.moves_data storage s s.begun signal load else outcomes.with_storage storage (outcomes.signal_ignored s)).step.state in
    IsHeld after k → ShowsRestOf s.serials.made after k
data-shows storage s signal load k true h = begun-shows storage s s.begun signal load k h
data-shows storage s signal load k false h = unmade s.serials.made s k refl

-- a command can't begin: what is fetched for it takes no control
pub rest-stays : (k : ProgramTrace) (acts : Sequence Act) (before : Sequence Act) (walk : WalkPosition) (n : ℕ) → walk ≡ walk_position k.orb (k.now.acts ▸▸ acts) →
    data_areas k.orb (k.now.acts ▸▸ acts) ≡ data_areas k.orb before →
    data_areas k.orb before ≡ data_areas k.orb k.now.acts → IsRest n k → IsRestAt walk.tried n (record k { now = with_acts k.now acts })
rest-stays k acts before walk n w e f r = (ap (λ (x : WalkPosition). x.tried) w, ap counts (e ∙ f) ∙ r)

pub suspended-shows : (s : SubchannelState) (program : Program) (walk : WalkPosition) (count : ℕ) (k : ProgramTrace) (x : Bool) → IsRestAt walk.tried count k →
    ShowsRestOf s.serials.made (device_released (if x then record (with_suspended_program s program walk count) { scsw = suspended_alone s.scsw }
    else with_cause (with_suspended_program s program walk count) (cause.Suspension walk.tried count))).state k
suspended-shows s program walk count k true r = λ l. absurd (omega (arith, l))
suspended-shows s program walk count k false r =
    λ l. counted (with_cause (with_suspended_program s program walk count) (cause.Suspension walk.tried count)).scsw walk.tried count k
    (status-count s.pmcw.enabled (scsw_joined s.pmcw.enabled s.scsw s.scsw) s.serials (suspension_shown walk.tried count) l) r

pub fault-shows : (s : SubchannelState) (b : Option ActiveProgram) (tried : ℕ) (check : Check) (count : ℕ) (k : ProgramTrace) → IsRestAt tried count k →
    ShowsRestOf s.serials.made
    (device_released (with_row s (record { shown = fetch_fault_shown tried check count; left = without_begun b s }) s.scsw)).state k
fault-shows s None tried check count k r =
    λ l. counted (with_row s (record { shown = fetch_fault_shown tried check count; left = without_begun None s }) s.scsw).scsw tried count k (status-count s.pmcw.enabled (scsw_joined s.pmcw.enabled s.scsw s.scsw) s.serials (fetch_fault_shown tried check count) l) r
fault-shows s (Some b) tried check count k r =
    λ l. counted (with_row s (record { shown = fetch_fault_shown tried check count; left = without_begun (Some b) s }) s.scsw).scsw tried count k (status-count s.pmcw.enabled (scsw_joined s.pmcw.enabled s.scsw s.scsw) s.serials (fetch_fault_shown tried check count) l) r

-- an End after which nothing is chained
last-count : (s next : SubchannelState) (b : ActiveProgram) (k : ProgramTrace) (status : DeviceStatus) (more last : Bool) (w : Option Program) →
    (let shown : StatusRow = if last then last_shown s.scsw b w status more else channel_end_shown s.scsw b status more in
    s.serials.made < next.serials.made → HasPosition next.scsw shown.command_address shown.count) →
    IsRestAt b.transfer.walk.tried (residual b.transfer.moving) k → IsShownBy (is_none w || not last) s next k
last-count s next b k status more true None f r = λ l. counted next.scsw b.transfer.walk.tried (residual b.transfer.moving) k (f l) r
last-count s next b k status more true (Some program) f r = f
last-count s next b k status more false None f r = λ l. counted next.scsw b.transfer.walk.tried (residual b.transfer.moving) k (f l) r
last-count s next b k status more false (Some program) f r = λ l. counted next.scsw b.transfer.walk.tried (residual b.transfer.moving) k (f l) r

module _ (laws : AreLaws) (accesses : AreAccesses) where
  stops-count : (s : SubchannelState) (b : ActiveProgram) (signal : EndSignal) (shown : StatusRow) (last : Bool) →
      let after : SubchannelState = (if last then device_released (end-left laws accesses s b signal shown last) else outcomes.signal_taken (end-left laws accesses s b signal shown last)).state in
      s.serials.made < after.serials.made → HasPosition after.scsw shown.command_address shown.count
  stops-count s b signal shown true l = status-count s.pmcw.enabled (scsw_joined s.pmcw.enabled s.scsw s.scsw) s.serials shown l
  stops-count s b signal shown false l = status-count s.pmcw.enabled (scsw_joined s.pmcw.enabled s.scsw s.scsw) s.serials shown l

  pub stops-shows : (s : SubchannelState) (b : ActiveProgram) (k : ProgramTrace) (signal : EndSignal) → HasWork (Some b) k →
      IsShownBy (is_none s.waiting || not (is_last_end signal.status)) s (on_end.concludes s b signal).state (stories.ends_alone signal.status k)
  stops-shows s b k signal w =
      last-count s (on_end.concludes s b signal).state b (stories.ends_alone signal.status k) signal.status signal.more (is_last_end signal.status) s.waiting
      (stops-count s b signal (end_shown s b signal.status signal.more) (is_last_end signal.status)) (rest-of b k w)

  chains-shows : (storage : Contents) (s : SubchannelState) (b : ActiveProgram) (k : ProgramTrace) (signal : EndSignal) (walk : WalkPosition) (c : CommandStart) (acts before : Sequence Act) (n : ℕ) →
      WentOn k.earlier laws storage k.orb before (k.now.acts ▸▸ acts) n walk c → data_areas k.orb before ≡ data_areas k.orb k.now.acts →
      IsRest (residual b.transfer.moving) k → IsHeld (on_end.next_ccw_outcome storage s (with_first_end b) signal walk c).state (stories.trace_goes_on storage c acts k) →
      ShowsRestOf s.serials.made (on_end.next_ccw_outcome storage s (with_first_end b) signal walk c).state (stories.trace_goes_on storage c acts k)
  chains-shows storage s b k signal walk (outcome.Begins transfer) acts before n w e r h =
      let t = (begun_with_room storage transfer).transfer in
      interrupted-shows (command_spec.with_transfer s (with_first_end b) t) (record (with_first_end b) { transfer = t }) (stories.trace_goes_on storage (outcome.Begins transfer) acts k) t.pci_pending h
  chains-shows storage s b k signal walk outcome.Suspends acts before n w e r h =
      suspended-shows (on_end.with_allegiance_after_end s signal) b.program walk (residual b.transfer.moving) (record k { now = with_acts k.now acts }) b.program.orb.suppress_suspended
      (rest-stays k acts before walk (residual b.transfer.moving) w.4 w.1 e r)
  chains-shows storage s b k signal walk (outcome.Stops check) acts before n w e r h =
      fault-shows (on_end.with_allegiance_after_end s signal) s.begun walk.tried check (residual b.transfer.moving) (record k { now = with_acts k.now acts })
      (rest-stays k acts before walk (residual b.transfer.moving) w.5 w.1 e r)

  pub next-shows : (storage : Contents) (s : SubchannelState) (b : ActiveProgram) (k : ProgramTrace) (signal : EndSignal) → chains_command s.scsw b signal.status signal.more ≡ true →
      HasWork (Some b) k →
      let next : Beginning = next_command storage b.transfer (has_status_modifier signal.status) in
      let after : SubchannelState = (chains_with storage s (with_first_end b) signal next).state in
      let now : ProgramTrace = stories.trace_goes_on storage next.outcome (next_acts storage b.transfer (has_status_modifier signal.status)) k in
      IsHeld after now → ShowsRestOf s.serials.made after now
  next-shows storage s b k signal c w h =
      let f : (_ : b.transfer.moving.ccw.chain_data ≡ false) × (is_some b.transfer.fault ≡ false) = chains-facts laws accesses s.scsw b signal.status signal.more c in
      let modifier : Bool = has_status_modifier signal.status in
      let next : Beginning = next_command storage b.transfer modifier in
      chains-shows storage s b k signal next.walk next.outcome (next_acts storage b.transfer modifier) (k.now.acts ▸ End (ending laws accesses modifier)) (b.transfer.command + 1)
      (next-went laws accesses k.earlier storage k.orb k.now b.transfer modifier w.0.tied f.0 f.1) refl (rest-of b k w).1 h
