-- What a subchannel does with a signal that came up: which effect it has on the status, by signal and answer.
use Rattle.std.proofs.Common.{arith, ◌≡◌, refl, sym, ◌∙◌, ap, subst, ℕ, ◌==◌, ◌&&◌, not, nat_lt, Bool, true, false, Option, None, Some, inl, inr}
use Rattle.std.specs.Prelude.{if◌then◌else◌, is_some}
use Rattle.std.proofs.lemmas.Bool.{and_parts}
use Rattle.chan_model.specs.declared.hold_state.HoldPhase.{HoldPhase}
use Rattle.chan_model.specs.declared.hold_state.HoldPhase.TheVariants as hold
use Rattle.chan_model.specs.declared.hold_state.HoldState.{HoldState}
use Rattle.chan_model.specs.Signals.{Down, Load, Up, load_bytes}
use Rattle.chan_model.specs.declared.signal.OnPath.{OnPath}
use Rattle.chan_model.specs.declared.signal.Up.TheVariants as up
use Rattle.chan_model.specs.HoldTable.{HoldStep, hold_takes, hold_after, outcome_of, program_begun, is_connected, is_on}
use Rattle.chan_model.specs.Loads.{load_length}
use Rattle.chan_model.specs.UnitReports.{is_last_end, is_outward, has_device_end}
use Rattle.ccw_walk.specs.Positions.{WalkPosition}
use Rattle.data_move.specs.Moving.{residual}
use Rattle.scsw_irb.specs.declared.status.DeviceStatus.{DeviceStatus}
use Rattle.storage_keys.specs.Storage.{Contents}
use Rattle.data_move.specs.declared.transfer.CommandStart.{CommandStart}
use Rattle.data_move.specs.declared.transfer.CommandStart.TheVariants as outcome
use Rattle.data_move.specs.declared.transfer.Transfer.{Transfer}
use Rattle.data_move.specs.Commands.{first_command, next_command, begun_with_room, with_room}
use Rattle.data_move.specs.ToDevice.{chunk_absorbed, next_chunk}
use Rattle.data_move.specs.FromDevice.{chunk_stored}
use Rattle.data_move.specs.ChunkNumbers.{is_answered}
use Rattle.subchannel_model.specs.declared.cause.StatusCause.TheVariants as cause
use Rattle.subchannel_model.specs.declared.signals.DataSignal.{DataSignal}
use Rattle.subchannel_model.specs.declared.signals.EndSignal.{EndSignal}
use Rattle.subchannel_model.specs.declared.state.ActiveProgram.{ActiveProgram}
use Rattle.subchannel_model.specs.declared.state.Program.{Program}
use Rattle.subchannel_model.specs.declared.state.ProgramPosition.{ProgramPosition}
use Rattle.subchannel_model.specs.declared.state.SubchannelState.{SubchannelState}
use Rattle.subchannel_model.specs.declared.state.UpStep.{UpStep}
use Rattle.subchannel_model.specs.Causes.{with_cause}
use Rattle.subchannel_model.specs.Ends.{has_status_modifier, breaks_chain, chains_command}
use Rattle.subchannel_model.specs.Losing.{is_offered_or_held, reset_drawn, reset_with, reset_for}
use Rattle.subchannel_model.specs.Programs.{has_any}
use Rattle.subchannel_model.specs.Taking.{takes_up}
use Rattle.subchannel_model.specs.Suspension.{suspended_alone, with_suspended_program}
use Rattle.subchannel_model.specs.End.{with_end_status, with_first_end, with_allegiance_after_end, next_ccw_outcome, chains_at_device_end, concludes, ends_command, ends_at_work}
use Rattle.subchannel_model.specs.Outcomes.{SignalOutcome, with_storage, signal_ignored, signal_taken, device_released}
use Rattle.subchannel_model.specs.Pci.{without_pci}
use Rattle.subchannel_model.specs.Accept.{offered_position, position_of_start, takes_device, with_path_used, with_program_at_work, first_ccw_outcome, begins_at, takes_accept}
use Rattle.subchannel_model.specs.Command.{with_transfer}
use Rattle.subchannel_model.specs.Data.{after_chunk, gives_chunk, tells_room_after, moves_bytes, moves_data}
use Rattle.subchannel_model.specs.Cleared.{takes_cleared}
use Rattle.subchannel_model.specs.Back.{takes_back}
use Rattle.subchannel_model.specs.Attention.{takes_attention, may_take_attention, is_idle_or_start_pending}
use Rattle.run_laws.specs.BeginsItsOwn.{is_release}
use Rattle.run_laws.proofs.Shown.Effects.{Seen, seen, IsStanding, IsGoing, Effect, Nothing, Takes, TakesAsking, Moves, MovesAsking, Suspends, SuspendsShowing, causes}
use Rattle.run_laws.proofs.Shown.Holding.{Held, not-held}
use Rattle.run_laws.proofs.Shown.Unchained.{giving-same, taking-same}

abbrev pub IsReleased : Option (OnPath Down) → Type 0
IsReleased None = ⊥
IsReleased (Some sent) = is_release sent.signal ≡ true

-- how many statuses are made, by the signal and its answer; suspended: the program is suspended then
abbrev pub Due : Seen → Up → Option (OnPath Down) → ℕ → Bool → Type 0
Due k (up.Accept t) sent n suspended = IsReleased sent → k.scsw.activity.halt_pending ≡ true → n ≡ 1
Due k (up.Data load t c m s) sent n suspended = Unit {0}
Due k (up.End t m status more) sent n suspended = IsReleased sent → suspended ≡ false → n ≡ 1
Due k (up.Cleared r) sent n suspended = n ≡ (if k.scsw.activity.clear_pending then 1 else 0)
Due k (up.Notice b) sent n suspended = n ≡ 1 → has_any k.waiting k.begun k.suspended ≡ true
Due k (up.Attn a status) sent n suspended =
    ((not k.scsw.status.pending && is_idle_or_start_pending k.scsw.activity) ≡ true) × (n ≡ (if status.0 == 0x20 then 0 else 1))
Due k signal sent n suspended = n ≡ 0

pub data Comes (H : Type 0) (k : Seen) (x : Up) (step : UpStep) : Type 0 where
  Ignored : step.outcome.taken ≡ false → seen step.state ≡ k → Comes H k x step
  Taken : (n : ℕ) → step.outcome.taken ≡ true → Effect H k n (seen step.state) → Due k x step.outcome.sent n step.state.scsw.activity.suspended → Comes H k x step

if-comes : (H : Type 0) (k : Seen) (x : Up) (b : Bool) (a c : UpStep) → Comes H k x a → Comes H k x c → Comes H k x (if b then a else c)
if-comes H k x true a c e f = e
if-comes H k x false a c e f = f

if-chains : (H : Type 0) (k : Seen) (x : Up) (b : Bool) (a c : UpStep) → (b ≡ true → Comes H k x a) → Comes H k x c → Comes H k x (if b then a else c)
if-chains H k x true a c e f = e refl
if-chains H k x false a c e f = f

-- a program whose commands are chained goes on
not-true : (b : Bool) → not b ≡ true → b ≡ false
not-true true e = absurd (cc e)
not-true false e = refl

pub chains-free : (s : SubchannelState) (b : ActiveProgram) (signal : EndSignal) → chains_command s.scsw b signal.status signal.more ≡ true → b.transfer.unchained ≡ false
chains-free s b signal e =
    let breaks : Bool = breaks_chain s.scsw b signal.status signal.more in
    let first = and_parts b.transfer.moving.ccw.chain_command (not b.transfer.moving.ccw.chain_data && (not b.transfer.unchained && not breaks)) e in
    let second = and_parts (not b.transfer.moving.ccw.chain_data) (not b.transfer.unchained && not breaks) first.1 in
    not-true b.transfer.unchained (and_parts (not b.transfer.unchained) (not breaks) second.1).0

if-met : (H : Type 0) (k : Seen) (x : Up) (b : Bool) (a c : SignalOutcome) → Comes H k x a.step → Comes H k x c.step → Comes H k x (if b then a else c).step
if-met H k x true a c e f = e
if-met H k x false a c e f = f

-- the same, where the signal makes no more than one status and nothing more is asked of how many
data Goes (H : Type 0) (k : Seen) (y : SubchannelState) : Type 0 where
  Went : (n : ℕ) → Effect H k n (seen y) → Goes H k y

-- an intermediate status may be asked for
takes-goes : (H : Type 0) (s : SubchannelState) (program : Program) (transfer : Transfer) (asks : Bool) (tried count : ℕ) → IsStanding (seen s) → (H → s.begun ≡ None) →
    Goes H (seen s)
    (if asks then with_cause (record (with_program_at_work s program transfer) { begun = Some (without_pci (record { program = program; primary_shown = false; transfer = transfer })) }) (cause.Pci tried count)
    else with_program_at_work s program transfer)
takes-goes H s program transfer true tried count stands none = Went 1 (TakesAsking program (record transfer { pci_pending = false }) tried count stands none)
takes-goes H s program transfer false tried count stands none = Went 0 (Takes program transfer stands none)

moves-goes : (H : Type 0) (s : SubchannelState) (b : ActiveProgram) (transfer : Transfer) (asks : Bool) (tried count : ℕ) → s.begun ≡ Some b → (transfer.unchained ≡ false → b.transfer.unchained ≡ false) →
    Goes H (seen s)
    (if asks then with_cause (record (with_transfer s b transfer) { begun = Some (without_pci (record b { transfer = transfer })) }) (cause.Pci tried count)
    else with_transfer s b transfer)
moves-goes H s b transfer true tried count e chains = Went 1 (MovesAsking b (record transfer { pci_pending = false }) tried count e chains)
moves-goes H s b transfer false tried count e chains = Went 0 (Moves b transfer e chains)

moving-goes : (H : Type 0) (s : SubchannelState) (b : ActiveProgram) (t : Transfer) → s.begun ≡ Some b → (t.unchained ≡ false → b.transfer.unchained ≡ false) → Goes H (seen s) (after_chunk s b t)
moving-goes H s b t e chains = moves-goes H s b t t.pci_pending t.walk.tried (residual t.moving) e chains

-- a program is suspended: it lets the device go
suspends-goes : (H : Type 0) (s : SubchannelState) (program : Program) (walk : WalkPosition) (count : ℕ) (quiet : Bool) → IsGoing H (seen s) →
    (n : ℕ)
    × Effect H (seen s) n (seen (if quiet then record (with_suspended_program s program walk count) { scsw = suspended_alone s.scsw }
    else with_cause (with_suspended_program s program walk count) (cause.Suspension walk.tried count)))
    × ((if quiet then record (with_suspended_program s program walk count) { scsw = suspended_alone s.scsw }
    else with_cause (with_suspended_program s program walk count) (cause.Suspension walk.tried count)).scsw.activity.suspended ≡ false → n ≡ 1)
suspends-goes H s program walk count true runs = (0, Suspends program walk count runs, λ e. absurd (cc e))
suspends-goes H s program walk count false runs = (1, SuspendsShowing program walk count runs, λ e. refl)

-- Accept
none-standing : (w : Option Program) (st : Option ProgramPosition) (start : ℕ) (x : ProgramPosition) → position_of_start w st start ≡ Some x → w ≡ None → st ≡ None → ⊥
none-standing None None start x e f g = cc e
none-standing None (Some st) start x e f g = cc g
none-standing (Some w) st start x e f g = cc f

module _ (storage : Contents) where
  -- the program takes the device: no halt is pending
  beginning-comes : (H : Type 0) (s : SubchannelState) (u p t : ℕ) (st : ProgramPosition) (walk : WalkPosition) (c : CommandStart) → IsStanding (seen s) → (H → s.begun ≡ None) →
      s.scsw.activity.halt_pending ≡ false → Comes H (seen s) (up.Accept u) (first_ccw_outcome storage s p t st walk c)
  beginning-comes H s u p t st walk (outcome.Begins transfer) stands none idle =
      let x = begun_with_room storage transfer in
      by (takes-goes H s st.program x.transfer x.transfer.pci_pending x.transfer.walk.tried (residual x.transfer.moving) stands none)
    where
      by : Goes H (seen s) (first_ccw_outcome storage s p t st walk (outcome.Begins transfer)).state → Comes H (seen s) (up.Accept u) (first_ccw_outcome storage s p t st walk (outcome.Begins transfer))
      by (Went n effect) = Taken n refl effect (λ r h. absurd (cc (sym h ∙ idle)))
  beginning-comes H s u p t st walk outcome.Suspends stands none idle =
      let g = suspends-goes H s st.program walk st.count st.program.orb.suppress_suspended (inl (stands, none)) in
      Taken g.0 refl g.1 (λ r h. absurd (cc (sym h ∙ idle)))
  beginning-comes H s u p t st walk (outcome.Stops check) stands none idle =
      Taken 1 refl (causes H s (cause.FetchFault walk.tried check st.count) (inl (stands, none))) (λ r h. absurd (cc (sym h ∙ idle)))

  begin-comes : (H : Type 0) (s : SubchannelState) (u p t : ℕ) (o : Option ProgramPosition) → is_some o ≡ true → offered_position s ≡ o → (H → s.begun ≡ None) → s.scsw.activity.halt_pending ≡ false →
      Comes H (seen s) (up.Accept u) (begins_at storage s p t o)
  begin-comes H s u p t None is e none idle = absurd (cc is)
  begin-comes H s u p t (Some st) is e none idle =
      let first = first_command storage st.walk in
      beginning-comes H s u p t st first.walk first.outcome (λ w x. none-standing s.waiting s.suspended s.offered st e w x) none idle

  -- a halt that is pending is performed
  halted-comes : (H : Type 0) (s x : SubchannelState) (u : ℕ) (sent : Option (OnPath Down)) (pending : Bool) → seen x ≡ seen s → s.scsw.activity.halt_pending ≡ pending →
      Comes H (seen s) (up.Accept u) (record { state = if pending then with_cause x cause.HaltDone else x; outcome = record { taken = true; sent = sent } })
  halted-comes H s x u sent true same e =
      Taken 1 refl (subst (λ (k : Seen). Effect H k 1 (seen (with_cause x cause.HaltDone))) same (causes H x cause.HaltDone tt)) (λ r h. refl)
  halted-comes H s x u sent false same e = Taken 0 refl (subst (λ (k : Seen). Effect H k 0 (seen x)) same Nothing) (λ r h. absurd (cc (sym h ∙ e)))

  abbrev with_hold : SubchannelState → HoldState → HoldPhase → SubchannelState
  with_hold s h phase = record s { hold = record h { phase = phase } }

  abbrev offer_begun : HoldState → ℕ → ℕ → Bool → Bool → Option HoldStep
  offer_begun h t q may same = if same then Some (program_begun (record h { phase = hold.Offer t q }) t q may) else None

  begun-comes : (H : Type 0) (s : SubchannelState) (h : HoldState) (t q u : ℕ) (may same : Bool) → (may ≡ true → (is_some (offered_position s) ≡ true) × (s.scsw.activity.halt_pending ≡ false)) →
      (H → s.begun ≡ None) → Comes H (seen s) (up.Accept u) (takes_accept storage (with_hold s h (hold.Offer t q)) (offer_begun h t q may same))
  begun-comes H s h t q u true true f none =
      let x = record s { hold = record h { phase = hold.On t q 0; seen = 0; first_path = Some q }; pmcw = with_path_used s.pmcw q } in
      begin-comes H x u q t (offered_position s) (f refl).0 refl none (f refl).1
  begun-comes H s h t q u false true f none =
      let x = record s { hold = record h { phase = hold.Letting t q; seen = 0; first_path = Some q }; pmcw = with_path_used s.pmcw q } in
      halted-comes H s x u _ s.scsw.activity.halt_pending refl refl
  begun-comes H s h t q u may false f none = Ignored refl refl

  accept-comes : (H : Type 0) (returns : Bool) (s : SubchannelState) (h : HoldState) (phase : HoldPhase) (p u : ℕ) → (H → Held (with_hold s h phase)) →
      Comes H (seen s) (up.Accept u) (takes_up returns storage (with_hold s h phase) p (up.Accept u)).step
  accept-comes H returns s h (hold.Offer t q) p u k =
      begun-comes H s h t q u (takes_device s) (u == t)
      (λ e. let both = and_parts (is_some (offered_position s)) (not s.scsw.activity.halt_pending) e in (both.0, not-true s.scsw.activity.halt_pending both.1))
      (λ x. not-held (with_hold s h (hold.Offer t q)) (k x) refl)
  accept-comes H returns s h other p u k = Ignored refl refl

  -- Data
  giving-comes : (H : Type 0) (s : SubchannelState) (x : Up) (b : ActiveProgram) (signal : DataSignal) (t : Transfer) (sent : Option (OnPath Down)) → s.begun ≡ Some b →
      (t.unchained ≡ false → b.transfer.unchained ≡ false) → ((n : ℕ) (y : Bool) → Due (seen s) x sent n y) → Comes H (seen s) x (record { state = after_chunk s b t; outcome = record { taken = true; sent = sent } })
  giving-comes H s x b signal t sent e chains due = by (moving-goes H s b t e chains)
    where
      by : Goes H (seen s) (after_chunk s b t) → Comes H (seen s) x (record { state = after_chunk s b t; outcome = record { taken = true; sent = sent } })
      by (Went n effect) = Taken n refl effect (due n _)

  move-comes : (H : Type 0) (s : SubchannelState) (u c m k : ℕ) (o : Option ActiveProgram) (signal : DataSignal) (load : Load) → s.begun ≡ o →
      Comes H (seen s) (up.Data load u c m k) (moves_data storage s o signal load).step
  move-comes H s u c m k None signal load e = Ignored refl refl
  move-comes H s u c m k (Some b) signal load e =
      if-met H (seen s) (up.Data load u c m k) (is_answered b.transfer signal.command signal.sequence) (moves_bytes storage s b signal load) (with_storage storage (signal_ignored s))
      (if-met H (seen s) (up.Data load u c m k) (is_outward b.transfer.code)
      (with_storage storage (gives_chunk s b signal (next_chunk storage (chunk_absorbed storage b.transfer signal.sequence (load_length load)))))
      (tells_room_after s b signal (chunk_stored storage b.transfer signal.sequence (load_bytes load)))
      (giving-comes H s (up.Data load u c m k) b signal (next_chunk storage (chunk_absorbed storage b.transfer signal.sequence (load_length load))).transfer _ e
      (λ u. sym (giving-same storage b.transfer signal.sequence (load_length load)) ∙ u) (λ n y. tt))
      (giving-comes H s (up.Data load u c m k) b signal
      (with_room (chunk_stored storage b.transfer signal.sequence (load_bytes load)).storage (chunk_stored storage b.transfer signal.sequence (load_bytes load)).transfer).transfer _ e
      (λ u. sym (taking-same storage b.transfer signal.sequence (load_bytes load)) ∙ u) (λ n y. tt)))
      (Ignored refl refl)

  -- End
  abbrev IsDue : Seen → Up → Type 0
  IsDue k x = (n : ℕ) (sent : Option (OnPath Down)) (y : Bool) → (IsReleased sent → y ≡ false → n ≡ 1) → Due k x sent n y

  chaining-comes : (H : Type 0) (s : SubchannelState) (x : Up) (b : ActiveProgram) (signal : EndSignal) (walk : WalkPosition) (c : CommandStart) → s.begun ≡ Some b →
      b.transfer.unchained ≡ false → IsDue (seen s) x → Comes H (seen s) x (next_ccw_outcome storage s (with_first_end b) signal walk c)
  chaining-comes H s x b signal walk (outcome.Begins transfer) e free due = by (moves-goes H s b t t.pci_pending t.walk.tried (residual t.moving) e (λ u. free))
    where
      t : Transfer
      t = (begun_with_room storage transfer).transfer

      by : Goes H (seen s) (after_chunk s b t) → Comes H (seen s) x (next_ccw_outcome storage s (with_first_end b) signal walk (outcome.Begins transfer))
      by (Went n effect) = Taken n refl effect (due n _ _ (λ r. absurd (cc r)))
  chaining-comes H s x b signal walk outcome.Suspends e free due =
      let g = suspends-goes H (with_allegiance_after_end s signal) b.program walk (residual b.transfer.moving) b.program.orb.suppress_suspended (inr (b, e, free)) in
      Taken g.0 refl g.1 (due g.0 _ _ (λ r ends. g.2 ends))
  chaining-comes H s x b signal walk (outcome.Stops check) e free due =
      Taken 1 refl (causes H (with_allegiance_after_end s signal) (cause.FetchFault walk.tried check (residual b.transfer.moving)) (inr (b, e, free))) (due 1 _ _ (λ r ends. refl))

  goes-comes : (H : Type 0) (s : SubchannelState) (x : Up) (b : ActiveProgram) (signal : EndSignal) → s.begun ≡ Some b → b.transfer.unchained ≡ false → IsDue (seen s) x →
      Comes H (seen s) x (chains_at_device_end storage s (with_first_end b) signal)
  goes-comes H s x b signal e free due =
      let next = next_command storage (with_first_end b).transfer (has_status_modifier signal.status) in
      if-comes H (seen s) x (has_device_end signal.status) (next_ccw_outcome storage s (with_first_end b) signal next.walk next.outcome)
      (signal_taken (record (with_allegiance_after_end s signal) { begun = Some (with_first_end b) }))
      (chaining-comes H s x b signal next.walk next.outcome e free due)
      (Taken 0 refl (Moves b (with_first_end b).transfer e (λ u. u)) (due 0 None _ (λ r. absurd r)))

  stops-comes : (H : Type 0) (s : SubchannelState) (x : Up) (b : ActiveProgram) (signal : EndSignal) → s.begun ≡ Some b → IsDue (seen s) x → Comes H (seen s) x (concludes s b signal)
  stops-comes H s x b signal e due =
      if-comes H (seen s) x (is_last_end signal.status) (device_released (with_end_status s b signal)) (signal_taken (with_end_status s b signal))
      (Taken 1 refl (causes H s (cause.End b signal.status signal.more) e) (due 1 _ _ (λ r ends. refl)))
      (Taken 1 refl (causes H s (cause.End b signal.status signal.more) e) (due 1 _ _ (λ r ends. refl)))

  end-comes : (H : Type 0) (s : SubchannelState) (x : Up) (o : Option ActiveProgram) (signal : EndSignal) → s.begun ≡ o → IsDue (seen s) x → Comes H (seen s) x (ends_at_work storage s o signal)
  end-comes H s x None signal e due = Ignored refl refl
  end-comes H s x (Some b) signal e due =
      if-comes H (seen s) x (signal.command == b.transfer.command) (ends_command storage s b signal) (signal_ignored s)
      (if-chains H (seen s) x (chains_command s.scsw b signal.status signal.more) (chains_at_device_end storage s (with_first_end b) signal) (concludes s b signal)
      (λ i. goes-comes H s x b signal e (chains-free s b signal i) due) (stops-comes H s x b signal e due))
      (Ignored refl refl)

-- the hold is to be reset
pub reset-goes : (H : Type 0) (s : SubchannelState) (shows : Bool) → (n : ℕ) × Effect H (seen s) n (seen (reset_with s shows)) × (n ≡ 1 → shows ≡ true)
reset-goes H s true = (1, causes H (reset_drawn s) cause.InterfaceControlCheck tt, λ e. refl)
reset-goes H s false = (0, Nothing, λ e. absurd (omega (arith, e)))

pub lost-goes : (H : Type 0) (s : SubchannelState) (rests : Bool) →
    (n : ℕ) × Effect H (seen s) n (seen (if rests then reset_for s else s)) × (n ≡ 1 → has_any s.waiting s.begun s.suspended ≡ true)
lost-goes H s true =
    let g = reset-goes H s (is_offered_or_held s.hold.phase && has_any s.waiting s.begun s.suspended) in
    (g.0, g.1, λ e. (and_parts (is_offered_or_held s.hold.phase) (has_any s.waiting s.begun s.suspended) (g.2 e)).1)
lost-goes H s false = (0, Nothing, λ e. absurd (omega (arith, e)))

notice-comes : (H : Type 0) (s x : SubchannelState) (b : ℕ) (newer shows : Bool) → seen x ≡ seen s → (shows ≡ true → has_any s.waiting s.begun s.suspended ≡ true) →
    Comes H (seen s) (up.Notice b) (if newer then signal_taken (reset_with x shows) else signal_ignored s)
notice-comes H s x b true shows same f =
    let g = reset-goes H x shows in
    Taken g.0 refl (subst (λ (k : Seen). Effect H k g.0 (seen (reset_with x shows))) same g.1) (λ e. f (g.2 e))
notice-comes H s x b false shows same f = Ignored refl refl

-- Cleared
cleared-comes : (H : Type 0) (s x : SubchannelState) (r : ℕ) (pending : Bool) → seen x ≡ seen s → s.scsw.activity.clear_pending ≡ pending →
    Comes H (seen s) (up.Cleared r) (signal_taken (if pending then with_cause x cause.ClearDone else x))
cleared-comes H s x r true same e =
    Taken 1 refl
    (subst (λ (k : Seen). Effect H k 1 (seen (with_cause x cause.ClearDone))) same (causes H x cause.ClearDone (ap (λ (k : Seen). k.scsw.activity.clear_pending) same ∙ e)))
    (ap (λ (b : Bool). if b then 1 else 0) (sym e))
cleared-comes H s x r false same e = Taken 0 refl (subst (λ (k : Seen). Effect H k 0 (seen x)) same Nothing) (ap (λ (b : Bool). if b then 1 else 0) (sym e))

reset_cleared-comes : (H : Type 0) (s : SubchannelState) (h : HoldState) (phase : HoldPhase) (p r : ℕ) →
    Comes H (seen s) (up.Cleared r)
    (takes_cleared (record s { hold = record h { phase = phase } }) (hold_takes (record h { phase = phase }) p (up.Cleared r) false))
reset_cleared-comes H s h hold.Free p r = Ignored refl refl
reset_cleared-comes H s h (hold.Offer t q) p r = Ignored refl refl
reset_cleared-comes H s h (hold.On t q c) p r = Ignored refl refl
reset_cleared-comes H s h (hold.Away t) p r = Ignored refl refl
reset_cleared-comes H s h (hold.Letting t q) p r = Ignored refl refl
reset_cleared-comes H s h (hold.Reset n) p r = by (r == n)
  where
    x : SubchannelState
    x = record s { hold = record h { phase = hold.Reset n } }

    by : (b : Bool) → Comes H (seen s) (up.Cleared r)
        (takes_cleared x (if b then Some (record { state = record h { phase = hold.Free; reset_path = None }; sent = None }) else None))
    by true = cleared-comes H s (record s { hold = record h { phase = hold.Free; reset_path = None } }) r s.scsw.activity.clear_pending refl refl
    by false = Ignored refl refl

-- a signal that the hold alone takes
held-comes : (H : Type 0) (s : SubchannelState) (x : Up) (step : Option HoldStep) → ((sent : Option (OnPath Down)) (y : Bool) → Due (seen s) x sent 0 y) →
    Comes H (seen s) x (record { state = record s { hold = hold_after s.hold step }; outcome = outcome_of step })
held-comes H s x None due = Ignored refl refl
held-comes H s x (Some step) due = Taken 0 refl Nothing (due step.sent _)

back-comes : (H : Type 0) (s : SubchannelState) (t c p : ℕ) (step : Option HoldStep) → Comes H (seen s) (up.Back t c) (takes_back s p step)
back-comes H s t c p None = Ignored refl refl
back-comes H s t c p (Some step) = Taken 0 refl Nothing refl

-- Attn
attended-comes : (H : Type 0) (s x : SubchannelState) (a : ℕ) (status : DeviceStatus) (sent : Option (OnPath Down)) (quiet : Bool) →
    seen x ≡ seen s → may_take_attention s ≡ true → (status.0 == 0x20) ≡ quiet →
    Comes H (seen s) (up.Attn a status) (record { state = if true && not quiet then with_cause x cause.Attention else x; outcome = record { taken = true; sent = sent } })
attended-comes H s x a status sent true same may e =
    Taken 0 refl (subst (λ (k : Seen). Effect H k 0 (seen x)) same Nothing) (may, ap (λ (b : Bool). if b then 0 else 1) (sym e))
attended-comes H s x a status sent false same may e =
    Taken 1 refl
    (subst (λ (k : Seen). Effect H k 1 (seen (with_cause x cause.Attention))) same
    (causes H x cause.Attention (ap (λ (k : Seen). not k.scsw.status.pending && is_idle_or_start_pending k.scsw.activity) same ∙ may)))
    (may, ap (λ (b : Bool). if b then 0 else 1) (sym e))

attend-comes : (H : Type 0) (s : SubchannelState) (h : HoldState) (phase : HoldPhase) (p a : ℕ) (status : DeviceStatus) (may : Bool) → may_take_attention s ≡ may →
    Comes H (seen s) (up.Attn a status)
    (takes_attention (record s { hold = record h { phase = phase } }) status (hold_takes (record h { phase = phase }) p (up.Attn a status) may))
attend-comes H s h hold.Free p a status true e =
    attended-comes H s (record s { hold = record h { phase = hold.Free } }) a status _ (status.0 == 0x20) refl e refl
attend-comes H s h hold.Free p a status false e = Ignored refl refl
attend-comes H s h other p a status may e = Ignored refl refl

-- a signal that came up
pub takes-comes : (returns : Bool) (storage : Contents) (s : SubchannelState) (p : ℕ) (x : Up) → Comes (Held s) (seen s) x (takes_up returns storage s p x).step
takes-comes returns storage s p (up.Accept t) = accept-comes storage (Held s) returns s s.hold s.hold.phase p t (λ k. k)
takes-comes returns storage s p (up.Busy t) = held-comes (Held s) s (up.Busy t) (hold_takes s.hold p (up.Busy t) false) (λ sent y. refl)
takes-comes returns storage s p (up.Leave t c) = held-comes (Held s) s (up.Leave t c) (hold_takes s.hold p (up.Leave t c) false) (λ sent y. refl)
takes-comes returns storage s p (up.Back t c) = back-comes (Held s) s t c p (hold_takes s.hold p (up.Back t c) returns)
takes-comes returns storage s p (up.Data load t c n seq) =
    let signal : DataSignal = record { path = p; number = t; connection = c; command = n; sequence = seq } in
    if-met (Held s) (seen s) (up.Data load t c n seq) (is_connected s.hold.phase p t c) (moves_data storage s s.begun signal load) (with_storage storage (signal_ignored s))
    (move-comes storage (Held s) s t c n seq s.begun signal load refl) (Ignored refl refl)
takes-comes returns storage s p (up.End t n status more) =
    let signal : EndSignal = record { path = p; number = t; command = n; status = status; more = more } in
    if-comes (Held s) (seen s) (up.End t n status more) (is_on s.hold.phase t) (ends_at_work storage s s.begun signal) (signal_ignored s)
    (end-comes storage (Held s) s (up.End t n status more) s.begun signal refl (λ n sent y f. f)) (Ignored refl refl)
takes-comes returns storage s p (up.Released t) = held-comes (Held s) s (up.Released t) (hold_takes s.hold p (up.Released t) false) (λ sent y. refl)
takes-comes returns storage s p (up.Cleared r) = reset_cleared-comes (Held s) s s.hold s.hold.phase p r
takes-comes returns storage s p (up.Notice b) =
    notice-comes (Held s) s (record s { hold = record s.hold { known_restarts = b } }) b (nat_lt s.hold.known_restarts b) (is_offered_or_held s.hold.phase && has_any s.waiting s.begun s.suspended) refl
    (λ e. (and_parts (is_offered_or_held s.hold.phase) (has_any s.waiting s.begun s.suspended) e).1)
takes-comes returns storage s p (up.Attn a status) = attend-comes (Held s) s s.hold s.hold.phase p a status (may_take_attention s) refl
