-- What is kept of the state of a subchannel: its numbers, and when status is pending. Its serials are at least those of
-- a floor, which may be any.
use Rattle.std.proofs.Common.{◌≡◌, refl, sym, ◌∙◌, ℕ, ◌+◌, ◌≤◌, ◌==◌, Bool, true, false, not, ◌&&◌, nat_lt, Option, None, Some, List, arith}
use Rattle.std.specs.Prelude.{if◌then◌else◌}
use Rattle.std.proofs.lemmas.Bool.{lt-ltb}
use Rattle.orb_block.specs.declared.Orb.{Orb}
use Rattle.scsw_irb.specs.declared.scsw.Scsw.{Scsw}
use Rattle.scsw_irb.specs.declared.serials.Serials.{Serials}
use Rattle.storage_keys.specs.Storage.{Contents}
use Rattle.ccw_walk.specs.Positions.{WalkPosition}
use Rattle.chan_model.specs.declared.hold_state.HoldPhase.{HoldPhase}
use Rattle.chan_model.specs.declared.hold_state.HoldPhase.TheVariants as hold
use Rattle.chan_model.specs.declared.hold_state.HoldState.{HoldState}
use Rattle.chan_model.specs.Signals.{Down, Load, Up, load_bytes}
use Rattle.chan_model.specs.declared.signal.Taken.{Taken}
use Rattle.chan_model.specs.declared.signal.Up.TheVariants as up
use Rattle.subchannel_model.specs.declared.status.StatusRow.{StatusRow}
use Rattle.chan_model.specs.HoldTable.{HoldStep, hold_takes, hold_after, outcome_of, is_connected, is_on}
use Rattle.chan_model.specs.Loads.{load_length}
use Rattle.subchannel_model.specs.Status.{scsw_made, serials_made, serials_cleared, is_uncleared, without_status}
use Rattle.subchannel_model.specs.Test.{tested, tested_wholly, ends_suspended}
use Rattle.chan_model.specs.UnitReports.{is_last_end, is_outward, has_device_end}
use Rattle.data_move.specs.Moving.{residual}
use Rattle.data_move.specs.declared.transfer.Transfer.{Transfer}
use Rattle.data_move.specs.Commands.{first_command, next_command, with_room, begun_with_room}
use Rattle.data_move.specs.ToDevice.{chunk_absorbed, next_chunk}
use Rattle.data_move.specs.FromDevice.{chunk_stored}
use Rattle.data_move.specs.ChunkNumbers.{is_answered}
use Rattle.data_move.specs.declared.transfer.CommandStart.{CommandStart}
use Rattle.data_move.specs.declared.transfer.CommandStart.TheVariants as outcome
use Rattle.data_move.specs.Numbers.{IsSame, IsLaterTransfer, IsNew, IfBegins}
use Rattle.subchannel_model.specs.declared.cause.StatusCause.{StatusCause}
use Rattle.subchannel_model.specs.declared.cause.StatusCause.TheVariants as cause
use Rattle.subchannel_model.specs.declared.signals.DataSignal.{DataSignal}
use Rattle.subchannel_model.specs.declared.signals.EndSignal.{EndSignal}
use Rattle.subchannel_model.specs.declared.state.ActiveProgram.{ActiveProgram}
use Rattle.subchannel_model.specs.declared.state.PmcwState.{PmcwState}
use Rattle.subchannel_model.specs.declared.state.Program.{Program}
use Rattle.subchannel_model.specs.declared.state.ProgramPosition.{ProgramPosition}
use Rattle.subchannel_model.specs.declared.state.SubchannelState.{SubchannelState}
use Rattle.subchannel_model.specs.declared.state.UpStep.{UpStep}
use Rattle.machine_model.specs.Bounds.{IsMovedWithin}
use Rattle.subchannel_model.specs.Start.{started}
use Rattle.subchannel_model.specs.Causes.{row_of, with_status, without_begun, without_waiting, programs_after_end, with_cause, scsw_joined, clear_function_alone, without_intermediate}
use Rattle.subchannel_model.specs.Clear.{cleared_scsw}
use Rattle.subchannel_model.specs.Suspension.{suspended_alone, with_suspended_program, program_suspended}
use Rattle.subchannel_model.specs.End.{chains_with, with_end_status, with_first_end, with_allegiance_after_end, next_ccw_outcome, chains_at_device_end, concludes, ends_command, ends_at_work, takes_end}
use Rattle.subchannel_model.specs.Choosing.{reset_sent, halt_sent, offered}
use Rattle.subchannel_model.specs.Halt.{halt_begun, status_dropped, drops_status}
use Rattle.subchannel_model.specs.Programs.{without_programs, has_any}
use Rattle.subchannel_model.specs.Ends.{has_status_modifier, chains_command, has_shown}
use Rattle.subchannel_model.specs.Losing.{is_offered_or_held, reset_drawn, reset_with, reset_for, path_lost}
use Rattle.subchannel_model.specs.SystemReset.{state_reset, scsw_reset}
use Rattle.chan_model.specs.ResetCauses.{rests_on}
use Rattle.subchannel_model.specs.Taking.{takes_up}
use Rattle.subchannel_model.specs.Notice.{with_known}
use Rattle.subchannel_model.specs.Pci.{with_pci_of, without_pci}
use Rattle.subchannel_model.specs.Data.{gives_next_chunk, after_chunk, tells_room_after, moves_bytes, moves_data, takes_data}
use Rattle.subchannel_model.specs.Outcomes.{SignalOutcome, with_storage, signal_ignored, signal_taken, device_released}
use Rattle.subchannel_model.specs.Accept.{offered_position, takes_device, with_program_at_work, first_ccw_outcome, begins_at, halt_performed, accepted_in_phase, accepted_by, with_path_used}
use Rattle.subchannel_model.specs.Command.{with_transfer}
use Rattle.subchannel_model.specs.Cleared.{takes_cleared}
use Rattle.subchannel_model.specs.Attention.{may_take_attention}
use Rattle.subchannel_model.proofs.Cleared.{none-uncleared, tested-pending}
use Rattle.step_laws.specs.Walks.{Function, Resumes, Halts, Clears, Cancels, effect_of}

abbrev pub Sound : Serials → ℕ → SubchannelState → Type 0
Sound floor n s =
    (s.drawn ≤ n) × (s.starts ≤ n) × (s.serials.made ≤ n) × IsMovedWithin n s.begun
    × (s.scsw.status.pending ≡ is_uncleared s.serials) × (s.serials.cleared ≤ s.serials.made)
    × (floor.cleared ≤ s.serials.cleared) × (floor.made ≤ s.serials.made)

moved-later : (n : ℕ) (b : Option ActiveProgram) → IsMovedWithin n b → IsMovedWithin (n + 1) b
moved-later n None m = tt
moved-later n (Some b) m = (omega (arith, m.0), omega (arith, m.1))

pub later : (floor : Serials) (n : ℕ) (s : SubchannelState) → Sound floor n s → Sound floor (n + 1) s
later floor n s k = (omega (arith, k.0), omega (arith, k.1), omega (arith, k.2), moved-later n s.begun k.3, k.4, k.5, k.6, k.7)

-- a status that is made
made-le : (e : Bool) (x : Serials) (n : ℕ) → x.made ≤ n → (serials_made e x).made ≤ n + 1
made-le true x n h = omega (arith, h)
made-le false x n h = omega (arith, h)

joined-pending : (b : Bool) (x y : Scsw) → x.status.pending ≡ true → y.status.pending ≡ true → (if b then x else y).status.pending ≡ true
joined-pending true x y e f = e
joined-pending false x y e f = f

made-pending : (e : Bool) (scsw joins : Scsw) (x : Serials) (shown : StatusRow) → scsw.status.pending ≡ is_uncleared x → x.cleared ≤ x.made →
    (scsw_made e (scsw_joined e scsw joins) shown).status.pending ≡ is_uncleared (serials_made e x)
made-pending true scsw joins x shown p o = joined-pending joins.status.pending _ _ refl refl ∙ sym (lt-ltb x.cleared (x.made + 1) (omega (arith, o)))
made-pending false scsw joins x shown p o = p

made-above : (e : Bool) (floor x : Serials) → floor.cleared ≤ x.cleared → floor.made ≤ x.made →
    (floor.cleared ≤ (serials_made e x).cleared) × (floor.made ≤ (serials_made e x).made)
made-above true floor x h m = (h, omega (arith, m))
made-above false floor x h m = (h, m)

made-order : (e : Bool) (x : Serials) → x.cleared ≤ x.made → (serials_made e x).cleared ≤ (serials_made e x).made
made-order true x o = omega (arith, o)
made-order false x o = o

-- the same, before the status of an event is made
abbrev Ready : Serials → ℕ → SubchannelState → Type 0
Ready floor n s =
    (s.drawn ≤ n + 1) × (s.starts ≤ n + 1) × (s.serials.made ≤ n) × IsMovedWithin (n + 1) s.begun
    × (s.scsw.status.pending ≡ is_uncleared s.serials) × (s.serials.cleared ≤ s.serials.made)
    × (floor.cleared ≤ s.serials.cleared) × (floor.made ≤ s.serials.made)

to-ready : (floor : Serials) (n : ℕ) (s : SubchannelState) → Sound floor n s → Ready floor n s
to-ready floor n s k = (omega (arith, k.0), omega (arith, k.1), k.2, moved-later n s.begun k.3, k.4, k.5, k.6, k.7)

ready-sound : (floor : Serials) (n : ℕ) (s : SubchannelState) → Ready floor n s → Sound floor (n + 1) s
ready-sound floor n s k = (k.0, k.1, omega (arith, k.2), k.3, k.4, k.5, k.6, k.7)

left-sound : (floor : Serials) (n : ℕ) (s : SubchannelState) (w : Option Program) (b : Option ActiveProgram) (st : Option ProgramPosition) (joins : Scsw) (shown : StatusRow) →
    IsMovedWithin (n + 1) b → Ready floor n s →
    Sound floor (n + 1) (with_status (record s { waiting = w; begun = b; suspended = st; scsw = scsw_joined s.pmcw.enabled s.scsw joins }) shown)
left-sound floor n s w b st joins shown m k =
    let above = made-above s.pmcw.enabled floor s.serials k.6 k.7 in (
      k.0,
      k.1,
      made-le s.pmcw.enabled s.serials n k.2,
      m,
      made-pending s.pmcw.enabled s.scsw joins s.serials shown k.4 k.5,
      made-order s.pmcw.enabled s.serials k.5,
      above.0,
      above.1,
    )

after_end-sound : (floor : Serials) (n : ℕ) (s : SubchannelState) (b : ActiveProgram) (last : Bool) (joins : Scsw) (shown : StatusRow) → IsMovedWithin (n + 1) (Some b) → Ready floor n s →
    Sound floor (n + 1) (with_status (record (programs_after_end s b last) { scsw = scsw_joined s.pmcw.enabled s.scsw joins }) shown)
after_end-sound floor n s b true joins shown m k = left-sound floor n s None None None joins shown tt k
after_end-sound floor n s b false joins shown m k = left-sound floor n s s.waiting (Some (has_shown b)) s.suspended joins shown m k

without_begun-sound : (floor : Serials) (n : ℕ) (s : SubchannelState) (b : Option ActiveProgram) (joins : Scsw) (shown : StatusRow) → Ready floor n s →
    Sound floor (n + 1) (with_status (record (without_begun b s) { scsw = scsw_joined s.pmcw.enabled s.scsw joins }) shown)
without_begun-sound floor n s None joins shown k = left-sound floor n s None s.begun None joins shown k.3 k
without_begun-sound floor n s (Some b) joins shown k = left-sound floor n s s.waiting None s.suspended joins shown tt k

without_waiting-sound : (floor : Serials) (n : ℕ) (s : SubchannelState) (w : Option Program) (joins : Scsw) (shown : StatusRow) → Ready floor n s →
    Sound floor (n + 1) (with_status (record (without_waiting w s) { scsw = scsw_joined s.pmcw.enabled s.scsw joins }) shown)
without_waiting-sound floor n s None joins shown k = left-sound floor n s s.waiting s.begun None joins shown k.3 k
without_waiting-sound floor n s (Some w) joins shown k = left-sound floor n s None s.begun s.suspended joins shown k.3 k

-- the program that ends
abbrev IsEndWithin : ℕ → StatusCause → Type 0
IsEndWithin n (cause.End b status more) = IsMovedWithin n (Some b)
IsEndWithin n c = Unit {0}

cause-sound : (floor : Serials) (n : ℕ) (s : SubchannelState) (c : StatusCause) → IsEndWithin (n + 1) c → Ready floor n s → Sound floor (n + 1) (with_cause s c)
cause-sound floor n s (cause.End b status more) m k =
    after_end-sound floor n s b (is_last_end status) s.scsw (row_of s (cause.End b status more)).shown m k
cause-sound floor n s (cause.FetchFault tried check count) m k =
    without_begun-sound floor n s s.begun s.scsw (row_of s (cause.FetchFault tried check count)).shown k
cause-sound floor n s cause.Attention m k = left-sound floor n s None s.begun s.suspended s.scsw (row_of s cause.Attention).shown k.3 k
cause-sound floor n s cause.NoPath m k = without_waiting-sound floor n s s.waiting s.scsw (row_of s cause.NoPath).shown k
cause-sound floor n s cause.InterfaceControlCheck m k =
    left-sound floor n s None None None s.scsw (row_of s cause.InterfaceControlCheck).shown tt k
cause-sound floor n s cause.ClearDone m k =
    left-sound floor n s s.waiting s.begun s.suspended clear_function_alone (row_of s cause.ClearDone).shown k.3 k
cause-sound floor n s cause.HaltDone m k =
    left-sound floor n s None None None (without_intermediate s.scsw) (row_of s cause.HaltDone).shown tt k
cause-sound floor n s other m k =
    left-sound floor n s s.waiting s.begun s.suspended s.scsw (row_of s other).shown k.3 k

-- instructions and choosing
pub started-sound : (floor : Serials) (n : ℕ) (s : SubchannelState) (orb : Orb) → Sound floor n s → Sound floor (n + 1) (started s orb)
started-sound floor n s orb k = (omega (arith, k.0), omega (arith, k.1), omega (arith, k.2), moved-later n s.begun k.3, k.4, k.5, k.6, k.7)

pub modified-sound : (floor : Serials) (n : ℕ) (s : SubchannelState) (pmcw : PmcwState) → Sound floor n s → Sound floor (n + 1) (record s { pmcw = pmcw })
modified-sound floor n s pmcw k = later floor n s k

tested-sound : (floor : Serials) (n : ℕ) (s : SubchannelState) → Sound floor n s → Sound floor (n + 1) (tested s)
tested-sound floor n s k = (
  omega (arith, k.0),
  omega (arith, k.1),
  omega (arith, k.2),
  moved-later n s.begun k.3,
  tested-pending s,
  omega arith,
  omega (arith, k.5, k.6),
  k.7,
)

pub offered-sound : (floor : Serials) (n : ℕ) (s : SubchannelState) (program : Program) (p : ℕ) → Sound floor n s → Sound floor (n + 1) (offered s program p)
offered-sound floor n s program p k = (omega (arith, k.0), omega (arith, k.1), omega (arith, k.2), moved-later n s.begun k.3, k.4, k.5, k.6, k.7)

pick-state : (floor : Serials) (n : ℕ) (b : Bool) (x y : SubchannelState) → Sound floor n x → Sound floor n y → Sound floor n (if b then x else y)
pick-state floor n true x y k l = k
pick-state floor n false x y k l = l

pub wholly-sound : (floor : Serials) (n : ℕ) (s : SubchannelState) → Sound floor n s → Sound floor (n + 1) (tested_wholly s)
wholly-sound floor n s k =
    let t : Sound floor (n + 1) (tested s) = tested-sound floor n s k in
    pick-state floor (n + 1) (ends_suspended s.scsw) (without_programs (tested s)) (tested s) (t.0, t.1, t.2, tt, t.4, t.5, t.6, t.7) t

-- all status counts as cleared
none-sound : (floor : Serials) (n : ℕ) (s : SubchannelState) (b : Option ActiveProgram) (m : ℕ) (scsw : Scsw) → scsw.status.pending ≡ false → m ≤ n + 1 → IsMovedWithin (n + 1) b →
    Ready floor n s → Sound floor (n + 1) (record s { drawn = m; begun = b; scsw = scsw; serials = serials_cleared s.serials })
none-sound floor n s b m scsw p d w k = (d, k.1, omega (arith, k.2), w, p ∙ none-uncleared s.serials, omega arith, omega (arith, k.5, k.6), k.7)

pub system-sound : (floor : Serials) (n : ℕ) (s : SubchannelState) → Sound floor n s → Sound floor (n + 1) (state_reset s)
system-sound floor n s k = none-sound floor n s None (s.drawn + 1) (scsw_reset s.scsw) refl (omega (arith, k.0)) tt (to-ready floor n s k)

pub effect-sound : (floor : Serials) (n : ℕ) (s : SubchannelState) (f : Function) → Sound floor n s → Sound floor (n + 1) (effect_of f s)
effect-sound floor n s Resumes k = later floor n s k
effect-sound floor n s Halts k =
    pick-state floor (n + 1) (drops_status s.scsw) (status_dropped (halt_begun s)) (halt_begun s)
    (none-sound floor n (halt_begun s) s.begun s.drawn (without_status (halt_begun s).scsw) refl (omega (arith, k.0)) (moved-later n s.begun k.3) (to-ready floor n (halt_begun s) k)) (later floor n s k)
effect-sound floor n s Clears k = none-sound floor n s None (s.drawn + 1) cleared_scsw refl (omega (arith, k.0)) tt (to-ready floor n s k)
effect-sound floor n s Cancels k = later floor n s k

pub reset_sent-sound : (floor : Serials) (n : ℕ) (s : SubchannelState) (p : ℕ) → Sound floor n s → Sound floor (n + 1) (reset_sent s p)
reset_sent-sound floor n s p k = later floor n s k

pub halt_sent-sound : (floor : Serials) (n : ℕ) (s : SubchannelState) → Sound floor n s → Sound floor (n + 1) (halt_sent s)
halt_sent-sound floor n s k = later floor n s k

pub made-sound : (floor : Serials) (n : ℕ) (s : SubchannelState) (c : StatusCause) → IsEndWithin (n + 1) c → Sound floor n s → Sound floor (n + 1) (with_cause s c)
made-sound floor n s c m k = cause-sound floor n s c m (to-ready floor n s k)

-- signals
pick : (floor : Serials) (n : ℕ) (b : Bool) (x y : UpStep) → Sound floor n x.state → Sound floor n y.state → Sound floor n (if b then x else y).state
pick floor n true x y k l = k
pick floor n false x y k l = l

pick-met : (floor : Serials) (n : ℕ) (b : Bool) (x y : SignalOutcome) → Sound floor n x.step.state → Sound floor n y.step.state → Sound floor n (if b then x else y).step.state
pick-met floor n true x y k l = k
pick-met floor n false x y k l = l

-- another transfer is at hand
interrupted-sound : (floor : Serials) (n : ℕ) (s : SubchannelState) (b : ActiveProgram) → IsMovedWithin (n + 1) (Some b) → Ready floor n s → Sound floor (n + 1) (with_pci_of s b)
interrupted-sound floor n s b m k =
    pick-state floor (n + 1) b.transfer.pci_pending
    (with_cause (record s { begun = Some (without_pci b) }) (cause.Pci b.transfer.walk.tried (residual b.transfer.moving))) s
    (cause-sound floor n (record s { begun = Some (without_pci b) }) (cause.Pci b.transfer.walk.tried (residual b.transfer.moving)) tt
    (k.0, k.1, k.2, m, k.4, k.5, k.6, k.7))
    (ready-sound floor n s k)

transferred : (floor : Serials) (n : ℕ) (s : SubchannelState) (b : ActiveProgram) (t : Transfer) → t.sequence ≤ n + 1 → t.command ≤ n + 1 → Ready floor n s →
    Sound floor (n + 1) (after_chunk s b t)
transferred floor n s b t q m k =
    interrupted-sound floor n (with_transfer s b t) (record b { transfer = t }) (q, m) (k.0, k.1, k.2, (q, m), k.4, k.5, k.6, k.7)

-- a program is suspended
suspending-sound : (floor : Serials) (n : ℕ) (s : SubchannelState) (program : Program) (walk : WalkPosition) (count : ℕ) → Ready floor n s →
    Sound floor (n + 1) (program_suspended s program walk count)
suspending-sound floor n s program walk count k =
    pick-state floor (n + 1) program.orb.suppress_suspended
    (record (with_suspended_program s program walk count) { scsw = suspended_alone s.scsw }) (with_cause (with_suspended_program s program walk count) (cause.Suspension walk.tried count))
    (k.0, k.1, omega (arith, k.2), tt, k.4, k.5, k.6, k.7)
    (cause-sound floor n (with_suspended_program s program walk count) (cause.Suspension walk.tried count) tt (k.0, k.1, k.2, tt, k.4, k.5, k.6, k.7))

-- how commands and their chunks are numbered
pub record AreNumbered : Type 0 where
  pub first : (storage : Contents) (walk : WalkPosition) → IfBegins (first_command storage walk).outcome (IsNew 1)
  pub next : (storage : Contents) (t : Transfer) (modifier : Bool) → IfBegins (next_command storage t modifier).outcome (IsNew (t.command + 1))
  pub begun : (storage : Contents) (t : Transfer) → IsSame t (begun_with_room storage t).transfer
  pub room : (storage : Contents) (t : Transfer) → IsSame t (with_room storage t).transfer
  pub given : (storage : Contents) (t : Transfer) → IsSame t (next_chunk storage t).transfer
  pub absorbed : (storage : Contents) (t : Transfer) (s count : ℕ) → IsLaterTransfer t (chunk_absorbed storage t s count)
  pub brought : (storage : Contents) (t : Transfer) (s : ℕ) (bytes : List ℕ) → IsLaterTransfer t (chunk_stored storage t s bytes).transfer

pub numbered-of : ((storage : Contents) (walk : WalkPosition) → IfBegins (first_command storage walk).outcome (IsNew 1)) →
    ((storage : Contents) (t : Transfer) (modifier : Bool) → IfBegins (next_command storage t modifier).outcome (IsNew (t.command + 1))) →
    ((storage : Contents) (t : Transfer) → IsSame t (begun_with_room storage t).transfer) →
    ((storage : Contents) (t : Transfer) → IsSame t (with_room storage t).transfer) →
    ((storage : Contents) (t : Transfer) → IsSame t (next_chunk storage t).transfer) →
    ((storage : Contents) (t : Transfer) (s count : ℕ) → IsLaterTransfer t (chunk_absorbed storage t s count)) →
    ((storage : Contents) (t : Transfer) (s : ℕ) (bytes : List ℕ) → IsLaterTransfer t (chunk_stored storage t s bytes).transfer) → AreNumbered
numbered-of first next begun room given absorbed brought = record {
  first = first;
  next = next;
  begun = begun;
  room = room;
  given = given;
  absorbed = absorbed;
  brought = brought;
}

module _ (numbered : AreNumbered) where
  beginning-sound : (floor : Serials) (n : ℕ) (storage : Contents) (s : SubchannelState) (p t : ℕ) (st : ProgramPosition) (walk : WalkPosition) (r : CommandStart) →
      IfBegins r (IsNew 1) → Ready floor n s → Sound floor (n + 1) (first_ccw_outcome storage s p t st walk r).state
  beginning-sound floor n storage s p t st walk (outcome.Begins transfer) f k =
      let b : IsSame transfer (begun_with_room storage transfer).transfer = numbered.begun storage transfer in
      let q : (begun_with_room storage transfer).transfer.sequence ≤ n + 1 = omega (arith, b.sequence, f.sequence) in
      let m : (begun_with_room storage transfer).transfer.command ≤ n + 1 = omega (arith, b.command, f.command) in
      let new : ActiveProgram = record { program = st.program; primary_shown = false; transfer = (begun_with_room storage transfer).transfer } in
      interrupted-sound floor n (with_program_at_work s st.program (begun_with_room storage transfer).transfer) new (q, m) (k.0, k.1, k.2, (q, m), k.4, k.5, k.6, k.7)
  beginning-sound floor n storage s p t st walk outcome.Suspends f k = suspending-sound floor n s st.program walk st.count k
  beginning-sound floor n storage s p t st walk (outcome.Stops check) f k = cause-sound floor n s (cause.FetchFault walk.tried check st.count) tt k

  begins_at-sound : (floor : Serials) (n : ℕ) (storage : Contents) (s : SubchannelState) (p t : ℕ) (st : Option ProgramPosition) → Ready floor n s →
      Sound floor (n + 1) (begins_at storage s p t st).state
  begins_at-sound floor n storage s p t None k = ready-sound floor n s k
  begins_at-sound floor n storage s p t (Some st) k =
      beginning-sound floor n storage s p t st (first_command storage st.walk).walk (first_command storage st.walk).outcome (numbered.first storage st.walk) k

  halt_performed-sound : (floor : Serials) (n : ℕ) (s : SubchannelState) → Ready floor n s → Sound floor (n + 1) (halt_performed s)
  halt_performed-sound floor n s k =
      pick-state floor (n + 1) s.scsw.activity.halt_pending (with_cause s cause.HaltDone) s (cause-sound floor n s cause.HaltDone tt k) (ready-sound floor n s k)

  accepted_in_phase-sound : (floor : Serials) (n : ℕ) (storage : Contents) (s : SubchannelState) (phase : HoldPhase) (taken : Taken Down) → Sound floor n s →
      Sound floor (n + 1) (accepted_in_phase storage s phase taken).state
  accepted_in_phase-sound floor n storage s (hold.On t p c) taken k =
      begins_at-sound floor n storage (record s { pmcw = with_path_used s.pmcw p }) p t (offered_position s) (to-ready floor n s k)
  accepted_in_phase-sound floor n storage s (hold.Letting t p) taken k = halt_performed-sound floor n (record s { pmcw = with_path_used s.pmcw p }) (to-ready floor n s k)
  accepted_in_phase-sound floor n storage s other taken k = later floor n s k

  accept-sound : (floor : Serials) (n : ℕ) (storage : Contents) (s : SubchannelState) (h : HoldState) (taken : Taken Down) → Sound floor n s →
      Sound floor (n + 1) (accepted_by storage s h taken).state
  accept-sound floor n storage s h taken k =
      pick floor (n + 1) taken.taken (accepted_in_phase storage (record s { hold = h }) h.phase taken) (signal_ignored s)
      (accepted_in_phase-sound floor n storage (record s { hold = h }) h.phase taken k) (later floor n s k)

  -- Data
  given-sound : (floor : Serials) (n : ℕ) (storage : Contents) (s : SubchannelState) (b : ActiveProgram) (signal : DataSignal) (count : ℕ) → IsMovedWithin n (Some b) → Sound floor n s →
      Sound floor (n + 1) (gives_next_chunk storage s b signal count).state
  given-sound floor n storage s b signal count w k =
      let a : IsLaterTransfer b.transfer (chunk_absorbed storage b.transfer signal.sequence count) = numbered.absorbed storage b.transfer signal.sequence count in
      let g : IsSame (chunk_absorbed storage b.transfer signal.sequence count) (next_chunk storage (chunk_absorbed storage b.transfer signal.sequence count)).transfer =
      numbered.given storage (chunk_absorbed storage b.transfer signal.sequence count) in
      transferred floor n s b (next_chunk storage (chunk_absorbed storage b.transfer signal.sequence count)).transfer (omega (arith, w.0, a.sequence, g.sequence)) (omega (arith, w.1, a.command, g.command))
      (to-ready floor n s k)

  taken-sound : (floor : Serials) (n : ℕ) (storage : Contents) (s : SubchannelState) (b : ActiveProgram) (signal : DataSignal) (bytes : List ℕ) → IsMovedWithin n (Some b) → Sound floor n s →
      Sound floor (n + 1) (tells_room_after s b signal (chunk_stored storage b.transfer signal.sequence bytes)).step.state
  taken-sound floor n storage s b signal bytes w k =
      let x = chunk_stored storage b.transfer signal.sequence bytes in
      let a : IsLaterTransfer b.transfer x.transfer = numbered.brought storage b.transfer signal.sequence bytes in
      let r : IsSame x.transfer (with_room x.storage x.transfer).transfer = numbered.room x.storage x.transfer in
      transferred floor n s b (with_room x.storage x.transfer).transfer (omega (arith, w.0, a.sequence, r.sequence)) (omega (arith, w.1, a.command, r.command))
      (to-ready floor n s k)

  move-sound : (floor : Serials) (n : ℕ) (storage : Contents) (s : SubchannelState) (b : Option ActiveProgram) (signal : DataSignal) (load : Load) → IsMovedWithin n b → Sound floor n s →
      Sound floor (n + 1) (moves_data storage s b signal load).step.state
  move-sound floor n storage s None signal load w k = later floor n s k
  move-sound floor n storage s (Some b) signal load w k =
      pick-met floor (n + 1) (is_answered b.transfer signal.command signal.sequence) (moves_bytes storage s b signal load) (with_storage storage (signal_ignored s))
      (pick-met floor (n + 1) (is_outward b.transfer.code) (with_storage storage (gives_next_chunk storage s b signal (load_length load))) _
      (given-sound floor n storage s b signal (load_length load) w k) (taken-sound floor n storage s b signal (load_bytes load) w k))
      (later floor n s k)

  data-sound : (floor : Serials) (n : ℕ) (storage : Contents) (s : SubchannelState) (signal : DataSignal) (load : Load) → Sound floor n s →
      Sound floor (n + 1) (takes_data storage s signal load).step.state
  data-sound floor n storage s signal load k =
      pick-met floor (n + 1) (is_connected s.hold.phase signal.path signal.number signal.connection) (moves_data storage s s.begun signal load) (with_storage storage (signal_ignored s))
      (move-sound floor n storage s s.begun signal load k.3 k) (later floor n s k)

  -- End
  chaining-sound : (floor : Serials) (n : ℕ) (storage : Contents) (s : SubchannelState) (b : ActiveProgram) (signal : EndSignal) (walk : WalkPosition) (r : CommandStart) → b.transfer.command ≤ n →
      IfBegins r (IsNew (b.transfer.command + 1)) → Ready floor n s → Sound floor (n + 1) (next_ccw_outcome storage s b signal walk r).state
  chaining-sound floor n storage s b signal walk (outcome.Begins transfer) w f k =
      let g : IsSame transfer (begun_with_room storage transfer).transfer = numbered.begun storage transfer in
      transferred floor n s b (begun_with_room storage transfer).transfer (omega (arith, f.sequence, g.sequence)) (omega (arith, w, f.command, g.command)) k
  chaining-sound floor n storage s b signal walk outcome.Suspends w f k =
      suspending-sound floor n (with_allegiance_after_end s signal) b.program walk (residual b.transfer.moving) k
  chaining-sound floor n storage s b signal walk (outcome.Stops check) w f k =
      cause-sound floor n (with_allegiance_after_end s signal) (cause.FetchFault walk.tried check (residual b.transfer.moving)) tt k

  chains_at_device_end-sound : (floor : Serials) (n : ℕ) (storage : Contents) (s : SubchannelState) (b : ActiveProgram) (signal : EndSignal) → IsMovedWithin n (Some b) → Sound floor n s →
      Sound floor (n + 1) (chains_at_device_end storage s b signal).state
  chains_at_device_end-sound floor n storage s b signal w k =
      pick floor (n + 1) (has_device_end signal.status) (chains_with storage s b signal (next_command storage b.transfer (has_status_modifier signal.status)))
      (signal_taken (record (with_allegiance_after_end s signal) { begun = Some b }))
      (chaining-sound floor n storage s b signal _ _ w.1 (numbered.next storage b.transfer (has_status_modifier signal.status)) (to-ready floor n s k))
      (omega (arith, k.0), omega (arith, k.1), omega (arith, k.2), moved-later n (Some b) w, k.4, k.5, k.6, k.7)

  stops-sound : (floor : Serials) (n : ℕ) (s : SubchannelState) (b : ActiveProgram) (signal : EndSignal) → IsMovedWithin n (Some b) → Sound floor n s →
      Sound floor (n + 1) (concludes s b signal).state
  stops-sound floor n s b signal w k =
      let e : Sound floor (n + 1) (with_cause s (cause.End b signal.status signal.more)) = made-sound floor n s (cause.End b signal.status signal.more) (moved-later n (Some b) w) k in
      pick floor (n + 1) (is_last_end signal.status) (device_released (with_end_status s b signal)) (signal_taken (with_end_status s b signal)) e e

  ends_at_work-sound : (floor : Serials) (n : ℕ) (storage : Contents) (s : SubchannelState) (b : Option ActiveProgram) (signal : EndSignal) → IsMovedWithin n b → Sound floor n s →
      Sound floor (n + 1) (ends_at_work storage s b signal).state
  ends_at_work-sound floor n storage s None signal w k = later floor n s k
  ends_at_work-sound floor n storage s (Some b) signal w k =
      pick floor (n + 1) (signal.command == b.transfer.command) (ends_command storage s b signal) (signal_ignored s)
      (pick floor (n + 1) (chains_command s.scsw b signal.status signal.more) (chains_at_device_end storage s (with_first_end b) signal) (concludes s b signal)
      (chains_at_device_end-sound floor n storage s (with_first_end b) signal w k) (stops-sound floor n s b signal w k))
      (later floor n s k)

  end-sound : (floor : Serials) (n : ℕ) (storage : Contents) (s : SubchannelState) (signal : EndSignal) → Sound floor n s →
      Sound floor (n + 1) (takes_end storage s signal).state
  end-sound floor n storage s signal k =
      pick floor (n + 1) (is_on s.hold.phase signal.number) (ends_at_work storage s s.begun signal) (signal_ignored s) (ends_at_work-sound floor n storage s s.begun signal k.3 k) (later floor n s k)

  reset-sound : (floor : Serials) (n : ℕ) (s : SubchannelState) (step : Option HoldStep) → Sound floor n s → Sound floor (n + 1) (takes_cleared s step).state
  reset-sound floor n s None k = later floor n s k
  reset-sound floor n s (Some step) k =
      pick-state floor (n + 1) s.scsw.activity.clear_pending (with_cause (record s { hold = step.state }) cause.ClearDone) (record s { hold = step.state })
      (made-sound floor n (record s { hold = step.state }) cause.ClearDone tt k) (later floor n s k)

  drawn-ready : (floor : Serials) (n : ℕ) (s : SubchannelState) → Sound floor n s → Ready floor n (reset_drawn s)
  drawn-ready floor n s k = (omega (arith, k.0), omega (arith, k.1), k.2, moved-later n s.begun k.3, k.4, k.5, k.6, k.7)

  reset_with-sound : (floor : Serials) (n : ℕ) (s : SubchannelState) (shows : Bool) → Sound floor n s → Sound floor (n + 1) (reset_with s shows)
  reset_with-sound floor n s true k = cause-sound floor n (reset_drawn s) cause.InterfaceControlCheck tt (drawn-ready floor n s k)
  reset_with-sound floor n s false k = ready-sound floor n (reset_drawn s) (drawn-ready floor n s k)

  pub lost-sound : (floor : Serials) (n : ℕ) (s : SubchannelState) (path : ℕ) → Sound floor n s → Sound floor (n + 1) (path_lost s path)
  lost-sound floor n s path k =
      pick-state floor (n + 1) (rests_on s.hold path) (reset_for s) s
      (reset_with-sound floor n s (is_offered_or_held s.hold.phase && has_any s.waiting s.begun s.suspended) k) (later floor n s k)

  pub up-sound : (returns : Bool) → (floor : Serials) (n : ℕ) (storage : Contents) (s : SubchannelState) (p : ℕ) (signal : Up) → Sound floor n s →
      Sound floor (n + 1) (takes_up returns storage s p signal).step.state
  up-sound returns floor n storage s p (up.Accept t) k =
      let step = hold_takes s.hold p (up.Accept t) (takes_device s) in accept-sound floor n storage s (hold_after s.hold step) (outcome_of step) k
  up-sound returns floor n storage s p (up.Busy t) k = later floor n s k
  up-sound returns floor n storage s p (up.Leave t c) k = later floor n s k
  up-sound returns floor n storage s p (up.Back t c) k = later floor n s k
  up-sound returns floor n storage s p (up.Data load t c m seq) k = data-sound floor n storage s (record { path = p; number = t; connection = c; command = m; sequence = seq }) load k
  up-sound returns floor n storage s p (up.End t m st more) k = end-sound floor n storage s (record { path = p; number = t; command = m; status = st; more = more }) k
  up-sound returns floor n storage s p (up.Released t) k = later floor n s k
  up-sound returns floor n storage s p (up.Cleared r) k = reset-sound floor n s (hold_takes s.hold p (up.Cleared r) false) k
  up-sound returns floor n storage s p (up.Notice b) k =
      pick floor (n + 1) (nat_lt s.hold.known_restarts b) (signal_taken (reset_for (with_known s b))) (signal_ignored s)
      (reset_with-sound floor n (with_known s b) (is_offered_or_held s.hold.phase && has_any s.waiting s.begun s.suspended) k) (later floor n s k)
  up-sound returns floor n storage s p (up.Attn a st) k =
      let step : Option HoldStep = hold_takes s.hold p (up.Attn a st) (may_take_attention s) in
      let next : SubchannelState = record s { hold = hold_after s.hold step } in
      pick-state floor (n + 1) ((outcome_of step).taken && not (st.0 == 0x20)) (with_cause next cause.Attention) next
      (made-sound floor n next cause.Attention tt k) (later floor n s k)
