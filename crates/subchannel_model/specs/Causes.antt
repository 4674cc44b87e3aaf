-- The causes of status as one table: what each shows, which programs it leaves, and which status word its status joins
-- (SA22-7832, chapter 16; the bits are this project's own choice). What an End shows is in `Ends`.
use Rattle.std.specs.Prelude.{ℕ, Bool, true, false, if◌then◌else◌, Option, None, Some, option_map}
use Rattle.scsw_irb.specs.Status as bit
use Rattle.scsw_irb.specs.declared.scsw.DeferredCode.{DeferredCode}
use Rattle.scsw_irb.specs.declared.scsw.DeferredCode.TheVariants as deferred
use Rattle.scsw_irb.specs.declared.scsw.Scsw.{Scsw}
use Rattle.scsw_irb.specs.declared.scsw.StatusControl.{StatusControl}
use Rattle.scsw_irb.specs.Empty.{no_functions, no_activity, no_status, zero_scsw}
use Rattle.subchannel_model.specs.declared.status.StatusRow.{StatusRow}
use Rattle.subchannel_model.specs.Status.{check_bits, conditions, no_device_status, no_subchannel_status, scsw_made, serials_made, shows_primary}
use Rattle.chan_model.specs.UnitReports.{is_last_end}
use Rattle.ccw_walk.specs.declared.check.Check.{Check}
use Rattle.data_move.specs.Moving.{residual}
use Rattle.subchannel_model.specs.declared.cause.StatusCause.{StatusCause}
use Rattle.subchannel_model.specs.declared.cause.StatusCause.TheVariants as cause
use Rattle.subchannel_model.specs.declared.state.Program.{Program}
use Rattle.subchannel_model.specs.declared.state.ActiveProgram.{ActiveProgram}
use Rattle.subchannel_model.specs.declared.state.ProgramPosition.{ProgramPosition}
use Rattle.subchannel_model.specs.declared.state.SubchannelState.{SubchannelState}
use Rattle.subchannel_model.specs.Ends.{end_shown, has_shown}
use Rattle.subchannel_model.specs.Programs.{without_programs}

-- status is pending, and nothing else is shown
abbrev pub plain_shown : ℕ → ℕ → StatusRow
plain_shown address count = record {
  conditions = no_status;
  activity = no_activity;
  device = no_device_status;
  subchannel = no_subchannel_status;
  deferred = None;
  command_address = address;
  count = count;
}

-- the address or the count that a status shows: that of the program that holds the device, or else of the suspended one; where a
-- start waits, and where there is no program, it stays as it stands in the status word
abbrev pub of_program : ℕ → (ActiveProgram → ℕ) → (ProgramPosition → ℕ) → Option Program → Option ActiveProgram → Option ProgramPosition → ℕ
of_program stands at_work left None (Some b) suspended = at_work b
of_program stands at_work left None None (Some st) = left st
of_program stands at_work left waiting begun suspended = stands

abbrev pub address_shown : SubchannelState → ℕ
address_shown s = of_program s.scsw.command_address (λ b. b.transfer.walk.tried) (λ st. st.walk.tried) s.waiting s.begun s.suspended

abbrev pub program_count : ℕ → Option Program → Option ActiveProgram → Option ProgramPosition → ℕ
program_count stands waiting begun suspended = of_program stands (λ b. residual b.transfer.moving) (λ st. st.count) waiting begun suspended

abbrev pub count_shown : SubchannelState → ℕ
count_shown s = program_count s.scsw.count s.waiting s.begun s.suspended

-- nothing but the address and the count of the program of which a status speaks is shown
abbrev pub program_shown : SubchannelState → StatusRow
program_shown s = plain_shown (address_shown s) (count_shown s)

-- whether the program of which a status speaks showed its primary status; one that waits or is suspended did not
abbrev pub was_shown : Option Program → Option ActiveProgram → Bool
was_shown None (Some b) = b.primary_shown
was_shown waiting begun = false

-- a command could not be fetched, or may not take control; the count is that of the command before, where there is one
abbrev pub fetch_fault_shown : ℕ → Check → ℕ → StatusRow
fetch_fault_shown tried check count = record (plain_shown tried count) {
  conditions = conditions true true true;
  subchannel = record { 0 = check_bits (Some check) };
}

-- attention: deferred condition code 1 where a start waits
abbrev pub attention_deferred : Option Program → Option DeferredCode
attention_deferred waiting = option_map (λ program. deferred.One) waiting

abbrev pub attention_shown : SubchannelState → StatusRow
attention_shown s = record (plain_shown s.scsw.command_address s.scsw.count) {
  conditions = conditions true false false;
  device = record { 0 = bit.attention };
  deferred = attention_deferred s.waiting;
}

-- a program that is to be offered found no path: deferred condition code 3
abbrev pub no_path_shown : SubchannelState → StatusRow
no_path_shown s = record (program_shown s) { conditions = conditions true true true; deferred = Some deferred.Three }

-- interface-control check: primary status too where its program has not shown it, as where a start waits
abbrev pub interface_shown : SubchannelState → StatusRow
interface_shown s = record (program_shown s) {
  conditions = conditions true (shows_primary s.scsw.functions (was_shown s.waiting s.begun)) true;
  subchannel = record { 0 = bit.interface_control_check };
}

abbrev pub intermediate : StatusControl
intermediate = record no_status { intermediate = true }

-- an interruption by the program: the activity is as before
abbrev pub pci_shown : SubchannelState → ℕ → ℕ → StatusRow
pci_shown s tried count = record (plain_shown tried count) { conditions = intermediate; activity = s.scsw.activity; subchannel = record { 0 = bit.program_controlled } }

-- a program is suspended: no activity but that is left
abbrev pub suspension_shown : ℕ → ℕ → StatusRow
suspension_shown tried count = record (plain_shown tried count) { conditions = intermediate; activity = record no_activity { suspended = true } }

-- after the last End of a program all programs are over; after channel end alone the program works on
abbrev pub programs_after_end : SubchannelState → ActiveProgram → Bool → SubchannelState
programs_after_end s b last = if last then without_programs s else record s { begun = Some (has_shown b) }

-- the program that was begun is over, or where none was begun the one that was to be
abbrev pub without_begun : Option ActiveProgram → SubchannelState → SubchannelState
without_begun None s = record s { waiting = None; suspended = None }
without_begun (Some b) s = record s { begun = None }

-- the program that waits is over, or where none waits the suspended one
abbrev pub without_waiting : Option Program → SubchannelState → SubchannelState
without_waiting None s = record s { suspended = None }
without_waiting (Some program) s = record s { waiting = None }

-- a row of the table: what the status shows, and the subchannel without the programs that are over
pub record CauseRow : Type 0 where
  pub shown : StatusRow
  pub left : SubchannelState

-- the table
abbrev pub row_of : SubchannelState → StatusCause → CauseRow
row_of s (cause.End b status more) = record { shown = end_shown s b status more; left = programs_after_end s b (is_last_end status) }
row_of s (cause.FetchFault tried check count) = record { shown = fetch_fault_shown tried check count; left = without_begun s.begun s }
row_of s cause.Attention = record { shown = attention_shown s; left = record s { waiting = None } }
row_of s cause.NoPath = record { shown = no_path_shown s; left = without_waiting s.waiting s }
row_of s cause.InterfaceControlCheck = record { shown = interface_shown s; left = without_programs s }
row_of s (cause.Pci tried count) = record { shown = pci_shown s tried count; left = s }
row_of s (cause.Suspension tried count) = record { shown = suspension_shown tried count; left = s }
row_of s cause.ClearDone = record { shown = plain_shown 0 0; left = s }
row_of s cause.HaltDone = record { shown = program_shown s; left = without_programs s }

-- the status word that the status of a cause joins: with a clear nothing but the clear function is left of it; with a halt an
-- intermediate status that stands is turned off
abbrev pub clear_function_alone : Scsw
clear_function_alone = record zero_scsw { functions = record no_functions { clear = true } }

abbrev pub without_intermediate : Scsw → Scsw
without_intermediate scsw = record scsw { status = record scsw.status { intermediate = false } }

abbrev pub scsw_before : Scsw → StatusCause → Scsw
scsw_before scsw cause.ClearDone = clear_function_alone
scsw_before scsw cause.HaltDone = without_intermediate scsw
scsw_before scsw c = scsw

-- a status is made pending, and counted
abbrev pub with_status : SubchannelState → StatusRow → SubchannelState
with_status s shown = record s { scsw = scsw_made s.pmcw.enabled s.scsw shown; serials = serials_made s.pmcw.enabled s.serials }

-- a subchannel that is not enabled joins no status to its status word, which stays
abbrev pub scsw_joined : Bool → Scsw → Scsw → Scsw
scsw_joined enabled scsw joins = if enabled then joins else scsw

-- the subchannel after a row of the table, the status of which joins this status word
abbrev pub with_row : SubchannelState → CauseRow → Scsw → SubchannelState
with_row s row joins = with_status (record row.left { scsw = scsw_joined s.pmcw.enabled s.scsw joins }) row.shown

-- the subchannel after the cause; one that is not enabled gets no status: its programs and its activity change as if it were enabled
-- (own)
abbrev pub with_cause : SubchannelState → StatusCause → SubchannelState
with_cause s c = with_row s (row_of s c) (scsw_before s.scsw c)
