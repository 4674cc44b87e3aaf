-- The steps in which a CPU executes an instruction that names no subchannel (SA22-7832, chapter 14), by what it is lent of the machine.
use Rattle.std.specs.Prelude.{ℕ, ◌+◌, ◌*◌, ◌==◌, Bool, false, if◌then◌else◌, List, [], ◌∷◌, map, slice_index_or, take, Option, None, Some, Result, Ok, Err}
use Rattle.std.specs.List.{range_with_len}
use Rattle.zbits.specs.Bits.{field_of}
use Rattle.zbits.specs.Layout.{word_of}
use Rattle.zbits.specs.Words.{bytes_of_words}
use Rattle.scsw_irb.specs.declared.code.IntCode.{IntCode}
use Rattle.scsw_irb.specs.CodeTable.{code_tables}
use Rattle.chan_events.specs.ReportWords.{report_word}
use Rattle.storage_keys.specs.declared.StorageFault.{StorageFault}
use Rattle.storage_keys.specs.Storage.{Contents, operand_check, operand_stored}
use Rattle.chan_model.specs.declared.fault.Fault.{Fault}
use Rattle.chan_model.specs.declared.fault.Fault.TheVariants as fault
use Rattle.chan_model.specs.ConditionCodes.{rchp_code}
use Rattle.chan_model.specs.PathSets.{mask_of_paths, each_path}
use Rattle.interruptions.specs.Requests as requests
use Rattle.channel_reports.specs.Queue as reports
use Rattle.chan_events.specs.declared.event.OtherInstruction.{OtherInstruction}
use Rattle.chan_events.specs.declared.event.OtherInstruction.TheVariants as other
use Rattle.chan_events.specs.Replies.{Reply}
use Rattle.chan_events.specs.declared.reply.Reply.TheVariants as reply
use Rattle.subchannel_model.specs.declared.state.Subchannel.{Subchannel}
use Rattle.subchannel_model.specs.Choosing.{any_engages}
use Rattle.machine_model.specs.State.{State}
use Rattle.machine_model.specs.Results.{Outcome, does}

-- TEST PENDING INTERRUPTION: two words at the address, which is on a word boundary; with address 0 three words at real 184.
-- They are tested even where nothing will be stored.
abbrev pub code_address : ℕ → ℕ
code_address address = if address == 0 then 184 else address

abbrev pub code_size : ℕ → ℕ
code_size address = if address == 0 then 12 else 8

abbrev pub code_check : Contents → ℕ → ℕ → Result (Unit {0}) StorageFault
code_check storage cpu address = operand_check storage cpu (code_address address) (code_size address) 4

-- the subsystem-identification word and the parameter; with address 0 the interruption-identification word too, at 192
abbrev pub code_words : ℕ → IntCode → List ℕ
code_words address code = if address == 0 then map word_of (code_tables code) else take 2 (map word_of (code_tables code))

-- nothing is stored with code 0
abbrev pub code_stored : Contents → ℕ → ℕ → Option IntCode → Contents
code_stored storage cpu address None = storage
code_stored storage cpu address (Some code) = operand_stored storage cpu (code_address address) (bytes_of_words (code_words address code))

-- up: the channel paths that are configured and not down
abbrev pub is_up : List Bool → ℕ → Bool
is_up up path = slice_index_or up path false

-- STORE CHANNEL PATH STATUS: 32 bytes on a boundary of 32; bit n is one where the channel path n is engaged
abbrev pub engaged_byte : List Bool → ℕ → ℕ
engaged_byte engaged index = mask_of_paths (each_path (λ p. slice_index_or engaged (8 * index + p) false))

unfoldable pub engaged_bytes : List Bool → ℕ → List ℕ
engaged_bytes engaged count = map (engaged_byte engaged) (range_with_len 0 count)

-- by identifier, the channel paths whose engine serves a subchannel
unfoldable pub engaged_chpids : List Subchannel → ℕ → List Bool
engaged_chpids subs count = map (any_engages subs) (range_with_len 0 count)

-- what an instruction that names no subchannel is lent of the machine
pub record LentWhole : Type 0 where
  pub storage : Contents
  pub requests : requests.WaitingRequests
  pub reports : reports.WaitingReports

abbrev pub lent_whole : Contents → requests.WaitingRequests → reports.WaitingReports → LentWhole
lent_whole storage waiting queue = record { storage = storage; requests = waiting; reports = queue }

-- what it answers, and leaves of that
pub record OtherResult : Type 0 where
  pub answer : Reply
  pub left : LentWhole

abbrev pub answers : Reply → LentWhole → Result OtherResult Fault
answers answer left = Ok (record { answer = answer; left = left })

-- where the operand was tested
abbrev pub where_stored : Result (Unit {0}) StorageFault → Result OtherResult Fault → Result OtherResult Fault
where_stored (Ok u) turn = turn
where_stored (Err f) turn = Err (fault.Storage f)

abbrev pub tpi_result : LentWhole → ℕ → ℕ → ℕ → Result OtherResult Fault
tpi_result old cpu mask address =
    let found = requests.answer old.requests mask in
    where_stored (code_check old.storage cpu address) (answers (reply.Interruption found)
    (record old { storage = code_stored old.storage cpu address found; requests = requests.after_answer old.requests found }))

-- STORE CHANNEL REPORT WORD
abbrev pub stcrw_result : LentWhole → ℕ → ℕ → Result OtherResult Fault
stcrw_result old cpu address =
    let report = reports.oldest old.reports in
    let storage = operand_stored old.storage cpu address (bytes_of_words (report_word report ∷ [])) in
    where_stored (operand_check old.storage cpu address 4 4)
    (answers (reply.ChannelReport report) (record old { storage = storage; reports = reports.without_oldest old.reports }))

-- RESET CHANNEL PATH: of general register 1 bits 0 to 23 are zero, and bits 24 to 31 name the path
abbrev pub rchp_result : LentWhole → List Bool → ℕ → Result OtherResult Fault
rchp_result old up path =
    let named = field_of path 24 31 in
    let code = rchp_code (is_up up named) (reports.is_asked old.reports named) in
    let left = record old { reports = reports.with_rchp old.reports named (is_up up named) } in
    if field_of path 0 23 == 0 then answers (reply.PathReset code) left else Err fault.Operand

abbrev pub stcps_result : LentWhole → List Bool → ℕ → ℕ → Result OtherResult Fault
stcps_result old engaged cpu address =
    let bytes = engaged_bytes engaged 32 in
    where_stored (operand_check old.storage cpu address 32 32)
    (answers (reply.Paths bytes) (record old { storage = operand_stored old.storage cpu address bytes }))

-- up: the channel paths that are configured and not down; engaged: those whose engine serves a subchannel
abbrev pub other_result : LentWhole → List Bool → List Bool → ℕ → OtherInstruction → Result OtherResult Fault
other_result old up engaged cpu (other.Tpi mask address) = tpi_result old cpu mask address
other_result old up engaged cpu (other.Rchp path) = rchp_result old up path
other_result old up engaged cpu (other.Stcrw address) = stcrw_result old cpu address
other_result old up engaged cpu (other.Stcps address) = stcps_result old engaged cpu address

abbrev pub with_lent : State → LentWhole → State
with_lent s left = record s { storage = left.storage; requests = left.requests; reports = left.reports }

abbrev pub other_done : State → Result OtherResult Fault → Outcome
other_done s (Ok t) = does t.answer (with_lent s t.left)
other_done s (Err f) = Err f

abbrev pub other_at : State → ℕ → OtherInstruction → Outcome
other_at s cpu i = other_done s (other_result (lent_whole s.storage s.requests s.reports) s.up (engaged_chpids s.subs 0x100) cpu i)
