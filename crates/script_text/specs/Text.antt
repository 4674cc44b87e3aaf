-- The texts that are printed, byte for byte (own).
use Rattle.std.specs.Prelude.{ℕ, zero, suc, ◌+◌, ◌/◌, ◌%◌, ◌==◌, nat_lt, Bool, List, [], ◌∷◌, ◌++◌, codes, decimal, map, slice_index_or, Option, None, Some, Result, Ok, Err, if◌then◌else◌}
use Rattle.std.specs.List.{flat_map, list_all}
use Rattle.zbits.specs.Bits.{bit_of}
use Rattle.zbits.specs.Layout.{word_of}
use Rattle.storage_keys.specs.declared.StorageFault.{StorageFault}
use Rattle.storage_keys.specs.declared.StorageFault.TheVariants.{Addressing, Protection, Specification}
use Rattle.scsw_irb.specs.declared.scsw.Scsw.{Scsw}
use Rattle.scsw_irb.specs.ScswTable.{scsw_tables}
use Rattle.scsw_irb.specs.declared.code.IntCode.{IntCode}
use Rattle.scsw_irb.specs.CodeTable.{code_tables}
use Rattle.scsw_irb.specs.declared.crw.Crw.{Crw}
use Rattle.scsw_irb.specs.declared.serials.Serials.{Serials}
use Rattle.chan_model.specs.Signals.{Down}
use Rattle.chan_model.specs.declared.signal.Down.TheVariants as down
use Rattle.chan_model.specs.Signals.{Up}
use Rattle.chan_model.specs.declared.signal.Up.TheVariants as up
use Rattle.chan_model.specs.declared.answer.Answer.{Answer}
use Rattle.chan_model.specs.declared.answer.ConditionCode.{ConditionCode}
use Rattle.chan_model.specs.declared.answer.ConditionCode.TheVariants.{Zero, One, Two, Three}
use Rattle.chan_model.specs.ConditionCodes.{code_of, stcrw_code}
use Rattle.chan_events.specs.ReportWords.{report_word}
use Rattle.chan_events.specs.Replies.{Reply}
use Rattle.chan_events.specs.declared.reply.Reply.TheVariants as reply
use Rattle.chan_model.specs.declared.fault.Fault.{Fault}
use Rattle.chan_model.specs.declared.fault.Fault.TheVariants as fault
use Rattle.script_text.specs.declared.ActionResult.{ActionResult}
use Rattle.script_text.specs.declared.race.RaceCount.{RaceCount}
use Rattle.script_text.specs.declared.ActionResult.TheVariants as told

-- 0 to 9 and A to F
abbrev pub hex_digit : ℕ → ℕ
hex_digit d = if nat_lt d 10 then 48 + d else 55 + d

-- the two digits of a byte
abbrev pub byte_text : ℕ → List ℕ
byte_text n = hex_digit (n / 0x10 % 16) ∷ hex_digit (n % 16) ∷ []

-- a space and the eight digits of a word
abbrev pub word_text : ℕ → List ℕ
word_text n = 32 ∷ hex_digit (n / 0x10000000 % 16) ∷ hex_digit (n / 0x1000000 % 16) ∷ hex_digit (n / 0x100000 % 16) ∷ hex_digit (n / 0x10000 % 16)
    ∷ hex_digit (n / 0x1000 % 16) ∷ hex_digit (n / 0x100 % 16) ∷ hex_digit (n / 0x10 % 16) ∷ hex_digit (n % 16) ∷ []

-- the three words of a subchannel-status word (SA22-7832, chapter 16)
abbrev pub scsw_text : Scsw → List ℕ
scsw_text scsw = flat_map word_text (map word_of (scsw_tables scsw))

abbrev pub code_text : ConditionCode → List ℕ
code_text Zero = codes "cc 0"
code_text One = codes "cc 1"
code_text Two = codes "cc 2"
code_text Three = codes "cc 3"

abbrev pub answer_text : Answer → List ℕ
answer_text answer = code_text (code_of answer)

-- TEST PENDING INTERRUPTION: the three words of the code of the request that it took out
abbrev pub request_text : IntCode → List ℕ
request_text code = code_text One ++ flat_map word_text (map word_of (code_tables code))

abbrev pub interruption_text : Option IntCode → List ℕ
interruption_text None = code_text Zero
interruption_text (Some code) = request_text code

-- STORE CHANNEL REPORT WORD: the word that it stored
abbrev pub report_text : Option Crw → List ℕ
report_text report = code_text (stcrw_code report) ++ word_text (report_word report)

-- bit n, from the left, of the bytes that STORE CHANNEL PATH STATUS stored
abbrev pub is_engaged : List ℕ → ℕ → Bool
is_engaged engaged path = bit_of (slice_index_or engaged (path / 8) 0) (24 + path % 8) == 1

-- a space and the two digits of the identifier of each engaged channel path below a number, in rising order
abbrev pub path_text : List ℕ → ℕ → List ℕ
path_text engaged path = if is_engaged engaged path then 32 ∷ byte_text path else []

unfoldable pub engaged_text : List ℕ → ℕ → List ℕ
engaged_text engaged zero = []
engaged_text engaged (suc path) = engaged_text engaged path ++ path_text engaged path

abbrev pub named_paths_text : List ℕ → List ℕ
named_paths_text engaged = codes "paths" ++ engaged_text engaged 256

-- a minus sign where no channel path is engaged
abbrev pub is_none_engaged : List ℕ → Bool
is_none_engaged engaged = list_all (λ byte. byte == 0) engaged

abbrev pub paths_text : List ℕ → List ℕ
paths_text engaged = if is_none_engaged engaged then codes "paths -" else named_paths_text engaged

abbrev pub down_name : Down → List ℕ
down_name (down.Select t) = codes "select"
down_name (down.Command t n code room) = codes "command"
down_name (down.Grant t c) = codes "grant"
down_name (down.Refuse t c) = codes "refuse"
down_name (down.Took t n s room) = codes "took"
down_name (down.Give bytes t c n s) = codes "give"
down_name (down.Halt t) = codes "halt"
down_name (down.Release t) = codes "release"
down_name (down.Reset t b) = codes "reset"
down_name (down.Got a) = codes "got"

abbrev pub up_name : Up → List ℕ
up_name (up.Accept t) = codes "accept"
up_name (up.Busy t) = codes "busy"
up_name (up.Leave t c) = codes "leave"
up_name (up.Back t c) = codes "back"
up_name (up.Data load t c n s) = codes "data"
up_name (up.End t n status more) = codes "end"
up_name (up.Released t) = codes "released"
up_name (up.Cleared t) = codes "cleared"
up_name (up.Notice b) = codes "notice"
up_name (up.Attn a status) = codes "attn"

-- a signal that was met: `took` where a state changed or a signal was sent
abbrev pub taken_text : Bool → List ℕ
taken_text taken = if taken then codes "took " else codes "ignored "

abbrev pub reply_text : Reply → List ℕ
reply_text reply.Done = codes "done"
reply_text (reply.Shown bytes) = flat_map byte_text bytes
reply_text (reply.Code answer) = answer_text answer
reply_text (reply.Status answer scsw) = answer_text answer ++ scsw_text scsw
reply_text (reply.Interruption found) = interruption_text found
reply_text (reply.PathReset code) = code_text code
reply_text (reply.ChannelReport report) = report_text report
reply_text (reply.Paths engaged) = paths_text engaged
reply_text (reply.Offered number path resumed) = codes "offer " ++ decimal path
reply_text (reply.ResetSent number path) = codes "reset " ++ decimal path
reply_text (reply.HaltSent number path) = codes "halt " ++ decimal path
reply_text reply.Pending = codes "status"
reply_text reply.Idle = codes "idle"
reply_text (reply.Up signal taken sent) = taken_text taken ++ up_name signal
reply_text (reply.Down signal taken sent) = taken_text taken ++ down_name signal

abbrev pub storage_text : StorageFault → List ℕ
storage_text Addressing = codes "refused 10 addressing"
storage_text Protection = codes "refused 10 protection"
storage_text Specification = codes "refused 10 specification"

abbrev pub refusal_text : Fault → List ℕ
refusal_text fault.NoMemory = codes "refused 1"
refusal_text fault.WireFull = codes "refused 2"
refusal_text fault.NotSent = codes "refused 3"
refusal_text fault.NoSuchSubchannel = codes "refused 4"
refusal_text fault.NoSuchPath = codes "refused 5"
refusal_text fault.NoSuchUnit = codes "refused 6"
refusal_text fault.NotNow = codes "refused 7"
refusal_text (fault.ConfigBad rule) = codes "refused 8"
refusal_text (fault.ScriptBad line rule) = codes "refused 9"
refusal_text (fault.Storage kind) = storage_text kind
refusal_text fault.Operand = codes "refused 11"

-- the serials of a subchannel
abbrev pub serials_text : Serials → List ℕ
serials_text serials = codes "made " ++ decimal serials.made ++ codes " cleared " ++ decimal serials.cleared

-- a race: how many instructions answered each condition code, how many entries the history has of it, and the audit
abbrev pub race_codes_text : RaceCount → List ℕ
race_codes_text race =
    codes "race cc0 " ++ decimal race.zero ++ codes " cc1 " ++ decimal race.one
    ++ (codes " cc2 " ++ decimal race.two ++ codes " cc3 " ++ decimal race.three)

abbrev pub audit_text : Bool → List ℕ
audit_text audited = if audited then codes " audit ok" else codes " audit failed"

abbrev pub race_text : RaceCount → List ℕ
race_text race = race_codes_text race ++ (codes " entries " ++ decimal race.entries ++ audit_text race.audited)

abbrev pub told_text : ActionResult → List ℕ
told_text (told.Reply it) = reply_text it
told_text (told.Serials it) = serials_text it
told_text (told.Race it) = race_text it

abbrev pub outcome_text : Result ActionResult Fault → List ℕ
outcome_text (Ok it) = told_text it
outcome_text (Err it) = refusal_text it

-- the line of one action: its line's number, and what it came to
abbrev pub event_line : ℕ → Result ActionResult Fault → List ℕ
event_line n outcome = decimal n ++ 32 ∷ outcome_text outcome ++ 10 ∷ []

-- what an event comes to, as an action
abbrev pub told_of : Result Reply Fault → Result ActionResult Fault
told_of (Ok r) = Ok (told.Reply r)
told_of (Err f) = Err f

-- the line of a bad script
abbrev pub bad_text : ℕ → ℕ → List ℕ
bad_text line rule = codes "bad line " ++ decimal line ++ codes " rule " ++ decimal rule ++ 10 ∷ []
