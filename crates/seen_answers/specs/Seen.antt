-- What an act answered, in few words.
use Rattle.std.specs.Prelude.{ℕ, Bool, List, [], ◌++◌, codes, map, slice_index_or, Option, None, Some, Result, Ok, Err, if◌then◌else◌}
use Rattle.zbits.specs.Layout.{word_of}
use Rattle.scsw_irb.specs.declared.scsw.Scsw.{Scsw}
use Rattle.scsw_irb.specs.ScswTable.{scsw_tables}
use Rattle.scsw_irb.specs.declared.code.IntCode.{IntCode}
use Rattle.scsw_irb.specs.declared.crw.Crw.{Crw}
use Rattle.scsw_irb.specs.declared.crw.PathReport.{PathReport}
use Rattle.scsw_irb.specs.declared.crw.PathReport.TheVariants.{Lost, Back, Initialized, ResetDone}
use Rattle.chan_model.specs.declared.answer.Answer.{Answer}
use Rattle.chan_model.specs.declared.answer.ConditionCode.{ConditionCode}
use Rattle.chan_model.specs.declared.answer.ConditionCode.TheVariants.{Zero, One, Two, Three}
use Rattle.chan_model.specs.ConditionCodes.{code_of}
use Rattle.chan_events.specs.Replies.{Reply}
use Rattle.chan_events.specs.declared.reply.Reply.TheVariants as reply
use Rattle.chan_model.specs.declared.fault.Fault.{Fault}
use Rattle.script_text.specs.declared.ActionResult.{ActionResult}
use Rattle.script_text.specs.declared.ActionResult.TheVariants as told
use Rattle.script_text.specs.Text.{byte_text, code_text, reply_text, outcome_text}
use Rattle.record_text.specs.Numbers.{hexadecimal, eight_digits}
use Rattle.record_text.specs.Names.{subchannel_name}
use Rattle.word_names.specs.declared.instruction.Instruction.TheVariants.{Start, Resume, Cancel}
use Rattle.seen_answers.specs.declared.instruction.CpuAct.{CpuAct}
use Rattle.seen_answers.specs.declared.instruction.CpuAct.TheVariants.{Executes}
use Rattle.seen_answers.specs.SeenWords.{scsw_seen}

-- what the condition code of an act that shows no words says (chapter 14)
abbrev pub zero_meaning : CpuAct → List ℕ
zero_meaning (Executes Start) = codes "  accepted"
zero_meaning _ = []

abbrev pub two_meaning : CpuAct → List ℕ
two_meaning (Executes Resume) = codes "  not applicable"
two_meaning (Executes Cancel) = codes "  not applicable"
two_meaning _ = codes "  busy"

abbrev pub meaning : CpuAct → ConditionCode → List ℕ
meaning act Zero = zero_meaning act
meaning act One = codes "  status pending"
meaning act Two = two_meaning act
meaning act Three = codes "  not operational"

abbrev pub meant_text : CpuAct → ConditionCode → List ℕ
meant_text act code = code_text code ++ meaning act code

-- the condition code, and the status word that was stored
abbrev pub words_text : List ℕ → List ℕ
words_text words = scsw_seen (slice_index_or words 0 0) (slice_index_or words 1 0) (slice_index_or words 2 0)

abbrev pub status_seen : Answer → Scsw → List ℕ
status_seen answer scsw = code_text (code_of answer) ++ words_text (map word_of (scsw_tables scsw))

-- the request that was taken out: its subchannel, its parameter and its subclass
abbrev pub request_subchannel : IntCode → List ℕ
request_subchannel code = codes "cc 1  subchannel " ++ subchannel_name (record { set = code.set; number = code.subchannel })

abbrev pub request_parameter : IntCode → List ℕ
request_parameter code = codes ", parameter " ++ eight_digits code.parameter ++ (codes ", subclass " ++ hexadecimal code.subclass)

abbrev pub request_seen : IntCode → List ℕ
request_seen code = request_subchannel code ++ request_parameter code

abbrev pub interruption_seen : Option IntCode → List ℕ
interruption_seen None = codes "cc 0  no request"
interruption_seen (Some code) = request_seen code

-- what is reported of a channel path
abbrev pub report_meaning : PathReport → List ℕ
report_meaning Lost = codes " was lost"
report_meaning Back = codes " is back"
report_meaning Initialized = codes " is back, initialized"
report_meaning ResetDone = codes " was reset"

abbrev pub overflow_meaning : Bool → List ℕ
overflow_meaning overflow = if overflow then codes "; later reports were lost" else []

abbrev pub path_name : ℕ → List ℕ
path_name path = codes "cc 0  channel path " ++ byte_text path

abbrev pub path_seen : Crw → List ℕ
path_seen crw = path_name crw.path ++ (report_meaning crw.report ++ overflow_meaning crw.overflow)

abbrev pub report_seen : Option Crw → List ℕ
report_seen None = codes "cc 1  no report"
report_seen (Some crw) = path_seen crw

-- what has no condition code, as it is printed
abbrev pub uncoded_reply : Reply → List ℕ
uncoded_reply given = codes "      " ++ reply_text given

abbrev pub uncoded_text : Result ActionResult Fault → List ℕ
uncoded_text outcome = codes "      " ++ outcome_text outcome

abbrev pub reply_seen : CpuAct → Reply → List ℕ
reply_seen act (reply.Code answer) = meant_text act (code_of answer)
reply_seen act (reply.PathReset code) = meant_text act code
reply_seen act (reply.Status answer scsw) = status_seen answer scsw
reply_seen act (reply.Interruption found) = interruption_seen found
reply_seen act (reply.ChannelReport found) = report_seen found
reply_seen act other = uncoded_reply other

unfoldable pub outcome_seen : CpuAct → Result ActionResult Fault → List ℕ
outcome_seen act (Ok (told.Reply it)) = reply_seen act it
outcome_seen act (Ok (told.Serials it)) = uncoded_text (Ok (told.Serials it))
outcome_seen act (Ok (told.Race it)) = uncoded_text (Ok (told.Race it))
outcome_seen act (Err fault) = uncoded_text (Err fault)
