-- What a unit asks of its device, what that answers, and reports, over lists of bytes, and the same over what else stands for
-- their bytes (own).
use Rattle.std.specs.Prelude.{ℕ, List, [], Option, None, Some, take}
use Rattle.chan_model.specs.declared.chunk.Bytes.{Bytes}
use Rattle.chan_model.specs.declared.report.Call as declared_call
use Rattle.chan_model.specs.declared.report.Call.TheVariants as call
use Rattle.chan_model.specs.declared.report.DeviceAnswer as declared_answer
use Rattle.chan_model.specs.declared.report.DeviceAnswer.TheVariants as answer
use Rattle.chan_model.specs.declared.report.Report as declared_report
use Rattle.chan_model.specs.declared.report.Work as declared_work
use Rattle.chan_model.specs.declared.report.Work.TheVariants as work
use Rattle.chan_model.specs.Signals.{lent}

-- what a device is asked for, with its bytes
abbrev pub Call : Type 0
Call = declared_call.Call (List ℕ)

-- what a device answered, with its bytes
abbrev pub DeviceAnswer : Type 0
DeviceAnswer = declared_answer.DeviceAnswer (List ℕ)

-- an answer, with the command and the place that it is of
abbrev pub Report : Type 0
Report = declared_report.Report DeviceAnswer

-- what a unit has to do next
abbrev pub Work : Type 0
Work = declared_work.Work Call Report

-- an answer and a report whose bytes stand elsewhere, so many of them
abbrev pub KeptAnswer : Type 0
KeptAnswer = declared_answer.DeviceAnswer ℕ

abbrev pub KeptReport : Type 0
KeptReport = declared_report.Report KeptAnswer

-- the same answer over something else in place of its bytes
abbrev pub map_answer : {A B : Type 0} → (A → B) → declared_answer.DeviceAnswer A → declared_answer.DeviceAnswer B
map_answer f answer.Begins = answer.Begins
map_answer f (answer.Absorbed count) = answer.Absorbed count
map_answer f (answer.Supplied bytes) = answer.Supplied (f bytes)
map_answer f answer.Again = answer.Again
map_answer f (answer.Ended status more) = answer.Ended status more

-- the same report with another answer
abbrev pub map_report : {A B : Type 0} → (A → B) → declared_report.Report A → declared_report.Report B
map_report f r = record { side = r.side; answer = f r.answer; number = r.number; command = r.command; sequence = r.sequence }

-- the same call over something else in place of its bytes, and the same work over another call or report
abbrev pub map_call : {A B : Type 0} → (A → B) → declared_call.Call A → declared_call.Call B
map_call f (call.Initial code came_by) = call.Initial code came_by
map_call f (call.Absorb bytes) = call.Absorb (f bytes)
map_call f (call.Supply most) = call.Supply most
map_call f call.Finish = call.Finish

abbrev pub map_work : {C D R S : Type 0} → (C → D) → (R → S) → declared_work.Work C R → declared_work.Work D S
map_work f g (work.Call side number command sequence c) = work.Call side number command sequence (f c)
map_work f g (work.Report r) = work.Report (g r)

-- what has bytes that are lent
abbrev pub lent_answer : declared_answer.DeviceAnswer Bytes → DeviceAnswer
lent_answer a = map_answer lent a

abbrev pub lent_report : declared_report.Report (declared_answer.DeviceAnswer Bytes) → Report
lent_report r = map_report lent_answer r

abbrev pub lent_call : declared_call.Call Bytes → Call
lent_call c = map_call lent c

abbrev pub lent_work : declared_work.Work (declared_call.Call Bytes) (declared_report.Report (declared_answer.DeviceAnswer Bytes)) → Work
lent_work w = map_work lent_call lent_report w

abbrev pub lent_works : Option (declared_work.Work (declared_call.Call Bytes) (declared_report.Report (declared_answer.DeviceAnswer Bytes))) → Option Work
lent_works None = None
lent_works (Some w) = Some (lent_work w)

-- what an answer or a report whose bytes stand elsewhere is with the first of these bytes
abbrev pub answer_in : KeptAnswer → List ℕ → DeviceAnswer
answer_in kept bytes = map_answer (λ n. take n bytes) kept

abbrev pub report_in : KeptReport → List ℕ → Report
report_in kept bytes = map_report (λ a. answer_in a bytes) kept

-- the bytes of an answer, and how many stand elsewhere
abbrev pub answer_bytes : DeviceAnswer → List ℕ
answer_bytes (answer.Supplied bytes) = bytes
answer_bytes a = []

abbrev pub answer_length : KeptAnswer → ℕ
answer_length (answer.Supplied count) = count
answer_length a = 0
