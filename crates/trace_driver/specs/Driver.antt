-- The view of a program on the CPUs.
use Rattle.std.specs.Prelude.{ℕ, ◌+◌, ◌-◌, ◌==◌, Bool, true, false, List, [], ◌∷◌, ◌++◌, codes, decimal, length, replicate, Option, None, Some, Result, if◌then◌else◌}
use Rattle.chan_model.specs.declared.fault.Fault.{Fault}
use Rattle.script_text.specs.declared.ActionResult.{ActionResult}
use Rattle.step_records.specs.declared.parties.Parties.{Parties}
use Rattle.step_records.specs.declared.record.Record.{Record}
use Rattle.step_records.specs.declared.record.Fact.{Fact}
use Rattle.step_records.specs.declared.record.Fact.TheVariants as fact
use Rattle.step_records.specs.declared.style.Drawing.{Drawing}
use Rattle.step_records.specs.declared.style.Drawing.TheVariants.{Drawn, Ascii}
use Rattle.step_records.specs.declared.trace.Trace.{Trace}
use Rattle.step_records.specs.Lines.{line_of}
use Rattle.record_text.specs.Numbers.{hexadecimal}
use Rattle.record_text.specs.Names.{subchannel_text}
use Rattle.trace_driver.specs.declared.driver.Unseen.{Unseen}
use Rattle.seen_answers.specs.declared.instruction.CpuAct.{CpuAct}
use Rattle.seen_answers.specs.Instructions.{act_of}
use Rattle.seen_answers.specs.Seen.{outcome_seen}
use Rattle.trace_driver.specs.Visible.{is_visible}

-- an ellipsis, and a bolt, in UTF-8
abbrev pub ellipsis : Drawing → List ℕ
ellipsis Drawn = 0xE2 ∷ 0x80 ∷ 0xA6 ∷ []
ellipsis Ascii = codes ".."

abbrev pub bolt : Drawing → List ℕ
bolt Drawn = 0xE2 ∷ 0x9A ∷ 0xA1 ∷ []
bolt Ascii = codes "!"

-- the number of a line in five columns, and two blanks
abbrev pub number_text : ℕ → List ℕ
number_text line = replicate (5 - length (decimal line)) 32 ++ (decimal line ++ codes "  ")

-- a line of the script, in fifteen columns or more
abbrev pub padded_text : List ℕ → List ℕ
padded_text line = line ++ replicate (14 - length line + 1) 32

-- the line that made something seen
abbrev pub by_text : List ℕ → List ℕ
by_text line = codes "   (by: " ++ line ++ codes ")\n"

-- what was done by a line, and what it answered
abbrev pub acted_text : List ℕ → CpuAct → Result ActionResult Fault → List ℕ
acted_text line act outcome = padded_text line ++ (outcome_seen act outcome ++ 10 ∷ [])

abbrev pub answered_text : List ℕ → Option CpuAct → Result ActionResult Fault → List ℕ
answered_text line None outcome = []
answered_text line (Some act) outcome = acted_text line act outcome

abbrev pub answer_text : List ℕ → Result ActionResult Fault → List ℕ
answer_text line outcome = answered_text line (act_of line) outcome

-- a request that was posted
abbrev pub requesting_text : Parties → Drawing → ℕ → List ℕ
requesting_text parties drawing subchannel =
    bolt drawing ++ codes " a request for an I/O interruption, subchannel " ++ subchannel_text parties subchannel

abbrev pub request_text : Parties → Drawing → ℕ → ℕ → List ℕ
request_text parties drawing subchannel subclass =
    requesting_text parties drawing subchannel ++ (codes ", subclass " ++ hexadecimal subclass)

-- a report that waits
abbrev pub report_text : Drawing → List ℕ
report_text drawing = bolt drawing ++ codes " a channel report waits: machine-check interruption condition"

abbrev pub requested_text : Parties → Drawing → ℕ → ℕ → List ℕ → List ℕ
requested_text parties drawing subchannel subclass line = request_text parties drawing subchannel subclass ++ by_text line

abbrev pub reported_text : Drawing → List ℕ → List ℕ
reported_text drawing line = report_text drawing ++ by_text line

-- a fact that a program sees of a line
abbrev pub told_text : Parties → Drawing → List ℕ → Fact → List ℕ
told_text _ _ line (fact.Answer outcome) = answer_text line outcome
told_text parties drawing line (fact.Request subchannel subclass change) = requested_text parties drawing subchannel subclass line
told_text _ drawing line (fact.Report change crw) = reported_text drawing line
told_text _ _ _ _ = []

abbrev pub fact_text : Trace → Drawing → Record → List ℕ
fact_text trace drawing told = told_text trace.parties drawing (line_of trace.text told.line) told.fact

-- a record that a program sees: the number of its line, and what it tells
unfoldable pub visible_text : Trace → Drawing → Record → List ℕ
visible_text trace drawing told = number_text told.line ++ fact_text trace drawing told

-- how many events no program sees: those of the lines before the last, and whether nothing was seen of the last yet
abbrev pub none : Unseen
none = record { before = 0; waits = false }

abbrev pub count : Unseen → ℕ
count unseen = if unseen.waits then unseen.before + 1 else unseen.before

abbrev pub is_event : Fact → Bool
is_event fact.Event = true
is_event _ = false

-- after a record that is seen, none; after an event, that of its line waits
abbrev pub after : Unseen → Bool → Bool → Unseen
after unseen event seen =
    if seen then none else
    if event then record { before = count unseen; waits = true } else
    unseen

abbrev pub events_name : ℕ → List ℕ
events_name n = if n == 1 then codes " event that no program sees\n" else codes " events that no program sees\n"

abbrev pub events_text : ℕ → List ℕ
events_text n = 32 ∷ decimal n ++ events_name n

abbrev pub some_gap_text : Drawing → ℕ → List ℕ
some_gap_text drawing n = codes "       " ++ ellipsis drawing ++ events_text n

abbrev pub gap_text : Drawing → ℕ → List ℕ
gap_text drawing n = if n == 0 then [] else some_gap_text drawing n

-- what a record shows: where a program sees it, how many events it did not see before, and the record; else nothing
abbrev pub after_gap_text : Trace → Drawing → Record → ℕ → List ℕ
after_gap_text trace drawing told unseen = gap_text drawing unseen ++ visible_text trace drawing told

abbrev pub row_text : Trace → Drawing → Record → Unseen → List ℕ
row_text trace drawing told unseen =
    if is_visible trace.text told then after_gap_text trace drawing told unseen.before else []

-- the records in order, and how many events were not seen after the last
unfoldable pub rows_text : Trace → Drawing → Unseen → List Record → List ℕ
rows_text trace drawing unseen [] = gap_text drawing (count unseen)
rows_text trace drawing unseen (told ∷ others) =
    row_text trace drawing told unseen ++ rows_text trace drawing (after unseen (is_event told.fact) (is_visible trace.text told)) others

abbrev pub driver_text : Trace → Drawing → List ℕ
driver_text trace drawing = codes "what a program on the CPUs can see\n\n" ++ rows_text trace drawing none trace.records.items
