-- How long the line of an event is.
use Rattle.std.proofs.Common.{ℕ, ◌≤◌, List, [], ◌∷◌, ◌++◌, length, arith, length-append}
use Rattle.std.specs.Prelude.{true, false}
use Rattle.chan_events.specs.Events.{Event}
use Rattle.chan_events.specs.declared.event.Event.TheVariants as event
use Rattle.chan_events.specs.declared.event.Instruction.{Instruction}
use Rattle.chan_events.specs.declared.event.Instruction.TheVariants.{Ssch, Tsch, Stsch, Msch, Rsch, Hsch, Csch, Xsch, Enable}
use Rattle.chan_events.specs.declared.event.OtherInstruction.{OtherInstruction}
use Rattle.chan_events.specs.declared.event.OtherInstruction.TheVariants.{Tpi, Rchp, Stcrw, Stcps}
use Rattle.chan_events.specs.declared.event.UnitAct.{UnitAct}
use Rattle.chan_events.specs.declared.event.UnitAct.TheVariants as act
use Rattle.chan_model.specs.Reports.{DeviceAnswer, answer_bytes}
use Rattle.chan_model.specs.declared.report.DeviceAnswer.TheVariants.{Begins, Absorbed, Supplied, Again, Ended}
use Rattle.chan_events.specs.Events.{event_bytes}
use Rattle.event_lines.specs.EventLines.{answer_words, bytes_word, event_text, instruction_words, other_words, spaced}
use Rattle.event_lines.proofs.Digits.{digits_length}

bytes_long : (bytes : List ℕ) → length bytes ≤ 256 → length (bytes_word bytes ++ []) ≤ 512
bytes_long [] few = omega arith
bytes_long (b ∷ bs) few = omega (arith, length-append (bytes_word (b ∷ bs)) [], digits_length (b ∷ bs))

instruction_long : (i : Instruction) → length (spaced (instruction_words i)) ≤ 580
instruction_long (Ssch s a) = omega arith
instruction_long (Tsch s a) = omega arith
instruction_long (Stsch s a) = omega arith
instruction_long (Msch s a) = omega arith
instruction_long (Rsch s) = omega arith
instruction_long (Hsch s) = omega arith
instruction_long (Csch s) = omega arith
instruction_long (Xsch s) = omega arith
instruction_long (Enable s subclass multipath) = omega arith

other_long : (i : OtherInstruction) → length (spaced (other_words i)) ≤ 580
other_long (Tpi mask a) = omega arith
other_long (Rchp path) = omega arith
other_long (Stcrw a) = omega arith
other_long (Stcps a) = omega arith

answer_long : (a : DeviceAnswer) → length (answer_bytes a) ≤ 256 → length (spaced (answer_words a)) ≤ 522
answer_long Begins few = omega arith
answer_long (Absorbed count) few = omega arith
answer_long (Supplied bytes) few = omega (arith, bytes_long bytes few)
answer_long Again few = omega arith
answer_long (Ended status false) few = omega arith
answer_long (Ended status true) few = omega arith

act_long : (u : ℕ) (a : UnitAct) → length (event_text (event.Act u a)) ≤ 590
act_long u act.Leave = omega arith
act_long u (act.Ask path) = omega arith
act_long u (act.Attention path side) = omega arith
act_long u (act.Notice path side) = omega arith

pub event_long : (e : Event) → length (event_bytes e) ≤ 256 → length (event_text e) ≤ 590
event_long (event.Put a bytes) few = omega (arith, bytes_long bytes few)
event_long (event.SetKey a key) few = omega arith
event_long (event.SetPrefix cpu a) few = omega arith
event_long (event.Show a count) few = omega arith
event_long (event.Execute cpu i) few = omega (arith, instruction_long i)
event_long (event.ExecuteOther cpu i) few = omega (arith, other_long i)
event_long (event.Choose s) few = omega arith
event_long (event.Up s path) few = omega arith
event_long (event.Down s path) few = omega arith
event_long (event.Report u r) few = omega (arith, answer_long r.answer few)
event_long (event.Act u a) few = act_long u a
event_long (event.Restart u) few = omega arith
event_long (event.PathDown c) few = omega arith
event_long (event.PathUp c) few = omega arith
event_long (event.PathReset c) few = omega arith
event_long event.SystemReset few = omega arith
