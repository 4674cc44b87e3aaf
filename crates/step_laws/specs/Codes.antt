-- By which table an instruction's condition code is (SA22-7832, chapter 14).
use Rattle.chan_model.specs.declared.answer.ConditionCode.{ConditionCode}
use Rattle.chan_events.specs.declared.event.Instruction.{Instruction}
use Rattle.chan_events.specs.declared.event.Instruction.TheVariants as instruction
use Rattle.subchannel_model.specs.declared.status.Condition.{Condition}
use Rattle.subchannel_model.specs.Cancel.{xsch_code}
use Rattle.subchannel_model.specs.Clear.{csch_code}
use Rattle.subchannel_model.specs.Halt.{hsch_code}
use Rattle.subchannel_model.specs.Modify.{msch_code}
use Rattle.subchannel_model.specs.Resume.{rsch_code}
use Rattle.subchannel_model.specs.Start.{ssch_code}
use Rattle.subchannel_model.specs.Store.{stsch_code}
use Rattle.subchannel_model.specs.Test.{tsch_code}

-- the column of an instruction; enabling is a MODIFY
abbrev pub code_by : Instruction → Condition → ConditionCode
code_by (instruction.Ssch word address) c = ssch_code c
code_by (instruction.Tsch word address) c = tsch_code c
code_by (instruction.Stsch word address) c = stsch_code c
code_by (instruction.Msch word address) c = msch_code c
code_by (instruction.Enable word subclass multipath) c = msch_code c
code_by (instruction.Rsch word) c = rsch_code c
code_by (instruction.Hsch word) c = hsch_code c
code_by (instruction.Csch word) c = csch_code c
code_by (instruction.Xsch word) c = xsch_code c
