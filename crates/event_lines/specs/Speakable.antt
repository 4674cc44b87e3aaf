-- The events that a line can ask for (own).
use Rattle.std.specs.Prelude.{ℕ, ◌<◌, ◌≤◌, List, length}
use Rattle.std.specs.List.{All}
use Rattle.chan_events.specs.Events.{Event}
use Rattle.chan_events.specs.declared.event.Event.TheVariants as event
use Rattle.chan_events.specs.declared.event.Instruction.{Instruction}
use Rattle.chan_events.specs.declared.event.Instruction.TheVariants.{Ssch, Tsch, Stsch, Msch, Rsch, Hsch, Csch, Xsch, Enable}
use Rattle.chan_events.specs.declared.event.OtherInstruction.{OtherInstruction}
use Rattle.chan_events.specs.declared.event.OtherInstruction.TheVariants.{Tpi, Rchp, Stcrw, Stcps}
use Rattle.chan_events.specs.declared.event.UnitAct.{UnitAct}
use Rattle.chan_events.specs.declared.event.UnitAct.TheVariants as act
use Rattle.chan_model.specs.Reports.{DeviceAnswer, Report}
use Rattle.chan_model.specs.declared.report.DeviceAnswer.TheVariants.{Begins, Absorbed, Supplied, Again, Ended}

-- numbers of 32 and of 64 bits, and bytes, as the code has them
abbrev pub IsWord : ℕ → Type 0
IsWord n = n < 4294967296

abbrev pub IsDoubleword : ℕ → Type 0
IsDoubleword n = n < 18446744073709551616

abbrev pub AreBytes : List ℕ → Type 0
AreBytes bytes = All (λ byte. byte < 256) bytes × (length bytes ≤ 256)

-- an instruction of a CPU; interruption subclasses are 0 to 7
abbrev pub IsSpeakableInstruction : Instruction → Type 0
IsSpeakableInstruction (Ssch s a) = IsWord s × IsWord a
IsSpeakableInstruction (Tsch s a) = IsWord s × IsWord a
IsSpeakableInstruction (Stsch s a) = IsWord s × IsWord a
IsSpeakableInstruction (Msch s a) = IsWord s × IsWord a
IsSpeakableInstruction (Rsch s) = IsWord s
IsSpeakableInstruction (Hsch s) = IsWord s
IsSpeakableInstruction (Csch s) = IsWord s
IsSpeakableInstruction (Xsch s) = IsWord s
IsSpeakableInstruction (Enable s subclass multipath) = IsWord s × (subclass ≤ 7)

abbrev pub IsSpeakableOther : OtherInstruction → Type 0
IsSpeakableOther (Tpi mask a) = (mask < 256) × IsWord a
IsSpeakableOther (Rchp path) = IsWord path
IsSpeakableOther (Stcrw a) = IsWord a
IsSpeakableOther (Stcps a) = IsWord a

abbrev pub IsSpeakableAct : UnitAct → Type 0
IsSpeakableAct act.Leave = Unit {0}
IsSpeakableAct (act.Ask path) = IsWord path
IsSpeakableAct (act.Attention path side) = IsWord path
IsSpeakableAct (act.Notice path side) = IsWord path

abbrev pub IsSpeakableAnswer : DeviceAnswer → Type 0
IsSpeakableAnswer Begins = Unit {0}
IsSpeakableAnswer (Absorbed count) = count < 65536
IsSpeakableAnswer (Supplied bytes) = AreBytes bytes
IsSpeakableAnswer Again = Unit {0}
IsSpeakableAnswer (Ended status more) = status.0 < 256

pub record IsSpeakableReport (r : Report) : Type 0 where
  pub answer : IsSpeakableAnswer r.answer
  pub number : IsDoubleword r.number
  pub command : IsDoubleword r.command
  pub sequence : IsDoubleword r.sequence

-- a line puts at least one byte, and shows 1 to 64
abbrev pub IsSpeakable : Event → Type 0
IsSpeakable (event.Put a bytes) = IsWord a × (AreBytes bytes × (1 ≤ length bytes))
IsSpeakable (event.SetKey a key) = IsWord a
IsSpeakable (event.SetPrefix cpu a) = (cpu < 16) × IsWord a
IsSpeakable (event.Show a count) = IsWord a × ((1 ≤ count) × (count ≤ 64))
IsSpeakable (event.Execute cpu instruction) = (cpu < 16) × IsSpeakableInstruction instruction
IsSpeakable (event.ExecuteOther cpu instruction) = (cpu < 16) × IsSpeakableOther instruction
IsSpeakable (event.Choose s) = IsWord s
IsSpeakable (event.Up s path) = IsWord s × IsWord path
IsSpeakable (event.Down s path) = IsWord s × IsWord path
IsSpeakable (event.Report u r) = IsWord u × IsSpeakableReport r
IsSpeakable (event.Act u act) = IsWord u × IsSpeakableAct act
IsSpeakable (event.Restart u) = IsWord u
IsSpeakable (event.PathDown chpid) = IsWord chpid
IsSpeakable (event.PathUp chpid) = IsWord chpid
IsSpeakable (event.PathReset chpid) = IsWord chpid
IsSpeakable event.SystemReset = Unit {0}
