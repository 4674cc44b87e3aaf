-- What a unit is to do next, over its work with bytes, and the same over what else stands for the work (own).
use Rattle.std.specs.Prelude.{Option, None, Some}
use Rattle.chan_model.specs.Reports.{Work, lent_work}
use Rattle.chan_model.specs.declared.chunk.Bytes.{Bytes}
use Rattle.chan_model.specs.declared.report.Call as declared_call
use Rattle.chan_model.specs.declared.report.DeviceAnswer as declared_answer
use Rattle.chan_model.specs.declared.report.Report as declared_report
use Rattle.chan_model.specs.declared.report.Work as declared_work
use Rattle.machine_model.specs.declared.state.UnitTurn as declared_turn
use Rattle.machine_model.specs.declared.state.UnitTurn.TheVariants as turn

-- what a unit is to do next
abbrev pub UnitTurn : Type 0
UnitTurn = declared_turn.UnitTurn Work

-- the same over something else in place of its work
abbrev pub map_turn : {A B : Type 0} → (A → B) → declared_turn.UnitTurn A → declared_turn.UnitTurn B
map_turn f (turn.Takes id path) = turn.Takes id path
map_turn f (turn.Works w) = turn.Works (f w)
map_turn f (turn.Away path) = turn.Away path
map_turn f turn.Rests = turn.Rests

-- a turn whose bytes are lent, and one that there may be
abbrev pub lent_turn : declared_turn.UnitTurn (declared_work.Work (declared_call.Call Bytes) (declared_report.Report (declared_answer.DeviceAnswer Bytes))) → UnitTurn
lent_turn t = map_turn lent_work t

abbrev pub lent_turns : Option (declared_turn.UnitTurn (declared_work.Work (declared_call.Call Bytes) (declared_report.Report (declared_answer.DeviceAnswer Bytes)))) → Option UnitTurn
lent_turns None = None
lent_turns (Some t) = Some (lent_turn t)
