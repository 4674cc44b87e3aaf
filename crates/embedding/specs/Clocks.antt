-- A clock, and what each call of it answers and leaves (own).
use Rattle.std.specs.Prelude.{ℕ, ◌==◌, not, if◌then◌else◌, List, [], ◌∷◌, length, take, drop}
use Rattle.zbits.specs.Words.{bytes_of_words}
use Rattle.chan_model.specs.Reports.{Call}
use Rattle.chan_model.specs.declared.report.Call.TheVariants as call
use Rattle.chan_model.specs.Reports.{DeviceAnswer}
use Rattle.chan_model.specs.declared.report.DeviceAnswer.TheVariants as answer
use Rattle.device_law.specs.Calls.{answer_of_initial}

-- its time, the sense byte, and the bytes that the command at hand is still to give
pub record Clocks : Type 0 where
  pub time : ℕ
  pub sense : ℕ
  pub left : List ℕ

-- a restart leaves the time
abbrev pub opened : Clocks → Clocks
opened clock = record { time = clock.time; sense = 0; left = [] }

-- code 02 gives the time as it is now, code 04 the sense byte; any other code is rejected, and the sense byte says so
abbrev pub begun : Clocks → ℕ → Clocks
begun clock code =
    if code == 0x02 then record clock { left = bytes_of_words (clock.time ∷ []) }
    else if code == 0x04 then record clock { sense = 0; left = clock.sense ∷ [] }
    else record clock { sense = 0x80; left = [] }

abbrev pub initial_status : ℕ → ℕ
initial_status code = if code == 0x02 then 0 else if code == 0x04 then 0 else 0x02

-- Each call of a clock: its answer, and the clock after it.
abbrev pub answer_of : Clocks → Call → DeviceAnswer
answer_of clock (call.Initial code came_by) = answer_of_initial (record { 0 = initial_status code })
answer_of clock (call.Absorb bytes) = answer.Absorbed 0
answer_of clock (call.Supply most) = answer.Supplied (take most clock.left)
answer_of clock call.Finish = answer.Ended (record { 0 = 0x0C }) (not (length clock.left == 0))

abbrev pub after : Clocks → Call → Clocks
after clock (call.Initial code came_by) = begun clock code
after clock (call.Absorb bytes) = clock
after clock (call.Supply most) = record clock { left = drop most clock.left }
after clock call.Finish = record clock { left = [] }
