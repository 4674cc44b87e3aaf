-- A race at a machine, and what is told of it.
use Rattle.std.specs.Prelude.{◌≡◌, ◌+◌, Bool, IsTrue, ◌↔◌, List, ◌∷◌, length, sum_by}
use Rattle.core_lock.specs.Seats.{HeldSeat, Locked}
use Rattle.machine_model.specs.Steps.{HasRun}
use Rattle.subsystem.specs.Headline.{HasHeld}
use Rattle.subsystem.specs.Keeping.{StaysSetUp}
use Rattle.script_runner.specs.Race.{AreMade, HasLogs, HaveRaced, Runner, count_of, seats_of, total_of}
use Rattle.script_rows.specs.declared.race.Race.{Race}
use Rattle.script_text.specs.declared.race.RaceCount.{RaceCount}
use Rattle.script_runner.specs.Acting.{Installed}

-- what a history has where all seats that were made are given: the entries of their logs, and as many
abbrev pub HasAll : Locked → List HeldSeat → Type 0
HasAll after seats = length seats ≡ after.seats → length after.history ≡ sum_by (λ s. length s.value.log) seats

-- a race at a machine, with this told of it. The machine that the CPUs leave is set up as it was, has a history that leads to its
-- state, with a seat beside each entry, and has held what every run holds. Where no seats were made but its own and those of the CPUs, the history is as long as
-- their logs together. What else is known of it is what the audit found: that it has the logs of its own seat and of those of the CPUs,
-- each in its order, by whose entries alone the history grew
pub record IsRaced (race : Race) (before : Installed) (told : RaceCount) (refused : Bool) : Type 0 where
  pub ready : List Runner
  pub raced : List Runner
  pub own : HeldSeat
  pub after : Locked
  pub made : AreMade race.cpus ready
  pub run : HaveRaced race ready raced
  pub seat : own.value ≡ before.books.seat
  pub set_up : StaysSetUp before.past.state after.state
  pub replays : HasRun after.history after.state
  pub held : HasHeld after.history after.state
  pub beside : length after.by ≡ length after.history
  pub entries : HasAll after (own ∷ seats_of raced)
  pub told_is : told ≡ count_of (total_of raced) told.audited
  pub audited : IsTrue told.audited ↔ HasLogs after (own ∷ seats_of raced) (length before.past.history + (total_of raced).entries)
  pub refused_is : refused ≡ (total_of raced).refused
