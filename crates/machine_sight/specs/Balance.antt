-- When the facts of a step account for all that waits on the wires.
use Rattle.std.specs.Prelude.{◌≡◌, ◌&&◌, ⊤, ℕ, Bool, true, false, List, [], ◌++◌, slice_get, take, Some}
use Rattle.std.specs.List.{flat_map}
use Rattle.machine_sight.specs.Waiting.{HasWire, IsFirst, WaitingQueues, same_wire, waits_on, signal_where}
use Rattle.machine_sight.specs.declared.balance.Course.{Course}
use Rattle.machine_sight.specs.declared.balance.Course.TheVariants.{Onto, Off, Aside}
use Rattle.step_records.specs.declared.record.Fact.{Fact}
use Rattle.step_records.specs.declared.record.Fact.TheVariants as fact
use Rattle.step_records.specs.declared.record.Moved.{Moved}
use Rattle.step_records.specs.declared.record.Moved.TheVariants.{Sent, Taken, Ignored, Lost, Vanished}
use Rattle.step_records.specs.declared.record.Record.{Record}
use Rattle.step_records.specs.declared.record.Signal.{Signal}
use Rattle.step_records.specs.declared.record.Wire.{Wire}

-- what a move is to the wire: a signal comes onto it, or goes off it, met at its end or lost; one that vanishes never was on it
abbrev pub course_of : Moved → Course
course_of Sent = Onto
course_of Taken = Off
course_of Ignored = Off
course_of Lost = Off
course_of Vanished = Aside

abbrev pub same_course : Course → Course → Bool
same_course Onto Onto = true
same_course Off Off = true
same_course Aside Aside = true
same_course one other = false

-- the signal of a fact, where it is of this course and of this wire
abbrev pub signal_of : Course → Wire → Fact → List Signal
signal_of course on (fact.Signal wire moved signal) = signal_where (same_course (course_of moved) course && same_wire wire on) signal
signal_of course on other = []

-- the signals of this course on a wire, in the order of the facts
abbrev pub signals_on : Course → Wire → List Record → List Signal
signals_on course on facts = flat_map (λ r. signal_of course on r.fact) facts

-- on each wire, what waited before and then what came onto it is what went off it and then what waits after
abbrev pub IsBalanced : List WaitingQueues → List Record → List WaitingQueues → Type 0
IsBalanced before facts after = (on : Wire) → waits_on before on ++ signals_on Onto on facts ≡ signals_on Off on facts ++ waits_on after on

-- so it is of one fact
abbrev pub IsFollowed : List WaitingQueues → Fact → List WaitingQueues → Type 0
IsFollowed before f after = (on : Wire) → waits_on before on ++ signal_of Onto on f ≡ signal_of Off on f ++ waits_on after on

-- whether a fact can be followed: a signal that is sent has a wire, and one that goes off its wire waits there longest
abbrev pub CanMove : List WaitingQueues → Wire → Signal → Course → Type 0
CanMove waiting wire signal Onto = HasWire waiting wire
CanMove waiting wire signal Off = IsFirst waiting wire signal
CanMove waiting wire signal Aside = ⊤

abbrev pub CanFollow : List WaitingQueues → Fact → Type 0
CanFollow waiting (fact.Signal wire moved signal) = CanMove waiting wire signal (course_of moved)
CanFollow waiting other = ⊤

-- the facts before one of them leave this waiting, and that one cannot be followed
pub record IsStuck (before : List WaitingQueues) (facts : List Record) (waiting : List WaitingQueues) : Type 0 where
  pub index : ℕ
  pub stuck : Record
  pub there : slice_get facts index ≡ Some stuck
  pub balanced : IsBalanced before (take index facts) waiting
  pub cannot : CanFollow waiting stuck.fact → ⊥
