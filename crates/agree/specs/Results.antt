-- What each event does to a unit and its two sides, and when it is refused (own).
use Rattle.std.specs.Prelude.{ℕ, ◌+◌, if◌then◌else◌, nat_lt, Option, None, Some, List, [], ◌∷◌, Result, Ok, Err}
use Rattle.chan_model.specs.declared.fault.Fault.{Fault}
use Rattle.chan_model.specs.declared.fault.Fault.TheVariants.{NoMemory, NoSuchPath, NotNow}
use Rattle.chan_model.specs.declared.names.Side.{Side}
use Rattle.chan_model.specs.declared.unit_state.Own.{Own}
use Rattle.chan_model.specs.declared.unit_state.Own.TheVariants as own
use Rattle.chan_model.specs.UnitTable.{restarted}
use Rattle.agreement_laws.specs.Moving.{Is_reset, Leaves, Asks, Attends, Notices, Reports}
use Rattle.agree.specs.declared.event.WorldEvent.{WorldEvent}
use Rattle.agree.specs.declared.event.WorldEvent.TheVariants as event
use Rattle.agree.specs.State.{WorldState, line_of, with_line}
use Rattle.agree.specs.Lines.{LineResult, UnitLine, unit_line, acts, acts_for, line_takes_down, line_chosen, line_let_go, line_sends, line_takes_up, loses_down, loses_up, goes_down, comes_up, is_cut}

abbrev pub WorldResult : Type 0
WorldResult = Result WorldState Fault

-- an event at one side
abbrev pub at_side : WorldState → Side → LineResult → WorldResult
at_side w side (Ok l) = Ok (with_line w side l)
at_side w side (Err f) = Err f

-- a path is one of 0 to 7
abbrev pub path_named : ℕ → Result ℕ Fault
path_named p = if nat_lt p 8 then Ok p else Err NoSuchPath

abbrev pub on_path : Result ℕ Fault → (ℕ → WorldResult) → WorldResult
on_path (Ok p) turn = turn p
on_path (Err f) turn = Err f

-- what the unit does for its program goes to the program's side
abbrev pub at_world_unit : WorldState → Side → Result UnitLine Fault → WorldResult
at_world_unit w side (Ok b) = Ok (record (with_line w side b.line) { «unit» = b.«unit» })
at_world_unit w side (Err f) = Err f

abbrev pub both_of : WorldState → Side → UnitLine
both_of w side = unit_line w.«unit» (line_of w side)

abbrev pub at_owner : WorldState → Own → (Side → WorldResult) → WorldResult
at_owner w own.Idle turn = Err NotNow
at_owner w (own.Owned side t connection) turn = turn side

-- the holds of both sides are reset
abbrev pub all_reset : WorldState → WorldState
all_reset w = record w { first = acts w.first Is_reset; second = acts w.second Is_reset }

-- each event, but for the count of steps
abbrev pub world_result_of : WorldState → WorldEvent → WorldResult
world_result_of w (event.Choose side p single) = on_path (path_named p) (λ q. at_side w side (line_chosen (line_of w side) (line_of w side).link.hold.phase q single))
world_result_of w (event.Down side index keep may) = at_world_unit w side (line_takes_down (both_of w side) side index keep may)
world_result_of w (event.Up side index keep may) = at_side w side (line_takes_up (line_of w side) index keep may)
world_result_of w (event.LoseDown side index) = at_side w side (loses_down (line_of w side) index)
world_result_of w (event.LoseUp side index) = at_side w side (loses_up (line_of w side) index)
world_result_of w (event.PathDown side p) = on_path (path_named p) (λ q. at_side w side (goes_down (line_of w side) q))
world_result_of w (event.PathUp side p) = on_path (path_named p) (λ q. at_side w side (comes_up (line_of w side) q))
world_result_of w (event.PathReset side p) = on_path (path_named p) (λ q. at_side w side (is_cut (line_of w side) q))
world_result_of w (event.LetGo side) = at_side w side (line_let_go (line_of w side) (line_of w side).link.hold.phase)
world_result_of w (event.Send side p signal) = on_path (path_named p) (λ q. at_side w side (line_sends (line_of w side) q signal))
world_result_of w (event.Clear side) = at_side w side (Ok (acts (line_of w side) Is_reset))
world_result_of w event.SubsystemReset = Ok (all_reset w)
world_result_of w event.Leave = at_owner w w.«unit».own (λ side. at_world_unit w side (acts_for (both_of w side) Leaves))
world_result_of w (event.Ask p) = on_path (path_named p) (λ q. at_owner w w.«unit».own (λ side. at_world_unit w side (acts_for (both_of w side) (Asks q))))
world_result_of w (event.Attention side p) = on_path (path_named p) (λ q. at_world_unit w side (acts_for (both_of w side) (Attends side q)))
world_result_of w (event.Notice side p) = on_path (path_named p) (λ q. at_world_unit w side (acts_for (both_of w side) (Notices side q)))
world_result_of w event.Restart = Ok (record w { «unit» = restarted w.«unit» })
world_result_of w (event.Report report) = at_owner w w.«unit».own (λ side. at_world_unit w side (acts_for (both_of w side) (Reports report)))

-- an accepted event is a step, of which there are fewer than 2 ^ 62
abbrev pub counted : ℕ → WorldResult → WorldResult
counted steps (Ok w) = Ok (record w { steps = steps + 1 })
counted steps (Err f) = Err f

abbrev pub max_steps : ℕ
max_steps = 4611686018427387903

abbrev pub world_result : WorldState → WorldEvent → WorldResult
world_result w e = if nat_lt w.steps max_steps then counted w.steps (world_result_of w e) else Err NoMemory

-- the state after an event, and after a list of events: a refused one leaves it as it was
abbrev pub state_after : WorldState → WorldResult → WorldState
state_after w (Ok new) = new
state_after w (Err f) = w

abbrev pub world_after : WorldState → WorldEvent → WorldState
world_after w e = state_after w (world_result w e)

abbrev pub worlds_after : WorldState → List WorldEvent → WorldState
worlds_after w [] = w
worlds_after w (e ∷ es) = worlds_after (world_after w e) es

-- why an event is refused
abbrev pub refusal_in : WorldResult → Option Fault
refusal_in (Ok new) = None
refusal_in (Err f) = Some f

abbrev pub refusal_of : WorldState → WorldEvent → Option Fault
refusal_of w e = refusal_in (world_result w e)
