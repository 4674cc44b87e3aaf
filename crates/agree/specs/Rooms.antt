-- Sides and worlds with the room of their lists: for how many more signals and numbers there is memory already (own).
use Rattle.std.specs.Prelude.{◌≡◌, ◌≤◌, ◌⊎◌, ℕ, ◌+◌, Result, Ok, Err, List, slice_get, take, Some}
use Rattle.chan_model.specs.declared.names.Side.{Side}
use Rattle.chan_model.specs.declared.names.Side.TheVariants.{First, Second}
use Rattle.chan_model.specs.declared.unit_state.Own.{Own}
use Rattle.chan_model.specs.declared.unit_state.Own.TheVariants.{Idle, Owned}
use Rattle.agree.specs.declared.event.WorldEvent.{WorldEvent}
use Rattle.agree.specs.declared.event.WorldEvent.TheVariants as event
use Rattle.agree.specs.State.{LineState, WorldState}
use Rattle.agree.specs.Results.{max_steps, worlds_after}

-- for how many more there is room at one side: signals to the unit, signals from it, and numbers that it accepted
pub record LineRoom : Type 0 where
  pub downs : ℕ
  pub ups : ℕ
  pub accepted : ℕ

pub record WorldRoom : Type 0 where
  pub first : LineRoom
  pub second : LineRoom

pub record LineAndRoom : Type 0 where
  pub line : LineState
  pub room : LineRoom

pub record WorldAndRoom : Type 0 where
  pub world : WorldState
  pub room : WorldRoom

abbrev pub no_line_room : LineRoom
no_line_room = record { downs = 0; ups = 0; accepted = 0 }

abbrev pub no_room : WorldRoom
no_room = record { first = no_line_room; second = no_line_room }

abbrev pub line_room_of : WorldRoom → Side → LineRoom
line_room_of room First = room.first
line_room_of room Second = room.second

-- room may be made; of what there was, each list loses so many slots at most
pub record LineLoses (n : ℕ) (old new : LineRoom) : Type 0 where
  pub downs : old.downs ≤ new.downs + n
  pub ups : old.ups ≤ new.ups + n
  pub accepted : old.accepted ≤ new.accepted + n

pub record Loses (n : ℕ) (old new : WorldRoom) : Type 0 where
  pub first : LineLoses n old.first new.first
  pub second : LineLoses n old.second new.second

-- what is done takes one index of each list at most, and what is refused none
abbrev pub LineTakes : {A F : Type 0} → Result A F → LineRoom → LineRoom → Type 0
LineTakes (Ok done) old new = LineLoses 1 old new
LineTakes (Err f) old new = LineLoses 0 old new

abbrev pub TakesRoom : {A F : Type 0} → Result A F → WorldRoom → WorldRoom → Type 0
TakesRoom (Ok done) old new = Loses 1 old new
TakesRoom (Err f) old new = Loses 0 old new

-- as before: of room nothing is said but that none was lost
pub record IsWorldAsBefore (old new : WorldAndRoom) : Type 0 where
  pub world : new.world ≡ old.world
  pub room : Loses 0 old.room new.room

-- no room for what the hold may send
abbrev pub IsFullDown : LineRoom → Type 0
IsFullDown room = room.downs ≡ 0

-- no room for what the unit may send, or for the number that it may accept
abbrev pub IsFullUp : LineRoom → Type 0
IsFullUp room = (room.ups ≡ 0) ⊎ (room.accepted ≡ 0)

abbrev pub IsOwnerFull : WorldRoom → Own → Type 0
IsOwnerFull room Idle = ⊥
IsOwnerFull room (Owned side t connection) = IsFullUp (line_room_of room side)

-- a list that the event may add to has no room; an event that sends nothing needs none
abbrev pub IsFullFor : WorldState → WorldRoom → WorldEvent → Type 0
IsFullFor w room (event.Choose side p single) = IsFullDown (line_room_of room side)
IsFullFor w room (event.Down side index keep may) = IsFullUp (line_room_of room side)
IsFullFor w room (event.Up side index keep may) = IsFullDown (line_room_of room side)
IsFullFor w room (event.LetGo side) = IsFullDown (line_room_of room side)
IsFullFor w room (event.Send side p signal) = IsFullDown (line_room_of room side)
IsFullFor w room event.Leave = IsOwnerFull room w.«unit».own
IsFullFor w room (event.Ask p) = IsOwnerFull room w.«unit».own
IsFullFor w room (event.Attention side p) = IsFullUp (line_room_of room side)
IsFullFor w room (event.Notice side p) = IsFullUp (line_room_of room side)
IsFullFor w room (event.Report report) = IsOwnerFull room w.«unit».own
IsFullFor w room e = ⊥

-- the steps are used up, or there is no room for the event
abbrev pub IsWorldSpent : WorldAndRoom → WorldEvent → Type 0
IsWorldSpent w e = (max_steps ≤ w.world.steps) ⊎ IsFullFor w.world w.room e

-- the events were passed through, each done or refused, up to the first for which there was no room, or no step
pub record HasEnded (old : WorldAndRoom) (events : List WorldEvent) (new : WorldAndRoom) : Type 0 where
  pub done : ℕ
  pub next : WorldEvent
  pub there : slice_get events done ≡ Some next
  pub world : new.world ≡ worlds_after old.world (take done events)
  pub exhausted : IsWorldSpent new next
