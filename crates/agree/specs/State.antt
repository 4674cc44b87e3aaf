-- A unit, its two subchannels, the signals between them, and which paths are up (own).
use Rattle.std.specs.Prelude.{ℕ, Bool, true, false, List, replicate, slice_index_or}
use Rattle.chan_model.specs.declared.names.Side.{Side}
use Rattle.chan_model.specs.declared.names.Side.TheVariants.{First, Second}
use Rattle.chan_model.specs.declared.unit_state.UnitState.{UnitState}
use Rattle.chan_model.specs.UnitTable.{idle_unit}
use Rattle.agreement_laws.specs.Links.{Link, Links, opening_link}

-- one side: its link, and for each path whether it is up
pub record LineState : Type 0 where
  pub link : Link
  pub up : List Bool

-- both sides of a unit, and how many steps were made
pub record WorldState : Type 0 where
  pub «unit» : UnitState
  pub first : LineState
  pub second : LineState
  pub steps : ℕ

abbrev pub links_of : WorldState → Links
links_of w = record { «unit» = w.«unit»; first = w.first.link; second = w.second.link }

abbrev pub line_of : WorldState → Side → LineState
line_of w First = w.first
line_of w Second = w.second

abbrev pub with_line : WorldState → Side → LineState → WorldState
with_line w First l = record w { first = l }
with_line w Second l = record w { second = l }

abbrev pub is_up : List Bool → ℕ → Bool
is_up up p = slice_index_or up p false

-- nothing has happened, and every path is up
abbrev pub opening_line : LineState
opening_line = record { link = opening_link; up = replicate 8 true }

abbrev pub opening_world : WorldState
opening_world = record { «unit» = idle_unit; first = opening_line; second = opening_line; steps = 0 }
