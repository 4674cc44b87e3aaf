-- Numbers that can still be raised: none is above the count of steps.
use Rattle.std.specs.Prelude.{◌≤◌, ℕ}
use Rattle.chan_model.specs.declared.unit_state.UnitState.{UnitState}
use Rattle.unit.specs.UnitWords.{last_connection, last_sequence}
use Rattle.agreement_laws.specs.Invariant.{IsGood}
use Rattle.agree.specs.State.{WorldState, links_of}

pub record IsWorldUnitWithin (n : ℕ) (u : UnitState) : Type 0 where
  pub restarts : u.restarts ≤ n
  pub attentions : u.attentions ≤ n
  pub connection : last_connection u.own ≤ n
  pub sequence : last_sequence u.current ≤ n

pub record IsWorldWithin (n : ℕ) (w : WorldState) : Type 0 where
  pub «unit» : IsWorldUnitWithin n w.«unit»
  pub first : w.first.link.drawn ≤ n
  pub second : w.second.link.drawn ≤ n

-- what holds after every list of events
pub record IsWell (w : WorldState) : Type 0 where
  pub good : IsGood (links_of w)
  pub within : IsWorldWithin w.steps w
