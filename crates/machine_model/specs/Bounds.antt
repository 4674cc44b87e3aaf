-- Numbers that can still be raised: a channel subsystem makes fewer than 2 ^ 62 steps.
use Rattle.std.specs.Prelude.{◌≤◌, ◌^◌, ℕ, Option, None, Some}
use Rattle.chan_model.specs.declared.unit_state.CurrentCommand.{CurrentCommand}
use Rattle.chan_model.specs.declared.unit_state.Connection.{Connection}
use Rattle.chan_model.specs.declared.unit_state.Connection.TheVariants.{On, Ask, Away}
use Rattle.chan_model.specs.declared.unit_state.Own.{Own}
use Rattle.chan_model.specs.declared.unit_state.Own.TheVariants.{Idle, Owned}
use Rattle.chan_model.specs.declared.unit_state.UnitState.{UnitState}
use Rattle.subchannel_model.specs.declared.state.ActiveProgram.{ActiveProgram}
use Rattle.subchannel_model.specs.declared.state.Subchannel.{Subchannel}

-- the last chunk of a program that was begun has at most this number, and so has its last command
abbrev pub IsMovedWithin : ℕ → Option ActiveProgram → Type 0
IsMovedWithin n None = Unit {0}
IsMovedWithin n (Some b) = (b.transfer.sequence ≤ n) × (b.transfer.command ≤ n)

-- the numbers of a subchannel are at most n
pub record IsWithin (n : ℕ) (sub : Subchannel) : Type 0 where
  pub drawn : sub.state.drawn ≤ n
  pub starts : sub.state.starts ≤ n
  pub made : sub.state.serials.made ≤ n
  pub moved : IsMovedWithin n sub.state.begun

-- the last chunk of the command at hand of a unit has at most this number
abbrev pub IsAtWithin : ℕ → Option CurrentCommand → Type 0
IsAtWithin n None = Unit {0}
IsAtWithin n (Some x) = x.sequence ≤ n

-- the last connection of the program that holds a unit has at most this number
abbrev pub IsConnectionWithin : ℕ → Connection → Type 0
IsConnectionWithin n (On p c) = c ≤ n
IsConnectionWithin n (Ask p c) = c ≤ n
IsConnectionWithin n (Away c) = c ≤ n

abbrev pub IsOwnWithin : ℕ → Own → Type 0
IsOwnWithin n Idle = Unit {0}
IsOwnWithin n (Owned side t connection) = IsConnectionWithin n connection

-- the numbers of a unit are at most n
pub record IsUnitWithin (n : ℕ) (u : UnitState) : Type 0 where
  pub current : IsAtWithin n u.current
  pub connection : IsOwnWithin n u.own
  pub attentions : u.attentions ≤ n
  pub restarts : u.restarts ≤ n

abbrev pub CanUnitCount : UnitState → Type 0
CanUnitCount u = IsUnitWithin (2 ^ 62) u

abbrev pub CanCount : Subchannel → Type 0
CanCount sub = IsWithin (2 ^ 62) sub
