-- Numbers that are at most so many can be raised where so many can.
use Rattle.std.proofs.Common.{ℕ, ◌^◌, ◌≤◌, Option, None, Some, List, arith}
use Rattle.std.specs.Prelude.{All}
use Rattle.std.proofs.lemmas.List.Elements.{All-weaker}
use Rattle.chan_model.specs.declared.unit_state.CurrentCommand.{CurrentCommand}
use Rattle.chan_model.specs.declared.unit_state.Connection.{Connection}
use Rattle.chan_model.specs.declared.unit_state.Connection.TheVariants.{On, Ask, Away}
use Rattle.chan_model.specs.declared.unit_state.Own.{Own}
use Rattle.chan_model.specs.declared.unit_state.Own.TheVariants.{Idle, Owned}
use Rattle.chan_model.specs.declared.unit_state.UnitState.{UnitState}
use Rattle.chan_events.specs.declared.reply.Entry.{Entry}
use Rattle.channel_config.specs.Setup.{Setup}
use Rattle.machine_model.specs.Bounds.{CanCount, CanUnitCount, IsAtWithin, IsConnectionWithin, IsMovedWithin, IsOwnWithin, IsUnitWithin, IsWithin}
use Rattle.machine_model.specs.State.{State, opening_of}
use Rattle.machine_model.specs.Steps.{Run}
use Rattle.run_laws.specs.Stores.{besides_stores}
use Rattle.subchannel_model.specs.declared.state.ActiveProgram.{ActiveProgram}
use Rattle.subchannel_model.specs.declared.state.Subchannel.{Subchannel}
use Rattle.channel_subsystem.specs.Hosting.{HasNumber}

moved-more : (n : ℕ) (b : Option ActiveProgram) → n ≤ 2 ^ 62 → IsMovedWithin n b → IsMovedWithin (2 ^ 62) b
moved-more n None few k = tt
moved-more n (Some b) few k = (omega (arith, k.0, few), omega (arith, k.1, few))

sub-more : (n : ℕ) → n ≤ 2 ^ 62 → (sub : Subchannel) → IsWithin n sub → CanCount sub
sub-more n few sub k = record {
  drawn = omega (arith, k.drawn, few);
  starts = omega (arith, k.starts, few);
  made = omega (arith, k.made, few);
  moved = moved-more n sub.state.begun few k.moved;
}

at-more : (n : ℕ) (x : Option CurrentCommand) → n ≤ 2 ^ 62 → IsAtWithin n x → IsAtWithin (2 ^ 62) x
at-more n None few k = tt
at-more n (Some x) few k = omega (arith, k, few)

connection-more : (n : ℕ) (x : Connection) → n ≤ 2 ^ 62 → IsConnectionWithin n x → IsConnectionWithin (2 ^ 62) x
connection-more n (On p c) few k = omega (arith, k, few)
connection-more n (Ask p c) few k = omega (arith, k, few)
connection-more n (Away c) few k = omega (arith, k, few)

own-more : (n : ℕ) (x : Own) → n ≤ 2 ^ 62 → IsOwnWithin n x → IsOwnWithin (2 ^ 62) x
own-more n Idle few k = tt
own-more n (Owned side t connection) few k = connection-more n connection few k

unit-more : (n : ℕ) → n ≤ 2 ^ 62 → (u : UnitState) → IsUnitWithin n u → CanUnitCount u
unit-more n few u k = record {
  current = at-more n u.current few k.current;
  connection = own-more n u.own few k.connection;
  attentions = omega (arith, k.attentions, few);
  restarts = omega (arith, k.restarts, few);
}

pub subs-count : ((setup : Setup) (h : List Entry) (s : State) → Run (opening_of setup) h s → All (IsWithin (besides_stores h)) s.subs) → (s : State) → HasNumber s → All CanCount s.subs
subs-count law s (h, run, few) =
    All-weaker (IsWithin (besides_stores h)) CanCount (sub-more (besides_stores h) (omega (arith, few))) s.subs (law run.0.0 h s (run.1 run.0.0 run.0.1))

pub units-count : ((setup : Setup) (h : List Entry) (s : State) → Run (opening_of setup) h s → All (IsUnitWithin (besides_stores h)) s.units) → (s : State) → HasNumber s →
    All CanUnitCount s.units
units-count law s (h, run, few) =
    All-weaker (IsUnitWithin (besides_stores h)) CanUnitCount (unit-more (besides_stores h) (omega (arith, few))) s.units (law run.0.0 h s (run.1 run.0.0 run.0.1))
