-- What a hold sends for its program (own).
use Rattle.std.specs.Prelude.{ℕ, Bool, false, ◌==◌, ◌&&◌, ◌||◌}
use Rattle.chan_model.specs.declared.hold_state.HoldPhase.{HoldPhase}
use Rattle.chan_model.specs.declared.hold_state.HoldPhase.TheVariants.{On, Away}
use Rattle.chan_model.specs.Signals.{Down}
use Rattle.chan_model.specs.declared.signal.Down.TheVariants as down
use Rattle.chan_model.specs.HoldTable.{is_connected}

-- the program of this number is connected on this path
abbrev pub is_on_path : HoldPhase → ℕ → ℕ → Bool
is_on_path (On t q c) u p = (u == t) && (p == q)
is_on_path phase u p = false

-- the program of this number holds the device and is not connected
abbrev pub is_away : HoldPhase → ℕ → Bool
is_away (Away t) u = u == t
is_away phase u = false

-- A Command, Took, Give or Halt goes out under the number of the program that is connected, by its path, and a Give under its
-- connection; a Halt to a program that is away goes by any path. All else that they say is free: which command, which chunk, how
-- many bytes. A subsystem sends them as its channel program has it, so this world allows more than a subsystem does.
abbrev pub may_send : HoldPhase → ℕ → Down → Bool
may_send phase p (down.Command t n code room) = is_on_path phase t p
may_send phase p (down.Took t n s room) = is_on_path phase t p
may_send phase p (down.Give bytes t c n s) = is_connected phase p t c
may_send phase p (down.Halt t) = is_on_path phase t p || is_away phase t
may_send phase p signal = false
