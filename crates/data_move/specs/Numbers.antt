-- The numbers of a command and of its chunks (own).
use Rattle.std.specs.Prelude.{◌≡◌, ◌≤◌, ℕ, ◌+◌}
use Rattle.data_move.specs.declared.transfer.Transfer.{Transfer}
use Rattle.data_move.specs.declared.transfer.CommandStart.{CommandStart}
use Rattle.data_move.specs.declared.transfer.CommandStart.TheVariants.{Begins, Suspends, Stops}

-- both numbers stay
pub record IsSame (old new : Transfer) : Type 0 where
  pub command : new.command ≡ old.command
  pub sequence : new.sequence ≡ old.sequence

-- a chunk may be counted
pub record IsLaterTransfer (old new : Transfer) : Type 0 where
  pub command : new.command ≡ old.command
  pub sequence : new.sequence ≤ old.sequence + 1

-- a command begins, of which no chunk was moved
pub record IsNew (number : ℕ) (new : Transfer) : Type 0 where
  pub command : new.command ≡ number
  pub sequence : new.sequence ≡ 0

-- of what a command begins with, where one begins
abbrev pub IfBegins : CommandStart → (Transfer → Type 0) → Type 0
IfBegins (Begins t) P = P t
IfBegins Suspends P = Unit {0}
IfBegins (Stops check) P = Unit {0}
