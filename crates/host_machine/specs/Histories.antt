-- The entries that are kept, for a host: how many there are, and each as text (own).
use Rattle.std.specs.Prelude.{◌≡◌, ℕ, ℤ, pos, ◌≤◌, List, [], Option, Some, None}
use Rattle.chan_events.specs.declared.reply.Entry.{Entry}
use Rattle.channel_subsystem.specs.Hosting.{Leads}
use Rattle.event_lines.specs.EventLines.{event_text}
use Rattle.script_text.specs.Text.{reply_text}
use Rattle.storage_keys.specs.Storage.{Contents}
use Rattle.host_machine.specs.Answers.{bad_argument, below}
use Rattle.host_machine.specs.Hosts.{WhereItRuns}
use Rattle.host_machine.specs.Lines.{Tells}
use Rattle.host_machine.specs.Machines.{Running}
use Rattle.host_machine.specs.declared.host_machine.HostMachine.{HostMachine}

-- what is told of an entry: the line of its event, and what is printed of its reply
abbrev pub line_of : Entry → List ℕ
line_of e = event_text e.event

abbrev pub reply_of : Entry → List ℕ
reply_of e = reply_text e.reply

-- an entry is told by one of them, or there is none of this number
abbrev pub TellsEntry : (Entry → List ℕ) → Option Entry → ℤ → ℕ → (room left : List ℕ) → Type 0
TellsEntry text (Some e) number count room left = (number ≡ pos 0) × Tells (text e) room left count
TellsEntry text None number count room left = (number ≡ below bad_argument) × ((left ≡ room) × (count ≡ 0))

-- what was kept is let go, and no room is lost; all else stays, and each history that led here leads here still
pub record HasForgotten (old new : Running) : Type 0 where
  pub subsystem : new.subsystem ≡ record old.subsystem { kept = []; room = new.subsystem.room }
  pub room : old.subsystem.room ≤ new.subsystem.room
  pub leads : (h : List Entry) (storage : Contents) → Leads h old.subsystem storage → Leads h new.subsystem storage
  pub keys : new.keys ≡ old.keys
  pub prefixes : new.prefixes ≡ old.prefixes

abbrev pub Forgets : HostMachine → ℤ → HostMachine → Type 0
Forgets old number new = WhereItRuns (λ before answered now. (answered ≡ pos 0) × HasForgotten before now) (Unit {0}) old number new
