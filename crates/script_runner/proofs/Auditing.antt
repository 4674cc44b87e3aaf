-- What an audit tells, by itself and after a race.
use Rattle.std.proofs.Common.{◌≡◌, ℕ, Bool, List, sym, ap, subst, ◌∙◌}
use Rattle.std.specs.Prelude.{IsTrue, ◌↔◌, ◌≢◌, IfSome, IfNone, Option, Some, None}
use Rattle.channel_config.specs.Setup.{Setup}
use Rattle.core_lock.specs.Seats.{HeldSeat, Locked}
use Rattle.machine_model.specs.Setups.{IsSetUp}
use Rattle.machine_model.specs.State.{State}
use Rattle.subsystem.specs.Keeping.{StaysSetUp}
use Rattle.script_text.specs.declared.race.RaceCount.{RaceCount}
use Rattle.script_runner.specs.declared.tally.Tally.{Tally}
use Rattle.script_runner.specs.Race.{HasLogs, count_of}

-- a core was closed: it counted the entries both ways, and answers no count only where not all seats were given
pub counted : (closed : Option ℕ) (given made entries logs : ℕ) → IfSome closed (λ c. c ≡ entries) → IfSome closed (λ c. c ≡ logs) → IfNone closed (given ≢ made)
    → given ≡ made → entries ≡ logs
counted None given made entries logs e l none all = absurd (none all)
counted (Some c) given made entries logs e l none all = sym e ∙ l

pub told_of : (r : RaceCount) (t total : Tally) (audited : Bool) → r ≡ count_of t audited → t ≡ total → r ≡ count_of total r.audited
told_of r t total audited is same =
    is ∙ ap (λ (x : Tally). count_of x audited) same ∙ ap (λ (b : Bool). count_of total b) (sym (ap (λ (x : RaceCount). x.audited) is))

pub told_audited : (A : Type 0) (r : RaceCount) (t : Tally) (audited : Bool) → r ≡ count_of t audited → IsTrue audited ↔ A → IsTrue r.audited ↔ A
told_audited A r t audited is h = subst (λ (b : Bool). IsTrue b ↔ A) (sym (ap (λ (x : RaceCount). x.audited) is)) h

-- two states that are set up as this says
pub stays_by : (by : Setup) (s t : State) → IsSetUp by s → IsSetUp by t → StaysSetUp s t
stays_by by s t i j setup k = record {
  lawful = k.lawful;
  blocks = j.blocks ∙ sym i.blocks ∙ k.blocks;
  sets = j.sets ∙ sym i.sets ∙ k.sets;
  chpids = j.chpids ∙ sym i.chpids ∙ k.chpids;
  subs = j.subs ∙ sym i.subs ∙ k.subs;
  units = j.units ∙ sym i.units ∙ k.units;
  groups = j.groups ∙ sym i.groups ∙ k.groups;
  requests = j.requests;
  path_return = j.path_return ∙ sym i.path_return ∙ k.path_return;
}

-- the seats and the count by other names
pub settled : (found : Bool) (after : Locked) (seats all : List HeldSeat) (n m : ℕ) → seats ≡ all → n ≡ m → IsTrue found ↔ HasLogs after seats n → IsTrue found ↔ HasLogs after all m
settled found after seats all n m gathered count h =
    subst (λ (k : ℕ). IsTrue found ↔ HasLogs after all k) count (subst (λ (l : List HeldSeat). IsTrue found ↔ HasLogs after l n) gathered h)
