use Rattle.std.proofs.Common.{◌+◌, ◌∷◌, ℕ, List, length, ap, subst, ◌∙◌}
use Rattle.core_lock.specs.Seats.{HeldSeat}
use Rattle.script_runner.specs.Racing.{HasAll}
use Rattle.script_runner.specs.Acting.{Installed}
use Rattle.script_runner.specs.declared.tally.Tally.{Tally}
use Rattle.script_runner.specs.Race.{HasLogs, seats_of, total_of}
use Rattle.subsystem.specs.Keeping.{StaysSetUp}
use Rattle.script_runner.proofs.Auditing.{settled, stays_by, told_audited, told_of}
use Rattle.script_runner.proofs.scripted_machine.ScriptedMachine.race.Goals as goal

pub returns : goal.returns
returns g c =
    let race = c.race-core in
    let e = race.ensures in
    let is = c.self.view_is in
    let own = c.self.inside.seat in
    let after = race.result.0.value in
    let total = total_of e.raced in
    let all = own ∷ seats_of e.raced in
    let before = c.args.self in
    let length_is = c.len-before.ensures ∙ ap length (c.history.ensures.history ∙ c.subsystem.ensures.history) ∙ ap (λ (i : Installed). length i.past.history) is in
    let count = ap (λ (k : ℕ). k + race.result.2.entries) length_is ∙ ap (λ (t : Tally). length before.past.history + t.entries) e.total_is in
    record {
      ready = c.args.racers;
      raced = e.raced;
      own = own;
      after = after;
      made = c.requires;
      run = e.run;
      seat = ap (λ (i : Installed). i.books.seat) is;
      set_up = subst (λ (i : Installed). StaysSetUp i.past.state after.state) is (stays_by g.J.MachineBrand.setup c.self.inside.core.value.state after.state c.subsystem.ensures.set_up c.has_run.ensures.set_up);
      replays = c.has_run.ensures.replays;
      held = c.has_run.ensures.held;
      beside = c.has_run.ensures.beside;
      entries = subst (λ (l : List HeldSeat). HasAll after l) e.seats c.is_settled-audited.ensures.entries;
      told_is = told_of c.told.result race.result.2 total c.is_settled-audited.result c.told.ensures e.total_is;
      audited = told_audited (HasLogs after all (length before.past.history + total.entries)) c.told.result race.result.2 c.is_settled-audited.result c.told.ensures
          (settled c.is_settled-audited.result after race.result.1.items all (c.len-before.result + race.result.2.entries) (length before.past.history + total.entries) e.seats count c.is_settled-audited.ensures.logs);
      refused_is = ap (λ (t : Tally). t.refused) e.total_is;
    }
