use Rattle.std.proofs.Common.{◌∷◌, ◌++◌, [], List, subst, ap, ◌∙◌}
use Rattle.core_lock.specs.Seats.{HeldSeat}
use Rattle.script_runner.specs.Race.{HaveRaced, Runner, seats_of}
use Rattle.script_runner.proofs.racers.Racers.race.Goals as goal

pub returns : goal.returns
returns g c =
    let raced = c.run_all.new.racers.items in
    record {
      raced = raced;
      run = subst (λ (rs : List Runner). HaveRaced c.args.race rs raced) c.self.view_is c.run_all.ensures;
      seats = c.gather-seats.ensures.seats ∙ ap (λ (l : List HeldSeat). l ++ seats_of raced) (c.push_reserved.ensures.items ∙ ap (λ (l : List HeldSeat). l ++ c.args.own ∷ []) c.self.invariant.0);
      total_is = c.gather-seats.ensures.total;
    }
