use Rattle.std.proofs.Common.{◌∷◌, ◌++◌, [], rules, ap, ◌∙◌, vec_len}
use Rattle.core_lock.specs.Seats.{HeldSeat}
use Rattle.script_runner.specs.declared.tally.Tally.{Tally}
use Rattle.script_runner.specs.Race.{plus, seats_of, total_of}
use Rattle.script_runner.proofs.Gathering.{codes_added, entries_added, seats_taken, total_taken}
use Rattle.script_runner.proofs.racers.gather.Goals as goal

pub loop-racer-preserved : goal.loop-racer-preserved
loop-racer-preserved g c =
    let l = c.loop-racer in
    let i = l.invariant in
    let r = c.in-Some.racer in
    let p = c.in-Some.ensures in
    let parts = c.into_parts-seat.ensures in
    let left = c.pop.new.self in
    let seats = c.push_reserved.new.self.items in
    let more = c.into_parts-seat.result.1 in
    record {
      seats = seats_taken l.seats.items seats (c.args.seats.items ++ seats_of c.args.racers.items) left.items l.racers.items r p.items (c.push_reserved.ensures.items ∙ ap (λ (s : HeldSeat). l.seats.items ++ s ∷ []) parts.parts.0) i.seats;
      total = total_taken l.total c.add.new.self (total_of c.args.racers.items) left.items l.racers.items r p.items (c.add.ensures ∙ ap (λ (t : Tally). plus l.total t) parts.parts.1) i.total;
      codes = codes_added l.total more c.add.new.self 4294967296 c.add.ensures i.codes parts.below;
      entries = entries_added l.total more c.add.new.self (vec_len l.racers) (vec_len left) c.add.ensures i.entries (search rules) parts.below;
      room = search rules;
    }
