use Rattle.std.proofs.Common.{rules, length, ap, ◌∙◌, sym, ◌≡◌}
use Rattle.wires.proofs.Queue.{length-window}
use Rattle.wires.proofs.ups.Ups.is_full.Goals as goal

pub returns-clause-full : goal.returns-clause-full
returns-clause-full c =
    let r = c.self.inside in
    let length_slots : length r.slots ≡ 8 = c.self.invariant.0 in
    let same : length c.args.self.now ≡ r.count = sym (ap length c.self.view_is) ∙ length-window 8 _ _ r.slots c.self.invariant.1 c.self.invariant.2 length_slots in
    rw same (search rules)
