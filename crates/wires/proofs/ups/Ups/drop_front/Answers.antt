use Rattle.std.proofs.Common.{arith, length, drop, ap, ◌∙◌, ◌<◌, ◌≡◌}
use Rattle.wires.proofs.Queue.{length-window, window_after_drop}
use Rattle.wires.proofs.ups.Ups.drop_front.Goals as goal

pub returns : goal.returns
returns c =
    let r = c.self.inside in
    let length_slots : length r.slots ≡ 8 = c.self.invariant.0 in
    let length_old = length-window 8 _ _ r.slots c.self.invariant.1 c.self.invariant.2 length_slots in
    let same_length = ap length c.self.view_is in
    let waits : 0 < r.count = omega (arith, c.requires, length_old, same_length) in
    window_after_drop 8 _ _ r.slots c.self.invariant.1 c.self.invariant.2 length_slots waits ∙ ap (drop 1) c.self.view_is
