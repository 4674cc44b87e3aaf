use Rattle.std.proofs.Common.{arith, length, ap, ap₂, ◌∙◌, ◌<◌, ◌++◌, ◌∷◌, [], ◌≡◌}
use Rattle.wires.proofs.Queue.{length-window, window_after_push}
use Rattle.wires.proofs.downs.Downs.send.Goals as goal

pub returns : goal.returns
returns c =
    let r = c.self.inside in
    let length_slots : length r.slots ≡ 8 = c.self.invariant.0 in
    let length_old = length-window 8 _ _ r.slots c.self.invariant.1 c.self.invariant.2 length_slots in
    let same_length = ap length c.self.view_is in
    let has_room : r.count < 8 = omega (arith, c.requires, length_old, same_length) in
    window_after_push 8 _ _ r.slots c.self.invariant.1 c.self.invariant.2 length_slots c.put.new.self has_room
    ∙ ap₂ (λ xs x. xs ++ x ∷ []) c.self.view_is c.put.ensures
