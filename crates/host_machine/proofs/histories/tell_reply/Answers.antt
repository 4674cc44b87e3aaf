use Rattle.std.proofs.Common.{ap, ◌∙◌, List, ℕ, length, take}
use Rattle.host_machine.specs.Given.{written}
use Rattle.host_machine.proofs.Telling.{told}
use Rattle.host_machine.proofs.histories.tell_reply.Goals as goal

pub returns : goal.returns
returns c =
    let at = c.put_reply-whole.new.sink in
    let same = told _ at.room _ _ _ _ at.count c.new-told.ensures.bytes at.fits at.whole at.full c.put_reply-whole.ensures in
    (c.write.ensures.room ∙ ap (λ (text : List ℕ). written text c.args.room.now) same, c.write.ensures.count ∙ ap (λ (text : List ℕ). length (take (length c.args.room.now) text)) same)
