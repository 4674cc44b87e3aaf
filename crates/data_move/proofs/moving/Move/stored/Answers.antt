use Rattle.std.proofs.Common.{◌≡◌, ap, sym, ◌∙◌, false}
use Rattle.data_move.specs.Moving.{Moving}
use Rattle.data_move.proofs.AccessLemmas.{others_at}
use Rattle.data_move.proofs.moving.Move.stored.Goals as goal

pub returns-in-Ok-clause-others : goal.returns-in-Ok-clause-others
returns-in-Ok-clause-others g c = λ r a.
    let before = g.M.MainStorage.contents c.args.storage.now in
    let after = g.M.MainStorage.contents c.store.new.self in
    let skipped : c.args.self.now.skipped ≡ false = ap (λ (m : Moving). m.skipped) (sym c.self.view_is) ∙ c.if-self.false in
    let here : c.self.inside.piece ≡ c.args.self.now.piece = ap (λ (m : Moving). m.piece) c.self.view_is in
    others_at r c.args.self.now before after c.args.key c.self.inside.piece c.args.bytes.now a skipped here c.requires c.in-Ok.ensures.stored
    (c.put_bytes.ensures.before before c.self.inside.piece c.args.bytes.now)
    (c.put_bytes.ensures.after before c.self.inside.piece c.args.bytes.now)
