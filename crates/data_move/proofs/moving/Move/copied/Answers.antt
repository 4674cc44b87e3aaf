use Rattle.std.proofs.Common.{◌≡◌, map, ap, sym, ◌∙◌, false, true}
use Rattle.std.specs.Prelude.{slice_index}
use Rattle.std.specs.List.{range_with_len}
use Rattle.data_move.specs.Moving.{Moving, room}
use Rattle.data_move.proofs.AccessLemmas.{skipped_at, copied_at}
use Rattle.data_move.proofs.moving.Move.copied.Goals as goal

pub returns-then-self-clause-places : goal.returns-then-self-clause-places
returns-then-self-clause-places g c = λ r a.
    let skipped : c.args.self.now.skipped ≡ true = ap (λ (m : Moving). m.skipped) (sym c.self.view_is) ∙ c.if-self.true in
    c.empty.ensures ∙ skipped_at r c.args.self.now (g.M.MainStorage.contents c.args.storage.now).bytes a skipped

pub returns-in-Ok-clause-places : goal.returns-in-Ok-clause-places
returns-in-Ok-clause-places g c = λ r a.
    let storage = g.M.MainStorage.contents c.args.storage.now in
    let skipped : c.args.self.now.skipped ≡ false = ap (λ (m : Moving). m.skipped) (sym c.self.view_is) ∙ c.if-self.false in
    let here : c.self.inside.piece ≡ c.args.self.now.piece = ap (λ (m : Moving). m.piece) c.self.view_is in
    let all : c.from.result ≡ room c.args.self.now = c.from.ensures ∙ c.room.ensures.room in
    let bytes : c.in-Ok.bytes.now ≡ map (slice_index storage.bytes) (range_with_len c.self.inside.piece c.from.result) =
    c.fetched_bytes.ensures storage c.args.key c.self.inside.piece c.from.result c.in-Ok.bytes.now c.in-Ok.ensures.fetched in
    copied_at r c.args.self.now storage.bytes c.of.result c.self.inside.piece c.from.result a skipped here all (c.of.ensures ∙ bytes)
