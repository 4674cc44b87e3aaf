-- What is stored so far, piece by piece.
use Rattle.std.proofs.Common.{◌≡◌, ◌+◌, ◌≤◌, arith, length, refl, ap, ◌∙◌, sym}
use Rattle.storage_keys.specs.Storage.{Contents}
use Rattle.storage_keys.proofs.OperandLemmas.{operand_stored-nil, stored_more, length-operand_stored, length-slice_range}
use Rattle.storage_keys.proofs.main_storage.MainStorage.store_operand.Goals as goal

pub loop-done-init : goal.loop-done-init
loop-done-init g c =
    record { within = omega arith; here = omega arith; stored = sym (operand_stored-nil (g.Self.MainStorage.contents c.args.self.now) c.args.cpu c.args.address); lender = refl }

pub store_piece-requires-clause-inside : goal.store_piece-requires-clause-inside
store_piece-requires-clause-inside g c =
    let within : c.loop-done.done + c.piece_length-count.result ≤ length c.args.bytes.now = omega arith in
    let size : length (g.Self.MainStorage.contents c.loop-done.self).bytes ≡ length (g.Self.MainStorage.contents c.args.self.now).bytes =
    ap (λ (s : Contents). length s.bytes) c.loop-done.invariant.stored ∙ length-operand_stored (g.Self.MainStorage.contents c.args.self.now) c.args.cpu c.args.address _ in
    omega (arith, length-slice_range c.args.bytes.now c.loop-done.done c.piece_length-count.result (λ _. within))

pub overflow_add-real : goal.overflow_add-real
overflow_add-real g c =
    let size : length (g.Self.MainStorage.contents c.loop-done.self).bytes ≡ length (g.Self.MainStorage.contents c.args.self.now).bytes =
    ap (λ (s : Contents). length s.bytes) c.loop-done.invariant.stored ∙ length-operand_stored (g.Self.MainStorage.contents c.args.self.now) c.args.cpu c.args.address _ in
    omega (arith, c.store_piece.ensures.sound.greatest)

pub loop-done-preserved : goal.loop-done-preserved
loop-done-preserved g c =
    let within : c.loop-done.done + c.piece_length-count.result ≤ length c.args.bytes.now = omega arith in
    record {
      within = within;
      here = omega arith;
      stored = stored_more (g.Self.MainStorage.contents c.args.self.now) (g.Self.MainStorage.contents c.loop-done.self) (g.Self.MainStorage.contents c.store_piece.new.storage) c.args.cpu c.args.address c.loop-done.done c.piece_length-count.result c.args.bytes.now within
          c.loop-done.invariant.stored (rw (← c.loop-done.invariant.here) c.store_piece.ensures.stored);
      lender = c.store_piece.ensures.lender ∙ c.loop-done.invariant.lender;
    }
