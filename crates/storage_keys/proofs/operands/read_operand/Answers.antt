-- What is read so far, piece by piece.
use Rattle.std.proofs.Common.{◌+◌, ◌≤◌, arith, length, ap, ◌∙◌, sym}
use Rattle.storage_keys.proofs.OperandLemmas.{read-nil, read_more, length-read, length-slice_range}
use Rattle.storage_keys.proofs.operands.read_operand.Goals as goal

pub loop-done-init : goal.loop-done-init
loop-done-init g c = record { within = omega arith; here = omega arith; read = read-nil (g.M.MainStorage.contents c.args.storage.now) c.args.cpu c.args.address }

pub copy_from_slice-requires : goal.copy_from_slice-requires
copy_from_slice-requires g c =
    let within : c.loop-done.done + c.piece_length-count.result ≤ length c.loop-done.bytes = omega arith in
    length-slice_range c.loop-done.bytes c.loop-done.done c.piece_length-count.result (λ _. within)
    ∙ sym (ap length c.piece.ensures.piece ∙ length-read (g.M.MainStorage.contents c.args.storage.now) c.args.cpu c.loop-done.real c.piece_length-count.result)

pub loop-done-preserved : goal.loop-done-preserved
loop-done-preserved g c =
    let within : c.loop-done.done + c.piece_length-count.result ≤ length c.loop-done.bytes = omega arith in
    record {
      within = omega (arith, c.type_inv.bytes 0);
      here = omega arith;
      read = read_more (g.M.MainStorage.contents c.args.storage.now) c.args.cpu c.args.address c.loop-done.done c.piece_length-count.result _ c.loop-done.bytes c.copy_from_slice.new.self within c.loop-done.invariant.read
          (c.copy_from_slice.ensures.after ∙ rw (← c.loop-done.invariant.here) c.piece.ensures.piece);
    }
