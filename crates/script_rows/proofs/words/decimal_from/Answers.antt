use Rattle.std.proofs.Common.{arith, ◌<◌}
use Rattle.script_rows.proofs.Digits.{decimal_fits}
use Rattle.script_rows.proofs.words.decimal_from.Goals as goal

pub overflow_mul-value : goal.overflow_mul-value
overflow_mul-value c =
    let small : c.in-Some.digit < 10 = c.in-Some.ensures.small in
    let fits = decimal_fits c.loop-byte.byte-index c.loop-byte.value c.in-Some.digit (omega arith) c.loop-byte.invariant.small small in
    omega arith

pub overflow_add-value : goal.overflow_add-value
overflow_add-value c =
    let small : c.in-Some.digit < 10 = c.in-Some.ensures.small in
    let fits = decimal_fits c.loop-byte.byte-index c.loop-byte.value c.in-Some.digit (omega arith) c.loop-byte.invariant.small small in
    omega arith
