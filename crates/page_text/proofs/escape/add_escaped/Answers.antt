use Rattle.std.proofs.Common.{arith, length, ◌≤◌}
use Rattle.page_text.proofs.Escaping.{added_all}
use Rattle.page_text.proofs.escape.add_escaped.Goals as goal

pub returns-clause-added : goal.returns-clause-added
returns-clause-added g c =
    let all : length c.args.text.now ≤ c.loop-byte.byte-index = omega (arith, c.loop-byte-test.false) in
    added_all c.is_valid-utf8.result _ _ _ _ c.is_valid-utf8.ensures all c.loop-byte.invariant.0
