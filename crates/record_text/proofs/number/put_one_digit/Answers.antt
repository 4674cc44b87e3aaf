use Rattle.std.proofs.Common.{rules}
use Rattle.script_text.proofs.Printing.{same_text}
use Rattle.record_text.proofs.Digits.{one_is}
use Rattle.record_text.proofs.number.put_one_digit.Goals as goal

pub returns : goal.returns
returns g c = same_text _ _ _ _ _ (one_is c.args.number _ c.one_digit.ensures (search rules)) c.put.ensures
