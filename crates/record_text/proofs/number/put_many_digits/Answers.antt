use Rattle.script_text.proofs.Printing.{same_text}
use Rattle.record_text.proofs.Digits.{many_is}
use Rattle.record_text.proofs.number.put_many_digits.Goals as goal

pub returns : goal.returns
returns g c = same_text _ _ _ _ _ (many_is c.args.number _ _ c.sixteen_digits-digits.ensures c.many_digits.ensures.value) c.put.ensures
