use Rattle.script_text.proofs.Printing.{same_text}
use Rattle.record_text.proofs.Digits.{few_is}
use Rattle.record_text.proofs.number.put_few_digits.Goals as goal

pub returns : goal.returns
returns g c = same_text _ _ _ _ _ (few_is c.args.number _ _ c.four_digits-digits.ensures c.few_digits.ensures.value c.few_digits.ensures.most) c.put.ensures
