use Rattle.std.proofs.Common.{ap}
use Rattle.std.specs.List.{flat_map}
use Rattle.script_text.specs.Text as spec
use Rattle.script_text.proofs.Printing.{same_text}
use Rattle.script_text.proofs.put_int_code.Goals as goal

pub returns : goal.returns
returns g c = same_text _ _ _ _ _ (ap (flat_map spec.word_text) c.words.ensures) c.put_words.ensures
