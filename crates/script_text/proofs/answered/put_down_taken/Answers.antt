use Rattle.std.proofs.Common.{◌++◌, ◌∷◌, [], ap, sym, true}
use Rattle.chan_model.specs.Signals.{KeptDown, down_in}
use Rattle.script_text.specs.Text as spec
use Rattle.script_text.proofs.Printing.{same_text}
use Rattle.script_text.proofs.answered.put_down_taken.Goals as goal

pub returns-in-Command : goal.returns-in-Command
returns-in-Command g c =
    same_text _ _ _ _ _ (ap (λ (k : KeptDown). spec.taken_text true ++ spec.down_name (down_in k c.args.signal.now.bytes.now) ++ 10 ∷ []) (sym c.in-Command.is)) c.put-in-Command.ensures

pub returns-in-Release : goal.returns-in-Release
returns-in-Release g c =
    same_text _ _ _ _ _ (ap (λ (k : KeptDown). spec.taken_text true ++ spec.down_name (down_in k c.args.signal.now.bytes.now) ++ 10 ∷ []) (sym c.in-Release.is)) c.put-in-Release.ensures
