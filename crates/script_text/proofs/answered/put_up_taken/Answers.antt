use Rattle.std.proofs.Common.{◌++◌, ◌∷◌, [], ap, sym, true}
use Rattle.chan_model.specs.Signals.{KeptUp, up_in}
use Rattle.script_text.specs.Text as spec
use Rattle.script_text.proofs.Printing.{same_text}
use Rattle.script_text.proofs.answered.put_up_taken.Goals as goal

pub returns-in-Released : goal.returns-in-Released
returns-in-Released g c =
    same_text _ _ _ _ _ (ap (λ (k : KeptUp). spec.taken_text true ++ spec.up_name (up_in k c.args.signal.now.bytes.now) ++ 10 ∷ []) (sym c.in-Released.is)) c.put-in-Released.ensures

pub returns-in-Cleared : goal.returns-in-Cleared
returns-in-Cleared g c =
    same_text _ _ _ _ _ (ap (λ (k : KeptUp). spec.taken_text true ++ spec.up_name (up_in k c.args.signal.now.bytes.now) ++ 10 ∷ []) (sym c.in-Cleared.is)) c.put-in-Cleared.ensures
