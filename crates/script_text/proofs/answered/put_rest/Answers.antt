use Rattle.std.proofs.Common.{◌∷◌, []}
use Rattle.streams.proofs.Sinking.{takes_then}
use Rattle.script_text.proofs.answered.put_rest.Goals as goal

pub returns-then-put_kept : goal.returns-then-put_kept
returns-then-put_kept g c = takes_then _ _ _ _ (10 ∷ []) _ c.if-put_kept.ensures c.put-then-put_kept.ensures
