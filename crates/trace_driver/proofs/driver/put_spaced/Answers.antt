use Rattle.std.proofs.Common.{◌∷◌, [], decimal}
use Rattle.streams.proofs.Sinking.{takes_then}
use Rattle.trace_driver.proofs.driver.put_spaced.Goals as goal

pub returns-then-put : goal.returns-then-put
returns-then-put g c = takes_then _ _ _ (32 ∷ []) (decimal c.args.count) _ c.if-put.ensures c.put_decimal.ensures
