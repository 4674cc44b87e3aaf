use Rattle.std.proofs.Common.{Bool, true, false, arith}
use Rattle.std.specs.Prelude.{if◌then◌else◌}
use Rattle.subchannel_model.specs.declared.state.SubchannelState.{SubchannelState}
use Rattle.subchannel_model.specs.Halt.{drops_status, status_dropped, halt_begun}
use Rattle.subchannel_model.proofs.Cleared.{none-uncleared}
use Rattle.functions.specs.Counted.{IsCounted}
use Rattle.functions.proofs.law.counts.Goals as goal

pick : (b : Bool) (x y : SubchannelState) → IsCounted x → IsCounted y → IsCounted (if b then x else y)
pick true x y k l = k
pick false x y k l = l

pub returns-clause-halt : goal.returns-clause-halt
returns-clause-halt c = λ s k. pick (drops_status s.scsw) (status_dropped (halt_begun s)) (halt_begun s) (omega arith, none-uncleared s.serials) k

pub returns-clause-clear : goal.returns-clause-clear
returns-clause-clear c = λ s k. (omega arith, none-uncleared s.serials)
