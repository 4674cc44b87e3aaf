use Rattle.std.proofs.Common.{◌≡◌, true, ap, ◌∙◌}
use Rattle.chan_model.specs.Lent.{lent_up}
use Rattle.chan_model.specs.Signals.{KeptUp, up_in}
use Rattle.subchannel.specs.Answering.{is_data}
use Rattle.subchannel.proofs.Working.{told_takes}
use Rattle.subchannel.proofs.taking.take_up.Goals as goal

-- a Data
pub returns-in-Data-clause-met : goal.returns-in-Data-clause-met
returns-in-Data-clause-met g c =
    let is : is_data (lent_up c.args.signal.now) ≡ true = ap (λ (k : KeptUp). is_data (up_in k c.args.signal.now.bytes.now)) c.in-Data.is in
    c.take_data.ensures.step ∙ told_takes c.args.returns (g.M.MainStorage.contents c.args.storage.now) c.args.state.now.state c.args.path (lent_up c.args.signal.now) is
