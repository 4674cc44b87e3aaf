use Rattle.std.proofs.Common.{ap}
use Rattle.chan_model.specs.Lent.{lent_down, lent_up}
use Rattle.chan_model.specs.Signals.{map_sent}
use Rattle.chan_events.proofs.MetSignals.{up-alone, up-answered}
use Rattle.chan_events.proofs.reply.KeptReply.met_up.Goals as goal

pub returns-in-None-clause-kept : goal.returns-in-None-clause-kept
returns-in-None-clause-kept c rest =
    up-alone (lent_up c.args.signal.now) c.args.taken (map_sent lent_down c.args.sent.now) c.keep.result rest (ap (map_sent lent_down) c.in-None.is) c.keep.ensures.kept

pub returns-in-Some-clause-kept : goal.returns-in-Some-clause-kept
returns-in-Some-clause-kept c rest =
    up-answered (lent_up c.args.signal.now) c.args.taken (map_sent lent_down c.args.sent.now)
    (record { path = c.in-Some.sent.path; signal = lent_down c.in-Some.sent.signal }) c.keep-in-Some.result c.keep-in-Some-2.result rest
    (ap (map_sent lent_down) c.in-Some.is) c.keep-in-Some.ensures.kept c.keep-in-Some.ensures.length c.keep-in-Some-2.ensures.kept
