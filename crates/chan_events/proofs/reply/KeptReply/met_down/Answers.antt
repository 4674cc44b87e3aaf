use Rattle.std.proofs.Common.{ap}
use Rattle.chan_model.specs.Lent.{lent_down, lent_up}
use Rattle.chan_model.specs.Signals.{map_sent}
use Rattle.chan_events.proofs.MetSignals.{down-alone, down-answered}
use Rattle.chan_events.proofs.reply.KeptReply.met_down.Goals as goal

pub returns-in-None-clause-kept : goal.returns-in-None-clause-kept
returns-in-None-clause-kept c rest =
    down-alone (lent_down c.args.signal.now) c.args.taken (map_sent lent_up c.args.sent.now) c.keep.result rest (ap (map_sent lent_up) c.in-None.is) c.keep.ensures.kept

pub returns-in-Some-clause-kept : goal.returns-in-Some-clause-kept
returns-in-Some-clause-kept c rest =
    down-answered (lent_down c.args.signal.now) c.args.taken (map_sent lent_up c.args.sent.now)
    (record { path = c.in-Some.sent.path; signal = lent_up c.in-Some.sent.signal }) c.keep-in-Some.result c.keep-in-Some-2.result rest
    (ap (map_sent lent_up) c.in-Some.is) c.keep-in-Some.ensures.kept c.keep-in-Some.ensures.length c.keep-in-Some-2.ensures.kept
