use Rattle.std.proofs.Common.{◌∙◌, ap, sym, arith, ◌-◌, length, slice_index_or}
use Rattle.event_log.specs.Logs.{entry_at, last_reply}
use Rattle.chan_events.specs.Replies.{reply_in}
use Rattle.event_log.proofs.Growing.{last-of}
use Rattle.event_log.proofs.history.History.last_reply.Goals as goal

pub returns-clause-reply : goal.returns-clause-reply
returns-clause-reply c =
    let h = c.self.inside in
    let k = c.index-self-count.result in
    let last = length h.entries.now - 1 in
    let at = slice_index_or h.entries.now last k in
    ap (reply_in at.reply) c.bytes_of.ensures.value
    ∙ sym (last-of (entry_at h.bytes.now) h.entries.now last k (omega (arith, c.if-count-eq0.false)))
    ∙ ap last_reply c.self.view_is
