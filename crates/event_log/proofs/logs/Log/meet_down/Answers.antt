use Rattle.std.proofs.Common.{arith, ◌∙◌, ap, ap₂, List, ℕ, drop, take, vec_capacity}
use Rattle.chan_events.specs.declared.reply.Reply.TheVariants as reply
use Rattle.chan_model.specs.Lent.{lent_down, lent_up}
use Rattle.chan_model.specs.Signals.{map_sent}
use Rattle.chan_events.specs.Replies.{reply_bytes, reply_in}
use Rattle.event_log.specs.declared.entries.KeptEntry.{KeptEntry}
use Rattle.event_log.specs.Logs.{entries_at, unfinished, written_reply}
use Rattle.event_log.proofs.Growing.{begun, behind, entries-stay, room-grows, told-behind}
use Rattle.event_log.proofs.logs.Log.meet_down.Goals as goal

pub returns-clause-reply : goal.returns-clause-reply
returns-clause-reply c =
    let log = c.self.inside in
    let packed = c.pack_down-reply.ensures in
    let r = reply.Down (lent_down c.args.signal.now) c.args.taken (map_sent lent_up c.args.sent.now) in
    let k = c.pack_down-reply.result in
    let is = c.self.invariant.0 in
    let new = begun log.bytes.items (take log.count log.entries.items) log.start (written_reply (drop log.count log.entries.items)) is.written (ap (λ l. l.reply) c.self.view_is ∙ c.requires.fresh) in
    let last = behind log.entries.items c.write.new.entries.items log.count (unfinished log.start k) is.some c.write.ensures.items in
    ap₂ (λ (ks : List KeptEntry) (xs : List ℕ). reply_in (written_reply ks) (drop log.start xs)) last.behind packed.items
    ∙ told-behind log.bytes.items (reply_bytes r) log.start k r new.ends packed.told

pub returns-clause-kept : goal.returns-clause-kept
returns-clause-kept c =
    let log = c.self.inside in
    let packed = c.pack_down-reply.ensures in
    let r = reply.Down (lent_down c.args.signal.now) c.args.taken (map_sent lent_up c.args.sent.now) in
    let is = c.self.invariant.0 in
    let last = behind log.entries.items c.write.new.entries.items log.count (unfinished log.start c.pack_down-reply.result) is.some c.write.ensures.items in
    record {
      entries =
          ap₂ (λ (xs : List ℕ) (ks : List KeptEntry). entries_at xs ks) packed.items last.front
          ∙ (entries-stay log.bytes.items (reply_bytes r) log.start (take log.count log.entries.items) is.written.inside is.written.fit
          ∙ ap (λ l. l.entries) c.self.view_is);
      room = omega (arith, ap (λ l. l.room) c.self.view_is, room-grows (vec_capacity log.entries) (vec_capacity c.write.new.entries) log.count (vec_capacity log.bytes) (vec_capacity c.pack_down-reply.new.arena) log.start c.write.ensures.capacity packed.capacity);
    }
