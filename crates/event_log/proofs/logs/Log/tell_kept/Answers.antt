use Rattle.std.proofs.Common.{arith, ◌∙◌, ap, ap₂, List, ℕ, take, vec_capacity}
use Rattle.event_log.specs.declared.entries.KeptEntry.{KeptEntry}
use Rattle.event_log.specs.Logs.{entries_at, unfinished}
use Rattle.event_log.proofs.Growing.{behind, entries-stay, room-grows}
use Rattle.event_log.proofs.logs.Log.tell_kept.Goals as goal

pub returns-clause-kept : goal.returns-clause-kept
returns-clause-kept c =
    let log = c.self.inside in
    let is = c.self.invariant.0 in
    let last = behind log.entries.items c.write.new.entries.items log.count (unfinished log.start c.args.kept) is.some c.write.ensures.items in
    record {
      entries =
          ap₂ (λ (xs : List ℕ) (ks : List KeptEntry). entries_at xs ks) c.add_bytes.ensures.items last.front
          ∙ (entries-stay log.bytes.items c.args.bytes.now log.start (take log.count log.entries.items) is.written.inside is.written.fit
          ∙ ap (λ l. l.entries) c.self.view_is);
      room = omega (arith, ap (λ l. l.room) c.self.view_is, room-grows (vec_capacity log.entries) (vec_capacity c.write.new.entries) log.count (vec_capacity log.bytes) (vec_capacity c.add_bytes.new.arena) log.start c.write.ensures.capacity c.add_bytes.ensures.capacity);
    }
