use Rattle.std.proofs.Common.{◌+◌, [], ◌∷◌, ◌++◌, ℕ, List, length, sym, ap, ◌∙◌, subst}
use Rattle.std.specs.Prelude.{All}
use Rattle.chan_events.specs.declared.reply.Entry.{Entry}
use Rattle.event_log.specs.Logs.{last_reply}
use Rattle.scsw_irb.specs.declared.serials.Serials.{Serials}
use Rattle.subsystem.specs.Keeping.{IsOrdered, all_serials}
use Rattle.glance_directory.specs.declared.touching.ChangedSerials.{ChangedSerials}
use Rattle.glance_directory.specs.Cells.{shown}
use Rattle.core_lock.specs.Seats.{entry}
use Rattle.glance_directory.specs.Touching.{Changes, touched}
use Rattle.core_lock.proofs.Entered.{accepted}
use Rattle.core_lock.proofs.Lengthening.{longer}
use Rattle.core_lock.proofs.Raising.{raised_length, raised_ordered}
use Rattle.core_lock.proofs.entering.keep_entry.Goals as goal

pub publish-requires-clause-changes : goal.publish-requires-clause-changes
publish-requires-clause-changes g c =
    let s = c.args.subsystem.now in
    let new = c.perform_with.new.self in
    let e = c.args.event.now in
    let step = accepted g.P.PathChoice.picks s new e c.perform_with.result c.counted-2.result c.in_ok-counted-2.field-0 c.perform_with.ensures.answered c.counted-2.ensures.same c.in_ok-counted-2.was in
    let base = c.touches.ensures s.state e (last_reply new.history) new.state step.step in
    subst (λ (t : ChangedSerials). Changes t (shown c.args.writers.now.items) (all_serials new.state)) (sym c.touched_by-touched.ensures.value)
    (subst (λ (l : List Serials). Changes (touched s.state e) l (all_serials new.state)) (sym c.requires.shown) base)

pub invariant_of-seat-2 : goal.invariant_of-seat-2
invariant_of-seat-2 g c =
    let i = c.seat.invariant in
    let r = c.raise.ensures in
    let seen_serials = c.seat.inside.seen_serials.items in
    let d = c.deref.result.now in
    let s = c.args.subsystem.now in
    let new = c.perform_with.new.self in
    let e = c.args.event.now in
    let reply = last_reply new.history in
    let step = accepted g.P.PathChoice.picks s new e c.perform_with.result c.counted-2.result c.in_ok-counted-2.field-0 c.perform_with.ensures.answered c.counted-2.ensures.same c.in_ok-counted-2.was in
    let logged = c.add_last.ensures.entries s.history (entry e reply) step.history in
    record {
      share = c.add.ensures.parts ∙ i.share;
      turns = i.turns;
      entries = c.add.ensures.amount ∙ ap (λ (n : ℕ). n + 1) i.entries ∙ sym (longer c.seat.inside.log.entries c.add_last.new.log.entries (entry e reply) (logged ∙ ap (λ (l : List Entry). l ++ entry e reply ∷ []) c.make_room.ensures.log.entries));
      fresh = c.add_last.ensures.fresh;
      beside = ap length r ∙ raised_length seen_serials d e reply ∙ i.beside;
      ordered = subst (All IsOrdered) (sym r) (raised_ordered seen_serials d e reply step.ordered i.ordered);
      cells = i.cells;
      names = i.names;
      directory = i.directory;
    }
