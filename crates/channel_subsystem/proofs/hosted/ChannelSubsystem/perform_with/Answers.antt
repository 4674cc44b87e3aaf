use Rattle.std.proofs.Common.{refl, sym, ◌≡◌, ◌∙◌, ap, subst, arith, ◌+◌, ◌≤◌, ◌∷◌, [], ◌++◌, List, length, length-append, rules, Ok, Err}
use Rattle.chan_events.specs.declared.reply.Entry.{Entry}
use Rattle.channel_subsystem.specs.Hosting.{HasLed, Hosted, IsHostStep}
use Rattle.channel_subsystem.specs.declared.host_fault.HostFault.TheVariants as fault
use Rattle.event_log.specs.Logs.{Logged, last_reply}
use Rattle.machine_model.specs.State.{lent}
use Rattle.machine_model.specs.Ruled.{GoesByRule}
use Rattle.machine_model.specs.State.{State}
use Rattle.channel_subsystem.proofs.Answering.{HasLaws, accepted, as-before, lacks-room, unmoved-seen}
use Rattle.channel_subsystem.proofs.Leading.{Adds, led-as-before, led-number, led-on}
use Rattle.channel_subsystem.proofs.hosted.ChannelSubsystem.perform_with.Goals as goal

pub returns-then-self-clause-stepped : goal.returns-then-self-clause-stepped
returns-then-self-clause-stepped g c =
    let before = g.M.MainStorage.contents c.args.storage.now in
    let old : Hosted = record { machine = c.self.inside.machine; blocks = c.self.inside.blocks; keeping = c.self.inside.keeping; kept = c.self.inside.log.entries; room = c.self.inside.log.room; count = c.self.inside.count } in
    let log = c.make_way.new.log in
    unmoved-seen c.setups.ensures.set_up g.P.PathChoice.picks old c.args.self.now log.entries log.room before before c.args.event.now fault.NumbersUsedUp c.self.view_is
    c.make_way.ensures.entries c.make_way.ensures.kept refl c.is_of_size.ensures.sound (omega (arith, c.if-self.true)) tt

pub keep_entry-requires-clause-run : goal.keep_entry-requires-clause-run
keep_entry-requires-clause-run g c =
    let before = g.M.MainStorage.contents c.args.storage.now in
    let old : Hosted = record { machine = c.self.inside.machine; blocks = c.self.inside.blocks; keeping = c.self.inside.keeping; kept = c.self.inside.log.entries; room = c.self.inside.log.room; count = c.self.inside.count } in
    led-number c.setups.ensures.set_up old before c.if-not-is_of_size.ensures.same c.is_of_size.ensures.sound (omega (arith, c.if-self.false)) c.self.invariant.0

pub returns-then-is_err-clause-stepped : goal.returns-then-is_err-clause-stepped
returns-then-is_err-clause-stepped g c =
    let before = g.M.MainStorage.contents c.args.storage.now in
    let old : Hosted = record { machine = c.self.inside.machine; blocks = c.self.inside.blocks; keeping = c.self.inside.keeping; kept = c.self.inside.log.entries; room = c.self.inside.log.room; count = c.self.inside.count } in
    let log = c.make_room_with.new.self in
    let none : c.make_way.new.log.room ≡ 0 = search rules in
    let why = lacks-room old c.make_way.new.log.room c.make_way.ensures.all c.make_way.ensures.kept none in
    unmoved-seen c.setups.ensures.set_up g.P.PathChoice.picks old c.args.self.now log.entries log.room before before c.args.event.now fault.NoMemory c.self.view_is
    (c.make_room_with.ensures.kept.entries ∙ c.make_way.ensures.entries) (omega (arith, c.make_room_with.ensures.kept.room, c.make_way.ensures.kept)) refl c.is_of_size.ensures.sound why tt

pub invariant_of-self-in-Ok : goal.invariant_of-self-in-Ok
invariant_of-self-in-Ok g c =
    let before = g.M.MainStorage.contents c.args.storage.now in
    let after = g.M.MainStorage.contents c.keep_entry.new.storage in
    let log = c.keep_entry.new.log in
    let entry : Entry = record { event = c.args.event.now; reply = last_reply log.entries } in
    let old : Hosted = record { machine = c.self.inside.machine; blocks = c.self.inside.blocks; keeping = c.self.inside.keeping; kept = c.self.inside.log.entries; room = c.self.inside.log.room; count = c.self.inside.count } in
    let new : Hosted = record { machine = c.keep_entry.new.machine; blocks = c.self.inside.blocks; keeping = c.self.inside.keeping; kept = log.entries; room = log.room; count = c.self.inside.count + 1 } in
    let adds : Adds old new c.args.event.now (last_reply log.entries) = record {
      blocks = refl;
      keeping = refl;
      kept = c.in-Ok.ensures.entry ∙ ap (λ (h : List Entry). h ++ entry ∷ []) (c.make_room_with.ensures.kept.entries ∙ c.make_way.ensures.entries);
      room = omega (arith, c.in-Ok.ensures.room, c.make_room_with.ensures.kept.room, c.make_way.ensures.kept);
      count = refl;
    } in (
      led-on c.setups.ensures.set_up old new before after c.args.event.now (last_reply log.entries) adds c.in-Ok.ensures.performs
          c.is_of_size.ensures.sound c.in-Ok.ensures.sound c.if-not-is_of_size.ensures.same c.self.invariant.0,
      (c.in-Ok.ensures.fits, (c.in-Ok.ensures.fresh, (omega (arith, ap (λ (h : List Entry). length h) c.in-Ok.ensures.entry, length-append c.make_room_with.new.self.entries (entry ∷ [])), c.self.invariant.1.1.1.1))),
    )

pub invariant_of-self-in-Err : goal.invariant_of-self-in-Err
invariant_of-self-in-Err g c =
    let log = c.keep_entry.new.log in
    let same = c.in-Err.ensures.refused in
    let old : Hosted = record { machine = c.self.inside.machine; blocks = c.self.inside.blocks; keeping = c.self.inside.keeping; kept = c.self.inside.log.entries; room = c.self.inside.log.room; count = c.self.inside.count } in
    let still = ap (λ (l : Logged). l.entries) same ∙ (c.make_room_with.ensures.kept.entries ∙ c.make_way.ensures.entries) in
    let more : old.room ≤ log.room = omega (arith, ap (λ (l : Logged). l.room) same, c.make_room_with.ensures.kept.room, c.make_way.ensures.kept) in
    let count : length log.entries ≡ length c.make_way.new.log.entries =
    ap (λ (l : Logged). length l.entries) same ∙ ap (λ (h : List Entry). length h) c.make_room_with.ensures.kept.entries in (
      subst (λ (m : State). HasLed (record { machine = m; blocks = c.self.inside.blocks; keeping = c.self.inside.keeping; kept = log.entries; room = log.room; count = c.self.inside.count }))
          (sym c.in-Err.ensures.kept)
          (led-as-before old (record old { kept = log.entries; room = log.room }) (as-before old log.entries log.room still more) c.self.invariant.0),
      (c.in-Err.ensures.fits, (c.in-Err.ensures.fresh, (omega (arith, c.make_way.ensures.room, c.make_room_with.ensures.kept.room, ap (λ (l : Logged). l.room) same, count), c.self.invariant.1.1.1.1))),
    )

pub returns-in-Ok-clause-stepped : goal.returns-in-Ok-clause-stepped
returns-in-Ok-clause-stepped g c =
    let before = g.M.MainStorage.contents c.args.storage.now in
    let after = g.M.MainStorage.contents c.keep_entry.new.storage in
    let log = c.keep_entry.new.log in
    let reply = last_reply log.entries in
    let entry : Entry = record { event = c.args.event.now; reply = reply } in
    let old : Hosted = record { machine = c.self.inside.machine; blocks = c.self.inside.blocks; keeping = c.self.inside.keeping; kept = c.self.inside.log.entries; room = c.self.inside.log.room; count = c.self.inside.count } in
    let new : Hosted = record { machine = c.keep_entry.new.machine; blocks = c.self.inside.blocks; keeping = c.self.inside.keeping; kept = log.entries; room = log.room; count = c.self.inside.count + 1 } in
    let adds : Adds old new c.args.event.now reply = record {
      blocks = refl;
      keeping = refl;
      kept = c.in-Ok.ensures.entry ∙ ap (λ (h : List Entry). h ++ entry ∷ []) (c.make_room_with.ensures.kept.entries ∙ c.make_way.ensures.entries);
      room = omega (arith, c.in-Ok.ensures.room, c.make_room_with.ensures.kept.room, c.make_way.ensures.kept);
      count = refl;
    } in
    let laws : HasLaws = record { keeps = c.setups.ensures.set_up; later = c.steps.ensures.subs; pending = c.numbers.ensures.pending; table = c.codes.ensures.table } in
    let size = c.if-not-is_of_size.ensures.same in
    let sound = c.is_of_size.ensures.sound in
    subst (λ (s : Hosted). IsHostStep g.P.PathChoice.picks s before c.args.event.now (Ok reply) new after) c.self.view_is
    (accepted laws g.P.PathChoice.picks old new before after c.args.event.now reply
    (led-number c.setups.ensures.set_up old before size sound (omega (arith, c.if-self.false)) c.self.invariant.0) c.in-Ok.ensures.performs c.in-Ok.ensures.ruled
    adds size sound c.in-Ok.ensures.sound)

pub returns-in-Err-clause-stepped : goal.returns-in-Err-clause-stepped
returns-in-Err-clause-stepped g c =
    let before = g.M.MainStorage.contents c.args.storage.now in
    let after = g.M.MainStorage.contents c.keep_entry.new.storage in
    let log = c.keep_entry.new.log in
    let same = c.in-Err.ensures.refused in
    let f = c.in-Err.fault in
    let old : Hosted = record { machine = c.self.inside.machine; blocks = c.self.inside.blocks; keeping = c.self.inside.keeping; kept = c.self.inside.log.entries; room = c.self.inside.log.room; count = c.self.inside.count } in
    let still = ap (λ (l : Logged). l.entries) same ∙ (c.make_room_with.ensures.kept.entries ∙ c.make_way.ensures.entries) in
    let more : old.room ≤ log.room = omega (arith, ap (λ (l : Logged). l.room) same, c.make_room_with.ensures.kept.room, c.make_way.ensures.kept) in
    subst (λ (m : State). IsHostStep g.P.PathChoice.picks c.args.self.now before c.args.event.now (Err (fault.Refused f)) (record { machine = m; blocks = c.self.inside.blocks; keeping = c.self.inside.keeping; kept = log.entries; room = log.room; count = c.self.inside.count }) after)
    (sym c.in-Err.ensures.kept)
    (unmoved-seen c.setups.ensures.set_up g.P.PathChoice.picks old c.args.self.now log.entries log.room before after c.args.event.now (fault.Refused f) c.self.view_is
    still more c.in-Err.ensures.unchanged c.is_of_size.ensures.sound c.in-Err.ensures.performs.0
    (subst (λ (s : State). GoesByRule g.P.PathChoice.picks (lent old.machine before) c.args.event.now (Err f) s) c.in-Err.ensures.performs.1 c.in-Err.ensures.ruled))
