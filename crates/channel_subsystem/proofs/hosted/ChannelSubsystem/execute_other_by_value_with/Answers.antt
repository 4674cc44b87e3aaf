use Rattle.std.proofs.Common.{refl, sym, ◌∙◌, ap, subst, arith, ◌+◌, ◌∷◌, [], ◌++◌, List, length, length-append, Ok}
use Rattle.chan_events.specs.declared.reply.Entry.{Entry}
use Rattle.chan_events.specs.Replies.{reply_of}
use Rattle.channel_subsystem.specs.GivenSteps.{HasRoomSomewhere, IsOtherGivenStep, other_event}
use Rattle.channel_subsystem.specs.Hosting.{Hosted}
use Rattle.event_log.specs.Logs.{Logged}
use Rattle.channel_subsystem.proofs.Answering.{HasLaws}
use Rattle.channel_subsystem.proofs.Giving.{lacks-why, other-accepted, other-led, other-unmoved}
use Rattle.channel_subsystem.proofs.Leading.{Adds}
use Rattle.channel_subsystem.proofs.hosted.ChannelSubsystem.execute_other_by_value_with.Goals as goal

pub returns-in-Err-clause-stepped : goal.returns-in-Err-clause-stepped
returns-in-Err-clause-stepped g c =
    let old : Hosted = record { machine = c.self.inside.machine; blocks = c.self.inside.blocks; keeping = c.self.inside.keeping; kept = c.self.inside.log.entries; room = c.self.inside.log.room; count = c.self.inside.count } in
    let log = c.make_room.new.log in
    let same = c.in-Err.ensures.refused in
    other-unmoved c.setups.ensures.set_up g.P.PathChoice.picks old c.args.self.now log.entries log.room c.args.cpu c.args.instruction c.in-Err.fault c.self.view_is
    (ap (λ (l : Logged). l.entries) same ∙ c.make_way.ensures.entries) (omega (arith, ap (λ (l : Logged). l.room) same, c.make_way.ensures.kept))
    (λ before. lacks-why old c.make_way.new.log.room before (other_event c.args.cpu c.args.instruction) c.in-Err.fault c.make_way.ensures.all c.make_way.ensures.kept c.in-Err.ensures.refusal)

pub invariant_of-self-2 : goal.invariant_of-self-2
invariant_of-self-2 g c =
    let old : Hosted = record { machine = c.self.inside.machine; blocks = c.self.inside.blocks; keeping = c.self.inside.keeping; kept = c.self.inside.log.entries; room = c.self.inside.log.room; count = c.self.inside.count } in
    let log = c.keep_other_by_value-reply.new.log in
    let plain = c.keep_other_by_value-reply.result in
    let new : Hosted = record { machine = c.keep_other_by_value-reply.new.machine; blocks = c.self.inside.blocks; keeping = c.self.inside.keeping; kept = log.entries; room = log.room; count = c.self.inside.count + 1 } in
    let entry : Entry = record { event = (other_event c.args.cpu c.args.instruction); reply = (reply_of plain) } in
    let adds : Adds old new (other_event c.args.cpu c.args.instruction) (reply_of plain) = record {
      blocks = refl;
      keeping = refl;
      kept = c.keep_other_by_value-reply.ensures.entry ∙ ap (λ (h : List Entry). h ++ entry ∷ []) (c.make_room.ensures.entries ∙ c.make_way.ensures.entries);
      room = omega (arith, c.keep_other_by_value-reply.ensures.room, c.make_room.ensures.kept, c.make_way.ensures.kept);
      count = refl;
    } in
    let host = c.self.invariant.1.1.1.1 in (
      other-led c.setups.ensures.set_up old new c.args.cpu c.args.instruction plain host (subst (λ (s : Hosted). HasRoomSomewhere c.args.instruction s.blocks c.args.cpu) (sym c.self.view_is) (c.has_room_somewhere.ensures c.args.cpu)).room
          c.keep_other_by_value-reply.ensures.performs adds c.self.invariant.0,
      (c.keep_other_by_value-reply.ensures.fits, (c.keep_other_by_value-reply.ensures.fresh, (omega (arith, ap (λ (h : List Entry). length h) c.keep_other_by_value-reply.ensures.entry, length-append c.make_room.new.log.entries (entry ∷ [])), host))),
    )

pub returns-clause-stepped : goal.returns-clause-stepped
returns-clause-stepped g c =
    let old : Hosted = record { machine = c.self.inside.machine; blocks = c.self.inside.blocks; keeping = c.self.inside.keeping; kept = c.self.inside.log.entries; room = c.self.inside.log.room; count = c.self.inside.count } in
    let log = c.keep_other_by_value-reply.new.log in
    let plain = c.keep_other_by_value-reply.result in
    let new : Hosted = record { machine = c.keep_other_by_value-reply.new.machine; blocks = c.self.inside.blocks; keeping = c.self.inside.keeping; kept = log.entries; room = log.room; count = c.self.inside.count + 1 } in
    let entry : Entry = record { event = (other_event c.args.cpu c.args.instruction); reply = (reply_of plain) } in
    let adds : Adds old new (other_event c.args.cpu c.args.instruction) (reply_of plain) = record {
      blocks = refl;
      keeping = refl;
      kept = c.keep_other_by_value-reply.ensures.entry ∙ ap (λ (h : List Entry). h ++ entry ∷ []) (c.make_room.ensures.entries ∙ c.make_way.ensures.entries);
      room = omega (arith, c.keep_other_by_value-reply.ensures.room, c.make_room.ensures.kept, c.make_way.ensures.kept);
      count = refl;
    } in
    let laws : HasLaws = record { keeps = c.setups.ensures.set_up; later = c.steps.ensures.subs; pending = c.numbers.ensures.pending; table = c.codes.ensures.table } in
    subst (λ (s : Hosted). IsOtherGivenStep g.P.PathChoice.picks s c.args.cpu c.args.instruction (Ok plain) new) c.self.view_is
    (other-accepted laws g.P.PathChoice.picks old new c.args.cpu c.args.instruction plain c.self.invariant.0 (omega (arith, c.in_default.ensures.number)) c.keep_other_by_value-reply.ensures.performs adds)
