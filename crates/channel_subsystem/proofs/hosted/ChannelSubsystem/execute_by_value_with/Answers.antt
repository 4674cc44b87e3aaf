use Rattle.std.proofs.Common.{refl, sym, ◌∙◌, ap, subst, arith, ◌+◌, ◌≤◌, ◌∷◌, [], ◌++◌, List, length, length-append, Ok, Err}
use Rattle.chan_events.specs.declared.reply.Entry.{Entry}
use Rattle.chan_events.specs.Replies.{reply_of}
use Rattle.channel_subsystem.specs.GivenSteps.{IsGivenStep, IsSomewhere, given_event}
use Rattle.channel_subsystem.specs.Hosting.{Hosted}
use Rattle.channel_subsystem.specs.declared.host_fault.HostFault.TheVariants as fault
use Rattle.event_log.specs.Logs.{Logged}
use Rattle.machine_model.specs.State.{State}
use Rattle.channel_subsystem.proofs.Answering.{HasLaws}
use Rattle.channel_subsystem.proofs.Giving.{given-accepted, given-led, given-unmoved, lacks-why}
use Rattle.channel_subsystem.proofs.Leading.{Adds}
use Rattle.channel_subsystem.proofs.hosted.ChannelSubsystem.execute_by_value_with.Goals as goal

pub returns-in-Err-clause-stepped : goal.returns-in-Err-clause-stepped
returns-in-Err-clause-stepped g c =
    let old : Hosted = record { machine = c.self.inside.machine; blocks = c.self.inside.blocks; keeping = c.self.inside.keeping; kept = c.self.inside.log.entries; room = c.self.inside.log.room; count = c.self.inside.count } in
    let log = c.make_room.new.log in
    let same = c.in-Err.ensures.refused in
    let i = c.args.instruction.now in
    given-unmoved c.setups.ensures.set_up g.P.PathChoice.picks old c.args.self.now log.entries log.room c.args.cpu c.args.subchannel i c.in-Err.fault c.self.view_is
    (ap (λ (l : Logged). l.entries) same ∙ c.make_way.ensures.entries) (omega (arith, ap (λ (l : Logged). l.room) same, c.make_way.ensures.kept))
    (λ before there. lacks-why old c.make_way.new.log.room before (given_event c.args.cpu c.args.subchannel i) c.in-Err.fault c.make_way.ensures.all c.make_way.ensures.kept c.in-Err.ensures.refusal)

pub invariant_of-self-in-Ok : goal.invariant_of-self-in-Ok
invariant_of-self-in-Ok g c =
    let old : Hosted = record { machine = c.self.inside.machine; blocks = c.self.inside.blocks; keeping = c.self.inside.keeping; kept = c.self.inside.log.entries; room = c.self.inside.log.room; count = c.self.inside.count } in
    let log = c.keep_by_value.new.log in
    let i = c.args.instruction.now in
    let answered = c.in-Ok.answered in
    let new : Hosted = record { machine = c.keep_by_value.new.machine; blocks = c.self.inside.blocks; keeping = c.self.inside.keeping; kept = log.entries; room = log.room; count = c.self.inside.count + 1 } in
    let entry : Entry = record { event = (given_event c.args.cpu c.args.subchannel i); reply = (reply_of answered.reply) } in
    let adds : Adds old new (given_event c.args.cpu c.args.subchannel i) (reply_of answered.reply) = record {
      blocks = refl;
      keeping = refl;
      kept = c.in-Ok.ensures.entry ∙ ap (λ (h : List Entry). h ++ entry ∷ []) (c.make_room.ensures.entries ∙ c.make_way.ensures.entries);
      room = omega (arith, c.in-Ok.ensures.room, c.make_room.ensures.kept, c.make_way.ensures.kept);
      count = refl;
    } in
    let host = c.self.invariant.1.1.1.1 in (
      given-led c.setups.ensures.set_up old new c.args.cpu c.args.subchannel i answered host (subst (λ (s : Hosted). IsSomewhere i s.blocks c.args.cpu) (sym c.self.view_is) (c.has_operand_somewhere.ensures c.args.cpu)).operand
          c.in-Ok.ensures.performs adds c.self.invariant.0,
      (c.in-Ok.ensures.fits, (c.in-Ok.ensures.fresh, (omega (arith, ap (λ (h : List Entry). length h) c.in-Ok.ensures.entry, length-append c.make_room.new.log.entries (entry ∷ [])), host))),
    )

pub returns-in-Ok-clause-stepped : goal.returns-in-Ok-clause-stepped
returns-in-Ok-clause-stepped g c =
    let old : Hosted = record { machine = c.self.inside.machine; blocks = c.self.inside.blocks; keeping = c.self.inside.keeping; kept = c.self.inside.log.entries; room = c.self.inside.log.room; count = c.self.inside.count } in
    let log = c.keep_by_value.new.log in
    let i = c.args.instruction.now in
    let answered = c.in-Ok.answered in
    let new : Hosted = record { machine = c.keep_by_value.new.machine; blocks = c.self.inside.blocks; keeping = c.self.inside.keeping; kept = log.entries; room = log.room; count = c.self.inside.count + 1 } in
    let entry : Entry = record { event = (given_event c.args.cpu c.args.subchannel i); reply = (reply_of answered.reply) } in
    let adds : Adds old new (given_event c.args.cpu c.args.subchannel i) (reply_of answered.reply) = record {
      blocks = refl;
      keeping = refl;
      kept = c.in-Ok.ensures.entry ∙ ap (λ (h : List Entry). h ++ entry ∷ []) (c.make_room.ensures.entries ∙ c.make_way.ensures.entries);
      room = omega (arith, c.in-Ok.ensures.room, c.make_room.ensures.kept, c.make_way.ensures.kept);
      count = refl;
    } in
    let laws : HasLaws = record { keeps = c.setups.ensures.set_up; later = c.steps.ensures.subs; pending = c.numbers.ensures.pending; table = c.codes.ensures.table } in
    subst (λ (s : Hosted). IsGivenStep g.P.PathChoice.picks s c.args.cpu c.args.subchannel i (Ok answered) new) c.self.view_is
    (given-accepted laws g.P.PathChoice.picks old new c.args.cpu c.args.subchannel i answered c.self.invariant.0 (omega (arith, c.in_default.ensures.number)) c.in-Ok.ensures.performs adds)

pub returns-in-Err-keep_by_value-clause-stepped : goal.returns-in-Err-keep_by_value-clause-stepped
returns-in-Err-keep_by_value-clause-stepped g c =
    let old : Hosted = record { machine = c.self.inside.machine; blocks = c.self.inside.blocks; keeping = c.self.inside.keeping; kept = c.self.inside.log.entries; room = c.self.inside.log.room; count = c.self.inside.count } in
    let log = c.keep_by_value.new.log in
    let refusal = c.in-Err-keep_by_value in
    let same = refusal.ensures.refused in
    let i = c.args.instruction.now in
    let still = ap (λ (l : Logged). l.entries) same ∙ (c.make_room.ensures.entries ∙ c.make_way.ensures.entries) in
    let more : old.room ≤ log.room = omega (arith, ap (λ (l : Logged). l.room) same, c.make_room.ensures.kept, c.make_way.ensures.kept) in
    subst (λ (m : State). IsGivenStep g.P.PathChoice.picks c.args.self.now c.args.cpu c.args.subchannel i (Err (fault.Refused refusal.fault))
    (record { machine = m; blocks = c.self.inside.blocks; keeping = c.self.inside.keeping; kept = log.entries; room = log.room; count = c.self.inside.count }))
    (sym refusal.ensures.kept)
    (given-unmoved c.setups.ensures.set_up g.P.PathChoice.picks old c.args.self.now log.entries log.room c.args.cpu c.args.subchannel i (fault.Refused refusal.fault) c.self.view_is
    still more (λ before there. (refusal.ensures.performs before there).0))

pub returns-in-Err-clause-somewhere : goal.returns-in-Err-clause-somewhere
returns-in-Err-clause-somewhere g c = c.has_operand_somewhere.ensures c.args.cpu

pub returns-in-Ok-clause-somewhere : goal.returns-in-Ok-clause-somewhere
returns-in-Ok-clause-somewhere g c = c.has_operand_somewhere.ensures c.args.cpu

pub returns-in-Err-keep_by_value-clause-somewhere : goal.returns-in-Err-keep_by_value-clause-somewhere
returns-in-Err-keep_by_value-clause-somewhere g c = c.has_operand_somewhere.ensures c.args.cpu
