use Rattle.std.proofs.Common.{◌≤◌, ◌∙◌, refl, ap, arith, rules, []}
use Rattle.storage_keys.specs.Storage.{cleared_storage}
use Rattle.channel_subsystem.specs.Hosting.{Hosted}
use Rattle.channel_subsystem.proofs.Leading.{led-opens, set_up-opens}
use Rattle.channel_subsystem.proofs.hosted.ChannelSubsystem.new_with.Goals as goal

pub invariant_of-result : goal.invariant_of-result
invariant_of-result g c =
    let log = c.make_room_with.new.self in
    let s : Hosted = record { machine = c.in-Ok.machine; blocks = c.args.blocks; keeping = c.args.keeping; kept = log.entries; room = log.room; count = 0 } in
    let none = c.make_room_with.ensures.kept.entries ∙ ap (λ l. l.entries) c.new-log.ensures in
    let room : 1 ≤ log.room = search rules in (
      ([], cleared_storage c.args.blocks, led-opens c.args.config c.args.blocks s c.in-Ok.ensures.lawful c.if-blocks-lt16.false c.in-Ok.ensures.opened refl none),
      (c.in-Ok.ensures.fits, (c.make_room_with.ensures.reply ∙ ap (λ l. l.reply) c.new-log.ensures, (omega (arith, room), (c.if-blocks-lt16.false, c.if-blocks-gt524288.false)))),
    )

pub returns-in-Ok-clause-leads : goal.returns-in-Ok-clause-leads
returns-in-Ok-clause-leads g c =
    let log = c.make_room_with.new.self in
    let s : Hosted = record { machine = c.in-Ok.machine; blocks = c.args.blocks; keeping = c.args.keeping; kept = log.entries; room = log.room; count = 0 } in
    led-opens c.args.config c.args.blocks s c.in-Ok.ensures.lawful c.if-blocks-lt16.false c.in-Ok.ensures.opened refl
    (c.make_room_with.ensures.kept.entries ∙ ap (λ l. l.entries) c.new-log.ensures)

pub returns-in-Ok-clause-set_up : goal.returns-in-Ok-clause-set_up
returns-in-Ok-clause-set_up g c =
    set_up-opens c.args.config c.args.blocks c.in-Ok.machine c.in-Ok.ensures.lawful c.if-blocks-lt16.false c.in-Ok.ensures.opened
