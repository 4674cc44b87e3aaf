use Rattle.chan_events.specs.declared.event.Event.TheVariants as event
use Rattle.embedding.proofs.Going.{goes_once, turned_idle, turned_refused}
use Rattle.embedding.specs.Hosts.{moment}
use Rattle.embedding.proofs.host.Host.choose.Goals as goal

pub returns-in-Ok-Idle-clause-turned : goal.returns-in-Ok-Idle-clause-turned
returns-in-Ok-Idle-clause-turned g c =
    let held = g.M.MainStorage.contents in
    turned_idle 0x10000 (moment c.args.self.now.subsystem (held c.args.storage.now)) (moment c.perform.new.self.subsystem (held c.perform.new.storage))
    (rw c.in-Ok-Idle.field-0-is at c.in-Ok-Idle.ensures.enters)

pub returns-in-Ok : goal.returns-in-Ok
returns-in-Ok g c =
    let held = g.M.MainStorage.contents in
    record {
      turned = goes_once (moment c.args.self.now.subsystem (held c.args.storage.now)) (moment c.perform.new.self.subsystem (held c.perform.new.storage))
          (event.Choose 0x10000) c.in-Ok.field-0 c.in-Ok.ensures.enters;
      lender = c.perform.ensures.lender;
    }

pub returns-in-Err-clause-turned : goal.returns-in-Err-clause-turned
returns-in-Err-clause-turned g c =
    let held = g.M.MainStorage.contents in
    turned_refused 0x10000 (moment c.args.self.now.subsystem (held c.args.storage.now)) (moment c.perform.new.self.subsystem (held c.perform.new.storage))
    (event.Choose 0x10000) c.in-Err.fault c.in-Err.ensures.enters
