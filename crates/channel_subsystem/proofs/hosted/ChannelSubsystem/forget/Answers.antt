use Rattle.std.proofs.Common.{sym, subst, List}
use Rattle.chan_events.specs.declared.reply.Entry.{Entry}
use Rattle.channel_subsystem.specs.Hosting.{Hosted, Leads}
use Rattle.channel_subsystem.proofs.Leading.{led-forgotten}
use Rattle.channel_subsystem.proofs.hosted.ChannelSubsystem.forget.Goals as goal

pub returns-clause-leads : goal.returns-clause-leads
returns-clause-leads g c = λ h storage k.
    let old : Hosted = record { machine = c.self.inside.machine; blocks = c.self.inside.blocks; keeping = c.self.inside.keeping; kept = c.self.inside.log.entries; room = c.self.inside.log.room; count = c.self.inside.count } in
    let log = c.forget.new.self in
    subst (λ (l : List Entry). Leads h (record old { kept = l; room = log.room }) storage) (sym c.forget.ensures.entries)
    (led-forgotten old log.room h storage (subst (λ (s : Hosted). Leads h s storage) (sym c.self.view_is) k))
