use Rattle.std.proofs.Common.{sym, subst}
use Rattle.chan_events.specs.declared.event.Event.TheVariants as event
use Rattle.event_log.specs.Logs.{last_reply}
use Rattle.channel_subsystem.specs.Hosting.{Hosted}
use Rattle.embedding.proofs.Going.{goes_once, turned_refused}
use Rattle.embedding.specs.Hosts.{GoesOn, Hosts, Turned, moment}
use Rattle.embedding.specs.declared.host.Turn.TheVariants.{Refused}
use Rattle.embedding.proofs.host.Host.enter_report.Goals as goal

pub returns-in-Ok-clause-turned : goal.returns-in-Ok-clause-turned
returns-in-Ok-clause-turned g c =
    let held = g.M.MainStorage.contents in
    let old = moment c.args.self.now.subsystem (held c.args.storage.now) in
    let new = moment c.enter.new.self.subsystem (held c.enter.new.storage) in
    subst (λ (h : Hosts). GoesOn 1 old (moment h.subsystem (held c.enter.new.storage))) (sym c.self.view_is)
    (goes_once old new (event.Report 0 c.args.report) (last_reply c.enter.new.self.subsystem.kept) c.in-Ok.ensures.enters)

pub returns-in-Err-clause-turned : goal.returns-in-Err-clause-turned
returns-in-Err-clause-turned g c =
    let held = g.M.MainStorage.contents in
    let old = moment c.args.self.now.subsystem (held c.args.storage.now) in
    subst (λ (s : Hosted). Turned 0x10000 1 (Refused c.in-Err.fault) old (moment s (held c.enter.new.storage))) (sym c.keep_report.ensures.subsystem)
    (turned_refused 0x10000 old (moment c.enter.new.self.subsystem (held c.enter.new.storage)) (event.Report 0 c.args.report) c.in-Err.fault c.in-Err.ensures.enters)
