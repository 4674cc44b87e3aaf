use Rattle.std.proofs.Common.{◌∙◌, ap, sym, subst, List, [], ◌∷◌, ◌++◌, Ok}
use Rattle.chan_events.specs.declared.reply.Entry.{Entry}
use Rattle.chan_events.specs.Replies.{Reply}
use Rattle.event_log.specs.Logs.{last_reply}
use Rattle.lookup.proofs.Keeping.{fits-kept}
use Rattle.machine_model.specs.State.{lent}
use Rattle.machine_model.specs.Ruled.{GoesByRule}
use Rattle.machine_model.specs.State.{State}
use Rattle.machine_model.specs.Steps.{Performs}
use Rattle.subsystem.proofs.Pasts.{past-postable}
use Rattle.channel_subsystem.proofs.Answering.{same-machine}
use Rattle.channel_subsystem.proofs.LastEntry.{its-entry, its-reply}
use Rattle.channel_subsystem.proofs.Numbers.{subs-count, units-count}
use Rattle.channel_subsystem.proofs.stepping.keep_entry.Goals as goal

pub perform-requires-clause-subs : goal.perform-requires-clause-subs
perform-requires-clause-subs g c =
    subs-count c.numbers.ensures.besides_stores (lent c.args.machine.now (g.M.MainStorage.contents c.args.storage.now)) c.requires.run

pub perform-requires-clause-units : goal.perform-requires-clause-units
perform-requires-clause-units g c =
    units-count c.numbers.ensures.units_besides_stores (lent c.args.machine.now (g.M.MainStorage.contents c.args.storage.now)) c.requires.run

pub perform-requires-clause-postable : goal.perform-requires-clause-postable
perform-requires-clause-postable g c =
    past-postable c.requires.run.0 (lent c.args.machine.now (g.M.MainStorage.contents c.args.storage.now)) c.requires.run.1

pub perform-requires-clause-requests : goal.perform-requires-clause-requests
perform-requires-clause-requests g c = c.requires.run.1.0.1.requests

pub returns-in-Ok-clause-performs : goal.returns-in-Ok-clause-performs
returns-in-Ok-clause-performs g c =
    let old = lent c.args.machine.now (g.M.MainStorage.contents c.args.storage.now) in
    let new = lent c.perform.new.self (g.M.MainStorage.contents c.perform.new.storage) in
    let e = c.args.event.now in
    subst (λ (r : Reply). Performs old e (Ok r) new)
    (sym (its-reply c.perform.new.log.entries c.finish.new.self.entries e c.perform.new.log.reply c.finish.ensures.entries)) c.in-Ok.ensures.performs

pub returns-in-Ok-clause-ruled : goal.returns-in-Ok-clause-ruled
returns-in-Ok-clause-ruled g c =
    let old = lent c.args.machine.now (g.M.MainStorage.contents c.args.storage.now) in
    let new = lent c.perform.new.self (g.M.MainStorage.contents c.perform.new.storage) in
    let e = c.args.event.now in
    subst (λ (r : Reply). GoesByRule g.P.PathChoice.picks old e (Ok r) new)
    (sym (its-reply c.perform.new.log.entries c.finish.new.self.entries e c.perform.new.log.reply c.finish.ensures.entries)) c.in-Ok.ensures.ruled

pub returns-in-Ok-clause-entry : goal.returns-in-Ok-clause-entry
returns-in-Ok-clause-entry g c =
    let e = c.args.event.now in
    its-entry c.perform.new.log.entries c.finish.new.self.entries e c.perform.new.log.reply c.finish.ensures.entries
    ∙ ap (λ (h : List Entry). h ++ record { event = e; reply = last_reply c.finish.new.self.entries } ∷ []) c.in-Ok.ensures.kept.entries

pub returns-in-Ok-clause-fits : goal.returns-in-Ok-clause-fits
returns-in-Ok-clause-fits g c =
    let old = lent c.args.machine.now (g.M.MainStorage.contents c.args.storage.now) in
    let new = lent c.perform.new.self (g.M.MainStorage.contents c.perform.new.storage) in
    fits-kept c.args.indices.now c.args.machine.now.subs c.perform.new.self.subs
    (c.setups.ensures.stay old c.args.event.now c.perform.new.log.reply new c.in-Ok.ensures.performs) c.requires.fits

pub returns-in-Err-clause-kept : goal.returns-in-Err-clause-kept
returns-in-Err-clause-kept g c =
    same-machine c.args.machine.now c.perform.new.self (g.M.MainStorage.contents c.args.storage.now) (g.M.MainStorage.contents c.perform.new.storage)
    c.in-Err.ensures.performs.1 c.apart.ensures c.apart-in-Err.ensures

pub returns-in-Err-clause-unchanged : goal.returns-in-Err-clause-unchanged
returns-in-Err-clause-unchanged g c = ap (λ (s : State). s.storage) c.in-Err.ensures.performs.1
