use Rattle.std.proofs.Common.{◌≡◌, ◌∙◌, ap, subst, arith, Ok, Err, List, [], ◌∷◌, ◌++◌}
use Rattle.chan_events.specs.declared.reply.Entry.{Entry}
use Rattle.chan_model.specs.declared.fault.Fault.{Fault}
use Rattle.chan_model.specs.declared.fault.Fault.TheVariants.{NoMemory}
use Rattle.machine_model.specs.Steps.{IsRefused, Performs}
use Rattle.lookup.proofs.Keeping.{fits-kept}
use Rattle.subsystem.specs.Keeping.{past_of}
use Rattle.subsystem.proofs.Accepting.{accepted, declined}
use Rattle.subsystem.proofs.Pasts.{past-more, past-postable, performed-set_up}
use Rattle.subsystem.proofs.Rising.{performed-brings, performed-rises}
use Rattle.subsystem.proofs.stepping.keep_step.Goals as goal

pub perform-requires-clause-postable : goal.perform-requires-clause-postable
perform-requires-clause-postable g c = past-postable c.args.history.now.entries c.args.machine.now c.requires.run

pub returns-in-Ok-clause-run : goal.returns-in-Ok-clause-run
returns-in-Ok-clause-run g c =
    let reply = c.perform.new.log.reply in
    past-more c.setups.ensures.set_up c.args.history.now.entries c.finish.new.self.entries c.args.machine.now c.perform.new.self c.args.event.now reply c.requires.run c.in-Ok.ensures.performs
    (c.finish.ensures.entries
    ∙ ap (λ (h : List Entry). h ++ record { event = c.args.event.now; reply = reply } ∷ []) (c.in-Ok.ensures.kept.entries ∙ c.make_room_with.ensures.kept.entries))

pub returns-in-Ok-clause-fits : goal.returns-in-Ok-clause-fits
returns-in-Ok-clause-fits g c =
    let machine = c.args.machine.now in
    let next = c.perform.new.self in
    fits-kept c.args.indices.now machine.subs next.subs (c.setups.ensures.stay machine c.args.event.now c.perform.new.log.reply next c.in-Ok.ensures.performs) c.requires.fits

pub returns-in-Ok-clause-answered : goal.returns-in-Ok-clause-answered
returns-in-Ok-clause-answered g c =
    let machine = c.args.machine.now in
    let next = c.perform.new.self in
    let h = c.args.history.now.entries in
    let e = c.args.event.now in
    let reply = c.perform.new.log.reply in
    let step : Performs machine e (Ok reply) next = c.in-Ok.ensures.performs in
    accepted g.P.PathChoice.picks (past_of machine c.args.history.now) (past_of next c.finish.new.self) e reply step c.in-Ok.ensures.ruled
    (c.finish.ensures.entries ∙ ap (λ (h : List Entry). h ++ record { event = e; reply = reply } ∷ []) (c.in-Ok.ensures.kept.entries ∙ c.make_room_with.ensures.kept.entries))
    (omega (arith, c.make_room_with.ensures.kept.room, c.in-Ok.ensures.kept.room, c.finish.ensures.room))
    (performed-set_up c.setups.ensures.set_up machine e (Ok reply) next step)
    (performed-rises c.steps.ensures.subs h machine e (Ok reply) next c.requires.run step)
    (performed-brings c.numbers.ensures.pending c.codes.ensures.table h machine e (Ok reply) next c.requires.run step)

-- the machine refuses nothing for want of memory
pub returns-in-Err-clause-answered : goal.returns-in-Err-clause-answered
returns-in-Err-clause-answered g c =
    let machine = c.args.machine.now in
    let next = c.perform.new.self in
    let h = c.args.history.now.entries in
    let e = c.args.event.now in
    let fault = c.in-Err.fault in
    let refused : Performs machine e (Err fault) next = c.in-Err.ensures.performs in
    declined g.P.PathChoice.picks (past_of machine c.args.history.now) (past_of next c.perform.new.log) e fault refused c.in-Err.ensures.ruled
    (λ is. c.refusals.ensures.memory machine e (subst (λ (f : Fault). IsRefused machine e f) is refused.0))
    (c.in-Err.ensures.kept.entries ∙ c.make_room_with.ensures.kept.entries)
    (omega (arith, c.make_room_with.ensures.kept.room, c.in-Err.ensures.kept.room))
    (performed-set_up c.setups.ensures.set_up machine e (Err fault) next refused)
    (performed-rises c.steps.ensures.subs h machine e (Err fault) next c.requires.run refused)

pub returns-in-Err-clause-memory : goal.returns-in-Err-clause-memory
returns-in-Err-clause-memory g c = λ is.
    let refused : Performs c.args.machine.now c.args.event.now (Err c.in-Err.fault) c.perform.new.self = c.in-Err.ensures.performs in
    let same : c.in-Err.fault ≡ NoMemory = cc is in
    absurd (c.refusals.ensures.memory c.args.machine.now c.args.event.now (subst (λ (f : Fault). IsRefused c.args.machine.now c.args.event.now f) same refused.0))
