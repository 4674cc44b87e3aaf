use Rattle.std.proofs.Common.{◌∙◌, ap, drop, rules, subst, sym}
use Rattle.machine_sight.specs.Shown.{Shows, TellsWaiting}
use Rattle.step_facts.specs.Told.{nothing_told}
use Rattle.trace_runs.proofs.Stepping.{at_value, has_told, seen_next}
use Rattle.trace_runs.specs.Tracing.{IsLastEvent, Traced}
use Rattle.trace_runs.proofs.tracer.Tracer.tell.Goals as goal

pub returns-clause-told : goal.returns-clause-told
returns-clause-told g c =
    at_value _ _ _ _ _ _ c.self.view_is
    (has_told _ _ _ _ _ _ (drop c.len-first.result c.as_slice-told.result.now) c.len-first.result c.look.new.self c.follow.new.waiting c.args.event.now c.in-Some.reply c.named_by.result c.behind-facts.result c.add_facts-added.new.facts
    (subst (λ (t : Traced). IsLastEvent t.machine.past.history c.args.event.now) (sym c.self.view_is) c.requires.last)
    c.in-Some.ensures.reply c.in_ok-add_reply.ensures.added (search rules)
    (c.behind-facts.ensures ∙ ap (λ v. nothing_told c.args.line v.items) c.replace.ensures.value)
    c.into_records.ensures c.in_default-added.ensures.line c.in_default-added.ensures.before c.in_default-added.ensures.answers c.named_by.ensures
    c.in_default-added.ensures.moves c.in_default-added.ensures.holds
    (c.in_ok-followed.ensures.balanced (search rules)) (search rules)
    (subst (λ s. Shows s c.self.inside.parties c.look.new.self) c.subsystem.ensures.state c.in_default.ensures.shown)
    (subst (λ s. TellsWaiting s c.self.inside.parties.subchannels.items c.follow.new.waiting) c.subsystem-looks.ensures.state
    (c.in_ok-followed.ensures.told (search rules)))
    (seen_next c.self.inside.machine c.self.inside.parties c.follow.new.waiting c.swap.new.x c.look.new.self c.swap.ensures.x_after))
