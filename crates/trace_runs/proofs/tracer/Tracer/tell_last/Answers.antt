use Rattle.std.proofs.Common.{◌∙◌, ap, append-nil, subst, sym, ℕ, IfSome, List, [], Option}
use Rattle.chan_events.specs.Events.{event_bytes, event_in}
use Rattle.chan_events.specs.declared.reply.Entry.{Entry}
use Rattle.trace_runs.proofs.Stepping.{last_lent}
use Rattle.trace_runs.specs.Tracing.{IsLast, Traced}
use Rattle.trace_runs.proofs.tracer.Tracer.tell_last.Goals as goal

pub tell-requires : goal.tell-requires
tell-requires g c =
    let entry = c.in-Some.entry in
    let history = c.subsystem.result.now.history in
    let found : IsLast history entry = subst (λ (o : Option Entry). IfSome o (λ e. IsLast history e)) c.in-Some.is c.last_entry.ensures in
    record {
      last = last_lent c.args.self.now.machine.past.history entry c.of-event.result
          (subst (λ (h : List Entry). IsLast h entry) (c.subsystem.ensures.history ∙ ap (λ (t : Traced). t.machine.past.history) c.self.view_is) found)
          (c.of-event.ensures ∙ (ap (λ (bytes : List ℕ). event_in c.keep-kept.result bytes) (c.bytes.ensures.value ∙ sym (append-nil (event_bytes entry.event)))
          ∙ c.keep-kept.ensures.kept []));
    }
