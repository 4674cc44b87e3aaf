use Rattle.std.proofs.Common.{◌≡◌, ℕ, refl, ap, sym, ◌∙◌, subst, None, Some}
use Rattle.channel_config.specs.SubchannelWords.{subchannel_named}
use Rattle.chan_events.specs.declared.event.Event.TheVariants as event
use Rattle.machine_model.specs.State.{State, with_sub}
use Rattle.machine_model.specs.Steps.{Performs}
use Rattle.subchannel_model.specs.Indices.{index_in}
use Rattle.chan_events.specs.Instructions.{subchannel_word}
use Rattle.chan_events.specs.Replies.{plain_outcome}
use Rattle.signal_step.specs.Giving.{posted_since}
use Rattle.machine_model.specs.State.{lent}
use Rattle.machine.specs.contracts.machine.Machine.{the_view}
use Rattle.machine.proofs.Lifting.{at_seen, executes, executes-absent, executes-unnamed, gets}
use Rattle.machine.proofs.Serving.{served-performed}
use Rattle.machine.proofs.machine.Machine.execute.Goals as goal

pub returns-in_default-clause-performs : goal.returns-in_default-clause-performs
returns-in_default-clause-performs g c =
    let old = lent (the_view c.self.inside) (g.M.MainStorage.contents c.args.storage.now) in
    let named : subchannel_named old.sets (subchannel_word c.args.instruction.now) ≡ None =
    ap (subchannel_named old.sets) (sym c.subchannel_word.ensures) ∙ (sym c.subchannel_named.ensures.value ∙ c.in_default.is) in
    rw (← c.self.view_is) (executes-unnamed old c.args.cpu c.args.instruction.now named)

pub returns-in_default-index_in-clause-performs : goal.returns-in_default-index_in-clause-performs
returns-in_default-index_in-clause-performs g c =
    let before = g.M.MainStorage.contents c.args.storage.now in
    let after = g.M.MainStorage.contents c.execute_absent.new.storage in
    let old = lent (the_view c.self.inside) before in
    let named : subchannel_named old.sets (subchannel_word c.args.instruction.now) ≡ Some c.in-Some.id =
    ap (subchannel_named old.sets) (sym c.subchannel_word.ensures) ∙ (sym c.subchannel_named.ensures.value ∙ c.in-Some.is) in
    let placed : index_in c.in-Some.id old.subs ≡ None =
    ap (index_in c.in-Some.id) (sym c.as_slice.ensures.value) ∙ (sym c.index_in.ensures.index ∙ c.in_default-index_in.is) in
    subst (λ (s : State). Performs (lent s before) (event.Execute c.args.cpu c.args.instruction.now) (plain_outcome c.execute_absent.result) (lent s after)) c.self.view_is
    (executes-absent old c.args.cpu c.args.instruction.now c.in-Some.id after (plain_outcome c.execute_absent.result) named placed c.execute_absent.ensures.done)

pub returns-clause-performs : goal.returns-clause-performs
returns-clause-performs g c =
    let before = g.M.MainStorage.contents c.args.storage.now in
    let left = g.M.MainStorage.contents c.perform_provided-answer.new.storage in
    let old = lent (the_view c.self.inside) before in
    let subs : c.as_slice.result.now ≡ old.subs = c.as_slice.ensures.value in
    let named : subchannel_named old.sets (subchannel_word c.args.instruction.now) ≡ Some c.in-Some.id =
    ap (subchannel_named old.sets) (sym c.subchannel_word.ensures) ∙ (sym c.subchannel_named.ensures.value ∙ c.in-Some.is) in
    let placed : index_in c.in-Some.id old.subs ≡ Some c.in-Some-index_in.index =
    ap (index_in c.in-Some.id) (sym subs) ∙ (sym c.index_in.ensures.index ∙ c.in-Some-index_in.is) in
    let stands = at_seen old.subs c.as_slice.result.now c.in-Some-index_in.index c.index_mut-sub.result.now (sym subs) c.in-Some-index_in.ensures.bound c.index_mut-sub.ensures.value in
    subst (λ (s : State). Performs (lent s before) (event.Execute c.args.cpu c.args.instruction.now) (plain_outcome c.perform_provided-answer.result)
    (record (with_sub (lent old left) c.in-Some-index_in.index c.perform_provided-answer.new.sub) { requests = c.post.new.pending })) c.self.view_is
    (executes old c.args.cpu c.in-Some-index_in.index c.args.instruction.now c.in-Some.id c.index_mut-sub.result.now c.perform_provided-answer.new.sub left
    c.perform_provided-answer.new.pending c.post.new.pending (plain_outcome c.perform_provided-answer.result) named placed stands c.perform_provided-answer.ensures.done
    (c.post.ensures ∙ ap (λ (n : ℕ). posted_since n c.perform_provided-answer.new.sub c.perform_provided-answer.new.pending) c.made_by-made.ensures))

pub invariant_of-self : goal.invariant_of-self
invariant_of-self g c =
    let before = g.M.MainStorage.contents c.args.storage.now in
    let left = g.M.MainStorage.contents c.perform_provided-answer.new.storage in
    let old = lent (the_view c.self.inside) before in
    let subs : c.as_slice.result.now ≡ old.subs = c.as_slice.ensures.value in
    let named : subchannel_named old.sets (subchannel_word c.args.instruction.now) ≡ Some c.in-Some.id =
    ap (subchannel_named old.sets) (sym c.subchannel_word.ensures) ∙ (sym c.subchannel_named.ensures.value ∙ c.in-Some.is) in
    let placed : index_in c.in-Some.id old.subs ≡ Some c.in-Some-index_in.index =
    ap (index_in c.in-Some.id) (sym subs) ∙ (sym c.index_in.ensures.index ∙ c.in-Some-index_in.is) in
    let index = c.in-Some-index_in.index in
    let sub = c.index_mut-sub.result.now in
    let after = c.perform_provided-answer.new.sub in
    let stands = at_seen old.subs c.as_slice.result.now index sub (sym subs) c.in-Some-index_in.ensures.bound c.index_mut-sub.ensures.value in
    let new : State = record (with_sub (lent old left) index after) { requests = c.post.new.pending } in
    let done : Performs old (event.Execute c.args.cpu c.args.instruction.now) (plain_outcome c.perform_provided-answer.result) new =
    executes old c.args.cpu index c.args.instruction.now c.in-Some.id sub after left
    c.perform_provided-answer.new.pending c.post.new.pending (plain_outcome c.perform_provided-answer.result) named placed stands c.perform_provided-answer.ensures.done
    (c.post.ensures ∙ ap (λ (n : ℕ). posted_since n c.perform_provided-answer.new.sub c.perform_provided-answer.new.pending) c.made_by-made.ensures) in (
      served-performed c.engines.ensures.alone c.self.inside.engines c.change.new.self old new (event.Execute c.args.cpu c.args.instruction.now)
          (plain_outcome c.perform_provided-answer.result) index sub after c.engaged-before.result c.engaged-after.result
          (gets old.subs index sub stands) c.self.invariant.0 done refl c.engaged-before.ensures.value c.engaged-after.ensures.value c.change.ensures,
      c.self.invariant.1,
    )
