use Rattle.std.proofs.Common.{◌≡◌, ℕ, refl, ap, sym, ◌∙◌, subst, None, Some, arith}
use Rattle.channel_config.specs.SubchannelWords.{subchannel_named}
use Rattle.chan_events.specs.declared.event.Event.TheVariants as event
use Rattle.chan_events.specs.Replies.{plain_outcome}
use Rattle.io_step.specs.GivenOperands.{instruction_at, outcome, storage_after, storage_with}
use Rattle.machine_model.specs.State.{State, with_sub}
use Rattle.machine_model.specs.Steps.{Performs}
use Rattle.subchannel_model.specs.Indices.{index_in}
use Rattle.signal_step.specs.Giving.{posted_since}
use Rattle.machine_model.specs.State.{lent}
use Rattle.machine.specs.contracts.machine.Machine.{the_view}
use Rattle.machine.proofs.GivenSteps.{given-absent, given-performs, given-unnamed}
use Rattle.machine.proofs.Lifting.{at_seen, gets}
use Rattle.machine.proofs.Serving.{served-performed}
use Rattle.machine.proofs.machine.Machine.execute_by_value.Goals as goal

pub returns-in_default : goal.returns-in_default
returns-in_default c = λ storage cpu address has.
    let old = the_view c.self.inside in
    let named : subchannel_named old.sets c.args.word ≡ None = sym c.subchannel_named.ensures.value ∙ c.in_default.is in
    rw (← c.self.view_is) (given-unnamed old storage cpu c.args.word address c.args.instruction.now named)

pub returns-in_default-index_in : goal.returns-in_default-index_in
returns-in_default-index_in c = λ storage cpu address has.
    let old = the_view c.self.inside in
    let i = c.args.instruction.now in
    let named : subchannel_named old.sets c.args.word ≡ Some c.in-Some.id = sym c.subchannel_named.ensures.value ∙ c.in-Some.is in
    let placed : index_in c.in-Some.id old.subs ≡ None =
    ap (index_in c.in-Some.id) (sym c.as_slice.ensures.value) ∙ (sym c.index_in.ensures.index ∙ c.in_default-index_in.is) in
    subst (λ (s : State). Performs (lent s storage) (event.Execute cpu (instruction_at i c.args.word address)) (outcome c.alone.result) (lent s (storage_after storage cpu address c.alone.result)))
    c.self.view_is
    (given-absent old storage cpu c.args.word address i c.in-Some.id (plain_outcome c.absent_by_value.result) c.alone.result named placed c.alone.ensures.answer
    (c.alone.ensures.stored storage cpu address) (c.absent_by_value.ensures storage cpu c.args.word address has))

pub returns : goal.returns
returns c = λ storage cpu address has.
    let old = the_view c.self.inside in
    let i = c.args.instruction.now in
    let answer = c.perform_by_value-answer.result in
    let after = c.perform_by_value-answer.new.sub in
    let index = c.in-Some-index_in.index in
    let subs : c.as_slice.result.now ≡ old.subs = c.as_slice.ensures.value in
    let named : subchannel_named old.sets c.args.word ≡ Some c.in-Some.id = sym c.subchannel_named.ensures.value ∙ c.in-Some.is in
    let placed : index_in c.in-Some.id old.subs ≡ Some index =
    ap (index_in c.in-Some.id) (sym subs) ∙ (sym c.index_in.ensures.index ∙ c.in-Some-index_in.is) in
    let stands = at_seen old.subs c.as_slice.result.now index c.index_mut-sub.result.now (sym subs) c.in-Some-index_in.ensures.bound c.index_mut-sub.ensures.value in
    subst (λ (s : State). Performs (lent s storage) (event.Execute cpu (instruction_at i c.args.word address)) (outcome answer)
    (record (with_sub (lent old (storage_after storage cpu address answer)) index after) { requests = c.post.new.pending })) c.self.view_is
    (given-performs old storage cpu c.args.word address index i c.in-Some.id c.index_mut-sub.result.now after
    c.perform_by_value-answer.new.pending c.post.new.pending answer named placed stands (c.perform_by_value-answer.ensures.done storage cpu c.args.word address has)
    (c.post.ensures ∙ ap (λ (n : ℕ). posted_since n after c.perform_by_value-answer.new.pending) c.made_by-made.ensures))

pub invariant_of-self : goal.invariant_of-self
invariant_of-self c =
    let old = the_view c.self.inside in
    let i = c.args.instruction.now in
    let storage = storage_with i 16 in
    let has = c.is_somewhere.ensures 16 0 (omega arith) in
    let answer = c.perform_by_value-answer.result in
    let sub = c.index_mut-sub.result.now in
    let after = c.perform_by_value-answer.new.sub in
    let index = c.in-Some-index_in.index in
    let subs : c.as_slice.result.now ≡ old.subs = c.as_slice.ensures.value in
    let named : subchannel_named old.sets c.args.word ≡ Some c.in-Some.id = sym c.subchannel_named.ensures.value ∙ c.in-Some.is in
    let placed : index_in c.in-Some.id old.subs ≡ Some index =
    ap (index_in c.in-Some.id) (sym subs) ∙ (sym c.index_in.ensures.index ∙ c.in-Some-index_in.is) in
    let stands = at_seen old.subs c.as_slice.result.now index sub (sym subs) c.in-Some-index_in.ensures.bound c.index_mut-sub.ensures.value in
    let new : State = record (with_sub (lent old (storage_after storage 0 0 answer)) index after) { requests = c.post.new.pending } in
    let done : Performs (lent old storage) (event.Execute 0 (instruction_at i c.args.word 0)) (outcome answer) new =
    given-performs old storage 0 c.args.word 0 index i c.in-Some.id sub after
    c.perform_by_value-answer.new.pending c.post.new.pending answer named placed stands (c.perform_by_value-answer.ensures.done storage 0 c.args.word 0 has)
    (c.post.ensures ∙ ap (λ (n : ℕ). posted_since n after c.perform_by_value-answer.new.pending) c.made_by-made.ensures) in (
      served-performed c.engines.ensures.alone c.self.inside.engines c.change.new.self (lent old storage) new (event.Execute 0 (instruction_at i c.args.word 0))
          (outcome answer) index sub after c.engaged-before.result c.engaged-after.result
          (gets old.subs index sub stands) c.self.invariant.0 done refl c.engaged-before.ensures.value c.engaged-after.ensures.value c.change.ensures,
      c.self.invariant.1,
    )
