use Rattle.std.proofs.Common.{◌≡◌, refl, ℕ, ◌∙◌, ap, subst, true, nat_lt, Err, List, length}
use Rattle.chan_model.specs.declared.fault.Fault.TheVariants as fault
use Rattle.chan_events.specs.declared.event.Event.TheVariants as event
use Rattle.subchannel_model.specs.declared.state.Subchannel.{Subchannel}
use Rattle.machine_model.specs.State.{State, with_sub}
use Rattle.machine_model.specs.Steps.{Performs}
use Rattle.event_log.specs.Logs.{answer_in}
use Rattle.signal_step.specs.Giving.{MayReturn, posted_since}
use Rattle.machine_model.specs.State.{lent}
use Rattle.machine.specs.contracts.machine.Machine.{the_view}
use Rattle.machine.proofs.Lifting.{at_seen, named_at, one_there, up-pathless, up-performs, gets}
use Rattle.machine.proofs.Serving.{served-performed}
use Rattle.machine.proofs.machine.Machine.up.Goals as goal

pub returns-in_default-path_of-clause-performs : goal.returns-in_default-path_of-clause-performs
returns-in_default-path_of-clause-performs g c =
    let before = g.M.MainStorage.contents c.args.storage.now in
    let old = lent (the_view c.self.inside) before in
    let at = named_at (the_view c.self.inside) c.args.self.now c.args.word c.in-Some.index c.index_of.result c.self.view_is c.index_of.ensures.index c.in-Some.is in
    let stands = at_seen old.subs c.args.self.now.subs c.in-Some.index c.index.result.now (ap (λ (s : State). s.subs) c.self.view_is) c.in-Some.ensures.bound c.index.ensures in
    subst (λ (s : State). Performs (lent s before) (event.Up c.args.word c.args.path) (Err fault.NoSuchPath) (lent s before)) c.self.view_is
    (up-pathless old c.args.word c.args.path c.in-Some.index c.index.result.now at stands c.in_default-path_of.ensures)

pub returns-clause-performs : goal.returns-clause-performs
returns-clause-performs g c =
    let before = g.M.MainStorage.contents c.args.storage.now in
    let left = g.M.MainStorage.contents c.up_sub-answer.new.storage in
    let old = lent (the_view c.self.inside) before in
    let path = c.in-Some-path_of.path in
    let at = named_at (the_view c.self.inside) c.args.self.now c.args.word c.in-Some.index c.index_of.result c.self.view_is c.index_of.ensures.index c.in-Some.is in
    let stands = at_seen old.subs c.args.self.now.subs c.in-Some.index c.index_mut-sub.result.now (ap (λ (s : State). s.subs) c.self.view_is) c.in-Some.ensures.bound c.index_mut-sub.ensures.value in
    let may : MayReturn old.subs c.index-2.result.now path c.returns_at-returns.result =
    subst (λ (subs : List Subchannel). MayReturn subs c.index-2.result.now path c.returns_at-returns.result) (c.of-served.ensures ∙ c.as_slice.ensures.value) c.returns_at-returns.ensures in
    subst (λ (s : State). Performs (lent s before) (event.Up c.args.word c.args.path) (answer_in c.up_sub-answer.result c.up_sub-answer.new.log)
    (record (with_sub (lent old left) c.in-Some.index c.up_sub-answer.new.sub) { requests = c.post.new.pending })) c.self.view_is
    (subst (λ (p : ℕ). Performs old (event.Up c.args.word p) (answer_in c.up_sub-answer.result c.up_sub-answer.new.log)
    (record (with_sub (lent old left) c.in-Some.index c.up_sub-answer.new.sub) { requests = c.post.new.pending })) c.in-Some-path_of.ensures.1
    (up-performs old c.args.word path c.in-Some.index c.index-2.result.now c.index_mut-sub.result.now c.up_sub-answer.new.sub left
    c.returns_at-returns.result (answer_in c.up_sub-answer.result c.up_sub-answer.new.log) c.post.new.pending at stands c.index-2.ensures may c.up_sub-answer.ensures.gives
    (c.post.ensures ∙ ap (λ (n : ℕ). posted_since n c.up_sub-answer.new.sub old.requests) c.made_by-made.ensures)))

pub up_sub-answer-requires-clause-inside : goal.up_sub-answer-requires-clause-inside
up_sub-answer-requires-clause-inside g c =
    let old = the_view c.self.inside in
    let stands = at_seen old.subs c.args.self.now.subs c.in-Some.index c.index_mut-sub.result.now (ap (λ (s : State). s.subs) c.self.view_is) c.in-Some.ensures.bound c.index_mut-sub.ensures.value in
    let same = one_there old.subs c.in-Some.index c.index.result.now c.index_mut-sub.result.now c.index.ensures stands in
    subst (λ (x : Subchannel). nat_lt c.in-Some-path_of.path (length x.setup.paths) ≡ true) same
    (ap (λ (p : ℕ). nat_lt p (length c.index.result.now.setup.paths)) c.in-Some-path_of.ensures.1 ∙ c.in-Some-path_of.ensures.0)

pub invariant_of-self : goal.invariant_of-self
invariant_of-self g c =
    let before = g.M.MainStorage.contents c.args.storage.now in
    let left = g.M.MainStorage.contents c.up_sub-answer.new.storage in
    let old = lent (the_view c.self.inside) before in
    let path = c.in-Some-path_of.path in
    let index = c.in-Some.index in
    let sub = c.index_mut-sub.result.now in
    let after = c.up_sub-answer.new.sub in
    let answer = answer_in c.up_sub-answer.result c.up_sub-answer.new.log in
    let at = named_at (the_view c.self.inside) c.args.self.now c.args.word index c.index_of.result c.self.view_is c.index_of.ensures.index c.in-Some.is in
    let stands = at_seen old.subs c.args.self.now.subs index sub (ap (λ (s : State). s.subs) c.self.view_is) c.in-Some.ensures.bound c.index_mut-sub.ensures.value in
    let may : MayReturn old.subs c.index-2.result.now path c.returns_at-returns.result =
    subst (λ (subs : List Subchannel). MayReturn subs c.index-2.result.now path c.returns_at-returns.result) (c.of-served.ensures ∙ c.as_slice.ensures.value) c.returns_at-returns.ensures in
    let new : State = record (with_sub (lent old left) index after) { requests = c.post.new.pending } in
    let done : Performs old (event.Up c.args.word path) answer new =
    up-performs old c.args.word path index c.index-2.result.now sub after left
    c.returns_at-returns.result answer c.post.new.pending at stands c.index-2.ensures may c.up_sub-answer.ensures.gives
    (c.post.ensures ∙ ap (λ (n : ℕ). posted_since n c.up_sub-answer.new.sub old.requests) c.made_by-made.ensures) in (
      served-performed c.engines.ensures.alone c.self.inside.engines c.change.new.self old new (event.Up c.args.word path) answer index sub after
          c.engaged-before.result c.engaged-after.result (gets old.subs index sub stands) c.self.invariant.0 done refl
          c.engaged-before.ensures.value c.engaged-after.ensures.value c.change.ensures,
      c.self.invariant.1,
    )
