use Rattle.std.proofs.Common.{◌∙◌, ap, subst, sym, ℕ, List, Option}
use Rattle.std.specs.Prelude.{All, slice_get, slice_set}
use Rattle.chan_events.specs.declared.event.Event.TheVariants as event
use Rattle.lookup.specs.Tables.{Serves}
use Rattle.chan_events.specs.Replies.{plain_outcome}
use Rattle.machine.specs.Postable.{IsPostable}
use Rattle.storage_keys.specs.Storage.{Contents}
use Rattle.machine_model.specs.State.{State}
use Rattle.subchannel_model.specs.Choosing.{paths_to_choose}
use Rattle.subchannel_model.specs.declared.state.Subchannel.{Subchannel}
use Rattle.signal_step.specs.Giving.{posted_since}
use Rattle.machine_model.specs.State.{lent}
use Rattle.machine.specs.contracts.machine.Machine.{the_view}
use Rattle.machine.proofs.Lifting.{at_seen, named_at, chooses, chooses-none, postable-at, gets}
use Rattle.machine.proofs.Serving.{served-performed}
use Rattle.machine.proofs.machine.Machine.choose.Goals as goal

pub returns : goal.returns
returns g c =
    let old = the_view c.self.inside in
    let at = named_at old c.args.self.now c.args.word c.in-Some.index c.index_of.result c.self.view_is c.index_of.ensures.index c.in-Some.is in
    let stands = at_seen old.subs c.args.self.now.subs c.in-Some.index c.index_mut-sub.result.now (ap (λ (s : State). s.subs) c.self.view_is) c.in-Some.ensures.bound c.index_mut-sub.ensures.value in
    let both = λ (storage : Contents). chooses g.P.PathChoice.picks (lent old storage) (lent c.args.self.now storage) c.args.word c.in-Some.index c.index_mut-sub.result.now c.index.result.now c.choose_sub-answer.new.sub
    c.paths_to_choose-paths.result c.choose-path.result c.chosen-what.result (plain_outcome c.choose_sub-answer.result) c.post.new.pending (ap (λ (s : State). lent s storage) c.self.view_is) at stands c.index.ensures
    (c.paths_to_choose-paths.ensures ∙ ap (λ (subs : List Subchannel). paths_to_choose subs c.index.result.now) (c.of-served.ensures ∙ c.as_slice.ensures.value))
    c.choose-path.ensures.law (subst (λ (last : Option ℕ). g.P.PathChoice.picks c.paths_to_choose-paths.result last c.choose-path.result) c.last_path_of.ensures c.choose-path.ensures.rule)
    c.chosen-what.ensures.chosen c.choose_sub-answer.ensures.gives (c.post.ensures ∙ ap (λ (n : ℕ). posted_since n c.choose_sub-answer.new.sub old.requests) c.made_by-made.ensures) in
    record { performs = λ storage. (both storage).0; ruled = λ storage. (both storage).1 }

pub returns-in_default : goal.returns-in_default
returns-in_default g c =
    let both = λ (storage : Contents). chooses-none g.P.PathChoice.picks (lent c.args.self.now storage) c.args.word (sym c.index_of.ensures.index ∙ c.in_default.is) in
    record { performs = λ storage. (both storage).0; ruled = λ storage. (both storage).1 }

pub invariant_of-self : goal.invariant_of-self
invariant_of-self g c =
    let old = the_view c.self.inside in
    let index = c.in-Some.index in
    let sub = c.index_mut-sub.result.now in
    let after = c.choose_sub-answer.new.sub in
    let answer = plain_outcome c.choose_sub-answer.result in
    let at = named_at old c.args.self.now c.args.word index c.index_of.result c.self.view_is c.index_of.ensures.index c.in-Some.is in
    let stands = at_seen old.subs c.args.self.now.subs index sub (ap (λ (s : State). s.subs) c.self.view_is) c.in-Some.ensures.bound c.index_mut-sub.ensures.value in
    let both = chooses g.P.PathChoice.picks old c.args.self.now c.args.word index sub c.index.result.now after
    c.paths_to_choose-paths.result c.choose-path.result c.chosen-what.result answer c.post.new.pending c.self.view_is at stands c.index.ensures
    (c.paths_to_choose-paths.ensures ∙ ap (λ (subs : List Subchannel). paths_to_choose subs c.index.result.now) (c.of-served.ensures ∙ c.as_slice.ensures.value))
    c.choose-path.ensures.law (subst (λ (last : Option ℕ). g.P.PathChoice.picks c.paths_to_choose-paths.result last c.choose-path.result) c.last_path_of.ensures c.choose-path.ensures.rule)
    c.chosen-what.ensures.chosen c.choose_sub-answer.ensures.gives (c.post.ensures ∙ ap (λ (n : ℕ). posted_since n c.choose_sub-answer.new.sub old.requests) c.made_by-made.ensures) in (
      subst (λ (s : State). Serves c.change.new.self (slice_set s.subs index after)) (sym c.self.view_is)
          (served-performed c.engines.ensures.alone c.self.inside.engines c.change.new.self c.args.self.now _ (event.Choose c.args.word) answer index sub after
          c.engaged-before.result c.engaged-after.result (ap (λ (s : State). slice_get s.subs index) (sym c.self.view_is) ∙ gets old.subs index sub stands)
          (subst (λ (s : State). Serves c.self.inside.engines s.subs) c.self.view_is c.self.invariant.0) both.0
          (ap (λ (s : State). slice_set s.subs index after) c.self.view_is)
          c.engaged-before.ensures.value c.engaged-after.ensures.value c.change.ensures),
      c.self.invariant.1,
    )

pub post-requires : goal.post-requires
post-requires g c =
    let old = the_view c.self.inside in
    let stands = at_seen old.subs c.args.self.now.subs c.in-Some.index c.index_mut-sub.result.now (ap (λ (s : State). s.subs) c.self.view_is) c.in-Some.ensures.bound c.index_mut-sub.ensures.value in
    postable-at old.subs c.in-Some.index c.index_mut-sub.result.now c.choose_sub-answer.new.sub c.self.inside.pending.numbers stands
    (subst (λ (s : State). All IsPostable s.subs) (sym c.self.view_is) c.requires.postable) c.choose_sub-answer.ensures.setup
    (ap (λ (s : State). s.requests.numbers) c.self.view_is ∙ c.requires.requests)
