use Rattle.std.proofs.Common.{◌≡◌, ◌∙◌, ap, sym, arith, rules, List, Some}
use Rattle.std.proofs.lemmas.Option.{slice_get_read, slice_get_within}
use Rattle.std.specs.Prelude.{slice_get}
use Rattle.machine_model.specs.State.{sub_of}
use Rattle.machine_sight.proofs.Seeing.{tells-more, told-there, told-wires}
use Rattle.machine_sight.specs.Shown.{TellsWires}
use Rattle.machine_sight.specs.Waiting.{WaitingQueues}
use Rattle.machine_sight.proofs.waiting.Waiting.tells.Goals as goal

pub loop-index-preserved : goal.loop-index-preserved
loop-index-preserved g c =
    let own = c.in-Some.own.now in
    let at : slice_get c.as_slice.result.now c.loop-index.index ≡ Some own = search (slice_get_read, rules) in
    tells-more (g.L.Looks.state c.args.looks.now) c.args.parties.now.subchannels.items c.args.self.now c.loop-index.index c.index.result.now c.in-Some-subchannel.sub.now own
    c.loop-index.invariant (search (slice_get_read, rules))
    (ap (λ w. sub_of (g.L.Looks.state c.args.looks.now) w) (sym c.word_of.ensures) ∙ c.in-Some-subchannel.ensures.found)
    (ap (λ (ws : List WaitingQueues). slice_get ws c.loop-index.index) (sym (c.as_slice.ensures.value ∙ c.self.view_is)) ∙ at) (search rules)

pub returns-clause-told : goal.returns-clause-told
returns-clause-told g c = λ all index setup there.
    c.loop-index.invariant index setup
    (omega (arith, slice_get_within _ index setup there, c.loop-index-test.false, c.len-index-end.ensures)) there

pub returns-in_default-subchannel-clause-untold : goal.returns-in_default-subchannel-clause-untold
returns-in_default-subchannel-clause-untold g c = λ all.
    absurd (told-there (g.L.Looks.state c.args.looks.now) c.args.parties.now.subchannels.items c.args.self.now c.loop-index.index c.index.result.now
    (search (slice_get_read, rules))
    (ap (λ w. sub_of (g.L.Looks.state c.args.looks.now) w) (sym c.word_of.ensures) ∙ c.in_default-subchannel.ensures.none) all)

pub returns-then-not-tells-clause-untold : goal.returns-then-not-tells-clause-untold
returns-then-not-tells-clause-untold g c = λ all.
    let own = c.in-Some.own.now in
    let at : slice_get c.as_slice.result.now c.loop-index.index ≡ Some own = search (slice_get_read, rules) in
    let known : TellsWires c.in-Some-subchannel.sub.now.wires own =
    told-wires (g.L.Looks.state c.args.looks.now) c.args.parties.now.subchannels.items c.args.self.now c.loop-index.index
    c.index.result.now c.in-Some-subchannel.sub.now own (search (slice_get_read, rules))
    (ap (λ w. sub_of (g.L.Looks.state c.args.looks.now) w) (sym c.word_of.ensures) ∙ c.in-Some-subchannel.ensures.found)
    (ap (λ (ws : List WaitingQueues). slice_get ws c.loop-index.index) (sym (c.as_slice.ensures.value ∙ c.self.view_is)) ∙ at) all in
    absurd (cc (c.tells.ensures.1 (search (known, rules))))
