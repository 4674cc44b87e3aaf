use Rattle.std.proofs.Common.{◌<◌, ◌∙◌, ap, sym, subst, refl, ℕ, slice_index_or, arith, List}
use Rattle.std.specs.Prelude.{All}
use Rattle.control_units.proofs.MapInPlace.{one_more}
use Rattle.interruptions.specs.Requests.{WaitingRequests}
use Rattle.machine_model.specs.Bounds.{CanCount}
use Rattle.machine_model.specs.PathSteps.{swept}
use Rattle.subchannel_model.specs.declared.state.Subchannel.{Subchannel}
use Rattle.machine.specs.Postable.{IsPostable}
use Rattle.machine.proofs.Lifting.{at_index}
use Rattle.machine.proofs.Serving.{served-swept}
use Rattle.machine.proofs.Sweeping.{numbers-stay, posted-more, unswept-all}
use Rattle.machine.proofs.paths.sweep_all.Goals as goal

pub sweep_one-requires-clause-roomy : goal.sweep_one-requires-clause-roomy
sweep_one-requires-clause-roomy c =
    unswept-all CanCount (swept c.args.what) c.deref_mut-sub-items.result.now c.loop-index.sub-items c.loop-index.index c.sub-item.result
    c.loop-index-test.true c.loop-index.invariant.subs (subst (λ (subs : List Subchannel). All CanCount subs) (sym c.deref_mut-sub-items.ensures.value) c.requires.roomy)

pub sweep_one-requires-clause-postable : goal.sweep_one-requires-clause-postable
sweep_one-requires-clause-postable c =
    subst (λ (n : ℕ). (slice_index_or c.loop-index.sub-items c.loop-index.index c.sub-item.result).setup.id.number < n) (sym c.loop-index.invariant.numbers)
    (unswept-all IsPostable (swept c.args.what) c.deref_mut-sub-items.result.now c.loop-index.sub-items c.loop-index.index c.sub-item.result
    c.loop-index-test.true c.loop-index.invariant.subs (subst (λ (subs : List Subchannel). All IsPostable subs) (sym c.deref_mut-sub-items.ensures.value) c.requires.postable))

pub loop-index-preserved : goal.loop-index-preserved
loop-index-preserved c =
    let f = swept c.args.what in
    let old = c.deref_mut-sub-items.result.now in
    let items = c.loop-index.sub-items in
    let i = c.loop-index.index in
    let x = c.sub-item.result in
    let sub = slice_index_or items i x in
    record {
      subs = one_more f old items i x c.sweep_one.new.sub c.loop-index-test.true c.loop-index.invariant.subs c.sweep_one.ensures.swept;
      posted = posted-more f old items i x c.sweep_one.new.sub c.args.pending.now c.loop-index.pending c.sweep_one.new.pending
          c.loop-index-test.true c.loop-index.invariant.subs c.sweep_one.ensures.swept c.loop-index.invariant.posted c.sweep_one.ensures.posted;
      numbers = ap (λ (w : WaitingRequests). w.numbers) c.sweep_one.ensures.posted ∙ (numbers-stay sub c.sweep_one.new.sub c.loop-index.pending ∙ c.loop-index.invariant.numbers);
      served = served-swept c.args.what c.loop-index.engines c.sweep_one.new.engines items i sub c.sweep_one.new.sub
          (at_index items i sub x (omega (arith, c.loop-index-test.true, c.loop-index.auto.sub-items)) refl) c.loop-index.invariant.served c.sweep_one.ensures.swept c.sweep_one.ensures.served;
    }
