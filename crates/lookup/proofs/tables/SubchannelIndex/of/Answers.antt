use Rattle.std.proofs.Common.{◌≡◌, ◌∙◌, sym, ap, subst, ℕ, ◌+◌, ◌-◌, ◌*◌, replicate, None, arith}
use Rattle.lookup.specs.Tables.{Tables, HasSize}
use Rattle.lookup.proofs.Filling.{FitsFrom, fits-none, size-none, both-sides, fits-entered, fits-all, size-entered}
use Rattle.lookup.proofs.tables.SubchannelIndex.of.Goals as goal

pub loop-index-init : goal.loop-index-init
loop-index-init g c =
    let named : c.in_ok-empty_table.field-0.items ≡ replicate (c.args.sets * 0x100) None =
    c.in_ok-empty_table.ensures.entries ∙ ap (λ (n : ℕ). replicate (n * 0x100) None) c.from.ensures in
    let sides = both-sides _ c.args.«units» c.in_ok-empty_table-2.ensures.entries c.in_ok-empty_table-3.ensures.entries in
    record {
      fits = fits-none (c.args.sets * 0x100) c.args.«units» _ c.args.subs.now named sides;
      size = size-none c.args.sets c.args.«units» _ named sides;
    }

pub loop-index-preserved : goal.loop-index-preserved
loop-index-preserved g c =
    let n = c.loop-index.index - 1 in
    let back : n + 1 ≡ c.loop-index.index = omega (arith, c.loop-index-test.true) in
    let sub = c.index-subs-index.result in
    let before : FitsFrom (n + 1) c.loop-index.indices c.args.subs.now = subst (λ (i : ℕ). FitsFrom i c.loop-index.indices c.args.subs.now) (sym back) c.loop-index.invariant.fits in
    record {
      fits = subst (λ (t : Tables). FitsFrom n t c.args.subs.now) (sym c.enter.ensures) (fits-entered n c.loop-index.indices c.args.subs.now sub (omega (arith, c.loop-index-test.true, c.loop-index.auto.index)) c.index-subs-index.is before);
      size = subst (λ (t : Tables). HasSize t c.args.sets c.args.«units») (sym c.enter.ensures) (size-entered n c.args.sets c.args.«units» c.loop-index.indices sub c.loop-index.invariant.size);
    }

pub returns-clause-fits : goal.returns-clause-fits
returns-clause-fits g c =
    let none : c.loop-index.index ≡ 0 = omega (arith, c.loop-index-test.false) in
    fits-all c.loop-index.indices c.args.subs.now (subst (λ (i : ℕ). FitsFrom i c.loop-index.indices c.args.subs.now) none c.loop-index.invariant.fits)
