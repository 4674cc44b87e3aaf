use Rattle.std.proofs.Common.{true, arith}
use Rattle.script_text.proofs.Printing.{engaged_failed, engaged_goes_on, took_nothing}
use Rattle.script_text.proofs.put_engaged.Goals as goal

pub loop-path-init : goal.loop-path-init
loop-path-init g c = took_nothing _ c.args.engaged.now

pub returns-then-not-put_path : goal.returns-then-not-put_path
returns-then-not-put_path g c =
    engaged_failed _ _ _ c.args.engaged.now c.loop-path.path _ c.loop-path-test.true (omega (arith, c.loop-path-test.true)) c.loop-path.invariant
    c.if-not-put_path.ensures

pub loop-path-preserved : goal.loop-path-preserved
loop-path-preserved g c =
    engaged_goes_on _ _ _ c.args.engaged.now c.loop-path.path _ true (omega (arith, c.loop-path-test.true)) c.loop-path.invariant c.if-not-put_path.ensures
