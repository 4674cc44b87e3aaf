use Rattle.std.proofs.Common.{arith, sym, ◌∙◌}
use Rattle.glance_directory.proofs.Finding.{among_found, among_more}
use Rattle.glance_directory.proofs.path_turns.path_turn_of.Goals as goal

pub returns-in-Some : goal.returns-in-Some
returns-in-Some g c =
    sym (among_found c.args.subsystem.now.state c.args.chpid c.args.directory.now.setups c.loop-index.index c.in-Some.turn (omega (arith, c.loop-index-test.true, c.count-index-end.ensures)) (sym c.path_turn_at.ensures ∙ c.in-Some.is) c.loop-index.invariant)

pub loop-index-preserved : goal.loop-index-preserved
loop-index-preserved g c =
    among_more c.args.subsystem.now.state c.args.chpid c.args.directory.now.setups c.loop-index.index (omega (arith, c.loop-index-test.true, c.count-index-end.ensures)) (sym c.path_turn_at.ensures ∙ c.in_default.is) c.loop-index.invariant
