use Rattle.std.proofs.Common.{◌≡◌, ◌+◌, rules, sym, subst}
use Rattle.std.specs.Prelude.{MatchResult}
use Rattle.core_lock.specs.declared.executing.CpuInstruction.{CpuInstruction}
use Rattle.core_lock.specs.Entering.{entered, event_of}
use Rattle.script_runner.specs.declared.tally.Tally.{Tally}
use Rattle.script_runner.specs.Race.{HasTested}
use Rattle.script_runner.proofs.Counting.{few, tested_below, tested_once}
use Rattle.script_runner.proofs.racers.tally_of.Goals as goal

pub count-requires : goal.count-requires
count-requires g c =
    let l = c.loop-turn in
    few l._turn 9223372036854775808 l.tally (tested_below c.args.race c.args.cpu l._turn c.args.seat.now.value.log l.seat.value.log l.tally l.invariant) (search rules)

pub loop-turn-preserved : goal.loop-turn-preserved
loop-turn-preserved g c =
    let l = c.loop-turn in
    let came = c.instruct-came in
    let old = l.seat.value in
    let new = came.new.seat.value in
    let cpu = c.args.cpu in
    let log = c.args.seat.now.value.log in
    let is = subst (λ (i : CpuInstruction). MatchResult came.result (λ reply. new ≡ entered old (event_of cpu i) reply) (λ f. new ≡ old)) c.test_of.ensures came.ensures.logged in
    subst (λ (t : Tally). HasTested c.args.race cpu (l._turn + 1) log new.log t) (sym c.count.ensures)
    (tested_once c.args.race cpu l._turn log old new l.tally came.result l.invariant is)

pub returns-clause-below : goal.returns-clause-below
returns-clause-below g c =
    let l = c.loop-turn in
    few l._turn 4294967296 l.tally (tested_below c.args.race c.args.cpu l._turn c.args.seat.now.value.log l.seat.value.log l.tally l.invariant) (search rules)
