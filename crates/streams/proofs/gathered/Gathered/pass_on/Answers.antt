use Rattle.std.proofs.Common.{◌≤◌, ◌-◌, arith, rules, length}
use Rattle.streams.proofs.Gathering.{passed_on}
use Rattle.streams.proofs.gathered.Gathered.pass_on.Goals as goal

pub returns-clause-kept : goal.returns-clause-kept
returns-clause-kept g c =
    passed_on _ _ c.args.self.now.room c.copy_within.new.self c.put_all-taken.result c.args.self.now.length (search rules) (search rules) c.put_all-taken.ensures.written c.copy_within.ensures.after
