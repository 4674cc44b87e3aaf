use Rattle.std.proofs.Common.{arith, rules, ◌≡◌, ◌<◌, ap, drop, length, length-drop, List}
use Rattle.event_log.specs.declared.entries.KeptEntry.{KeptEntry}
use Rattle.event_log.proofs.Growing.{all-settled, settled}
use Rattle.event_log.proofs.logs.settle.Goals as goal

pub returns-else-len-count-clause-items : goal.returns-else-len-count-clause-items
returns-else-len-count-clause-items c = all-settled c.args.start c.args.count c.args.entries.now.items (search rules) c.requires.pending

pub returns-else-len-count-clause-len : goal.returns-else-len-count-clause-len
returns-else-len-count-clause-len c =
    let items = c.args.entries.now.items in
    let more : c.args.count < length items = search rules in
    let size = length-drop c.args.count items in
    let one : length (drop c.args.count items) ≡ 1 = ap (λ (ks : List KeptEntry). length ks) (settled c.args.start (drop c.args.count items) (omega (arith, more, size)) c.requires.pending) in
    search (rules, one, size, more)
