use Rattle.event_lines.proofs.Lengths.{event_long}
use Rattle.event_lines.proofs.Speaking.{read_back}
use Rattle.event_lines.proofs.reading.lines_are_read_back.Goals as goal

pub returns-clause-back : goal.returns-clause-back
returns-clause-back c = read_back

pub returns-clause-long : goal.returns-clause-long
returns-clause-long c = event_long
