use Rattle.unit.proofs.Reported.{reported-data}
use Rattle.unit.proofs.reports.Program.data.Goals as goal

pub returns-clause-sent : goal.returns-clause-sent
returns-clause-sent c =
    reported-data c.args.command.now.unanswered _ c.kept.result c.sending.result c.args.self.now.path c.args.self.now.number
    c.args.self.now.connection c.args.self.now.command c.args.command.now.sequence c.in-Some.is c.kept.ensures.value c.sending.ensures
