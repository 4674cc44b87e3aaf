use Rattle.std.proofs.Common.{subst}
use Rattle.std.specs.Prelude.{IsTrue, ◌↔◌}
use Rattle.script_runner.specs.Acting.{Installed, IsAudited}
use Rattle.script_runner.proofs.scripted_machine.ScriptedMachine.audited.Goals as goal

pub returns : goal.returns
returns g c = subst (λ (x : Installed). IsTrue c.has_its_log.result ↔ IsAudited x) c.self.view_is c.has_its_log.ensures
