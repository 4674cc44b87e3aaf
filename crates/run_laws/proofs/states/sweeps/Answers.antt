use Rattle.std.specs.Prelude.{map}
use Rattle.subchannel_model.specs.Losing.{loses}
use Rattle.machine_model.specs.declared.state.Sweep.TheVariants as sweep
use Rattle.run_laws.proofs.Machine.Growth.{AreLaws, laws-of}
use Rattle.run_laws.proofs.Machine.RunAgrees.{run-told, linked-agree}
use Rattle.run_laws.proofs.Machine.Swept.{swept-told}
use Rattle.run_laws.proofs.states.sweeps.Goals as goal

pub returns : goal.returns
returns c =
    let laws : AreLaws =
    laws-of c.walks.ensures.each c.agreement.ensures.keeps c.resets.ensures c.agreement.ensures.means c.passing.ensures.busy c.passing.ensures.stays in
    record {
      agree = λ setup h s chpid lawful run.
          let told = run-told laws setup (record { set = 0; number = 0 }) h s lawful c.agreement.ensures.opens run in
          linked-agree laws.means (record s { subs = map (loses chpid) s.subs }) _ _
          (swept-told laws (sweep.PathReset chpid) (record { set = 0; number = 0 }) _ s.subs s.units told.1).linked;
    }
