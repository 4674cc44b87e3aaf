use Rattle.subsystem.proofs.Pasts.{past-cleared, past-begun, past-agrees}
use Rattle.subsystem.proofs.Headlines.{past-held}
use Rattle.subsystem.proofs.histories.every_history.Goals as goal

pub returns : goal.returns
returns c = record {
  cleared_once = past-cleared c.serials.ensures.rises;
  begun_once = past-begun c.beginnings.ensures.once;
  agree = past-agrees c.agreements.ensures.agree;
  headline = past-held
      c.headline.ensures.holds
      (λ setup lawful h s run. record {
        one_path = c.engines.ensures.one setup h s lawful run;
        agree = c.agreements.ensures.agree setup h s lawful run;
        pending = c.numbers.ensures.pending setup h s run;
        shown = c.path_states.ensures.shown setup h s lawful run;
        told = c.programs.ensures.told setup lawful h s run;
      })
      (λ setup lawful h old run e r new step. record {
        ends = c.ends.ensures.by_reset setup h old e r new lawful run step;
        causes = c.resets.ensures.cause old e r new step;
        stays = c.resets.ensures.stays old e r new step;
        clears = c.clearings.ensures.cause old e r new step;
        codes = c.codes.ensures.table old e r new step;
        counts = c.counts.ensures.status old e r new step;
        offers = c.offers.ensures.dedicated old e r new step;
        returns = c.returns.ensures.first setup h old run e r new lawful step;
      });
}
