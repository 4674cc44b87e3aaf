use Rattle.run_laws.proofs.Machine.Moves.{setups-stay, set_up-stays}
use Rattle.run_laws.proofs.states.setups.Goals as goal

pub returns : goal.returns
returns c = record {
  stay = λ s e r new w. setups-stay s e r new (c.walks.ensures.each s e r new w);
  set_up = λ setup s e r new w. set_up-stays setup s e r new (c.walks.ensures.each s e r new w) (c.storage_blocks.ensures.stay s e r new w)
      (c.stays_set_up.ensures.chpids s e r new w) (c.stays_set_up.ensures.groups s e r new w) (c.stays_set_up.ensures.requests s e r new w)
      (c.stays_set_up.ensures.path_return s e r new w);
}
