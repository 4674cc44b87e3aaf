use Rattle.std.proofs.Common.{◌∙◌, ap, refl}
use Rattle.zbits.specs.Layout.{image_of}
use Rattle.scsw_irb.specs.ScswTable.{irb_tables}
use Rattle.storage_keys.specs.Storage.{operand_stored}
use Rattle.subchannel_model.specs.declared.state.Subchannel.{Subchannel}
use Rattle.subchannel_model.specs.Test.{irb_of}
use Rattle.io_step.proofs.Executions.{irb-stored, irb-not-stored}
use Rattle.io_step.proofs.by_value.irb_to_store.Goals as goal

pub returns-then-stores_irb-clause-stored : goal.returns-then-stores_irb-clause-stored
returns-then-stores_irb-clause-stored c = λ s storage cpu address.
    irb-stored s storage (operand_stored storage cpu address c.irb.result) cpu cpu address c.args.sub.now c.test_code_of.result c.irb.result c.stores_irb.result
    c.test_code_of.ensures c.stores_irb.ensures c.if-stores_irb.true (c.irb.ensures ∙ ap (λ (x : Subchannel). image_of (irb_tables (irb_of x.state))) c.sub.view_is) refl refl

pub returns-else-stores_irb-clause-stored : goal.returns-else-stores_irb-clause-stored
returns-else-stores_irb-clause-stored c = λ s storage cpu address.
    irb-not-stored s storage cpu address c.args.sub.now c.test_code_of.result c.stores_irb.result c.test_code_of.ensures c.stores_irb.ensures c.if-stores_irb.false
