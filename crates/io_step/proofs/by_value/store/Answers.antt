use Rattle.std.proofs.Common.{◌∙◌, ap, refl, sym, Result}
use Rattle.zbits.specs.Layout.{image_of}
use Rattle.schib_block.specs.SchibTable.{schib_tables}
use Rattle.storage_keys.specs.declared.StorageFault.{StorageFault}
use Rattle.storage_keys.specs.Storage.{operand_stored}
use Rattle.chan_events.specs.Replies.{Reply}
use Rattle.subchannel_model.specs.declared.state.Subchannel.{Subchannel}
use Rattle.subchannel_model.specs.Store.{schib_of}
use Rattle.machine_model.specs.State.{with_sub}
use Rattle.machine_model.specs.Results.{does}
use Rattle.machine_model.specs.State.{lent}
use Rattle.io_step.specs.Operands.{from_storage}
use Rattle.io_step.proofs.Executions.{stores-sub}
use Rattle.io_step.proofs.by_value.store.Goals as goal

pub returns-clause-done : goal.returns-clause-done
returns-clause-done c = λ storage cpu word address has s index there.
    let after = operand_stored storage cpu address c.schib.result in
    ap (λ (r : Reply). does r (with_sub (lent s after) index c.args.sub.now)) c.store_reply.ensures
    ∙ stores-sub s storage after cpu cpu address index c.args.sub.now c.schib.result
    tt there (sym (ap (λ (x : Result (Unit {0}) StorageFault). from_storage x) has)) refl
    (c.schib.ensures ∙ ap (λ (x : Subchannel). image_of (schib_tables (schib_of x))) c.sub.view_is) refl
