-- Status is shown pending exactly where some was made and not cleared.
use Rattle.std.proofs.Common.{List}
use Rattle.std.specs.Prelude.{All}
use Rattle.std.proofs.lemmas.List.Elements.{All-contains}
use Rattle.std.proofs.lemmas.Option.{slice_get_within, get_or_from_slice_get}
use Rattle.chan_events.specs.declared.reply.Entry.{Entry}
use Rattle.channel_config.specs.Setup.{Setup, set_count}
use Rattle.run_laws.specs.StateClaims.{IsPendingUncleared}
use Rattle.machine_model.specs.State.{State, opening_of}
use Rattle.machine_model.specs.Steps.{Run}
use Rattle.run_laws.specs.Serials.{IsPendingShown, ArePendingShown}
use Rattle.run_laws.proofs.Shown.Runs.{AreLaws, run-shown}

pub run-pending : AreLaws → ((setup : Setup) (h : List Entry) (s : State) → Run (opening_of setup) h s → All IsPendingUncleared s.subs) →
    (setup : Setup) (h : List Entry) (s : State) → Run (opening_of setup) h s → ArePendingShown (set_count setup) h
run-pending laws pending setup h s run id before after a shown eq shows =
    run-shown laws setup id (λ k. IsPendingShown k)
    (λ h s index sub run there. let k : IsPendingUncleared sub =
    All-contains IsPendingUncleared s.subs sub (pending setup h s run) (index, slice_get_within s.subs index sub there, get_or_from_slice_get s.subs index sub sub there) in record { order = k.order; pending = k.pending })
    h s run before after a shown eq shows
