-- What a lock guards stays whole when an event is entered.
use Rattle.std.proofs.Common.{◌≡◌, ℕ, List, length, ◌∙◌}
use Rattle.glance_cell.specs.Shown.{Words}
use Rattle.machine_model.specs.State.{Past}
use Rattle.subsystem.specs.Keeping.{StaysSetUp, all_serials}
use Rattle.channel_config.specs.Setup.{Setup}
use Rattle.glance_directory.specs.Directory.{Directory}
use Rattle.core_lock.specs.Keeping.{IsGuarded}
use Rattle.glance_directory.specs.Cells.{cells_of, shown}
use Rattle.core_lock.specs.Named.{MachineName}

pub stays_guarded : (past new : Past) (by more : List ℕ) (counted count : ℕ) (writers news : List Words) (held : Directory) (setup : Setup) (name : MachineName)
    → IsGuarded past by counted writers held setup name
    → length more ≡ length new.history → count ≡ length new.history → shown news ≡ all_serials new.state → cells_of news ≡ cells_of writers → StaysSetUp past.state new.state
    → IsGuarded new more count news held setup name
stays_guarded past new by more counted count writers news held setup name i beside entries shows cells stays = record {
  beside = beside;
  entries = entries;
  shown = shows;
  cells = cells ∙ i.cells;
  directory = i.directory;
  set_up = stays setup i.set_up;
  named = i.named;
}
