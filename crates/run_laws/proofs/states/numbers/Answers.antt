use Rattle.std.proofs.Common.{ℕ, length}
use Rattle.std.proofs.lemmas.List.Elements.{All-weaker}
use Rattle.subchannel_model.specs.declared.state.Subchannel.{Subchannel}
use Rattle.machine_model.specs.Bounds.{IsWithin}
use Rattle.run_laws.specs.StateClaims.{IsPendingUncleared}
use Rattle.run_laws.specs.Stores.{besides_stores}
use Rattle.run_laws.proofs.Machine.Sound.{AreNumbered, numbered-of}
use Rattle.run_laws.proofs.Machine.CountedEvents.{other, other-spares}
use Rattle.run_laws.proofs.Machine.RunSound.{SoundSub, run-sound, run-sound-by}
use Rattle.run_laws.proofs.Machine.UnitNumbers.{run-units, run-units-by}
use Rattle.run_laws.proofs.states.numbers.Goals as goal

within-of : (n : ℕ) (sub : Subchannel) → SoundSub n sub → IsWithin n sub
within-of n sub k = record { drawn = k.0; starts = k.1; made = k.2; moved = k.3 }

pub returns : goal.returns
returns c =
    let law = c.command_numbers.ensures in
    let numbered : AreNumbered = numbered-of law.first law.next law.begun law.room law.given law.absorbed law.brought in
    record {
      within = λ setup h s run.
          All-weaker (SoundSub (length h)) (IsWithin (length h)) (within-of (length h)) s.subs (run-sound c.walks.ensures.each numbered setup h s run);
      besides_stores = λ setup h s run.
          All-weaker (SoundSub (besides_stores h)) (IsWithin (besides_stores h)) (within-of (besides_stores h)) s.subs
          (run-sound-by c.walks.ensures.each numbered other other-spares setup h s run);
      pending = λ setup h s run.
          All-weaker (SoundSub (length h)) IsPendingUncleared (λ sub k. record { order = k.5; pending = k.4 }) s.subs
          (run-sound c.walks.ensures.each numbered setup h s run);
      units = run-units c.walks.ensures.each;
      units_besides_stores = run-units-by c.walks.ensures.each other other-spares;
    }
