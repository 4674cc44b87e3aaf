-- What is told of a Data whose bytes are those that are not answered.
use Rattle.std.proofs.Common.{◌≡◌, ap, ℕ, true, Option, Some, IfSome}
use Rattle.chan_model.specs.Signals.{KeptLoad, KeptUp, Load, Up, load_bytes, load_in, map_taken, up_in}
use Rattle.chan_model.specs.declared.signal.Taken.{Taken}
use Rattle.chan_model.specs.declared.signal.Up.TheVariants as up
use Rattle.unit.specs.UnitWords.{bytes_of}

abbrev pub data_sent_with : ℕ → ℕ → ℕ → ℕ → ℕ → Load → Taken Up
data_sent_with p t c n s load = record { taken = true; sent = Some (record { path = p; signal = up.Data load t c n s }) }

abbrev pub data_kept : ℕ → ℕ → ℕ → ℕ → ℕ → KeptLoad → Taken KeptUp
data_kept p t c n s kept = record { taken = true; sent = Some (record { path = p; signal = up.Data kept t c n s }) }

pub reported-data : (unanswered : Option Load) (load : Load) (kept : KeptLoad) (outcome : Taken KeptUp) (p t c n s : ℕ)
    → unanswered ≡ Some load → load_in kept (load_bytes load) ≡ load → outcome ≡ data_kept p t c n s kept
    → IfSome unanswered (λ l. map_taken (λ signal. up_in signal (bytes_of unanswered)) outcome ≡ data_sent_with p t c n s l)
reported-data unanswered load kept outcome p t c n s e k f = rw (e, f) (ap (λ (l : Load). data_sent_with p t c n s l) k)
