-- Signals in slots that are made beforehand, and what stands there.
use Rattle.std.specs.Prelude.{ℕ, Bool, true, false, Option, None, Some}
use Rattle.chan_model.specs.declared.signal.OnPath.{OnPath}
use Rattle.chan_model.specs.declared.signal.Taken.{Taken}
use Rattle.active_program.specs.declared.met.Met.{Met}
use Rattle.active_program.specs.declared.met.Met.TheVariants as done

-- a signal that is sent on a path, where there is one
abbrev pub sent_on : {A : Type 0} → Option ℕ → A → Option (OnPath A)
sent_on None signal = None
sent_on (Some path) signal = Some (record { path = path; signal = signal })

-- what came of a signal: whether it was taken, and what was sent
abbrev pub is_taken : Met → Bool
is_taken done.Ignored = false
is_taken done.Taken = true

abbrev pub outcome_with : {A : Type 0} → Met → Option (OnPath A) → Taken A
outcome_with met sent = record { taken = is_taken met; sent = sent }

-- the path of a signal that is sent
abbrev pub sent_path : {A : Type 0} → Option (OnPath A) → Option ℕ
sent_path None = None
sent_path (Some sent) = Some sent.path
