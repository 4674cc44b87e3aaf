-- By which path a subchannel answers a signal, if it does.
use Rattle.std.specs.Prelude.{ℕ, ◌≡◌, ◌⊎◌, Bool, true, false, Option, None, Some}
use Rattle.chan_model.specs.declared.hold_state.HoldPhase.{HoldPhase}
use Rattle.chan_model.specs.declared.hold_state.HoldPhase.TheVariants as hold
use Rattle.chan_model.specs.Signals.{Up}
use Rattle.chan_model.specs.declared.signal.Up.TheVariants as up

-- the path of the program that is offered or connected
abbrev pub standing_path : HoldPhase → Option ℕ
standing_path (hold.Offer t p) = Some p
standing_path (hold.On t p c) = Some p
standing_path phase = None

-- an answer goes by the path of its signal, or by that of the program that is offered or connected
abbrev pub IsAnswerPath : HoldPhase → ℕ → Option ℕ → Type 0
IsAnswerPath phase p None = Unit {0}
IsAnswerPath phase p (Some q) = (q ≡ p) ⊎ (standing_path phase ≡ Some q)

-- a signal that moves bytes
abbrev pub is_data : Up → Bool
is_data (up.Data load t c n seq) = true
is_data signal = false
