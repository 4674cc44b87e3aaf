-- When the hold of a subchannel is to be reset because a path goes down or is reset (own). The other causes are an
-- accepted CLEAR SUBCHANNEL, a Notice of more restarts than are known, and a reset of the subsystem.
use Rattle.std.specs.Prelude.{ℕ, Bool, true, false, ◌==◌, ◌&&◌, ◌||◌, if◌then◌else◌, Option, None, Some}
use Rattle.chan_model.specs.declared.hold_state.HoldPhase.{HoldPhase}
use Rattle.chan_model.specs.declared.hold_state.HoldPhase.TheVariants.{Offer, On, Away, Letting, Reset}
use Rattle.chan_model.specs.declared.hold_state.HoldState.{HoldState}
use Rattle.chan_model.specs.HoldTable.{resetting}

abbrev pub is_path : Option ℕ → ℕ → Bool
is_path None p = false
is_path (Some q) p = q == p

-- the path whose engine the hold engages: the active allegiance (SA22-7832, chapter 15)
abbrev pub engaged_path : HoldPhase → Option ℕ
engaged_path (Offer t p) = Some p
engaged_path (On t p c) = Some p
engaged_path (Letting t p) = Some p
engaged_path phase = None

-- a program holds the device
abbrev pub is_held : HoldPhase → Bool
is_held (On t p c) = true
is_held (Away t) = true
is_held phase = false

abbrev pub is_reset : HoldPhase → Bool
is_reset (Reset r) = true
is_reset phase = false

-- p is the path of Offer, On or Letting; or that of the working allegiance in single-path mode; or that on which an
-- unanswered Reset was sent
abbrev pub rests_on : HoldState → ℕ → Bool
rests_on h p =
    is_path (engaged_path h.phase) p
    || ((is_held h.phase && (h.single_path && is_path h.first_path p))
    || (is_reset h.phase && is_path h.reset_path p))

-- the hold after its path p went down or was reset, r being drawn for it
abbrev pub hold_path_lost : HoldState → ℕ → ℕ → HoldState
hold_path_lost h p r = if rests_on h p then resetting h r else h
