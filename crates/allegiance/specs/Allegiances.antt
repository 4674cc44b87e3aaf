-- The allegiances of a subchannel (SA22-7832, chapter 15). The active allegiance is that of the path whose engine the hold
-- engages: `engaged_path` of chan_model.
use Rattle.std.specs.Prelude.{ℕ, Bool, ◌&&◌, ◌||◌, if◌then◌else◌, Option, None, Some, List}
use Rattle.chan_model.specs.declared.hold_state.HoldPhase.{HoldPhase}
use Rattle.chan_model.specs.declared.hold_state.HoldPhase.TheVariants.{On}
use Rattle.chan_model.specs.declared.hold_state.HoldState.{HoldState}
use Rattle.chan_model.specs.ResetCauses.{is_path, engaged_path, is_held, is_reset}
use Rattle.allegiance.specs.declared.allegiances.AllegianceCause.{AllegianceCause}
use Rattle.allegiance.specs.declared.allegiances.AllegianceCause.TheVariants.{Data, End, Clear, SystemReset}
use Rattle.chan_model.specs.PathSets.{is_member}

-- the path on which the program was connected last: the one at hand, otherwise the last-used path
abbrev pub last_connected : HoldPhase → Option ℕ → Option ℕ
last_connected (On t p c) last_used = Some p
last_connected phase last_used = last_used

-- the working allegiance stands while a program holds the device: in single-path mode it is to the path of the program's
-- Accept, in multipath mode to the path on which it was connected last
abbrev pub working_path : HoldState → Option ℕ → Option ℕ
working_path h last_used =
    if is_held h.phase then (if h.single_path then h.first_path else last_connected h.phase last_used) else None

-- whether the loss of a path resets the hold: the path is that of the active allegiance; or in single-path mode that of the
-- working allegiance; or that on which an unanswered Reset was sent
abbrev pub rests_by : HoldState → Option ℕ → ℕ → Bool
rests_by h working p =
    is_path (engaged_path h.phase) p
    || ((h.single_path && is_path working p) || (is_reset h.phase && is_path h.reset_path p))

-- The dedicated allegiance (own), after what may change it. Unit check brings one to the path of its End. The first Data of
-- the first command of a later program ends it, and so does its first End without unit check; CLEAR SUBCHANNEL and a reset
-- of the subsystem end it too.
abbrev pub unless_later : Option ℕ → Bool → Option ℕ
unless_later dedicated later = if later then None else dedicated

abbrev pub dedicated_after : Option ℕ → AllegianceCause → Option ℕ
dedicated_after dedicated (Data later) = unless_later dedicated later
dedicated_after dedicated (End path unit_check later) = if unit_check then Some path else unless_later dedicated later
dedicated_after dedicated Clear = None
dedicated_after dedicated SystemReset = None

-- whether a program that is away may come back by a path: in single-path mode by that of its Accept, in multipath mode by
-- any available one
abbrev pub may_reconnect : HoldState → List Bool → ℕ → Bool
may_reconnect h available path = if h.single_path then is_path h.first_path path else is_member available path
