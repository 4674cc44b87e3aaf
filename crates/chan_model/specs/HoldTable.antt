-- The subsystem's side of one subchannel (own): for each signal from the unit, and for each thing that it does of
-- itself, the new state and the signal that is sent. None stands where a signal is ignored.
use Rattle.std.specs.Prelude.{ℕ, Bool, true, false, ◌==◌, ◌&&◌, nat_lt, if◌then◌else◌, Option, None, Some}
use Rattle.chan_model.specs.declared.hold_state.HoldPhase.{HoldPhase}
use Rattle.chan_model.specs.declared.hold_state.HoldPhase.TheVariants.{Free, Offer, On, Away, Letting, Reset}
use Rattle.chan_model.specs.declared.hold_state.HoldState.{HoldState}
use Rattle.chan_model.specs.declared.signal.OnPath.{OnPath}
use Rattle.chan_model.specs.declared.signal.Taken.{Taken}
use Rattle.chan_model.specs.Signals.{Down}
use Rattle.chan_model.specs.declared.signal.Down.TheVariants as down
use Rattle.chan_model.specs.Signals.{Up}
use Rattle.chan_model.specs.declared.signal.Up.TheVariants as up

-- a new state, and at most one signal sent
pub record HoldStep : Type 0 where
  pub state : HoldState
  pub sent : Option (OnPath Down)

-- a hold at the opening
abbrev pub free_hold : HoldState
free_hold = record { phase = Free; seen = 0; known_restarts = 0; reset_path = None; first_path = None; single_path = false }

abbrev pub hold_quietly : HoldState → HoldStep
hold_quietly h = record { state = h; sent = None }

abbrev pub hold_sending : HoldState → ℕ → Down → HoldStep
hold_sending h p d = record { state = h; sent = Some (record { path = p; signal = d }) }

-- the program of number t was accepted on p; it goes on, or lets the device go at once
abbrev pub program_begun : HoldState → ℕ → ℕ → Bool → HoldStep
program_begun h t p goes_on =
    if goes_on then hold_quietly (record h { phase = On t p 0; seen = 0; first_path = Some p })
    else hold_sending (record h { phase = Letting t p; seen = 0; first_path = Some p }) p (down.Release t)

-- Accept: at the offer of its number
abbrev pub offer_accepted : HoldState → HoldPhase → ℕ → Bool → Option HoldStep
offer_accepted h (Offer t p) u goes_on = if u == t then Some (program_begun h t p goes_on) else None
offer_accepted h phase u goes_on = None

-- Busy: at the offer of its number the program waits again
abbrev pub found_busy : HoldState → HoldPhase → ℕ → Option HoldStep
found_busy h (Offer t p) u = if u == t then Some (hold_quietly (record h { phase = Free })) else None
found_busy h phase u = None

-- Leave: of the connection at hand
abbrev pub left : HoldState → HoldPhase → ℕ → ℕ → Option HoldStep
left h (On t p c) u d = if (u == t) && (d == c) then Some (hold_quietly (record h { phase = Away t })) else None
left h phase u d = None

-- a connection of number c that came by p is refused, or granted
abbrev pub refusing : HoldState → ℕ → ℕ → ℕ → HoldStep
refusing h p t c = hold_sending (record h { seen = c }) p (down.Refuse t c)

abbrev pub granting : HoldState → ℕ → ℕ → ℕ → HoldStep
granting h p t c = hold_sending (record h { phase = On t p c; seen = c }) p (down.Grant t c)

-- Back: under a number above the last seen; granted where the program is away; path_allowed: the path is, and its engine free
abbrev pub asked_back : HoldState → HoldPhase → ℕ → ℕ → ℕ → Bool → Option HoldStep
asked_back h (On t q d) p u c path_allowed = if (u == t) && nat_lt h.seen c then Some (refusing h p t c) else None
asked_back h (Away t) p u c path_allowed =
    if (u == t) && nat_lt h.seen c then (if path_allowed then Some (granting h p t c) else Some (refusing h p t c)) else None
asked_back h phase p u c path_allowed = None

-- Released: of the number that is let go
abbrev pub released : HoldState → HoldPhase → ℕ → Option HoldStep
released h (Letting t p) u = if u == t then Some (hold_quietly (record h { phase = Free })) else None
released h phase u = None

-- Cleared: of the Reset's number
abbrev pub reset_cleared : HoldState → HoldPhase → ℕ → Option HoldStep
reset_cleared h (Reset r) u = if u == r then Some (hold_quietly (record h { phase = Free; reset_path = None })) else None
reset_cleared h phase u = None

-- Notice: a restart count above the known one becomes known; it is a cause of a reset
abbrev pub noticed : HoldState → ℕ → Option HoldStep
noticed h b = if nat_lt h.known_restarts b then Some (hold_quietly (record h { known_restarts = b })) else None

-- Attn: where nothing holds the device; can_be_shown: no status is pending, and at most a start waits
abbrev pub attended : HoldState → HoldPhase → ℕ → ℕ → Bool → Option HoldStep
attended h Free p a can_be_shown = if can_be_shown then Some (hold_sending h p (down.Got a)) else None
attended h phase p a can_be_shown = None

-- What the hold does with a signal that came by path p. Data and End leave it as it is: they are the program's.
abbrev pub hold_takes : HoldState → ℕ → Up → Bool → Option HoldStep
hold_takes h p (up.Accept t) may = offer_accepted h h.phase t may
hold_takes h p (up.Busy t) may = found_busy h h.phase t
hold_takes h p (up.Leave t c) may = left h h.phase t c
hold_takes h p (up.Back t c) may = asked_back h h.phase p t c may
hold_takes h p (up.Data load t c n s) may = None
hold_takes h p (up.End t n status more) may = None
hold_takes h p (up.Released t) may = released h h.phase t
hold_takes h p (up.Cleared r) may = reset_cleared h h.phase r
hold_takes h p (up.Notice b) may = noticed h b
hold_takes h p (up.Attn a status) may = attended h h.phase p a may

-- the program of this number is connected on this path, by this connection
abbrev pub is_connected : HoldPhase → ℕ → ℕ → ℕ → Bool
is_connected (On t q d) p u c = (u == t) && ((p == q) && (c == d))
is_connected phase p u c = false

-- the program of this number is connected
abbrev pub is_on : HoldPhase → ℕ → Bool
is_on (On t q d) u = u == t
is_on phase u = false

-- A program is offered under the number t on p; its mode is single-path or multipath.
abbrev pub offering : HoldState → ℕ → ℕ → Bool → HoldStep
offering h t p single = hold_sending (record h { phase = Offer t p; single_path = single }) p (down.Select t)

-- The device is let go: where a program is connected.
abbrev pub letting_go : HoldState → HoldPhase → Option HoldStep
letting_go h (On t p c) = Some (hold_sending (record h { phase = Letting t p }) p (down.Release t))
letting_go h phase = None

-- The hold is to be reset under the number r, and no Reset is sent yet.
abbrev pub resetting : HoldState → ℕ → HoldState
resetting h r = record h { phase = Reset r; reset_path = None }

-- The Reset is sent on p.
abbrev pub sending_reset : HoldState → HoldPhase → ℕ → Option HoldStep
sending_reset h (Reset r) p = Some (hold_sending (record h { reset_path = Some p }) p (down.Reset r h.known_restarts))
sending_reset h phase p = None

-- the state after a signal, and what came of it
abbrev pub hold_after : HoldState → Option HoldStep → HoldState
hold_after h None = h
hold_after h (Some step) = step.state

abbrev pub outcome_of : Option HoldStep → Taken Down
outcome_of None = record { taken = false; sent = None }
outcome_of (Some step) = record { taken = true; sent = step.sent }
