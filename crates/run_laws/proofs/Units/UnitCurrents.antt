-- What a unit does with a signal to the command at hand, and what it sends then.
use Rattle.std.proofs.Common.{◌≡◌, refl, sym, ◌∙◌, ap, subst, ℕ, ◌+◌, Bool, true, false, ◌==◌, ◌&&◌, nat_lt, Option, None, Some, List, inl, inr}
use Rattle.std.specs.Prelude.{◌⊎◌, if◌then◌else◌, IfSome}
use Rattle.std.proofs.lemmas.Bool.{eqb-true, and_parts}
use Rattle.chan_model.specs.declared.names.Side.{Side}
use Rattle.chan_model.specs.declared.names.Side.TheVariants.{First, Second}
use Rattle.chan_model.specs.Signals.{Down, Load, Up}
use Rattle.chan_model.specs.declared.signal.Down.TheVariants as down
use Rattle.chan_model.specs.declared.signal.Up.TheVariants as up
use Rattle.chan_model.specs.declared.unit_state.CurrentCommand.{CurrentCommand}
use Rattle.chan_model.specs.declared.unit_state.Own.{Own}
use Rattle.chan_model.specs.declared.unit_state.Own.TheVariants as own
use Rattle.chan_model.specs.declared.unit_state.Connection.{Connection}
use Rattle.chan_model.specs.declared.unit_state.Connection.TheVariants.{On, Ask, Away}
use Rattle.chan_model.specs.declared.unit_state.SideState.{SideState}
use Rattle.chan_model.specs.declared.unit_state.UnitState.{UnitState}
use Rattle.chan_model.specs.Sides.{same_side}
use Rattle.chan_model.specs.UnitTable.{UnitStep, outcome_of, changes, with_given, current_answered, new_command, side_of, with_side, owns, is_owner, is_owner_on, freed, raised, selected, given_next, answered_load, answered_last, unit_takes, unit_after, telling, is_connected_on, reset_side, without_side}
use Rattle.chan_model.proofs.TakenSignals.{IsAt, Takes, Ignores, Notices, Accepts, Denies, Begins, Joins, Leaves, Parts, Answers, Gives, Halts, Frees, Resets, Forgets, takes-by}
use Rattle.run_laws.proofs.Traces.MachineTraces.{silent}
use Rattle.run_laws.proofs.Units.UnitSides.{side-own, other-owner}
use Rattle.run_laws.proofs.Commands.UnitOrders.{one-number}

-- a program of the side that holds the device held it before, with the same command at hand
abbrev pub IsCalm : Side → UnitState → UnitState → Type 0
IsCalm side u v = (t : ℕ) → is_owner v.own side t ≡ true → (is_owner u.own side t ≡ true) × (v.current ≡ u.current)

abbrev pub IsCalmStep : Side → UnitState → Option UnitStep → Type 0
IsCalmStep side u step = IsCalm side u (unit_after u step)

pub calm : (side : Side) (u : UnitState) → IsCalm side u u
calm side u t e = (e, refl)

calm-own : (side : Side) (u v : UnitState) → v.own ≡ u.own → v.current ≡ u.current → IsCalm side u v
calm-own side u v o h t e = (ap (λ (x : Own). is_owner x side t) (sym o) ∙ e, h)

calm-connection : (side k : Side) (n : ℕ) (connection to : Connection) (u : UnitState) → u.own ≡ own.Owned k n connection → IsCalm side u (record u { own = own.Owned k n to })
calm-connection side k n connection to u o t e = (ap (λ (x : Own). is_owner x side t) o ∙ e, refl)

calm-idle : (side : Side) (u v : UnitState) → v.own ≡ own.Idle → IsCalm side u v
calm-idle side u v o t e = absurd (cc (sym (ap (λ (x : Own). is_owner x side t) o) ∙ e))

side-hand : (k : Side) (u : UnitState) (s : SideState) → (with_side u k s).current ≡ u.current
side-hand First u s = refl
side-hand Second u s = refl

calm-side : (side k : Side) (u : UnitState) (s : SideState) → IsCalm side u (with_side u k s)
calm-side side k u s = calm-own side u (with_side u k s) (side-own k u s) (side-hand k u s)

calm-then : (side : Side) (u v w : UnitState) → IsCalm side u v → IsCalm side v w → IsCalm side u w
calm-then side u v w a b t e = let f = b t e in let g = a t f.0 in (g.0, f.1 ∙ g.1)

freed-where : (side : Side) (u : UnitState) (c : Bool) → IsCalm side u (if c then freed u else u)
freed-where side u true = calm-idle side u (freed u) refl
freed-where side u false = calm side u

-- the signals that leave it, of any side
abbrev pub IsEasy : Down → Type 0
IsEasy (down.Select t) = ⊥
IsEasy (down.Command t n code room) = ⊥
IsEasy (down.Took t n s room) = ⊥
IsEasy (down.Give bytes t c n s) = ⊥
IsEasy d = Unit {0}

-- what a program that holds the device does is no matter of the other side
owner-calm : (side k : Side) (u v : UnitState) (t : ℕ) (connection : Connection) → same_side k side ≡ false → IsAt u k t connection → v.own ≡ u.own → IsCalm side u v
owner-calm side k u v t connection e is o n f = absurd (other-owner side k t n connection e (ap (λ (x : Own). is_owner x side n) (sym (o ∙ is)) ∙ f))

taken-calm : (side : Side) (u : UnitState) (k : Side) (p : ℕ) (d : Down) (step : Option UnitStep) → IsEasy d ⊎ (same_side k side ≡ false) → Takes u k p d step → IsCalmStep side u step
taken-calm side u k p _ _ h (Ignores d) = calm side u
taken-calm side u k p _ _ h (Notices d fresh) = calm side u
taken-calm side u k p _ _ (inl m) (Accepts t above idle) = absurd m
taken-calm side u k p _ _ (inr e) (Accepts t above idle) = λ n f. absurd (other-owner side k t n (On p 0) e f)
taken-calm side u k p _ _ h (Denies t above) = calm-side side k u _
taken-calm side u k p _ _ (inl m) (Begins t n code room index is next) = absurd m
taken-calm side u k p _ _ (inr e) (Begins t n code room index is next) = owner-calm side k u (record u { last_command = n; current = Some (new_command p code room) }) t index e is refl
taken-calm side u k p _ _ h (Joins t c q is) = calm-connection side k t (Ask q c) (On q c) u is
taken-calm side u k p _ _ h (Leaves t c index is) = calm side u
taken-calm side u k p _ _ h (Parts t c q is) = calm-connection side k t (Ask q c) (Away c) u is
taken-calm side u k p _ _ (inl m) (Answers t s room index x load is hand last loaded) = absurd m
taken-calm side u k p _ _ (inr e) (Answers t s room index x load is hand last loaded) = owner-calm side k u (record u { current = Some (current_answered x load room) }) t index e is refl
taken-calm side u k p _ _ (inl m) (Gives bytes t c s q x is hand next) = absurd m
taken-calm side u k p _ _ (inr e) (Gives bytes t c s q x is hand next) = owner-calm side k u (record u { current = Some (with_given x s bytes) }) t (On q c) e is refl
taken-calm side u k p _ _ h (Halts t index is first) = calm-own side u (record u { halted = true }) refl refl
taken-calm side u k p _ _ h (Frees t index is) = calm-idle side u (freed u) refl
taken-calm side u k p _ _ h (Resets r b is) = calm-then side u (without_side u k) (reset_side u k r) (freed-where side u (owns u.own k)) (calm-side side k (without_side u k) _)
taken-calm side u k p _ _ h (Forgets a) = calm-own side u (record u { attention = None }) refl refl

pub easy-calm : (may : Bool) → (side : Side) (u : UnitState) (k : Side) (p : ℕ) (d : Down) → IsEasy d → IsCalmStep side u (unit_takes u k p d may)
easy-calm may side u k p d m = taken-calm side u k p d _ (inl m) (takes-by u k p d may)

pub other-calm : (may : Bool) → (side : Side) (u : UnitState) (k : Side) (p : ℕ) (d : Down) → same_side k side ≡ false → IsCalmStep side u (unit_takes u k p d may)
other-calm may side u k p d e = taken-calm side u k p d _ (inr e) (takes-by u k p d may)

-- an owner by a connection is an owner
pub is-owner-on : (o : Own) (side : Side) (t c : ℕ) → is_owner_on o side t c ≡ true → is_owner o side t ≡ true
is-owner-on own.Idle side t c e = absurd (cc e)
is-owner-on (own.Owned k v connection) side t c e = (and_parts (same_side k side && (t == v)) (is_connected_on connection c) e).0

-- what holds of the command at hand of a program
abbrev pub IsHeld : Side → ℕ → (Option CurrentCommand → Type 0) → UnitState → Type 0
IsHeld side number P u = is_owner u.own side number ≡ true → P u.current

pub calm-held : (side : Side) (number : ℕ) (P : Option CurrentCommand → Type 0) (u v : UnitState) → IsCalm side u v → IsHeld side number P u → IsHeld side number P v
calm-held side number P u v c h e = let f = c number e in subst P (sym f.1) (h f.0)

abbrev pub IsHeldStep : Side → ℕ → (Option CurrentCommand → Type 0) → UnitState → Option UnitStep → Type 0
IsHeldStep side number P u step = IsHeld side number P (unit_after u step)

if-held : (side : Side) (number : ℕ) (P : Option CurrentCommand → Type 0) (u : UnitState) (c : Bool) (x y : Option UnitStep) → IsHeldStep side number P u x → IsHeldStep side number P u y →
    IsHeldStep side number P u (if c then x else y)
if-held side number P u true x y e f = e
if-held side number P u false x y e f = f

fresh-held : (side : Side) (number : ℕ) (P : Option CurrentCommand → Type 0) (u : UnitState) (p : ℕ) (step : Option UnitStep) → IsHeld side number P u → IsHeldStep side number P u step →
    IsHeldStep side number P u (if (side_of u side).fresh then telling u p else step)
fresh-held side number P u p step h k = if-held side number P u (side_of u side).fresh (telling u p) step h k

-- Select
raised-held : (side : Side) (number : ℕ) (P : Option CurrentCommand → Type 0) (u : UnitState) (t : ℕ) → IsHeld side number P u → IsHeld side number P (raised u side t)
raised-held side number P u t h = calm-held side number P u (raised u side t) (calm-side side side u _) h

selected-held : (may : Bool) → (side : Side) (number : ℕ) (P : Option CurrentCommand → Type 0) (u : UnitState) (o : Own) (p t : ℕ) → P None → IsHeld side number P u →
    IsHeldStep side number P u (selected (raised u side t) o side p t may)
selected-held false side number P u own.Idle p t z h = raised-held side number P u t h
selected-held true side number P u own.Idle p t z h = λ e. z
selected-held may side number P u (own.Owned j v connection) p t z h = raised-held side number P u t h

pub select-held : (may : Bool) → (side : Side) (number : ℕ) (P : Option CurrentCommand → Type 0) (u : UnitState) (p t : ℕ) → P None → IsHeld side number P u →
    IsHeldStep side number P u (unit_takes u side p (down.Select t) may)
select-held may side number P u p t z h =
    fresh-held side number P u p _ h (if-held side number P u (nat_lt (side_of u side).floor t) _ None (selected-held may side number P u u.own p t z h) h)

-- Took
abbrev pub StaysAnswered : (Option CurrentCommand → Type 0) → Type 0
StaysAnswered P = (x : CurrentCommand) (l : Load) (room : ℕ) → P (Some x) → P (Some (current_answered x l room))

load-held : (side : Side) (number : ℕ) (P : Option CurrentCommand → Type 0) (u : UnitState) (x : CurrentCommand) (l : Option Load) (room : ℕ) → StaysAnswered P → u.current ≡ Some x →
    IsHeld side number P u → IsHeldStep side number P u (answered_load u x l room)
load-held side number P u x None room f e h = h
load-held side number P u x (Some l) room f e h = λ o. f x l room (subst P e (h o))

last-held : (side : Side) (number : ℕ) (P : Option CurrentCommand → Type 0) (u : UnitState) (x : Option CurrentCommand) (s room : ℕ) → StaysAnswered P → u.current ≡ x →
    IsHeld side number P u → IsHeldStep side number P u (answered_last u x s room)
last-held side number P u None s room f e h = h
last-held side number P u (Some x) s room f e h = if-held side number P u (s == x.sequence) _ None (load-held side number P u x x.unanswered room f e h) h

pub took-held : (may : Bool) → (side : Side) (number : ℕ) (P : Option CurrentCommand → Type 0) (u : UnitState) (p t n s room : ℕ) → StaysAnswered P → IsHeld side number P u →
    IsHeldStep side number P u (unit_takes u side p (down.Took t n s room) may)
took-held may side number P u p t n s room f h =
    fresh-held side number P u p _ h
    (if-held side number P u (is_owner u.own side t && (n == u.last_command)) _ None (last-held side number P u u.current s room f refl h) h)

-- Give
abbrev pub TakesGive : (Option CurrentCommand → Type 0) → ℕ → List ℕ → Type 0
TakesGive P s bytes = (x : CurrentCommand) → s ≡ x.sequence + 1 → P (Some x) → P (Some (with_given x s bytes))

next-held : (side : Side) (number : ℕ) (P : Option CurrentCommand → Type 0) (u : UnitState) (x : Option CurrentCommand) (s : ℕ) (bytes : List ℕ) →
    (is_owner u.own side number ≡ true → TakesGive P s bytes) → u.current ≡ x → IsHeld side number P u → IsHeldStep side number P u (given_next u x s bytes)
next-held side number P u None s bytes f e h = h
next-held side number P u (Some x) s bytes f e h = by (s == x.sequence + 1) refl
  where
    by : (c : Bool) → (s == x.sequence + 1) ≡ c → IsHeldStep side number P u (if c then changes (record u { current = Some (with_given x s bytes) }) else None)
    by true q = λ o. f o x (eqb-true s (x.sequence + 1) q) (subst P e (h o))
    by false q = h

pub give-held : (may : Bool) → (side : Side) (number : ℕ) (P : Option CurrentCommand → Type 0) (u : UnitState) (p t c n s : ℕ) (bytes : List ℕ) →
    (t ≡ number → n ≡ u.last_command → is_owner u.own side number ≡ true → TakesGive P s bytes) → IsHeld side number P u →
    IsHeldStep side number P u (unit_takes u side p (down.Give bytes t c n s) may)
give-held may side number P u p t c n s bytes f h = fresh-held side number P u p _ h (by (is_owner_on u.own side t c) (n == u.last_command) refl refl)
  where
    by : (a b : Bool) → is_owner_on u.own side t c ≡ a → (n == u.last_command) ≡ b → IsHeldStep side number P u (if a && b then given_next u u.current s bytes else None)
    by true true i j =
        next-held side number P u u.current s bytes
        (λ o. f (one-number u.own side t number (is-owner-on u.own side t c i) o) (eqb-true n u.last_command j) o) refl h
    by true false i j = h
    by false b i j = h

-- Command, of another number, or not taken
pub command-held : (may : Bool) → (side : Side) (number : ℕ) (P : Option CurrentCommand → Type 0) (u : UnitState) (p t n code room : ℕ) → IsHeld side number P u →
    (t ≡ number → silent (outcome_of (unit_takes u side p (down.Command t n code room) may)) ≡ false) →
    IsHeldStep side number P u (unit_takes u side p (down.Command t n code room) may)
command-held may side number P u p t n code room h f =
    by (side_of u side).fresh (is_owner u.own side t) (n == u.last_command + 1) refl f
  where
    by : (g a b : Bool) → is_owner u.own side t ≡ a →
        (t ≡ number → silent (outcome_of (if g then telling u p else (if a && b then changes (record u { last_command = n; current = Some (new_command p code room) }) else None))) ≡ false) →
        IsHeldStep side number P u (if g then telling u p else (if a && b then changes (record u { last_command = n; current = Some (new_command p code room) }) else None))
    by true a b i q = h
    by false true true i q = λ o. absurd (cc (q (one-number u.own side t number i o)))
    by false true false i q = h
    by false false b i q = h

-- it tells nothing of the command
abbrev pub IsQuiet : Up → Type 0
IsQuiet (up.Data l t c n s) = ⊥
IsQuiet (up.End t n status more) = ⊥
IsQuiet x = Unit {0}

abbrev pub IsQuietStep : Option UnitStep → Type 0
IsQuietStep step = IfSome (outcome_of step).sent (λ x. IsQuiet x.signal)

pub if-quiet : (c : Bool) (x y : Option UnitStep) → IsQuietStep x → IsQuietStep y → IsQuietStep (if c then x else y)
if-quiet true x y e f = e
if-quiet false x y e f = f

taken-quiet : (u : UnitState) (k : Side) (p : ℕ) (d : Down) (step : Option UnitStep) → Takes u k p d step → IsQuietStep step
taken-quiet u k p _ _ (Ignores d) = tt
taken-quiet u k p _ _ (Notices d fresh) = tt
taken-quiet u k p _ _ (Accepts t above idle) = tt
taken-quiet u k p _ _ (Denies t above) = tt
taken-quiet u k p _ _ (Begins t n code room index is next) = tt
taken-quiet u k p _ _ (Joins t c q is) = tt
taken-quiet u k p _ _ (Leaves t c index is) = tt
taken-quiet u k p _ _ (Parts t c q is) = tt
taken-quiet u k p _ _ (Answers t s room index x load is hand last loaded) = tt
taken-quiet u k p _ _ (Gives bytes t c s q x is hand next) = tt
taken-quiet u k p _ _ (Halts t index is first) = tt
taken-quiet u k p _ _ (Frees t index is) = tt
taken-quiet u k p _ _ (Resets r b is) = tt
taken-quiet u k p _ _ (Forgets a) = tt

pub takes-quiet : (may : Bool) → (u : UnitState) (k : Side) (p : ℕ) (d : Down) → IsQuietStep (unit_takes u k p d may)
takes-quiet may u k p d = taken-quiet u k p d _ (takes-by u k p d may)
