-- What a unit does with a signal of a side: each of the ways in which it can be taken, and what is known then.
use Rattle.std.proofs.Common.{◌≡◌, refl, sym, ◌∙◌, ap, subst, ℕ, ◌<◌, ◌+◌, ◌==◌, ◌&&◌, nat_lt, Bool, true, false, not, Option, None, Some, List}
use Rattle.std.specs.Prelude.{if◌then◌else◌}
use Rattle.std.proofs.lemmas.Bool.{eqb-true, and_parts, ltb-true}
use Rattle.chan_model.specs.declared.names.Side.{Side}
use Rattle.chan_model.specs.declared.signal.Down.TheVariants as down
use Rattle.chan_model.specs.declared.signal.Up.TheVariants as up
use Rattle.chan_model.specs.declared.unit_state.CurrentCommand.{CurrentCommand}
use Rattle.chan_model.specs.declared.unit_state.Attention.{Attention}
use Rattle.chan_model.specs.declared.unit_state.Own.{Own}
use Rattle.chan_model.specs.declared.unit_state.Own.TheVariants as own
use Rattle.chan_model.specs.declared.unit_state.Connection.{Connection}
use Rattle.chan_model.specs.declared.unit_state.Connection.TheVariants.{On, Ask, Away}
use Rattle.chan_model.specs.declared.unit_state.UnitState.{UnitState}
use Rattle.chan_model.specs.Sides.{same_side}
use Rattle.chan_model.specs.Signals.{Down, Load}
use Rattle.chan_model.specs.UnitTable.{UnitStep, changes, sends, side_of, is_owner, is_owner_on, freed, raised, selected, new_command, with_given, given_next, current_answered, answered_load, answered_last, granted_at, granted, grant_refused_at, grant_refused, resets, forgetting, telling, unit_works, unit_takes, is_connected_on, reset_side}
use Rattle.chan_model.proofs.OneSide.{one-side}

-- the program of this side and number holds the device, and is there
abbrev pub IsAt : UnitState → Side → ℕ → Connection → Type 0
IsAt u side t connection = u.own ≡ own.Owned side t connection

pub data Takes (u : UnitState) (side : Side) (p : ℕ) : Down → Option UnitStep → Type 0 where
  Ignores : (d : Down) → Takes u side p d None
  Notices : (d : Down) → (side_of u side).fresh ≡ true → Takes u side p d (telling u p)
  Accepts : (t : ℕ) → (side_of u side).floor < t → u.own ≡ own.Idle →
      Takes u side p (down.Select t) (sends (record (freed (raised u side t)) { own = own.Owned side t (On p 0) }) p (up.Accept t))
  Denies : (t : ℕ) → (side_of u side).floor < t → Takes u side p (down.Select t) (sends (raised u side t) p (up.Busy t))
  Begins : (t n code room : ℕ) (connection : Connection) → IsAt u side t connection → n ≡ u.last_command + 1 →
      Takes u side p (down.Command t n code room) (changes (record u { last_command = n; current = Some (new_command p code room) }))
  Joins : (t c q : ℕ) → IsAt u side t (Ask q c) → Takes u side p (down.Grant t c) (changes (record u { own = own.Owned side t (On q c) }))
  Leaves : (t c : ℕ) (connection : Connection) → IsAt u side t connection → Takes u side p (down.Grant t c) (sends u p (up.Leave t c))
  Parts : (t c q : ℕ) → IsAt u side t (Ask q c) → Takes u side p (down.Refuse t c) (changes (record u { own = own.Owned side t (Away c) }))
  Answers : (t s room : ℕ) (connection : Connection) (x : CurrentCommand) (load : Load) → IsAt u side t connection → u.current ≡ Some x → s ≡ x.sequence → x.unanswered ≡ Some load →
      Takes u side p (down.Took t u.last_command s room) (changes (record u { current = Some (current_answered x load room) }))
  Gives : (bytes : List ℕ) (t c s q : ℕ) (x : CurrentCommand) → IsAt u side t (On q c) → u.current ≡ Some x → s ≡ x.sequence + 1 →
      Takes u side p (down.Give bytes t c u.last_command s) (changes (record u { current = Some (with_given x s bytes) }))
  Halts : (t : ℕ) (connection : Connection) → IsAt u side t connection → u.halted ≡ false → Takes u side p (down.Halt t) (changes (record u { halted = true }))
  Frees : (t : ℕ) (connection : Connection) → IsAt u side t connection → Takes u side p (down.Release t) (sends (freed u) p (up.Released t))
  Resets : (r b : ℕ) → resets u side r b ≡ true → Takes u side p (down.Reset r b) (sends (reset_side u side r) p (up.Cleared r))
  Forgets : (a : ℕ) → Takes u side p (down.Got a) (changes (record u { attention = None }))

takes-if : (u : UnitState) (side : Side) (p : ℕ) (d : Down) (b : Bool) (x y : Option UnitStep) → (b ≡ true → Takes u side p d x) → Takes u side p d y → Takes u side p d (if b then x else y)
takes-if u side p d true x y f g = f refl
takes-if u side p d false x y f g = g

-- whoever the tests find
owner-at : (o : Own) (side : Side) (t : ℕ) → is_owner o side t ≡ true → (connection : Connection) × (o ≡ own.Owned side t connection)
owner-at own.Idle side t e = absurd (cc e)
owner-at (own.Owned k v connection) side t e =
    let both = and_parts (same_side k side) (t == v) e in
    (connection, ap (λ (j : Side). own.Owned j v connection) (one-side k side both.0) ∙ ap (λ (n : ℕ). own.Owned side n connection) (sym (eqb-true t v both.1)))

on-owner : (o : Own) (side : Side) (t c : ℕ) → is_owner_on o side t c ≡ true → (q : ℕ) × (o ≡ own.Owned side t (On q c))
on-owner own.Idle side t c e = absurd (cc e)
on-owner (own.Owned k v connection) side t c e =
    let both = and_parts (same_side k side && (t == v)) (is_connected_on connection c) e in
    let at = owner-at (own.Owned k v connection) side t both.0 in
    on connection both.1 (at.1 ∙ ap (own.Owned side t) (same-connection at.0 at.1))
  where
    same-connection : (other : Connection) → own.Owned k v connection ≡ own.Owned side t other → other ≡ connection
    same-connection other is = cc is

    on : (x : Connection) → is_connected_on x c ≡ true → own.Owned k v connection ≡ own.Owned side t x → (q : ℕ) × (own.Owned k v connection ≡ own.Owned side t (On q c))
    on (On q d) h is = (q, is ∙ ap (λ (m : ℕ). own.Owned side t (On q m)) (sym (eqb-true c d h)))
    on (Ask q d) h is = absurd (cc h)
    on (Away d) h is = absurd (cc h)

-- Select
select-takes : (u : UnitState) (side : Side) (o : Own) (p t : ℕ) (may : Bool) → u.own ≡ o → (side_of u side).floor < t → Takes u side p (down.Select t) (selected (raised u side t) o side p t may)
select-takes u side own.Idle p t true e above = Accepts t above e
select-takes u side own.Idle p t false e above = Denies t above
select-takes u side (own.Owned k v connection) p t may e above = Denies t above

-- Grant and Refuse
older-takes : (u : UnitState) (side : Side) (p t c : ℕ) (connection : Connection) (b : Bool) → IsAt u side t connection → Takes u side p (down.Grant t c) (if b then sends u p (up.Leave t c) else None)
older-takes u side p t c connection b is = takes-if u side p (down.Grant t c) b _ None (λ e. Leaves t c connection is) (Ignores (down.Grant t c))

granted_at-takes : (u : UnitState) (side : Side) (t : ℕ) (connection : Connection) (p c : ℕ) → IsAt u side t connection → Takes u side p (down.Grant t c) (granted_at u side t connection p c)
granted_at-takes u side t (Ask q d) p c is =
    takes-if u side p (down.Grant t c) (c == d) _ _
    (λ e.
    let same : c ≡ d = eqb-true c d e in
    subst (λ (n : ℕ). Takes u side p (down.Grant t c) (changes (record u { own = own.Owned side t (On q n) }))) same
    (Joins t c q (is ∙ ap (λ (n : ℕ). own.Owned side t (Ask q n)) (sym same))))
    (older-takes u side p t c (Ask q d) (nat_lt c d) is)
granted_at-takes u side t (On q d) p c is = older-takes u side p t c (On q d) (nat_lt c d) is
granted_at-takes u side t (Away d) p c is = older-takes u side p t c (Away d) (nat_lt c d) is

refused_at-takes : (u : UnitState) (side : Side) (t : ℕ) (connection : Connection) (p c : ℕ) → IsAt u side t connection → Takes u side p (down.Refuse t c) (grant_refused_at u side t connection c)
refused_at-takes u side t (Ask q d) p c is =
    takes-if u side p (down.Refuse t c) (c == d) _ None
    (λ e.
    let same : c ≡ d = eqb-true c d e in
    subst (λ (n : ℕ). Takes u side p (down.Refuse t c) (changes (record u { own = own.Owned side t (Away n) }))) same
    (Parts t c q (is ∙ ap (λ (n : ℕ). own.Owned side t (Ask q n)) (sym same))))
    (Ignores (down.Refuse t c))
refused_at-takes u side t (On q d) p c is = Ignores (down.Refuse t c)
refused_at-takes u side t (Away d) p c is = Ignores (down.Refuse t c)

-- of the program that the tables name by its own side and number
named-takes : (u : UnitState) (side k : Side) (p t v : ℕ) (connection : Connection) (d : Down) (step : Side → ℕ → Option UnitStep) → IsAt u k v connection →
    (IsAt u side t connection → Takes u side p d (step side t)) → Takes u side p d (if same_side k side && (t == v) then step k v else None)
named-takes u side k p t v connection d step is f =
    takes-if u side p d (same_side k side && (t == v)) (step k v) None
    (λ e.
    let both = and_parts (same_side k side) (t == v) e in
    let here : side ≡ k = sym (one-side k side both.0) in
    let same : t ≡ v = eqb-true t v both.1 in
    subst (λ (n : ℕ). Takes u side p d (step k n)) same
    (subst (λ (j : Side). Takes u side p d (step j t)) here
    (f (is ∙ ap (λ (j : Side). own.Owned j v connection) (sym here) ∙ ap (λ (n : ℕ). own.Owned side n connection) (sym same)))))
    (Ignores d)

granted-takes : (u : UnitState) (side : Side) (o : Own) (p t c : ℕ) → u.own ≡ o → Takes u side p (down.Grant t c) (granted u o side p t c)
granted-takes u side own.Idle p t c is = Ignores (down.Grant t c)
granted-takes u side (own.Owned k v connection) p t c is =
    named-takes u side k p t v connection (down.Grant t c) (λ j n. granted_at u j n connection p c) is (granted_at-takes u side t connection p c)

refused-takes : (u : UnitState) (side : Side) (o : Own) (p t c : ℕ) → u.own ≡ o → Takes u side p (down.Refuse t c) (grant_refused u o side t c)
refused-takes u side own.Idle p t c is = Ignores (down.Refuse t c)
refused-takes u side (own.Owned k v connection) p t c is =
    named-takes u side k p t v connection (down.Refuse t c) (λ j n. grant_refused_at u j n connection c) is (refused_at-takes u side t connection p c)

-- Took and Give
load-takes : (u : UnitState) (side : Side) (p t s room : ℕ) (connection : Connection) (x : CurrentCommand) (load : Option Load) → IsAt u side t connection → u.current ≡ Some x → s ≡ x.sequence → x.unanswered ≡ load →
    Takes u side p (down.Took t u.last_command s room) (answered_load u x load room)
load-takes u side p t s room connection x None is hand next e = Ignores (down.Took t u.last_command s room)
load-takes u side p t s room connection x (Some load) is hand next e = Answers t s room connection x load is hand next e

last-takes : (u : UnitState) (side : Side) (p t s room : ℕ) (connection : Connection) (x : Option CurrentCommand) → IsAt u side t connection → u.current ≡ x → Takes u side p (down.Took t u.last_command s room) (answered_last u x s room)
last-takes u side p t s room connection None is hand = Ignores (down.Took t u.last_command s room)
last-takes u side p t s room connection (Some x) is hand =
    takes-if u side p (down.Took t u.last_command s room) (s == x.sequence) _ None
    (λ e. load-takes u side p t s room connection x x.unanswered is hand (eqb-true s x.sequence e) refl) (Ignores (down.Took t u.last_command s room))

given-takes : (u : UnitState) (side : Side) (bytes : List ℕ) (p t c s q : ℕ) (x : Option CurrentCommand) → IsAt u side t (On q c) → u.current ≡ x → Takes u side p (down.Give bytes t c u.last_command s) (given_next u x s bytes)
given-takes u side bytes p t c s q None is hand = Ignores (down.Give bytes t c u.last_command s)
given-takes u side bytes p t c s q (Some x) is hand =
    takes-if u side p (down.Give bytes t c u.last_command s) (s == x.sequence + 1) _ None
    (λ e. Gives bytes t c s q x is hand (eqb-true s (x.sequence + 1) e)) (Ignores (down.Give bytes t c u.last_command s))

not-true : (b : Bool) → not b ≡ true → b ≡ false
not-true true e = absurd (cc e)
not-true false e = refl

forgetting-takes : (u : UnitState) (side : Side) (p : ℕ) (x : Option Attention) (a : ℕ) → Takes u side p (down.Got a) (forgetting u x side a)
forgetting-takes u side p None a = Ignores (down.Got a)
forgetting-takes u side p (Some x) a = takes-if u side p (down.Got a) (same_side x.side side && (a == x.number)) _ None (λ e. Forgets a) (Ignores (down.Got a))

-- each signal to a side that is not fresh
works-takes : (u : UnitState) (side : Side) (p : ℕ) (d : Down) (may : Bool) → Takes u side p d (unit_works u side p d may)
works-takes u side p (down.Select t) may =
    takes-if u side p (down.Select t) (nat_lt (side_of u side).floor t) _ None (λ e. select-takes u side u.own p t may refl (ltb-true (side_of u side).floor t e)) (Ignores (down.Select t))
works-takes u side p (down.Command t n code room) may =
    takes-if u side p (down.Command t n code room) (is_owner u.own side t && (n == u.last_command + 1)) _ None
    (λ e.
    let both = and_parts (is_owner u.own side t) (n == u.last_command + 1) e in
    let at = owner-at u.own side t both.0 in Begins t n code room at.0 at.1 (eqb-true n (u.last_command + 1) both.1)) (Ignores (down.Command t n code room))
works-takes u side p (down.Grant t c) may = granted-takes u side u.own p t c refl
works-takes u side p (down.Refuse t c) may = refused-takes u side u.own p t c refl
works-takes u side p (down.Took t n s room) may =
    takes-if u side p (down.Took t n s room) (is_owner u.own side t && (n == u.last_command)) _ None
    (λ e.
    let both = and_parts (is_owner u.own side t) (n == u.last_command) e in
    let at = owner-at u.own side t both.0 in
    subst (λ (m : ℕ). Takes u side p (down.Took t m s room) (answered_last u u.current s room)) (sym (eqb-true n u.last_command both.1))
    (last-takes u side p t s room at.0 u.current at.1 refl)) (Ignores (down.Took t n s room))
works-takes u side p (down.Give bytes t c n s) may =
    takes-if u side p (down.Give bytes t c n s) (is_owner_on u.own side t c && (n == u.last_command)) _ None
    (λ e.
    let both = and_parts (is_owner_on u.own side t c) (n == u.last_command) e in
    let on = on-owner u.own side t c both.0 in
    subst (λ (m : ℕ). Takes u side p (down.Give bytes t c m s) (given_next u u.current s bytes)) (sym (eqb-true n u.last_command both.1))
    (given-takes u side bytes p t c s on.0 u.current on.1 refl)) (Ignores (down.Give bytes t c n s))
works-takes u side p (down.Halt t) may =
    takes-if u side p (down.Halt t) (is_owner u.own side t && not u.halted) _ None
    (λ e.
    let both = and_parts (is_owner u.own side t) (not u.halted) e in
    let at = owner-at u.own side t both.0 in Halts t at.0 at.1 (not-true u.halted both.1)) (Ignores (down.Halt t))
works-takes u side p (down.Release t) may =
    takes-if u side p (down.Release t) (is_owner u.own side t) _ None (λ e. let at = owner-at u.own side t e in Frees t at.0 at.1) (Ignores (down.Release t))
works-takes u side p (down.Reset r b) may = Ignores (down.Reset r b)
works-takes u side p (down.Got a) may = forgetting-takes u side p u.attention a

fresh-takes : (u : UnitState) (side : Side) (p : ℕ) (d : Down) (step : Option UnitStep) → Takes u side p d step → Takes u side p d (if (side_of u side).fresh then telling u p else step)
fresh-takes u side p d step k = takes-if u side p d (side_of u side).fresh (telling u p) step (λ e. Notices d e) k

-- each signal
pub takes-by : (u : UnitState) (side : Side) (p : ℕ) (d : Down) (may : Bool) → Takes u side p d (unit_takes u side p d may)
takes-by u side p (down.Select t) may = fresh-takes u side p (down.Select t) _ (works-takes u side p (down.Select t) may)
takes-by u side p (down.Command t n code room) may = fresh-takes u side p (down.Command t n code room) _ (works-takes u side p (down.Command t n code room) may)
takes-by u side p (down.Grant t c) may = fresh-takes u side p (down.Grant t c) _ (works-takes u side p (down.Grant t c) may)
takes-by u side p (down.Refuse t c) may = fresh-takes u side p (down.Refuse t c) _ (works-takes u side p (down.Refuse t c) may)
takes-by u side p (down.Took t n s room) may = fresh-takes u side p (down.Took t n s room) _ (works-takes u side p (down.Took t n s room) may)
takes-by u side p (down.Give bytes t c n s) may = fresh-takes u side p (down.Give bytes t c n s) _ (works-takes u side p (down.Give bytes t c n s) may)
takes-by u side p (down.Halt t) may = fresh-takes u side p (down.Halt t) _ (works-takes u side p (down.Halt t) may)
takes-by u side p (down.Release t) may = fresh-takes u side p (down.Release t) _ (works-takes u side p (down.Release t) may)
takes-by u side p (down.Reset r b) may =
    takes-if u side p (down.Reset r b) (resets u side r b) _ _ (λ e. Resets r b e) (fresh-takes u side p (down.Reset r b) None (Ignores (down.Reset r b)))
takes-by u side p (down.Got a) may = fresh-takes u side p (down.Got a) _ (works-takes u side p (down.Got a) may)

-- to a side that is fresh it answers a Reset that it takes by Cleared, and all else by Notice
if-true : (P : Option UnitStep → Type 0) (b : Bool) (x y : Option UnitStep) → b ≡ true → P x → P (if b then x else y)
if-true P true x y e h = h
if-true P false x y e h = absurd (cc e)

if-either : (P : Option UnitStep → Type 0) (b : Bool) (x y : Option UnitStep) → P x → P y → P (if b then x else y)
if-either P true x y g h = g
if-either P false x y g h = h

pub takes-fresh : (P : Option UnitStep → Type 0) (u : UnitState) (side : Side) (p : ℕ) (d : Down) (may : Bool) → (side_of u side).fresh ≡ true → P (telling u p) →
    ((r : ℕ) → P (sends (reset_side u side r) p (up.Cleared r))) → P (unit_takes u side p d may)
takes-fresh P u side p (down.Reset r b) may fresh told cleared = if-either P (resets u side r b) _ _ (cleared r) (if-true P (side_of u side).fresh _ None fresh told)
takes-fresh P u side p (down.Select t) may fresh told cleared = if-true P (side_of u side).fresh _ _ fresh told
takes-fresh P u side p (down.Command t n code room) may fresh told cleared = if-true P (side_of u side).fresh _ _ fresh told
takes-fresh P u side p (down.Grant t c) may fresh told cleared = if-true P (side_of u side).fresh _ _ fresh told
takes-fresh P u side p (down.Refuse t c) may fresh told cleared = if-true P (side_of u side).fresh _ _ fresh told
takes-fresh P u side p (down.Took t n s room) may fresh told cleared = if-true P (side_of u side).fresh _ _ fresh told
takes-fresh P u side p (down.Give bytes t c n s) may fresh told cleared = if-true P (side_of u side).fresh _ _ fresh told
takes-fresh P u side p (down.Halt t) may fresh told cleared = if-true P (side_of u side).fresh _ _ fresh told
takes-fresh P u side p (down.Release t) may fresh told cleared = if-true P (side_of u side).fresh _ _ fresh told
takes-fresh P u side p (down.Got a) may fresh told cleared = if-true P (side_of u side).fresh _ _ fresh told
