-- What a unit does with a signal, or of itself or for its device, told by what is seen of it.
use Rattle.std.proofs.Common.{◌≡◌, refl, sym, ◌∙◌, ap, subst, ℕ, ◌<◌, ◌+◌, ◌==◌, ◌&&◌, ◌||◌, nat_lt, Bool, true, false, not, Option, None, Some, is_some, List}
use Rattle.std.specs.Prelude.{if◌then◌else◌, option_map}
use Rattle.std.proofs.lemmas.Bool.{eqb-true, and_parts, ltb-true}
use Rattle.chan_events.specs.Replies.{Reply}
use Rattle.chan_events.specs.declared.reply.Reply.TheVariants as reply
use Rattle.chan_model.specs.declared.names.Side.{Side}
use Rattle.chan_model.specs.declared.names.Side.TheVariants.{First, Second}
use Rattle.chan_model.specs.Signals.{Down, Load, Up}
use Rattle.chan_model.specs.declared.signal.Down.TheVariants as down
use Rattle.chan_model.specs.declared.signal.Up.TheVariants as up
use Rattle.chan_model.specs.declared.unit_state.CurrentCommand.{CurrentCommand}
use Rattle.chan_model.specs.declared.unit_state.Attention.{Attention}
use Rattle.chan_model.specs.declared.unit_state.Own.{Own}
use Rattle.chan_model.specs.declared.unit_state.Own.TheVariants as own
use Rattle.chan_model.specs.declared.unit_state.Connection.{Connection}
use Rattle.chan_model.specs.declared.unit_state.Connection.TheVariants as connection
use Rattle.chan_model.specs.declared.unit_state.SideState.{SideState}
use Rattle.chan_model.specs.declared.unit_state.UnitState.{UnitState}
use Rattle.chan_model.specs.Sides.{same_side}
use Rattle.chan_model.specs.UnitReports.{is_outward}
use Rattle.chan_model.specs.UnitTable.{UnitStep, with_given, current_answered, changes, sends, outcome_of, unit_after, side_of, with_side, freed, raised, selected, is_owner, is_owner_on, owns, new_command, given_next, answered_load, answered_last, granted_at, granted, grant_refused_at, grant_refused, forgetting, telling, unit_works, unit_takes, is_idle}
use Rattle.machine_model.specs.Sharing.{is_asked_for}
use Rattle.step_laws.proofs.Indices.{both-true}
use Rattle.run_laws.specs.Devices as seen
use Rattle.agreement_laws.specs.Holders.{SideAnswered}
use Rattle.run_laws.specs.Devices.{Connected, Asking, Apart, Transfer, Held, Asked, commanded, with_transfer, answered, given, Holding, side_seen, with_seen, with_answered, let_go, is_held_by, is_holder, with_holder, parted, moved, held_after, quiet_after, held_met}
use Rattle.run_laws.specs.OneHolder.{is_unanswered, is_next, is_asked, ignores, takes_if, answers, answers_if, holds_and, is_connected_by, is_asking, connection_of, grant_due, works_due, reply_due, IsHigher, IsNumbered, IsAnswerNumbered}
use Rattle.run_laws.proofs.Signals.UnitMoves.{floor_of}
use Rattle.agreement_laws.proofs.SeenSignals.{IsResetAbove}

-- what a unit keeps of it
abbrev pub seen_connection : Connection → seen.Connection
seen_connection (connection.On p c) = Connected p c
seen_connection (connection.Ask p c) = Asking p c
seen_connection (connection.Away c) = Apart c

abbrev pub transfer_of : CurrentCommand → Transfer
transfer_of x = record { sequence = x.sequence; unanswered = is_some x.unanswered; outward = is_outward x.code }

abbrev pub transfer_in : Option CurrentCommand → Option Transfer
transfer_in None = None
transfer_in (Some x) = Some (record { sequence = x.sequence; unanswered = is_some x.unanswered; outward = is_outward x.code })

abbrev pub holder_in : UnitState → Own → Option Held
holder_in u own.Idle = None
holder_in u (own.Owned side t at) =
    Some (record { side = side; number = t; connection = seen_connection at; command = u.last_command; transfer = transfer_in u.current; halted = u.halted })

abbrev pub asked_in : Option Attention → Option Asked
asked_in None = None
asked_in (Some x) = Some (record { side = x.side; number = x.number })

abbrev pub seen_of : SideState → SideAnswered
seen_of s = record { number = s.floor; restarted = s.fresh }

abbrev pub held_with : UnitState → Option Held → Holding
held_with u h = record { restarts = u.restarts; holder = h; first = seen_of u.first; second = seen_of u.second; attentions = u.attentions; attention = asked_in u.attention }

abbrev pub holding_of : UnitState → Holding
holding_of u = record {
  restarts = u.restarts;
  holder = holder_in u u.own;
  first = seen_of u.first;
  second = seen_of u.second;
  attentions = u.attentions;
  attention = asked_in u.attention;
}

-- a signal was met: the reply is the one that is due, and tells what the unit keeps
abbrev pub reply_of : Down → Option UnitStep → Reply
reply_of d step = reply.Down d (outcome_of step).taken (outcome_of step).sent

pub record Turns (u : UnitState) (side : Side) (p : ℕ) (d : Down) (step : Option UnitStep) (due : Reply) : Type 0 where
  pub replies : reply_of d step ≡ due
  pub numbered : IsAnswerNumbered (holding_of u) side (outcome_of step).sent
  pub next : holding_of (unit_after u step) ≡ held_met side p (reply_of d step) (holding_of u)

none-turns : (u : UnitState) (side : Side) (p : ℕ) (d : Down) → Turns u side p d None (ignores d)
none-turns u side p d = record { replies = refl; numbered = tt; next = refl }

takes-if : (u : UnitState) (side : Side) (p : ℕ) (d : Down) (b : Bool) (v : UnitState) → (b ≡ true → holding_of v ≡ quiet_after d (holding_of u)) →
    Turns u side p d (if b then changes v else None) (takes_if b d)
takes-if u side p d true v f = record { replies = refl; numbered = tt; next = f refl }
takes-if u side p d false v f = none-turns u side p d

answers-if : (u : UnitState) (side : Side) (p : ℕ) (d : Down) (b : Bool) (v : UnitState) (x : Up) → (b ≡ true → IsNumbered (holding_of u) side x) →
    (b ≡ true → holding_of v ≡ held_after side p x (holding_of u)) → Turns u side p d (if b then sends v p x else None) (answers_if b p d x)
answers-if u side p d true v x e f = record { replies = refl; numbered = e refl; next = f refl }
answers-if u side p d false v x e f = none-turns u side p d

-- numbers
above-answered : (u : UnitState) (side : Side) (t : ℕ) → floor_of u side < t → IsHigher (holding_of u) side t
above-answered u First t e = e
above-answered u Second t e = e

raised-next : (u : UnitState) (side : Side) (t : ℕ) → holding_of (raised u side t) ≡ with_answered (holding_of u) side t
raised-next u First t = refl
raised-next u Second t = refl

begun-next : (u : UnitState) (side : Side) (t p : ℕ) →
    holding_of (record (freed (raised u side t)) { own = own.Owned side t (connection.On p 0) }) ≡ held_after side p (up.Accept t) (holding_of u)
begun-next u First t p = refl
begun-next u Second t p = refl

-- what the unit's program becomes
pub changed-next : (u : UnitState) (o : Own) (f : Held → Held) (new : Option Held) → u.own ≡ o → option_map f (holder_in u o) ≡ new → held_with u new ≡ with_holder f (holding_of u)
changed-next u o f new e g = ap (held_with u) (sym (ap (λ (x : Own). option_map f (holder_in u x)) e ∙ g))

abbrev with_halt : Held → Held
with_halt h = record h { halted = true }

command-holder : (u : UnitState) (o : Own) (p n code room : ℕ) →
    holder_in (record u { last_command = n; current = Some (new_command p code room) }) o ≡ option_map (commanded n code) (holder_in u o)
command-holder u own.Idle p n code room = refl
command-holder u (own.Owned k v at) p n code room = refl

halt-holder : (u : UnitState) (o : Own) → holder_in (record u { halted = true }) o ≡ option_map with_halt (holder_in u o)
halt-holder u own.Idle = refl
halt-holder u (own.Owned k v at) = refl

hand-holder : (u : UnitState) (o : Own) (x : CurrentCommand) (f : Transfer → Transfer) → transfer_in (Some x) ≡ option_map f (transfer_in u.current) →
    holder_in (record u { current = Some x }) o ≡ option_map (with_transfer f) (holder_in u o)
hand-holder u own.Idle x f e = refl
hand-holder u (own.Owned k v at) x f e =
    ap (λ (y : Option Transfer). Some (record { side = k; number = v; connection = seen_connection at; command = u.last_command; transfer = y; halted = u.halted })) e

pub hand-next : (u : UnitState) (x y : CurrentCommand) (f : Transfer → Transfer) → u.current ≡ Some x → transfer_of y ≡ f (transfer_of x) →
    holding_of (record u { current = Some y }) ≡ with_holder (with_transfer f) (holding_of u)
hand-next u x y f e g =
    ap (held_with u) (hand-holder u u.own y f (ap (λ (z : Transfer). Some z) g ∙ sym (ap (λ (o : Option CurrentCommand). option_map f (transfer_in o)) e)))

-- tests of it
next-command : (u : UnitState) (o : Own) (side : Side) (t n : ℕ) → (is_owner o side t && (n == u.last_command + 1)) ≡ holds_and (λ h. n == h.command + 1) (holder_in u o) side t
next-command u own.Idle side t n = refl
next-command u (own.Owned k v at) side t n = refl

first-halt : (u : UnitState) (o : Own) (side : Side) (t : ℕ) → (is_owner o side t && not u.halted) ≡ holds_and (λ h. not h.halted) (holder_in u o) side t
first-halt u own.Idle side t = refl
first-halt u (own.Owned k v at) side t = refl

owner-holds : (u : UnitState) (o : Own) (side : Side) (t : ℕ) → is_owner o side t ≡ is_holder (holder_in u o) side t
owner-holds u own.Idle side t = refl
owner-holds u (own.Owned k v at) side t = refl

-- Select
select-turns : (u : UnitState) (side : Side) (o : Own) (p t : ℕ) (may free : Bool) → u.own ≡ o → floor_of u side < t → (is_idle o ≡ true → may ≡ free) → (is_idle o ≡ false → free ≡ false) →
    Turns u side p (down.Select t) (selected (raised u side t) o side p t may) (answers p (down.Select t) (if free then up.Accept t else up.Busy t))
select-turns u side own.Idle p t true true e above f g = record { replies = refl; numbered = above-answered u side t above; next = begun-next u side t p }
select-turns u side own.Idle p t true false e above f g = absurd (cc (f refl))
select-turns u side own.Idle p t false true e above f g = absurd (cc (f refl))
select-turns u side own.Idle p t false false e above f g = record { replies = refl; numbered = above-answered u side t above; next = raised-next u side t }
select-turns u side (own.Owned k v at) p t may true e above f g = absurd (cc (g refl))
select-turns u side (own.Owned k v at) p t may false e above f g = record { replies = refl; numbered = above-answered u side t above; next = raised-next u side t }

select-if : (u : UnitState) (side : Side) (p t : ℕ) (b may free : Bool) → (b ≡ true → floor_of u side < t) → (b ≡ true → is_idle u.own ≡ true → may ≡ free) → (is_idle u.own ≡ false → free ≡ false) →
    Turns u side p (down.Select t) (if b then selected (raised u side t) u.own side p t may else None) (answers_if b p (down.Select t) (if free then up.Accept t else up.Busy t))
select-if u side p t true may free above f g = select-turns u side u.own p t may free refl (above refl) (f refl) g
select-if u side p t false may free above f g = none-turns u side p (down.Select t)

-- Grant and Refuse
older-turns : (u : UnitState) (side : Side) (p t v c : ℕ) (b : Bool) → t ≡ v →
    Turns u side p (down.Grant t c) (if b then sends u p (up.Leave v c) else None) (answers_if b p (down.Grant t c) (up.Leave t c))
older-turns u side p t v c b e =
    subst (λ (n : ℕ). Turns u side p (down.Grant t c) (if b then sends u p (up.Leave n c) else None) (answers_if b p (down.Grant t c) (up.Leave t c))) e
    (answers-if u side p (down.Grant t c) b u (up.Leave t c) (λ h. tt) (λ h. refl))

asked-turns : (u : UnitState) (side k : Side) (p t v c q d : ℕ) (b : Bool) → u.own ≡ own.Owned k v (connection.Ask q d) → t ≡ v →
    Turns u side p (down.Grant t c) (if b then changes (record u { own = own.Owned k v (connection.On q d) }) else (if nat_lt c d then sends u p (up.Leave v c) else None))
    (if b then takes_if true (down.Grant t c) else answers_if (nat_lt c d) p (down.Grant t c) (up.Leave t c))
asked-turns u side k p t v c q d true e n = record { replies = refl; numbered = tt; next = changed-next u (own.Owned k v (connection.Ask q d)) (moved seen.granted) _ e refl }
asked-turns u side k p t v c q d false e n = older-turns u side p t v c (nat_lt c d) n

granted_at-turns : (u : UnitState) (side k : Side) (at : Connection) (p t v c : ℕ) (b : Bool) → u.own ≡ own.Owned k v at → (b ≡ true → t ≡ v) →
    Turns u side p (down.Grant t c) (if b then granted_at u k v at p c else None)
    (if b && is_asking (seen_connection at) c then takes_if true (down.Grant t c) else answers_if (b && nat_lt c (connection_of (seen_connection at))) p (down.Grant t c) (up.Leave t c))
granted_at-turns u side k at p t v c false e n = none-turns u side p (down.Grant t c)
granted_at-turns u side k (connection.Ask q d) p t v c true e n = asked-turns u side k p t v c q d (c == d) e (n refl)
granted_at-turns u side k (connection.On q d) p t v c true e n = older-turns u side p t v c (nat_lt c d) (n refl)
granted_at-turns u side k (connection.Away d) p t v c true e n = older-turns u side p t v c (nat_lt c d) (n refl)

granted-turns : (u : UnitState) (side : Side) (o : Own) (p t c : ℕ) → u.own ≡ o → Turns u side p (down.Grant t c) (granted u o side p t c) (grant_due (holder_in u o) side p t c)
granted-turns u side own.Idle p t c e = none-turns u side p (down.Grant t c)
granted-turns u side (own.Owned k v at) p t c e =
    granted_at-turns u side k at p t v c (same_side k side && (t == v)) e (λ f. eqb-true t v (and_parts (same_side k side) (t == v) f).1)

refused_at-turns : (u : UnitState) (side k : Side) (at : Connection) (p t v c : ℕ) (b : Bool) → u.own ≡ own.Owned k v at →
    Turns u side p (down.Refuse t c) (if b then grant_refused_at u k v at c else None) (takes_if (b && is_asking (seen_connection at) c) (down.Refuse t c))
refused_at-turns u side k at p t v c false e = none-turns u side p (down.Refuse t c)
refused_at-turns u side k (connection.Ask q d) p t v c true e =
    takes-if u side p (down.Refuse t c) (c == d) _ (λ f. changed-next u (own.Owned k v (connection.Ask q d)) (moved parted) _ e refl)
refused_at-turns u side k (connection.On q d) p t v c true e = none-turns u side p (down.Refuse t c)
refused_at-turns u side k (connection.Away d) p t v c true e = none-turns u side p (down.Refuse t c)

refused-turns : (u : UnitState) (side : Side) (o : Own) (p t c : ℕ) → u.own ≡ o →
    Turns u side p (down.Refuse t c) (grant_refused u o side t c) (takes_if (holds_and (λ h. is_asking h.connection c) (holder_in u o) side t) (down.Refuse t c))
refused-turns u side own.Idle p t c e = none-turns u side p (down.Refuse t c)
refused-turns u side (own.Owned k v at) p t c e = refused_at-turns u side k at p t v c (same_side k side && (t == v)) e

-- Took
took-load : (u : UnitState) (side : Side) (p t n s room : ℕ) (x : CurrentCommand) (load : Option Load) (b : Bool) → u.current ≡ Some x →
    Turns u side p (down.Took t n s room) (if b then answered_load u x load room else None) (takes_if (b && is_some load) (down.Took t n s room))
took-load u side p t n s room x load false e = none-turns u side p (down.Took t n s room)
took-load u side p t n s room x None true e = none-turns u side p (down.Took t n s room)
took-load u side p t n s room x (Some load) true e = record { replies = refl; numbered = tt; next = hand-next u x (current_answered x load room) answered e refl }

took-last : (u : UnitState) (side : Side) (p t n s room : ℕ) (hand : Option CurrentCommand) (b c : Bool) → u.current ≡ hand →
    Turns u side p (down.Took t n s room) (if b && c then answered_last u hand s room else None) (takes_if (b && (c && is_unanswered (transfer_in hand) s)) (down.Took t n s room))
took-last u side p t n s room hand false c e = none-turns u side p (down.Took t n s room)
took-last u side p t n s room hand true false e = none-turns u side p (down.Took t n s room)
took-last u side p t n s room None true true e = none-turns u side p (down.Took t n s room)
took-last u side p t n s room (Some x) true true e = took-load u side p t n s room x x.unanswered (s == x.sequence) e

took-turns : (u : UnitState) (side : Side) (o : Own) (p t n s room : ℕ) →
    Turns u side p (down.Took t n s room) (if is_owner o side t && (n == u.last_command) then answered_last u u.current s room else None)
    (takes_if (holds_and (λ h. (n == h.command) && is_unanswered h.transfer s) (holder_in u o) side t) (down.Took t n s room))
took-turns u side own.Idle p t n s room = none-turns u side p (down.Took t n s room)
took-turns u side (own.Owned k v at) p t n s room = took-last u side p t n s room u.current (same_side k side && (t == v)) (n == u.last_command) refl

-- Give
give-chunk : (u : UnitState) (side : Side) (p t c n s : ℕ) (bytes : List ℕ) (x : CurrentCommand) (b : Bool) → u.current ≡ Some x →
    Turns u side p (down.Give bytes t c n s) (if b then changes (record u { current = Some (with_given x s bytes) }) else None) (takes_if b (down.Give bytes t c n s))
give-chunk u side p t c n s bytes x b e = takes-if u side p (down.Give bytes t c n s) b _ (λ f. hand-next u x (with_given x s bytes) (given s) e refl)

give-last : (u : UnitState) (side : Side) (p t c n s : ℕ) (bytes : List ℕ) (hand : Option CurrentCommand) (b on last : Bool) → u.current ≡ hand →
    Turns u side p (down.Give bytes t c n s) (if (b && on) && last then given_next u hand s bytes else None)
    (takes_if (b && (on && (last && is_next (transfer_in hand) s))) (down.Give bytes t c n s))
give-last u side p t c n s bytes hand false on last e = none-turns u side p (down.Give bytes t c n s)
give-last u side p t c n s bytes hand true false last e = none-turns u side p (down.Give bytes t c n s)
give-last u side p t c n s bytes hand true true false e = none-turns u side p (down.Give bytes t c n s)
give-last u side p t c n s bytes None true true true e = none-turns u side p (down.Give bytes t c n s)
give-last u side p t c n s bytes (Some x) true true true e = give-chunk u side p t c n s bytes x (s == x.sequence + 1) e

connected-by : (at : Connection) (c : ℕ) → elim at [ connection.On p d ↦ c == d | other ↦ false ] ≡ is_connected_by (seen_connection at) c
connected-by (connection.On p d) c = refl
connected-by (connection.Ask p d) c = refl
connected-by (connection.Away d) c = refl

give-turns : (u : UnitState) (side : Side) (o : Own) (p t c n s : ℕ) (bytes : List ℕ) →
    Turns u side p (down.Give bytes t c n s) (if is_owner_on o side t c && (n == u.last_command) then given_next u u.current s bytes else None)
    (takes_if (holds_and (λ h. is_connected_by h.connection c && ((n == h.command) && is_next h.transfer s)) (holder_in u o) side t) (down.Give bytes t c n s))
give-turns u side own.Idle p t c n s bytes = none-turns u side p (down.Give bytes t c n s)
give-turns u side (own.Owned k v at) p t c n s bytes =
    subst (λ (b : Bool). Turns u side p (down.Give bytes t c n s) (if is_owner_on (own.Owned k v at) side t c && (n == u.last_command) then given_next u u.current s bytes else None)
    (takes_if ((same_side k side && (t == v)) && (b && ((n == u.last_command) && is_next (transfer_in u.current) s))) (down.Give bytes t c n s))) (connected-by at c)
    (give-last u side p t c n s bytes u.current (same_side k side && (t == v)) (elim at [ connection.On p d ↦ c == d | other ↦ false ]) (n == u.last_command) refl)

-- Got
got-turns : (u : UnitState) (side : Side) (p a : ℕ) (x : Option Attention) → Turns u side p (down.Got a) (forgetting u x side a) (takes_if (is_asked (asked_in x) side a) (down.Got a))
got-turns u side p a None = none-turns u side p (down.Got a)
got-turns u side p a (Some x) = takes-if u side p (down.Got a) (same_side x.side side && (a == x.number)) _ (λ e. refl)

-- each signal to a side that is not fresh: where the control unit is asked it says whether it is free, and is not where a program holds
-- the device
pub record IsAsked (u : UnitState) (side : Side) (d : Down) (may free : Bool) : Type 0 where
  pub asks : is_asked_for u side d ≡ true → may ≡ free
  pub held : is_idle u.own ≡ false → free ≡ false

abbrev Works : UnitState → Side → ℕ → Down → Bool → Bool → Type 0
Works u side p d may free = Turns u side p d (unit_works u side p d may) (works_due (holding_of u) side p free d)

seen-number : (u : UnitState) (side : Side) → (side_of u side).floor ≡ (side_seen (holding_of u) side).number
seen-number u First = refl
seen-number u Second = refl

asked-select : (u : UnitState) (side : Side) (t : ℕ) → (side_of u side).fresh ≡ false → nat_lt (side_of u side).floor t ≡ true → is_idle u.own ≡ true → is_asked_for u side (down.Select t) ≡ true
asked-select u side t e f g = both-true (not (side_of u side).fresh) _ (ap not e) (both-true (nat_lt (side_of u side).floor t) (is_idle u.own) f g)

abbrev IsNoReset : Down → Type 0
IsNoReset (down.Reset r b) = ⊥
IsNoReset d = Unit {0}

works-turns : (u : UnitState) (side : Side) (p : ℕ) (d : Down) (may free : Bool) → IsNoReset d → (side_of u side).fresh ≡ false → IsAsked u side d may free → Works u side p d may free
works-turns u side p (down.Select t) may free plain fresh k =
    subst (λ (n : ℕ). Turns u side p (down.Select t) (unit_works u side p (down.Select t) may) (answers_if (nat_lt n t) p (down.Select t) (if free then up.Accept t else up.Busy t)))
    (seen-number u side)
    (select-if u side p t (nat_lt (side_of u side).floor t) may free (ltb-true (side_of u side).floor t) (λ above idle. k.asks (asked-select u side t fresh above idle)) k.held)
works-turns u side p (down.Command t n code room) may free plain fresh k =
    subst (λ (b : Bool). Turns u side p (down.Command t n code room) (unit_works u side p (down.Command t n code room) may) (takes_if b (down.Command t n code room)))
    (next-command u u.own side t n)
    (takes-if u side p (down.Command t n code room) (is_owner u.own side t && (n == u.last_command + 1)) _ (λ e. ap (held_with u) (command-holder u u.own p n code room)))
works-turns u side p (down.Grant t c) may free plain fresh k = granted-turns u side u.own p t c refl
works-turns u side p (down.Refuse t c) may free plain fresh k = refused-turns u side u.own p t c refl
works-turns u side p (down.Took t n s room) may free plain fresh k = took-turns u side u.own p t n s room
works-turns u side p (down.Give bytes t c n s) may free plain fresh k = give-turns u side u.own p t c n s bytes
works-turns u side p (down.Halt t) may free plain fresh k =
    subst (λ (b : Bool). Turns u side p (down.Halt t) (unit_works u side p (down.Halt t) may) (takes_if b (down.Halt t)))
    (first-halt u u.own side t)
    (takes-if u side p (down.Halt t) (is_owner u.own side t && not u.halted) _ (λ e. ap (held_with u) (halt-holder u u.own)))
works-turns u side p (down.Release t) may free plain fresh k =
    subst (λ (b : Bool). Turns u side p (down.Release t) (unit_works u side p (down.Release t) may) (answers_if b p (down.Release t) (up.Released t)))
    (owner-holds u u.own side t)
    (answers-if u side p (down.Release t) (is_owner u.own side t) (freed u) (up.Released t) (λ e. tt) (λ e. refl))
works-turns u side p (down.Reset r b) may free plain fresh k = absurd plain
works-turns u side p (down.Got a) may free plain fresh k = got-turns u side p a u.attention

-- after a restart all is answered by Notice
told-turns : (u : UnitState) (side : Side) (p : ℕ) (d : Down) (b : Bool) (works : Option UnitStep) (due : Reply) → (b ≡ false → Turns u side p d works due) →
    Turns u side p d (if b then telling u p else works) (if b then answers p d (up.Notice u.restarts) else due)
told-turns u side p d true works due k = record { replies = refl; numbered = tt; next = refl }
told-turns u side p d false works due k = k refl

fresh-turns : (u : UnitState) (side : Side) (p : ℕ) (d : Down) (works : Option UnitStep) (due : Reply) → ((side_of u side).fresh ≡ false → Turns u side p d works due) →
    Turns u side p d (if (side_of u side).fresh then telling u p else works) (if (side_seen (holding_of u) side).restarted then answers p d (up.Notice u.restarts) else due)
fresh-turns u First p d works due k = told-turns u First p d u.first.fresh works due k
fresh-turns u Second p d works due k = told-turns u Second p d u.second.fresh works due k

-- Reset
owns-is : (u : UnitState) (o : Own) (side : Side) → owns o side ≡ is_held_by (holder_in u o) side
owns-is u own.Idle side = refl
owns-is u (own.Owned k t at) side = refl

cleared-next : (u : UnitState) (side : Side) (r : ℕ) (b : Bool) →
    holding_of (with_side (if b then freed u else u) side (record { floor = r; fresh = false })) ≡ with_seen (if b then let_go (holding_of u) else holding_of u) side (record { number = r; restarted = false })
cleared-next u First r true = refl
cleared-next u First r false = refl
cleared-next u Second r true = refl
cleared-next u Second r false = refl

reset-if : (u : UnitState) (side : Side) (p r b : ℕ) (knows fresh above : Bool) (v : UnitState) → ((knows && (fresh || above)) ≡ true → IsHigher (holding_of u) side r) →
    holding_of v ≡ held_after side p (up.Cleared r) (holding_of u) →
    Turns u side p (down.Reset r b) (if knows && (fresh || above) then sends v p (up.Cleared r) else (if fresh then telling u p else None))
    (if fresh then answers p (down.Reset r b) (if knows then up.Cleared r else up.Notice u.restarts) else answers_if (knows && above) p (down.Reset r b) (up.Cleared r))
reset-if u side p r b true true above v e f = record { replies = refl; numbered = e refl; next = f }
reset-if u side p r b true false true v e f = record { replies = refl; numbered = e refl; next = f }
reset-if u side p r b true false false v e f = none-turns u side p (down.Reset r b)
reset-if u side p r b false true above v e f = record { replies = refl; numbered = tt; next = refl }
reset-if u side p r b false false above v e f = none-turns u side p (down.Reset r b)

reset-next : (u : UnitState) (side : Side) (p r : ℕ) →
    holding_of (with_side (if owns u.own side then freed u else u) side (record { floor = r; fresh = false })) ≡ held_after side p (up.Cleared r) (holding_of u)
reset-next u side p r =
    cleared-next u side r (owns u.own side)
    ∙ ap (λ (x : Bool). with_seen (if x then let_go (holding_of u) else holding_of u) side (record { number = r; restarted = false })) (owns-is u u.own side)

reset-turns : (u : UnitState) (side : Side) (p r b : ℕ) (may free : Bool) → IsResetAbove u side (down.Reset r b) →
    Turns u side p (down.Reset r b) (unit_takes u side p (down.Reset r b) may) (reply_due (holding_of u) side p free (down.Reset r b))
reset-turns u First p r b may free above =
    reset-if u First p r b (b == u.restarts) u.first.fresh (nat_lt u.first.floor r) _ (λ e. above-answered u First r (above r b refl e)) (reset-next u First p r)
reset-turns u Second p r b may free above =
    reset-if u Second p r b (b == u.restarts) u.second.fresh (nat_lt u.second.floor r) _ (λ e. above-answered u Second r (above r b refl e)) (reset-next u Second p r)

abbrev Takes : UnitState → Side → ℕ → Down → Bool → Bool → Type 0
Takes u side p d may free = Turns u side p d (unit_takes u side p d may) (reply_due (holding_of u) side p free d)

pub takes-turns : (u : UnitState) (side : Side) (p : ℕ) (d : Down) (may free : Bool) → IsResetAbove u side d → IsAsked u side d may free → Takes u side p d may free
takes-turns u side p (down.Select t) may free above asked =
    fresh-turns u side p (down.Select t) (unit_works u side p (down.Select t) may) (works_due (holding_of u) side p free (down.Select t)) (λ e. works-turns u side p (down.Select t) may free tt e asked)
takes-turns u side p (down.Command t n code room) may free above asked =
    fresh-turns u side p (down.Command t n code room) (unit_works u side p (down.Command t n code room) may) (works_due (holding_of u) side p free (down.Command t n code room)) (λ e. works-turns u side p (down.Command t n code room) may free tt e asked)
takes-turns u side p (down.Grant t c) may free above asked =
    fresh-turns u side p (down.Grant t c) (unit_works u side p (down.Grant t c) may) (works_due (holding_of u) side p free (down.Grant t c)) (λ e. works-turns u side p (down.Grant t c) may free tt e asked)
takes-turns u side p (down.Refuse t c) may free above asked =
    fresh-turns u side p (down.Refuse t c) (unit_works u side p (down.Refuse t c) may) (works_due (holding_of u) side p free (down.Refuse t c)) (λ e. works-turns u side p (down.Refuse t c) may free tt e asked)
takes-turns u side p (down.Took t n s room) may free above asked =
    fresh-turns u side p (down.Took t n s room) (unit_works u side p (down.Took t n s room) may) (works_due (holding_of u) side p free (down.Took t n s room)) (λ e. works-turns u side p (down.Took t n s room) may free tt e asked)
takes-turns u side p (down.Give bytes t c n s) may free above asked =
    fresh-turns u side p (down.Give bytes t c n s) (unit_works u side p (down.Give bytes t c n s) may) (works_due (holding_of u) side p free (down.Give bytes t c n s)) (λ e. works-turns u side p (down.Give bytes t c n s) may free tt e asked)
takes-turns u side p (down.Halt t) may free above asked =
    fresh-turns u side p (down.Halt t) (unit_works u side p (down.Halt t) may) (works_due (holding_of u) side p free (down.Halt t)) (λ e. works-turns u side p (down.Halt t) may free tt e asked)
takes-turns u side p (down.Release t) may free above asked =
    fresh-turns u side p (down.Release t) (unit_works u side p (down.Release t) may) (works_due (holding_of u) side p free (down.Release t)) (λ e. works-turns u side p (down.Release t) may free tt e asked)
takes-turns u side p (down.Reset r b) may free above asked = reset-turns u side p r b may free above
takes-turns u side p (down.Got a) may free above asked =
    fresh-turns u side p (down.Got a) (unit_works u side p (down.Got a) may) (works_due (holding_of u) side p free (down.Got a)) (λ e. works-turns u side p (down.Got a) may free tt e asked)
