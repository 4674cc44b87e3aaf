-- What a unit does of itself: it leaves its path, asks for one or for attention, tells of a restart, or is restarted; and what
-- it owes. A program that holds it then held it before, with the same last command, at most a Data of which is to be sent again.
use Rattle.std.proofs.Common.{◌≡◌, refl, sym, ◌∙◌, ap, subst, ℕ, ◌+◌, ◌≤◌, ◌<◌, Bool, true, false, not, ◌&&◌, Option, None, Some, List, [], Result, inl, inr}
use Rattle.std.specs.Prelude.{◌⊎◌, if◌then◌else◌, IfOk, IfSome}
use Rattle.chan_model.specs.declared.fault.Fault.{Fault}
use Rattle.chan_model.specs.declared.names.Side.{Side}
use Rattle.chan_model.specs.declared.names.Side.TheVariants.{First, Second}
use Rattle.chan_model.specs.Signals.{Down, Up}
use Rattle.chan_model.specs.declared.signal.OnPath.{OnPath}
use Rattle.chan_model.specs.declared.unit_state.CurrentCommand.{CurrentCommand}
use Rattle.chan_model.specs.declared.unit_state.Own.{Own}
use Rattle.chan_model.specs.declared.unit_state.Own.TheVariants as own
use Rattle.chan_model.specs.declared.unit_state.Connection.{Connection}
use Rattle.chan_model.specs.declared.unit_state.Connection.TheVariants.{On, Ask, Away}
use Rattle.chan_model.specs.declared.unit_state.SideState.{SideState}
use Rattle.chan_model.specs.declared.unit_state.UnitState.{UnitState}
use Rattle.chan_model.specs.UnitTable.{UnitStep, unit_after, side_of, is_owner, is_idle, marked_again, leaving_from, leaving, asking_from, asking, restarted}
use Rattle.chan_events.specs.declared.event.UnitAct.{UnitAct}
use Rattle.chan_events.specs.declared.event.UnitAct.TheVariants as act
use Rattle.subchannel_model.specs.declared.state.Subchannel.{Subchannel}
use Rattle.subchannel_model.specs.Sending.{carried_by, finds_full}
use Rattle.machine_model.specs.Results.{DownResult}
use Rattle.machine_model.specs.ReportSteps.{with_any_up, report_taken}
use Rattle.machine_model.specs.ActSteps.{has_path_of_act, acts, act_sub}
use Rattle.machine_model.specs.Sharing.{owing}
use Rattle.run_laws.proofs.Units.UnitSides.{same-sides, same-own, same-program, IsStill, still}
use Rattle.run_laws.proofs.Commands.UnitOrders.{IsNumbered, IsOrdered}
use Rattle.run_laws.proofs.Units.UnitCurrents.{IsHeld, IsQuiet, IsQuietStep, if-quiet}

-- a program of a side that holds the device held it before
pub record StaysOwner (side : Side) (t : ℕ) (u v : UnitState) : Type 0 where
  pub owned : is_owner u.own side t ≡ true
  pub last : v.last_command ≡ u.last_command
  pub fresh : (side_of v side).fresh ≡ (side_of u side).fresh
  pub hand : (v.current ≡ u.current) ⊎ (v.current ≡ marked_again u.current)

pub record IsGentle (side : Side) (u v : UnitState) : Type 0 where
  pub floor : (side_of v side).floor ≡ (side_of u side).floor
  pub owner : (t : ℕ) → is_owner v.own side t ≡ true → StaysOwner side t u v

abbrev pub IsGentleStep : Side → UnitState → Option UnitStep → Type 0
IsGentleStep side u step = IsGentle side u (unit_after u step)

-- what leaves a side still is gentle
of-still : (side : Side) (u v : UnitState) → IsStill side u v → (v.current ≡ u.current) ⊎ (v.current ≡ marked_again u.current) → IsGentle side u v
of-still side u v s h = record {
  floor = ap (λ (x : SideState). x.floor) s.side_state;
  owner = λ t e. let o = s.owner t e in record { owned = o.0; last = o.1; fresh = ap (λ (x : SideState). x.fresh) s.side_state; hand = h };
}

still-gentle : (side : Side) (u : UnitState) → IsGentle side u u
still-gentle side u = of-still side u u (still side u) (inl refl)

placed-gentle : (side k : Side) (n : ℕ) (connection to : Connection) (u : UnitState) → u.own ≡ own.Owned k n connection → IsGentle side u (record u { own = own.Owned k n to })
placed-gentle side k n connection to u o = of-still side u (record u { own = own.Owned k n to }) (same-program side k n connection to u o) (inl refl)

-- acts
leaving_from-gentle : (side : Side) (u : UnitState) (k : Side) (n : ℕ) (connection : Connection) → u.own ≡ own.Owned k n connection → IsGentleStep side u (leaving_from u k n connection)
leaving_from-gentle side u k n (On p c) o =
    let v : UnitState = record u { own = own.Owned k n (Away c); current = marked_again u.current } in
    of-still side u v
    (record { side_state = same-sides side u v refl refl; owner = λ t e. (ap (λ (x : Own). is_owner x side t) o ∙ e, refl) }) (inr refl)
leaving_from-gentle side u k n (Ask p c) o = still-gentle side u
leaving_from-gentle side u k n (Away c) o = still-gentle side u

leaving-gentle : (side : Side) (u : UnitState) (o : Own) → u.own ≡ o → IsGentleStep side u (leaving u o)
leaving-gentle side u own.Idle e = still-gentle side u
leaving-gentle side u (own.Owned k n connection) e = leaving_from-gentle side u k n connection e

asking_from-gentle : (side : Side) (u : UnitState) (k : Side) (n : ℕ) (connection : Connection) (p : ℕ) → u.own ≡ own.Owned k n connection → IsGentleStep side u (asking_from u k n connection p)
asking_from-gentle side u k n (On q c) p o = still-gentle side u
asking_from-gentle side u k n (Ask q c) p o = placed-gentle side k n (Ask q c) _ u o
asking_from-gentle side u k n (Away c) p o = placed-gentle side k n (Away c) _ u o

asking-gentle : (side : Side) (u : UnitState) (o : Own) (p : ℕ) → u.own ≡ o → IsGentleStep side u (asking u o p)
asking-gentle side u own.Idle p e = still-gentle side u
asking-gentle side u (own.Owned k n connection) p e = asking_from-gentle side u k n connection p e

if-gentle : (side : Side) (u : UnitState) (b : Bool) (x y : Option UnitStep) → IsGentleStep side u x → IsGentleStep side u y → IsGentleStep side u (if b then x else y)
if-gentle side u true x y e f = e
if-gentle side u false x y e f = f

abbrev attended : UnitState → Side → UnitState
attended u side = record u { attentions = u.attentions + 1; attention = Some (record { number = u.attentions + 1; side = side }); end_owed = false }

attended-gentle : (side : Side) (u : UnitState) (at : Side) → IsGentle side u (attended u at)
attended-gentle side u at =
    of-still side u (attended u at) (same-own side u (attended u at) (same-sides side u (attended u at) refl refl) refl refl) (inl refl)

pub act-gentle : (side : Side) (u : UnitState) (at : Side) (what : UnitAct) → IsGentleStep side u (acts u at what)
act-gentle side u at act.Leave = leaving-gentle side u u.own refl
act-gentle side u at (act.Ask p) = asking-gentle side u u.own p refl
act-gentle side u at (act.Attention p named) = if-gentle side u (is_idle u.own && not (side_of u at).fresh) _ None (attended-gentle side u at) (still-gentle side u)
act-gentle side u at (act.Notice p named) = if-gentle side u (side_of u at).fresh _ None (still-gentle side u) (still-gentle side u)

-- what an act sends tells nothing of a command
leaving_from-quiet : (u : UnitState) (k : Side) (n : ℕ) (connection : Connection) → IsQuietStep (leaving_from u k n connection)
leaving_from-quiet u k n (On p c) = tt
leaving_from-quiet u k n (Ask p c) = tt
leaving_from-quiet u k n (Away c) = tt

leaving-quiet : (u : UnitState) (o : Own) → IsQuietStep (leaving u o)
leaving-quiet u own.Idle = tt
leaving-quiet u (own.Owned k n connection) = leaving_from-quiet u k n connection

asking_from-quiet : (u : UnitState) (k : Side) (n : ℕ) (connection : Connection) (p : ℕ) → IsQuietStep (asking_from u k n connection p)
asking_from-quiet u k n (On q c) p = tt
asking_from-quiet u k n (Ask q c) p = tt
asking_from-quiet u k n (Away c) p = tt

asking-quiet : (u : UnitState) (o : Own) (p : ℕ) → IsQuietStep (asking u o p)
asking-quiet u own.Idle p = tt
asking-quiet u (own.Owned k n connection) p = asking_from-quiet u k n connection p

act-quiet : (u : UnitState) (at : Side) (what : UnitAct) → IsQuietStep (acts u at what)
act-quiet u at act.Leave = leaving-quiet u u.own
act-quiet u at (act.Ask p) = asking-quiet u u.own p
act-quiet u at (act.Attention p named) = if-quiet (is_idle u.own && not (side_of u at).fresh) _ None tt tt
act-quiet u at (act.Notice p named) = if-quiet (side_of u at).fresh _ None tt tt

-- what it leaves of a subchannel that it is told to, and of the unit
pub record IsActed (sub : Subchannel) (u : UnitState) (t : DownResult) : Type 0 where
  pub sends : Option (OnPath Up)
  pub sub_is : t.sub ≡ with_any_up sub sends
  pub quiet : IfSome sends (λ x. IsQuiet x.signal)
  pub gentle : (side : Side) → IsGentle side u t.«unit»

pub if-ok : {A : Type 0} (P : A → Type 0) (b : Bool) (x y : Result A Fault) → IfOk x P → IfOk y P → IfOk (if b then x else y) P
if-ok P true x y e f = e
if-ok P false x y e f = f

taken-acted : (sub : Subchannel) (u : UnitState) (step : Option UnitStep) → IsQuietStep step → ((side : Side) → IsGentleStep side u step) → IfOk (report_taken sub step) (IsActed sub u)
taken-acted sub u None q g = tt
taken-acted sub u (Some step) q g =
    if-ok (IsActed sub u) (finds_full sub.wires.up (carried_by sub step.sent)) _ _ tt (record { sends = step.sent; sub_is = refl; quiet = q; gentle = g })

pub act-acted : (sub : Subchannel) (u : UnitState) (what : UnitAct) → IfOk (act_sub sub u what) (IsActed sub u)
act-acted sub u what =
    if-ok (IsActed sub u) (has_path_of_act sub what) (report_taken sub (acts u sub.setup.side what)) _
    (taken-acted sub u (acts u sub.setup.side what) (act-quiet u sub.setup.side what) (λ side. act-gentle side u sub.setup.side what)) tt

-- what is owed
pub owing-gentle : (side : Side) (owed : Bool) (u : UnitState) → IsGentle side u (owing owed u)
owing-gentle side owed u =
    of-still side u (owing owed u) (same-own side u (owing owed u) (same-sides side u (owing owed u) refl refl) refl refl) (inl refl)

-- a restart lets the device go
restarted-floor : (side : Side) (owed : Bool) (u : UnitState) → (side_of (owing owed (restarted u)) side).floor ≡ (side_of u side).floor
restarted-floor First owed u = refl
restarted-floor Second owed u = refl

pub restart-gentle : (side : Side) (owed : Bool) (u : UnitState) → IsGentle side u (owing owed (restarted u))
restart-gentle side owed u = record { floor = restarted-floor side owed u; owner = λ t e. absurd (cc e) }

-- the orders of a side
numbered-gentle : (side : Side) (drawn number : ℕ) (took : List ℕ) (u v : UnitState) → IsGentle side u v → IsNumbered side drawn number took u → IsNumbered side drawn number took v
numbered-gentle side drawn number took u v g k = record {
  fresh = λ f t e. let o = g.owner t e in k.fresh (sym o.fresh ∙ f) t o.owned;
  floor = subst (λ (n : ℕ). n ≤ drawn) (sym g.floor) k.floor;
  new = subst (λ (n : ℕ). n < number → took ≡ []) (sym g.floor) k.new;
  owned = λ t e. subst (λ (n : ℕ). t ≤ n) (sym g.floor) (k.owned t (g.owner t e).owned);
  named = λ t e. k.named t (g.owner t e).owned;
  last = λ e. let o = g.owner number e in o.last ∙ k.last o.owned;
}

pub ordered-gentle : (side : Side) (drawn number sent : ℕ) (codes took : List ℕ) (wires : List (List Down)) (u v : UnitState) → IsGentle side u v →
    IsOrdered side drawn number sent codes took wires u → IsOrdered side drawn number sent codes took wires v
ordered-gentle side drawn number sent codes took wires u v g k =
    record { later = k.later; order = k.order; most = k.most; downs = k.downs; kept = numbered-gentle side drawn number took u v g k.kept }

-- what is claimed of the command at hand, where it stays so as a Data is to be sent again
abbrev pub StaysMarked : (Option CurrentCommand → Type 0) → Type 0
StaysMarked P = (x : Option CurrentCommand) → P x → P (marked_again x)

pub gentle-held : (side : Side) (number : ℕ) (P : Option CurrentCommand → Type 0) (u v : UnitState) → IsGentle side u v → StaysMarked P → IsHeld side number P u → IsHeld side number P v
gentle-held side number P u v g marked h e =
    let o : StaysOwner side number u v = g.owner number e in
    elim o.hand [
      | inl same ↦ subst P (sym same) (h o.owned)
      | inr again ↦ subst P (sym again) (marked u.current (h o.owned))
    ]
