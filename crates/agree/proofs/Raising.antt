-- How far an act of a unit raises its numbers.
use Rattle.std.proofs.Common.{◌≡◌, ℕ, ◌+◌, ◌≤◌, Bool, true, false, Option, None, Some, refl, ap, arith}
use Rattle.std.specs.Prelude.{if◌then◌else◌, not, ◌&&◌}
use Rattle.chan_model.specs.declared.names.Side.{Side}
use Rattle.chan_model.specs.declared.names.Side.TheVariants.{First, Second}
use Rattle.chan_model.specs.Reports.{Report}
use Rattle.chan_model.specs.Signals.{Down}
use Rattle.chan_model.specs.declared.unit_state.CurrentCommand.{CurrentCommand}
use Rattle.chan_model.specs.declared.unit_state.Own.{Own}
use Rattle.chan_model.specs.declared.unit_state.Own.TheVariants.{Idle, Owned}
use Rattle.chan_model.specs.declared.unit_state.Connection.{Connection}
use Rattle.chan_model.specs.declared.unit_state.Connection.TheVariants.{On, Ask, Away}
use Rattle.chan_model.specs.declared.unit_state.UnitState.{UnitState}
use Rattle.chan_model.proofs.TakenSignals.{Takes, Ignores, Accepts, Denies, Begins, Joins, Parts, Answers, Gives, Halts, Frees, Resets, Forgets, takes-by}
use Rattle.chan_model.proofs.TakenSignals as taken
use Rattle.chan_model.specs.UnitTable.{UnitStep, marked_again, unit_after, side_of, owns, is_idle, raised, telling, leaving, leaving_from, asking, asking_from, attending, freed, held, reset_side, without_side}
use Rattle.chan_model.specs.UnitReports.{unit_reports}
use Rattle.unit.specs.UnitWords.{connection_of, last_connection, last_sequence}
use Rattle.agreement_laws.specs.Moving.{UnitAct, Takes_down, Leaves, Asks, Attends, Restarts, Notices, Reports, unit_steps}
use Rattle.agree.specs.Bounds.{IsWorldUnitWithin}
use Rattle.agree.proofs.Reports.{at_report}

-- a unit whose numbers are at most one above those of another
pub record Raises (u v : UnitState) : Type 0 where
  pub restarts : v.restarts ≤ u.restarts + 1
  pub attentions : v.attentions ≤ u.attentions + 1
  pub connection : last_connection v.own ≤ last_connection u.own + 1
  pub sequence : last_sequence v.current ≤ last_sequence u.current + 1

abbrev pub RaisesBy : UnitState → Option UnitStep → Type 0
RaisesBy u s = Raises u (unit_after u s)

raises-same : (u : UnitState) → Raises u u
raises-same u = record { restarts = omega arith; attentions = omega arith; connection = omega arith; sequence = omega arith }

-- the same program at most, or none
raises-own : (u : UnitState) (v : UnitState) → v.restarts ≡ u.restarts → v.attentions ≡ u.attentions → last_connection v.own ≤ last_connection u.own + 1 →
    last_sequence v.current ≤ last_sequence u.current + 1 → Raises u v
raises-own u v r a c s = record { restarts = omega arith; attentions = omega arith; connection = c; sequence = s }

raises-alike : (u : UnitState) (v : UnitState) → v.restarts ≡ u.restarts → v.attentions ≡ u.attentions → v.own ≡ u.own →
    last_sequence v.current ≤ last_sequence u.current + 1 → Raises u v
raises-alike u v r a o s = raises-own u v r a (let e : last_connection v.own ≡ last_connection u.own = ap (λ (x : Own). last_connection x) o in omega arith) s

raises-if : (u : UnitState) (b : Bool) (s t : Option UnitStep) → RaisesBy u s → RaisesBy u t → RaisesBy u (if b then s else t)
raises-if u true s t h k = h
raises-if u false s t h k = k

none : (u : UnitState) → RaisesBy u None
none u = raises-same u

-- Reset: no program, or the same
without-raises : (u : UnitState) (b : Bool) → Raises u (if b then freed u else u)
without-raises u true = raises-own u _ refl refl (omega arith) (omega arith)
without-raises u false = raises-same u

reset-raises : (u : UnitState) (side : Side) (r : ℕ) → Raises u (reset_side u side r)
reset-raises u First r = let w : Raises u (without_side u First) = without-raises u (owns u.own First) in record { restarts = w.restarts; attentions = w.attentions; connection = w.connection; sequence = w.sequence }
reset-raises u Second r = let w : Raises u (without_side u Second) = without-raises u (owns u.own Second) in record { restarts = w.restarts; attentions = w.attentions; connection = w.connection; sequence = w.sequence }

-- Select: the new program has no connection yet
begun-raises : (u : UnitState) (side : Side) (t p : ℕ) → Raises u (held (raised u side t) side t p)
begun-raises u First t p = raises-own u _ refl refl (omega arith) (omega arith)
begun-raises u Second t p = raises-own u _ refl refl (omega arith) (omega arith)

raised-raises : (u : UnitState) (side : Side) (t : ℕ) → Raises u (raised u side t)
raised-raises u First t = raises-alike u _ refl refl refl (omega arith)
raised-raises u Second t = raises-alike u _ refl refl refl (omega arith)

-- Grant and Refuse: the connection asked for
placed-raises : (u : UnitState) (side : Side) (t : ℕ) (old new : Connection) → u.own ≡ Owned side t old → connection_of new ≡ connection_of old → Raises u (record u { own = Owned side t new })
placed-raises u side t old new is same =
    raises-own u _ refl refl (let e : last_connection u.own ≡ connection_of old = ap last_connection is in omega (arith, e, same)) (omega arith)

-- Took and Give: the same chunk, or the one that follows
hand-raises : (u : UnitState) (x y : CurrentCommand) → u.current ≡ Some x → y.sequence ≤ x.sequence + 1 → Raises u (record u { current = Some y })
hand-raises u x y hand le = raises-alike u _ refl refl refl (let e : last_sequence u.current ≡ x.sequence = ap last_sequence hand in omega (arith, e, le))

taken-raises : (u : UnitState) (side : Side) (p : ℕ) (d : Down) (step : Option UnitStep) → Takes u side p d step → RaisesBy u step
taken-raises u side p _ _ (Ignores d) = none u
taken-raises u side p _ _ (taken.Notices d fresh) = raises-same u
taken-raises u side p _ _ (Accepts t above idle) = begun-raises u side t p
taken-raises u side p _ _ (Denies t above) = raised-raises u side t
taken-raises u side p _ _ (Begins t n code room index is next) = raises-alike u _ refl refl refl (omega arith)
taken-raises u side p _ _ (Joins t c q is) = placed-raises u side t (Ask q c) (On q c) is refl
taken-raises u side p _ _ (taken.Leaves t c index is) = raises-same u
taken-raises u side p _ _ (Parts t c q is) = placed-raises u side t (Ask q c) (Away c) is refl
taken-raises u side p _ _ (Answers t s room index x load is hand last loaded) = hand-raises u x _ hand (omega arith)
taken-raises u side p _ _ (Gives bytes t c s q x is hand next) = hand-raises u x _ hand (omega (arith, next))
taken-raises u side p _ _ (Halts t index is first) = raises-alike u _ refl refl refl (omega arith)
taken-raises u side p _ _ (Frees t index is) = raises-own u _ refl refl (omega arith) (omega arith)
taken-raises u side p _ _ (Resets r b is) = reset-raises u side r
taken-raises u side p _ _ (Forgets a) = raises-alike u _ refl refl refl (omega arith)

-- what the unit does of itself
marked-sequence : (x : Option CurrentCommand) → last_sequence (marked_again x) ≤ last_sequence x + 1
marked-sequence None = omega arith
marked-sequence (Some x) = omega arith

leaving_from-raises : (u : UnitState) (side : Side) (t : ℕ) (connection : Connection) → connection_of connection ≤ last_connection u.own → RaisesBy u (leaving_from u side t connection)
leaving_from-raises u side t (On p c) le = raises-own u _ refl refl (omega arith) (marked-sequence u.current)
leaving_from-raises u side t (Ask p c) le = none u
leaving_from-raises u side t (Away c) le = none u

leaving-raises : (u : UnitState) (o : Own) → last_connection o ≤ last_connection u.own → RaisesBy u (leaving u o)
leaving-raises u Idle le = none u
leaving-raises u (Owned side t connection) le = leaving_from-raises u side t connection le

asking_from-raises : (u : UnitState) (side : Side) (t : ℕ) (connection : Connection) (p : ℕ) → connection_of connection ≤ last_connection u.own → RaisesBy u (asking_from u side t connection p)
asking_from-raises u side t (On q c) p le = none u
asking_from-raises u side t (Ask q c) p le = raises-own u _ refl refl (omega arith) (omega arith)
asking_from-raises u side t (Away c) p le = raises-own u _ refl refl (omega arith) (omega arith)

asking-raises : (u : UnitState) (o : Own) (p : ℕ) → last_connection o ≤ last_connection u.own → RaisesBy u (asking u o p)
asking-raises u Idle p le = none u
asking-raises u (Owned side t connection) p le = asking_from-raises u side t connection p le

attending-raises : (u : UnitState) (side : Side) (p : ℕ) → RaisesBy u (attending u side p)
attending-raises u side p =
    raises-if u (is_idle u.own && not (side_of u side).fresh) _ None (record { restarts = omega arith; attentions = omega arith; connection = omega arith; sequence = omega arith }) (none u)

-- a report
report-raises : (u : UnitState) (r : Report) → RaisesBy u (unit_reports u r)
report-raises u r = at_report (RaisesBy u) u (none u) (λ y sent le. raises-alike u _ refl refl refl le) r

-- each act
act-raises : (u : UnitState) (act : UnitAct) → RaisesBy u (unit_steps u act)
act-raises u (Takes_down side x may) = taken-raises u side x.path x.signal _ (takes-by u side x.path x.signal may)
act-raises u Leaves = leaving-raises u u.own (omega arith)
act-raises u (Asks p) = asking-raises u u.own p (omega arith)
act-raises u (Attends side p) = attending-raises u side p
act-raises u Restarts = record { restarts = omega arith; attentions = omega arith; connection = omega arith; sequence = omega arith }
act-raises u (Notices side p) = raises-if u (side_of u side).fresh (telling u p) None (raises-same u) (none u)
act-raises u (Reports report) = report-raises u report

pub act-within : (n : ℕ) (u : UnitState) (act : UnitAct) → IsWorldUnitWithin n u → IsWorldUnitWithin (n + 1) (unit_after u (unit_steps u act))
act-within n u act h =
    let r : Raises u (unit_after u (unit_steps u act)) = act-raises u act in
    record {
      restarts = omega (arith, r.restarts, h.restarts);
      attentions = omega (arith, r.attentions, h.attentions);
      connection = omega (arith, r.connection, h.connection);
      sequence = omega (arith, r.sequence, h.sequence);
    }
