-- What is done at one side leaves the other.
use Rattle.std.proofs.Common.{◌≡◌, ℕ, ◌+◌, ◌&&◌, not, Bool, true, false, Option, None, Some, List, [], ◌∷◌, refl, sym, subst, ◌∙◌}
use Rattle.std.specs.Prelude.{Result, Ok, Err, OnOk, slice_get}
use Rattle.chan_model.specs.declared.fault.Fault.{Fault}
use Rattle.chan_model.specs.declared.names.Side.{Side}
use Rattle.chan_model.specs.declared.names.Side.TheVariants.{First, Second}
use Rattle.chan_model.specs.Reports.{Report}
use Rattle.chan_model.specs.declared.signal.OnPath.{OnPath}
use Rattle.chan_model.specs.Signals.{Down}
use Rattle.chan_model.specs.declared.unit_state.Attention.{Attention}
use Rattle.chan_model.specs.declared.unit_state.Own.{Own}
use Rattle.chan_model.specs.declared.unit_state.Own.TheVariants as own
use Rattle.chan_model.specs.declared.unit_state.Connection.TheVariants as connection
use Rattle.chan_model.specs.declared.unit_state.UnitState.{UnitState}
use Rattle.chan_model.specs.UnitTable.{unit_after, owns, is_idle, leaving, asking, attending, telling, noticing, side_of}
use Rattle.chan_model.specs.UnitReports.{unit_reports}
use Rattle.chan_model.proofs.OneSide.{one-side}
use Rattle.unit.specs.UnitWords.{LeavesOther}
use Rattle.unit.proofs.Apart.{leaves-same, leaves-program, leaves-changed, leaves-if, leaves-unit_takes, owns-other, apart}
use Rattle.agreement_laws.specs.Moving.{UnitAct, Leaves, Asks, Attends, Notices, Reports, unit_steps, is_owner_side}
use Rattle.agree.specs.declared.event.WorldEvent.{WorldEvent}
use Rattle.agree.specs.declared.event.WorldEvent.TheVariants as event
use Rattle.agree.specs.State.{LineState, WorldState, line_of, with_line}
use Rattle.agree.specs.Lines.{GivesResult, LineResult, acts_for, line_took_down, line_takes_down, line_chosen, line_let_go, line_sends, line_takes_up, loses_down, loses_up, goes_down, comes_up, is_cut, acts}
use Rattle.agreement_laws.specs.Moving as moving
use Rattle.agree.specs.Lines as line
use Rattle.agree.specs.Results.{WorldResult, at_side, at_world_unit, at_owner, both_of, on_path, path_named, world_result_of, world_result, state_after, world_after}
use Rattle.agree.specs.Promises.{IsApart, LeavesApart, EachApart}
use Rattle.agree.proofs.Making.{OnDone, counted-done, done-at_side, done-at_unit, done-at_owner, done-on_path, done-stepping}
use Rattle.agree.proofs.Reports.{at_report}

pub any-done : {S : Type 0} (P : S → Type 0) → ((s : S) → P s) → (r : Result S Fault) → OnDone P r
any-done P h (Ok s) = h s
any-done P h (Err f) = tt

-- a side that changed alone
sided-apart : (w : WorldState) (side : Side) (l : LineState) → IsApart side w (with_line w side l)
sided-apart w First l = record { «unit» = leaves-same First w.«unit»; line = refl }
sided-apart w Second l = record { «unit» = leaves-same Second w.«unit»; line = refl }

turn-apart : (w : WorldState) (side : Side) (turn : LineResult) → OnDone (IsApart side w) (at_side w side turn)
turn-apart w side turn = done-at_side (IsApart side w) w side turn (any-done _ (sided-apart w side) turn)

path-apart : (w : WorldState) (side : Side) (p : ℕ) (turn : ℕ → LineResult) → OnDone (IsApart side w) (on_path (path_named p) (λ q. at_side w side (turn q)))
path-apart w side p turn = done-on_path (IsApart side w) (path_named p) (λ q. at_side w side (turn q)) (λ q. turn-apart w side (turn q))

-- a side and its unit
united-apart : (w : WorldState) (side : Side) (l : LineState) (u : UnitState) → LeavesOther side w.«unit» u → IsApart side w (record (with_line w side l) { «unit» = u })
united-apart w First l u h = record { «unit» = h; line = refl }
united-apart w Second l u h = record { «unit» = h; line = refl }

abbrev pub Keeps : Side → UnitState → UnitAct → Type 0
Keeps side u act = LeavesOther side u (unit_after u (unit_steps u act))

acts-apart : (w : WorldState) (side : Side) (act : UnitAct) → Keeps side w.«unit» act → OnDone (IsApart side w) (at_world_unit w side (acts_for (both_of w side) act))
acts-apart w side act h =
    done-at_unit (IsApart side w) w side (acts_for (both_of w side) act)
    (done-stepping (λ b. IsApart side w (record (with_line w side b.line) { «unit» = b.«unit» })) (both_of w side) (unit_steps w.«unit» act) (united-apart w side _ _ h))

line_took_down-apart : (w : WorldState) (side : Side) (x : Option (OnPath Down)) (index : ℕ) (keep may : Bool) →
    OnDone (λ b. IsApart side w (record (with_line w side b.line) { «unit» = b.«unit» })) (line_took_down (both_of w side) side x index keep may)
line_took_down-apart w side None index keep may = tt
line_took_down-apart w side (Some x) index keep may = united-apart w side _ _ (leaves-unit_takes side w.«unit» x.path x.signal may)

-- what the unit does of itself
attention-leaves : (side : Side) (u : UnitState) (n : ℕ) (a : Option Attention) (b : Bool) → LeavesOther side u (record u { attentions = n; attention = a; end_owed = b })
attention-leaves First u n a b = record { kept = refl; owner = refl; program = λ h. record { own = refl; last_command = refl; current = refl; halted = refl } }
attention-leaves Second u n a b = record { kept = refl; owner = refl; program = λ h. record { own = refl; last_command = refl; current = refl; halted = refl } }

pub attends-leaves : (side : Side) (u : UnitState) (p : ℕ) → LeavesOther side u (unit_after u (attending u side p))
attends-leaves side u p = leaves-if side u (is_idle u.own && not (side_of u side).fresh) _ None (λ e. attention-leaves side u (u.attentions + 1) _ false) (leaves-same side u)

pub notices-leaves : (side : Side) (u : UnitState) (p : ℕ) → LeavesOther side u (unit_after u (noticing u side p))
notices-leaves side u p = leaves-if side u (side_of u side).fresh (telling u p) None (λ e. leaves-same side u) (leaves-same side u)

pub leaving-leaves : (side : Side) (u : UnitState) (o : Own) → owns u.own side ≡ true → owns o side ≡ true → LeavesOther side u (unit_after u (leaving u o))
leaving-leaves side u own.Idle e f = leaves-same side u
leaving-leaves side u (own.Owned k t (connection.On p c)) e f = leaves-program side u _ refl refl (owns-other u.own side e) (apart k side f)
leaving-leaves side u (own.Owned k t (connection.Ask p c)) e f = leaves-same side u
leaving-leaves side u (own.Owned k t (connection.Away c)) e f = leaves-same side u

pub asking-leaves : (side : Side) (u : UnitState) (o : Own) (p : ℕ) → owns u.own side ≡ true → owns o side ≡ true → LeavesOther side u (unit_after u (asking u o p))
asking-leaves side u own.Idle p e f = leaves-same side u
asking-leaves side u (own.Owned k t (connection.On q c)) p e f = leaves-same side u
asking-leaves side u (own.Owned k t (connection.Ask q c)) p e f = leaves-program side u _ refl refl (owns-other u.own side e) (apart k side f)
asking-leaves side u (own.Owned k t (connection.Away c)) p e f = leaves-program side u _ refl refl (owns-other u.own side e) (apart k side f)

pub report-leaves : (side : Side) (u : UnitState) (r : Report) → owns u.own side ≡ true → LeavesOther side u (unit_after u (unit_reports u r))
report-leaves side u r e =
    at_report (λ step. LeavesOther side u (unit_after u step)) u (leaves-same side u) (λ y sent le. leaves-changed side u (record u { current = Some y }) e refl refl refl) r

-- of the side whose program holds the device
abbrev OfOwner : WorldState → WorldState → Type 0
OfOwner w new = (side : Side) → owns w.«unit».own side ≡ true → IsApart side w new

pub owner-same : (o : Own) (side : Side) → owns o side ≡ is_owner_side o side
owner-same own.Idle side = refl
owner-same (own.Owned k t at) side = refl

owner-apart : (w : WorldState) (act : UnitAct) → ((side : Side) → owns w.«unit».own side ≡ true → Keeps side w.«unit» act) →
    OnDone (OfOwner w) (at_owner w w.«unit».own (λ side. at_world_unit w side (acts_for (both_of w side) act)))
owner-apart w act h =
    done-at_owner (OfOwner w) w w.«unit».own (λ side. at_world_unit w side (acts_for (both_of w side) act))
    (λ k is.
    done-at_unit (OfOwner w) w k (acts_for (both_of w k) act)
    (done-stepping (λ b. OfOwner w (record (with_line w k b.line) { «unit» = b.«unit» })) (both_of w k) (unit_steps w.«unit» act)
    (λ side e.
    let same : k ≡ side = one-side k side (sym (is side) ∙ (sym (owner-same w.«unit».own side) ∙ e)) in
    subst (λ (j : Side). IsApart side w (record (with_line w j (line.unit_stepped (both_of w j) (unit_steps w.«unit» act)).line) { «unit» = unit_after w.«unit» (unit_steps w.«unit» act) })) (sym same)
    (united-apart w side _ _ (h side e)))))

pub turn-leaves : (w : WorldState) (e : WorldEvent) → OnDone (LeavesApart w e) (world_result_of w e)
turn-leaves w (event.Choose side p single) = path-apart w side p (λ q. line_chosen (line_of w side) (line_of w side).link.hold.phase q single)
turn-leaves w (event.Down side index keep may) =
    done-at_unit (IsApart side w) w side (line_takes_down (both_of w side) side index keep may) (line_took_down-apart w side (slice_get (line_of w side).link.downs index) index keep may)
turn-leaves w (event.Up side index keep may) = turn-apart w side (line_takes_up (line_of w side) index keep may)
turn-leaves w (event.LoseDown side index) = turn-apart w side (loses_down (line_of w side) index)
turn-leaves w (event.LoseUp side index) = turn-apart w side (loses_up (line_of w side) index)
turn-leaves w (event.PathDown side p) = path-apart w side p (λ q. goes_down (line_of w side) q)
turn-leaves w (event.PathUp side p) = path-apart w side p (λ q. comes_up (line_of w side) q)
turn-leaves w (event.PathReset side p) = path-apart w side p (λ q. is_cut (line_of w side) q)
turn-leaves w (event.LetGo side) = turn-apart w side (line_let_go (line_of w side) (line_of w side).link.hold.phase)
turn-leaves w (event.Send side p signal) = path-apart w side p (λ q. line_sends (line_of w side) q signal)
turn-leaves w (event.Clear side) = sided-apart w side (acts (line_of w side) moving.Is_reset)
turn-leaves w event.SubsystemReset = tt
turn-leaves w event.Leave = owner-apart w Leaves (λ side e. leaving-leaves side w.«unit» w.«unit».own e e)
turn-leaves w (event.Ask p) =
    done-on_path (OfOwner w) (path_named p) (λ q. at_owner w w.«unit».own (λ side. at_world_unit w side (acts_for (both_of w side) (Asks q))))
    (λ q. owner-apart w (Asks q) (λ side e. asking-leaves side w.«unit» w.«unit».own q e e))
turn-leaves w (event.Attention side p) =
    done-on_path (IsApart side w) (path_named p) (λ q. at_world_unit w side (acts_for (both_of w side) (Attends side q)))
    (λ q. acts-apart w side (Attends side q) (attends-leaves side w.«unit» q))
turn-leaves w (event.Notice side p) =
    done-on_path (IsApart side w) (path_named p) (λ q. at_world_unit w side (acts_for (both_of w side) (Notices side q)))
    (λ q. acts-apart w side (Notices side q) (notices-leaves side w.«unit» q))
turn-leaves w event.Restart = tt
turn-leaves w (event.Report report) = owner-apart w (Reports report) (λ side e. report-leaves side w.«unit» report e)

-- neither the count of steps nor a refusal changes it
again-counted : (side : Side) (w new : WorldState) (n : ℕ) → IsApart side w new → IsApart side w (record new { steps = n })
again-counted First w new n h = record { «unit» = h.«unit»; line = h.line }
again-counted Second w new n h = record { «unit» = h.«unit»; line = h.line }

step-leaves : (w : WorldState) (e : WorldEvent) (new : WorldState) (n : ℕ) → LeavesApart w e new → LeavesApart w e (record new { steps = n })
step-leaves w (event.Choose side p single) new n h = again-counted side w new n h
step-leaves w (event.Down side index keep may) new n h = again-counted side w new n h
step-leaves w (event.Up side index keep may) new n h = again-counted side w new n h
step-leaves w (event.LoseDown side index) new n h = again-counted side w new n h
step-leaves w (event.LoseUp side index) new n h = again-counted side w new n h
step-leaves w (event.PathDown side p) new n h = again-counted side w new n h
step-leaves w (event.PathUp side p) new n h = again-counted side w new n h
step-leaves w (event.PathReset side p) new n h = again-counted side w new n h
step-leaves w (event.LetGo side) new n h = again-counted side w new n h
step-leaves w (event.Send side p signal) new n h = again-counted side w new n h
step-leaves w (event.Clear side) new n h = again-counted side w new n h
step-leaves w event.SubsystemReset new n h = tt
step-leaves w event.Leave new n h = λ side e. again-counted side w new n (h side e)
step-leaves w (event.Ask p) new n h = λ side e. again-counted side w new n (h side e)
step-leaves w (event.Attention side p) new n h = again-counted side w new n h
step-leaves w (event.Notice side p) new n h = again-counted side w new n h
step-leaves w event.Restart new n h = tt
step-leaves w (event.Report report) new n h = λ side e. again-counted side w new n (h side e)

same-apart : (side : Side) (w : WorldState) → IsApart side w w
same-apart First w = record { «unit» = leaves-same First w.«unit»; line = refl }
same-apart Second w = record { «unit» = leaves-same Second w.«unit»; line = refl }

none-leaves : (w : WorldState) (e : WorldEvent) → LeavesApart w e w
none-leaves w (event.Choose side p single) = same-apart side w
none-leaves w (event.Down side index keep may) = same-apart side w
none-leaves w (event.Up side index keep may) = same-apart side w
none-leaves w (event.LoseDown side index) = same-apart side w
none-leaves w (event.LoseUp side index) = same-apart side w
none-leaves w (event.PathDown side p) = same-apart side w
none-leaves w (event.PathUp side p) = same-apart side w
none-leaves w (event.PathReset side p) = same-apart side w
none-leaves w (event.LetGo side) = same-apart side w
none-leaves w (event.Send side p signal) = same-apart side w
none-leaves w (event.Clear side) = same-apart side w
none-leaves w event.SubsystemReset = tt
none-leaves w event.Leave = λ side e. same-apart side w
none-leaves w (event.Ask p) = λ side e. same-apart side w
none-leaves w (event.Attention side p) = same-apart side w
none-leaves w (event.Notice side p) = same-apart side w
none-leaves w event.Restart = tt
none-leaves w (event.Report report) = λ side e. same-apart side w

world-leaves : (w : WorldState) (e : WorldEvent) → OnDone (LeavesApart w e) (world_result w e)
world-leaves w e = counted-done (LeavesApart w e) (step-leaves w e) w e (turn-leaves w e)

state-leaves : (w : WorldState) (e : WorldEvent) (turn : WorldResult) → OnDone (LeavesApart w e) turn → LeavesApart w e (state_after w turn)
state-leaves w e (Ok new) h = h
state-leaves w e (Err f) h = none-leaves w e

pub after-leaves : (w : WorldState) (e : WorldEvent) → LeavesApart w e (world_after w e)
after-leaves w e = state-leaves w e (world_result w e) (world-leaves w e)

pub each-leaves : (w : WorldState) (es : List WorldEvent) → EachApart w es
each-leaves w [] = tt
each-leaves w (e ∷ es) = (after-leaves w e, each-leaves (world_after w e) es)

-- the same of a call that does as a turn says
pub given-leaves : {A : Type 0} → (w : WorldState) (e : WorldEvent) (new : WorldState) (r : Result A Fault) (reason : Type 0) → GivesResult w (world_result w e) reason r new → OnOk r (LeavesApart w e new)
given-leaves w e new (Ok done) reason given = subst (λ (x : WorldResult). OnDone (LeavesApart w e) x) given (world-leaves w e)
given-leaves w e new (Err f) reason given = tt
