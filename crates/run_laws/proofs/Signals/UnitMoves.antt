-- What a unit does with a signal, or of itself or for its device, told by where its program is connected.
use Rattle.std.proofs.Common.{◌≡◌, refl, sym, ◌∙◌, ap, subst, ℕ, ◌≤◌, ◌+◌, ◌==◌, ◌&&◌, nat_le, Bool, true, false, not, Option, None, Some, List, length, inl, inr, arith}
use Rattle.std.specs.Prelude.{◌⊎◌, if◌then◌else◌}
use Rattle.chan_model.specs.declared.names.Side.{Side}
use Rattle.chan_model.specs.declared.names.Side.TheVariants.{First, Second}
use Rattle.chan_model.specs.Reports.{DeviceAnswer, Report}
use Rattle.chan_model.specs.declared.report.DeviceAnswer.TheVariants as answer
use Rattle.chan_model.specs.Signals.{Down, Load}
use Rattle.chan_model.specs.declared.unit_state.CurrentCommand.{CurrentCommand}
use Rattle.chan_model.specs.declared.unit_state.Own.{Own}
use Rattle.chan_model.specs.declared.unit_state.Own.TheVariants as own
use Rattle.chan_model.specs.declared.unit_state.Connection.{Connection}
use Rattle.chan_model.specs.declared.unit_state.Connection.TheVariants as connection
use Rattle.chan_model.specs.declared.unit_state.Progress.{Progress}
use Rattle.chan_model.specs.declared.unit_state.Progress.TheVariants as progress
use Rattle.chan_model.specs.declared.unit_state.SideState.{SideState}
use Rattle.chan_model.specs.declared.unit_state.UnitState.{UnitState}
use Rattle.chan_model.specs.Sides.{same_side}
use Rattle.chan_model.specs.UnitReports.{is_outward, may_end, most_of, is_to_supply, answer_taken, report_on, report_of, unit_reports, report_absorbed, sent_again}
use Rattle.chan_model.specs.UnitTable.{UnitStep, unit_after, side_of, with_side, freed, raised, owns, telling, unit_takes, leaving_from, leaving, asking_from, asking, is_idle, reset_side, without_side}
use Rattle.chan_model.proofs.TakenSignals.{Takes, Ignores, Notices, Accepts, Denies, Begins, Joins, Leaves, Parts, Answers, Gives, Halts, Frees, Resets, Forgets, takes-by}
use Rattle.chan_events.specs.declared.event.UnitAct.{UnitAct}
use Rattle.chan_events.specs.declared.event.UnitAct.TheVariants as act
use Rattle.machine_model.specs.ActSteps.{acts}
use Rattle.agreement_laws.specs.PathsSeen.{Connected}
use Rattle.run_laws.proofs.Signals.Ties.{linked}
use Rattle.step_laws.specs.Walks.{IsOfSide}

-- where the program of a side is connected
abbrev pub on_connection : ℕ → Connection → Option Connected
on_connection t (connection.On p c) = Some (linked t p c)
on_connection t (connection.Ask p c) = None
on_connection t (connection.Away c) = None

abbrev pub on_side : Own → Side → Option Connected
on_side own.Idle side = None
on_side (own.Owned k t at) side = if same_side k side then on_connection t at else None

-- it stays there, or is connected no more
abbrev pub IsOff : Option Connected → Option Connected → Type 0
IsOff old new = (new ≡ old) ⊎ (new ≡ None)

abbrev pub floor_of : UnitState → Side → ℕ
floor_of u side = (side_of u side).floor

-- a unit as one of its sides sees it after a step that connects nothing there
pub record IsLess (u v : UnitState) (side : Side) : Type 0 where
  pub floor : floor_of u side ≤ floor_of v side
  pub off : IsOff (on_side u.own side) (on_side v.own side)

-- what a step at one side leaves of the other
abbrev pub IsKeptOwn : UnitState → UnitState → Side → Type 0
IsKeptOwn u v side = (v.own ≡ u.own) ⊎ ((v.own ≡ own.Idle) ⊎ ((t : ℕ) × (at : Connection) × (v.own ≡ own.Owned side t at)))

pub record IsOther (u v : UnitState) (side : Side) : Type 0 where
  pub floor : (j : Side) → same_side side j ≡ false → floor_of v j ≡ floor_of u j
  pub own : IsKeptOwn u v side

other-own : (u v : UnitState) (side j : Side) → same_side side j ≡ false → IsKeptOwn u v side → IsOff (on_side u.own j) (on_side v.own j)
other-own u v side j n (inl e) = inl (ap (λ (o : Own). on_side o j) e)
other-own u v side j n (inr (inl e)) = inr (ap (λ (o : Own). on_side o j) e)
other-own u v side j n (inr (inr h)) =
    inr (ap (λ (o : Own). on_side o j) h.2 ∙ ap (λ (b : Bool). if b then on_connection h.0 h.1 else None) n)

pub other-less : (u v : UnitState) (side j : Side) → IsOther u v side → same_side side j ≡ false → IsLess u v j
other-less u v side j k n = record { floor = let e : floor_of v j ≡ floor_of u j = k.floor j n in omega (arith, e); off = other-own u v side j n k.own }

abbrev Others : UnitState → Side → Option UnitStep → Type 0
Others u side step = IsOther u (unit_after u step) side

stays : (u : UnitState) (side : Side) → IsOther u u side
stays u side = record { floor = λ j n. refl; own = inl refl }

-- no more than what is at hand was changed
same-own : (u v : UnitState) (side : Side) → v.own ≡ u.own → v.first ≡ u.first → v.second ≡ u.second → IsOther u v side
same-own u v side e f g = record {
  floor = λ j n. elim j as (λ (k : Side). floor_of v k ≡ floor_of u k) [ First ↦ ap (λ (s : SideState). s.floor) f | Second ↦ ap (λ (s : SideState). s.floor) g ];
  own = inl e;
}

owns-now : (u v : UnitState) (side : Side) → v.first ≡ u.first → v.second ≡ u.second → IsKeptOwn u v side → IsOther u v side
owns-now u v side f g o = record {
  floor = λ j n. elim j as (λ (k : Side). floor_of v k ≡ floor_of u k) [ First ↦ ap (λ (s : SideState). s.floor) f | Second ↦ ap (λ (s : SideState). s.floor) g ];
  own = o;
}

if-others : (u : UnitState) (side : Side) (b : Bool) (x y : Option UnitStep) → (b ≡ true → Others u side x) → Others u side y → Others u side (if b then x else y)
if-others u side true x y e f = e refl
if-others u side false x y e f = f

side-floor : (u : UnitState) (side : Side) (s : SideState) (j : Side) → same_side side j ≡ false → floor_of (with_side u side s) j ≡ floor_of u j
side-floor u First s First n = absurd (cc n)
side-floor u First s Second n = refl
side-floor u Second s First n = refl
side-floor u Second s Second n = absurd (cc n)

pub side-own : (u : UnitState) (side : Side) (s : SideState) → (with_side u side s).own ≡ u.own
side-own u First s = refl
side-own u Second s = refl

pub here-floor : (u : UnitState) (side : Side) (s : SideState) → floor_of (with_side u side s) side ≡ s.floor
here-floor u First s = refl
here-floor u Second s = refl

pub freed-floor : (u : UnitState) (j : Side) → floor_of (freed u) j ≡ floor_of u j
freed-floor u First = refl
freed-floor u Second = refl

pub freed-side : (v : UnitState) (o : Own) (j : Side) → floor_of (record (freed v) { own = o }) j ≡ floor_of v j
freed-side v o First = refl
freed-side v o Second = refl

pub without-floor : (u : UnitState) (b : Bool) (j : Side) → floor_of (if b then freed u else u) j ≡ floor_of u j
without-floor u true j = freed-floor u j
without-floor u false j = refl

without-own : (u : UnitState) (b : Bool) (side : Side) → IsKeptOwn u (if b then freed u else u) side
without-own u true side = inr (inl refl)
without-own u false side = inl refl

kept-own : (u v w : UnitState) (side : Side) → w.own ≡ v.own → IsKeptOwn u v side → IsKeptOwn u w side
kept-own u v w side e (inl h) = inl (e ∙ h)
kept-own u v w side e (inr (inl h)) = inr (inl (e ∙ h))
kept-own u v w side e (inr (inr h)) = inr (inr (h.0, h.1, e ∙ h.2))

taken-others : (u : UnitState) (side : Side) (p : ℕ) (d : Down) (step : Option UnitStep) → Takes u side p d step → Others u side step
taken-others u side p _ _ (Ignores d) = stays u side
taken-others u side p _ _ (Notices d fresh) = stays u side
taken-others u side p _ _ (Accepts t above idle) = record {
  floor = λ j n. freed-side (raised u side t) (own.Owned side t (connection.On p 0)) j ∙ side-floor u side _ j n;
  own = inr (inr (t, connection.On p 0, refl));
}
taken-others u side p _ _ (Denies t above) = record { floor = λ j n. side-floor u side _ j n; own = inl (side-own u side _) }
taken-others u side p _ _ (Begins t n code room at is next) = same-own u _ side refl refl refl
taken-others u side p _ _ (Joins t c q is) = owns-now u _ side refl refl (inr (inr (t, connection.On q c, refl)))
taken-others u side p _ _ (Leaves t c at is) = stays u side
taken-others u side p _ _ (Parts t c q is) = owns-now u _ side refl refl (inr (inr (t, connection.Away c, refl)))
taken-others u side p _ _ (Answers t s room at x load is hand last loaded) = same-own u _ side refl refl refl
taken-others u side p _ _ (Gives bytes t c s q x is hand next) = same-own u _ side refl refl refl
taken-others u side p _ _ (Halts t at is first) = same-own u _ side refl refl refl
taken-others u side p _ _ (Frees t at is) = owns-now u (freed u) side refl refl (inr (inl refl))
taken-others u side p _ _ (Resets r b is) = record {
  floor = λ j n. side-floor (without_side u side) side _ j n ∙ without-floor u (owns u.own side) j;
  own = kept-own u (without_side u side) (reset_side u side r) side (side-own (without_side u side) side _) (without-own u (owns u.own side) side);
}
taken-others u side p _ _ (Forgets a) = same-own u _ side refl refl refl

pub takes-others : (u : UnitState) (side : Side) (p : ℕ) (d : Down) (may : Bool) → Others u side (unit_takes u side p d may)
takes-others u side p d may = taken-others u side p d _ (takes-by u side p d may)

-- reports change what is at hand
data-others : (u : UnitState) (side : Side) (x : CurrentCommand) → IsOther u (record u { current = Some x }) side
data-others u side x = same-own u _ side refl refl refl

absorbed-others : (u : UnitState) (side : Side) (p t c : ℕ) (x : CurrentCommand) (given : Option (List ℕ)) (count : ℕ) → Others u side (report_absorbed u p t c x given count)
absorbed-others u side p t c x None count = stays u side
absorbed-others u side p t c x (Some bytes) count = if-others u side (nat_le count (length bytes)) _ None (λ e. data-others u side _) (stays u side)

again-others : (u : UnitState) (side : Side) (p t c : ℕ) (x : CurrentCommand) (load : Option Load) → Others u side (sent_again u p t c x load)
again-others u side p t c x None = stays u side
again-others u side p t c x (Some load) = if-others u side x.again _ None (λ e. data-others u side _) (stays u side)

answer-others : (u : UnitState) (side : Side) (p t c : ℕ) (x : CurrentCommand) (at : Progress) (a : DeviceAnswer) → Others u side (answer_taken u p t c x at a)
answer-others u side p t c x at (answer.Ended status more) = if-others u side (may_end u.halted x at status more) _ None (λ e. data-others u side _) (stays u side)
answer-others u side p t c x progress.New answer.Begins = if-others u side (is_outward x.code) _ _ (λ e. data-others u side _) (data-others u side _)
answer-others u side p t c x progress.New (answer.Absorbed count) = stays u side
answer-others u side p t c x progress.New (answer.Supplied bytes) = stays u side
answer-others u side p t c x progress.New answer.Again = stays u side
answer-others u side p t c x progress.Working answer.Begins = stays u side
answer-others u side p t c x progress.Working (answer.Absorbed count) = absorbed-others u side p t c x x.unabsorbed count
answer-others u side p t c x progress.Working (answer.Supplied bytes) =
    if-others u side (is_to_supply x && nat_le (length bytes) (most_of x)) _ None (λ e. data-others u side _) (stays u side)
answer-others u side p t c x progress.Working answer.Again = again-others u side p t c x x.unanswered
answer-others u side p t c x progress.Ended answer.Begins = stays u side
answer-others u side p t c x progress.Ended (answer.Absorbed count) = stays u side
answer-others u side p t c x progress.Ended (answer.Supplied bytes) = stays u side
answer-others u side p t c x progress.Ended answer.Again = stays u side
answer-others u side p t c x progress.ChannelEnded other = stays u side

report_on-others : (u : UnitState) (side : Side) (t : ℕ) (at : Connection) (x : Option CurrentCommand) (r : Report) → Others u side (report_on u t at x r)
report_on-others u side t (connection.On p c) None r = stays u side
report_on-others u side t (connection.On p c) (Some x) r =
    if-others u side (r.sequence == x.sequence) (answer_taken u p t c x x.progress r.answer) None (λ e. answer-others u side p t c x x.progress r.answer) (stays u side)
report_on-others u side t (connection.Ask p c) x r = stays u side
report_on-others u side t (connection.Away c) x r = stays u side

report_of-others : (u : UnitState) (side : Side) (o : Own) (r : Report) → Others u side (report_of u o r)
report_of-others u side own.Idle r = stays u side
report_of-others u side (own.Owned k t at) r =
    if-others u side (same_side k r.side && ((r.number == t) && (r.command == u.last_command))) (report_on u t at u.current r) None
    (λ e. report_on-others u side t at u.current r) (stays u side)

pub reports-others : (u : UnitState) (side : Side) (r : Report) → Others u side (unit_reports u r)
reports-others u side r = report_of-others u side u.own r

-- acts
leaving_from-others : (u : UnitState) (side : Side) (t : ℕ) (at : Connection) → Others u side (leaving_from u side t at)
leaving_from-others u side t (connection.On p c) = owns-now u _ side refl refl (inr (inr (t, connection.Away c, refl)))
leaving_from-others u side t (connection.Ask p c) = stays u side
leaving_from-others u side t (connection.Away c) = stays u side

leaving-others : (u : UnitState) (o : Own) (side : Side) → ((k : Side) (t : ℕ) (at : Connection) → o ≡ own.Owned k t at → k ≡ side) → Others u side (leaving u o)
leaving-others u own.Idle side f = stays u side
leaving-others u (own.Owned k t at) side f = subst (λ (j : Side). IsOther u (unit_after u (leaving_from u k t at)) j) (f k t at refl) (leaving_from-others u k t at)

asking_from-others : (u : UnitState) (side : Side) (t : ℕ) (at : Connection) (p : ℕ) → Others u side (asking_from u side t at p)
asking_from-others u side t (connection.On q c) p = stays u side
asking_from-others u side t (connection.Ask q c) p = owns-now u _ side refl refl (inr (inr (t, connection.Ask p (c + 1), refl)))
asking_from-others u side t (connection.Away c) p = owns-now u _ side refl refl (inr (inr (t, connection.Ask p (c + 1), refl)))

asking-others : (u : UnitState) (o : Own) (side : Side) (p : ℕ) → ((k : Side) (t : ℕ) (at : Connection) → o ≡ own.Owned k t at → k ≡ side) → Others u side (asking u o p)
asking-others u own.Idle side p f = stays u side
asking-others u (own.Owned k t at) side p f = subst (λ (j : Side). IsOther u (unit_after u (asking_from u k t at p)) j) (f k t at refl) (asking_from-others u k t at p)

pub owner-of-act : (o : Own) (side : Side) → elim o [ own.Idle ↦ None | own.Owned k t at ↦ Some k ] ≡ Some side → (k : Side) (t : ℕ) (at : Connection) → o ≡ own.Owned k t at → k ≡ side
owner-of-act own.Idle side e k t at h = absurd (cc e)
owner-of-act (own.Owned j v x) side e k t at h = cc (sym (ap (λ (o : Own). elim o [ own.Idle ↦ None | own.Owned j v x ↦ Some j ]) h) ∙ e)

pub acts-others : (u : UnitState) (side : Side) (what : UnitAct) → IsOfSide u side what → Others u side (acts u side what)
acts-others u side act.Leave its = leaving-others u u.own side (owner-of-act u.own side its)
acts-others u side (act.Ask p) its = asking-others u u.own side p (owner-of-act u.own side its)
acts-others u side (act.Attention p named) its = if-others u side (is_idle u.own && not (side_of u side).fresh) _ None (λ e. same-own u _ side refl refl refl) (stays u side)
acts-others u side (act.Notice p named) its = if-others u side (side_of u side).fresh (telling u p) None (λ e. stays u side) (stays u side)
