-- What a unit sends to the side of a signal that it takes, or that its program is of, told by where its program is connected.
use Rattle.std.proofs.Common.{◌≡◌, refl, sym, ◌∙◌, ap, subst, ℕ, ◌<◌, ◌+◌, ◌==◌, ◌&&◌, nat_le, Bool, true, false, not, Option, None, Some, List, length, inl, inr, arith}
use Rattle.std.specs.Prelude.{if◌then◌else◌}
use Rattle.std.proofs.lemmas.Bool.{and_parts}
use Rattle.scsw_irb.specs.declared.status.DeviceStatus.{DeviceStatus}
use Rattle.chan_model.specs.declared.names.Side.{Side}
use Rattle.chan_model.specs.declared.names.Side.TheVariants.{First, Second}
use Rattle.chan_model.specs.Reports.{DeviceAnswer, Report}
use Rattle.chan_model.specs.declared.report.DeviceAnswer.TheVariants as answer
use Rattle.chan_model.specs.Signals.{Down, Load, Up}
use Rattle.chan_model.specs.declared.signal.Down.TheVariants as down
use Rattle.chan_model.specs.declared.signal.OnPath.{OnPath}
use Rattle.chan_model.specs.declared.signal.Up.TheVariants as up
use Rattle.chan_model.specs.declared.unit_state.CurrentCommand.{CurrentCommand}
use Rattle.chan_model.specs.declared.unit_state.Attention.{Attention}
use Rattle.chan_model.specs.declared.unit_state.Own.{Own}
use Rattle.chan_model.specs.declared.unit_state.Own.TheVariants as own
use Rattle.chan_model.specs.declared.unit_state.Connection.{Connection}
use Rattle.chan_model.specs.declared.unit_state.Connection.TheVariants as connection
use Rattle.chan_model.specs.declared.unit_state.Progress.{Progress}
use Rattle.chan_model.specs.declared.unit_state.Progress.TheVariants as progress
use Rattle.chan_model.specs.declared.unit_state.UnitState.{UnitState}
use Rattle.chan_model.specs.Sides.{same_side}
use Rattle.chan_model.specs.UnitReports.{is_outward, may_end, most_of, is_to_supply, answer_taken, report_on, report_of, unit_reports, report_absorbed, sent_again}
use Rattle.chan_model.specs.UnitTable.{UnitStep, outcome_of, unit_after, side_of, freed, raised, owns, telling, unit_takes, leaving_from, leaving, asking_from, asking, is_idle, marked_again, new_command, current_answered, with_given, reset_side, without_side}
use Rattle.chan_model.proofs.TakenSignals as taken
use Rattle.agreement_laws.proofs.SeenSignals.{IsResetAbove}
use Rattle.chan_events.specs.declared.event.UnitAct.{UnitAct}
use Rattle.chan_events.specs.declared.event.UnitAct.TheVariants as act
use Rattle.machine_model.specs.ActSteps.{acts}
use Rattle.chan_model.proofs.OneSide.{same-side}
use Rattle.step_laws.specs.Walks.{IsOfSide}
use Rattle.agreement_laws.specs.PathsSeen.{Connected}
use Rattle.run_laws.proofs.Signals.Meets.{IsPlainUp}
use Rattle.run_laws.proofs.Signals.Ties.{linked}
use Rattle.run_laws.proofs.Signals.UnitMoves.{on_connection, on_side, IsOff, floor_of, IsLess, side-own, here-floor, freed-floor, freed-side, owner-of-act}

abbrev pub ArePlainUp : Option (OnPath Up) → Type 0
ArePlainUp None = Unit {0}
ArePlainUp (Some s) = IsPlainUp s.signal

-- of this program, and of this connection
abbrev pub IsOfConnection : ℕ → ℕ → Up → Type 0
IsOfConnection t c (up.Data load u d n s) = (u ≡ t) × (d ≡ c)
IsOfConnection t c (up.End u n status more) = u ≡ t
IsOfConnection t c x = ⊥

abbrev pub sends_up : ℕ → Up → Option (OnPath Up)
sends_up p x = Some (record { path = p; signal = x })

-- a signal is taken that came down by p
pub data Takes (side : Side) (u : UnitState) (p : ℕ) : Down → Option (OnPath Up) → UnitState → Type 0 where
  Rests : (d : Down) (sent : Option (OnPath Up)) (v : UnitState) → ArePlainUp sent → IsLess u v side → Takes side u p d sent v
  Accepts : (t : ℕ) (v : UnitState) → floor_of u side < t → floor_of v side ≡ t → on_side v.own side ≡ Some (linked t p 0) →
      Takes side u p (down.Select t) (sends_up p (up.Accept t)) v
  Joins : (t c q : ℕ) (v : UnitState) → floor_of v side ≡ floor_of u side → on_side v.own side ≡ Some (linked t q c) → Takes side u p (down.Grant t c) None v
  Answers : (t c : ℕ) → Takes side u p (down.Grant t c) (sends_up p (up.Leave t c)) u

-- the unit does something of itself or for its device
pub data Acts (side : Side) (u : UnitState) : Option (OnPath Up) → UnitState → Type 0 where
  Idles : (sent : Option (OnPath Up)) (v : UnitState) → ArePlainUp sent → IsLess u v side → Acts side u sent v
  Leaves : (t p c : ℕ) (v : UnitState) → on_side u.own side ≡ Some (linked t p c) → floor_of v side ≡ floor_of u side → on_side v.own side ≡ None →
      Acts side u (sends_up p (up.Leave t c)) v
  Sends : (t p c : ℕ) (x : Up) (v : UnitState) → IsOfConnection t c x → on_side u.own side ≡ Some (linked t p c) → floor_of v side ≡ floor_of u side →
      on_side v.own side ≡ on_side u.own side → Acts side u (sends_up p x) v

abbrev TakesIn : Side → UnitState → ℕ → Down → Option UnitStep → Type 0
TakesIn side u p d step = Takes side u p d (outcome_of step).sent (unit_after u step)

abbrev ActsOut : Side → UnitState → Option UnitStep → Type 0
ActsOut side u step = Acts side u (outcome_of step).sent (unit_after u step)

if-acts : (side : Side) (u : UnitState) (b : Bool) (x y : Option UnitStep) → (b ≡ true → ActsOut side u x) → ActsOut side u y → ActsOut side u (if b then x else y)
if-acts side u true x y e f = e refl
if-acts side u false x y e f = f

-- nothing of it was changed, or no more than what is at hand
still : (u : UnitState) (side : Side) → IsLess u u side
still u side = record { floor = omega arith; off = inl refl }

less : (u v : UnitState) (side : Side) → v.own ≡ u.own → floor_of v side ≡ floor_of u side → IsLess u v side
less u v side o f = record { floor = omega (arith, f); off = inl (ap (λ (x : Own). on_side x side) o) }

off : (u v : UnitState) (side : Side) → floor_of v side ≡ floor_of u side → on_side v.own side ≡ None → IsLess u v side
off u v side f o = record { floor = omega (arith, f); off = inr o }

hand-floor : (u : UnitState) (x : Option CurrentCommand) (side : Side) → floor_of (record u { current = x }) side ≡ floor_of u side
hand-floor u x First = refl
hand-floor u x Second = refl

idles : (side : Side) (u : UnitState) → ActsOut side u None
idles side u = Idles None u tt (still u side)

own-floor : (u : UnitState) (o : Own) (side : Side) → floor_of (record u { own = o }) side ≡ floor_of u side
own-floor u o First = refl
own-floor u o Second = refl

on-owned : (side : Side) (t : ℕ) (at : Connection) → on_side (own.Owned side t at) side ≡ on_connection t at
on-owned side t at = ap (λ (b : Bool). if b then on_connection t at else None) (same-side side)

commanded-floor : (u : UnitState) (n : ℕ) (x : Option CurrentCommand) (side : Side) → floor_of (record u { last_command = n; current = x }) side ≡ floor_of u side
commanded-floor u n x First = refl
commanded-floor u n x Second = refl

halted-floor : (u : UnitState) (b : Bool) (side : Side) → floor_of (record u { halted = b }) side ≡ floor_of u side
halted-floor u b First = refl
halted-floor u b Second = refl

attention-floor : (u : UnitState) (x : Option Attention) (side : Side) → floor_of (record u { attention = x }) side ≡ floor_of u side
attention-floor u x First = refl
attention-floor u x Second = refl

-- a Reset that is taken raises the floor
without-off : (u : UnitState) (side : Side) (b : Bool) → IsOff (on_side u.own side) (on_side (if b then freed u else u).own side)
without-off u side true = inr refl
without-off u side false = inl refl

off-as : (o : Option Connected) (a b : Own) (side : Side) → b ≡ a → IsOff o (on_side a side) → IsOff o (on_side b side)
off-as o a b side e k = subst (λ (x : Own). IsOff o (on_side x side)) (sym e) k

reset-rests : (side : Side) (u : UnitState) (p r b : ℕ) → floor_of u side < r → Takes side u p (down.Reset r b) (sends_up p (up.Cleared r)) (reset_side u side r)
reset-rests side u p r b above =
    Rests (down.Reset r b) _ (reset_side u side r) tt
    (record {
      floor = let f : floor_of (reset_side u side r) side ≡ r = here-floor (without_side u side) side _ in omega (arith, f, above);
      off = off-as (on_side u.own side) (without_side u side).own _ side (side-own (without_side u side) side _) (without-off u side (owns u.own side));
    })

taken-takes : (side : Side) (u : UnitState) (p : ℕ) (d : Down) (step : Option UnitStep) → IsResetAbove u side d → taken.Takes u side p d step → TakesIn side u p d step
taken-takes side u p _ _ above (taken.Ignores d) = Rests d None u tt (still u side)
taken-takes side u p _ _ above (taken.Notices d fresh) = Rests d _ u tt (still u side)
taken-takes side u p _ _ above (taken.Accepts t high idle) =
    Accepts t _ high (freed-side (raised u side t) (own.Owned side t (connection.On p 0)) side ∙ here-floor u side _) (on-owned side t (connection.On p 0))
taken-takes side u p _ _ above (taken.Denies t high) =
    Rests _ _ (raised u side t) tt
    (record { floor = let f : floor_of (raised u side t) side ≡ t = here-floor u side _ in omega (arith, f, high); off = inl (ap (λ (x : Own). on_side x side) (side-own u side _)) })
taken-takes side u p _ _ above (taken.Begins t n code room at is next) = Rests _ None _ tt (less u _ side refl (commanded-floor u n (Some (new_command p code room)) side))
taken-takes side u p _ _ above (taken.Joins t c q is) = Joins t c q _ (own-floor u (own.Owned side t (connection.On q c)) side) (on-owned side t (connection.On q c))
taken-takes side u p _ _ above (taken.Leaves t c at is) = Answers t c
taken-takes side u p _ _ above (taken.Parts t c q is) = Rests _ None _ tt (off u _ side (own-floor u (own.Owned side t (connection.Away c)) side) (on-owned side t (connection.Away c)))
taken-takes side u p _ _ above (taken.Answers t s room at x load is hand last loaded) =
    Rests _ None _ tt (less u _ side refl (hand-floor u (Some (current_answered x load room)) side))
taken-takes side u p _ _ above (taken.Gives bytes t c s q x is hand next) = Rests _ None _ tt (less u _ side refl (hand-floor u (Some (with_given x s bytes)) side))
taken-takes side u p _ _ above (taken.Halts t at is first) = Rests _ None _ tt (less u _ side refl (halted-floor u true side))
taken-takes side u p _ _ above (taken.Frees t at is) = Rests _ _ (freed u) tt (off u (freed u) side (freed-floor u side) refl)
taken-takes side u p _ _ above (taken.Resets r b is) = reset-rests side u p r b (above r b refl is)
taken-takes side u p _ _ above (taken.Forgets a) = Rests _ None _ tt (less u _ side refl (attention-floor u None side))

pub takes-takes : (side : Side) (u : UnitState) (p : ℕ) (d : Down) (may : Bool) → IsResetAbove u side d → TakesIn side u p d (unit_takes u side p d may)
takes-takes side u p d may above = taken-takes side u p d _ above (taken.takes-by u side p d may)

-- reports, where the program t of this side is on p by the connection c
abbrev IsOn : UnitState → Side → ℕ → ℕ → ℕ → Type 0
IsOn u side t p c = on_side u.own side ≡ Some (linked t p c)

data-sends : (side : Side) (u : UnitState) (p t c n s : ℕ) (x : CurrentCommand) (load : Load) → IsOn u side t p c → Acts side u (sends_up p (up.Data load t c n s)) (record u { current = Some x })
data-sends side u p t c n s x load on = Sends t p c (up.Data load t c n s) _ (refl, refl) on (hand-floor u (Some x) side) refl

hand-acts : (side : Side) (u : UnitState) (x : CurrentCommand) → Acts side u None (record u { current = Some x })
hand-acts side u x = Idles None _ tt (less u _ side refl (hand-floor u (Some x) side))

absorbed-acts : (side : Side) (u : UnitState) (p t c : ℕ) (x : CurrentCommand) (given : Option (List ℕ)) (count : ℕ) → IsOn u side t p c → ActsOut side u (report_absorbed u p t c x given count)
absorbed-acts side u p t c x None count on = idles side u
absorbed-acts side u p t c x (Some bytes) count on = if-acts side u (nat_le count (length bytes)) _ None (λ e. data-sends side u p t c _ _ _ _ on) (idles side u)

again-acts : (side : Side) (u : UnitState) (p t c : ℕ) (x : CurrentCommand) (load : Option Load) → IsOn u side t p c → ActsOut side u (sent_again u p t c x load)
again-acts side u p t c x None on = idles side u
again-acts side u p t c x (Some load) on = if-acts side u x.again _ None (λ e. data-sends side u p t c _ _ _ _ on) (idles side u)

end-acts : (side : Side) (u : UnitState) (p t c : ℕ) (x : CurrentCommand) (n : ℕ) (status : DeviceStatus) (more : Bool) → IsOn u side t p c →
    Acts side u (sends_up p (up.End t n status more)) (record u { current = Some x })
end-acts side u p t c x n status more on = Sends t p c (up.End t n status more) _ refl on (hand-floor u (Some x) side) refl

answer-acts : (side : Side) (u : UnitState) (p t c : ℕ) (x : CurrentCommand) (at : Progress) (a : DeviceAnswer) → IsOn u side t p c → ActsOut side u (answer_taken u p t c x at a)
answer-acts side u p t c x at (answer.Ended status more) on = if-acts side u (may_end u.halted x at status more) _ None (λ e. end-acts side u p t c _ _ _ _ on) (idles side u)
answer-acts side u p t c x progress.New answer.Begins on = if-acts side u (is_outward x.code) _ _ (λ e. data-sends side u p t c _ _ _ _ on) (hand-acts side u _)
answer-acts side u p t c x progress.New (answer.Absorbed count) on = idles side u
answer-acts side u p t c x progress.New (answer.Supplied bytes) on = idles side u
answer-acts side u p t c x progress.New answer.Again on = idles side u
answer-acts side u p t c x progress.Working answer.Begins on = idles side u
answer-acts side u p t c x progress.Working (answer.Absorbed count) on = absorbed-acts side u p t c x x.unabsorbed count on
answer-acts side u p t c x progress.Working (answer.Supplied bytes) on =
    if-acts side u (is_to_supply x && nat_le (length bytes) (most_of x)) _ None (λ e. data-sends side u p t c _ _ _ _ on) (idles side u)
answer-acts side u p t c x progress.Working answer.Again on = again-acts side u p t c x x.unanswered on
answer-acts side u p t c x progress.Ended answer.Begins on = idles side u
answer-acts side u p t c x progress.Ended (answer.Absorbed count) on = idles side u
answer-acts side u p t c x progress.Ended (answer.Supplied bytes) on = idles side u
answer-acts side u p t c x progress.Ended answer.Again on = idles side u
answer-acts side u p t c x progress.ChannelEnded other on = idles side u

owned-on : (u : UnitState) (side k : Side) (t : ℕ) (at : Connection) → u.own ≡ own.Owned k t at → same_side k side ≡ true → on_side u.own side ≡ on_connection t at
owned-on u side k t at e s = ap (λ (o : Own). on_side o side) e ∙ ap (λ (b : Bool). if b then on_connection t at else None) s

report_on-acts : (side : Side) (u : UnitState) (t : ℕ) (at : Connection) (x : Option CurrentCommand) (r : Report) → on_side u.own side ≡ on_connection t at → ActsOut side u (report_on u t at x r)
report_on-acts side u t (connection.On p c) None r on = idles side u
report_on-acts side u t (connection.On p c) (Some x) r on =
    if-acts side u (r.sequence == x.sequence) (answer_taken u p t c x x.progress r.answer) None (λ e. answer-acts side u p t c x x.progress r.answer on) (idles side u)
report_on-acts side u t (connection.Ask p c) x r on = idles side u
report_on-acts side u t (connection.Away c) x r on = idles side u

report_of-acts : (u : UnitState) (o : Own) (r : Report) → u.own ≡ o → ActsOut r.side u (report_of u o r)
report_of-acts u own.Idle r e = idles r.side u
report_of-acts u (own.Owned k t at) r e =
    if-acts r.side u (same_side k r.side && ((r.number == t) && (r.command == u.last_command))) (report_on u t at u.current r) None
    (λ h. report_on-acts r.side u t at u.current r (owned-on u r.side k t at e (and_parts (same_side k r.side) ((r.number == t) && (r.command == u.last_command)) h).0))
    (idles r.side u)

pub reports-acts : (u : UnitState) (r : Report) → ActsOut r.side u (unit_reports u r)
reports-acts u r = report_of-acts u u.own r refl

-- acts
leaving-floor : (u : UnitState) (o : Own) (x : Option CurrentCommand) (side : Side) → floor_of (record u { own = o; current = x }) side ≡ floor_of u side
leaving-floor u o x First = refl
leaving-floor u o x Second = refl

leaving_from-acts : (side : Side) (u : UnitState) (t : ℕ) (at : Connection) → u.own ≡ own.Owned side t at → ActsOut side u (leaving_from u side t at)
leaving_from-acts side u t (connection.On p c) e =
    Leaves t p c _ (owned-on u side side t (connection.On p c) e (same-side side)) (leaving-floor u (own.Owned side t (connection.Away c)) (marked_again u.current) side) (on-owned side t (connection.Away c))
leaving_from-acts side u t (connection.Ask p c) e = idles side u
leaving_from-acts side u t (connection.Away c) e = idles side u

leaving-acts : (side : Side) (u : UnitState) (o : Own) → u.own ≡ o → ((k : Side) (t : ℕ) (at : Connection) → o ≡ own.Owned k t at → k ≡ side) → ActsOut side u (leaving u o)
leaving-acts side u own.Idle e f = idles side u
leaving-acts side u (own.Owned k t at) e f = subst (λ (j : Side). ActsOut j u (leaving_from u k t at)) (f k t at refl) (leaving_from-acts k u t at e)

asking_from-acts : (side : Side) (u : UnitState) (t : ℕ) (at : Connection) (p : ℕ) → ActsOut side u (asking_from u side t at p)
asking_from-acts side u t (connection.On q c) p = idles side u
asking_from-acts side u t (connection.Ask q c) p =
    Idles _ _ tt (off u _ side (own-floor u (own.Owned side t (connection.Ask p (c + 1))) side) (on-owned side t (connection.Ask p (c + 1))))
asking_from-acts side u t (connection.Away c) p =
    Idles _ _ tt (off u _ side (own-floor u (own.Owned side t (connection.Ask p (c + 1))) side) (on-owned side t (connection.Ask p (c + 1))))

asking-acts : (side : Side) (u : UnitState) (o : Own) (p : ℕ) → ((k : Side) (t : ℕ) (at : Connection) → o ≡ own.Owned k t at → k ≡ side) → ActsOut side u (asking u o p)
asking-acts side u own.Idle p f = idles side u
asking-acts side u (own.Owned k t at) p f = subst (λ (j : Side). ActsOut j u (asking_from u k t at p)) (f k t at refl) (asking_from-acts k u t at p)

asks-floor : (u : UnitState) (n : ℕ) (x : Option Attention) (b : Bool) (side : Side) → floor_of (record u { attentions = n; attention = x; end_owed = b }) side ≡ floor_of u side
asks-floor u n x b First = refl
asks-floor u n x b Second = refl

pub acts-acts : (side : Side) (u : UnitState) (what : UnitAct) → IsOfSide u side what → ActsOut side u (acts u side what)
acts-acts side u act.Leave its = leaving-acts side u u.own refl (owner-of-act u.own side its)
acts-acts side u (act.Ask p) its = asking-acts side u u.own p (owner-of-act u.own side its)
acts-acts side u (act.Attention p named) its =
    if-acts side u (is_idle u.own && not (side_of u side).fresh) _ None
    (λ e. Idles _ _ tt (less u _ side refl (asks-floor u (u.attentions + 1) (Some (record { number = u.attentions + 1; side = side })) false side))) (idles side u)
acts-acts side u (act.Notice p named) its = if-acts side u (side_of u side).fresh (telling u p) None (λ e. Idles _ u tt (still u side)) (idles side u)
