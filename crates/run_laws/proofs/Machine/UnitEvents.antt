-- What an event leaves of a subchannel and its unit follows from what held of the unit and its links.
use Rattle.std.proofs.Common.{◌≡◌, refl, sym, ◌∙◌, ap, subst, ℕ, ◌==◌, ◌&&◌, Bool, true, false, nat_lt, length, Option, None, Some, Result, List, inl, inr}
use Rattle.std.specs.Prelude.{◌⊎◌, ◌≢◌, if◌then◌else◌, slice_get, All, IfOk, IfSome, Contains}
use Rattle.chan_model.specs.declared.fault.Fault.{Fault}
use Rattle.chan_model.specs.declared.names.Side.{Side}
use Rattle.chan_model.specs.declared.names.Side.TheVariants.{First, Second}
use Rattle.chan_model.specs.Reports.{Report}
use Rattle.chan_events.specs.Replies.{Reply}
use Rattle.chan_events.specs.declared.reply.Reply.TheVariants as reply
use Rattle.chan_events.specs.declared.event.UnitAct as told_act
use Rattle.chan_events.specs.declared.event.UnitAct.TheVariants as act
use Rattle.chan_model.specs.Signals.{Down, Up}
use Rattle.chan_model.specs.declared.signal.OnPath.{OnPath}
use Rattle.chan_model.specs.declared.signal.Up.TheVariants as up
use Rattle.chan_model.specs.declared.unit_state.Own.{Own}
use Rattle.chan_model.specs.declared.unit_state.Own.TheVariants as own
use Rattle.chan_model.specs.declared.unit_state.UnitState.{UnitState}
use Rattle.chan_model.specs.Sides.{same_side}
use Rattle.chan_model.specs.UnitTable as unit_table
use Rattle.chan_model.specs.UnitTable.{UnitStep, resets, unit_takes, unit_after, leaving, asking, attending, noticing}
use Rattle.chan_model.specs.UnitReports.{unit_reports, report_on, report_of}
use Rattle.wires.specs.Queues.{queue, taken}
use Rattle.agreement_laws.specs.Claims.{IsPassed, IsResetDue, DoAgree, IsReset, IsTakenBy}
use Rattle.run_laws.specs.Agreeing.{IsEnd}
use Rattle.chan_model.specs.declared.signal.Down.TheVariants as down
use Rattle.chan_model.specs.declared.hold_state.HoldState.{HoldState}
use Rattle.chan_model.specs.declared.hold_state.HoldPhase.TheVariants as hold
use Rattle.chan_model.specs.declared.hold_state.HoldPhase.{HoldPhase}
use Rattle.agreement_laws.specs.Links.{Link, Links, link_of, with_accepted}
use Rattle.agreement_laws.specs.Moving.{UnitAct, Takes_down, Reports, unit_steps, is_to, is_owner_side, sent_by, sent_to, up_sent, Unit_acts, IsUnitGiven, LinksStep}
use Rattle.agreement_laws.specs.Moving as moving
use Rattle.agreement_laws.specs.Invariant.{IsGood}
use Rattle.subchannel_model.specs.declared.state.Subchannel.{Subchannel}
use Rattle.machine_model.specs.Results.{DownResult}
use Rattle.subchannel_model.specs.Sending.{carried_by, with_any_sent, finds_full}
use Rattle.machine_model.specs.DownSteps.{down_front, down_sub}
use Rattle.machine_model.specs.ReportSteps.{report_taken, report_sub}
use Rattle.machine_model.specs.ActSteps.{has_path_of_act, acts, act_sub, owner_side}
use Rattle.machine_model.specs.Sharing.{owing}
use Rattle.run_laws.proofs.Machine.Growth.{one-wider, one-within, Covers, covers-taken, covers-sent, carried-if, covers-wider, covers-first, IsLink, IsWider, told, told-step, AreLaws, IsReached, links_of}
use Rattle.run_laws.specs.Beginnings.{StartCounts, with_taken}
use Rattle.run_laws.proofs.Machine.Tales.{IsAccepted, IsTold, told-wider}
use Rattle.run_laws.proofs.Machine.TraceEvents.{takes-of, accepted-wider, Wide, taken-told, AreBusyPassed, Tells}
use Rattle.run_laws.proofs.Machine.HoldEvents.{IsOfHold}
use Rattle.chan_model.proofs.OneSide.{same-side, one-side}
use Rattle.step_laws.specs.Walks.{IsOfSide}

-- the links of a unit after an event at the subchannel of this side, and what is told of the subchannel before and after it
pub record Follows (T : Type 0) (w : Links) (side : Side) (sub new : Subchannel) (v : UnitState) (k next : StartCounts) : Type 0 where
  pub links : Links
  pub good : IsGood links
  pub «unit» : links.«unit» ≡ v
  pub here : IsLink new (link_of links side)
  pub there : (j : Side) → same_side side j ≡ false → IsWider (link_of w j) (link_of links j)
  pub passed : (j : Side) (t : ℕ) → IsPassed w j t → IsPassed links j t
  pub accepted : (j : Side) (t : ℕ) → IsAccepted w j t → IsAccepted links j t
  pub told : IsTold k sub.state w side → IsTold next new.state links side
  pub ends : (j : Side) → IsResetDue w j → IsResetDue links j ⊎ ((same_side side j ≡ true) × T × DoAgree links j)

-- an event that left these of a subchannel and its unit, and in which, or in none, a reset is taken
pub record IsKept (T : Type 0) (sub new : Subchannel) (u v : UnitState) (k next : StartCounts) : Type 0 where
  pub setup : new.setup ≡ sub.setup
  pub follows : (w : Links) → IsGood w → w.«unit» ≡ u → IsLink sub (link_of w sub.setup.side) → Follows T w sub.setup.side sub new v k next

same-wider : (l : Link) → IsWider l l
same-wider l = record { drawn = refl; hold = refl; downs = λ x c. c; ups = λ x c. c }

-- acts of the hold alone: nothing is accepted
same-accepted : (ts us : List ℕ) (t : ℕ) → us ≡ ts → Contains ts t → Contains us t
same-accepted ts us t e c = subst (λ (xs : List ℕ). Contains xs t) (sym e) c

same-never : (ts us : List ℕ) (t : ℕ) → us ≡ ts → All (λ a. a ≢ t) ts → All (λ a. a ≢ t) us
same-never ts us t e n = subst (λ (xs : List ℕ). All (λ a. a ≢ t) xs) (sym e) n

first-passed : (w : Links) (l : Link) → l.accepted ≡ w.first.accepted → (j : Side) (t : ℕ) → IsPassed w j t → IsPassed (links_of First w.«unit» l w.second) j t
first-passed w l e First t p = record { never = same-never w.first.accepted l.accepted t e p.never; floor = p.floor }
first-passed w l e Second t p = record { never = p.never; floor = p.floor }

first-accepted : (w : Links) (l : Link) → l.accepted ≡ w.first.accepted → (j : Side) (t : ℕ) → IsAccepted w j t → IsAccepted (links_of First w.«unit» l w.second) j t
first-accepted w l e First t c = same-accepted w.first.accepted l.accepted t e c
first-accepted w l e Second t c = c

second-passed : (w : Links) (l : Link) → l.accepted ≡ w.second.accepted → (j : Side) (t : ℕ) → IsPassed w j t → IsPassed (links_of Second w.«unit» l w.first) j t
second-passed w l e First t p = record { never = p.never; floor = p.floor }
second-passed w l e Second t p = record { never = same-never w.second.accepted l.accepted t e p.never; floor = p.floor }

second-accepted : (w : Links) (l : Link) → l.accepted ≡ w.second.accepted → (j : Side) (t : ℕ) → IsAccepted w j t → IsAccepted (links_of Second w.«unit» l w.first) j t
second-accepted w l e First t c = c
second-accepted w l e Second t c = same-accepted w.second.accepted l.accepted t e c

hold-told : (sub new : Subchannel) (k next : StartCounts) (w m : Links) (side : Side) → Tells sub new.state k next → AreBusyPassed sub w side →
    ((t : ℕ) → IsPassed w side t → IsPassed m side t) → ((t : ℕ) → IsAccepted w side t → IsAccepted m side t) → IsTold k sub.state w side → IsTold next new.state m side
hold-told sub new k next w m side f b p a t = f m side (λ path n e. p n (b path n e)) (told-wider k sub.state w m side p a t)

hold-follows : (w : Links) (side : Side) (sub new : Subchannel) (k next : StartCounts) → IsGood w → IsReached (link_of w side) new → Tells sub new.state k next → AreBusyPassed sub w side →
    Follows ⊥ w side sub new w.«unit» k next
hold-follows w First sub new k next g r f b =
    record {
      links = links_of First w.«unit» r.link w.second;
      good = (r.leads First w.«unit» w.second g).good;
      ends = λ j d. inl ((r.leads First w.«unit» w.second g).due j d);
      «unit» = refl;
      here = r.is;
      there = λ j e. elim j as (λ j. same_side First j ≡ false → IsWider (link_of w j) (link_of (links_of First w.«unit» r.link w.second) j)) [ First ↦ λ e. absurd (cc e) | Second ↦ λ e. same-wider w.second ] e;
      passed = first-passed w r.link r.accepted;
      accepted = first-accepted w r.link r.accepted;
      told = hold-told sub new k next w (links_of First w.«unit» r.link w.second) First f b (first-passed w r.link r.accepted First) (first-accepted w r.link r.accepted First);
    }
hold-follows w Second sub new k next g r f b =
    record {
      links = links_of Second w.«unit» r.link w.first;
      good = (r.leads Second w.«unit» w.first g).good;
      ends = λ j d. inl ((r.leads Second w.«unit» w.first g).due j d);
      «unit» = refl;
      here = r.is;
      there = λ j e. elim j as (λ j. same_side Second j ≡ false → IsWider (link_of w j) (link_of (links_of Second w.«unit» r.link w.first) j)) [ First ↦ λ e. same-wider w.first | Second ↦ λ e. absurd (cc e) ] e;
      passed = second-passed w r.link r.accepted;
      accepted = second-accepted w r.link r.accepted;
      told = hold-told sub new k next w (links_of Second w.«unit» r.link w.first) Second f b (second-passed w r.link r.accepted Second) (second-accepted w r.link r.accepted Second);
    }

busy-passed : AreLaws → (sub : Subchannel) (w : Links) (side : Side) → IsGood w → IsLink sub (link_of w side) → AreBusyPassed sub w side
busy-passed laws sub w side g k path t e =
    laws.busy w side (record { path = path; signal = up.Busy t }) t g (covers-first (link_of w side).ups sub.wires.up path (up.Busy t) k.ups e) refl

pub hold-kept : AreLaws → (sub new : Subchannel) (u : UnitState) (k next : StartCounts) → IsOfHold sub new → Tells sub new.state k next → IsKept ⊥ sub new u u k next
hold-kept laws sub new u k next h f =
    record {
      setup = h.setup;
      follows = λ w g e l.
          subst (λ (v : UnitState). Follows ⊥ w sub.setup.side sub new v k next) e
          (hold-follows w sub.setup.side sub new k next g (h.reaches (link_of w sub.setup.side) l) f
          (busy-passed laws sub w sub.setup.side g l));
    }

-- an act of the unit
abbrev pub acted_links : Links → UnitAct → Links
acted_links w act =
    record { «unit» = unit_after w.«unit» (unit_steps w.«unit» act); first = told w.first (up_sent w.«unit» act First); second = told w.second (up_sent w.«unit» act Second) }

link-told : (l : Link) (one : Option (OnPath Up)) → IsWider l (told l one)
link-told l one = record { drawn = refl; hold = refl; downs = λ x c. c; ups = one-wider l.ups one }

pub links-wider : (w : Links) (act : UnitAct) (k : Side) → IsWider (link_of w k) (link_of (acted_links w act) k)
links-wider w act First = link-told w.first (up_sent w.«unit» act First)
links-wider w act Second = link-told w.second (up_sent w.«unit» act Second)

sent-within : (l : Link) (b : Bool) (one : Option (OnPath Up)) → b ≡ true → IfSome one (λ x. Contains (told l (sent_to b one)).ups x)
sent-within l true one e = one-within l.ups one
sent-within l false one e = absurd (cc e)

sent-told : (w : Links) (act : UnitAct) (side : Side) → is_to w.«unit» act side ≡ true →
    IfSome (sent_by (unit_steps w.«unit» act)) (λ x. Contains (link_of (acted_links w act) side).ups x)
sent-told w act First e = sent-within w.first (is_to w.«unit» act First) (sent_by (unit_steps w.«unit» act)) e
sent-told w act Second e = sent-within w.second (is_to w.«unit» act Second) (sent_by (unit_steps w.«unit» act)) e

-- what it leaves of the subchannel of a side that it sends to
abbrev sent_up : Subchannel → List (List Down) → Option (OnPath Up) → Subchannel
sent_up sub downs one = record sub { wires = record { down = downs; up = with_any_sent sub.wires.up (carried_by sub one) } }

abbrev IsFewer : List (List Down) → List (List Down) → Type 0
IsFewer old new = (m : List (OnPath Down)) → Covers m old → Covers m new

unit-link : (sub : Subchannel) (l m : Link) (downs : List (List Down)) (one : Option (OnPath Up)) → IsLink sub l → IsWider l m → IfSome one (λ x. Contains m.ups x) →
    IsFewer sub.wires.down downs → IsLink (sent_up sub downs one) m
unit-link sub l m downs one k w h f =
    record {
      drawn = w.drawn ∙ k.drawn;
      hold = w.hold ∙ k.hold;
      downs = f m.downs (covers-wider l.downs m.downs sub.wires.down w.downs k.downs);
      ups = covers-sent m.ups sub.wires.up (carried_by sub one) (carried-if (λ x. Contains m.ups x) sub.state.pmcw.available one h)
          (covers-wider l.ups m.ups sub.wires.up w.ups k.ups);
    }

came-sent : (step : Option UnitStep) → sent_by step ≡ (unit_table.outcome_of step).sent
came-sent None = refl
came-sent (Some step) = refl

abbrev pub AreKept : Subchannel → UnitState → StartCounts → (Reply → StartCounts) → Result DownResult Fault → Type 0
AreKept sub u k g r = IfOk r (λ t. IsKept (IsEnd sub u t.reply) sub t.sub u t.«unit» k (g t.reply))

if-kept : (sub : Subchannel) (u : UnitState) (k : StartCounts) (g : Reply → StartCounts) (b : Bool) (x y : Result DownResult Fault) → AreKept sub u k g x → AreKept sub u k g y →
    AreKept sub u k g (if b then x else y)
if-kept sub u k g true x y e f = e
if-kept sub u k g false x y e f = f

-- what was accepted at each side after an act of the unit
pub told-accepted : (w : Links) (act : UnitAct) (j : Side) (t : ℕ) → IsAccepted w j t → IsAccepted (acted_links w act) j t
told-accepted w act First t c = accepted-wider w.first.accepted (up_sent w.«unit» act First) t c
told-accepted w act Second t c = accepted-wider w.second.accepted (up_sent w.«unit» act Second) t c

told-list : (w : Links) (act : UnitAct) (j : Side) → is_to w.«unit» act j ≡ true →
    (link_of (acted_links w act) j).accepted ≡ with_accepted (link_of w j).accepted (sent_by (unit_steps w.«unit» act))
told-list w act First e = ap (λ (b : Bool). with_accepted w.first.accepted (sent_to b (sent_by (unit_steps w.«unit» act)))) e
told-list w act Second e = ap (λ (b : Bool). with_accepted w.second.accepted (sent_to b (sent_by (unit_steps w.«unit» act)))) e

-- what is told after it
abbrev TellsUnit : Subchannel → UnitState → UnitAct → StartCounts → StartCounts → Type 0
TellsUnit sub u act k next = (w m : Links) (side : Side) → Wide w m side (sent_by (unit_steps u act)) → IsTold k sub.state w side → IsTold next sub.state m side

-- Report: one that is taken is of the side of the program that holds the device
owner-side : (k side : Side) (b : Bool) (step : Option UnitStep) (y : UnitStep) → (if same_side k side && b then step else None) ≡ Some y → same_side k side ≡ true
owner-side First First b step y e = refl
owner-side First Second b step y e = absurd (cc e)
owner-side Second First b step y e = absurd (cc e)
owner-side Second Second b step y e = refl

report-side : (u : UnitState) (o : Own) (r : Report) (y : UnitStep) → report_of u o r ≡ Some y → is_owner_side o r.side ≡ true
report-side u own.Idle r y e = absurd (cc e)
report-side u (own.Owned k t connection) r y e =
    owner-side k r.side ((r.number == t) && (r.command == u.last_command)) (report_on u t connection u.current r) y e

module _ (laws : AreLaws) where
  unit-follows : (T : Type 0) (w : Links) (act : UnitAct) (side : Side) (sub : Subchannel) (downs : List (List Down)) (k next : StartCounts) → IsGood w → IsUnitGiven w act →
      is_to w.«unit» act side ≡ true → IsLink sub (link_of w side) → IsFewer sub.wires.down downs → TellsUnit sub w.«unit» act k next →
      ((j : Side) → IsTakenBy w.«unit» (link_of w j).hold.phase act j → (same_side side j ≡ true) × T) → Follows T w side sub (sent_up sub downs (sent_by (unit_steps w.«unit» act))) (unit_after w.«unit» (unit_steps w.«unit» act)) k next
  unit-follows T w act side sub downs k next g given e l f tells taken =
      let step : LinksStep w (Unit_acts act) (acted_links w act) =
      record { given = given; «unit» = refl; first = told-step w.first (up_sent w.«unit» act First); second = told-step w.second (up_sent w.«unit» act Second) } in
      let all = laws.keeps w (Unit_acts act) (acted_links w act) g step in
      let good : IsGood (acted_links w act) = all.0 in
      record {
        links = acted_links w act;
        good = good;
        «unit» = refl;
        here = unit-link sub (link_of w side) (link_of (acted_links w act) side) downs (sent_by (unit_steps w.«unit» act)) l (links-wider w act side) (sent-told w act side e) f;
        there = λ j h. links-wider w act j;
        ends = λ j d.
            elim (all.1 j d) [
              | inl x ↦ inl x
              | inr p ↦ let q = taken j p.0 in inr (q.0, q.1, p.1)
            ];
        passed = λ j t p. laws.stays w (Unit_acts act) (acted_links w act) j t g step p;
        accepted = told-accepted w act;
        told = tells w (acted_links w act) side (record {
          passed = λ t p. laws.stays w (Unit_acts act) (acted_links w act) side t g step p;
          accepted = told-accepted w act side;
          once = (laws.means (acted_links w act) side good).once;
          list = told-list w act side e;
        });
      }

  unit-kept : (T : Type 0) (sub : Subchannel) (u : UnitState) (act : UnitAct) (downs : List (List Down)) (k next : StartCounts) →
      ((w : Links) → IsLink sub (link_of w sub.setup.side) → IsUnitGiven w act) → is_to u act sub.setup.side ≡ true → IsFewer sub.wires.down downs →
      TellsUnit sub u act k next →
      ((w : Links) → IsLink sub (link_of w sub.setup.side) → (j : Side) → IsTakenBy u (link_of w j).hold.phase act j → (same_side sub.setup.side j ≡ true) × T) →
      IsKept T sub (sent_up sub downs (sent_by (unit_steps u act))) u (unit_after u (unit_steps u act)) k next
  unit-kept T sub u act downs k next given to f tells taken =
      record {
        setup = refl;
        follows = λ w g e l.
            subst (λ (v : UnitState). Follows T w sub.setup.side sub (sent_up sub downs (sent_by (unit_steps v act))) (unit_after v (unit_steps v act)) k next) e
            (unit-follows T w act sub.setup.side sub downs k next g (given w l) (ap (λ (v : UnitState). is_to v act sub.setup.side) e ∙ to) l f
            (subst (λ (v : UnitState). TellsUnit sub v act k next) (sym e) tells)
            (λ j t. taken w l j (subst (λ (v : UnitState). IsTakenBy v (link_of w j).hold.phase act j) e t)));
      }

  -- Down
  down-tells : (may : Bool) → (sub : Subchannel) (path : ℕ) (u : UnitState) (x : Down) (k : StartCounts) →
      TellsUnit sub u (Takes_down sub.setup.side (record { path = path; signal = x }) may) k
      (with_taken (reply.Down x (unit_table.outcome_of (unit_takes u sub.setup.side path x may)).taken (unit_table.outcome_of (unit_takes u sub.setup.side path x may)).sent) k)
  down-tells may sub path u x k w m side h t =
      let step = unit_takes u sub.setup.side path x may in
      taken-told k sub.state w m side x (unit_table.outcome_of step).taken (unit_table.outcome_of step).sent
      (subst (Wide w m side) (came-sent step) h) (takes-of u sub.setup.side path x may) t

  -- a Reset of the hold that the unit takes
  if-taken : (b : Bool) (x : UnitStep) (y : Option UnitStep) → b ≡ true → (unit_table.outcome_of (if b then Some x else y)).taken ≡ true
  if-taken true x y e = refl
  if-taken false x y e = absurd (cc e)

  reset-ends : (sub : Subchannel) (u : UnitState) (w : Links) (r b : ℕ) (j : Side) → IsLink sub (link_of w sub.setup.side) → sub.setup.side ≡ j →
      IsReset u (link_of w j).hold.phase j (down.Reset r b) → (sub.state.hold.phase ≡ hold.Reset r) × (resets u sub.setup.side r b ≡ true)
  reset-ends sub u w r b j l e t =
      let mine : IsReset u (link_of w sub.setup.side).hold.phase sub.setup.side (down.Reset r b) =
      subst (λ (k : Side). IsReset u (link_of w k).hold.phase k (down.Reset r b)) (sym e) t in
      (ap (λ (h : HoldState). h.phase) (sym l.hold) ∙ mine.0, mine.1)

  down-ends : (may : Bool) → (sub : Subchannel) (path : ℕ) (u : UnitState) (x : Down) (w : Links) → IsLink sub (link_of w sub.setup.side) → (j : Side) →
      IsTakenBy u (link_of w j).hold.phase (Takes_down sub.setup.side (record { path = path; signal = x }) may) j →
      (same_side sub.setup.side j ≡ true)
      × IsEnd sub u (reply.Down x (unit_table.outcome_of (unit_takes u sub.setup.side path x may)).taken (unit_table.outcome_of (unit_takes u sub.setup.side path x may)).sent)
  down-ends may sub path u (down.Reset r b) w l j t =
      let q = reset-ends sub u w r b j l (one-side sub.setup.side j t.0) t.1 in
      (t.0, (if-taken (resets u sub.setup.side r b) _ _ q.1, q.0, q.1))
  down-ends may sub path u (down.Select t) w l j x = absurd x.1
  down-ends may sub path u (down.Command t n code room) w l j x = absurd x.1
  down-ends may sub path u (down.Grant t c) w l j x = absurd x.1
  down-ends may sub path u (down.Refuse t c) w l j x = absurd x.1
  down-ends may sub path u (down.Took t n s room) w l j x = absurd x.1
  down-ends may sub path u (down.Give bytes t c n s) w l j x = absurd x.1
  down-ends may sub path u (down.Halt t) w l j x = absurd x.1
  down-ends may sub path u (down.Release t) w l j x = absurd x.1
  down-ends may sub path u (down.Got a) w l j x = absurd x.1

  down_front-kept : (may : Bool) → (sub : Subchannel) (path : ℕ) (u : UnitState) (k : StartCounts) (front : Option Down) → slice_get (queue sub.wires.down path) 0 ≡ front →
      AreKept sub u k (λ r. with_taken r k) (down_front may sub path u front)
  down_front-kept may sub path u k None e = tt
  down_front-kept may sub path u k (Some x) e =
      let step = unit_takes u sub.setup.side path x may in
      let next = with_taken (reply.Down x (unit_table.outcome_of step).taken (unit_table.outcome_of step).sent) k in
      if-kept sub u k (λ r. with_taken r k) (finds_full sub.wires.up (carried_by sub (unit_table.outcome_of step).sent)) _ _ tt
      (subst (λ (one : Option (OnPath Up)). IsKept (IsEnd sub u (reply.Down x (unit_table.outcome_of step).taken (unit_table.outcome_of step).sent)) sub (sent_up sub (taken sub.wires.down path) one) u (unit_after u step) k next)
      (came-sent step)
      (unit-kept _ sub u (Takes_down sub.setup.side (record { path = path; signal = x }) may) (taken sub.wires.down path) k next
      (λ w l. covers-first (link_of w sub.setup.side).downs sub.wires.down path x l.downs e) (same-side sub.setup.side)
      (λ m c. covers-taken m sub.wires.down path c) (down-tells may sub path u x k)
      (down-ends may sub path u x)))

  pub down-kept : (may : Bool) → (sub : Subchannel) (path : ℕ) (u : UnitState) (k : StartCounts) → AreKept sub u k (λ r. with_taken r k) (down_sub may sub path u)
  down-kept may sub path u k =
      if-kept sub u k (λ r. with_taken r k) (nat_lt path (length sub.setup.paths)) (down_front may sub path u (slice_get (queue sub.wires.down path) 0)) _
      (down_front-kept may sub path u k (slice_get (queue sub.wires.down path) 0) refl) tt

  -- Report
  taken-kept : (sub : Subchannel) (u : UnitState) (r : Report) (k : StartCounts) (step : Option UnitStep) → unit_reports u r ≡ step → same_side sub.setup.side r.side ≡ true →
      AreKept sub u k (λ r. k) (report_taken sub step)
  taken-kept sub u r k None h e = tt
  taken-kept sub u r k (Some y) h e =
      if-kept sub u k (λ r. k) (finds_full sub.wires.up (carried_by sub y.sent)) _ _ tt
      (subst (λ (step : Option UnitStep). IsKept ⊥ sub (sent_up sub sub.wires.down (sent_by step)) u (unit_after u step) k k) h
      (unit-kept ⊥ sub u (Reports r) sub.wires.down k k (λ w l. tt)
      (subst (λ (side : Side). is_owner_side u.own side ≡ true) (sym (one-side sub.setup.side r.side e)) (report-side u u.own r y h)) (λ m c. c)
      (λ w m side h t. told-wider k sub.state w m side h.passed h.accepted t) (λ w l j t. absurd t)))

  pub report-kept : (sub : Subchannel) (u : UnitState) (r : Report) (k : StartCounts) → same_side sub.setup.side r.side ≡ true → AreKept sub u k (λ r. k) (report_sub sub u r)
  report-kept sub u r k e = taken-kept sub u r k (unit_reports u r) refl e

  -- an act of itself
  act-taken : (sub : Subchannel) (u : UnitState) (act : UnitAct) (k : StartCounts) (step : Option UnitStep) → unit_steps u act ≡ step → is_to u act sub.setup.side ≡ true →
      ((w : Links) → IsUnitGiven w act) → ((phase : HoldPhase) (j : Side) → IsTakenBy u phase act j → ⊥) → AreKept sub u k (λ r. k) (report_taken sub step)
  act-taken sub u act k None h to given none = tt
  act-taken sub u act k (Some y) h to given none =
      if-kept sub u k (λ r. k) (finds_full sub.wires.up (carried_by sub y.sent)) _ _ tt
      (subst (λ (step : Option UnitStep). IsKept ⊥ sub (sent_up sub sub.wires.down (sent_by step)) u (unit_after u step) k k) h
      (unit-kept ⊥ sub u act sub.wires.down k k (λ w l. given w) to (λ m c. c)
      (λ w m side h t. told-wider k sub.state w m side h.passed h.accepted t) (λ w l j t. absurd (none (link_of w j).hold.phase j t))))

  owned-to : (o : Own) (side : Side) → owner_side o ≡ Some side → is_owner_side o side ≡ true
  owned-to own.Idle side e = absurd (cc e)
  owned-to (own.Owned k t connection) side e = let same : k ≡ side = cc e in subst (λ (j : Side). same_side k j ≡ true) same (same-side k)

  acted-kept : (sub : Subchannel) (u : UnitState) (what : told_act.UnitAct) (k : StartCounts) → IsOfSide u sub.setup.side what →
      AreKept sub u k (λ r. k) (report_taken sub (acts u sub.setup.side what))
  acted-kept sub u act.Leave k e = act-taken sub u moving.Leaves k (leaving u u.own) refl (owned-to u.own sub.setup.side e) (λ w. tt) (λ phase j t. t)
  acted-kept sub u (act.Ask p) k e = act-taken sub u (moving.Asks p) k (asking u u.own p) refl (owned-to u.own sub.setup.side e) (λ w. tt) (λ phase j t. t)
  acted-kept sub u (act.Attention p side) k e =
      act-taken sub u (moving.Attends sub.setup.side p) k (attending u sub.setup.side p) refl (same-side sub.setup.side) (λ w. tt) (λ phase j t. t)
  acted-kept sub u (act.Notice p side) k e =
      act-taken sub u (moving.Notices sub.setup.side p) k (noticing u sub.setup.side p) refl (same-side sub.setup.side) (λ w. tt) (λ phase j t. t)

  pub act-kept : (sub : Subchannel) (u : UnitState) (what : told_act.UnitAct) (k : StartCounts) → IsOfSide u sub.setup.side what → AreKept sub u k (λ r. k) (act_sub sub u what)
  act-kept sub u what k e = if-kept sub u k (λ r. k) (has_path_of_act sub what) _ _ (acted-kept sub u what k e) tt

  -- a restart of the unit, which no subchannel is told of
  restarts-step : (w : Links) → LinksStep w (Unit_acts moving.Restarts) (acted_links w moving.Restarts)
  restarts-step w = record { given = tt; «unit» = refl; first = told-step w.first None; second = told-step w.second None }

  pub restart-good : (w : Links) → IsGood w → IsGood (acted_links w moving.Restarts) × ((j : Side) → IsResetDue w j → IsResetDue (acted_links w moving.Restarts) j)
  restart-good w g =
      let all = laws.keeps w (Unit_acts moving.Restarts) (acted_links w moving.Restarts) g (restarts-step w) in (
        all.0,
        λ j d.
            elim (all.1 j d) [
              | inl x ↦ x
              | inr p ↦ absurd p.0
            ],
      )

  pub restart-passed : (w : Links) (j : Side) (t : ℕ) → IsGood w → IsPassed w j t → IsPassed (acted_links w moving.Restarts) j t
  restart-passed w j t g p = laws.stays w (Unit_acts moving.Restarts) (acted_links w moving.Restarts) j t g (restarts-step w) p

-- what a unit owes changes none of it
abbrev pub with_owed : Bool → Links → Links
with_owed owed w = record w { «unit» = owing owed w.«unit» }

pub owed-link : (owed : Bool) (w : Links) (j : Side) → link_of (with_owed owed w) j ≡ link_of w j
owed-link owed w First = refl
owed-link owed w Second = refl

pub owed-good : (owed : Bool) (w : Links) → IsGood w → IsGood (with_owed owed w)
owed-good owed w g = record { first = g.first; second = g.second; first_free = g.first_free; second_free = g.second_free }

pub owed-passed : (owed : Bool) (w : Links) (j : Side) (t : ℕ) → IsPassed w j t → IsPassed (with_owed owed w) j t
owed-passed owed w First t p = record { never = p.never; floor = p.floor }
owed-passed owed w Second t p = record { never = p.never; floor = p.floor }

pub owed-accepted : (owed : Bool) (w : Links) (j : Side) (t : ℕ) → IsAccepted w j t → IsAccepted (with_owed owed w) j t
owed-accepted owed w First t c = c
owed-accepted owed w Second t c = c

pub owed-due : (owed : Bool) (w : Links) (j : Side) → IsResetDue w j → IsResetDue (with_owed owed w) j
owed-due owed w First d = d
owed-due owed w Second d = d

owed-agree : (owed : Bool) (w : Links) (j : Side) → DoAgree w j → DoAgree (with_owed owed w) j
owed-agree owed w First d = d
owed-agree owed w Second d = d

owed-follows : (T : Type 0) (owed : Bool) (w : Links) (side : Side) (sub new : Subchannel) (v : UnitState) (k next : StartCounts) → Follows T w side sub new v k next →
    Follows T w side sub new (owing owed v) k next
owed-follows T owed w side sub new v k next f =
    record {
      links = with_owed owed f.links;
      good = owed-good owed f.links f.good;
      «unit» = ap (owing owed) f.«unit»;
      here = subst (λ (l : Link). IsLink new l) (sym (owed-link owed f.links side)) f.here;
      there = λ j h. subst (λ (l : Link). IsWider (link_of w j) l) (sym (owed-link owed f.links j)) (f.there j h);
      passed = λ j t p. owed-passed owed f.links j t (f.passed j t p);
      accepted = λ j t c. owed-accepted owed f.links j t (f.accepted j t c);
      told = λ t. told-wider next new.state f.links (with_owed owed f.links) side (owed-passed owed f.links side) (owed-accepted owed f.links side) (f.told t);
      ends = λ j d.
          elim (f.ends j d) [
            | inl x ↦ inl (owed-due owed f.links j x)
            | inr p ↦ inr (p.0, p.1, owed-agree owed f.links j p.2)
          ];
    }

pub owing-kept : (T : Type 0) (owed : Bool) (sub new : Subchannel) (u v : UnitState) (k next : StartCounts) → IsKept T sub new u v k next → IsKept T sub new u (owing owed v) k next
owing-kept T owed sub new u v k next kept =
    record { setup = kept.setup; follows = λ w g e l. owed-follows T owed w sub.setup.side sub new v k next (kept.follows w g e l) }
