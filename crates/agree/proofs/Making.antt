-- Each event is a step, or two.
use Rattle.std.proofs.Common.{◌≡◌, ℕ, ◌+◌, inl, inr, Bool, true, false, Option, None, Some, List, refl, sym, ap, subst, ◌∙◌}
use Rattle.std.proofs.lemmas.Bool.{cond_both}
use Rattle.std.specs.Prelude.{Result, Ok, Err, slice_get, nat_lt, length, remove, slice_set, if◌then◌else◌, Contains}
use Rattle.chan_model.specs.declared.fault.Fault.{Fault}
use Rattle.chan_model.specs.declared.hold_state.HoldPhase.{HoldPhase}
use Rattle.chan_model.specs.declared.hold_state.HoldPhase.TheVariants as hold
use Rattle.chan_model.specs.declared.names.Side.{Side}
use Rattle.chan_model.specs.declared.names.Side.TheVariants.{First, Second}
use Rattle.chan_model.specs.declared.signal.OnPath.{OnPath}
use Rattle.chan_model.specs.Signals.{Down}
use Rattle.chan_model.specs.Signals.{Up}
use Rattle.chan_model.specs.declared.unit_state.Own.{Own}
use Rattle.chan_model.specs.declared.unit_state.Own.TheVariants as own
use Rattle.chan_model.specs.Sides.{same_side}
use Rattle.chan_model.specs.UnitTable.{UnitStep, unit_after, outcome_of, restarted}
use Rattle.agreement_laws.specs.Links.{Link, Links, link_of}
use Rattle.agreement_laws.specs.Moving.{HoldAct, Nothing, Offers, Sends_reset, Lets_go, Is_reset, Loses, Takes, Sends, still, hold_acts, UnitAct, Takes_down, Leaves, Asks, Attends, Restarts, Notices, Reports, unit_steps, is_to, is_owner_side, sent_by, sent_to, LinkStep, LinkCause, Hold_acts, Unit_acts, IsHoldGiven, IsUnitGiven, LinksStep}
use Rattle.agreement_laws.specs.Invariant.{IsGood}
use Rattle.agreement_laws.specs.Claims.{IsResetTaken, EndsByReset}
use Rattle.agreement_laws.proofs.SeenSignals.{sent-as, sent-of_program}
use Rattle.agree.specs.declared.event.WorldEvent.{WorldEvent}
use Rattle.agree.specs.declared.event.WorldEvent.TheVariants as event
use Rattle.agreement_laws.specs.Sending.{may_send}
use Rattle.agree.specs.State.{LineState, WorldState, links_of, line_of, with_line, is_up}
use Rattle.chan_model.specs.declared.fault.Fault.TheVariants.{NoMemory, NoSuchPath, NotSent, NotNow}
use Rattle.agree.specs.Lines.{LineResult, UnitLine, acts, line_with_sent, unit_stepped, stepping, acts_for, with_downs, with_ups, line_with_path, left_after, without_path, line_chosen, line_let_go, line_sends, line_took_up, line_takes_up, line_took_down, line_takes_down, loses_down, loses_up, cut, goes_down, comes_up, is_cut}
use Rattle.agree.specs.Replies.{chosen_act}
use Rattle.agree.specs.Results.{WorldResult, at_side, at_world_unit, at_owner, both_of, on_path, path_named, all_reset, world_result_of, counted, max_steps, world_result}
use Rattle.agree.specs.Promises.{EndsByEvent, IsResetTakenBy, IsResetMet}
use Rattle.agree.proofs.Carrying.{AreAmong, among-same, among-without, among-removed, among-left, contains-got, carried, sent-carried}

-- what an accepted event leaves has a property
abbrev pub OnDone : {S : Type 0} → (S → Type 0) → Result S Fault → Type 0
OnDone P (Ok s) = P s
OnDone P (Err f) = Unit {0}

pub done-at_side : (P : WorldState → Type 0) (w : WorldState) (side : Side) (turn : LineResult) → OnDone (λ l. P (with_line w side l)) turn → OnDone P (at_side w side turn)
done-at_side P w side (Ok l) h = h
done-at_side P w side (Err f) h = tt

pub done-at_unit : (P : WorldState → Type 0) (w : WorldState) (side : Side) (turn : Result UnitLine Fault) →
    OnDone (λ b. P (record (with_line w side b.line) { «unit» = b.«unit» })) turn → OnDone P (at_world_unit w side turn)
done-at_unit P w side (Ok b) h = h
done-at_unit P w side (Err f) h = tt

pub done-on_path : (P : WorldState → Type 0) (named : Result ℕ Fault) (turn : ℕ → WorldResult) → ((p : ℕ) → OnDone P (turn p)) → OnDone P (on_path named turn)
done-on_path P (Ok p) turn h = h p
done-on_path P (Err f) turn h = tt

pub done-on_one : (P : WorldState → Type 0) (p : ℕ) (turn : ℕ → WorldResult) → OnDone P (turn p) → OnDone P (on_path (path_named p) turn)
done-on_one P p turn h = cond_both (nat_lt p 8) (Ok p) (Err NoSuchPath) (λ r. OnDone P (on_path r turn)) (λ e. h) (λ e. tt)

pub done-if : {S : Type 0} (P : S → Type 0) (b : Bool) (f : Fault) (s : S) → P s → OnDone P (if b then Ok s else Err f)
done-if P true f s h = h
done-if P false f s h = tt

-- the same where the test is at hand
pub done-where : {S : Type 0} (P : S → Type 0) (b : Bool) (f : Fault) (s : S) → (b ≡ true → P s) → OnDone P (if b then Ok s else Err f)
done-where P true f s h = h refl
done-where P false f s h = tt

pub done-unless : {S : Type 0} (P : S → Type 0) (b : Bool) (f : Fault) (s : S) → P s → OnDone P (if b then Err f else Ok s)
done-unless P true f s h = tt
done-unless P false f s h = h

pub done-stepping : (P : UnitLine → Type 0) (b : UnitLine) (s : Option UnitStep) → P (unit_stepped b s) → OnDone P (stepping b s)
done-stepping P b None h = tt
done-stepping P b (Some step) h = h

pub done-at_owner : (P : WorldState → Type 0) (w : WorldState) (o : Own) (turn : Side → WorldResult) →
    ((side : Side) → ((s : Side) → is_owner_side o s ≡ same_side side s) → OnDone P (turn side)) → OnDone P (at_owner w o turn)
done-at_owner P w own.Idle turn h = tt
done-at_owner P w (own.Owned side t connection) turn h = h side (λ s. refl)

pub done-weaker : {S : Type 0} (P Q : S → Type 0) → ((s : S) → P s → Q s) → (r : Result S Fault) → OnDone P r → OnDone Q r
done-weaker P Q weaker (Ok s) h = weaker s h
done-weaker P Q weaker (Err f) h = tt

-- the link after an act of its hold, some signals being lost
acts-linked : (l : LineState) (downs : List (OnPath Down)) (ups : List (OnPath Up)) (paths : List Bool) (act : HoldAct) →
    AreAmong l.link.downs downs → AreAmong l.link.ups ups →
    LinkStep l.link (hold_acts l.link.drawn l.link.hold act) None (acts (record { link = record l.link { downs = downs; ups = ups }; up = paths }) act).link
acts-linked l downs ups paths act d u =
    record {
      drawn = refl;
      hold = refl;
      downs = sent-carried paths l.link.downs downs (hold_acts l.link.drawn l.link.hold act).sent d;
      ups = carried l.link.ups ups None u;
      accepted = refl;
    }

-- a link at which nothing is done
still-linked : (l : Link) → LinkStep l (still l.drawn l.hold) None l
still-linked l =
    record { drawn = refl; hold = refl; downs = carried l.downs l.downs None (among-same l.downs); ups = carried l.ups l.ups None (among-same l.ups); accepted = refl }

-- a link to which the unit sends something or nothing, some signals being lost
told-linked : (l : LineState) (downs : List (OnPath Down)) (s : Option UnitStep) → AreAmong l.link.downs downs →
    LinkStep l.link (still l.link.drawn l.link.hold) (sent_by s) (line_with_sent (with_downs l downs) (outcome_of s).sent).link
told-linked l downs None d =
    record {
      drawn = refl;
      hold = refl;
      downs = carried l.link.downs downs None d;
      ups = carried l.link.ups l.link.ups None (among-same l.link.ups);
      accepted = refl;
    }
told-linked l downs (Some step) d =
    record {
      drawn = refl;
      hold = refl;
      downs = carried l.link.downs downs None d;
      ups = sent-carried l.up l.link.ups l.link.ups step.sent (among-same l.link.ups);
      accepted = refl;
    }

to-linked : (l : LineState) (downs : List (OnPath Down)) (s : Option UnitStep) (b : Bool) → b ≡ true → AreAmong l.link.downs downs →
    LinkStep l.link (still l.link.drawn l.link.hold) (sent_to b (sent_by s)) (line_with_sent (with_downs l downs) (outcome_of s).sent).link
to-linked l downs s b e d =
    subst (λ (x : Bool). LinkStep l.link (still l.link.drawn l.link.hold) (sent_to x (sent_by s)) (line_with_sent (with_downs l downs) (outcome_of s).sent).link) (sym e)
    (told-linked l downs s d)

not-linked : (l : Link) (s : Option UnitStep) (b : Bool) → b ≡ false → LinkStep l (still l.drawn l.hold) (sent_to b (sent_by s)) l
not-linked l s b e = subst (λ (x : Bool). LinkStep l (still l.drawn l.hold) (sent_to x (sent_by s)) l) (sym e) (still-linked l)

-- the step that an event is; a reset of the subsystem is two, one for each side
abbrev pub heard_cause : Side → Option (OnPath Up) → Bool → LinkCause
heard_cause side None may = Hold_acts side Nothing
heard_cause side (Some x) may = Hold_acts side (Takes x may)

abbrev pub line_took_down_cause : Side → Option (OnPath Down) → Bool → LinkCause
line_took_down_cause side None may = Hold_acts side Nothing
line_took_down_cause side (Some x) may = Unit_acts (Takes_down side x may)

abbrev pub cause_of : WorldState → WorldEvent → LinkCause
cause_of w (event.Choose side p single) = Hold_acts side (chosen_act (line_of w side).link.hold.phase p single)
cause_of w (event.Down side index keep may) = line_took_down_cause side (slice_get (line_of w side).link.downs index) may
cause_of w (event.Up side index keep may) = heard_cause side (slice_get (line_of w side).link.ups index) may
cause_of w (event.LoseDown side index) = Hold_acts side Nothing
cause_of w (event.LoseUp side index) = Hold_acts side Nothing
cause_of w (event.PathDown side p) = Hold_acts side (Loses p)
cause_of w (event.PathUp side p) = Hold_acts side Nothing
cause_of w (event.PathReset side p) = Hold_acts side (Loses p)
cause_of w (event.LetGo side) = Hold_acts side Lets_go
cause_of w (event.Send side p signal) = Hold_acts side (Sends (record { path = p; signal = signal }))
cause_of w (event.Clear side) = Hold_acts side Is_reset
cause_of w event.SubsystemReset = Hold_acts First Is_reset
cause_of w event.Leave = Unit_acts Leaves
cause_of w (event.Ask p) = Unit_acts (Asks p)
cause_of w (event.Attention side p) = Unit_acts (Attends side p)
cause_of w (event.Notice side p) = Unit_acts (Notices side p)
cause_of w event.Restart = Unit_acts Restarts
cause_of w (event.Report report) = Unit_acts (Reports report)

-- what an event leaves is that step after what was
pub record Made (w : WorldState) (e : WorldEvent) (new : WorldState) : Type 0 where
  pub cause : LinkCause
  pub its : cause ≡ cause_of w e
  pub step : LinksStep (links_of w) cause (links_of new)
  pub tells : (side : Side) → IsResetTaken (links_of w) cause side → IsResetTakenBy w e side

-- a hold acts, some signals of its side being lost
hold-made : (w : WorldState) (e : WorldEvent) (side : Side) (act : HoldAct) (downs : List (OnPath Down)) (ups : List (OnPath Up)) (paths : List Bool) → Hold_acts side act ≡ cause_of w e →
    IsHoldGiven (line_of w side).link act → AreAmong (line_of w side).link.downs downs → AreAmong (line_of w side).link.ups ups →
    Made w e (with_line w side (acts (record { link = record (line_of w side).link { downs = downs; ups = ups }; up = paths }) act))
hold-made w e First act downs ups paths its g d u =
    record {
      cause = Hold_acts First act;
      its = its;
      step = record { given = g; «unit» = refl; first = acts-linked w.first downs ups paths act d u; second = still-linked w.second.link };
      tells = λ s h. absurd h;
    }
hold-made w e Second act downs ups paths its g d u =
    record {
      cause = Hold_acts Second act;
      its = its;
      step = record { given = g; «unit» = refl; first = still-linked w.first.link; second = acts-linked w.second downs ups paths act d u };
      tells = λ s h. absurd h;
    }

-- the hold acts, and no signal is lost
act-made : (w : WorldState) (e : WorldEvent) (side : Side) (act : HoldAct) → Hold_acts side act ≡ cause_of w e → IsHoldGiven (line_of w side).link act → Made w e (with_line w side (acts (line_of w side) act))
act-made w e side act its g =
    hold-made w e side act (line_of w side).link.downs (line_of w side).link.ups (line_of w side).up its g (among-same (line_of w side).link.downs)
    (among-same (line_of w side).link.ups)

-- the unit acts, and sends to one side, of which some signals are lost
unit-made : (w : WorldState) (e : WorldEvent) (side : Side) (act : UnitAct) (downs : List (OnPath Down)) → Unit_acts act ≡ cause_of w e →
    ((s : Side) → is_to w.«unit» act s ≡ same_side side s) → IsUnitGiven (links_of w) act → AreAmong (line_of w side).link.downs downs →
    ((s : Side) → IsResetTaken (links_of w) (Unit_acts act) s → IsResetTakenBy w e s) →
    Made w e (record (with_line w side (line_with_sent (with_downs (line_of w side) downs) (outcome_of (unit_steps w.«unit» act)).sent)) { «unit» = unit_after w.«unit» (unit_steps w.«unit» act) })
unit-made w e First act downs its to g d tells =
    record {
      cause = Unit_acts act;
      its = its;
      step = record {
        given = g;
        «unit» = refl;
        first = to-linked w.first downs (unit_steps w.«unit» act) (is_to w.«unit» act First) (to First) d;
        second = not-linked w.second.link (unit_steps w.«unit» act) (is_to w.«unit» act Second) (to Second);
      };
      tells = tells;
    }
unit-made w e Second act downs its to g d tells =
    record {
      cause = Unit_acts act;
      its = its;
      step = record {
        given = g;
        «unit» = refl;
        first = not-linked w.first.link (unit_steps w.«unit» act) (is_to w.«unit» act First) (to First);
        second = to-linked w.second downs (unit_steps w.«unit» act) (is_to w.«unit» act Second) (to Second) d;
      };
      tells = tells;
    }

-- an act of the unit, where it is one
acts-made : (w : WorldState) (e : WorldEvent) (side : Side) (act : UnitAct) → Unit_acts act ≡ cause_of w e → ((s : Side) → is_to w.«unit» act s ≡ same_side side s) →
    IsUnitGiven (links_of w) act → ((s : Side) → IsResetTaken (links_of w) (Unit_acts act) s → IsResetTakenBy w e s) →
    OnDone (Made w e) (at_world_unit w side (acts_for (both_of w side) act))
acts-made w e side act its to g tells =
    done-at_unit (Made w e) w side (acts_for (both_of w side) act)
    (done-stepping (λ b. Made w e (record (with_line w side b.line) { «unit» = b.«unit» })) (both_of w side) (unit_steps w.«unit» act)
    (unit-made w e side act (line_of w side).link.downs its to g (among-same (line_of w side).link.downs) tells))

chosen-made : (w : WorldState) (e : WorldEvent) (side : Side) (phase : HoldPhase) (p : ℕ) (single : Bool) → Hold_acts side (chosen_act phase p single) ≡ cause_of w e →
    OnDone (λ l. Made w e (with_line w side l)) (line_chosen (line_of w side) phase p single)
chosen-made w e side hold.Free p single its = act-made w e side (Offers p single) its tt
chosen-made w e side (hold.Reset r) p single its = act-made w e side (Sends_reset p) its tt
chosen-made w e side (hold.Offer t q) p single its = tt
chosen-made w e side (hold.On t q c) p single its = tt
chosen-made w e side (hold.Away t) p single its = tt
chosen-made w e side (hold.Letting t q) p single its = tt

device_released-made : (w : WorldState) (e : WorldEvent) (side : Side) (phase : HoldPhase) → Hold_acts side Lets_go ≡ cause_of w e → OnDone (λ l. Made w e (with_line w side l)) (line_let_go (line_of w side) phase)
device_released-made w e side hold.Free its = tt
device_released-made w e side (hold.Reset r) its = tt
device_released-made w e side (hold.Offer t q) its = tt
device_released-made w e side (hold.On t q c) its = act-made w e side Lets_go its tt
device_released-made w e side (hold.Away t) its = tt
device_released-made w e side (hold.Letting t q) its = tt

sends-made : (w : WorldState) (e : WorldEvent) (side : Side) (p : ℕ) (d : Down) → Hold_acts side (Sends (record { path = p; signal = d })) ≡ cause_of w e →
    OnDone (λ l. (may_send (line_of w side).link.hold.phase p d ≡ true) × Made w e (with_line w side l)) (line_sends (line_of w side) p d)
sends-made w e side p d its =
    let l : LineState = line_of w side in
    done-where (λ m. (may_send l.link.hold.phase p d ≡ true) × Made w e (with_line w side m)) (may_send l.link.hold.phase p d) NotNow (acts l (Sends (record { path = p; signal = d })))
    (λ is. (is, act-made w e side (Sends (record { path = p; signal = d })) its (sent-of_program l.link.hold.phase p d (sent-as l.link.hold.phase p d is))))

line_took_up-made : (w : WorldState) (e : WorldEvent) (side : Side) (index : ℕ) (keep may : Bool) (x : Option (OnPath Up)) → slice_get (line_of w side).link.ups index ≡ x → heard_cause side x may ≡ cause_of w e →
    OnDone (λ l. Made w e (with_line w side l)) (line_took_up (line_of w side) x index keep may)
line_took_up-made w e side index keep may None is its = tt
line_took_up-made w e side index keep may (Some x) is its =
    hold-made w e side (Takes x may) (line_of w side).link.downs (left_after (line_of w side).link.ups index keep) (line_of w side).up its
    (contains-got (line_of w side).link.ups index x is) (among-same (line_of w side).link.downs) (among-left (line_of w side).link.ups index keep)

lost_down-made : (w : WorldState) (e : WorldEvent) (side : Side) (index : ℕ) → Hold_acts side Nothing ≡ cause_of w e → OnDone (λ l. Made w e (with_line w side l)) (loses_down (line_of w side) index)
lost_down-made w e side index its =
    let l : LineState = line_of w side in
    done-if (λ m. Made w e (with_line w side m)) (nat_lt index (length l.link.downs)) NotSent (with_downs l (remove l.link.downs index))
    (hold-made w e side Nothing (remove l.link.downs index) l.link.ups l.up its tt (among-removed l.link.downs index) (among-same l.link.ups))

lost_up-made : (w : WorldState) (e : WorldEvent) (side : Side) (index : ℕ) → Hold_acts side Nothing ≡ cause_of w e → OnDone (λ l. Made w e (with_line w side l)) (loses_up (line_of w side) index)
lost_up-made w e side index its =
    let l : LineState = line_of w side in
    done-if (λ m. Made w e (with_line w side m)) (nat_lt index (length l.link.ups)) NotSent (with_ups l (remove l.link.ups index))
    (hold-made w e side Nothing l.link.downs (remove l.link.ups index) l.up its tt (among-same l.link.downs) (among-removed l.link.ups index))

-- the signals on a path vanish
cut-made : (w : WorldState) (e : WorldEvent) (side : Side) (p : ℕ) (paths : List Bool) → Hold_acts side (Loses p) ≡ cause_of w e → Made w e (with_line w side (cut (record (line_of w side) { up = paths }) p))
cut-made w e side p paths its =
    let l : LineState = line_of w side in
    hold-made w e side (Loses p) (without_path l.link.downs p) (without_path l.link.ups p) paths its tt (among-without l.link.downs p) (among-without l.link.ups p)

down-made : (w : WorldState) (e : WorldEvent) (side : Side) (p : ℕ) → Hold_acts side (Loses p) ≡ cause_of w e → OnDone (λ l. Made w e (with_line w side l)) (goes_down (line_of w side) p)
down-made w e side p its =
    let l : LineState = line_of w side in
    done-if (λ m. Made w e (with_line w side m)) (is_up l.up p) NotNow (cut (line_with_path l p false) p) (cut-made w e side p (slice_set l.up p false) its)

reset-made : (w : WorldState) (e : WorldEvent) (side : Side) (p : ℕ) → Hold_acts side (Loses p) ≡ cause_of w e → OnDone (λ l. Made w e (with_line w side l)) (is_cut (line_of w side) p)
reset-made w e side p its =
    let l : LineState = line_of w side in
    done-if (λ m. Made w e (with_line w side m)) (is_up l.up p) NotNow (cut l p) (cut-made w e side p l.up its)

up-made : (w : WorldState) (e : WorldEvent) (side : Side) (p : ℕ) → Hold_acts side Nothing ≡ cause_of w e → OnDone (λ l. Made w e (with_line w side l)) (comes_up (line_of w side) p)
up-made w e side p its =
    let l : LineState = line_of w side in
    done-unless (λ m. Made w e (with_line w side m)) (is_up l.up p) NotNow (line_with_path l p true)
    (hold-made w e side Nothing l.link.downs l.link.ups (slice_set l.up p true) its tt (among-same l.link.downs) (among-same l.link.ups))

-- the unit takes a signal
line_took_down-tells : (w : WorldState) (side : Side) (index : ℕ) (keep may : Bool) (x : OnPath Down) → slice_get (line_of w side).link.downs index ≡ Some x →
    (s : Side) → IsResetTaken (links_of w) (Unit_acts (Takes_down side x may)) s → IsResetTakenBy w (event.Down side index keep may) s
line_took_down-tells w side index keep may x is s h =
    (h.0, subst (λ (o : Option (OnPath Down)). IsResetMet w.«unit» (link_of (links_of w) s).hold.phase s o) (sym is) h.1)

contains-link : (w : WorldState) (side : Side) (x : OnPath Down) → Contains (line_of w side).link.downs x → Contains (link_of (links_of w) side).downs x
contains-link w First x h = h
contains-link w Second x h = h

line_took_down-made : (w : WorldState) (side : Side) (index : ℕ) (keep may : Bool) (x : Option (OnPath Down)) → slice_get (line_of w side).link.downs index ≡ x →
    OnDone (λ b. Made w (event.Down side index keep may) (record (with_line w side b.line) { «unit» = b.«unit» })) (line_took_down (both_of w side) side x index keep may)
line_took_down-made w side index keep may None is = tt
line_took_down-made w side index keep may (Some x) is =
    unit-made w (event.Down side index keep may) side (Takes_down side x may) (left_after (line_of w side).link.downs index keep) (ap (λ (o : Option (OnPath Down)). line_took_down_cause side o may) (sym is)) (λ s. refl)
    (contains-link w side x (contains-got (line_of w side).link.downs index x is)) (among-left (line_of w side).link.downs index keep)
    (line_took_down-tells w side index keep may x is)

-- the device is restarted
restart-made : (w : WorldState) → Made w event.Restart (record w { «unit» = restarted w.«unit» })
restart-made w =
    record {
      cause = Unit_acts Restarts;
      its = refl;
      step = record { given = tt; «unit» = refl; first = still-linked w.first.link; second = still-linked w.second.link };
      tells = λ s h. absurd h;
    }

-- what the laws say of a step
abbrev pub Keeps : Type 0
Keeps = (old : Links) (cause : LinkCause) (new : Links) → IsGood old → LinksStep old cause new → IsGood new

abbrev pub Ends : Type 0
Ends = (old : Links) (cause : LinkCause) (new : Links) (side : Side) → IsGood old → LinksStep old cause new → EndsByReset old cause new side

abbrev pub Kept : WorldState → WorldEvent → WorldState → Type 0
Kept w e new = IsGood (links_of new) × EndsByEvent w e new

made-kept : Keeps → Ends → (w : WorldState) (e : WorldEvent) → IsGood (links_of w) → (new : WorldState) → Made w e new → Kept w e new
made-kept keeps ends w e g new made = (
  keeps (links_of w) made.cause (links_of new) g made.step,
  λ side due.
      elim (ends (links_of w) made.cause (links_of new) side g made.step due) [
        | inl still ↦ inl still
        | inr over ↦ inr (made.tells side over.0, over.1)
      ],
)

-- both holds are reset, one after the other
pub first-reset : (w : WorldState) → Made w (event.Clear First) (with_line w First (acts w.first Is_reset))
first-reset w = act-made w (event.Clear First) First Is_reset refl tt

pub second-reset : (w : WorldState) → Made w (event.Clear Second) (with_line w Second (acts w.second Is_reset))
second-reset w = act-made w (event.Clear Second) Second Is_reset refl tt

all_reset-kept : Keeps → Ends → (w : WorldState) → IsGood (links_of w) → Kept w event.SubsystemReset (all_reset w)
all_reset-kept keeps ends w g =
    let mid : WorldState = with_line w First (acts w.first Is_reset) in
    let once : Kept w (event.Clear First) mid = made-kept keeps ends w (event.Clear First) g mid (first-reset w) in
    let twice : Kept mid (event.Clear Second) (all_reset w) = made-kept keeps ends mid (event.Clear Second) once.0 (all_reset w) (second-reset mid) in (
      twice.0,
      λ side due.
          elim (once.1 side due) [
            | inl still ↦ elim (twice.1 side still) [ inl last ↦ inl last | inr over ↦ absurd over.0 ]
            | inr over ↦ absurd over.0
          ],
    )

side-made : (w : WorldState) (e : WorldEvent) (side : Side) (turn : LineResult) → OnDone (λ l. Made w e (with_line w side l)) turn → OnDone (Made w e) (at_side w side turn)
side-made w e side turn h = done-at_side (Made w e) w side turn h

path-made : (w : WorldState) (e : WorldEvent) (p : ℕ) (turn : ℕ → WorldResult) → OnDone (Made w e) (turn p) → OnDone (Made w e) (on_path (path_named p) turn)
path-made w e p turn h = done-on_one (Made w e) p turn h

-- what the unit does for its program
owner-made : (w : WorldState) (e : WorldEvent) (act : UnitAct) → Unit_acts act ≡ cause_of w e → ((s : Side) → is_to w.«unit» act s ≡ is_owner_side w.«unit».own s) →
    IsUnitGiven (links_of w) act → ((s : Side) → IsResetTaken (links_of w) (Unit_acts act) s → IsResetTakenBy w e s) →
    OnDone (Made w e) (at_owner w w.«unit».own (λ side. at_world_unit w side (acts_for (both_of w side) act)))
owner-made w e act its to g tells =
    done-at_owner (Made w e) w w.«unit».own (λ side. at_world_unit w side (acts_for (both_of w side) act))
    (λ side is. acts-made w e side act its (λ s. to s ∙ is s) g tells)

-- each event is its step, or a reset of both holds
abbrev pub MadeOf : WorldState → WorldEvent → WorldState → Type 0
MadeOf w event.SubsystemReset new = new ≡ all_reset w
MadeOf w (event.Send side p signal) new = (may_send (line_of w side).link.hold.phase p signal ≡ true) × Made w (event.Send side p signal) new
MadeOf w e new = Made w e new

pub turn-made : (w : WorldState) (e : WorldEvent) → OnDone (MadeOf w e) (world_result_of w e)
turn-made w (event.Choose side p single) =
    path-made w (event.Choose side p single) p (λ q. at_side w side (line_chosen (line_of w side) (line_of w side).link.hold.phase q single))
    (side-made w (event.Choose side p single) side (line_chosen (line_of w side) (line_of w side).link.hold.phase p single)
    (chosen-made w (event.Choose side p single) side (line_of w side).link.hold.phase p single refl))
turn-made w (event.Down side index keep may) =
    done-at_unit (Made w (event.Down side index keep may)) w side (line_takes_down (both_of w side) side index keep may)
    (line_took_down-made w side index keep may (slice_get (line_of w side).link.downs index) refl)
turn-made w (event.Up side index keep may) =
    side-made w (event.Up side index keep may) side (line_takes_up (line_of w side) index keep may)
    (line_took_up-made w (event.Up side index keep may) side index keep may (slice_get (line_of w side).link.ups index) refl refl)
turn-made w (event.LoseDown side index) =
    side-made w (event.LoseDown side index) side (loses_down (line_of w side) index) (lost_down-made w (event.LoseDown side index) side index refl)
turn-made w (event.LoseUp side index) =
    side-made w (event.LoseUp side index) side (loses_up (line_of w side) index) (lost_up-made w (event.LoseUp side index) side index refl)
turn-made w (event.PathDown side p) =
    path-made w (event.PathDown side p) p (λ q. at_side w side (goes_down (line_of w side) q))
    (side-made w (event.PathDown side p) side (goes_down (line_of w side) p) (down-made w (event.PathDown side p) side p refl))
turn-made w (event.PathUp side p) =
    path-made w (event.PathUp side p) p (λ q. at_side w side (comes_up (line_of w side) q))
    (side-made w (event.PathUp side p) side (comes_up (line_of w side) p) (up-made w (event.PathUp side p) side p refl))
turn-made w (event.PathReset side p) =
    path-made w (event.PathReset side p) p (λ q. at_side w side (is_cut (line_of w side) q))
    (side-made w (event.PathReset side p) side (is_cut (line_of w side) p) (reset-made w (event.PathReset side p) side p refl))
turn-made w (event.LetGo side) =
    side-made w (event.LetGo side) side (line_let_go (line_of w side) (line_of w side).link.hold.phase)
    (device_released-made w (event.LetGo side) side (line_of w side).link.hold.phase refl)
turn-made w (event.Send side p signal) =
    done-on_one (MadeOf w (event.Send side p signal)) p (λ q. at_side w side (line_sends (line_of w side) q signal))
    (done-at_side (MadeOf w (event.Send side p signal)) w side (line_sends (line_of w side) p signal) (sends-made w (event.Send side p signal) side p signal refl))
turn-made w (event.Clear side) = act-made w (event.Clear side) side Is_reset refl tt
turn-made w event.SubsystemReset = refl
turn-made w event.Leave = owner-made w event.Leave Leaves refl (λ s. refl) tt (λ s h. absurd h)
turn-made w (event.Ask p) =
    path-made w (event.Ask p) p (λ q. at_owner w w.«unit».own (λ side. at_world_unit w side (acts_for (both_of w side) (Asks q))))
    (owner-made w (event.Ask p) (Asks p) refl (λ s. refl) tt (λ s h. absurd h))
turn-made w (event.Attention side p) =
    path-made w (event.Attention side p) p (λ q. at_world_unit w side (acts_for (both_of w side) (Attends side q)))
    (acts-made w (event.Attention side p) side (Attends side p) refl (λ s. refl) tt (λ s h. absurd h))
turn-made w (event.Notice side p) =
    path-made w (event.Notice side p) p (λ q. at_world_unit w side (acts_for (both_of w side) (Notices side q)))
    (acts-made w (event.Notice side p) side (Notices side p) refl (λ s. refl) tt (λ s h. absurd h))
turn-made w event.Restart = restart-made w
turn-made w (event.Report report) = owner-made w (event.Report report) (Reports report) refl (λ s. refl) tt (λ s h. absurd h)

-- what holds of the state that an event makes, whatever its count of steps, holds of the result
pub counted-done : (P : WorldState → Type 0) → ((new : WorldState) (n : ℕ) → P new → P (record new { steps = n })) → (w : WorldState) (e : WorldEvent) →
    OnDone P (world_result_of w e) → OnDone P (world_result w e)
counted-done P still w e h =
    cond_both (nat_lt w.steps max_steps) (counted w.steps (world_result_of w e)) (Err NoMemory) (λ r. OnDone P r) (λ b. count (world_result_of w e) h) (λ b. tt)
  where
    count : (turn : WorldResult) → OnDone P turn → OnDone P (counted w.steps turn)
    count (Ok new) h = still new (w.steps + 1) h
    count (Err f) h = tt

-- what is kept after each event
pub turn-kept : Keeps → Ends → (w : WorldState) (e : WorldEvent) → IsGood (links_of w) → OnDone (Kept w e) (world_result_of w e)
turn-kept keeps ends w event.SubsystemReset g = all_reset-kept keeps ends w g
turn-kept keeps ends w (event.Send side p signal) g = done-weaker (MadeOf w (event.Send side p signal)) (Kept w (event.Send side p signal)) (λ new h. made-kept keeps ends w (event.Send side p signal) g new h.1) (world_result_of w (event.Send side p signal)) (turn-made w (event.Send side p signal))
turn-kept keeps ends w e g = done-weaker (Made w e) (Kept w e) (made-kept keeps ends w e g) (world_result_of w e) (turn-made w e)
