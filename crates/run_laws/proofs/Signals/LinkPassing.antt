-- What is seen of a subchannel is what it keeps, after a signal between it and its unit.
use Rattle.std.proofs.Common.{◌≡◌, refl, sym, ◌∙◌, ap, subst, ℕ, nat_lt, Bool, true, false, Option, None, Some, Result, List, length, slice_get, IfOk, if◌then◌else◌}
use Rattle.std.proofs.lemmas.Bool.{eqb-true}
use Rattle.allegiance.specs.Allegiances.{may_reconnect}
use Rattle.chan_model.specs.PathSets.{is_member}
use Rattle.chan_events.specs.declared.event.UnitAct.{UnitAct}
use Rattle.chan_events.specs.declared.reply.Reply.TheVariants as reply
use Rattle.chan_model.specs.declared.fault.Fault.{Fault}
use Rattle.chan_model.specs.declared.hold_state.HoldPhase.{HoldPhase}
use Rattle.chan_model.specs.Reports.{Report}
use Rattle.chan_model.specs.Signals.{Down, Up}
use Rattle.chan_model.specs.declared.signal.Down.TheVariants as down
use Rattle.chan_model.specs.declared.signal.OnPath.{OnPath}
use Rattle.chan_model.specs.declared.unit_state.UnitState.{UnitState}
use Rattle.chan_model.specs.ResetCauses.{is_path}
use Rattle.chan_model.specs.UnitReports.{unit_reports}
use Rattle.chan_model.specs.UnitTable as unit_table
use Rattle.chan_model.specs.UnitTable.{UnitStep, unit_takes}
use Rattle.storage_keys.specs.Storage.{Contents}
use Rattle.wires.specs.Queues.{queue, taken}
use Rattle.subchannel_model.specs.declared.state.Subchannel.{Subchannel}
use Rattle.subchannel_model.specs.declared.state.UpStep.{UpStep}
use Rattle.subchannel_model.specs.Sending.{carried_by, finds_full, with_any_sent}
use Rattle.subchannel_model.specs.Store.{available_paths}
use Rattle.subchannel_model.specs.Taking.{takes_up}
use Rattle.machine_model.specs.ActSteps.{has_path_of_act, acts, act_sub}
use Rattle.machine_model.specs.DownSteps.{down_front, down_sub}
use Rattle.machine_model.specs.ReportSteps.{report_taken, report_sub}
use Rattle.machine_model.specs.Results.{UpResult, DownResult}
use Rattle.machine_model.specs.UpSteps.{up_front, up_sub}
use Rattle.run_laws.proofs.Machine.Meeting.{AreAnswers, takes-met}
use Rattle.run_laws.proofs.Machine.WaitingSignals.{Each, OnSent, each-front, taken-each, carried-each}
use Rattle.run_laws.specs.Links.{SubSeen, sub_met, IsUp, IsSentFor, AreSentFor, IsMetRight}
use Rattle.run_laws.proofs.Signals.LinkHolds.{IsSentAs, AreSentAs, Turned}
use Rattle.run_laws.proofs.Signals.LinkMeets.{IsSeenUp, takes-turned}
use Rattle.run_laws.proofs.Signals.LinkPaths.{IsShownBy, member-up}
use Rattle.run_laws.proofs.Signals.LinkSubs.{IsTied}
use Rattle.run_laws.proofs.Signals.LinkUnits.{IsSeenDown, AreSeenUp, takes-seen, reports-seen, acts-seen}

-- a path by which a program may come back
pub record MayReturn (sub : Subchannel) (path : ℕ) : Type 0 where
  pub available : is_member (available_paths sub) path ≡ true
  pub first : may_reconnect sub.state.hold (available_paths sub) path ≡ true

path-is : (o : Option ℕ) (p : ℕ) → is_path o p ≡ true → o ≡ Some p
path-is None p e = absurd (cc e)
path-is (Some q) p e = ap Some (eqb-true q p e)

first-path : (single more : Bool) (first : Option ℕ) (p : ℕ) → (if single then is_path first p else more) ≡ true → single ≡ true → first ≡ Some p
first-path true more first p e s = path-is first p e
first-path false more first p e s = absurd (cc s)

-- what is sent is what may be sent
sent-for : (is_up : ℕ → Bool) (k : SubSeen) (path : ℕ) (x : Up) (q : ℕ) (d : Down) → IsSentAs k path x q d → (((t c : ℕ) → d ≡ down.Grant t c → IsUp is_up k path)) → IsSentFor is_up k path x q d
sent-for is_up k path x q (down.Select t) a f = a
sent-for is_up k path x q (down.Command t n code room) a f = a
sent-for is_up k path x q (down.Grant t c) a f = (a.0, a.1, a.2, a.3, f t c refl)
sent-for is_up k path x q (down.Refuse t c) a f = a
sent-for is_up k path x q (down.Took t n s room) a f = a
sent-for is_up k path x q (down.Give bytes t c n s) a f = a
sent-for is_up k path x q (down.Halt t) a f = a
sent-for is_up k path x q (down.Release t) a f = a
sent-for is_up k path x q (down.Reset r b) a f = a
sent-for is_up k path x q (down.Got a) b f = b

-- a Grant is sent where the program may come back
returns-on : (returns : Bool) (p : ℕ) (phase : HoldPhase) (s : OnPath Down) (t c : ℕ) → AreAnswers returns p phase (Some s) → s.signal ≡ down.Grant t c → returns ≡ true
returns-on returns p phase s t c a e = (subst (λ (d : Down). AreAnswers returns p phase (Some (record { path = s.path; signal = d }))) e a).0

sents-for : (is_up : ℕ → Bool) (k : SubSeen) (path : ℕ) (x : Up) (returns : Bool) (phase : HoldPhase) (taken : Bool) (one : Option (OnPath Down)) → AreSentAs k path x taken one →
    AreAnswers returns path phase one → (returns ≡ true → IsUp is_up k path) → AreSentFor is_up k path x taken one
sents-for is_up k path x returns phase taken None a b f = a
sents-for is_up k path x returns phase taken (Some s) a b f = sent-for is_up k path x s.path s.signal a (λ t c e. f (returns-on returns path phase s t c b e))

-- none of it is a Reset
sent-seen : (n : ℕ) (k : SubSeen) (path : ℕ) (x : Up) (q : ℕ) (d : Down) → IsSentAs k path x q d → IsSeenDown n d
sent-seen n k path x q (down.Select t) a = tt
sent-seen n k path x q (down.Command t m code room) a = tt
sent-seen n k path x q (down.Grant t c) a = tt
sent-seen n k path x q (down.Refuse t c) a = tt
sent-seen n k path x q (down.Took t m s room) a = tt
sent-seen n k path x q (down.Give bytes t c m s) a = tt
sent-seen n k path x q (down.Halt t) a = tt
sent-seen n k path x q (down.Release t) a = tt
sent-seen n k path x q (down.Reset r b) a = absurd a
sent-seen n k path x q (down.Got a) b = tt

sents-seen : (n : ℕ) (k : SubSeen) (path : ℕ) (x : Up) (available : List Bool) (taken : Bool) (one : Option (OnPath Down)) → AreSentAs k path x taken one →
    OnSent (λ p d. IsSeenDown n d) available one
sents-seen n k path x available taken None a = tt
sents-seen n k path x available taken (Some s) a = λ e. sent-seen n k path x s.path s.signal a

met-seen : (k : SubSeen) (x : Up) (taken : Bool) (sent : Option (OnPath Down)) → ((sub_met (reply.Up x taken sent) k).setup ≡ k.setup) × ((sub_met (reply.Up x taken sent) k).drawn ≡ k.drawn)
met-seen k x true sent = (refl, refl)
met-seen k x false sent = (refl, refl)

-- a signal that came up
pub record IsUpTied (is_up : ℕ → Bool) (k : SubSeen) (path : ℕ) (t : UpResult) : Type 0 where
  pub right : IsMetRight is_up path t.reply k
  pub tied : IsTied is_up (sub_met t.reply k) t.sub

if-ok : {A : Type 0} (P : A → Type 0) (b : Bool) (x y : Result A Fault) → IfOk x P → IfOk y P → IfOk (if b then x else y) P
if-ok P true x y e f = e
if-ok P false x y e f = f

front-tied : (is_up : ℕ → Bool) (k : SubSeen) (returns : Bool) (storage : Contents) (sub : Subchannel) (path : ℕ) (front : Option Up) → (returns ≡ true → MayReturn sub path) →
    slice_get (queue sub.wires.up path) 0 ≡ front → IsTied is_up k sub → IfOk (up_front returns storage sub path front) (IsUpTied is_up k path)
front-tied is_up k returns storage sub path None may e tie = tt
front-tied is_up k returns storage sub path (Some x) may e tie =
    let step : UpStep = (takes_up returns storage sub.state path x).step in
    let seen : IsSeenUp k.drawn x = each-front (λ y. IsSeenUp k.drawn y) (queue sub.wires.up path) x (tie.ups path) e in
    let single : returns ≡ true → sub.state.hold.single_path ≡ true → sub.state.hold.first_path ≡ Some path =
    λ r s. first-path sub.state.hold.single_path (is_member (available_paths sub) path) sub.state.hold.first_path path (may r).first s in
    let t : Turned path x k step.outcome.taken step.outcome.sent step.state.hold step.state.drawn = takes-turned returns storage sub.state path x k single seen tie.held in
    let m = takes-met returns storage sub.state path x in
    let same = met-seen k x step.outcome.taken step.outcome.sent in
    let next : SubSeen = sub_met (reply.Up x step.outcome.taken step.outcome.sent) k in
    let is : returns ≡ true → IsUp is_up k path =
    λ r.
    let got = member-up is_up sub path tie.shown (may r).available in
    (got.0, ap (λ s. slice_get s.paths path) tie.setup ∙ got.1, got.2) in
    if-ok (IsUpTied is_up k path) (finds_full sub.wires.down (carried_by sub step.outcome.sent)) _ _ tt
    (record {
      right = (t.taken, sents-for is_up k path x returns sub.state.hold.phase step.outcome.taken step.outcome.sent t.sent m.sent is);
      tied = record {
        setup = same.0 ∙ tie.setup;
        paths = tie.paths;
        long = ap length m.available ∙ tie.long;
        shown = subst (λ (available : List Bool). IsShownBy is_up sub.setup.paths available) (sym m.available) tie.shown;
        held = t.after;
        downs = subst (λ (n : ℕ). (q : ℕ) → Each (λ d. IsSeenDown n d) (queue (with_any_sent sub.wires.down (carried_by sub step.outcome.sent)) q)) (sym same.1)
            (carried-each (λ p d. IsSeenDown k.drawn d) sub.wires.down sub.state.pmcw.available step.outcome.sent (sents-seen k.drawn k path x sub.state.pmcw.available step.outcome.taken step.outcome.sent t.sent) tie.downs);
        ups = subst (λ (n : ℕ). (q : ℕ) → Each (λ y. IsSeenUp n y) (queue (taken sub.wires.up path) q)) (sym same.1)
            (taken-each (λ p y. IsSeenUp k.drawn y) sub.wires.up path tie.ups);
      };
    })

pub met-tied : (is_up : ℕ → Bool) (k : SubSeen) (returns : Bool) (storage : Contents) (sub : Subchannel) (path : ℕ) → (returns ≡ true → MayReturn sub path) → IsTied is_up k sub →
    IfOk (up_sub returns storage sub path) (IsUpTied is_up k path)
met-tied is_up k returns storage sub path may tie =
    if-ok (IsUpTied is_up k path) (nat_lt path (length sub.setup.paths)) (up_front returns storage sub path (slice_get (queue sub.wires.up path) 0)) _
    (front-tied is_up k returns storage sub path (slice_get (queue sub.wires.up path) 0) may refl tie) tt

-- a step of the unit
abbrev pub IsDownTied : (ℕ → Bool) → SubSeen → DownResult → Type 0
IsDownTied is_up k t = IsTied is_up k t.sub

ups-seen : (n : ℕ) (available : List Bool) (one : Option (OnPath Up)) → AreSeenUp n one → OnSent (λ p x. IsSeenUp n x) available one
ups-seen n available None a = tt
ups-seen n available (Some s) a = λ e. a

down-front-tied : (is_up : ℕ → Bool) (k : SubSeen) (may : Bool) (sub : Subchannel) (path : ℕ) (u : UnitState) (front : Option Down) → slice_get (queue sub.wires.down path) 0 ≡ front → IsTied is_up k sub →
    IfOk (down_front may sub path u front) (IsDownTied is_up k)
down-front-tied is_up k may sub path u None e tie = tt
down-front-tied is_up k may sub path u (Some d) e tie =
    let one : Option (OnPath Up) = (unit_table.outcome_of (unit_takes u sub.setup.side path d may)).sent in
    let seen : IsSeenDown k.drawn d = each-front (λ y. IsSeenDown k.drawn y) (queue sub.wires.down path) d (tie.downs path) e in
    if-ok (IsDownTied is_up k) (finds_full sub.wires.up (carried_by sub one)) _ _ tt
    (record {
      setup = tie.setup;
      paths = tie.paths;
      long = tie.long;
      shown = tie.shown;
      held = tie.held;
      downs = taken-each (λ p y. IsSeenDown k.drawn y) sub.wires.down path tie.downs;
      ups = carried-each (λ p y. IsSeenUp k.drawn y) sub.wires.up sub.state.pmcw.available one (ups-seen k.drawn sub.state.pmcw.available one (takes-seen k.drawn u sub.setup.side path d may seen)) tie.ups;
    })

pub sunk-tied : (is_up : ℕ → Bool) (k : SubSeen) (may : Bool) (sub : Subchannel) (path : ℕ) (u : UnitState) → IsTied is_up k sub → IfOk (down_sub may sub path u) (IsDownTied is_up k)
sunk-tied is_up k may sub path u tie =
    if-ok (IsDownTied is_up k) (nat_lt path (length sub.setup.paths)) (down_front may sub path u (slice_get (queue sub.wires.down path) 0)) _
    (down-front-tied is_up k may sub path u (slice_get (queue sub.wires.down path) 0) refl tie) tt

step-tied : (is_up : ℕ → Bool) (k : SubSeen) (sub : Subchannel) (step : Option UnitStep) → AreSeenUp k.drawn (unit_table.outcome_of step).sent → IsTied is_up k sub →
    IfOk (report_taken sub step) (IsDownTied is_up k)
step-tied is_up k sub None seen tie = tt
step-tied is_up k sub (Some step) seen tie =
    if-ok (IsDownTied is_up k) (finds_full sub.wires.up (carried_by sub step.sent)) _ _ tt
    (record {
      setup = tie.setup;
      paths = tie.paths;
      long = tie.long;
      shown = tie.shown;
      held = tie.held;
      downs = tie.downs;
      ups = carried-each (λ p y. IsSeenUp k.drawn y) sub.wires.up sub.state.pmcw.available step.sent (ups-seen k.drawn sub.state.pmcw.available step.sent seen) tie.ups;
    })

pub report-tied : (is_up : ℕ → Bool) (k : SubSeen) (sub : Subchannel) (u : UnitState) (r : Report) → IsTied is_up k sub → IfOk (report_sub sub u r) (IsDownTied is_up k)
report-tied is_up k sub u r tie = step-tied is_up k sub (unit_reports u r) (reports-seen k.drawn u r) tie

pub act-tied : (is_up : ℕ → Bool) (k : SubSeen) (sub : Subchannel) (u : UnitState) (what : UnitAct) → IsTied is_up k sub → IfOk (act_sub sub u what) (IsDownTied is_up k)
act-tied is_up k sub u what tie =
    if-ok (IsDownTied is_up k) (has_path_of_act sub what) (report_taken sub (acts u sub.setup.side what)) _
    (step-tied is_up k sub (acts u sub.setup.side what) (acts-seen k.drawn u sub.setup.side what) tie) tt
