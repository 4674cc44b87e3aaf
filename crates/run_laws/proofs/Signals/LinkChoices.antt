-- What is seen of a subchannel is what it keeps, after the subsystem chose for it; and what was chosen was due.
use Rattle.std.proofs.Common.{◌≡◌, refl, sym, ◌∙◌, ap, subst, ℕ, ◌+◌, ◌<◌, ◌≤◌, ◌&&◌, Bool, true, false, not, Option, None, Some, Result, List, ◌∷◌, length, slice_get, IfOk, if◌then◌else◌, inl, inr, arith}
use Rattle.std.specs.Prelude.{◌⊎◌, unwrap_or}
use Rattle.std.proofs.lemmas.Bool.{and_parts}
use Rattle.allegiance.specs.Allegiances.{may_reconnect}
use Rattle.allegiance.specs.PathUse.{reachable_paths, usable_paths, allowed_paths}
use Rattle.chan_model.specs.PathSets.{is_member, is_any, in_both}
use Rattle.chan_model.specs.declared.fault.Fault.{Fault}
use Rattle.chan_model.specs.declared.hold_state.HoldPhase.{HoldPhase}
use Rattle.chan_model.specs.declared.hold_state.HoldPhase.TheVariants as hold
use Rattle.chan_model.specs.declared.hold_state.HoldState.{HoldState}
use Rattle.chan_model.specs.Signals.{Down, Up}
use Rattle.chan_model.specs.declared.signal.Down.TheVariants as down
use Rattle.chan_model.specs.declared.signal.Up.TheVariants as up
use Rattle.chan_model.specs.HoldTable.{hold_after, sending_reset}
use Rattle.chan_model.specs.ResetCauses.{engaged_path}
use Rattle.path_select.specs.Choice.{IsChoice}
use Rattle.subchannel_model.specs.declared.cause.StatusCause.{StatusCause}
use Rattle.subchannel_model.specs.declared.cause.StatusCause.TheVariants as cause
use Rattle.subchannel_model.specs.declared.state.Candidate.{Candidate}
use Rattle.subchannel_model.specs.declared.state.Chosen.{Chosen}
use Rattle.subchannel_model.specs.declared.state.Chosen.TheVariants.{Idle, Resets, PerformsClear, Halts, PerformsHalt, FindsNoPath, Offers}
use Rattle.subchannel_model.specs.declared.state.Subchannel.{Subchannel}
use Rattle.subchannel_model.specs.declared.state.SubchannelState.{SubchannelState}
use Rattle.subchannel_model.specs.Causes.{with_cause}
use Rattle.subchannel_model.specs.Choosing.{unsent_reset, is_away, first_some, candidate, path_use, engaged_paths, return_paths, paths_to_choose, reset_chosen, clear_chosen, halt_at, over_unless, offer_at, chosen, IsFitFor, reset_sent, halt_sent, offered, halt_chosen, offer_chosen, paths_by, unsent_at}
use Rattle.subchannel_model.specs.Sending.{carried_by, finds_full, with_any_sent}
use Rattle.subchannel_model.specs.Store.{available_paths}
use Rattle.machine_model.specs.ChooseSteps.{choose_sub}
use Rattle.machine_model.specs.Results.{SubResult, with_state}
use Rattle.run_laws.proofs.Machine.PathSets.{both-parts, without-parts, each-true, usable-member}
use Rattle.run_laws.proofs.Machine.SameState.{cause-same}
use Rattle.run_laws.proofs.Machine.WaitingSignals.{carried-each, signals-weaker}
use Rattle.run_laws.specs.Links.{Link, Nowhere, Offered, Resetting, Reset_sent, SubSeen, has_up, sub_chosen, IsUp, IsResetDue, IsHaltDue, IsChosenRight}
use Rattle.run_laws.proofs.Signals.LinkHolds.{Stands, link_at, IsDue, IsByFirst, IsHeldAs, certain}
use Rattle.run_laws.proofs.Signals.LinkMeets.{IsSeenUp}
use Rattle.run_laws.proofs.Signals.LinkPaths.{IsShownBy, member-up, up-member, member-usable}
use Rattle.run_laws.proofs.Signals.LinkSubs.{IsTied, same-tied}
use Rattle.run_laws.proofs.Signals.LinkUnits.{IsSeenDown}

-- what may be chosen, by the phase of the hold, the Reset that was not sent, and the path that was chosen
abbrev IsHaltFor : HoldPhase → Option ℕ → ℕ → ℕ → Type 0
IsHaltFor (hold.On u q c) choice t path = (t ≡ u) × (path ≡ q)
IsHaltFor (hold.Away u) choice t path = (t ≡ u) × (choice ≡ Some path)
IsHaltFor phase choice t path = ⊥

abbrev pub IsFor : HoldPhase → Option ℕ → Option ℕ → Chosen → Type 0
IsFor phase unsent choice (Resets r path) = (unsent ≡ Some r) × (choice ≡ Some path)
IsFor phase unsent choice (Halts t path) = IsHaltFor phase choice t path
IsFor phase unsent choice (Offers c path) = choice ≡ Some path
IsFor phase unsent choice c = Unit {0}

abbrev AreFor : HoldPhase → Option ℕ → Option ℕ → Option Chosen → Type 0
AreFor phase unsent choice None = Unit {0}
AreFor phase unsent choice (Some c) = IsFor phase unsent choice c

first-for : (phase : HoldPhase) (unsent choice : Option ℕ) (a : Option Chosen) (later : List (Option Chosen)) → AreFor phase unsent choice a → AreFor phase unsent choice (first_some later) →
    AreFor phase unsent choice (first_some (a ∷ later))
first-for phase unsent choice None later here after = after
first-for phase unsent choice (Some x) later here after = here

or-idle : (phase : HoldPhase) (unsent choice : Option ℕ) (a : Option Chosen) → AreFor phase unsent choice a → IsFor phase unsent choice (unwrap_or a Idle)
or-idle phase unsent choice None here = tt
or-idle phase unsent choice (Some x) here = here

reset-for : (phase : HoldPhase) (unsent choice : Option ℕ) → AreFor phase unsent choice (reset_chosen unsent choice)
reset-for phase None choice = tt
reset-for phase (Some r) None = tt
reset-for phase (Some r) (Some path) = (refl, refl)

clear-for : (phase : HoldPhase) (unsent choice : Option ℕ) (pending : Bool) → AreFor phase unsent choice (clear_chosen unsent pending)
clear-for phase None choice pending = tt
clear-for phase (Some r) choice false = tt
clear-for phase (Some r) choice true = tt

halt-at-for : (phase : HoldPhase) (unsent choice : Option ℕ) → AreFor phase unsent choice (halt_at phase choice)
halt-at-for (hold.On t p c) unsent choice = (refl, refl)
halt-at-for (hold.Away t) unsent None = tt
halt-at-for (hold.Away t) unsent (Some path) = (refl, refl)
halt-at-for other unsent choice = tt

halt-for : (phase : HoldPhase) (unsent choice : Option ℕ) (pending : Bool) → AreFor phase unsent choice (halt_chosen pending phase choice)
halt-for phase unsent choice false = tt
halt-for phase unsent choice true = halt-at-for phase unsent choice

over-for : (phase : HoldPhase) (unsent choice : Option ℕ) (reachable : Bool) → AreFor phase unsent choice (over_unless reachable)
over-for phase unsent choice true = tt
over-for phase unsent choice false = tt

offer-at-for : (phase : HoldPhase) (unsent choice : Option ℕ) (c : Candidate) (reachable : Bool) → AreFor phase unsent choice (offer_at phase c reachable choice)
offer-at-for hold.Free unsent None c reachable = over-for hold.Free unsent None reachable
offer-at-for hold.Free unsent (Some path) c reachable = refl
offer-at-for (hold.Reset r) unsent choice c reachable = over-for (hold.Reset r) unsent choice reachable
offer-at-for other unsent choice c reachable = tt

offer-for : (phase : HoldPhase) (unsent choice : Option ℕ) (found : Option Candidate) (reachable : Bool) → AreFor phase unsent choice (offer_chosen phase found reachable choice)
offer-for phase unsent choice None reachable = tt
offer-for phase unsent choice (Some c) reachable = offer-at-for phase unsent choice c reachable

pub chosen-for : (sub : Subchannel) (choice : Option ℕ) → IsFor sub.state.hold.phase (unsent_reset sub.state.hold) choice (chosen sub choice)
chosen-for sub choice =
    let phase : HoldPhase = sub.state.hold.phase in
    let unsent : Option ℕ = unsent_reset sub.state.hold in
    or-idle phase unsent choice _
    (first-for phase unsent choice _ _ (reset-for phase unsent choice)
    (first-for phase unsent choice _ _ (clear-for phase unsent choice sub.state.scsw.activity.clear_pending)
    (first-for phase unsent choice _ _ (halt-for phase unsent choice sub.state.scsw.activity.halt_pending)
    (first-for phase unsent choice _ _ (offer-for phase unsent choice (candidate sub.state) (is_any (reachable_paths (path_use sub)))) tt))))

-- a Reset that is due is chosen, where a path is
abbrev pub IsResetChoice : Chosen → Type 0
IsResetChoice (Resets r path) = Unit {0}
IsResetChoice c = ⊥

first-reset : (a : Option Chosen) (later : List (Option Chosen)) (r path : ℕ) → a ≡ Some (Resets r path) → IsResetChoice (unwrap_or (first_some (a ∷ later)) Idle)
first-reset None later r path e = absurd (cc e)
first-reset (Some c) later r path e = let same : c ≡ Resets r path = cc e in subst (λ (x : Chosen). IsResetChoice x) (sym same) tt

due-chosen : (sub : Subchannel) (choice : Option ℕ) (r path : ℕ) → unsent_reset sub.state.hold ≡ Some r → choice ≡ Some path → IsResetChoice (chosen sub choice)
due-chosen sub choice r path e f = first-reset _ _ r path (ap (λ (o : Option ℕ). reset_chosen o choice) e ∙ ap (λ (o : Option ℕ). reset_chosen (Some r) o) f)

-- the paths that are chosen from are available
returns-available : (sub : Subchannel) (path : ℕ) → is_member (return_paths sub) path ≡ true → is_member (available_paths sub) path ≡ true
returns-available sub path e =
    (and_parts (is_member (available_paths sub) path) (may_reconnect sub.state.hold (available_paths sub) path)
    (each-true (λ p. is_member (available_paths sub) p && may_reconnect sub.state.hold (available_paths sub) p) path e)).0

usable-available : (subs : List Subchannel) (sub : Subchannel) (path : ℕ) → is_member (usable_paths (path_use sub) (engaged_paths subs sub)) path ≡ true →
    is_member (available_paths sub) path ≡ true
usable-available subs sub path e =
    let masks = path_use sub in
    (both-parts (in_both (allowed_paths masks) masks.installed) masks.available path (without-parts (reachable_paths masks) (engaged_paths subs sub) path e).0).1

if-available : (subs : List Subchannel) (sub : Subchannel) (path : ℕ) (b : Bool) → is_member (if b then return_paths sub else usable_paths (path_use sub) (engaged_paths subs sub)) path ≡ true →
    is_member (available_paths sub) path ≡ true
if-available subs sub path true e = returns-available sub path e
if-available subs sub path false e = usable-available subs sub path e

by-unsent : (subs : List Subchannel) (sub : Subchannel) (path : ℕ) (unsent : Option ℕ) → is_member (paths_by unsent subs sub) path ≡ true → is_member (available_paths sub) path ≡ true
by-unsent subs sub path None e = if-available subs sub path (sub.state.scsw.activity.halt_pending && is_away sub.state.hold.phase) e
by-unsent subs sub path (Some r) e = e

pub choice-available : (subs : List Subchannel) (sub : Subchannel) (choice : Option ℕ) (path : ℕ) → IsChoice (paths_to_choose subs sub) choice → choice ≡ Some path →
    is_member (available_paths sub) path ≡ true
choice-available subs sub choice path x e =
    by-unsent subs sub path (unsent_reset sub.state.hold) (usable-member (paths_to_choose subs sub) path (subst (λ (o : Option ℕ). IsChoice (paths_to_choose subs sub) o) e x))

no-choice : (set : List Bool) (choice : Option ℕ) (path : ℕ) → IsChoice set choice → path < 8 → is_member set path ≡ true → (p : ℕ) × (choice ≡ Some p)
no-choice set None path x low e = absurd (x path (low, member-usable set path e))
no-choice set (Some p) path x low e = (p, refl)

pub due-choice : (is_up : ℕ → Bool) (k : SubSeen) (subs : List Subchannel) (sub : Subchannel) (choice : Option ℕ) (r : ℕ) → IsChoice (paths_to_choose subs sub) choice → IsTied is_up k sub →
    unsent_reset sub.state.hold ≡ Some r → has_up is_up k.setup ≡ true → IsResetChoice (chosen sub choice)
due-choice is_up k subs sub choice r x tie e has =
    let got = up-member is_up sub tie.paths tie.shown (sym (ap (λ s. has_up is_up s) tie.setup) ∙ has) in
    let set : paths_to_choose subs sub ≡ available_paths sub = ap (λ (o : Option ℕ). paths_by o subs sub) e in
    let p = no-choice (available_paths sub) choice got.0 (subst (λ (ys : List Bool). IsChoice ys choice) set x) got.1.0 got.1.1 in
    due-chosen sub choice r p.0 e p.1

-- a Reset that was not sent
unsent-is : (h : HoldState) (r : ℕ) → h.phase ≡ hold.Reset r → h.reset_path ≡ None → unsent_reset h ≡ Some r
unsent-is h r e f = ap (λ (phase : HoldPhase). unsent_at phase h.reset_path) e ∙ ap (λ (o : Option ℕ). unsent_at (hold.Reset r) o) f

unsent-parts : (phase : HoldPhase) (path : Option ℕ) (r : ℕ) → unsent_at phase path ≡ Some r → (phase ≡ hold.Reset r) × (path ≡ None)
unsent-parts (hold.Reset n) None r e = let same : n ≡ r = cc e in (ap (λ (m : ℕ). hold.Reset m) same, refl)
unsent-parts (hold.Reset n) (Some p) r e = absurd (cc e)
unsent-parts other path r e = absurd (cc e)

resetting-unsent : (phase : HoldPhase) (path : Option ℕ) → link_at phase path ≡ Resetting → (r : ℕ) × (unsent_at phase path ≡ Some r)
resetting-unsent (hold.Reset r) None e = (r, refl)
resetting-unsent (hold.Reset r) (Some p) e = absurd (cc e)
resetting-unsent other path e = absurd (cc e)

link-unsent : (k : SubSeen) (h : HoldState) → Stands k h.phase h.reset_path → k.link ≡ Resetting → (r : ℕ) × (unsent_reset h ≡ Some r)
link-unsent k h (inl e) f = resetting-unsent h.phase h.reset_path (sym e ∙ f)
link-unsent k h (inr d) f = absurd (cc (sym d.apart ∙ f))

-- where nothing is offered or reset
abbrev settled : (ℕ → Bool) → SubSeen → SubSeen
settled is_up k = record k { doubt = k.doubt && not (has_up is_up k.setup) }

doubt-stays : (a b : Bool) → a ≡ true → (b ≡ true → ⊥) → (a && not b) ≡ true
doubt-stays a true e n = absurd (n refl)
doubt-stays true false e n = refl
doubt-stays false false e n = e

abbrev IsNoneDue : (ℕ → Bool) → SubSeen → HoldState → Type 0
IsNoneDue is_up k h = (r : ℕ) → unsent_reset h ≡ Some r → has_up is_up k.setup ≡ true → ⊥

settled-tied : (is_up : ℕ → Bool) (k : SubSeen) (sub : Subchannel) → IsNoneDue is_up k sub.state.hold → IsTied is_up k sub → IsTied is_up (settled is_up k) sub
settled-tied is_up k sub n tie = record {
  setup = tie.setup;
  paths = tie.paths;
  long = tie.long;
  shown = tie.shown;
  held = record {
    stands = elim tie.held.stands [
      | inl e ↦ inl e
      | inr d ↦ inr (record {
        doubt = doubt-stays k.doubt (has_up is_up k.setup) d.doubt (λ has. n d.reset (unsent-is sub.state.hold d.reset d.is_reset d.unsent) has);
        number = d.number;
        apart = d.apart;
        reset = d.reset;
        is_reset = d.is_reset;
        unsent = d.unsent;
      })
    ];
    asked = tie.held.asked;
    first = tie.held.first;
    known_restarts = tie.held.known_restarts;
    drawn = tie.held.drawn;
    due = tie.held.due;
    single = tie.held.single;
  };
  downs = tie.downs;
  ups = tie.ups;
}

pub record IsChoiceTied (is_up : ℕ → Bool) (k : SubSeen) (t : SubResult) : Type 0 where
  pub right : IsChosenRight is_up t.reply k
  pub tied : IsTied is_up (sub_chosen is_up t.reply k) t.sub

not-due : (is_up : ℕ → Bool) (k : SubSeen) (sub : Subchannel) → IsNoneDue is_up k sub.state.hold → IsTied is_up k sub → k.link ≡ Resetting → has_up is_up k.setup ≡ true → ⊥
not-due is_up k sub n tie link has = let u = link-unsent k sub.state.hold tie.held.stands link in n u.0 u.1 has

cause-tied : (is_up : ℕ → Bool) (k : SubSeen) (sub : Subchannel) (c : StatusCause) → IsNoneDue is_up k sub.state.hold → IsTied is_up k sub →
    IsTied is_up (settled is_up k) (with_state sub (with_cause sub.state c))
cause-tied is_up k sub c n tie = same-tied is_up (settled is_up k) sub (with_cause sub.state c) (cause-same sub.state c) (settled-tied is_up k sub n tie)

-- a signal is sent
down-more : (n m : ℕ) → n ≤ m → (q : ℕ) (d : Down) → IsSeenDown n d → IsSeenDown m d
down-more n m l q (down.Select t) a = tt
down-more n m l q (down.Command t i code room) a = tt
down-more n m l q (down.Grant t c) a = tt
down-more n m l q (down.Refuse t c) a = tt
down-more n m l q (down.Took t i s room) a = tt
down-more n m l q (down.Give bytes t c i s) a = tt
down-more n m l q (down.Halt t) a = tt
down-more n m l q (down.Release t) a = tt
down-more n m l q (down.Reset r b) a = omega (arith, l, a)
down-more n m l q (down.Got b) a = tt

up-more : (n m : ℕ) → n ≤ m → (q : ℕ) (x : Up) → IsSeenUp n x → IsSeenUp m x
up-more n m l q (up.Accept t) a = tt
up-more n m l q (up.Busy t) a = tt
up-more n m l q (up.Leave t c) a = tt
up-more n m l q (up.Back t c) a = tt
up-more n m l q (up.Data load t c i s) a = tt
up-more n m l q (up.End t i status more) a = tt
up-more n m l q (up.Released t) a = tt
up-more n m l q (up.Cleared r) a = omega (arith, l, a)
up-more n m l q (up.Notice b) a = tt
up-more n m l q (up.Attn b status) a = tt

abbrev sent_down : Subchannel → SubchannelState → ℕ → Down → Subchannel
sent_down sub x path signal =
    record sub { state = x; wires = record sub.wires { down = with_any_sent sub.wires.down (carried_by sub (Some (record { path = path; signal = signal }))) } }

sent-tied : (is_up : ℕ → Bool) (k next : SubSeen) (sub : Subchannel) (x : SubchannelState) (path : ℕ) (signal : Down) → next.setup ≡ k.setup → k.drawn ≤ next.drawn →
    x.pmcw.available ≡ sub.state.pmcw.available → IsHeldAs next x.hold x.drawn → IsSeenDown next.drawn signal → IsTied is_up k sub → IsTied is_up next (sent_down sub x path signal)
sent-tied is_up k next sub x path signal e l a held seen tie = record {
  setup = e ∙ tie.setup;
  paths = tie.paths;
  long = ap length a ∙ tie.long;
  shown = subst (λ (available : List Bool). IsShownBy is_up sub.setup.paths available) (sym a) tie.shown;
  held = held;
  downs = carried-each (λ p d. IsSeenDown next.drawn d) sub.wires.down sub.state.pmcw.available (Some (record { path = path; signal = signal })) (λ h. seen)
      (signals-weaker (λ p d. IsSeenDown k.drawn d) (λ p d. IsSeenDown next.drawn d) sub.wires.down (down-more k.drawn next.drawn l) tie.downs);
  ups = signals-weaker (λ p d. IsSeenUp k.drawn d) (λ p d. IsSeenUp next.drawn d) sub.wires.up (up-more k.drawn next.drawn l) tie.ups;
}

-- Halt
halt-link : (k : SubSeen) (phase : HoldPhase) (path choice : Option ℕ) (t p : ℕ) → IsHaltFor phase choice t p → Stands k phase path → IsHaltDue k.link t p
halt-link k (hold.On u q c) path choice t p h s = subst (λ (l : Link). IsHaltDue l t p) (sym (certain k (hold.On u q c) path (λ r e. absurd (cc e)) s)) h
halt-link k (hold.Away u) path choice t p h s = subst (λ (l : Link). IsHaltDue l t p) (sym (certain k (hold.Away u) path (λ r e. absurd (cc e)) s)) h.0
halt-link k other path choice t p h s = absurd h

halt-path : (phase : HoldPhase) (choice : Option ℕ) (t p : ℕ) → IsHaltFor phase choice t p → (engaged_path phase ≡ Some p) ⊎ (choice ≡ Some p)
halt-path (hold.On u q c) choice t p h = inl (ap Some (sym h.1))
halt-path (hold.Away u) choice t p h = inr h.1
halt-path other choice t p h = absurd h

-- Reset
due-reset : (k : SubSeen) (r : ℕ) (phase : HoldPhase) (path : Option ℕ) → phase ≡ hold.Reset r → path ≡ None → Stands k phase path → IsResetDue k
due-reset k r phase path e f (inl s) = inl (s ∙ ap (λ (y : HoldPhase). link_at y path) e ∙ ap (λ (o : Option ℕ). link_at (hold.Reset r) o) f)
due-reset k r phase path e f (inr d) = inr d.doubt

due-number : (seen n r : ℕ) (phase : HoldPhase) (path : Option ℕ) → phase ≡ hold.Reset r → path ≡ None → IsDue seen n phase path → (seen < r) × (r ≤ n)
due-number seen n r phase path e f d = subst (λ (o : Option ℕ). IsDue seen n (hold.Reset r) o) f (subst (λ (y : HoldPhase). IsDue seen n y path) e d)

reset-held : (k : SubSeen) (h : HoldState) (n r path : ℕ) → h.phase ≡ hold.Reset r → r ≤ n → IsHeldAs k h n →
    IsHeldAs (record k { link = Reset_sent r path; doubt = false; drawn = r }) (hold_after h (sending_reset h h.phase path)) n
reset-held k h n r path e l tie =
    subst (λ (x : HoldState). IsHeldAs (record k { link = Reset_sent r path; doubt = false; drawn = r }) x n)
    (sym (ap (λ (y : HoldPhase). hold_after h (sending_reset h y path)) e))
    (record {
      stands = inl (sym (ap (λ (y : HoldPhase). link_at y (Some path)) e));
      asked = tie.asked;
      first = tie.first;
      known_restarts = tie.known_restarts;
      drawn = l;
      due = subst (λ (y : HoldPhase). IsDue r n y (Some path)) (sym e) tt;
      single = subst (λ (y : HoldPhase). IsByFirst y h.single_path h.first_path) (sym e) tt;
    })

-- all together
if-ok : {A : Type 0} (P : A → Type 0) (b : Bool) (x y : Result A Fault) → IfOk x P → IfOk y P → IfOk (if b then x else y) P
if-ok P true x y e f = e
if-ok P false x y e f = f

pub record IsGoodChoice (is_up : ℕ → Bool) (k : SubSeen) (sub : Subchannel) (choice : Option ℕ) (c : Chosen) : Type 0 where
  pub chosen : IsFor sub.state.hold.phase (unsent_reset sub.state.hold) choice c
  pub fits : IsFitFor c sub.state.hold
  pub engaged : (p : ℕ) → engaged_path sub.state.hold.phase ≡ Some p → is_member (available_paths sub) p ≡ true
  pub available : (p : ℕ) → choice ≡ Some p → is_member (available_paths sub) p ≡ true
  pub due : (r : ℕ) → unsent_reset sub.state.hold ≡ Some r → has_up is_up k.setup ≡ true → IsResetChoice c

is-up : (is_up : ℕ → Bool) (k : SubSeen) (sub : Subchannel) (p : ℕ) → IsTied is_up k sub → is_member (available_paths sub) p ≡ true → IsUp is_up k p
is-up is_up k sub p tie e = let got = member-up is_up sub p tie.shown e in (got.0, ap (λ s. slice_get s.paths p) tie.setup ∙ got.1, got.2)

pub choose-tied : (is_up : ℕ → Bool) (k : SubSeen) (sub : Subchannel) (choice : Option ℕ) (c : Chosen) → IsGoodChoice is_up k sub choice c → IsTied is_up k sub → IfOk (choose_sub sub c) (IsChoiceTied is_up k)
choose-tied is_up k sub choice Idle g tie = record { right = (tt, not-due is_up k sub g.due tie); tied = settled-tied is_up k sub g.due tie }
choose-tied is_up k sub choice (Resets r path) g tie =
    let parts = unsent-parts sub.state.hold.phase sub.state.hold.reset_path r g.chosen.0 in
    let above = due-number k.drawn sub.state.drawn r sub.state.hold.phase sub.state.hold.reset_path parts.0 parts.1 tie.held.due in
    let rises : k.drawn < r = above.0 in
    if-ok (IsChoiceTied is_up k) (finds_full sub.wires.down (carried_by sub (Some (record { path = path; signal = down.Reset r sub.state.hold.known_restarts })))) _ _ tt
    (record {
      right = (
        (
          due-reset k r sub.state.hold.phase sub.state.hold.reset_path parts.0 parts.1 tie.held.stands,
          rises,
          is-up is_up k sub path tie (g.available path g.chosen.1),
        ),
        λ link has. tt,
      );
      tied = sent-tied is_up k (record k { link = Reset_sent r path; doubt = false; drawn = r }) sub (reset_sent sub.state path) path (down.Reset r sub.state.hold.known_restarts) refl (omega (arith, rises)) refl
          (reset-held k sub.state.hold sub.state.drawn r path parts.0 above.1 tie.held) (omega arith) tie;
    })
choose-tied is_up k sub choice PerformsClear g tie = record { right = (tt, not-due is_up k sub g.due tie); tied = cause-tied is_up k sub cause.ClearDone g.due tie }
choose-tied is_up k sub choice (Halts t path) g tie =
    let settles : IsTied is_up (settled is_up k) sub = settled-tied is_up k sub g.due tie in
    let available : is_member (available_paths sub) path ≡ true =
    elim (halt-path sub.state.hold.phase choice t path g.chosen) [
      | inl e ↦ g.engaged path e
      | inr e ↦ g.available path e
    ] in
    if-ok (IsChoiceTied is_up k) (finds_full sub.wires.down (carried_by sub (Some (record { path = path; signal = down.Halt t })))) _ _ tt
    (record {
      right = (
        (halt-link k sub.state.hold.phase sub.state.hold.reset_path choice t path g.chosen tie.held.stands, is-up is_up k sub path tie available),
        not-due is_up k sub g.due tie,
      );
      tied = sent-tied is_up (settled is_up k) (settled is_up k) sub (halt_sent sub.state) path (down.Halt t) refl (omega arith) refl settles.held tt settles;
    })
choose-tied is_up k sub choice PerformsHalt g tie = record { right = (tt, not-due is_up k sub g.due tie); tied = cause-tied is_up k sub cause.HaltDone g.due tie }
choose-tied is_up k sub choice FindsNoPath g tie = record { right = (tt, not-due is_up k sub g.due tie); tied = cause-tied is_up k sub cause.NoPath g.due tie }
choose-tied is_up k sub choice (Offers c path) g tie =
    let nowhere : k.link ≡ Nowhere =
    certain k sub.state.hold.phase sub.state.hold.reset_path (λ r e. absurd (cc (sym g.fits ∙ e))) tie.held.stands ∙ ap (λ (y : HoldPhase). link_at y sub.state.hold.reset_path) g.fits in
    let below : k.drawn ≤ sub.state.drawn = tie.held.drawn in
    let x : SubchannelState = offered sub.state c.program path in
    if-ok (IsChoiceTied is_up k) (finds_full sub.wires.down (carried_by sub (Some (record { path = path; signal = down.Select (sub.state.drawn + 1) })))) _ _ tt
    (record {
      right = ((nowhere, omega (arith, below), is-up is_up k sub path tie (g.available path g.chosen)), λ link has. absurd (cc (sym nowhere ∙ link)));
      tied = sent-tied is_up k (record k { link = Offered (sub.state.drawn + 1) path; doubt = false; drawn = sub.state.drawn + 1 }) sub x path (down.Select (sub.state.drawn + 1)) refl
          (omega (arith, below)) refl
          (record { stands = inl refl; asked = tie.held.asked; first = tie.held.first; known_restarts = tie.held.known_restarts; drawn = omega arith; due = tt; single = tt }) tt tie;
    })
