-- Each step keeps what holds of a unit and its links.
use Rattle.std.proofs.Common.{◌≡◌, ◌≢◌, ℕ, ◌<◌, ◌≤◌, ◌⊎◌, inl, inr, true, Option, None, Some, List, [], ◌∷◌, ◌++◌, sym, subst, arith}
use Rattle.std.specs.Prelude.{All, Contains, IfSome}
use Rattle.std.proofs.lemmas.List.Elements.{All-weaker, All-push, All-contains, All-get_or}
use Rattle.std.proofs.lemmas.List.Quantifiers.{all_pairs_push}
use Rattle.std.proofs.Math.ListN.{get_or}
use Rattle.chan_model.specs.declared.names.Side.{Side}
use Rattle.chan_model.specs.declared.names.Side.TheVariants.{First, Second}
use Rattle.chan_model.specs.declared.hold_state.HoldState.{HoldState}
use Rattle.chan_model.specs.declared.signal.OnPath.{OnPath}
use Rattle.chan_model.specs.Signals.{Down}
use Rattle.chan_model.specs.Signals.{Up}
use Rattle.chan_model.specs.declared.signal.Up.TheVariants as up
use Rattle.chan_model.specs.declared.unit_state.UnitState.{UnitState}
use Rattle.chan_model.specs.UnitTable.{side_of, unit_after}
use Rattle.chan_model.specs.Agreement.{Agrees, IsOutstanding, owner_of, IsAboveFloor}
use Rattle.agreement_laws.specs.Claims.{DoAgree, IsResetDue, EndsByReset, IsPassed}
use Rattle.agreement_laws.specs.Links.{Link, Links, link_of, Carries, with_signal, with_accepted}
use Rattle.agreement_laws.specs.Moving.{HoldAct, Nothing, Offers, Sends_reset, Lets_go, Is_reset, Loses, Takes, Sends, HoldActed, hold_acts, UnitAct, Takes_down, Leaves, Asks, Attends, Restarts, Notices, Reports, unit_steps, up_sent, LinkStep, LinkCause, Hold_acts, Unit_acts, IsHoldGiven, IsUnitGiven, unit_moved, sent_at, act_at, LinksStep}
use Rattle.agreement_laws.specs.Invariant.{Ends, ends_of, seen_by, AreEndsGood, IsDownGood, IsUpGood, AreRising, IsLinkGood, IsFreshFree, IsSideGood, IsGood}
use Rattle.agreement_laws.proofs.Frames.{IsNewSignal, IsNew, passed}
use Rattle.agreement_laws.proofs.HoldKeeps.{HoldMoves, IsHoldKept, hold-kept}
use Rattle.agreement_laws.proofs.HoldActs.{act-moves}
use Rattle.agreement_laws.proofs.HoldActs as holds
use Rattle.agreement_laws.proofs.UnitKeeps.{UnitMoves, IsUnitKept, unit-kept}
use Rattle.agreement_laws.proofs.UnitSteps.{unit-moves, unit-free}
use Rattle.agreement_laws.proofs.UnitSteps as units
use Rattle.agreement_laws.proofs.Clearing.{IsAnswered, answer-taken}
use Rattle.agreement_laws.proofs.Meaning.{IsDue, due-hold, due-unit, fresh-seen, seen-fresh, idle-owner, cleared-agrees}

-- what may arrive now might have arrived before, or is sent now
carried : {A : Type 0} (P Q : A → Type 0) (old : List A) (sent : Option A) (new : List A) → All P old → ((x : A) → P x → Q x) → IfSome sent Q → Carries old sent new → All Q new
carried {A} P Q old sent new all k s c =
    All-weaker (λ x. Contains old x ⊎ (sent ≡ Some x)) Q
    (λ x h. elim h [
      | inl y ↦ k x (All-contains P old x all y)
      | inr e ↦ let R : Option A → Type 0 = λ o. IfSome o Q in subst R e s
    ])
    new c

-- the numbers that were accepted
below-signal : (f g : ℕ) (ts : List ℕ) (u : Up) → f ≤ g → IsNewSignal f g u → All (λ t. t ≤ f) ts → All (λ t. t ≤ g) (with_signal ts u)
below-signal f g ts (up.Accept v) le new all = All-push (λ t. t ≤ g) ts v (All-weaker (λ t. t ≤ f) (λ t. t ≤ g) (λ t x. omega arith) ts all) new.1
below-signal f g ts (up.Busy v) le new all = All-weaker (λ t. t ≤ f) (λ t. t ≤ g) (λ t x. omega arith) ts all
below-signal f g ts (up.Leave v c) le new all = All-weaker (λ t. t ≤ f) (λ t. t ≤ g) (λ t x. omega arith) ts all
below-signal f g ts (up.Back v c) le new all = All-weaker (λ t. t ≤ f) (λ t. t ≤ g) (λ t x. omega arith) ts all
below-signal f g ts (up.Data load v c m s) le new all = All-weaker (λ t. t ≤ f) (λ t. t ≤ g) (λ t x. omega arith) ts all
below-signal f g ts (up.End v m status more) le new all = All-weaker (λ t. t ≤ f) (λ t. t ≤ g) (λ t x. omega arith) ts all
below-signal f g ts (up.Released v) le new all = All-weaker (λ t. t ≤ f) (λ t. t ≤ g) (λ t x. omega arith) ts all
below-signal f g ts (up.Cleared v) le new all = All-weaker (λ t. t ≤ f) (λ t. t ≤ g) (λ t x. omega arith) ts all
below-signal f g ts (up.Notice v) le new all = All-weaker (λ t. t ≤ f) (λ t. t ≤ g) (λ t x. omega arith) ts all
below-signal f g ts (up.Attn v status) le new all = All-weaker (λ t. t ≤ f) (λ t. t ≤ g) (λ t x. omega arith) ts all

below : (f g : ℕ) (ts : List ℕ) (sent : Option (OnPath Up)) → f ≤ g → IsNew f g sent → All (λ t. t ≤ f) ts → All (λ t. t ≤ g) (with_accepted ts sent)
below f g ts None le new all = All-weaker (λ t. t ≤ f) (λ t. t ≤ g) (λ t x. omega arith) ts all
below f g ts (Some x) le new all = below-signal f g ts x.signal le new all

pushed-rising : (f : ℕ) (ts : List ℕ) (v : ℕ) → f < v → All (λ t. t ≤ f) ts → AreRising ts → AreRising (ts ++ v ∷ [])
pushed-rising f ts v lt all rise =
    all_pairs_push (λ earlier later. earlier < later) ts v rise (λ i d less. let le : get_or ts i d ≤ f = All-get_or (λ t. t ≤ f) ts i d less all in omega arith)

rising-signal : (f g : ℕ) (ts : List ℕ) (u : Up) → IsNewSignal f g u → All (λ t. t ≤ f) ts → AreRising ts → AreRising (with_signal ts u)
rising-signal f g ts (up.Accept v) new all rise = pushed-rising f ts v new.0 all rise
rising-signal f g ts (up.Busy v) new all rise = rise
rising-signal f g ts (up.Leave v c) new all rise = rise
rising-signal f g ts (up.Back v c) new all rise = rise
rising-signal f g ts (up.Data load v c m s) new all rise = rise
rising-signal f g ts (up.End v m status more) new all rise = rise
rising-signal f g ts (up.Released v) new all rise = rise
rising-signal f g ts (up.Cleared v) new all rise = rise
rising-signal f g ts (up.Notice v) new all rise = rise
rising-signal f g ts (up.Attn v status) new all rise = rise

rising : (f g : ℕ) (ts : List ℕ) (sent : Option (OnPath Up)) → IsNew f g sent → All (λ t. t ≤ f) ts → AreRising ts → AreRising (with_accepted ts sent)
rising f g ts None new all rise = rise
rising f g ts (Some x) new all rise = rising-signal f g ts x.signal new all rise

-- both ends of a link before and after, with what was sent each way
record IsLinkKept (e x : Ends) (l : Link) (d : Option (OnPath Down)) (u : Option (OnPath Up)) : Type 0 where
  pub ends : AreEndsGood x
  pub downs : (y : OnPath Down) → IsDownGood e y.path y.signal → IsDownGood x y.path y.signal
  pub sent_down : IfSome d (λ y. IsDownGood x y.path y.signal)
  pub ups : (y : OnPath Up) → IsUpGood e l.accepted y.path y.signal → IsUpGood x (with_accepted l.accepted u) y.path y.signal
  pub sent_up : IfSome u (λ y. IsUpGood x (with_accepted l.accepted u) y.path y.signal)
  pub floor : e.floor ≤ x.floor
  pub new : IsNew e.floor x.floor u

hold-link : (e x : Ends) (l : Link) (d : Option (OnPath Down)) → e.floor ≤ x.floor → IsHoldKept e x d → IsLinkKept e x l d None
hold-link e x l d le k =
    record {
      ends = k.ends;
      downs = λ y g. k.downs y.path y.signal g;
      sent_down = k.sent;
      ups = λ y g. k.ups l.accepted y.path y.signal g;
      sent_up = tt;
      floor = le;
      new = tt;
    }

unit-link : (e x : Ends) (l : Link) (u : Option (OnPath Up)) → All (λ t. t ≤ e.floor) l.accepted → IsUnitKept e x u → IsLinkKept e x l None u
unit-link e x l u all k =
    record {
      ends = k.ends;
      downs = λ y g. k.downs y.path y.signal g;
      sent_down = tt;
      ups = λ y g. k.ups l.accepted y.path y.signal g;
      sent_up = k.sent l.accepted all;
      floor = k.floor;
      new = k.new;
    }

-- the link after it
link-after : (e x : Ends) (l new : Link) (acted : HoldActed) (u : Option (OnPath Up)) → IsLinkGood e l → IsLinkKept e x l acted.sent u → LinkStep l acted u new → IsLinkGood x new
link-after e x l new acted u g k s =
    record {
      ends = k.ends;
      downs = carried (λ y. IsDownGood e y.path y.signal) (λ y. IsDownGood x y.path y.signal) l.downs acted.sent new.downs g.downs k.downs k.sent_down s.downs;
      ups = subst (λ (ts : List ℕ). All (λ y. IsUpGood x ts y.path y.signal) new.ups) (sym s.accepted)
          (carried (λ y. IsUpGood e l.accepted y.path y.signal) (λ y. IsUpGood x (with_accepted l.accepted u) y.path y.signal) l.ups u new.ups g.ups k.ups k.sent_up s.ups);
      accepted = subst (λ (ts : List ℕ). All (λ t. t ≤ x.floor) ts) (sym s.accepted) (below e.floor x.floor l.accepted u k.floor k.new g.accepted);
      rising = subst AreRising (sym s.accepted) (rising e.floor x.floor l.accepted u k.new g.accepted g.rising);
    }

placed : (side : Side) (new : Link) (acted : HoldActed) (u v : UnitState) → new.drawn ≡ acted.drawn → new.hold ≡ acted.hold → v ≡ u →
    IsLinkGood (ends_of acted.drawn acted.hold u side) new → IsLinkGood (ends_of new.drawn new.hold v side) new
placed side new acted u v d h e g =
    subst (λ (w : UnitState). IsLinkGood (ends_of new.drawn new.hold w side) new) (sym e)
    (subst (λ (k : HoldState). IsLinkGood (ends_of new.drawn k u side) new) (sym h)
    (subst (λ (n : ℕ). IsLinkGood (ends_of n acted.hold u side) new) (sym d) g))

-- an act of a hold, at its link
given-good : (l : Link) (e : Ends) (act : HoldAct) → IsLinkGood e l → IsHoldGiven l act → holds.IsActGood e l.accepted act
given-good l e Nothing g s = tt
given-good l e (Offers p single) g s = tt
given-good l e (Sends_reset p) g s = tt
given-good l e Lets_go g s = tt
given-good l e Is_reset g s = tt
given-good l e (Loses p) g s = tt
given-good l e (Takes x may) g s = All-contains (λ y. IsUpGood e l.accepted y.path y.signal) l.ups x g.ups s
given-good l e (Sends x) g s = s

hold-moved : (side : Side) (u : UnitState) (l : Link) (act : HoldAct) → IsLinkGood (ends_of l.drawn l.hold u side) l → IsHoldGiven l act →
    HoldMoves (ends_of l.drawn l.hold u side) (ends_of (hold_acts l.drawn l.hold act).drawn (hold_acts l.drawn l.hold act).hold u side) (hold_acts l.drawn l.hold act).sent
hold-moved side u l act g s =
    act-moves l.drawn l.hold u.restarts (side_of u side).floor (seen_by (side_of u side).fresh u.own side) l.accepted act g.ends.known_restarts
    (given-good l (ends_of l.drawn l.hold u side) act g s)

hold-kept-at : (side : Side) (u : UnitState) (l : Link) (act : HoldAct) → IsLinkGood (ends_of l.drawn l.hold u side) l → IsHoldGiven l act →
    IsLinkKept (ends_of l.drawn l.hold u side) (ends_of (hold_acts l.drawn l.hold act).drawn (hold_acts l.drawn l.hold act).hold u side) l (hold_acts l.drawn l.hold act).sent None
hold-kept-at side u l act g s = hold-link _ _ l _ (omega arith) (hold-kept _ _ _ g.ends (hold-moved side u l act g s))

-- an act of the unit, at each link
taken-good : (w : Links) (act : UnitAct) (side : Side) → IsSideGood w side → IsUnitGiven w act → units.IsActGood w.«unit» act side (link_of w side).drawn (link_of w side).hold
taken-good w (Takes_down First x may) First g s =
    λ e. All-contains (λ y. IsDownGood (ends_of w.first.drawn w.first.hold w.«unit» First) y.path y.signal) w.first.downs x g.downs s
taken-good w (Takes_down First x may) Second g s = λ e. cc
taken-good w (Takes_down Second x may) First g s = λ e. cc
taken-good w (Takes_down Second x may) Second g s =
    λ e. All-contains (λ y. IsDownGood (ends_of w.second.drawn w.second.hold w.«unit» Second) y.path y.signal) w.second.downs x g.downs s
taken-good w Leaves side g s = tt
taken-good w (Asks p) side g s = tt
taken-good w (Attends k p) side g s = tt
taken-good w Restarts side g s = tt
taken-good w (Notices k p) side g s = tt
taken-good w (Reports r) side g s = tt

unit-moved : (w : Links) (act : UnitAct) (side : Side) → IsGood w → IsSideGood w side → IsUnitGiven w act →
    UnitMoves (ends_of (link_of w side).drawn (link_of w side).hold w.«unit» side) (ends_of (link_of w side).drawn (link_of w side).hold (unit_after w.«unit» (unit_steps w.«unit» act)) side)
    (up_sent w.«unit» act side)
unit-moved w act side g here s =
    unit-moves side w.«unit» act (link_of w side).drawn (link_of w side).hold g.first_free g.second_free (taken-good w act side here s)

unit-kept-at : (w : Links) (act : UnitAct) (side : Side) → IsGood w → IsSideGood w side → IsUnitGiven w act →
    IsLinkKept (ends_of (link_of w side).drawn (link_of w side).hold w.«unit» side) (ends_of (link_of w side).drawn (link_of w side).hold (unit_after w.«unit» (unit_steps w.«unit» act)) side)
    (link_of w side) None (up_sent w.«unit» act side)
unit-kept-at w act side g here s = unit-link _ _ (link_of w side) _ here.accepted (unit-kept _ _ _ here.ends (unit-moved w act side g here s))

-- each cause, at each link
given-at : (w : Links) (k side : Side) (act : HoldAct) → IsHoldGiven (link_of w k) act → IsHoldGiven (link_of w side) (act_at (Hold_acts k act) side)
given-at w First First act s = s
given-at w First Second act s = tt
given-at w Second First act s = tt
given-at w Second Second act s = s

abbrev acted_at : Links → LinkCause → Side → HoldActed
acted_at w cause side = hold_acts (link_of w side).drawn (link_of w side).hold (act_at cause side)

abbrev IsKeptAt : Links → LinkCause → Side → Type 0
IsKeptAt w cause side =
    IsLinkKept (ends_of (link_of w side).drawn (link_of w side).hold w.«unit» side)
    (ends_of (acted_at w cause side).drawn (acted_at w cause side).hold (unit_moved w.«unit» cause) side)
    (link_of w side) (acted_at w cause side).sent (sent_at w.«unit» cause side)

pub side-good : (w : Links) (side : Side) → IsGood w → IsSideGood w side
side-good w First g = g.first
side-good w Second g = g.second

link-of : (old : Links) (cause : LinkCause) (new : Links) (side : Side) → LinksStep old cause new → LinkStep (link_of old side) (acted_at old cause side) (sent_at old.«unit» cause side) (link_of new side)
link-of old cause new First s = s.first
link-of old cause new Second s = s.second

kept-at : (old : Links) (cause : LinkCause) (new : Links) (side : Side) → IsGood old → LinksStep old cause new → IsKeptAt old cause side
kept-at old (Hold_acts k act) new side g s =
    hold-kept-at side old.«unit» (link_of old side) (act_at (Hold_acts k act) side) (side-good old side g) (given-at old k side act s.given)
kept-at old (Unit_acts act) new side g s = unit-kept-at old act side g (side-good old side g) s.given

good-at : (old : Links) (cause : LinkCause) (new : Links) (side : Side) → IsGood old → LinksStep old cause new → IsSideGood new side
good-at old cause new side g s =
    let l : LinkStep (link_of old side) (acted_at old cause side) (sent_at old.«unit» cause side) (link_of new side) = link-of old cause new side s in
    placed side (link_of new side) (acted_at old cause side) (unit_moved old.«unit» cause) new.«unit» l.drawn l.hold s.«unit»
    (link-after _ _ (link_of old side) (link_of new side) (acted_at old cause side) (sent_at old.«unit» cause side) (side-good old side g) (kept-at old cause new side g s) l)

side-free : (w : Links) (side : Side) → IsGood w → IsFreshFree w.«unit» side
side-free w First g = g.first_free
side-free w Second g = g.second_free

moved-free : (w : Links) (cause : LinkCause) (side : Side) → IsGood w → IsFreshFree (unit_moved w.«unit» cause) side
moved-free w (Hold_acts k act) side g = side-free w side g
moved-free w (Unit_acts act) side g = unit-free side w.«unit» act g.first_free g.second_free (side-free w side g)

free-at : (old : Links) (cause : LinkCause) (new : Links) (side : Side) → IsGood old → LinksStep old cause new → IsFreshFree new.«unit» side
free-at old cause new side g s = subst (λ (u : UnitState). IsFreshFree u side) (sym s.«unit») (moved-free old cause side g)

pub step-kept : (old : Links) (cause : LinkCause) (new : Links) → IsGood old → LinksStep old cause new → IsGood new
step-kept old cause new g s =
    record {
      first = good-at old cause new First g s;
      second = good-at old cause new Second g s;
      first_free = free-at old cause new First g s;
      second_free = free-at old cause new Second g s;
    }

-- a reset that isn't yet taken
due-ends : (w : Links) (side : Side) → IsResetDue w side → IsDue (ends_of (link_of w side).drawn (link_of w side).hold w.«unit» side)
due-ends w side d = elim d [ inl y ↦ inl (fresh-seen (side_of w.«unit» side).fresh w.«unit».own side y) | inr y ↦ inr y ]

due-hold-at : (w : Links) (k side : Side) (act : HoldAct) → IsGood w → IsHoldGiven (link_of w k) act → IsResetDue w side →
    ((side_of w.«unit» side).fresh ≡ true) ⊎ IsAboveFloor (acted_at w (Hold_acts k act) side).hold.phase (side_of w.«unit» side).floor
due-hold-at w k side act g s d = elim d [
  | inl y ↦ inl y
  | inr y ↦ inr (due-hold _ _ _ (side-good w side g).ends
      (hold-moved side w.«unit» (link_of w side) (act_at (Hold_acts k act) side) (side-good w side g) (given-at w k side act s)) y)
]

due-unit-at : (w : Links) (act : UnitAct) (side : Side) → IsGood w → IsUnitGiven w act → IsResetDue w side →
    (((side_of (unit_after w.«unit» (unit_steps w.«unit» act)) side).fresh ≡ true) ⊎ IsAboveFloor (link_of w side).hold.phase (side_of (unit_after w.«unit» (unit_steps w.«unit» act)) side).floor)
    ⊎ (IsAnswered (link_of w side).hold.phase (up_sent w.«unit» act side) × (owner_of (unit_after w.«unit» (unit_steps w.«unit» act)).own side ≡ None))
due-unit-at w act side g s d =
    let v : UnitState = unit_after w.«unit» (unit_steps w.«unit» act) in
    elim (due-unit _ _ _ (side-good w side g).ends (unit-moved w act side g (side-good w side g) s) (due-ends w side d)) [
      | inl y ↦ inl (elim y [ inl z ↦ inl (seen-fresh (side_of v side).fresh v.own side z) | inr z ↦ inr z ])
      | inr y ↦ inr (y.0, idle-owner (side_of v side).fresh v.own side y.1)
    ]

-- the same of what is reached by equal holds and units
due-placed : (old new : Links) (cause : LinkCause) (side : Side) → (link_of new side).hold ≡ (acted_at old cause side).hold → new.«unit» ≡ unit_moved old.«unit» cause →
    IsOutstanding (acted_at old cause side).hold.phase (side_of (unit_moved old.«unit» cause) side) → IsResetDue new side
due-placed old new cause side h e d =
    subst (λ (k : HoldState). IsOutstanding k.phase (side_of new.«unit» side)) (sym h)
    (subst (λ (u : UnitState). IsOutstanding (acted_at old cause side).hold.phase (side_of u side)) (sym e) d)

agree-placed : (old new : Links) (act : UnitAct) (side : Side) → (link_of new side).hold ≡ (link_of old side).hold → new.«unit» ≡ unit_after old.«unit» (unit_steps old.«unit» act) →
    Agrees (link_of old side).hold.phase (owner_of (unit_after old.«unit» (unit_steps old.«unit» act)).own side) → DoAgree new side
agree-placed old new act side h e a =
    subst (λ (k : HoldState). Agrees k.phase (owner_of new.«unit».own side)) (sym h)
    (subst (λ (u : UnitState). Agrees (link_of old side).hold.phase (owner_of u.own side)) (sym e) a)

pub reset-ends : (old : Links) (cause : LinkCause) (new : Links) (side : Side) → IsGood old → LinksStep old cause new → EndsByReset old cause new side
reset-ends old (Hold_acts k act) new side g s d =
    inl (due-placed old new (Hold_acts k act) side (link-of old (Hold_acts k act) new side s).hold s.«unit» (due-hold-at old k side act g s.given d))
reset-ends old (Unit_acts act) new side g s d =
    let l : LinkStep (link_of old side) (acted_at old (Unit_acts act) side) (sent_at old.«unit» (Unit_acts act) side) (link_of new side) = link-of old (Unit_acts act) new side s in
    elim (due-unit-at old act side g s.given d) [
      | inl y ↦ inl (due-placed old new (Unit_acts act) side l.hold s.«unit» y)
      | inr y ↦ inr (answer-taken old.«unit» (link_of old side).hold.phase act side y.0, agree-placed old new act side l.hold s.«unit» (cleared-agrees (link_of old side).hold.phase _ _ y.0 y.1))
    ]

-- a number that was passed stays so
pub passed-on : (old : Links) (cause : LinkCause) (new : Links) (side : Side) (t : ℕ) → IsGood old → LinksStep old cause new → IsPassed old side t → IsPassed new side t
passed-on old cause new side t g s p =
    let l : LinkStep (link_of old side) (acted_at old cause side) (sent_at old.«unit» cause side) (link_of new side) = link-of old cause new side s in
    let k : IsKeptAt old cause side = kept-at old cause new side g s in
    record {
      never = subst (λ (ts : List ℕ). All (λ a. a ≢ t) ts) (sym l.accepted) (passed _ _ t (link_of old side).accepted (sent_at old.«unit» cause side) k.new p.floor p.never);
      floor = subst (λ (u : UnitState). t ≤ (side_of u side).floor) (sym s.«unit») (omega (arith, p.floor, k.floor));
    }
