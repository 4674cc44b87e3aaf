-- Each step of a unit and its two sides is right by what is seen of a side's paths.
use Rattle.std.proofs.Common.{◌≡◌, refl, sym, ◌∙◌, subst, ℕ, ◌<◌, ◌≤◌, Bool, true, false, Option, None, Some, List, inl, inr, arith}
use Rattle.std.specs.Prelude.{if◌then◌else◌, Contains}
use Rattle.std.proofs.lemmas.List.Elements.{All-contains}
use Rattle.chan_model.specs.declared.hold_state.HoldPhase.{HoldPhase}
use Rattle.chan_model.specs.declared.hold_state.HoldPhase.TheVariants as hold
use Rattle.chan_model.specs.declared.names.Side.{Side}
use Rattle.chan_model.specs.declared.names.Side.TheVariants.{First, Second}
use Rattle.chan_model.specs.Signals.{Down}
use Rattle.chan_model.specs.declared.signal.Down.TheVariants as down
use Rattle.chan_model.specs.declared.signal.OnPath.{OnPath}
use Rattle.chan_model.specs.Signals.{Up}
use Rattle.chan_model.specs.declared.signal.Up.TheVariants as up
use Rattle.chan_model.specs.declared.unit_state.UnitState.{UnitState}
use Rattle.chan_model.specs.Sides.{same_side}
use Rattle.chan_model.specs.UnitTable.{unit_after, outcome_of, restarted}
use Rattle.chan_model.proofs.OneSide.{one-side, same-side}
use Rattle.unit.proofs.Apart.{leaves-unit_takes}
use Rattle.agreement_laws.specs.Links.{Link, Links, link_of}
use Rattle.agreement_laws.specs.Moving.{HoldAct, Loses, Takes, Is_reset, still, hold_acts, hold_taken, UnitAct, Takes_down, Restarts, unit_steps, is_to, sent_by, sent_to, LinkStep, LinkCause, Hold_acts, Unit_acts, act_if, act_at, sent_at, LinksStep}
use Rattle.agreement_laws.specs.Invariant.{Ends, ends_of, IsSelectGood, IsDownGood, IsUpGood, IsSideGood, IsGood}
use Rattle.agreement_laws.proofs.SeenSignals.{Rises, reset-above}
use Rattle.agree.specs.declared.reply.WorldReply.{WorldReply}
use Rattle.agree.specs.declared.reply.WorldReply.TheVariants as reply
use Rattle.agree.specs.Replies.{sent_down_reply, sent_up_reply, is_taken, arrived_reply}
use Rattle.agreement_laws.specs.PathsSeen.{SeenPaths, sent_down, sent_up}
use Rattle.agree.specs.ByItsPath.{cleared, cut_at, seen_here, is_at, seen_in, IsHereRight, IsRight}
use Rattle.agree.proofs.UnitPaths.{floor_of, IsStill, takes-takes}
use Rattle.agree.proofs.UnitActs.{Acts, apart-still}
use Rattle.agree.proofs.PathTies.{IsOfferOn, Tied, hold-stays, unit-after-same, unit-stays}
use Rattle.agree.proofs.PathHolds.{Told, IsNumbered, AreNumbered, IsSendable, acts-told, cleared-tied, cut-tied, Heard, takes-line_took_up}
use Rattle.agree.proofs.PathUnits.{UnitTook, takes-line_took_down, Said, acts-said}

abbrev pub TiedIn : Side → Links → SeenPaths → Type 0
TiedIn side w k = Tied side w.«unit» (link_of w side) k

-- an entry is right, and the tie goes on
abbrev pub Right : Side → WorldReply → SeenPaths → Links → SeenPaths → Type 0
Right side r k new next = IsRight side r k × TiedIn side new next

-- what the invariant says of it
side-good : (w : Links) (side : Side) → IsGood w → IsSideGood w side
side-good w First g = g.first
side-good w Second g = g.second

numbered-by : (e : Ends) (ts : List ℕ) (n p : ℕ) (x : Up) → e.floor ≤ n → IsUpGood e ts p x → IsNumbered n x
numbered-by e ts n p (up.Accept t) le h = let b : t ≤ e.floor = h.0 in omega (arith, b, le)
numbered-by e ts n p (up.Busy t) le h = tt
numbered-by e ts n p (up.Leave t c) le h = tt
numbered-by e ts n p (up.Back t c) le h = tt
numbered-by e ts n p (up.Data load t c m s) le h = tt
numbered-by e ts n p (up.End t m status more) le h = tt
numbered-by e ts n p (up.Released t) le h = tt
numbered-by e ts n p (up.Cleared r) le h = tt
numbered-by e ts n p (up.Notice b) le h = tt
numbered-by e ts n p (up.Attn a status) le h = tt

numbered : (w : Links) (side : Side) → IsGood w → AreNumbered (link_of w side)
numbered w side g x there =
    let e : Ends = ends_of (link_of w side).drawn (link_of w side).hold w.«unit» side in
    let good : IsSideGood w side = side-good w side g in
    numbered-by e (link_of w side).accepted (link_of w side).drawn x.path x.signal good.ends.floor
    (All-contains (λ y. IsUpGood e (link_of w side).accepted y.path y.signal) (link_of w side).ups x good.ups there)

down-good : (w : Links) (side : Side) (x : OnPath Down) → IsGood w → Contains (link_of w side).downs x → IsDownGood (ends_of (link_of w side).drawn (link_of w side).hold w.«unit» side) x.path x.signal
down-good w side x g there =
    let e : Ends = ends_of (link_of w side).drawn (link_of w side).hold w.«unit» side in
    All-contains (λ y. IsDownGood e y.path y.signal) (link_of w side).downs x (side-good w side g).downs there

select-on : (phase : HoldPhase) (f p t : ℕ) → f < t → IsSelectGood phase f p t → IsOfferOn phase t p
select-on hold.Free f p t l h = tt
select-on (hold.Offer u q) f p t l h = elim h [ inl e ↦ absurd (omega (arith, e, l)) | inr e ↦ λ same. sym e.1 ]
select-on (hold.On u q c) f p t l h = tt
select-on (hold.Away u) f p t l h = tt
select-on (hold.Letting u q) f p t l h = tt
select-on (hold.Reset r) f p t l h = tt

offer-on : (w : Links) (side : Side) (x : OnPath Down) → IsGood w → Contains (link_of w side).downs x → (t : ℕ) → x.signal ≡ down.Select t → floor_of w.«unit» side < t → IsOfferOn (link_of w side).hold.phase t x.path
offer-on w side x g there t e l =
    let good : IsDownGood (ends_of (link_of w side).drawn (link_of w side).hold w.«unit» side) x.path (down.Select t) =
    subst (λ (d : Down). IsDownGood (ends_of (link_of w side).drawn (link_of w side).hold w.«unit» side) x.path d) e (down-good w side x g there) in
    select-on (link_of w side).hold.phase (floor_of w.«unit» side) x.path t l good.1

-- the step at one side
step-link : (side : Side) (old new : Links) (cause : LinkCause) → LinksStep old cause new →
    LinkStep (link_of old side) (hold_acts (link_of old side).drawn (link_of old side).hold (act_at cause side)) (sent_at old.«unit» cause side) (link_of new side)
step-link First old new cause s = s.first
step-link Second old new cause s = s.second

-- an act of the hold of this side
hold-link : (side : Side) (old new : Links) (act : HoldAct) → LinksStep old (Hold_acts side act) new →
    LinkStep (link_of old side) (hold_acts (link_of old side).drawn (link_of old side).hold act) None (link_of new side)
hold-link side old new act s =
    subst (λ (b : Bool). LinkStep (link_of old side) (hold_acts (link_of old side).drawn (link_of old side).hold (act_if b act)) None (link_of new side)) (same-side side)
    (step-link side old new (Hold_acts side act) s)

same-unit : (side : Side) (old new : Links) (s : Side) (act : HoldAct) (k : SeenPaths) → LinksStep old (Hold_acts s act) new → Tied side old.«unit» (link_of new side) k → TiedIn side new k
same-unit side old new s act k st h = subst (λ (u : UnitState). Tied side u (link_of new side) k) (sym st.«unit») h

-- and of the other
other-hold : (side s : Side) (old new : Links) (act : HoldAct) (k : SeenPaths) → same_side s side ≡ false → LinksStep old (Hold_acts s act) new → TiedIn side old k → TiedIn side new k
other-hold side s old new act k n st t =
    let link : LinkStep (link_of old side) (still (link_of old side).drawn (link_of old side).hold) None (link_of new side) =
    subst (λ (b : Bool). LinkStep (link_of old side) (hold_acts (link_of old side).drawn (link_of old side).hold (act_if b act)) None (link_of new side)) n
    (step-link side old new (Hold_acts s act) st) in
    same-unit side old new s act k st (hold-stays side old.«unit» (link_of old side) (link_of new side) k (still (link_of old side).drawn (link_of old side).hold) t link refl refl tt)

-- an entry of another side
not-here : (side : Side) (r : WorldReply) (k : SeenPaths) (new : Links) → is_at r side ≡ false → TiedIn side new k → Right side r k new (seen_in side r k)
not-here side r k new n t = (
  λ e. absurd (cc (n, e)),
  subst (λ (b : Bool). TiedIn side new (if b then seen_here r k else k)) (sym n) t,
)

here : (side : Side) (r : WorldReply) (k : SeenPaths) (new : Links) → is_at r side ≡ true → IsHereRight r k → TiedIn side new (seen_here r k) → Right side r k new (seen_in side r k)
here side r k new y right t = (
  λ e. right,
  subst (λ (b : Bool). TiedIn side new (if b then seen_here r k else k)) (sym y) t,
)

told-at : (s side : Side) (sent : Option (OnPath Down)) → same_side s side ≡ false → is_at (sent_down_reply s sent) side ≡ false
told-at s side None n = refl
told-at s side (Some x) n = n

told-here : (side : Side) (u : UnitState) (new : Links) (k : SeenPaths) (sent : Option (OnPath Down)) → new.«unit» ≡ u → Told side u (link_of new side) k sent →
    Right side (sent_down_reply side sent) k new (seen_in side (sent_down_reply side sent) k)
told-here side u new k None e t = not-here side reply.Done k new refl (subst (λ (v : UnitState). Tied side v (link_of new side) k) (sym e) t.tied)
told-here side u new k (Some x) e t =
    here side (reply.SentDown side x) k new (same-side side) t.right (subst (λ (v : UnitState). Tied side v (link_of new side) (sent_down x k)) (sym e) t.tied)

hold-by : (side s : Side) (b : Bool) → same_side s side ≡ b → (old new : Links) (k : SeenPaths) (act : HoldAct) → IsGood old → IsSendable (link_of old s).hold.phase act → LinksStep old (Hold_acts s act) new → TiedIn side old k →
    Right side (sent_down_reply s (hold_acts (link_of old s).drawn (link_of old s).hold act).sent) k new (seen_in side (sent_down_reply s (hold_acts (link_of old s).drawn (link_of old s).hold act).sent) k)
hold-by side s true is old new k act g may st t =
    let at : s ≡ side = one-side s side is in
    subst (λ (j : Side). IsSendable (link_of old j).hold.phase act → LinksStep old (Hold_acts j act) new →
    Right side (sent_down_reply j (hold_acts (link_of old j).drawn (link_of old j).hold act).sent) k new (seen_in side (sent_down_reply j (hold_acts (link_of old j).drawn (link_of old j).hold act).sent) k)) (sym at)
    (λ m st.
    told-here side old.«unit» new k (hold_acts (link_of old side).drawn (link_of old side).hold act).sent st.«unit»
    (acts-told side old.«unit» (link_of old side) k act m (numbered old side g) t (link_of new side) (hold-link side old new act st)))
    may st
hold-by side s false is old new k act g may st t =
    not-here side _ k new (told-at s side (hold_acts (link_of old s).drawn (link_of old s).hold act).sent is) (other-hold side s old new act k is st t)

pub hold-right : (side s : Side) (old new : Links) (k : SeenPaths) (act : HoldAct) (l : Link) → link_of old s ≡ l → IsGood old → IsSendable l.hold.phase act → LinksStep old (Hold_acts s act) new → TiedIn side old k →
    Right side (sent_down_reply s (hold_acts l.drawn l.hold act).sent) k new (seen_in side (sent_down_reply s (hold_acts l.drawn l.hold act).sent) k)
hold-right side s old new k act l e g may st t =
    subst (λ (x : Link). IsSendable x.hold.phase act → Right side (sent_down_reply s (hold_acts x.drawn x.hold act).sent) k new (seen_in side (sent_down_reply s (hold_acts x.drawn x.hold act).sent) k)) e
    (λ m. hold-by side s (same_side s side) refl old new k act g m st t) may

-- a clear
clear-by : (side s : Side) (b : Bool) → same_side s side ≡ b → (old new : Links) (k : SeenPaths) → LinksStep old (Hold_acts s Is_reset) new → TiedIn side old k → TiedIn side new (if b then cleared k else k)
clear-by side s true is old new k st t =
    let at : s ≡ side = one-side s side is in
    let mine : LinksStep old (Hold_acts side Is_reset) new = subst (λ (j : Side). LinksStep old (Hold_acts j Is_reset) new) at st in
    same-unit side old new side Is_reset (cleared k) mine
    (cleared-tied side old.«unit» (link_of old side) (link_of new side) k t (hold-link side old new Is_reset mine))
clear-by side s false is old new k st t = other-hold side s old new Is_reset k is st t

pub clear-right : (side s : Side) (old new : Links) (k : SeenPaths) → LinksStep old (Hold_acts s Is_reset) new → TiedIn side old k → TiedIn side new (if same_side s side then cleared k else k)
clear-right side s old new k st t = clear-by side s (same_side s side) refl old new k st t

-- the loss of a path
cut-by : (side s : Side) (b : Bool) → same_side s side ≡ b → (old new : Links) (k : SeenPaths) (p : ℕ) → LinksStep old (Hold_acts s (Loses p)) new → TiedIn side old k → TiedIn side new (if b then cut_at p k else k)
cut-by side s true is old new k p st t =
    let at : s ≡ side = one-side s side is in
    let mine : LinksStep old (Hold_acts side (Loses p)) new = subst (λ (j : Side). LinksStep old (Hold_acts j (Loses p)) new) at st in
    same-unit side old new side (Loses p) (cut_at p k) mine
    (cut-tied side old.«unit» (link_of old side) (link_of new side) k p t (hold-link side old new (Loses p) mine))
cut-by side s false is old new k p st t = other-hold side s old new (Loses p) k is st t

pub cut-right : (side s : Side) (old new : Links) (k : SeenPaths) (p : ℕ) → LinksStep old (Hold_acts s (Loses p)) new → TiedIn side old k → TiedIn side new (if same_side s side then cut_at p k else k)
cut-right side s old new k p st t = cut-by side s (same_side s side) refl old new k p st t

-- a signal arrives at a hold
line_took_up-by : (side s : Side) (b : Bool) → same_side s side ≡ b → (old new : Links) (k : SeenPaths) (x : OnPath Up) (may : Bool) → LinksStep old (Hold_acts s (Takes x may)) new → TiedIn side old k →
    Right side (reply.Up s x (is_taken (link_of old s).hold x.path x.signal may) (hold_acts (link_of old s).drawn (link_of old s).hold (Takes x may)).sent) k new
    (seen_in side (reply.Up s x (is_taken (link_of old s).hold x.path x.signal may) (hold_acts (link_of old s).drawn (link_of old s).hold (Takes x may)).sent) k)
line_took_up-by side s true is old new k x may st t =
    let at : s ≡ side = one-side s side is in
    subst (λ (j : Side). LinksStep old (Hold_acts j (Takes x may)) new →
    Right side (reply.Up j x (is_taken (link_of old j).hold x.path x.signal may) (hold_acts (link_of old j).drawn (link_of old j).hold (Takes x may)).sent) k new
    (seen_in side (reply.Up j x (is_taken (link_of old j).hold x.path x.signal may) (hold_acts (link_of old j).drawn (link_of old j).hold (Takes x may)).sent) k)) (sym at)
    (λ st.
    let r : WorldReply = reply.Up side x (is_taken (link_of old side).hold x.path x.signal may) (hold_acts (link_of old side).drawn (link_of old side).hold (Takes x may)).sent in
    let h : Heard side old.«unit» (link_of new side) k x (is_taken (link_of old side).hold x.path x.signal may) (hold_taken (link_of old side).drawn (link_of old side).hold x.path x.signal may).sent =
    takes-line_took_up side old.«unit» (link_of old side) (link_of new side) k x.path x.signal may (t.ups x st.given) t (hold-link side old new (Takes x may) st) in
    here side r k new (same-side side) h.right (same-unit side old new side (Takes x may) (seen_here r k) st h.tied))
    st
line_took_up-by side s false is old new k x may st t =
    not-here side (reply.Up s x (is_taken (link_of old s).hold x.path x.signal may) (hold_acts (link_of old s).drawn (link_of old s).hold (Takes x may)).sent) k new is (other-hold side s old new (Takes x may) k is st t)

pub line_took_up-right : (side s : Side) (old new : Links) (k : SeenPaths) (x : OnPath Up) (may : Bool) (l : Link) → link_of old s ≡ l → LinksStep old (Hold_acts s (Takes x may)) new → TiedIn side old k →
    Right side (reply.Up s x (is_taken l.hold x.path x.signal may) (hold_acts l.drawn l.hold (Takes x may)).sent) k new
    (seen_in side (reply.Up s x (is_taken l.hold x.path x.signal may) (hold_acts l.drawn l.hold (Takes x may)).sent) k)
line_took_up-right side s old new k x may l e st t =
    subst (λ (y : Link). Right side (reply.Up s x (is_taken y.hold x.path x.signal may) (hold_acts y.drawn y.hold (Takes x may)).sent) k new
    (seen_in side (reply.Up s x (is_taken y.hold x.path x.signal may) (hold_acts y.drawn y.hold (Takes x may)).sent) k)) e
    (line_took_up-by side s (same_side s side) refl old new k x may st t)

-- the unit acts, and sends to this side, or not
unit-link : (side : Side) (old new : Links) (act : UnitAct) (b : Bool) → is_to old.«unit» act side ≡ b → LinksStep old (Unit_acts act) new →
    LinkStep (link_of old side) (still (link_of old side).drawn (link_of old side).hold) (sent_to b (sent_by (unit_steps old.«unit» act))) (link_of new side)
unit-link side old new act b e st =
    subst (λ (x : Bool). LinkStep (link_of old side) (still (link_of old side).drawn (link_of old side).hold) (sent_to x (sent_by (unit_steps old.«unit» act))) (link_of new side)) e
    (step-link side old new (Unit_acts act) st)

now-tied : (side : Side) (old new : Links) (act : UnitAct) (k : SeenPaths) → LinksStep old (Unit_acts act) new → Tied side (unit_after old.«unit» (unit_steps old.«unit» act)) (link_of new side) k → TiedIn side new k
now-tied side old new act k st h = subst (λ (u : UnitState). Tied side u (link_of new side) k) (sym st.«unit») h

pub other-unit : (side : Side) (old new : Links) (act : UnitAct) (k : SeenPaths) → is_to old.«unit» act side ≡ false → IsStill old.«unit» (unit_after old.«unit» (unit_steps old.«unit» act)) side →
    LinksStep old (Unit_acts act) new → TiedIn side old k → TiedIn side new k
other-unit side old new act k n is st t =
    now-tied side old new act k st
    (unit-stays side old.«unit» _ (link_of old side) (link_of new side) k None t (unit-link side old new act false n st) is tt)

said-up : (side : Side) (old new : Links) (act : UnitAct) (k : SeenPaths) (sent : Option (OnPath Up)) → LinksStep old (Unit_acts act) new → Said side (unit_after old.«unit» (unit_steps old.«unit» act)) (link_of new side) k sent →
    Right side (sent_up_reply side sent) k new (seen_in side (sent_up_reply side sent) k)
said-up side old new act k None st h = not-here side reply.Done k new refl (now-tied side old new act k st (h.quiet refl))
said-up side old new act k (Some x) st h = here side (reply.SentUp side x) k new (same-side side) h.right (now-tied side old new act (sent_up x k) st h.tied)

said-at : (s side : Side) (sent : Option (OnPath Up)) → same_side s side ≡ false → is_at (sent_up_reply s sent) side ≡ false
said-at s side None n = refl
said-at s side (Some x) n = n

said-by : (side s : Side) (b : Bool) → same_side s side ≡ b → (old new : Links) (k : SeenPaths) (act : UnitAct) → is_to old.«unit» act side ≡ same_side s side →
    (same_side s side ≡ true → Acts side old.«unit» (unit_steps old.«unit» act)) → (same_side s side ≡ false → IsStill old.«unit» (unit_after old.«unit» (unit_steps old.«unit» act)) side) →
    LinksStep old (Unit_acts act) new → TiedIn side old k → Right side (sent_up_reply s (outcome_of (unit_steps old.«unit» act)).sent) k new (seen_in side (sent_up_reply s (outcome_of (unit_steps old.«unit» act)).sent) k)
said-by side s true is old new k act to acts apart st t =
    subst (λ (j : Side). Right side (sent_up_reply j (outcome_of (unit_steps old.«unit» act)).sent) k new (seen_in side (sent_up_reply j (outcome_of (unit_steps old.«unit» act)).sent) k)) (sym (one-side s side is))
    (said-up side old new act k _ st
    (acts-said side old.«unit» (link_of old side) k (unit_steps old.«unit» act) t (acts is) (link_of new side) (unit-link side old new act true (to ∙ is) st)))
said-by side s false is old new k act to acts apart st t =
    not-here side _ k new (said-at s side (outcome_of (unit_steps old.«unit» act)).sent is) (other-unit side old new act k (to ∙ is) (apart is) st t)

pub said-right : (side s : Side) (old new : Links) (k : SeenPaths) (act : UnitAct) → is_to old.«unit» act side ≡ same_side s side →
    (same_side s side ≡ true → Acts side old.«unit» (unit_steps old.«unit» act)) → (same_side s side ≡ false → IsStill old.«unit» (unit_after old.«unit» (unit_steps old.«unit» act)) side) →
    LinksStep old (Unit_acts act) new → TiedIn side old k → Right side (sent_up_reply s (outcome_of (unit_steps old.«unit» act)).sent) k new (seen_in side (sent_up_reply s (outcome_of (unit_steps old.«unit» act)).sent) k)
said-right side s old new k act to acts apart st t = said-by side s (same_side s side) refl old new k act to acts apart st t

-- a signal arrives at the unit
line_took_down-by : Rises → (side s : Side) (b : Bool) → same_side s side ≡ b → (old new : Links) (k : SeenPaths) (x : OnPath Down) (may : Bool) → IsGood old → LinksStep old (Unit_acts (Takes_down s x may)) new → TiedIn side old k →
    Right side (arrived_reply s x (outcome_of (unit_steps old.«unit» (Takes_down s x may)))) k new (seen_in side (arrived_reply s x (outcome_of (unit_steps old.«unit» (Takes_down s x may)))) k)
line_took_down-by rises side s true is old new k x may g st t =
    subst (λ (j : Side). LinksStep old (Unit_acts (Takes_down j x may)) new →
    Right side (arrived_reply j x (outcome_of (unit_steps old.«unit» (Takes_down j x may)))) k new (seen_in side (arrived_reply j x (outcome_of (unit_steps old.«unit» (Takes_down j x may)))) k)) (sym (one-side s side is))
    (λ st.
    let act : UnitAct = Takes_down side x may in
    let r : WorldReply = arrived_reply side x (outcome_of (unit_steps old.«unit» act)) in
    let h : UnitTook side (unit_after old.«unit» (unit_steps old.«unit» act)) (link_of new side) k x (outcome_of (unit_steps old.«unit» act)).taken (outcome_of (unit_steps old.«unit» act)).sent =
    takes-line_took_down side old.«unit» (link_of old side) k x.path x.signal (unit_steps old.«unit» act) (t.downs x st.given) (offer-on old side x g st.given) t
    (takes-takes side old.«unit» x.path x.signal may (reset-above rises old side x.path x.signal g st.given)) (link_of new side)
    (unit-link side old new act true (same-side side) st) in
    here side r k new (same-side side) h.right (now-tied side old new act (seen_here r k) st h.tied))
    st
line_took_down-by rises side s false is old new k x may g st t =
    not-here side (arrived_reply s x (outcome_of (unit_steps old.«unit» (Takes_down s x may)))) k new is
    (other-unit side old new (Takes_down s x may) k is (apart-still old.«unit» _ s side is (leaves-unit_takes s old.«unit» x.path x.signal may)) st t)

pub line_took_down-right : Rises → (side s : Side) (old new : Links) (k : SeenPaths) (x : OnPath Down) (may : Bool) → IsGood old → LinksStep old (Unit_acts (Takes_down s x may)) new → TiedIn side old k →
    Right side (arrived_reply s x (outcome_of (unit_steps old.«unit» (Takes_down s x may)))) k new (seen_in side (arrived_reply s x (outcome_of (unit_steps old.«unit» (Takes_down s x may)))) k)
line_took_down-right rises side s old new k x may g st t = line_took_down-by rises side s (same_side s side) refl old new k x may g st t

-- a restart
restart-floor : (u : UnitState) (side : Side) → floor_of u side ≤ floor_of (restarted u) side
restart-floor u First = omega arith
restart-floor u Second = omega arith

pub restart-right : (side : Side) (old new : Links) (k : SeenPaths) → LinksStep old (Unit_acts Restarts) new → TiedIn side old k → TiedIn side new (record k { moving = None })
restart-right side old new k st t =
    now-tied side old new Restarts (record k { moving = None }) st
    (unit-after-same side old.«unit» (restarted old.«unit») (link_of old side) (link_of new side) k None None t (unit-link side old new Restarts false refl st) (restart-floor old.«unit» side) refl tt tt tt tt)
