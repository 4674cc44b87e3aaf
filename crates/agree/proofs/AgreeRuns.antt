-- In the entries of each list of events both sides agree on the program that holds the device.
use Rattle.std.proofs.Common.{◌≡◌, refl, sym, ◌∙◌, ap, subst, ℕ, ◌==◌, ◌&&◌, nat_lt, Bool, true, false, Option, None, Some, List, ◌++◌, inl, inr}
use Rattle.std.specs.Prelude.{◌⊎◌, ◌||◌, slice_get, if◌then◌else◌}
use Rattle.std.proofs.lemmas.Bool.{eqb-true, and_parts}
use Rattle.chan_model.specs.declared.hold_state.HoldPhase.{HoldPhase}
use Rattle.chan_model.specs.declared.hold_state.HoldPhase.TheVariants as hold
use Rattle.chan_model.specs.declared.hold_state.HoldState.{HoldState}
use Rattle.chan_model.specs.declared.names.Side.{Side}
use Rattle.chan_model.specs.declared.names.Side.TheVariants.{First, Second}
use Rattle.chan_model.specs.Signals.{Down}
use Rattle.chan_model.specs.declared.signal.OnPath.{OnPath}
use Rattle.chan_model.specs.Signals.{Up}
use Rattle.chan_model.specs.declared.signal.Up.TheVariants as up
use Rattle.chan_model.specs.declared.unit_state.Own.{Own}
use Rattle.chan_model.specs.declared.unit_state.Own.TheVariants as own
use Rattle.chan_model.specs.declared.unit_state.UnitState.{UnitState}
use Rattle.chan_model.specs.Agreement.{Agrees, IsOutstanding, owner_of}
use Rattle.chan_model.specs.Sides.{same_side}
use Rattle.chan_model.specs.HoldTable.{HoldStep, program_begun, offer_accepted, found_busy, left, granting, refusing, asked_back, released, reset_cleared, attended, outcome_of, is_connected, is_on, letting_go, sending_reset}
use Rattle.chan_model.specs.UnitTable.{side_of}
use Rattle.agreement_laws.specs.Invariant.{IsGood}
use Rattle.agreement_laws.specs.Moving.{hold_stepped, hold_offered, hold_taken, hold_acts, reset_again, still, UnitAct, Leaves, Asks, Reports}
use Rattle.chan_model.proofs.OneSide.{one-side}
use Rattle.agreement_laws.proofs.SeenSignals.{Rises, IsSent, Commands, Answers, Gives, Halts, sent-as}
use Rattle.agree.specs.declared.event.WorldEvent.{WorldEvent}
use Rattle.agree.specs.declared.event.WorldEvent.TheVariants as event
use Rattle.agree.specs.declared.reply.WorldReply.TheVariants as reply
use Rattle.agree.specs.Bounds.{IsWell}
use Rattle.agree.specs.State.{WorldState, links_of, line_of, opening_world}
use Rattle.agreement_laws.specs.Sending.{is_on_path, is_away}
use Rattle.agree.specs.Results.{world_result_of, world_result}
use Rattle.agree.specs.Replies.{sent_down_reply, sent_up_reply, is_taken, chosen_act, line_took_up_reply, line_took_down_reply, owner_reply, reply_of}
use Rattle.agree.specs.Histories.{entries_of}
use Rattle.agreement_laws.specs.Holders.{IsRestarted, ComesOfHolder}
use Rattle.agreement_laws.specs.HolderSeen.{holder, Holding, is_held_by, side_seen, IsHolderOr, IsUnheldOr, GoesToHolder}
use Rattle.agree.specs.BothAgree.{AgreesIn, DoBothAgree}
use Rattle.agree.specs.ByItsPath.{IsByItsPath}
use Rattle.agree.specs.OneHolder.{HasOneHolder, IsBegunOnce}
use Rattle.agree.specs.Promises.{GoesOnSound}
use Rattle.agree.proofs.Lasting.{Means}
use Rattle.agree.proofs.Making.{OnDone, done-weaker, counted-done, Keeps, Ends, MadeOf, turn-made}
use Rattle.agree.proofs.Holdings.{holder_of, holding_of, side-restarted}
use Rattle.agree.proofs.HolderRuns.{Goes, event-holds, list-through}

-- the program of this number holds the device by the hold
abbrev IsHeldBy : HoldPhase → ℕ → Type 0
IsHeldBy (hold.On u q c) t = t ≡ u
IsHeldBy (hold.Away u) t = t ≡ u
IsHeldBy phase t = ⊥

abbrev IsAgreedAt : HoldPhase → UnitState → Side → Type 0
IsAgreedAt phase u side = Agrees phase (owner_of u.own side) ⊎ IsOutstanding phase (side_of u side)

owner-holder : (o : Own) (side : Side) (t : ℕ) → owner_of o side ≡ Some t → holder_of o ≡ holder side t
owner-holder own.Idle side t e = absurd (cc e)
owner-holder (own.Owned k v at) side t e = by (same_side k side) refl e
  where
    by : (b : Bool) → same_side k side ≡ b → (if b then Some v else None) ≡ Some t → holder k v ≡ holder side t
    by true s f = let n : v ≡ t = cc f in ap (λ (j : Side). holder j v) (one-side k side s) ∙ ap (λ (m : ℕ). holder side m) n
    by false s f = absurd (cc f)

owner-unheld : (o : Own) (side : Side) → owner_of o side ≡ None → is_held_by (holder_of o) side ≡ false
owner-unheld own.Idle side e = refl
owner-unheld (own.Owned k v at) side e = by (same_side k side) e
  where
    by : (b : Bool) → (if b then Some v else None) ≡ None → b ≡ false
    by true f = absurd (cc f)
    by false f = refl

fresh-restarted : (u : UnitState) (side : Side) → (side_of u side).fresh ≡ true → IsRestarted (side_seen (holding_of u) side)
fresh-restarted u side e = side-restarted u side ∙ e

-- so its holder is that program, or the unit was restarted
pub held-agrees : (u : UnitState) (side : Side) (phase : HoldPhase) (t : ℕ) → IsHeldBy phase t → IsAgreedAt phase u side → IsHolderOr (holding_of u) side t
held-agrees u side (hold.On v q c) t n a =
    elim a [ inl e ↦ inl (owner-holder u.own side t (e ∙ ap (λ (m : ℕ). Some m) (sym n))) | inr d ↦ elim d [ inl f ↦ inr (fresh-restarted u side f) | inr f ↦ absurd f ] ]
held-agrees u side (hold.Away v) t n a =
    elim a [ inl e ↦ inl (owner-holder u.own side t (e ∙ ap (λ (m : ℕ). Some m) (sym n))) | inr d ↦ elim d [ inl f ↦ inr (fresh-restarted u side f) | inr f ↦ absurd f ] ]
held-agrees u side hold.Free t n a = absurd n
held-agrees u side (hold.Offer v q) t n a = absurd n
held-agrees u side (hold.Letting v q) t n a = absurd n
held-agrees u side (hold.Reset r) t n a = absurd n

free-agrees : (u : UnitState) (side : Side) → IsAgreedAt hold.Free u side → IsUnheldOr (holding_of u) side
free-agrees u side a = elim a [ inl e ↦ inl (owner-unheld u.own side e) | inr d ↦ elim d [ inl f ↦ inr (fresh-restarted u side f) | inr f ↦ absurd f ] ]

-- what the hold's tests say of its phase
on-held : (phase : HoldPhase) (t : ℕ) → is_on phase t ≡ true → IsHeldBy phase t
on-held hold.Free t e = absurd (cc e)
on-held (hold.Offer v q) t e = absurd (cc e)
on-held (hold.On v q c) t e = eqb-true t v e
on-held (hold.Away v) t e = absurd (cc e)
on-held (hold.Letting v q) t e = absurd (cc e)
on-held (hold.Reset r) t e = absurd (cc e)

connected-held : (phase : HoldPhase) (p t c : ℕ) → is_connected phase p t c ≡ true → IsHeldBy phase t
connected-held hold.Free p t c e = absurd (cc e)
connected-held (hold.Offer v q) p t c e = absurd (cc e)
connected-held (hold.On v q d) p t c e = eqb-true t v (and_parts (t == v) ((p == q) && (c == d)) e).0
connected-held (hold.Away v) p t c e = absurd (cc e)
connected-held (hold.Letting v q) p t c e = absurd (cc e)
connected-held (hold.Reset r) p t c e = absurd (cc e)

path-held : (phase : HoldPhase) (t p : ℕ) → is_on_path phase t p ≡ true → IsHeldBy phase t
path-held hold.Free t p e = absurd (cc e)
path-held (hold.Offer v q) t p e = absurd (cc e)
path-held (hold.On v q c) t p e = eqb-true t v (and_parts (t == v) (p == q) e).0
path-held (hold.Away v) t p e = absurd (cc e)
path-held (hold.Letting v q) t p e = absurd (cc e)
path-held (hold.Reset r) t p e = absurd (cc e)

away-held : (phase : HoldPhase) (t : ℕ) → is_away phase t ≡ true → IsHeldBy phase t
away-held hold.Free t e = absurd (cc e)
away-held (hold.Offer v q) t e = absurd (cc e)
away-held (hold.On v q c) t e = absurd (cc e)
away-held (hold.Away v) t e = eqb-true t v e
away-held (hold.Letting v q) t e = absurd (cc e)
away-held (hold.Reset r) t e = absurd (cc e)

either : (a b : Bool) → (a || b) ≡ true → (a ≡ true) ⊎ (b ≡ true)
either true b e = inl refl
either false b e = inr e

-- what a side sends for its program
sent-agrees : (u : UnitState) (side : Side) (phase : HoldPhase) (p : ℕ) (d : Down) → IsSent phase p d → IsAgreedAt phase u side → GoesToHolder (holding_of u) side d
sent-agrees u side phase p _ (Commands t n code room on) a = held-agrees u side phase t (path-held phase t p on) a
sent-agrees u side phase p _ (Answers t n s room on) a = held-agrees u side phase t (path-held phase t p on) a
sent-agrees u side phase p _ (Gives bytes t c n s on) a = held-agrees u side phase t (connected-held phase p t c on) a
sent-agrees u side phase p _ (Halts t there) a =
    held-agrees u side phase t (elim (either (is_on_path phase t p) (is_away phase t) there) [ inl on ↦ path-held phase t p on | inr away ↦ away-held phase t away ]) a

-- as it is chosen, and as it lets the device go
chosen-agrees : (u : UnitState) (side : Side) (n : ℕ) (h : HoldState) (phase : HoldPhase) (p : ℕ) (single : Bool) → h.phase ≡ phase → IsAgreedAt phase u side → AgreesIn (sent_down_reply side (hold_acts n h (chosen_act phase p single)).sent) (holding_of u)
chosen-agrees u side n h hold.Free p single e a =
    subst (λ (x : HoldPhase). AgreesIn (sent_down_reply side (hold_offered n h x p single).sent) (holding_of u)) (sym e) (free-agrees u side a)
chosen-agrees u side n h (hold.Reset r) p single e a =
    subst (λ (x : HoldPhase). AgreesIn (sent_down_reply side (hold_stepped n h (sending_reset h x p)).sent) (holding_of u)) (sym e) tt
chosen-agrees u side n h (hold.Offer v q) p single e a = tt
chosen-agrees u side n h (hold.On v q c) p single e a = tt
chosen-agrees u side n h (hold.Away v) p single e a = tt
chosen-agrees u side n h (hold.Letting v q) p single e a = tt

lets_go-agrees : (u : UnitState) (side : Side) (n : ℕ) (h : HoldState) (phase : HoldPhase) → IsAgreedAt phase u side → AgreesIn (sent_down_reply side (hold_stepped n h (letting_go h phase)).sent) (holding_of u)
lets_go-agrees u side n h (hold.On v q c) a = held-agrees u side (hold.On v q c) v refl a
lets_go-agrees u side n h hold.Free a = tt
lets_go-agrees u side n h (hold.Offer v q) a = tt
lets_go-agrees u side n h (hold.Away v) a = tt
lets_go-agrees u side n h (hold.Letting v q) a = tt
lets_go-agrees u side n h (hold.Reset r) a = tt

-- a signal that arrives
abbrev Agreed : Holding → Side → OnPath Up → Bool → Option (OnPath Down) → Type 0
Agreed k side x taken sent = AgreesIn (reply.Up side x taken sent) k

abbrev AgreedBy : UnitState → Side → ℕ → HoldState → OnPath Up → Option HoldStep → Type 0
AgreedBy u side n h x step = Agreed (holding_of u) side x (outcome_of step).taken (hold_stepped n h step).sent

if-agrees : (u : UnitState) (side : Side) (n : ℕ) (h : HoldState) (x : OnPath Up) (b : Bool) (s t : Option HoldStep) → (b ≡ true → AgreedBy u side n h x s) → AgreedBy u side n h x t → AgreedBy u side n h x (if b then s else t)
if-agrees u side n h x true s t f g = f refl
if-agrees u side n h x false s t f g = g

abbrev up_of : ℕ → Up → OnPath Up
up_of p x = record { path = p; signal = x }

begun-agrees : (u : UnitState) (side : Side) (n : ℕ) (h : HoldState) (p t v q : ℕ) (may : Bool) → AgreedBy u side n h (up_of p (up.Accept t)) (Some (program_begun h v q may))
begun-agrees u side n h p t v q true = (tt, tt)
begun-agrees u side n h p t v q false = (tt, tt)

accept-agrees : (u : UnitState) (side : Side) (n : ℕ) (h : HoldState) (phase : HoldPhase) (p t : ℕ) (may : Bool) → AgreedBy u side n h (up_of p (up.Accept t)) (offer_accepted h phase t may)
accept-agrees u side n h (hold.Offer v q) p t may = if-agrees u side n h (up_of p (up.Accept t)) (t == v) (Some (program_begun h v q may)) None (λ e. begun-agrees u side n h p t v q may) tt
accept-agrees u side n h hold.Free p t may = tt
accept-agrees u side n h (hold.On v q c) p t may = tt
accept-agrees u side n h (hold.Away v) p t may = tt
accept-agrees u side n h (hold.Letting v q) p t may = tt
accept-agrees u side n h (hold.Reset r) p t may = tt

busy-agrees : (u : UnitState) (side : Side) (n : ℕ) (h : HoldState) (phase : HoldPhase) (p t : ℕ) → AgreedBy u side n h (up_of p (up.Busy t)) (found_busy h phase t)
busy-agrees u side n h (hold.Offer v q) p t = if-agrees u side n h (up_of p (up.Busy t)) (t == v) _ None (λ e. (tt, tt)) tt
busy-agrees u side n h hold.Free p t = tt
busy-agrees u side n h (hold.On v q c) p t = tt
busy-agrees u side n h (hold.Away v) p t = tt
busy-agrees u side n h (hold.Letting v q) p t = tt
busy-agrees u side n h (hold.Reset r) p t = tt

leave-agrees : (u : UnitState) (side : Side) (n : ℕ) (h : HoldState) (phase : HoldPhase) (p t c : ℕ) → IsAgreedAt phase u side → AgreedBy u side n h (up_of p (up.Leave t c)) (left h phase t c)
leave-agrees u side n h (hold.On v q d) p t c a =
    if-agrees u side n h (up_of p (up.Leave t c)) ((t == v) && (c == d)) _ None (λ e. (held-agrees u side (hold.On v q d) t (eqb-true t v (and_parts (t == v) (c == d) e).0) a, tt)) tt
leave-agrees u side n h hold.Free p t c a = tt
leave-agrees u side n h (hold.Offer v q) p t c a = tt
leave-agrees u side n h (hold.Away v) p t c a = tt
leave-agrees u side n h (hold.Letting v q) p t c a = tt
leave-agrees u side n h (hold.Reset r) p t c a = tt

granted-agrees : (u : UnitState) (side : Side) (n : ℕ) (h : HoldState) (p t v c : ℕ) (may : Bool) → IsAgreedAt (hold.Away v) u side → AgreedBy u side n h (up_of p (up.Back t c)) (if may then Some (granting h p v c) else Some (refusing h p v c))
granted-agrees u side n h p t v c true a = (tt, held-agrees u side (hold.Away v) v refl a)
granted-agrees u side n h p t v c false a = (tt, tt)

back-agrees : (u : UnitState) (side : Side) (n : ℕ) (h : HoldState) (phase : HoldPhase) (p t c : ℕ) (may : Bool) → IsAgreedAt phase u side → AgreedBy u side n h (up_of p (up.Back t c)) (asked_back h phase p t c may)
back-agrees u side n h (hold.On v q d) p t c may a = if-agrees u side n h (up_of p (up.Back t c)) ((t == v) && nat_lt h.seen c) _ None (λ e. (tt, tt)) tt
back-agrees u side n h (hold.Away v) p t c may a =
    if-agrees u side n h (up_of p (up.Back t c)) ((t == v) && nat_lt h.seen c) _ None (λ e. granted-agrees u side n h p t v c may a) tt
back-agrees u side n h hold.Free p t c may a = tt
back-agrees u side n h (hold.Offer v q) p t c may a = tt
back-agrees u side n h (hold.Letting v q) p t c may a = tt
back-agrees u side n h (hold.Reset r) p t c may a = tt

released-agrees : (u : UnitState) (side : Side) (n : ℕ) (h : HoldState) (phase : HoldPhase) (p t : ℕ) → AgreedBy u side n h (up_of p (up.Released t)) (released h phase t)
released-agrees u side n h (hold.Letting v q) p t = if-agrees u side n h (up_of p (up.Released t)) (t == v) _ None (λ e. (tt, tt)) tt
released-agrees u side n h hold.Free p t = tt
released-agrees u side n h (hold.Offer v q) p t = tt
released-agrees u side n h (hold.On v q c) p t = tt
released-agrees u side n h (hold.Away v) p t = tt
released-agrees u side n h (hold.Reset r) p t = tt

cleared-agrees : (u : UnitState) (side : Side) (n : ℕ) (h : HoldState) (phase : HoldPhase) (p r : ℕ) → AgreedBy u side n h (up_of p (up.Cleared r)) (reset_cleared h phase r)
cleared-agrees u side n h (hold.Reset v) p r = if-agrees u side n h (up_of p (up.Cleared r)) (r == v) _ None (λ e. (tt, tt)) tt
cleared-agrees u side n h hold.Free p r = tt
cleared-agrees u side n h (hold.Offer v q) p r = tt
cleared-agrees u side n h (hold.On v q c) p r = tt
cleared-agrees u side n h (hold.Away v) p r = tt
cleared-agrees u side n h (hold.Letting v q) p r = tt

attn-agrees : (u : UnitState) (side : Side) (n : ℕ) (h : HoldState) (phase : HoldPhase) (x : OnPath Up) (a : ℕ) (may : Bool) → ComesOfHolder (IsHolderOr (holding_of u) side) x.signal → AgreedBy u side n h x (attended h phase x.path a may)
attn-agrees u side n h hold.Free x a true comes = (comes, tt)
attn-agrees u side n h hold.Free x a false comes = tt
attn-agrees u side n h (hold.Offer v q) x a may comes = tt
attn-agrees u side n h (hold.On v q c) x a may comes = tt
attn-agrees u side n h (hold.Away v) x a may comes = tt
attn-agrees u side n h (hold.Letting v q) x a may comes = tt
attn-agrees u side n h (hold.Reset r) x a may comes = tt

notice-agrees : (u : UnitState) (side : Side) (n : ℕ) (h : HoldState) (p b : ℕ) (more taken : Bool) → Agreed (holding_of u) side (up_of p (up.Notice b)) taken (if more then reset_again n (record h { known_restarts = b }) else still n h).sent
notice-agrees u side n h p b true true = (tt, tt)
notice-agrees u side n h p b true false = tt
notice-agrees u side n h p b false true = (tt, tt)
notice-agrees u side n h p b false false = tt

quiet-agrees : (k : Holding) (side : Side) (x : OnPath Up) (taken : Bool) → (taken ≡ true → ComesOfHolder (IsHolderOr k side) x.signal) → Agreed k side x taken None
quiet-agrees k side x true f = (f refl, tt)
quiet-agrees k side x false f = tt

takes-agrees : (u : UnitState) (side : Side) (n : ℕ) (h : HoldState) (p : ℕ) (x : Up) (may : Bool) → IsAgreedAt h.phase u side → Agreed (holding_of u) side (up_of p x) (is_taken h p x may) (hold_taken n h p x may).sent
takes-agrees u side n h p (up.Accept t) may a = accept-agrees u side n h h.phase p t may
takes-agrees u side n h p (up.Busy t) may a = busy-agrees u side n h h.phase p t
takes-agrees u side n h p (up.Leave t c) may a = leave-agrees u side n h h.phase p t c a
takes-agrees u side n h p (up.Back t c) may a = back-agrees u side n h h.phase p t c may a
takes-agrees u side n h p (up.Data load t c m s) may a =
    quiet-agrees (holding_of u) side (up_of p (up.Data load t c m s)) (is_connected h.phase p t c && may)
    (λ e. held-agrees u side h.phase t (connected-held h.phase p t c (and_parts (is_connected h.phase p t c) may e).0) a)
takes-agrees u side n h p (up.End t m status more) may a =
    quiet-agrees (holding_of u) side (up_of p (up.End t m status more)) (is_on h.phase t && may)
    (λ e. held-agrees u side h.phase t (on-held h.phase t (and_parts (is_on h.phase t) may e).0) a)
takes-agrees u side n h p (up.Released t) may a = released-agrees u side n h h.phase p t
takes-agrees u side n h p (up.Cleared r) may a = cleared-agrees u side n h h.phase p r
takes-agrees u side n h p (up.Notice b) may a = notice-agrees u side n h p b (nat_lt h.known_restarts b) _
takes-agrees u side n h p (up.Attn x status) may a = attn-agrees u side n h h.phase (up_of p (up.Attn x status)) x may tt

agreed-at : Means → (w : WorldState) (s : Side) → IsGood (links_of w) → IsAgreedAt (line_of w s).link.hold.phase w.«unit» s
agreed-at means w First g = (means (links_of w) First g).agree
agreed-at means w Second g = (means (links_of w) Second g).agree

line_took_up-agrees : (w : WorldState) (s : Side) (may : Bool) (o : Option (OnPath Up)) → IsAgreedAt (line_of w s).link.hold.phase w.«unit» s → AgreesIn (line_took_up_reply s (line_of w s) o may) (holding_of w.«unit»)
line_took_up-agrees w s may None a = tt
line_took_up-agrees w s may (Some x) a = takes-agrees w.«unit» s (line_of w s).link.drawn (line_of w s).link.hold x.path x.signal may a

line_took_down-agrees : (w : WorldState) (s : Side) (may : Bool) (o : Option (OnPath Down)) → AgreesIn (line_took_down_reply s w.«unit» o may) (holding_of w.«unit»)
line_took_down-agrees w s may None = tt
line_took_down-agrees w s may (Some x) = tt

said-agrees : (k : Holding) (s : Side) (sent : Option (OnPath Up)) → AgreesIn (sent_up_reply s sent) k
said-agrees k s None = tt
said-agrees k s (Some x) = tt

owner-agrees : (w : WorldState) (o : Own) (act : UnitAct) → AgreesIn (owner_reply o w.«unit» act) (holding_of w.«unit»)
owner-agrees w own.Idle act = tt
owner-agrees w (own.Owned s t at) act = said-agrees (holding_of w.«unit») s _

event-agrees : Means → (w : WorldState) (e : WorldEvent) (new : WorldState) → IsGood (links_of w) → MadeOf w e new → AgreesIn (reply_of w e) (holding_of w.«unit»)
event-agrees means w (event.Choose s p single) new g made =
    chosen-agrees w.«unit» s (line_of w s).link.drawn (line_of w s).link.hold (line_of w s).link.hold.phase p single refl (agreed-at means w s g)
event-agrees means w (event.Down s index keep may) new g made = line_took_down-agrees w s may (slice_get (line_of w s).link.downs index)
event-agrees means w (event.Up s index keep may) new g made = line_took_up-agrees w s may (slice_get (line_of w s).link.ups index) (agreed-at means w s g)
event-agrees means w (event.LoseDown s index) new g made = tt
event-agrees means w (event.LoseUp s index) new g made = tt
event-agrees means w (event.PathDown s p) new g made = tt
event-agrees means w (event.PathUp s p) new g made = tt
event-agrees means w (event.PathReset s p) new g made = tt
event-agrees means w (event.LetGo s) new g made = lets_go-agrees w.«unit» s (line_of w s).link.drawn (line_of w s).link.hold (line_of w s).link.hold.phase (agreed-at means w s g)
event-agrees means w (event.Send s p signal) new g made = sent-agrees w.«unit» s (line_of w s).link.hold.phase p signal (sent-as (line_of w s).link.hold.phase p signal made.0) (agreed-at means w s g)
event-agrees means w (event.Clear s) new g made = tt
event-agrees means w event.SubsystemReset new g made = tt
event-agrees means w event.Leave new g made = owner-agrees w w.«unit».own Leaves
event-agrees means w (event.Ask p) new g made = owner-agrees w w.«unit».own (Asks p)
event-agrees means w (event.Attention s p) new g made = said-agrees (holding_of w.«unit») s _
event-agrees means w (event.Notice s p) new g made = said-agrees (holding_of w.«unit») s _
event-agrees means w event.Restart new g made = tt
event-agrees means w (event.Report report) new g made = owner-agrees w w.«unit».own (Reports report)

turn-agrees : Means → Rises → (w : WorldState) (e : WorldEvent) → IsGood (links_of w) → OnDone (Goes AgreesIn w e) (world_result w e)
turn-agrees means rises w e g =
    counted-done (Goes AgreesIn w e) (λ new n h. h) w e
    (done-weaker (MadeOf w e) (Goes AgreesIn w e) (λ new made. (event-agrees means w e new g made, (event-holds rises w e new g made).1)) (world_result_of w e) (turn-made w e))

pub both_agree : Keeps → Ends → Means → Rises → IsWell opening_world → (es : List WorldEvent) → DoBothAgree (entries_of opening_world es)
both_agree keeps ends means rises well es = list-through AgreesIn keeps ends (turn-agrees means rises) opening_world es well

-- what holds of each list of events from the opening holds of these after whatever led here
pub goes-on : ((es : List WorldEvent) → IsByItsPath (entries_of opening_world es)) → ((es : List WorldEvent) → HasOneHolder (entries_of opening_world es)) →
    ((es : List WorldEvent) → IsBegunOnce (entries_of opening_world es)) → ((es : List WorldEvent) → DoBothAgree (entries_of opening_world es)) →
    (w : WorldState) (es : List WorldEvent) → GoesOnSound w es
goes-on paths one once agree w es before is = (paths (before ++ es), one (before ++ es), once (before ++ es), agree (before ++ es))
