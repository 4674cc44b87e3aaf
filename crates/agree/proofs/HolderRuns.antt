-- The entries of each list of events are right by the program that holds the device, and each number is accepted at most once.
use Rattle.std.proofs.Common.{◌≡◌, refl, sym, ◌∙◌, ap, subst, ℕ, ◌<◌, ◌≤◌, Bool, true, false, Option, None, Some, List, [], ◌∷◌, arith}
use Rattle.std.specs.Prelude.{Ok, Err, slice_get, if◌then◌else◌, IfSome}
use Rattle.chan_model.specs.declared.names.Side.{Side}
use Rattle.chan_model.specs.declared.names.Side.TheVariants.{First, Second}
use Rattle.chan_model.specs.Signals.{Down}
use Rattle.chan_model.specs.declared.signal.OnPath.{OnPath}
use Rattle.chan_model.specs.Signals.{Up}
use Rattle.chan_model.specs.declared.signal.Up.TheVariants as up
use Rattle.chan_model.specs.declared.unit_state.Own.{Own}
use Rattle.chan_model.specs.declared.unit_state.Own.TheVariants as own
use Rattle.chan_model.specs.declared.unit_state.Connection.TheVariants as connection
use Rattle.chan_model.specs.declared.unit_state.UnitState.{UnitState}
use Rattle.chan_model.specs.Sides.{same_side}
use Rattle.chan_model.specs.UnitTable.{UnitStep, outcome_of}
use Rattle.chan_model.proofs.OneSide.{one-side, same-side}
use Rattle.agreement_laws.specs.Moving.{HoldAct, UnitAct, Takes_down, Leaves, Asks, Attends, Notices, Reports, unit_steps, is_owner_side, Hold_acts, Unit_acts, LinksStep}
use Rattle.agreement_laws.specs.Invariant.{IsGood}
use Rattle.agreement_laws.proofs.SeenSignals.{Rises, reset-above, taken-number}
use Rattle.agree.specs.declared.event.WorldEvent.{WorldEvent}
use Rattle.agree.specs.declared.event.WorldEvent.TheVariants as event
use Rattle.agree.specs.declared.reply.WorldReply.{WorldReply}
use Rattle.agree.specs.declared.reply.WorldReply.TheVariants as reply
use Rattle.agree.specs.Bounds.{IsWell}
use Rattle.agree.specs.State.{WorldState, links_of, line_of, opening_world}
use Rattle.agree.specs.Results.{WorldResult, world_result_of, world_result, state_after, world_after}
use Rattle.agree.specs.Replies.{sent_down_reply, sent_up_reply, line_took_down_reply, line_took_up_reply, owner_reply, reply_of}
use Rattle.agree.specs.Histories.{WorldEntry, entered, entries_of, Throughout}
use Rattle.agreement_laws.specs.Holders.{SideAnswered}
use Rattle.agreement_laws.specs.HolderSeen.{holder, Holding, let_go, is_held_by, with_seen, with_restart, held_after, side_seen, with_answered, IsHolder, IsAnswerOf, IsSaidRight, with_accept}
use Rattle.agree.specs.OneHolder.{restarted_by, held_in, holding_after, IsReplyRight, nothing_held, HasOneHolder, accepts_in, accepts_of, AreAbove, IsBegunOnce}
use Rattle.agree.proofs.Lasting.{event-lasts}
use Rattle.agree.proofs.Making.{OnDone, done-weaker, counted-done, Keeps, Ends, MadeOf, turn-made, heard_cause, line_took_down_cause}
use Rattle.agree.proofs.Holdings.{holder_of, holding_of, Turns, takes-turns, takes-told-after, reports-keep, leaving-keeps, asking-keeps, attending-keeps, noticing-keeps}
use Rattle.agree.proofs.Holdings as holdings
use Rattle.agree.proofs.UnitActs.{IsOfConnection, Acts, Idles, Says, Begins, Asks, Sends, reports-acts, leaving-acts, asking-acts, attending-acts, noticing-acts}
use Rattle.agree.proofs.UnitActs as unit_acts
use Rattle.agree.proofs.UnitPaths.{Held, held, held_at}
use Rattle.agree.proofs.PathRuns.{stepped}

-- an event is right, and what is seen is what the unit keeps
abbrev pub Goes : (WorldReply → Holding → Type 0) → WorldState → WorldEvent → WorldState → Type 0
Goes Claim w e new = Claim (reply_of w e) (holding_of w.«unit») × (holding_of new.«unit» ≡ holding_after e (reply_of w e) (holding_of w.«unit»))

abbrev pub Holds : WorldState → WorldEvent → WorldState → Type 0
Holds w e new = Goes IsReplyRight w e new

-- a hold acts
told-right : (s : Side) (k : Holding) (sent : Option (OnPath Down)) → IsReplyRight (sent_down_reply s sent) k × (held_in (sent_down_reply s sent) k ≡ k)
told-right s k None = (tt, refl)
told-right s k (Some x) = (tt, refl)

line_took_up-right : (s : Side) (w : WorldState) (may : Bool) (o : Option (OnPath Up)) (k : Holding) → IsReplyRight (line_took_up_reply s (line_of w s) o may) k × (held_in (line_took_up_reply s (line_of w s) o may) k ≡ k)
line_took_up-right s w may None k = (tt, refl)
line_took_up-right s w may (Some x) k = (tt, refl)

hold-unit : (w new : WorldState) (s : Side) (act : HoldAct) → LinksStep (links_of w) (Hold_acts s act) (links_of new) → holding_of new.«unit» ≡ holding_of w.«unit»
hold-unit w new s act st = ap holding_of st.«unit»

line_took_up-unit : (w new : WorldState) (s : Side) (may : Bool) (o : Option (OnPath Up)) → LinksStep (links_of w) (heard_cause s o may) (links_of new) → holding_of new.«unit» ≡ holding_of w.«unit»
line_took_up-unit w new s may None st = ap holding_of st.«unit»
line_took_up-unit w new s may (Some x) st = ap holding_of st.«unit»

-- a signal arrives at the unit
line_took_down-holds : Rises → (s : Side) (w new : WorldState) (may : Bool) (o : Option (OnPath Down)) → IsGood (links_of w) → LinksStep (links_of w) (line_took_down_cause s o may) (links_of new) →
    IsReplyRight (line_took_down_reply s w.«unit» o may) (holding_of w.«unit») × (holding_of new.«unit» ≡ held_in (line_took_down_reply s w.«unit» o may) (holding_of w.«unit»))
line_took_down-holds rises s w new may None g st = (tt, ap holding_of st.«unit»)
line_took_down-holds rises s w new may (Some x) g st =
    let above = reset-above rises (links_of w) s x.path x.signal g st.given in
    let turns : Turns w.«unit» s x.signal (unit_steps w.«unit» (Takes_down s x may)) = takes-turns w.«unit» s x.path x.signal may above in
    ((turns.right, λ e. takes-told-after w.«unit» s x.path x.signal may e), ap holding_of st.«unit» ∙ turns.next)

-- the unit acts of itself or for its device
held-holder : (o : Own) (side : Side) (one : Held) → held_at o side ≡ Some one → holder_of o ≡ holder side one.number
held-holder own.Idle side one e = absurd (cc e)
held-holder (own.Owned k t at) side one e = by (same_side k side) refl e
  where
    by : (b : Bool) → same_side k side ≡ b → (if b then Some (held t at) else None) ≡ Some one → holder k t ≡ holder side one.number
    by true s f =
        let same : held t at ≡ one = cc f in
        ap (λ (j : Side). holder j t) (one-side k side s) ∙ ap (λ (h : Held). holder side h.number) same
    by false s f = absurd (cc f)

connection-said : (k : Holding) (side : Side) (t c : ℕ) (x : Up) → IsOfConnection t c x → IsHolder k side t → IsSaidRight k side x
connection-said k side t c (up.Data load w d n s) its h = h ∙ ap (λ (m : ℕ). holder side m) (sym its.0)
connection-said k side t c (up.End w n status more) its h = h ∙ ap (λ (m : ℕ). holder side m) (sym its)
connection-said k side t c (up.Accept w) its h = absurd its
connection-said k side t c (up.Busy w) its h = absurd its
connection-said k side t c (up.Leave w d) its h = absurd its
connection-said k side t c (up.Back w d) its h = absurd its
connection-said k side t c (up.Released w) its h = absurd its
connection-said k side t c (up.Cleared w) its h = absurd its
connection-said k side t c (up.Notice b) its h = absurd its
connection-said k side t c (up.Attn a status) its h = absurd its

said : (side : Side) (u : UnitState) (step : Option UnitStep) → Acts side u step → IfSome (outcome_of step).sent (λ x. IsSaidRight (holding_of u) side x.signal)
said side u _ Idles = tt
said side u _ (Says v p x q right is) = right
said side u _ (Begins v is) = tt
said side u _ (unit_acts.Leaves t p c v on away le) = held-holder u.own side (held t (connection.On p c)) on
said side u _ (Asks t p at v off on asks le) = held-holder u.own side (held t at) on
said side u _ (Sends t p c x v its on is) = connection-said (holding_of u) side t c x its (held-holder u.own side (held t (connection.On p c)) on)

said-right : (side : Side) (k : Holding) (sent : Option (OnPath Up)) → IfSome sent (λ x. IsSaidRight k side x.signal) → IsReplyRight (sent_up_reply side sent) k × (held_in (sent_up_reply side sent) k ≡ k)
said-right side k None h = (tt, refl)
said-right side k (Some x) h = (h, refl)

acts-hold : (s : Side) (w new : WorldState) (act : UnitAct) → Acts s w.«unit» (unit_steps w.«unit» act) → holdings.Keeps w.«unit» (unit_steps w.«unit» act) → LinksStep (links_of w) (Unit_acts act) (links_of new) →
    IsReplyRight (sent_up_reply s (outcome_of (unit_steps w.«unit» act)).sent) (holding_of w.«unit») × (holding_of new.«unit» ≡ held_in (sent_up_reply s (outcome_of (unit_steps w.«unit» act)).sent) (holding_of w.«unit»))
acts-hold s w new act acts keeps st =
    let right = said-right s (holding_of w.«unit») (outcome_of (unit_steps w.«unit» act)).sent (said s w.«unit» (unit_steps w.«unit» act) acts) in
    (right.0, ap holding_of st.«unit» ∙ (keeps ∙ sym right.1))

owner-holds : (w new : WorldState) (act : UnitAct) (o : Own) → w.«unit».own ≡ o → ((s : Side) → is_owner_side w.«unit».own s ≡ true → Acts s w.«unit» (unit_steps w.«unit» act)) →
    holdings.Keeps w.«unit» (unit_steps w.«unit» act) → LinksStep (links_of w) (Unit_acts act) (links_of new) →
    IsReplyRight (owner_reply o w.«unit» act) (holding_of w.«unit») × (holding_of new.«unit» ≡ held_in (owner_reply o w.«unit» act) (holding_of w.«unit»))
owner-holds w new act own.Idle e acts keeps st = (tt, ap holding_of st.«unit» ∙ keeps)
owner-holds w new act (own.Owned s t at) e acts keeps st = acts-hold s w new act (acts s (ap (λ (x : Own). is_owner_side x s) e ∙ same-side s)) keeps st

hold-holds : (w new : WorldState) (s : Side) (act : HoldAct) (sent : Option (OnPath Down)) → LinksStep (links_of w) (Hold_acts s act) (links_of new) →
    IsReplyRight (sent_down_reply s sent) (holding_of w.«unit») × (holding_of new.«unit» ≡ held_in (sent_down_reply s sent) (holding_of w.«unit»))
hold-holds w new s act sent st = let right = told-right s (holding_of w.«unit») sent in (right.0, hold-unit w new s act st ∙ sym right.1)

pub event-holds : Rises → (w : WorldState) (e : WorldEvent) (new : WorldState) → IsGood (links_of w) → MadeOf w e new → Holds w e new
event-holds rises w (event.Choose s p single) new g made = hold-holds w new s _ _ (stepped w (event.Choose s p single) new made)
event-holds rises w (event.Down s index keep may) new g made = line_took_down-holds rises s w new may (slice_get (line_of w s).link.downs index) g (stepped w (event.Down s index keep may) new made)
event-holds rises w (event.Up s index keep may) new g made =
    let o : Option (OnPath Up) = slice_get (line_of w s).link.ups index in
    let right = line_took_up-right s w may o (holding_of w.«unit») in (right.0, line_took_up-unit w new s may o (stepped w (event.Up s index keep may) new made) ∙ sym right.1)
event-holds rises w (event.LoseDown s index) new g made = hold-holds w new s _ None (stepped w (event.LoseDown s index) new made)
event-holds rises w (event.LoseUp s index) new g made = hold-holds w new s _ None (stepped w (event.LoseUp s index) new made)
event-holds rises w (event.PathDown s p) new g made = hold-holds w new s _ None (stepped w (event.PathDown s p) new made)
event-holds rises w (event.PathUp s p) new g made = hold-holds w new s _ None (stepped w (event.PathUp s p) new made)
event-holds rises w (event.PathReset s p) new g made = hold-holds w new s _ None (stepped w (event.PathReset s p) new made)
event-holds rises w (event.LetGo s) new g made = hold-holds w new s _ _ (stepped w (event.LetGo s) new made)
event-holds rises w (event.Send s p signal) new g made = hold-holds w new s _ (Some (record { path = p; signal = signal })) (stepped w (event.Send s p signal) new made.1)
event-holds rises w (event.Clear s) new g made = hold-holds w new s _ None (stepped w (event.Clear s) new made)
event-holds rises w event.SubsystemReset new g made = (tt, ap (λ (x : WorldState). holding_of x.«unit») made)
event-holds rises w event.Leave new g made = owner-holds w new Leaves w.«unit».own refl (λ s h. leaving-acts s w.«unit» h) (leaving-keeps w.«unit» w.«unit».own refl) (stepped w event.Leave new made)
event-holds rises w (event.Ask p) new g made = owner-holds w new (Asks p) w.«unit».own refl (λ s h. asking-acts s w.«unit» p h) (asking-keeps w.«unit» w.«unit».own p refl) (stepped w (event.Ask p) new made)
event-holds rises w (event.Attention s p) new g made = acts-hold s w new (Attends s p) (attending-acts s w.«unit» p) (attending-keeps w.«unit» s p) (stepped w (event.Attention s p) new made)
event-holds rises w (event.Notice s p) new g made = acts-hold s w new (Notices s p) (noticing-acts s w.«unit» p) (noticing-keeps w.«unit» s p) (stepped w (event.Notice s p) new made)
event-holds rises w event.Restart new g made = (tt, ap holding_of (stepped w event.Restart new made).«unit»)
event-holds rises w (event.Report report) new g made =
    owner-holds w new (Reports report) w.«unit».own refl (λ s h. reports-acts s w.«unit» report h) (reports-keep w.«unit» report) (stepped w (event.Report report) new made)

turn-holds : Rises → (w : WorldState) (e : WorldEvent) → IsGood (links_of w) → OnDone (Holds w e) (world_result w e)
turn-holds rises w e g =
    counted-done (Holds w e) (λ new n h. h) w e (done-weaker (MadeOf w e) (Holds w e) (λ new made. event-holds rises w e new g made) (world_result_of w e) (turn-made w e))

entered-through : (Claim : WorldReply → Holding → Type 0) (w : WorldState) (e : WorldEvent) (turn : WorldResult) (entries : List WorldEntry) → OnDone (Goes Claim w e) turn →
    Throughout holding_after Claim (holding_of (state_after w turn).«unit») entries → Throughout holding_after Claim (holding_of w.«unit») (entered w e turn entries)
entered-through Claim w e (Ok new) entries h rest = (h.0, subst (λ (k : Holding). Throughout holding_after Claim k entries) h.1 rest)
entered-through Claim w e (Err f) entries h rest = rest

pub list-through : (Claim : WorldReply → Holding → Type 0) → Keeps → Ends → ((w : WorldState) (e : WorldEvent) → IsGood (links_of w) → OnDone (Goes Claim w e) (world_result w e)) →
    (w : WorldState) (es : List WorldEvent) → IsWell w → Throughout holding_after Claim (holding_of w.«unit») (entries_of w es)
list-through Claim keeps ends goes w [] well = tt
list-through Claim keeps ends goes w (e ∷ es) well =
    entered-through Claim w e (world_result w e) (entries_of (world_after w e) es) (goes w e well.good)
    (list-through Claim keeps ends goes (world_after w e) es (event-lasts keeps ends w e well).0)

pub one_holder : Keeps → Ends → Rises → IsWell opening_world → (es : List WorldEvent) → HasOneHolder (entries_of opening_world es)
one_holder keeps ends rises well es = list-through IsReplyRight keeps ends (turn-holds rises) opening_world es well

-- begun once: what is above a number stays so, and the number that a side answered last never falls
above-lower : (m n : ℕ) (ts : List ℕ) → m ≤ n → AreAbove n ts → AreAbove m ts
above-lower m n [] le h = tt
above-lower m n (t ∷ ts) le h = (let l : n < t = h.0 in omega (arith, l, le), h.1)

abbrev last_of : Holding → Side → ℕ
last_of k side = (side_seen k side).number

restart-last : (k : Holding) (side : Side) → last_of (with_restart k) side ≡ last_of k side
restart-last k First = refl
restart-last k Second = refl

restarted-last : (e : WorldEvent) (k : Holding) (side : Side) → last_of (restarted_by e k) side ≡ last_of k side
restarted-last (event.Choose s p single) k side = refl
restarted-last (event.Down s index keep may) k side = refl
restarted-last (event.Up s index keep may) k side = refl
restarted-last (event.LoseDown s index) k side = refl
restarted-last (event.LoseUp s index) k side = refl
restarted-last (event.PathDown s p) k side = refl
restarted-last (event.PathUp s p) k side = refl
restarted-last (event.PathReset s p) k side = refl
restarted-last (event.LetGo s) k side = refl
restarted-last (event.Send s p signal) k side = refl
restarted-last (event.Clear s) k side = refl
restarted-last event.SubsystemReset k side = refl
restarted-last event.Leave k side = refl
restarted-last (event.Ask p) k side = refl
restarted-last (event.Attention s p) k side = refl
restarted-last (event.Notice s p) k side = refl
restarted-last event.Restart k side = restart-last k side
restarted-last (event.Report report) k side = refl

-- the numbers of the rest, where this is seen next, are above the last with this one
abbrev NumbersRise : Side → Holding → Holding → List ℕ → List ℕ → Type 0
NumbersRise side k next ts all = AreAbove (last_of next side) ts → AreAbove (last_of k side) all

accept-rises : (side s : Side) (k : Holding) (t : ℕ) (ts : List ℕ) → last_of k s < t → NumbersRise side k (held_after s (up.Accept t) k) ts (with_accept side s (up.Accept t) ts)
accept-rises First First k t ts l h = (l, h)
accept-rises First Second k t ts l h = h
accept-rises Second First k t ts l h = h
accept-rises Second Second k t ts l h = (l, h)

answered-rises : (side s : Side) (k : Holding) (t : ℕ) (ts : List ℕ) → last_of k s < t → NumbersRise side k (with_answered k s t) ts ts
answered-rises First First k t ts l h = above-lower (last_of k First) t ts (omega (arith, l)) h
answered-rises First Second k t ts l h = h
answered-rises Second First k t ts l h = h
answered-rises Second Second k t ts l h = above-lower (last_of k Second) t ts (omega (arith, l)) h

cleared-rises : (side s : Side) (k : Holding) (b : Bool) (x : SideAnswered) (ts : List ℕ) → last_of k s < x.number → NumbersRise side k (with_seen (if b then let_go k else k) s x) ts ts
cleared-rises First First k true x ts l h = above-lower (last_of k First) x.number ts (omega (arith, l)) h
cleared-rises First First k false x ts l h = above-lower (last_of k First) x.number ts (omega (arith, l)) h
cleared-rises First Second k true x ts l h = h
cleared-rises First Second k false x ts l h = h
cleared-rises Second First k true x ts l h = h
cleared-rises Second First k false x ts l h = h
cleared-rises Second Second k true x ts l h = above-lower (last_of k Second) x.number ts (omega (arith, l)) h
cleared-rises Second Second k false x ts l h = above-lower (last_of k Second) x.number ts (omega (arith, l)) h

answer-rises : (side s : Side) (k : Holding) (d : Down) (y : Up) (ts : List ℕ) → IsAnswerOf k s d y → NumbersRise side k (held_after s y k) ts (with_accept side s y ts)
answer-rises side s k d (up.Accept t) ts right h = accept-rises side s k t ts right.2 h
answer-rises side s k d (up.Busy t) ts right h = answered-rises side s k t ts right.1 h
answer-rises side s k d (up.Cleared r) ts right h = cleared-rises side s k (is_held_by k.holder s) (record { number = r; restarted = false }) ts right.1 h
answer-rises side s k d (up.Leave t c) ts right h = h
answer-rises side s k d (up.Released t) ts right h = h
answer-rises side s k d (up.Notice b) ts right h = h
answer-rises side s k d (up.Back t c) ts right h = absurd right
answer-rises side s k d (up.Data load t c n m) ts right h = absurd right
answer-rises side s k d (up.End t n status more) ts right h = absurd right
answer-rises side s k d (up.Attn a status) ts right h = absurd right

said-rises : (side s : Side) (k : Holding) (y : Up) (ts : List ℕ) → IsSaidRight k s y → NumbersRise side k k ts (with_accept side s y ts)
said-rises side s k (up.Accept t) ts right h = absurd right
said-rises side s k (up.Busy t) ts right h = absurd right
said-rises side s k (up.Cleared r) ts right h = absurd right
said-rises side s k (up.Released t) ts right h = absurd right
said-rises side s k (up.Leave t c) ts right h = h
said-rises side s k (up.Back t c) ts right h = h
said-rises side s k (up.Data load t c n m) ts right h = h
said-rises side s k (up.End t n status more) ts right h = h
said-rises side s k (up.Notice b) ts right h = h
said-rises side s k (up.Attn a status) ts right h = h

some-none : (x : OnPath Up) → Some x ≡ None → ⊥
some-none x e = cc e

reply-rises : (side : Side) (k : Holding) (r : WorldReply) (ts : List ℕ) → IsReplyRight r k → NumbersRise side k (held_in r k) ts (accepts_in side r ts)
reply-rises side k reply.Done ts right h = h
reply-rises side k (reply.Down s x true (Some y)) ts right h = answer-rises side s k x.signal y.signal ts right.0 h
reply-rises side k (reply.Down s x true None) ts right h = subst (λ (n : ℕ). AreAbove n ts) (taken-number x.signal k side) h
reply-rises side k (reply.Down s x false (Some y)) ts right h = absurd (some-none y right.0)
reply-rises side k (reply.Down s x false None) ts right h = h
reply-rises side k (reply.Up s x taken sent) ts right h = h
reply-rises side k (reply.SentDown s x) ts right h = h
reply-rises side k (reply.SentUp s x) ts right h = said-rises side s k x.signal ts right h

once : (side : Side) (k : Holding) (entries : List WorldEntry) → Throughout holding_after IsReplyRight k entries → AreAbove (last_of k side) (accepts_of side entries)
once side k [] right = tt
once side k (entry ∷ entries) right =
    reply-rises side k entry.reply (accepts_of side entries) right.0
    (subst (λ (n : ℕ). AreAbove n (accepts_of side entries)) (restarted-last entry.event (held_in entry.reply k) side)
    (once side (holding_after entry.event entry.reply k) entries right.1))

first-last : (side : Side) → last_of nothing_held side ≡ 0
first-last First = refl
first-last Second = refl

-- it follows of whatever entries a holder is right
pub begun_once : (h : List WorldEntry) → HasOneHolder h → IsBegunOnce h
begun_once h right side = subst (λ (n : ℕ). AreAbove n (accepts_of side h)) (first-last side) (once side nothing_held h right)
