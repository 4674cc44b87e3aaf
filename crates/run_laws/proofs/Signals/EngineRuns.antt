-- After each run the engines that are seen to serve a subchannel are those that do: each entry is right.
use Rattle.std.proofs.Common.{◌≡◌, refl, sym, ◌∙◌, ap, subst, ℕ, zero, suc, ◌+◌, ◌*◌, ◌<◌, ◌==◌, ◌&&◌, ◌||◌, nat_lt, Bool, true, false, not, Option, None, Some, Result, List, [], ◌∷◌, ◌++◌, length, map, slice_get, slice_index_or, IfOk, if◌then◌else◌, inl, inr, arith}
use Rattle.std.specs.List.{list_any, range_with_len}
use Rattle.std.proofs.lemmas.Bool.{eqb-true, and_from}
use Rattle.std.proofs.lemmas.Option.{slice_get_within, get_or_from_slice_get}
use Rattle.std.proofs.lemmas.List.FromFn.{get_or-range_with_len, length-range_with_len, get_or-map-range_with_len}
use Rattle.allegiance.specs.PathUse.{reachable_paths}
use Rattle.chan_events.specs.Events.{Event}
use Rattle.chan_events.specs.declared.event.Event.TheVariants as event
use Rattle.chan_events.specs.declared.reply.Entry.{Entry}
use Rattle.chan_events.specs.Replies.{Reply}
use Rattle.chan_events.specs.declared.reply.Reply.TheVariants as reply
use Rattle.chan_model.specs.declared.fault.Fault.{Fault}
use Rattle.chan_model.specs.declared.hold_state.HoldPhase.{HoldPhase}
use Rattle.chan_model.specs.declared.hold_state.HoldPhase.TheVariants as hold
use Rattle.chan_model.specs.declared.hold_state.HoldState.{HoldState}
use Rattle.chan_model.specs.Signals.{Down, Up}
use Rattle.chan_model.specs.declared.signal.Down.TheVariants as down
use Rattle.chan_model.specs.declared.signal.OnPath.{OnPath}
use Rattle.chan_model.specs.declared.signal.Up.TheVariants as up
use Rattle.chan_model.specs.HoldTable.{refusing, granting, asked_back, outcome_of}
use Rattle.chan_model.specs.PathSets.{mask_of_paths, is_member, each_path}
use Rattle.chan_model.specs.ResetCauses.{is_path, engaged_path}
use Rattle.channel_config.specs.declared.parts.SubchannelSetup.{SubchannelSetup}
use Rattle.channel_config.specs.Lawful.{IsLawful}
use Rattle.channel_config.specs.Setup.{Setup, set_count}
use Rattle.channel_config.specs.SubchannelWords.{subchannel_named}
use Rattle.path_select.specs.Choice.{IsChoice}
use Rattle.storage_keys.specs.Storage.{Contents}
use Rattle.wires.specs.Queues.{queue}
use Rattle.subchannel_model.specs.declared.state.Chosen.{Chosen}
use Rattle.subchannel_model.specs.declared.state.Chosen.TheVariants.{Resets, Halts, Offers}
use Rattle.subchannel_model.specs.declared.state.Subchannel.{Subchannel}
use Rattle.subchannel_model.specs.Choosing.{engages, any_engages, is_engaged, path_use, engaged_paths, return_paths, paths_to_choose, chosen, marked_sub, IsFitFor}
use Rattle.subchannel_model.specs.Sending.{carried_by, finds_full}
use Rattle.subchannel_model.specs.Store.{available_paths}
use Rattle.machine_model.specs.ChooseSteps.{choose_sub}
use Rattle.machine_model.specs.OtherSteps.{engaged_byte, engaged_bytes, engaged_chpids}
use Rattle.machine_model.specs.State.{State, opening_of}
use Rattle.machine_model.specs.Steps.{Run, Opened, Stepped, Step}
use Rattle.machine_model.specs.Results.{SubResult, UpResult}
use Rattle.machine_model.specs.UpSteps.{may_return, returns_at, up_front, up_sub, returns_by}
use Rattle.subchannel_model.specs.Taking.{takes_up}
use Rattle.run_laws.specs.OneEngine.{IsOnePath}
use Rattle.run_laws.proofs.Machine.Moving.{IsFree, usable-free, return-parts}
use Rattle.run_laws.proofs.Machine.Offering.{IsOffer, chosen-offer, offer-usable}
use Rattle.run_laws.proofs.Machine.Passing.{IsGranted, up-granted}
use Rattle.run_laws.proofs.Machine.PathSets.{without-parts, each-true}
use Rattle.run_laws.proofs.Machine.Turning.{returns-right}
use Rattle.step_laws.specs.Walks as walked
use Rattle.step_laws.specs.Walks.{AreWalks, Walked, IsQuiet}
use Rattle.run_laws.specs.Links.{Apart, SubSeen, Seen, engaged_by, is_on, IsUp, seen_after, links_in, nothing_seen}
use Rattle.run_laws.specs.Engines.{is_served, serves, IsIdle, IsOfferRight, IsGrantRight, IsGrantDue, GoesByIdle, status_byte, status_bytes, ShowsServed, ServesOne, IsEntryRight, HasOneEngine}
use Rattle.run_laws.proofs.Signals.LinkHolds.{Stands, link_at}
use Rattle.run_laws.proofs.Signals.Returning.{up-available, first-returns}
use Rattle.run_laws.proofs.Signals.LinkLists.{AreTied, of-named}
use Rattle.run_laws.proofs.Signals.LinkPaths.{member-up}
use Rattle.run_laws.proofs.Signals.LinkRuns.{AreSeen, AreOnePath, IsRunSeen, run-seen}
use Rattle.run_laws.proofs.Machine.Appending.{through-more, claim-more}
use Rattle.run_laws.proofs.Signals.LinkSubs.{IsTied}
use Rattle.step_laws.proofs.Results as turn
use Rattle.step_laws.proofs.Results.{ResultOf, HasResult, step-turn}

-- the path whose engine serves it
engaged-at : (phase : HoldPhase) (sent : Option ℕ) → engaged_by (link_at phase sent) ≡ engaged_path phase
engaged-at (hold.Reset r) None = refl
engaged-at (hold.Reset r) (Some p) = refl
engaged-at other sent = refl

engaged-is : (k : SubSeen) (phase : HoldPhase) (sent : Option ℕ) → Stands k phase sent → engaged_by k.link ≡ engaged_path phase
engaged-is k phase sent (inl e) = ap engaged_by e ∙ engaged-at phase sent
engaged-is k phase sent (inr d) = ap engaged_by d.apart ∙ sym (ap engaged_path d.is_reset)

on-engages : (sub : Subchannel) (chpid : ℕ) (o : Option ℕ) → is_on sub.setup o chpid ≡ elim o [ None ↦ false | Some p ↦ is_path (slice_get sub.setup.paths p) chpid ]
on-engages sub chpid None = refl
on-engages sub chpid (Some p) = refl

served-is : (is_up : ℕ → Bool) (k : SubSeen) (sub : Subchannel) (chpid : ℕ) → IsTied is_up k sub → is_served chpid k ≡ engages chpid sub
served-is is_up k sub chpid tie =
    ap (λ (s : SubchannelSetup). is_on s (engaged_by k.link) chpid) tie.setup
    ∙ ap (λ (o : Option ℕ). is_on sub.setup o chpid) (engaged-is k sub.state.hold.phase sub.state.hold.reset_path tie.held.stands)
    ∙ on-engages sub chpid (engaged_path sub.state.hold.phase)

any-served : (is_up : ℕ → Bool) (ks : List SubSeen) (subs : List Subchannel) (chpid : ℕ) → AreTied is_up ks subs → list_any (is_served chpid) ks ≡ list_any (engages chpid) subs
any-served is_up [] [] chpid all = refl
any-served is_up [] (x ∷ xs) chpid all = absurd all
any-served is_up (k ∷ ks) [] chpid all = absurd all
any-served is_up (k ∷ ks) (x ∷ xs) chpid all =
    ap (λ (b : Bool). b || list_any (is_served chpid) ks) (served-is is_up k x chpid all.0) ∙ ap (λ (b : Bool). engages chpid x || b) (any-served is_up ks xs chpid all.1)

serves-is : (k : Seen) (s : State) (chpid : ℕ) → AreSeen k s → serves k chpid ≡ any_engages s.subs chpid
serves-is k s chpid tied = any-served k.up k.subs s.subs chpid tied

-- the subchannel of an index
record IsThere (is_up : ℕ → Bool) (k : SubSeen) (subs : List Subchannel) (i : ℕ) : Type 0 where
  sub : Subchannel
  there : slice_get subs i ≡ Some sub
  tie : IsTied is_up k sub

tied-at : (is_up : ℕ → Bool) (ks : List SubSeen) (subs : List Subchannel) (i : ℕ) (k : SubSeen) → slice_get ks i ≡ Some k → AreTied is_up ks subs → IsThere is_up k subs i
tied-at is_up [] [] i k e all = absurd (cc e)
tied-at is_up [] (x ∷ xs) i k e all = absurd all
tied-at is_up (j ∷ ks) [] i k e all = absurd all
tied-at is_up (j ∷ ks) (x ∷ xs) zero k e all =
    let same : j ≡ k = cc e in record { sub = x; there = refl; tie = subst (λ (y : SubSeen). IsTied is_up y x) same all.0 }
tied-at is_up (j ∷ ks) (x ∷ xs) (suc i) k e all = let t : IsThere is_up k xs i = tied-at is_up ks xs i k e all.1 in record { sub = t.sub; there = t.there; tie = t.tie }

-- each engine serves one
record IsPathOf (sub : Subchannel) (chpid : ℕ) (o : Option ℕ) : Type 0 where
  path : ℕ
  engaged : o ≡ Some path
  at : slice_get sub.setup.paths path ≡ Some chpid

path-is : (o : Option ℕ) (chpid : ℕ) → is_path o chpid ≡ true → o ≡ Some chpid
path-is None chpid e = absurd (cc e)
path-is (Some c) chpid e = ap Some (eqb-true c chpid e)

engaged-path : (sub : Subchannel) (chpid : ℕ) (o : Option ℕ) → is_on sub.setup o chpid ≡ true → IsPathOf sub chpid o
engaged-path sub chpid None e = absurd (cc e)
engaged-path sub chpid (Some p) e = record { path = p; engaged = refl; at = path-is (slice_get sub.setup.paths p) chpid e }

up-at : (is_up : ℕ → Bool) (o : Option ℕ) (chpid c : ℕ) → o ≡ Some c → o ≡ Some chpid → is_up c ≡ true → is_up chpid ≡ true
up-at is_up o chpid c e f up = let same : chpid ≡ c = cc (sym f ∙ e) in ap is_up same ∙ up

served-up : (is_up : ℕ → Bool) (k : SubSeen) (sub : Subchannel) (chpid : ℕ) → ((p : ℕ) → engaged_path sub.state.hold.phase ≡ Some p → is_member (available_paths sub) p ≡ true) → IsTied is_up k sub →
    is_served chpid k ≡ true → is_up chpid ≡ true
served-up is_up k sub chpid available tie e =
    let on : is_on sub.setup (engaged_path sub.state.hold.phase) chpid ≡ true =
    on-engages sub chpid (engaged_path sub.state.hold.phase) ∙ sym (served-is is_up k sub chpid tie) ∙ e in
    let p : IsPathOf sub chpid (engaged_path sub.state.hold.phase) = engaged-path sub chpid (engaged_path sub.state.hold.phase) on in
    let got = member-up is_up sub p.path tie.shown (available p.path p.engaged) in
    up-at is_up (slice_get sub.setup.paths p.path) chpid got.0 got.1 p.at got.2

one-served : (k : Seen) (s : State) → IsOnePath s → AreSeen k s → ServesOne k
one-served k s one tied = record {
  alone = λ chpid i j x y at there e f.
      let a : IsThere k.up x s.subs i = tied-at k.up k.subs s.subs i x at tied in
      let b : IsThere k.up y s.subs j = tied-at k.up k.subs s.subs j y there tied in
      one.subchannel chpid i j a.sub b.sub a.there b.there (sym (served-is k.up x a.sub chpid a.tie) ∙ e) (sym (served-is k.up y b.sub chpid b.tie) ∙ f);
  up = λ chpid i x at e.
      let a : IsThere k.up x s.subs i = tied-at k.up k.subs s.subs i x at tied in
      served-up k.up x a.sub chpid (λ p h. one.available i p a.sub a.there h) a.tie e;
}

-- a path whose engine is free
idle-is : (k : Seen) (s : State) (j : SubSeen) (sub : Subchannel) (path : ℕ) → AreSeen k s → IsTied k.up j sub → IsFree s.subs sub path → IsIdle k j path
idle-is k s j sub path tied tie free = λ chpid at.
    let there : slice_get sub.setup.paths path ≡ Some chpid = sym (ap (λ (x : SubchannelSetup). slice_get x.paths path) tie.setup) ∙ at in
    serves-is k s chpid tied ∙ sym (ap (is_engaged s.subs) there) ∙ free.1

if-ok : {A : Type 0} (P : A → Type 0) (b : Bool) (x y : Result A Fault) → IfOk x P → IfOk y P → IfOk (if b then x else y) P
if-ok P true x y e f = e
if-ok P false x y e f = f

offer-idle : (k : Seen) (s : State) (j : SubSeen) (sub : Subchannel) (choice : Option ℕ) (c : Chosen) → IsChoice (paths_to_choose s.subs sub) choice → IsFitFor c sub.state.hold → IsOffer choice c →
    AreSeen k s → IsTied k.up j sub → IfOk (choose_sub (marked_sub sub choice) c) (λ t. IsOfferRight k t.reply j)
offer-idle k s j sub choice (Resets r path) x fits o tied tie =
    if-ok (λ (t : SubResult). IsOfferRight k t.reply j) (finds_full sub.wires.down (carried_by sub (Some (record { path = path; signal = down.Reset r sub.state.hold.known_restarts })))) _ _ tt tt
offer-idle k s j sub choice (Halts t path) x fits o tied tie =
    if-ok (λ (t : SubResult). IsOfferRight k t.reply j) (finds_full sub.wires.down (carried_by sub (Some (record { path = path; signal = down.Halt t })))) _ _ tt tt
offer-idle k s j sub choice (Offers c path) x fits o tied tie =
    let parts = without-parts (reachable_paths (path_use sub)) (engaged_paths s.subs sub) path (offer-usable s.subs sub choice path x fits o) in
    if-ok (λ (t : SubResult). IsOfferRight k t.reply j) (finds_full sub.wires.down (carried_by sub (Some (record { path = path; signal = down.Select (sub.state.drawn + 1) })))) _ _ tt
    (idle-is k s j sub path tied tie (usable-free s.subs sub path parts.0 parts.1))
offer-idle k s j sub choice other x fits o tied tie = tt

-- a Back is granted by the path of its Accept
not-member : (f : ℕ → Bool) (p : ℕ) → f p ≡ false → not (is_member (each_path f) p) ≡ true
not-member f p e = by (is_member (each_path f) p) refl
  where
    by : (b : Bool) → is_member (each_path f) p ≡ b → not b ≡ true
    by true h = absurd (cc (sym (each-true f p h) ∙ e))
    by false h = refl

may-return : (k : Seen) (s : State) (j : SubSeen) (sub : Subchannel) (path : ℕ) → sub.state.hold.first_path ≡ Some path → AreSeen k s → IsTied k.up j sub → IsUp k.up j path → IsIdle k j path →
    may_return s.subs sub path ≡ true
may-return k s j sub path first tied tie up idle =
    let there : slice_get sub.setup.paths path ≡ Some up.0 = sym (ap (λ (x : SubchannelSetup). slice_get x.paths path) tie.setup) ∙ up.1 in
    and_from (is_member (return_paths sub) path) (not (is_member (engaged_paths s.subs sub) path))
    (first-returns sub path first (up-available k.up j sub path tie up))
    (not-member (λ p. is_engaged s.subs (slice_get sub.setup.paths p)) path (ap (is_engaged s.subs) there ∙ sym (serves-is k s up.0 tied) ∙ idle up.0 up.1))

-- a Back that is taken of a program that is apart
abbrev IsGrant : ℕ → ℕ → ℕ → Bool → Option (OnPath Down) → Type 0
IsGrant p t c taken sent = taken ≡ true → sent ≡ Some (record { path = p; signal = down.Grant t c })

grant-if : (h : HoldState) (p u t c : ℕ) (may b : Bool) → ((u == t) && nat_lt h.seen c) ≡ b → u ≡ t → may ≡ true →
    IsGrant p u c
    (outcome_of (if b then (if may then Some (granting h p t c) else Some (refusing h p t c)) else None)).taken
    (outcome_of (if b then (if may then Some (granting h p t c) else Some (refusing h p t c)) else None)).sent
grant-if h p u t c true true e same may = λ taken. ap (λ (n : ℕ). Some (record { path = p; signal = down.Grant n c })) (sym same)
grant-if h p u t c false true e same may = absurd (cc may)
grant-if h p u t c may false e same m = λ taken. absurd (cc taken)

not-granted : (p t c : ℕ) → IsGrant p t c false None
not-granted p t c taken = absurd (cc taken)

back-granted : (h : HoldState) (phase : HoldPhase) (reset : Option ℕ) (j : SubSeen) (p u c : ℕ) (may : Bool) → Stands j phase reset → j.link ≡ Apart u → may ≡ true →
    IsGrant p u c (outcome_of (asked_back (record h { phase = phase }) phase p u c may)).taken (outcome_of (asked_back (record h { phase = phase }) phase p u c may)).sent
back-granted h (hold.Away t) reset j p u c may (inl e) apart m =
    let same : u ≡ t = cc (sym apart ∙ e) in grant-if (record h { phase = hold.Away t }) p u t c may ((u == t) && nat_lt h.seen c) refl same m
back-granted h (hold.Reset r) reset j p u c may s apart m = not-granted p u c
back-granted h hold.Free reset j p u c may (inr d) apart m = not-granted p u c
back-granted h (hold.Offer t q) reset j p u c may (inr d) apart m = not-granted p u c
back-granted h (hold.On t q e) reset j p u c may (inr d) apart m = absurd (cc d.is_reset)
back-granted h (hold.Away t) reset j p u c may (inr d) apart m = absurd (cc d.is_reset)
back-granted h (hold.Letting t q) reset j p u c may (inr d) apart m = not-granted p u c
back-granted h other reset j p u c may (inl e) apart m = absurd (cc (sym e ∙ apart))

grant-due : (k : Seen) (j : SubSeen) (p u c : ℕ) (taken : Bool) (sent : Option (OnPath Down)) → (j.link ≡ Apart u → j.first ≡ Some p → IsUp k.up j p → IsIdle k j p → IsGrant p u c taken sent) →
    IsGrantDue k p (reply.Up (up.Back u c) taken sent) j
grant-due k j p u c true sent f = λ apart first on idle. f apart first on idle refl
grant-due k j p u c false sent f = tt

signal-due : (k : Seen) (s : State) (returns : Bool) (storage : Contents) (j : SubSeen) (sub : Subchannel) (p : ℕ) (x : Up) → slice_get (queue sub.wires.up p) 0 ≡ Some x → returns ≡ returns_at s.subs sub p →
    AreSeen k s → IsTied k.up j sub → IsGrantDue k p (reply.Up x (takes_up returns storage sub.state p x).step.outcome.taken (takes_up returns storage sub.state p x).step.outcome.sent) j
signal-due k s returns storage j sub p (up.Accept t) front may tied tie = tt
signal-due k s returns storage j sub p (up.Busy t) front may tied tie = tt
signal-due k s returns storage j sub p (up.Leave t c) front may tied tie = tt
signal-due k s returns storage j sub p (up.Back t c) front may tied tie =
    grant-due k j p t c _ _
    (λ apart first on idle.
    back-granted sub.state.hold sub.state.hold.phase sub.state.hold.reset_path j p t c returns tie.held.stands apart
    (may ∙ ap (λ (o : Option Up). returns_by s.subs sub p o) front ∙ may-return k s j sub p (sym tie.held.first ∙ first) tied tie on idle))
signal-due k s returns storage j sub p (up.Data load t c n q) front may tied tie = tt
signal-due k s returns storage j sub p (up.End t n status more) front may tied tie = tt
signal-due k s returns storage j sub p (up.Released t) front may tied tie = tt
signal-due k s returns storage j sub p (up.Cleared r) front may tied tie = tt
signal-due k s returns storage j sub p (up.Notice b) front may tied tie = tt
signal-due k s returns storage j sub p (up.Attn a status) front may tied tie = tt

front-due : (k : Seen) (s : State) (returns : Bool) (storage : Contents) (j : SubSeen) (sub : Subchannel) (p : ℕ) (front : Option Up) → slice_get (queue sub.wires.up p) 0 ≡ front →
    returns ≡ returns_at s.subs sub p → AreSeen k s → IsTied k.up j sub → IfOk (up_front returns storage sub p front) (λ t. IsGrantDue k p t.reply j)
front-due k s returns storage j sub p None e may tied tie = tt
front-due k s returns storage j sub p (Some x) e may tied tie =
    if-ok (λ (t : UpResult). IsGrantDue k p t.reply j) (finds_full sub.wires.down (carried_by sub (takes_up returns storage sub.state p x).step.outcome.sent)) _ _ tt
    (signal-due k s returns storage j sub p x e may tied tie)

up-due : (k : Seen) (s : State) (returns : Bool) (storage : Contents) (j : SubSeen) (sub : Subchannel) (p : ℕ) → returns ≡ returns_at s.subs sub p → AreSeen k s → IsTied k.up j sub →
    IfOk (up_sub returns storage sub p) (λ t. IsGrantDue k p t.reply j)
up-due k s returns storage j sub p may tied tie =
    if-ok (λ (t : UpResult). IsGrantDue k p t.reply j) (nat_lt p (length sub.setup.paths)) (up_front returns storage sub p (slice_get (queue sub.wires.up p) 0)) _
    (front-due k s returns storage j sub p (slice_get (queue sub.wires.up p) 0) refl may tied tie) tt

quiet-idle : (sets : ℕ) (k : Seen) (e : Event) (r : Reply) → IsQuiet e r → GoesByIdle sets k e r
quiet-idle sets k (event.Choose word) r q = absurd q
quiet-idle sets k (event.Up word path) r q = absurd q
quiet-idle sets k e r q = tt

walked-idle : (s : State) (e : Event) (r : Reply) (new : State) (k : Seen) → Walked s e r new → AreSeen k s → GoesByIdle s.sets k e r
walked-idle s _ _ _ k (walked.Stays e r new q sets subs units up) tied = quiet-idle s.sets k e r q
walked-idle s _ _ _ k (walked.Tested e r index sub c new q one address by answers) tied = quiet-idle s.sets k e r q
walked-idle s _ _ _ k (walked.Modified e r index sub given c new q one) tied = quiet-idle s.sets k e r q
walked-idle s _ _ _ k (walked.Performed e r index sub f c new q one by answers) tied = quiet-idle s.sets k e r q
walked-idle s _ _ _ k (walked.Chosen word index sub choice t new n x w ok one) tied =
    of-named k.up (IsOfferRight k t.reply) (subchannel_named s.sets word) k.subs s.subs index sub n one.there
    (λ j tie.
    subst (λ (r : Result SubResult Fault). IfOk r (λ t. IsOfferRight k t.reply j)) ok (offer-idle k s j sub choice (chosen sub choice) x w.fits (chosen-offer sub choice) tied tie)) tied
walked-idle s _ _ _ k (walked.Met word path returns index sub t new n ok one may) tied =
    let granted : IsGranted returns sub path t = subst (λ (r : Result UpResult Fault). IfOk r (IsGranted returns sub path)) ok (up-granted returns s.storage sub path) in
    of-named k.up (λ j. IsGrantRight k t.reply j × IsGrantDue k path t.reply j) (subchannel_named s.sets word) k.subs s.subs index sub n one.there
    (λ j tie. (
      λ q e.
          let g = granted q e in
          subst (λ (p : ℕ). IsIdle k j p) (sym g.1) (idle-is k s j sub path tied tie (return-parts s.subs sub path (returns-right s.subs sub path returns may g.0)).0),
      subst (λ (r : Result UpResult Fault). IfOk r (λ t. IsGrantDue k path t.reply j)) ok (up-due k s returns s.storage j sub path may tied tie),
    )) tied
walked-idle s _ _ _ k (walked.Swept e r what new q sets subs units by) tied = quiet-idle s.sets k e r q
walked-idle s _ _ _ k w tied = tt

-- STORE CHANNEL PATH STATUS
map-same : (f g : ℕ → ℕ) (xs : List ℕ) → ((i x : ℕ) → slice_get xs i ≡ Some x → f x ≡ g x) → map f xs ≡ map g xs
map-same f g [] h = refl
map-same f g (x ∷ xs) h = ap (λ (y : ℕ). y ∷ map f xs) (h zero x refl) ∙ ap (λ (ys : List ℕ). g x ∷ ys) (map-same f g xs (λ i y e. h (suc i) y e))

range-at : (count i x : ℕ) → slice_get (range_with_len 0 count) i ≡ Some x → x < count
range-at count i x e =
    let within : i < length (range_with_len 0 count) = slice_get_within (range_with_len 0 count) i x e in
    let long : length (range_with_len 0 count) ≡ count = length-range_with_len 0 count in
    let low : i < count = omega (arith, within, long) in
    let is : x ≡ 0 + i = sym (get_or_from_slice_get (range_with_len 0 count) i x 0 e) ∙ get_or-range_with_len 0 count i 0 low in
    omega (arith, low, is)

bit-same : (a b : Bool) (xs ys : List Bool) → a ≡ b → xs ≡ ys → (a ∷ xs) ≡ (b ∷ ys)
bit-same a b xs ys e f = ap (λ (c : Bool). c ∷ xs) e ∙ ap (λ (zs : List Bool). b ∷ zs) f

each-same : (f g : ℕ → Bool) → ((p : ℕ) → p < 8 → f p ≡ g p) → each_path f ≡ each_path g
each-same f g h =
    bit-same (f 0) (g 0) _ _ (h 0 (omega arith)) (bit-same (f 1) (g 1) _ _ (h 1 (omega arith)) (bit-same (f 2) (g 2) _ _ (h 2 (omega arith)) (bit-same (f 3) (g 3) _ _ (h 3 (omega arith))
    (bit-same (f 4) (g 4) _ _ (h 4 (omega arith)) (bit-same (f 5) (g 5) _ _ (h 5 (omega arith)) (bit-same (f 6) (g 6) _ _ (h 6 (omega arith))
    (bit-same (f 7) (g 7) [] [] (h 7 (omega arith)) refl)))))))

abbrev mapped_chpids : List Subchannel → List Bool
mapped_chpids subs = map (any_engages subs) (range_with_len 0 0x100)

byte-same : (k : Seen) (s : State) (x : ℕ) → x < 32 → AreSeen k s → engaged_byte (mapped_chpids s.subs) x ≡ status_byte (serves k) x
byte-same k s x low tied =
    ap mask_of_paths
    (each-same (λ p. slice_index_or (mapped_chpids s.subs) (8 * x + p) false) (λ p. serves k (8 * x + p))
    (λ p l.
    get_or-map-range_with_len (any_engages s.subs) 0 0x100 (8 * x + p) (8 * x + p) false (omega (arith, low, l)) (omega arith)
    ∙ sym (serves-is k s (8 * x + p) tied)))

status-is : (k : Seen) (s : State) → AreSeen k s → engaged_bytes (engaged_chpids s.subs 0x100) 32 ≡ status_bytes (serves k)
unfolding engaged_bytes engaged_chpids status_bytes
status-is k s tied = map-same (engaged_byte (mapped_chpids s.subs)) (status_byte (serves k)) (range_with_len 0 32) (λ i x e. byte-same k s x (range-at 32 i x e) tied)

turn-shown : (s : State) (e : Event) (r : Reply) (new : State) (k : Seen) → ResultOf s e r new → AreSeen k s → ShowsServed k e r
turn-shown s _ _ _ k (turn.StoresPaths cpu address) tied = ap (λ (bytes : List ℕ). reply.Paths bytes) (status-is k s tied)
turn-shown s _ _ _ k t tied = tt

shown : (s : State) (e : Event) (r : Reply) (new : State) (k : Seen) → Step s e r new → AreSeen k s → ShowsServed k e r
shown s e r new k step tied = let is : HasResult s e r new = step-turn s e r new step in turn-shown s e r is.left k is.turn tied

-- along a run
pub run-one-engine : AreWalks → AreOnePath → (setup : Setup) (h : List Entry) (s : State) → IsLawful setup → Run (opening_of setup) h s → HasOneEngine setup h
run-one-engine walks paths setup _ _ lawful Opened = tt
run-one-engine walks paths setup _ _ lawful (Stepped h old e r new run step) =
    let before : IsRunSeen setup h old = run-seen walks paths setup h old lawful run in
    let after : IsRunSeen setup (h ++ record { event = e; reply = r } ∷ []) new = run-seen walks paths setup _ new lawful (Stepped h old e r new run step) in
    let k : Seen = links_in setup h in
    claim-more (seen_after (set_count setup)) (IsEntryRight (set_count setup)) (nothing_seen setup) h e r (run-one-engine walks paths setup h old lawful run) (
      subst (λ (n : ℕ). GoesByIdle n k e r) before.count (walked-idle old e r new k (walks old e r new step) before.tied),
      shown old e r new k step before.tied,
      subst (λ (y : Seen). ServesOne y) (through-more (seen_after (set_count setup)) (nothing_seen setup) h e r)
          (one-served (links_in setup (h ++ record { event = e; reply = r } ∷ [])) new (paths setup _ new lawful (Stepped h old e r new run step)) after.tied),
    )
