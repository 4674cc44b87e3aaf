-- What is seen of a subchannel's program is where its hold has it: of the signals that the hold takes by its table.
use Rattle.std.proofs.Common.{◌≡◌, refl, sym, ◌∙◌, ap, ℕ, ◌<◌, ◌≤◌, ◌==◌, ◌&&◌, nat_lt, Bool, true, false, Option, None, Some, inl, inr, arith}
use Rattle.std.specs.Prelude.{◌⊎◌, if◌then◌else◌}
use Rattle.std.proofs.lemmas.Bool.{eqb-true, and_parts, ltb-true}
use Rattle.scsw_irb.specs.declared.status.DeviceStatus.{DeviceStatus}
use Rattle.chan_events.specs.declared.reply.Reply.TheVariants as reply
use Rattle.chan_model.specs.declared.hold_state.HoldPhase.{HoldPhase}
use Rattle.chan_model.specs.declared.hold_state.HoldPhase.TheVariants as hold
use Rattle.chan_model.specs.declared.hold_state.HoldState.{HoldState}
use Rattle.chan_model.specs.Signals.{Down, Up}
use Rattle.chan_model.specs.declared.signal.Down.TheVariants as down
use Rattle.chan_model.specs.declared.signal.OnPath.{OnPath}
use Rattle.chan_model.specs.declared.signal.Up.TheVariants as up
use Rattle.chan_model.specs.HoldTable.{HoldStep, found_busy, left, refusing, granting, asked_back, released, reset_cleared, attended, hold_after, outcome_of}
use Rattle.run_laws.specs.Links.{Link, Nowhere, Offered, Connected, Apart, Leaving, Resetting, Reset_sent, SubSeen, sub_met, is_offered, is_leaving, is_reset_sent, is_held_for, is_connected_by, program_of, mover_of, IsSilent, IsTaken}

-- where a hold has the program
abbrev pub reset_link : ℕ → Option ℕ → Link
reset_link r None = Resetting
reset_link r (Some path) = Reset_sent r path

abbrev pub link_at : HoldPhase → Option ℕ → Link
link_at hold.Free sent = Nowhere
link_at (hold.Offer t path) sent = Offered t path
link_at (hold.On t path c) sent = Connected t path c
link_at (hold.Away t) sent = Apart t
link_at (hold.Letting t path) sent = Leaving t path
link_at (hold.Reset r) sent = reset_link r sent

-- a reset is due that no reply told
pub record IsDoubtful (k : SubSeen) (phase : HoldPhase) (sent : Option ℕ) : Type 0 where
  pub doubt : k.doubt ≡ true
  pub number : ℕ
  pub apart : k.link ≡ Apart number
  pub reset : ℕ
  pub is_reset : phase ≡ hold.Reset reset
  pub unsent : sent ≡ None

abbrev pub Stands : SubSeen → HoldPhase → Option ℕ → Type 0
Stands k phase sent = (k.link ≡ link_at phase sent) ⊎ IsDoubtful k phase sent

-- a Reset that was not sent has a number above all that were seen
abbrev pub IsDue : ℕ → ℕ → HoldPhase → Option ℕ → Type 0
IsDue seen n (hold.Reset r) None = (seen < r) × (r ≤ n)
IsDue seen n (hold.Reset r) (Some path) = Unit {0}
IsDue seen n other sent = Unit {0}

-- in single-path mode a program is connected by the path of its Accept
abbrev pub IsByFirst : HoldPhase → Bool → Option ℕ → Type 0
IsByFirst (hold.On t path c) single first = single ≡ true → first ≡ Some path
IsByFirst phase single first = Unit {0}

pub record IsHeldAs (k : SubSeen) (h : HoldState) (n : ℕ) : Type 0 where
  pub stands : Stands k h.phase h.reset_path
  pub asked : k.asked ≡ h.seen
  pub first : k.first ≡ h.first_path
  pub known_restarts : k.restarts ≡ h.known_restarts
  pub drawn : k.drawn ≤ n
  pub due : IsDue k.drawn n h.phase h.reset_path
  pub single : IsByFirst h.phase h.single_path h.first_path

abbrev pub phased : HoldState → HoldPhase → HoldState
phased h phase = record h { phase = phase }

-- the numbers that are waited for, by the phase
abbrev pub is_offer_of : HoldPhase → ℕ → Bool
is_offer_of (hold.Offer u path) t = t == u
is_offer_of phase t = false

abbrev pub is_letting_of : HoldPhase → ℕ → Bool
is_letting_of (hold.Letting u path) t = t == u
is_letting_of phase t = false

pub same-offered : (k : SubSeen) (phase : HoldPhase) (sent : Option ℕ) (t : ℕ) → Stands k phase sent → is_offered k.link t ≡ is_offer_of phase t
same-offered k phase sent t (inl e) = ap (λ (l : Link). is_offered l t) e ∙ by phase sent
  where
    by : (phase : HoldPhase) (sent : Option ℕ) → is_offered (link_at phase sent) t ≡ is_offer_of phase t
    by (hold.Reset r) None = refl
    by (hold.Reset r) (Some path) = refl
    by other sent = refl
same-offered k phase sent t (inr d) = ap (λ (l : Link). is_offered l t) d.apart ∙ sym (ap (λ (y : HoldPhase). is_offer_of y t) d.is_reset)

same-leaving : (k : SubSeen) (phase : HoldPhase) (sent : Option ℕ) (t : ℕ) → Stands k phase sent → is_leaving k.link t ≡ is_letting_of phase t
same-leaving k phase sent t (inl e) = ap (λ (l : Link). is_leaving l t) e ∙ by phase sent
  where
    by : (phase : HoldPhase) (sent : Option ℕ) → is_leaving (link_at phase sent) t ≡ is_letting_of phase t
    by (hold.Reset r) None = refl
    by (hold.Reset r) (Some path) = refl
    by other sent = refl
same-leaving k phase sent t (inr d) = ap (λ (l : Link). is_leaving l t) d.apart ∙ sym (ap (λ (y : HoldPhase). is_letting_of y t) d.is_reset)

-- the link, where the phase is one under which no reset is due unseen
pub certain : (k : SubSeen) (phase : HoldPhase) (sent : Option ℕ) → ((r : ℕ) → phase ≡ hold.Reset r → ⊥) → Stands k phase sent → k.link ≡ link_at phase sent
certain k phase sent n (inl e) = e
certain k phase sent n (inr d) = absurd (n d.reset d.is_reset)

-- a signal that came by a path: taken where it may be, answered rightly, and what is seen after it is where the hold has the program then
abbrev pub IsSentAs : SubSeen → ℕ → Up → ℕ → Down → Type 0
IsSentAs k path signal q (down.Grant t c) = (signal ≡ up.Back t c) × (k.link ≡ Apart t) × (k.asked < c) × (q ≡ path)
IsSentAs k path signal q (down.Refuse t c) = (signal ≡ up.Back t c) × (q ≡ path)
IsSentAs k path signal q (down.Command t n code room) = program_of signal ≡ Some t
IsSentAs k path signal q (down.Release t) = program_of signal ≡ Some t
IsSentAs k path signal q (down.Took t n s room) = mover_of signal ≡ Some t
IsSentAs k path signal q (down.Give bytes t c n s) = mover_of signal ≡ Some t
IsSentAs k path signal q (down.Got a) = (status : DeviceStatus) × (signal ≡ up.Attn a status)
IsSentAs k path signal q sent = ⊥

abbrev pub AreSentAs : SubSeen → ℕ → Up → Bool → Option (OnPath Down) → Type 0
AreSentAs k path signal taken None = IsSilent taken signal
AreSentAs k path signal taken (Some sent) = IsSentAs k path signal sent.path sent.signal

pub record Turned (path : ℕ) (x : Up) (k : SubSeen) (took : Bool) (answer : Option (OnPath Down)) (next : HoldState) (n : ℕ) : Type 0 where
  pub taken : IsTaken k path x took
  pub sent : AreSentAs k path x took answer
  pub after : IsHeldAs (sub_met (reply.Up x took answer) k) next n

abbrev pub TurnedBy : ℕ → Up → SubSeen → HoldState → ℕ → Option HoldStep → Type 0
TurnedBy path x k h n step = Turned path x k (outcome_of step).taken (outcome_of step).sent (hold_after h step) n

pub ignored : (p : ℕ) (x : Up) (k : SubSeen) (h : HoldState) (n : ℕ) → IsTaken k p x false → IsHeldAs k h n → Turned p x k false None h n
ignored p x k h n taken tie = record { taken = taken; sent = tt; after = tie }

if-turned : (p : ℕ) (x : Up) (k : SubSeen) (h : HoldState) (n : ℕ) (b : Bool) (y : HoldStep) → (b ≡ true → TurnedBy p x k h n (Some y)) → (b ≡ false → IsTaken k p x false) → IsHeldAs k h n →
    TurnedBy p x k h n (if b then Some y else None)
if-turned p x k h n true y e f tie = e refl
if-turned p x k h n false y e f tie = ignored p x k h n (f refl) tie

-- with another phase, under which no reset is due
freed : (p : ℕ) (x : Up) (k : SubSeen) (h : HoldState) (n : ℕ) (link : Link) (phase : HoldPhase) → IsHeldAs k h n → link ≡ link_at phase h.reset_path → IsDue k.drawn n phase h.reset_path →
    IsByFirst phase h.single_path h.first_path → IsHeldAs (record k { link = link; doubt = false }) (phased h phase) n
freed p x k h n link phase tie e due single = record {
  stands = inl e;
  asked = tie.asked;
  first = tie.first;
  known_restarts = tie.known_restarts;
  drawn = tie.drawn;
  due = due;
  single = single;
}

-- Busy
not-offered : (k : SubSeen) (h : HoldState) (n u : ℕ) (phase : HoldPhase) → is_offer_of phase u ≡ false → IsHeldAs k (phased h phase) n → false ≡ is_offered k.link u
not-offered k h n u phase e tie = sym (same-offered k phase h.reset_path u tie.stands ∙ e)

pub busy-turned : (p : ℕ) (k : SubSeen) (h : HoldState) (n : ℕ) (phase : HoldPhase) (u : ℕ) → IsHeldAs k (phased h phase) n →
    TurnedBy p (up.Busy u) k (phased h phase) n (found_busy (phased h phase) phase u)
busy-turned p k h n (hold.Offer t q) u tie =
    if-turned p (up.Busy u) k (phased h (hold.Offer t q)) n (u == t) _
    (λ e. record {
      taken = sym (same-offered k (hold.Offer t q) h.reset_path u tie.stands ∙ e);
      sent = tt;
      after = freed p (up.Busy u) k (phased h (hold.Offer t q)) n Nowhere hold.Free tie refl tt tt;
    })
    (λ e. not-offered k h n u (hold.Offer t q) e tie) tie
busy-turned p k h n other u tie = ignored p (up.Busy u) k _ n (not-offered k h n u other refl tie) tie

-- Leave
abbrev is_on_by : HoldPhase → ℕ → ℕ → Bool
is_on_by (hold.On u path d) t c = (t == u) && (c == d)
is_on_by phase t c = false

same-connected : (k : SubSeen) (phase : HoldPhase) (sent : Option ℕ) (t c : ℕ) → Stands k phase sent → is_connected_by k.link t c ≡ is_on_by phase t c
same-connected k phase sent t c (inl e) = ap (λ (l : Link). is_connected_by l t c) e ∙ by phase sent
  where
    by : (phase : HoldPhase) (sent : Option ℕ) → is_connected_by (link_at phase sent) t c ≡ is_on_by phase t c
    by (hold.Reset r) None = refl
    by (hold.Reset r) (Some path) = refl
    by other sent = refl
same-connected k phase sent t c (inr d) = ap (λ (l : Link). is_connected_by l t c) d.apart ∙ sym (ap (λ (y : HoldPhase). is_on_by y t c) d.is_reset)

not-left : (p : ℕ) (k : SubSeen) (h : HoldState) (n : ℕ) (phase : HoldPhase) (u d : ℕ) → is_on_by phase u d ≡ false → IsHeldAs k (phased h phase) n →
    Turned p (up.Leave u d) k false None (phased h phase) n
not-left p k h n phase u d e tie = ignored p (up.Leave u d) k _ n (sym (same-connected k phase h.reset_path u d tie.stands ∙ e)) tie

pub left-turned : (p : ℕ) (k : SubSeen) (h : HoldState) (n : ℕ) (phase : HoldPhase) (u d : ℕ) → IsHeldAs k (phased h phase) n →
    TurnedBy p (up.Leave u d) k (phased h phase) n (left (phased h phase) phase u d)
left-turned p k h n (hold.On t q c) u d tie =
    if-turned p (up.Leave u d) k (phased h (hold.On t q c)) n ((u == t) && (d == c)) _
    (λ e. record {
      taken = sym (same-connected k (hold.On t q c) h.reset_path u d tie.stands ∙ e);
      sent = tt;
      after = freed p (up.Leave u d) k (phased h (hold.On t q c)) n (Apart u) (hold.Away t) tie (ap (λ (m : ℕ). Apart m) (eqb-true u t (and_parts (u == t) (d == c) e).0)) tt tt;
    })
    (λ e. sym (same-connected k (hold.On t q c) h.reset_path u d tie.stands ∙ e)) tie
left-turned p k h n other u d tie = not-left p k h n other u d refl tie

-- Released
not-leaving : (k : SubSeen) (h : HoldState) (n u : ℕ) (phase : HoldPhase) → is_letting_of phase u ≡ false → IsHeldAs k (phased h phase) n → false ≡ is_leaving k.link u
not-leaving k h n u phase e tie = sym (same-leaving k phase h.reset_path u tie.stands ∙ e)

pub released-turned : (p : ℕ) (k : SubSeen) (h : HoldState) (n : ℕ) (phase : HoldPhase) (u : ℕ) → IsHeldAs k (phased h phase) n →
    TurnedBy p (up.Released u) k (phased h phase) n (released (phased h phase) phase u)
released-turned p k h n (hold.Letting t q) u tie =
    if-turned p (up.Released u) k (phased h (hold.Letting t q)) n (u == t) _
    (λ e. record {
      taken = sym (same-leaving k (hold.Letting t q) h.reset_path u tie.stands ∙ e);
      sent = tt;
      after = freed p (up.Released u) k (phased h (hold.Letting t q)) n Nowhere hold.Free tie refl tt tt;
    })
    (λ e. not-leaving k h n u (hold.Letting t q) e tie) tie
released-turned p k h n other u tie = ignored p (up.Released u) k _ n (not-leaving k h n u other refl tie) tie

-- Cleared, which is of a Reset that was sent
not-sent-link : (k : SubSeen) (phase : HoldPhase) (sent : Option ℕ) (u : ℕ) → ((r : ℕ) → phase ≡ hold.Reset r → ⊥) → Stands k phase sent → false ≡ is_reset_sent k.link u
not-sent-link k phase sent u n s = sym (ap (λ (l : Link). is_reset_sent l u) (certain k phase sent n s) ∙ by phase n)
  where
    by : (phase : HoldPhase) → ((r : ℕ) → phase ≡ hold.Reset r → ⊥) → is_reset_sent (link_at phase sent) u ≡ false
    by (hold.Reset r) m = absurd (m r refl)
    by other m = refl

unsent-link : (k : SubSeen) (r u : ℕ) → Stands k (hold.Reset r) None → false ≡ is_reset_sent k.link u
unsent-link k r u (inl e) = sym (ap (λ (l : Link). is_reset_sent l u) e)
unsent-link k r u (inr d) = sym (ap (λ (l : Link). is_reset_sent l u) d.apart)

sent-link : (k : SubSeen) (r u path : ℕ) → Stands k (hold.Reset r) (Some path) → is_reset_sent k.link u ≡ (u == r)
sent-link k r u path (inl e) = ap (λ (l : Link). is_reset_sent l u) e
sent-link k r u path (inr d) = absurd (cc d.unsent)

abbrev with_sent : HoldState → ℕ → Option ℕ → HoldState
with_sent h r sent = record h { phase = hold.Reset r; reset_path = sent }

reset-turned : (p : ℕ) (k : SubSeen) (h : HoldState) (n r u : ℕ) (sent : Option ℕ) → u ≤ k.drawn → IsHeldAs k (with_sent h r sent) n →
    TurnedBy p (up.Cleared u) k (with_sent h r sent) n (reset_cleared (with_sent h r sent) (hold.Reset r) u)
reset-turned p k h n r u None below tie =
    if-turned p (up.Cleared u) k (with_sent h r None) n (u == r) _
    (λ e. let same : u ≡ r = eqb-true u r e in let above : k.drawn < r = tie.due.0 in absurd (omega (arith, same, above, below)))
    (λ e. unsent-link k r u tie.stands) tie
reset-turned p k h n r u (Some path) below tie =
    if-turned p (up.Cleared u) k (with_sent h r (Some path)) n (u == r) _
    (λ e. record {
      taken = sym (sent-link k r u path tie.stands ∙ e);
      sent = tt;
      after = record { stands = inl refl; asked = tie.asked; first = tie.first; known_restarts = tie.known_restarts; drawn = tie.drawn; due = tt; single = tt };
    })
    (λ e. sym (sent-link k r u path tie.stands ∙ e)) tie

pub cleared-turned : (p : ℕ) (k : SubSeen) (h : HoldState) (n : ℕ) (phase : HoldPhase) (u : ℕ) → u ≤ k.drawn → IsHeldAs k (phased h phase) n →
    TurnedBy p (up.Cleared u) k (phased h phase) n (reset_cleared (phased h phase) phase u)
cleared-turned p k h n (hold.Reset r) u below tie = reset-turned p k h n r u h.reset_path below tie
cleared-turned p k h n other u below tie = ignored p (up.Cleared u) k _ n (not-sent-link k other h.reset_path u (λ r e. absurd (cc e)) tie.stands) tie

-- Back
abbrev is_held_of : HoldPhase → ℕ → Bool
is_held_of (hold.On u path c) t = t == u
is_held_of (hold.Away u) t = t == u
is_held_of phase t = false

same-held : (phase : HoldPhase) (sent : Option ℕ) (t : ℕ) → is_held_for (link_at phase sent) t ≡ is_held_of phase t
same-held (hold.Reset r) None t = refl
same-held (hold.Reset r) (Some path) t = refl
same-held other sent t = refl

back-taken : (k : SubSeen) (p : ℕ) (phase : HoldPhase) (sent : Option ℕ) (seen t c : ℕ) (taken : Bool) → Stands k phase sent → k.asked ≡ seen → taken ≡ (is_held_of phase t && nat_lt seen c) →
    IsTaken k p (up.Back t c) taken
back-taken k p phase sent seen t c taken (inl e) asked f =
    inl (f ∙ ap (λ (b : Bool). b && nat_lt seen c) (sym (ap (λ (l : Link). is_held_for l t) e ∙ same-held phase sent t)) ∙ ap (λ (m : ℕ). is_held_for k.link t && nat_lt m c) (sym asked))
back-taken k p phase sent seen t c taken (inr d) asked f = inr (d.doubt, f ∙ ap (λ (y : HoldPhase). is_held_of y t && nat_lt seen c) d.is_reset)

no-back : (p : ℕ) (k : SubSeen) (h : HoldState) (n : ℕ) (phase : HoldPhase) (u c : ℕ) → is_held_of phase u ≡ false → IsHeldAs k (phased h phase) n →
    Turned p (up.Back u c) k false None (phased h phase) n
no-back p k h n phase u c e tie =
    ignored p (up.Back u c) k _ n (back-taken k p phase h.reset_path h.seen u c false tie.stands tie.asked (sym (ap (λ (b : Bool). b && nat_lt h.seen c) e))) tie

above-asked : (k : SubSeen) (seen c : ℕ) → k.asked ≡ seen → nat_lt seen c ≡ true → k.asked < c
above-asked k seen c e f = let l : seen < c = ltb-true seen c f in omega (arith, e, l)

back-away : (p : ℕ) (k : SubSeen) (h : HoldState) (n t u c : ℕ) (may : Bool) → (may ≡ true → h.single_path ≡ true → h.first_path ≡ Some p) → ((u == t) && nat_lt h.seen c) ≡ true →
    IsHeldAs k (phased h (hold.Away t)) n →
    TurnedBy p (up.Back u c) k (phased h (hold.Away t)) n (if may then Some (granting (phased h (hold.Away t)) p t c) else Some (refusing (phased h (hold.Away t)) p t c))
back-away p k h n t u c true single e tie =
    let both = and_parts (u == t) (nat_lt h.seen c) e in
    let same : u ≡ t = eqb-true u t both.0 in
    record {
      taken = back-taken k p (hold.Away t) h.reset_path h.seen u c true tie.stands tie.asked (sym e);
      sent = (ap (λ (m : ℕ). up.Back m c) same, certain k (hold.Away t) h.reset_path (λ r f. absurd (cc f)) tie.stands, above-asked k h.seen c tie.asked both.1, refl);
      after = record { stands = inl refl; asked = refl; first = tie.first; known_restarts = tie.known_restarts; drawn = tie.drawn; due = tt; single = single refl };
    }
back-away p k h n t u c false single e tie =
    let both = and_parts (u == t) (nat_lt h.seen c) e in
    let same : u ≡ t = eqb-true u t both.0 in
    record {
      taken = back-taken k p (hold.Away t) h.reset_path h.seen u c true tie.stands tie.asked (sym e);
      sent = (ap (λ (m : ℕ). up.Back m c) same, refl);
      after = record {
        stands = inl (certain k (hold.Away t) h.reset_path (λ r f. absurd (cc f)) tie.stands);
        asked = refl;
        first = tie.first;
        known_restarts = tie.known_restarts;
        drawn = tie.drawn;
        due = tt;
        single = tt;
      };
    }

away-turned : (p : ℕ) (k : SubSeen) (h : HoldState) (n t u c : ℕ) (may b : Bool) → ((u == t) && nat_lt h.seen c) ≡ b → (may ≡ true → h.single_path ≡ true → h.first_path ≡ Some p) →
    IsHeldAs k (phased h (hold.Away t)) n →
    TurnedBy p (up.Back u c) k (phased h (hold.Away t)) n
    (if b then (if may then Some (granting (phased h (hold.Away t)) p t c) else Some (refusing (phased h (hold.Away t)) p t c)) else None)
away-turned p k h n t u c may true e single tie = back-away p k h n t u c may single e tie
away-turned p k h n t u c may false e single tie = ignored p (up.Back u c) k _ n (back-taken k p (hold.Away t) h.reset_path h.seen u c false tie.stands tie.asked (sym e)) tie

pub back-turned : (p : ℕ) (k : SubSeen) (h : HoldState) (n : ℕ) (phase : HoldPhase) (u c : ℕ) (may : Bool) → (may ≡ true → h.single_path ≡ true → h.first_path ≡ Some p) →
    IsHeldAs k (phased h phase) n → TurnedBy p (up.Back u c) k (phased h phase) n (asked_back (phased h phase) phase p u c may)
back-turned p k h n (hold.On t q d) u c may single tie =
    if-turned p (up.Back u c) k (phased h (hold.On t q d)) n ((u == t) && nat_lt h.seen c) _
    (λ e. record {
      taken = back-taken k p (hold.On t q d) h.reset_path h.seen u c true tie.stands tie.asked (sym e);
      sent = (ap (λ (m : ℕ). up.Back m c) (eqb-true u t (and_parts (u == t) (nat_lt h.seen c) e).0), refl);
      after = record {
        stands = inl (certain k (hold.On t q d) h.reset_path (λ r f. absurd (cc f)) tie.stands);
        asked = refl;
        first = tie.first;
        known_restarts = tie.known_restarts;
        drawn = tie.drawn;
        due = tt;
        single = tie.single;
      };
    })
    (λ e. back-taken k p (hold.On t q d) h.reset_path h.seen u c false tie.stands tie.asked (sym e)) tie
back-turned p k h n (hold.Away t) u c may single tie = away-turned p k h n t u c may ((u == t) && nat_lt h.seen c) refl single tie
back-turned p k h n other u c may single tie = no-back p k h n other u c refl tie

-- Attn
pub attended-turned : (p : ℕ) (k : SubSeen) (h : HoldState) (n : ℕ) (phase : HoldPhase) (a : ℕ) (status : DeviceStatus) (may : Bool) → IsHeldAs k (phased h phase) n →
    TurnedBy p (up.Attn a status) k (phased h phase) n (attended (phased h phase) phase p a may)
attended-turned p k h n hold.Free a status true tie = record {
  taken = λ x. certain k hold.Free h.reset_path (λ r e. absurd (cc e)) tie.stands;
  sent = (status, refl);
  after = freed p (up.Attn a status) k (phased h hold.Free) n k.link hold.Free tie (certain k hold.Free h.reset_path (λ r e. absurd (cc e)) tie.stands) tt tt;
}
attended-turned p k h n hold.Free a status false tie = ignored p (up.Attn a status) k _ n (λ e. absurd (cc e)) tie
attended-turned p k h n other a status may tie = ignored p (up.Attn a status) k _ n (λ e. absurd (cc e)) tie
