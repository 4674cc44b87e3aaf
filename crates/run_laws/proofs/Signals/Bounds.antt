-- What holds of the signals between a subchannel and its unit: those of the program that is offered or connected wait on its path,
-- under its connection, and nothing of it after its Leave.
use Rattle.std.proofs.Common.{◌≡◌, ◌≢◌, ℕ, ◌<◌, ◌≤◌, Bool, Option, None, Some, List, [], ◌∷◌, arith}
use Rattle.std.specs.Prelude.{◌⊎◌}
use Rattle.chan_model.specs.declared.hold_state.HoldPhase.{HoldPhase}
use Rattle.chan_model.specs.declared.hold_state.HoldPhase.TheVariants as hold
use Rattle.chan_model.specs.Signals.{Down, Up}
use Rattle.chan_model.specs.declared.signal.Down.TheVariants as down
use Rattle.chan_model.specs.declared.signal.OnPath.{OnPath}
use Rattle.chan_model.specs.declared.signal.Up.TheVariants as up
use Rattle.wires.specs.Queues.{queue, taken, lost}
use Rattle.subchannel_model.specs.Sending.{carried, with_any_sent}
use Rattle.agreement_laws.specs.PathsSeen.{Connected}
use Rattle.run_laws.proofs.Machine.WaitingSignals.{Each, each-append, each-rest, each-weaker}
use Rattle.run_laws.proofs.Signals.Lists.{After, after-push, after-rest, taken-queues, lost-queues, OnSent, sent-queues}
use Rattle.run_laws.proofs.Signals.Meets.{IsPlainUp, IsPlainDown, ArePlainDown, IsCommandOn, AreCommandsOn, IsDataAnswer, AreDataAnswers, Offers, Refuses, Halts, Resets, Answers, Sends_command, Sends_room, Sends_bytes}
use Rattle.run_laws.proofs.Signals.Ties.{IsAt}

-- a signal that says something of the connection of its program is not above the floor; nor is a Grant
abbrev pub IsUpBelow : ℕ → Up → Type 0
IsUpBelow f (up.Accept t) = t ≤ f
IsUpBelow f (up.Data load t c n s) = t ≤ f
IsUpBelow f (up.End t n status more) = t ≤ f
IsUpBelow f (up.Leave t c) = t ≤ f
IsUpBelow f x = Unit {0}

abbrev pub OnGrant : (ℕ → ℕ → Type 0) → Down → Type 0
OnGrant P (down.Grant u c) = P u c
OnGrant P d = Unit {0}

abbrev pub IsDownBelow : ℕ → Down → Type 0
IsDownBelow f d = OnGrant (λ u c. u ≤ f) d

abbrev pub IsOwnBelow : ℕ → Option Connected → Type 0
IsOwnBelow f None = Unit {0}
IsOwnBelow f (Some k) = k.number ≤ f

-- of another program
abbrev pub IsNot : ℕ → Up → Type 0
IsNot t (up.Accept u) = u ≢ t
IsNot t (up.Data load u c n s) = u ≢ t
IsNot t (up.End u n status more) = u ≢ t
IsNot t (up.Leave u c) = u ≢ t
IsNot t x = Unit {0}

abbrev pub IsLeave : ℕ → Up → Type 0
IsLeave t (up.Leave u c) = u ≡ t
IsLeave t x = ⊥

abbrev pub IsNoLeave : ℕ → Up → Type 0
IsNoLeave t x = IsLeave t x → ⊥

abbrev pub IsGrant : ℕ → Down → Type 0
IsGrant t (down.Grant u c) = u ≡ t
IsGrant t d = ⊥

abbrev pub IsNoGrant : ℕ → Down → Type 0
IsNoGrant t d = IsGrant t d → ⊥

abbrev pub IsGrantAt : ℕ → ℕ → ℕ → ℕ → Down → Type 0
IsGrantAt t q c p d = OnGrant (λ u e. u ≡ t → (p ≡ q) × (e ≡ c)) d

abbrev pub IsOff_for : ℕ → Option Connected → Type 0
IsOff_for t None = Unit {0}
IsOff_for t (Some k) = k.number ≢ t

abbrev pub EachUp : (ℕ → Up → Type 0) → List (List Up) → Type 0
EachUp P ups = (p : ℕ) → Each (P p) (queue ups p)

abbrev pub EachDown : (ℕ → Down → Type 0) → List (List Down) → Type 0
EachDown P downs = (p : ℕ) → Each (P p) (queue downs p)

-- the program t is offered on q, or connected there by the connection c
pub record Tied (t q c : ℕ) (us : List (List Up)) (ds : List (List Down)) (o : Option Connected) : Type 0 where
  pub ups : EachUp (IsAt t q c) us
  pub order : (p : ℕ) → After (IsLeave t) (IsNot t) (queue us p)
  pub downs : EachDown (IsGrantAt t q c) ds
  pub once : (p : ℕ) → After (IsGrant t) (IsNoGrant t) (queue ds p)
  pub grant : EachDown (λ p. IsNoGrant t) ds ⊎ (EachUp (λ p. IsNoLeave t) us × IsOff_for t o)
  pub leave : EachUp (λ p. IsNoLeave t) us ⊎ IsOff_for t o

-- it is away
pub record Parted (t : ℕ) (us : List (List Up)) (ds : List (List Down)) (o : Option Connected) : Type 0 where
  pub ups : EachUp (λ p. IsNot t) us
  pub downs : EachDown (λ p. IsNoGrant t) ds
  pub off : IsOff_for t o

abbrev pub Joint : HoldPhase → List (List Up) → List (List Down) → Option Connected → Type 0
Joint (hold.Offer t q) ups downs o = Tied t q 0 ups downs o
Joint (hold.On t q c) ups downs o = Tied t q c ups downs o
Joint (hold.Away t) ups downs o = Parted t ups downs o
Joint phase ups downs o = Unit {0}

pub record IsBound (phase : HoldPhase) (us : List (List Up)) (ds : List (List Down)) (f : ℕ) (o : Option Connected) : Type 0 where
  pub above : EachUp (λ p. IsUpBelow f) us
  pub below : EachDown (λ p. IsDownBelow f) ds
  pub own : IsOwnBelow f o
  pub joint : Joint phase us ds o

-- what is taken or lost
pub each-taken : {A : Type 0} (P : ℕ → A → Type 0) (queues : List (List A)) (k : ℕ) → ((p : ℕ) → Each (P p) (queue queues p)) → (p : ℕ) → Each (P p) (queue (taken queues k) p)
each-taken P queues k all p = taken-queues (λ q xs. Each (P q) xs) queues k (each-rest (P k) (queue queues k) (all k)) all p

pub after-taken : {A : Type 0} (P Q : A → Type 0) (queues : List (List A)) (k : ℕ) → ((p : ℕ) → After P Q (queue queues p)) → (p : ℕ) → After P Q (queue (taken queues k) p)
after-taken P Q queues k all p = taken-queues (λ q xs. After P Q xs) queues k (after-rest P Q (queue queues k) (all k)) all p

pub each-lost : {A : Type 0} (P : ℕ → A → Type 0) (queues : List (List A)) (k : ℕ) → ((p : ℕ) → Each (P p) (queue queues p)) → (p : ℕ) → Each (P p) (queue (lost queues k) p)
each-lost P queues k all p = lost-queues (λ q xs. Each (P q) xs) queues k tt all p

pub after-lost : {A : Type 0} (P Q : A → Type 0) (queues : List (List A)) (k : ℕ) → ((p : ℕ) → After P Q (queue queues p)) → (p : ℕ) → After P Q (queue (lost queues k) p)
after-lost P Q queues k all p = lost-queues (λ q xs. After P Q xs) queues k tt all p

-- what is sent
pub on-sent : {A : Type 0} (P Q : ℕ → A → Type 0) (one : Option (OnPath A)) → ((p : ℕ) (x : A) → P p x → Q p x) → OnSent P one → OnSent Q one
on-sent P Q None f h = tt
on-sent P Q (Some s) f h = f s.path s.signal h

pub each-sent : {A : Type 0} (P : ℕ → A → Type 0) (queues : List (List A)) (available : List Bool) (one : Option (OnPath A)) → OnSent P one →
    ((p : ℕ) → Each (P p) (queue queues p)) → (p : ℕ) → Each (P p) (queue (with_any_sent queues (carried available one)) p)
each-sent P queues available one h all p =
    sent-queues (λ q xs. Each (P q) xs) queues available one (on-sent P _ one (λ q x k. each-append (P q) (queue queues q) x (all q) k) h) all p

pub after-sent : {A : Type 0} (P Q : A → Type 0) (queues : List (List A)) (available : List Bool) (one : Option (OnPath A)) → OnSent (λ p x. Each (λ y. P y → Q x) (queue queues p)) one →
    ((p : ℕ) → After P Q (queue queues p)) → (p : ℕ) → After P Q (queue (with_any_sent queues (carried available one)) p)
after-sent P Q queues available one h all p =
    sent-queues (λ q xs. After P Q xs) queues available one (on-sent (λ q x. Each (λ y. P y → Q x) (queue queues q)) _ one (λ q x k. after-push P Q (queue queues q) x (all q) k) h) all p

-- the same of each, whatever was before
pub each-to : {A : Type 0} (P : A → Type 0) (C : Type 0) (xs : List A) → C → Each (λ y. P y → C) xs
each-to P C [] c = tt
each-to P C (x ∷ xs) c = ((λ p. c), each-to P C xs c)

pub each-none : {A : Type 0} (P : A → Type 0) (C : Type 0) (xs : List A) → Each (λ y. P y → ⊥) xs → Each (λ y. P y → C) xs
each-none P C xs none = each-weaker (λ y. P y → ⊥) (λ y. P y → C) xs (λ y n p. absurd (n p)) none

-- signals that are no Leave and no Grant
pub plain-not : (t : ℕ) (x : Up) → IsPlainUp x → IsNot t x
plain-not t (up.Accept u) a = absurd a
plain-not t (up.Busy u) a = tt
plain-not t (up.Leave u c) a = absurd a
plain-not t (up.Back u c) a = tt
plain-not t (up.Data load u c n s) a = absurd a
plain-not t (up.End u n status more) a = absurd a
plain-not t (up.Released u) a = tt
plain-not t (up.Cleared r) a = tt
plain-not t (up.Notice b) a = tt
plain-not t (up.Attn b status) a = tt

pub not-at : (t q c p : ℕ) (x : Up) → IsNot t x → IsAt t q c p x
not-at t q c p (up.Accept u) n = λ e. absurd (n e)
not-at t q c p (up.Busy u) n = tt
not-at t q c p (up.Leave u d) n = λ e. absurd (n e)
not-at t q c p (up.Back u d) n = tt
not-at t q c p (up.Data load u d m s) n = λ e. absurd (n e)
not-at t q c p (up.End u m status more) n = λ e. absurd (n e)
not-at t q c p (up.Released u) n = tt
not-at t q c p (up.Cleared r) n = tt
not-at t q c p (up.Notice b) n = tt
not-at t q c p (up.Attn b status) n = tt

pub not-leave : (t : ℕ) (x : Up) → IsNot t x → IsNoLeave t x
not-leave t (up.Accept u) n l = l
not-leave t (up.Busy u) n l = l
not-leave t (up.Leave u d) n l = n l
not-leave t (up.Back u d) n l = l
not-leave t (up.Data load u d m s) n l = l
not-leave t (up.End u m status more) n l = l
not-leave t (up.Released u) n l = l
not-leave t (up.Cleared r) n l = l
not-leave t (up.Notice b) n l = l
not-leave t (up.Attn b status) n l = l

-- one of its own path is elsewhere of another program
pub at-not : (t q c p : ℕ) (x : Up) → p ≢ q → IsAt t q c p x → IsNot t x
at-not t q c p (up.Accept u) n a = λ e. n (a e)
at-not t q c p (up.Busy u) n a = tt
at-not t q c p (up.Leave u d) n a = λ e. n (a e).0
at-not t q c p (up.Back u d) n a = tt
at-not t q c p (up.Data load u d m s) n a = λ e. n (a e).0
at-not t q c p (up.End u m status more) n a = λ e. n (a e)
at-not t q c p (up.Released u) n a = tt
at-not t q c p (up.Cleared r) n a = tt
at-not t q c p (up.Notice b) n a = tt
at-not t q c p (up.Attn b status) n a = tt

-- what is said of a Grant alone
on-grant : (P Q : ℕ → ℕ → Type 0) → ((u c : ℕ) → P u c → Q u c) → (d : Down) → OnGrant P d → OnGrant Q d
on-grant P Q f (down.Select u) g = tt
on-grant P Q f (down.Command u m code room) g = tt
on-grant P Q f (down.Grant u c) g = f u c g
on-grant P Q f (down.Refuse u c) g = tt
on-grant P Q f (down.Took u m s room) g = tt
on-grant P Q f (down.Give bytes u c m s) g = tt
on-grant P Q f (down.Halt u) g = tt
on-grant P Q f (down.Release u) g = tt
on-grant P Q f (down.Reset r b) g = tt
on-grant P Q f (down.Got b) g = tt

no-grant-by : (t : ℕ) (P : ℕ → ℕ → Type 0) → ((u c : ℕ) → P u c → u ≢ t) → (d : Down) → OnGrant P d → IsNoGrant t d
no-grant-by t P f (down.Select u) a g = g
no-grant-by t P f (down.Command u m code room) a g = g
no-grant-by t P f (down.Grant u c) a g = f u c a g
no-grant-by t P f (down.Refuse u c) a g = g
no-grant-by t P f (down.Took u m s room) a g = g
no-grant-by t P f (down.Give bytes u c m s) a g = g
no-grant-by t P f (down.Halt u) a g = g
no-grant-by t P f (down.Release u) a g = g
no-grant-by t P f (down.Reset r b) a g = g
no-grant-by t P f (down.Got b) a g = g

pub at-no-grant : (t q c p : ℕ) (d : Down) → p ≢ q → IsGrantAt t q c p d → IsNoGrant t d
at-no-grant t q c p d n a = no-grant-by t (λ u e. u ≡ t → (p ≡ q) × (e ≡ c)) (λ u e k same. n (k same).0) d a

-- above the floor
pub below-not : (t f : ℕ) (x : Up) → f < t → IsUpBelow f x → IsNot t x
below-not t f (up.Accept u) l b = λ e. absurd (omega (arith, l, b, e))
below-not t f (up.Busy u) l b = tt
below-not t f (up.Leave u d) l b = λ e. absurd (omega (arith, l, b, e))
below-not t f (up.Back u d) l b = tt
below-not t f (up.Data load u d m s) l b = λ e. absurd (omega (arith, l, b, e))
below-not t f (up.End u m status more) l b = λ e. absurd (omega (arith, l, b, e))
below-not t f (up.Released u) l b = tt
below-not t f (up.Cleared r) l b = tt
below-not t f (up.Notice c) l b = tt
below-not t f (up.Attn c status) l b = tt

pub below-no-grant : (t f : ℕ) (d : Down) → f < t → IsDownBelow f d → IsNoGrant t d
below-no-grant t f d l b = no-grant-by t (λ u c. u ≤ f) (λ u c k same. absurd (omega (arith, l, k, same))) d b

pub up-below : (f g : ℕ) (x : Up) → f ≤ g → IsUpBelow f x → IsUpBelow g x
up-below f g (up.Accept u) l b = omega (arith, l, b)
up-below f g (up.Busy u) l b = tt
up-below f g (up.Leave u d) l b = omega (arith, l, b)
up-below f g (up.Back u d) l b = tt
up-below f g (up.Data load u d m s) l b = omega (arith, l, b)
up-below f g (up.End u m status more) l b = omega (arith, l, b)
up-below f g (up.Released u) l b = tt
up-below f g (up.Cleared r) l b = tt
up-below f g (up.Notice c) l b = tt
up-below f g (up.Attn c status) l b = tt

pub down-below : (f g : ℕ) (d : Down) → f ≤ g → IsDownBelow f d → IsDownBelow g d
down-below f g d l b = on-grant (λ u c. u ≤ f) (λ u c. u ≤ g) (λ u c k. omega (arith, l, k)) d b

pub plain-below : (f : ℕ) (x : Up) → IsPlainUp x → IsUpBelow f x
plain-below f (up.Accept u) a = absurd a
plain-below f (up.Busy u) a = tt
plain-below f (up.Leave u c) a = absurd a
plain-below f (up.Back u c) a = tt
plain-below f (up.Data load u c n s) a = absurd a
plain-below f (up.End u n status more) a = absurd a
plain-below f (up.Released u) a = tt
plain-below f (up.Cleared r) a = tt
plain-below f (up.Notice b) a = tt
plain-below f (up.Attn b status) a = tt

-- signals to the unit other than a Grant
abbrev pub IsOtherDown : Down → Type 0
IsOtherDown d = OnGrant (λ u c. ⊥) d

pub other-no-grant : (t : ℕ) (d : Down) → IsOtherDown d → IsNoGrant t d
other-no-grant t d a = no-grant-by t (λ u c. ⊥) (λ u c k. absurd k) d a

pub no-grant-at : (t q c p : ℕ) (d : Down) → IsNoGrant t d → IsGrantAt t q c p d
no-grant-at t q c p (down.Select u) n = tt
no-grant-at t q c p (down.Command u m code room) n = tt
no-grant-at t q c p (down.Grant u d) n = λ e. absurd (n e)
no-grant-at t q c p (down.Refuse u d) n = tt
no-grant-at t q c p (down.Took u m s room) n = tt
no-grant-at t q c p (down.Give bytes u d m s) n = tt
no-grant-at t q c p (down.Halt u) n = tt
no-grant-at t q c p (down.Release u) n = tt
no-grant-at t q c p (down.Reset r b) n = tt
no-grant-at t q c p (down.Got b) n = tt

pub other-below : (f : ℕ) (d : Down) → IsOtherDown d → IsDownBelow f d
other-below f d a = on-grant (λ u c. ⊥) (λ u c. u ≤ f) (λ u c k. absurd k) d a

abbrev pub AreOtherDowns : Option (OnPath Down) → Type 0
AreOtherDowns one = OnSent (λ p. IsOtherDown) one

plain-other : (d : Down) → IsPlainDown d → IsOtherDown d
plain-other _ (Offers u) = tt
plain-other _ (Refuses u d) = tt
plain-other _ (Halts u) = tt
plain-other _ (Resets r b) = tt
plain-other _ (Answers b) = tt

pub plain-others : (one : Option (OnPath Down)) → ArePlainDown one → AreOtherDowns one
plain-others None a = tt
plain-others (Some s) a = plain-other s.signal a

command-other : (t p q : ℕ) (d : Down) → IsCommandOn t p q d → IsOtherDown d
command-other t p q _ (Sends_command u m code room number path) = tt

pub commands-other : (t p : ℕ) (one : Option (OnPath Down)) → AreCommandsOn t p one → AreOtherDowns one
commands-other t p None a = tt
commands-other t p (Some s) a = command-other t p s.path s.signal a

data-other : (t p c q : ℕ) (d : Down) → IsDataAnswer t p c q d → IsOtherDown d
data-other t p c q _ (Sends_room u m s room number path) = tt
data-other t p c q _ (Sends_bytes bytes u d m s number path connection) = tt

pub data-others : (t p c : ℕ) (one : Option (OnPath Down)) → AreDataAnswers t p c one → AreOtherDowns one
data-others t p c None a = tt
data-others t p c (Some s) a = data-other t p c s.path s.signal a
