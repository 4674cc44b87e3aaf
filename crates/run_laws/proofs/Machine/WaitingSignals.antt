-- What holds of each signal that waits on the wires of a subchannel, as signals are sent, taken and lost.
use Rattle.std.proofs.Common.{◌≡◌, refl, subst, ℕ, zero, suc, Bool, true, false, Option, None, Some, List, [], ◌∷◌, ◌++◌, drop, replicate, slice_get, slice_set}
use Rattle.chan_model.specs.PathSets.{is_member}
use Rattle.chan_model.specs.declared.signal.OnPath.{OnPath}
use Rattle.wires.specs.Queues.{queue, taken, lost}
use Rattle.subchannel_model.specs.Sending.{carried, with_any_sent, carried_where}

abbrev pub Each : {A : Type 0} → (A → Type 0) → List A → Type 0
Each P [] = Unit {0}
Each P (x ∷ xs) = P x × Each P xs

pub each-append : {A : Type 0} (P : A → Type 0) (xs : List A) (x : A) → Each P xs → P x → Each P (xs ++ x ∷ [])
each-append P [] x all one = (one, tt)
each-append P (y ∷ ys) x all one = (all.0, each-append P ys x all.1 one)

pub each-rest : {A : Type 0} (P : A → Type 0) (xs : List A) → Each P xs → Each P (drop 1 xs)
each-rest P [] all = tt
each-rest P (x ∷ xs) all = all.1

pub each-front : {A : Type 0} (P : A → Type 0) (xs : List A) (x : A) → Each P xs → slice_get xs 0 ≡ Some x → P x
each-front P [] x all e = absurd (cc e)
each-front {A} P (y ∷ ys) x all e = let same : y ≡ x = cc e in subst (λ (z : A). P z) same all.0

pub each-weaker : {A : Type 0} (P Q : A → Type 0) (xs : List A) → ((x : A) → P x → Q x) → Each P xs → Each Q xs
each-weaker P Q [] f all = tt
each-weaker P Q (x ∷ xs) f all = (f x all.0, each-weaker P Q xs f all.1)

-- of each signal on each path
abbrev pub EachSignal : {A : Type 0} → (ℕ → A → Type 0) → List (List A) → Type 0
EachSignal P queues = (q : ℕ) → Each (P q) (queue queues q)

pub signals-weaker : {A : Type 0} (P Q : ℕ → A → Type 0) (queues : List (List A)) → ((q : ℕ) (x : A) → P q x → Q q x) → EachSignal P queues → EachSignal Q queues
signals-weaker P Q queues f all = λ q. each-weaker (P q) (Q q) (queue queues q) (f q) (all q)

set-each : {A : Type 0} (P : ℕ → A → Type 0) (queues : List (List A)) (k : ℕ) (ys : List A) → Each (P k) ys → EachSignal P queues → (q : ℕ) →
    Each (P q) (queue (slice_set queues k ys) q)
set-each P [] k ys new all q = all q
set-each P (x ∷ xs) zero ys new all zero = new
set-each P (x ∷ xs) zero ys new all (suc q) = all (suc q)
set-each P (x ∷ xs) (suc k) ys new all zero = all zero
set-each {A} P (x ∷ xs) (suc k) ys new all (suc q) = set-each (λ (n : ℕ) (y : A). P (suc n) y) xs k ys new (λ n. all (suc n)) q

pub taken-each : {A : Type 0} (P : ℕ → A → Type 0) (queues : List (List A)) (k : ℕ) → EachSignal P queues → EachSignal P (taken queues k)
taken-each P queues k all = set-each P queues k (drop 1 (queue queues k)) (each-rest (P k) (queue queues k) (all k)) all

pub lost-each : {A : Type 0} (P : ℕ → A → Type 0) (queues : List (List A)) (k : ℕ) → EachSignal P queues → EachSignal P (lost queues k)
lost-each P queues k all = set-each P queues k [] tt all

-- of a signal that is sent, where its path is available
abbrev pub OnSent : {A : Type 0} → (ℕ → A → Type 0) → List Bool → Option (OnPath A) → Type 0
OnSent P available None = Unit {0}
OnSent P available (Some s) = is_member available s.path ≡ true → P s.path s.signal

where-each : {A : Type 0} (P : ℕ → A → Type 0) (queues : List (List A)) (s : OnPath A) (b : Bool) → (b ≡ true → P s.path s.signal) → EachSignal P queues →
    EachSignal P (with_any_sent queues (carried_where b s))
where-each P queues s false one all = all
where-each P queues s true one all =
    set-each P queues s.path (queue queues s.path ++ s.signal ∷ []) (each-append (P s.path) (queue queues s.path) s.signal (all s.path) (one refl)) all

pub carried-each : {A : Type 0} (P : ℕ → A → Type 0) (queues : List (List A)) (available : List Bool) (one : Option (OnPath A)) → OnSent P available one →
    EachSignal P queues → EachSignal P (with_any_sent queues (carried available one))
carried-each P queues available None one all = all
carried-each P queues available (Some s) one all = where-each P queues s (is_member available s.path) one all

-- where none waits
pub none-wait : {A : Type 0} (P : ℕ → A → Type 0) (n : ℕ) → EachSignal P (replicate n [])
none-wait P zero q = tt
none-wait P (suc n) zero = tt
none-wait {A} P (suc n) (suc q) = none-wait (λ (k : ℕ) (x : A). P (suc k) x) n q
