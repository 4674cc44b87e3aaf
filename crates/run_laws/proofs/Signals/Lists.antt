-- What holds of the signals that wait on wires, each and in their order, as signals are sent, taken and lost.
use Rattle.std.proofs.Common.{◌≡◌, ◌≢◌, sym, subst, inl, inr, arith, ℕ, zero, suc, Bool, true, false, Option, None, Some, List, [], ◌∷◌, ◌++◌, drop, replicate, slice_get, slice_set}
use Rattle.chan_model.specs.PathSets.{is_member}
use Rattle.chan_model.specs.declared.signal.OnPath.{OnPath}
use Rattle.step_laws.proofs.Indices.{same-or-not}
use Rattle.run_laws.proofs.Machine.WaitingSignals.{Each, each-append}
use Rattle.wires.specs.Queues.{queue, taken, lost}
use Rattle.subchannel_model.specs.Sending.{carried, with_any_sent, carried_where}

-- after each that is A all are B
abbrev pub After : {A : Type 0} → (A → Type 0) → (A → Type 0) → List A → Type 0
After P Q [] = Unit {0}
After P Q (x ∷ xs) = (P x → Each Q xs) × After P Q xs

pub each-both : {A : Type 0} (P Q R : A → Type 0) (xs : List A) → ((x : A) → P x → Q x → R x) → Each P xs → Each Q xs → Each R xs
each-both P Q R [] f all more = tt
each-both P Q R (x ∷ xs) f all more = (f x all.0 more.0, each-both P Q R xs f all.1 more.1)

pub after-push : {A : Type 0} (P Q : A → Type 0) (xs : List A) (x : A) → After P Q xs → Each (λ y. P y → Q x) xs → After P Q (xs ++ x ∷ [])
after-push P Q [] x all one = ((λ p. tt), tt)
after-push P Q (y ∷ ys) x all one = ((λ p. each-append Q ys x (all.0 p) (one.0 p)), after-push P Q ys x all.1 one.1)

pub after-rest : {A : Type 0} (P Q : A → Type 0) (xs : List A) → After P Q xs → After P Q (drop 1 xs)
after-rest P Q [] all = tt
after-rest P Q (x ∷ xs) all = all.1

-- what is after the front
pub after-front : {A : Type 0} (P Q : A → Type 0) (xs : List A) (x : A) → After P Q xs → slice_get xs 0 ≡ Some x → P x → Each Q (drop 1 xs)
after-front P Q [] x all e p = absurd (cc e)
after-front {A} P Q (y ∷ ys) x all e p = let same : x ≡ y = cc e in all.0 (subst (λ (z : A). P z) same p)

-- where none is P
pub after-none : {A : Type 0} (P Q : A → Type 0) (xs : List A) → Each (λ y. P y → ⊥) xs → After P Q xs
after-none P Q [] none = tt
after-none P Q (x ∷ xs) none = ((λ p. absurd (none.0 p)), after-none P Q xs none.1)

-- of each queue
set-queue : {A : Type 0} (P : ℕ → List A → Type 0) (queues : List (List A)) (k : ℕ) (ys : List A) → P k ys → ((q : ℕ) → P q (queue queues q)) → (q : ℕ) →
    P q (queue (slice_set queues k ys) q)
set-queue P [] k ys new all q = all q
set-queue P (x ∷ xs) zero ys new all zero = new
set-queue P (x ∷ xs) zero ys new all (suc q) = all (suc q)
set-queue P (x ∷ xs) (suc k) ys new all zero = all zero
set-queue {A} P (x ∷ xs) (suc k) ys new all (suc q) = set-queue (λ (n : ℕ) (zs : List A). P (suc n) zs) xs k ys new (λ n. all (suc n)) q

pub taken-queues : {A : Type 0} (P : ℕ → List A → Type 0) (queues : List (List A)) (k : ℕ) → P k (drop 1 (queue queues k)) → ((q : ℕ) → P q (queue queues q)) → (q : ℕ) →
    P q (queue (taken queues k) q)
taken-queues P queues k new all q = set-queue P queues k (drop 1 (queue queues k)) new all q

pub lost-queues : {A : Type 0} (P : ℕ → List A → Type 0) (queues : List (List A)) (k : ℕ) → P k [] → ((q : ℕ) → P q (queue queues q)) → (q : ℕ) → P q (queue (lost queues k) q)
lost-queues P queues k new all q = set-queue P queues k [] new all q

-- where the front of one was taken, and another thing holds of the others
pub taken-others : {A : Type 0} (P : ℕ → List A → Type 0) (queues : List (List A)) (k : ℕ) → P k (drop 1 (queue queues k)) → ((q : ℕ) → q ≢ k → P q (queue queues q)) → (q : ℕ) →
    P q (queue (taken queues k) q)
taken-others {A} P [] k new others q =
    elim (same-or-not q k) [
      | inl e ↦ subst (λ (n : ℕ). P n []) (sym e.0) new
      | inr n ↦ others q n.0
    ]
taken-others P (x ∷ xs) zero new others zero = new
taken-others P (x ∷ xs) zero new others (suc q) = others (suc q) (λ e. absurd (omega (arith, e)))
taken-others P (x ∷ xs) (suc k) new others zero = others zero (λ e. absurd (omega (arith, e)))
taken-others {A} P (x ∷ xs) (suc k) new others (suc q) =
    taken-others (λ (n : ℕ) (zs : List A). P (suc n) zs) xs k new (λ n ne. others (suc n) (λ e. ne (omega (arith, e)))) q

-- of a signal that is sent, which its path may lose
abbrev pub OnSent : {A : Type 0} → (ℕ → A → Type 0) → Option (OnPath A) → Type 0
OnSent P None = Unit {0}
OnSent P (Some s) = P s.path s.signal

where-queues : {A : Type 0} (P : ℕ → List A → Type 0) (queues : List (List A)) (s : OnPath A) (b : Bool) → P s.path (queue queues s.path ++ s.signal ∷ []) →
    ((q : ℕ) → P q (queue queues q)) → (q : ℕ) → P q (queue (with_any_sent queues (carried_where b s)) q)
where-queues P queues s false new all q = all q
where-queues P queues s true new all q = set-queue P queues s.path (queue queues s.path ++ s.signal ∷ []) new all q

pub sent-queues : {A : Type 0} (P : ℕ → List A → Type 0) (queues : List (List A)) (available : List Bool) (one : Option (OnPath A)) →
    OnSent (λ p x. P p (queue queues p ++ x ∷ [])) one → ((q : ℕ) → P q (queue queues q)) → (q : ℕ) → P q (queue (with_any_sent queues (carried available one)) q)
sent-queues P queues available None new all q = all q
sent-queues P queues available (Some s) new all q = where-queues P queues s (is_member available s.path) new all q

-- where none waits
pub none-wait : {A : Type 0} (P : ℕ → List A → Type 0) (n : ℕ) → ((q : ℕ) → P q []) → (q : ℕ) → P q (queue {A = A} (replicate n []) q)
none-wait P zero none q = none q
none-wait P (suc n) none zero = none zero
none-wait {A} P (suc n) none (suc q) = none-wait (λ (k : ℕ) (xs : List A). P (suc k) xs) n (λ k. none (suc k)) q
