-- Where the request of one subchannel waits ahead of each of another.
use Rattle.std.proofs.Common.{◌≡◌, refl, sym, ◌∙◌, ap, ℕ, ◌&&◌, ◌||◌, not, nat_lt, Bool, true, false, Some, List, [], ◌∷◌, ◌++◌, inl, inr}
use Rattle.std.specs.Prelude.{◌⊎◌, slice_get, cond, if◌then◌else◌}
use Rattle.std.specs.List.{filter, list_any}
use Rattle.std.proofs.lemmas.Bool.{and_parts}
use Rattle.std.proofs.lemmas.List.Folds.{list_any-append}
use Rattle.scsw_irb.specs.declared.code.IntCode.{IntCode}
use Rattle.interruptions.specs.Requests.{WaitingRequests, is_of, stands, posted}
use Rattle.channel_config.specs.declared.names.SubchannelId.{SubchannelId}
use Rattle.machine_model.specs.Requests.{request_of, posted_for, posted_all}
use Rattle.step_laws.proofs.Indices.{both-true}
use Rattle.subchannel_model.specs.declared.state.Subchannel.{Subchannel}
use Rattle.run_laws.proofs.Shown.Waiting.{is_for, or-left, or-right, or-parts, for-parts}

-- at most one request is of this subchannel; and it is there, with none of another before it
abbrev pub lone : SubchannelId → List IntCode → Bool
lone x [] = true
lone x (c ∷ cs) = if is_for x c then not (list_any (is_for x) cs) else lone x cs

abbrev pub ahead : SubchannelId → SubchannelId → List IntCode → Bool
ahead x y [] = false
ahead x y (c ∷ cs) = if is_for x c then not (list_any (is_for x) cs) else (not (is_for y c) && ahead x y cs)

if-true : (b c d : Bool) → (b ≡ true → c ≡ true) → (b ≡ false → d ≡ true) → (if b then c else d) ≡ true
if-true true c d f g = f refl
if-true false c d f g = g refl

true-if : (b c d : Bool) → (if b then c else d) ≡ true → ((b ≡ true) × (c ≡ true)) ⊎ ((b ≡ false) × (d ≡ true))
true-if true c d e = inl (refl, e)
true-if false c d e = inr (refl, e)

not-false : (b : Bool) → b ≡ false → not b ≡ true
not-false b e = ap not e

false-not : (b : Bool) → not b ≡ true → b ≡ false
false-not true e = absurd (cc e)
false-not false e = refl

or-none : (a b : Bool) → (a || b) ≡ false → (a ≡ false) × (b ≡ false)
or-none true b e = absurd (cc e)
or-none false b e = (refl, e)

none-or : (a b : Bool) → a ≡ false → b ≡ false → (a || b) ≡ false
none-or true b e f = absurd (cc e)
none-or false b e f = f

-- one that is alone, where none of the other is there
pub lone-ahead : (x y : SubchannelId) (xs : List IntCode) → lone x xs ≡ true → list_any (is_for x) xs ≡ true → list_any (is_for y) xs ≡ false → ahead x y xs ≡ true
lone-ahead x y [] l a n = absurd (cc a)
lone-ahead x y (c ∷ cs) l a n =
    let none = or-none (is_for y c) (list_any (is_for y) cs) n in
    elim (true-if (is_for x c) (not (list_any (is_for x) cs)) (lone x cs) l) [
      | inl p ↦ if-true (is_for x c) _ _ (λ e. p.1) (λ e. absurd (cc (sym e ∙ p.0)))
      | inr p ↦ if-true (is_for x c) _ _ (λ e. absurd (cc (sym e ∙ p.0)))
          (λ e. both-true (not (is_for y c)) (ahead x y cs) (not-false (is_for y c) none.0) (lone-ahead x y cs p.1 (later (is_for x c) e a) none.1))
    ]
  where
    later : (b : Bool) → b ≡ false → (b || list_any (is_for x) cs) ≡ true → list_any (is_for x) cs ≡ true
    later true e f = absurd (cc e)
    later false e f = f

pub ahead-there : (x y : SubchannelId) (xs : List IntCode) → ahead x y xs ≡ true → list_any (is_for x) xs ≡ true
ahead-there x y [] e = absurd (cc e)
ahead-there x y (c ∷ cs) e =
    elim (true-if (is_for x c) (not (list_any (is_for x) cs)) (not (is_for y c) && ahead x y cs) e) [
      | inl p ↦ or-left (is_for x c) _ p.0
      | inr p ↦ or-right (is_for x c) _ (ahead-there x y cs (and_parts (not (is_for y c)) (ahead x y cs) p.1).1)
    ]

-- a request of another behind
any-one : (x : SubchannelId) (cs : List IntCode) (z : IntCode) → list_any (is_for x) cs ≡ false → is_for x z ≡ false → list_any (is_for x) (cs ++ z ∷ []) ≡ false
any-one x cs z a b = list_any-append (is_for x) cs (z ∷ []) ∙ none-or (list_any (is_for x) cs) _ a (none-or (is_for x z) false b refl)

behind-ahead : (x y : SubchannelId) (xs : List IntCode) (z : IntCode) → ahead x y xs ≡ true → is_for x z ≡ false → ahead x y (xs ++ z ∷ []) ≡ true
behind-ahead x y [] z e f = absurd (cc e)
behind-ahead x y (c ∷ cs) z e f =
    elim (true-if (is_for x c) (not (list_any (is_for x) cs)) (not (is_for y c) && ahead x y cs) e) [
      | inl p ↦ if-true (is_for x c) _ _ (λ h. not-false _ (any-one x cs z (false-not _ p.1) f)) (λ h. absurd (cc (sym h ∙ p.0)))
      | inr p ↦
          let q = and_parts (not (is_for y c)) (ahead x y cs) p.1 in
          if-true (is_for x c) _ _ (λ h. absurd (cc (sym h ∙ p.0))) (λ h. both-true (not (is_for y c)) _ q.0 (behind-ahead x y cs z q.1 f))
    ]

behind-lone : (x : SubchannelId) (xs : List IntCode) (z : IntCode) → lone x xs ≡ true → (is_for x z ≡ true → list_any (is_for x) xs ≡ false) → lone x (xs ++ z ∷ []) ≡ true
behind-lone x [] z e f = if-true (is_for x z) true true (λ h. refl) (λ h. refl)
behind-lone x (c ∷ cs) z e f =
    elim (true-if (is_for x c) (not (list_any (is_for x) cs)) (lone x cs) e) [
      | inl p ↦ if-true (is_for x c) _ _ (λ h. not-false _ (any-one x cs z (false-not _ p.1) (other (is_for x z) refl p.0))) (λ h. absurd (cc (sym h ∙ p.0)))
      | inr p ↦ if-true (is_for x c) _ _ (λ h. absurd (cc (sym h ∙ p.0)))
          (λ h. behind-lone x cs z p.1 (λ g. (or-none (is_for x c) _ (f g)).1))
    ]
  where
    other : (b : Bool) → is_for x z ≡ b → is_for x c ≡ true → b ≡ false
    other false g p = refl
    other true g p = absurd (cc (sym (f g) ∙ or-left (is_for x c) (list_any (is_for x) cs) p))

-- where some are left out, but not that of the first
none-left : (x : SubchannelId) (p : IntCode → Bool) (xs : List IntCode) → list_any (is_for x) xs ≡ false → list_any (is_for x) (filter p xs) ≡ false
none-left x p [] e = refl
none-left x p (c ∷ cs) e = let q = or-none (is_for x c) (list_any (is_for x) cs) e in by (p c) q.0 (none-left x p cs q.1)
  where
    by : (b : Bool) → is_for x c ≡ false → list_any (is_for x) (filter p cs) ≡ false → list_any (is_for x) (cond b (c ∷ filter p cs) (filter p cs)) ≡ false
    by true e f = none-or (is_for x c) _ e f
    by false e f = f

none-both : (x : SubchannelId) (p : IntCode → Bool) (xs : List IntCode) → list_any (is_for x) xs ≡ false → list_any (λ z. is_for x z && p z) xs ≡ false
none-both x p [] e = refl
none-both x p (c ∷ cs) e =
    let q = or-none (is_for x c) (list_any (is_for x) cs) e in none-or (is_for x c && p c) _ (ap (λ (b : Bool). b && p c) q.0) (none-both x p cs q.1)

pub left-ahead : (x y : SubchannelId) (p : IntCode → Bool) (xs : List IntCode) → ahead x y xs ≡ true → list_any (λ z. is_for x z && p z) xs ≡ true → ahead x y (filter p xs) ≡ true
left-ahead x y p [] e f = absurd (cc e)
left-ahead x y p (c ∷ cs) e f =
    elim (true-if (is_for x c) (not (list_any (is_for x) cs)) (not (is_for y c) && ahead x y cs) e) [
      | inl q ↦ here (p c) (first q.1) q.0 (none-left x p cs (false-not _ q.1))
      | inr q ↦
          let r = and_parts (not (is_for y c)) (ahead x y cs) q.1 in later (p c) q.0 r.0 (left-ahead x y p cs r.1 (rest q.0))
    ]
  where
    first : not (list_any (is_for x) cs) ≡ true → p c ≡ true
    first n =
        elim (or-parts (is_for x c && p c) _ f) [
          | inl a ↦ (and_parts (is_for x c) (p c) a).1
          | inr b ↦ absurd (cc (sym b ∙ none-both x p cs (false-not _ n)))
        ]

    rest : is_for x c ≡ false → list_any (λ z. is_for x z && p z) cs ≡ true
    rest n =
        elim (or-parts (is_for x c && p c) _ f) [
          | inl a ↦ absurd (cc (sym n ∙ (and_parts (is_for x c) (p c) a).0))
          | inr b ↦ b
        ]

    here : (b : Bool) → b ≡ true → is_for x c ≡ true → list_any (is_for x) (filter p cs) ≡ false → ahead x y (cond b (c ∷ filter p cs) (filter p cs)) ≡ true
    here true g a n = if-true (is_for x c) _ _ (λ h. not-false _ n) (λ h. absurd (cc (sym h ∙ a)))
    here false g a n = absurd (cc g)

    later : (b : Bool) → is_for x c ≡ false → not (is_for y c) ≡ true → ahead x y (filter p cs) ≡ true → ahead x y (cond b (c ∷ filter p cs) (filter p cs)) ≡ true
    later true a n k = if-true (is_for x c) _ _ (λ h. absurd (cc (sym h ∙ a))) (λ h. both-true (not (is_for y c)) _ n k)
    later false a n k = k

pub left-lone : (x : SubchannelId) (p : IntCode → Bool) (xs : List IntCode) → lone x xs ≡ true → lone x (filter p xs) ≡ true
left-lone x p [] e = refl
left-lone x p (c ∷ cs) e =
    elim (true-if (is_for x c) (not (list_any (is_for x) cs)) (lone x cs) e) [
      | inl q ↦ here (p c) q.0 (none-left x p cs (false-not _ q.1))
      | inr q ↦ later (p c) q.0 (left-lone x p cs q.1)
    ]
  where
    none-lone : (ys : List IntCode) → list_any (is_for x) ys ≡ false → lone x ys ≡ true
    none-lone [] n = refl
    none-lone (d ∷ ds) n =
        let r = or-none (is_for x d) (list_any (is_for x) ds) n in if-true (is_for x d) _ _ (λ h. not-false _ r.1) (λ h. none-lone ds r.1)

    here : (b : Bool) → is_for x c ≡ true → list_any (is_for x) (filter p cs) ≡ false → lone x (cond b (c ∷ filter p cs) (filter p cs)) ≡ true
    here true a n = if-true (is_for x c) _ _ (λ h. not-false _ n) (λ h. absurd (cc (sym h ∙ a)))
    here false a n = none-lone (filter p cs) n

    later : (b : Bool) → is_for x c ≡ false → lone x (filter p cs) ≡ true → lone x (cond b (c ∷ filter p cs) (filter p cs)) ≡ true
    later true a k = if-true (is_for x c) _ _ (λ h. absurd (cc (sym h ∙ a))) (λ h. k)
    later false a k = k

-- what is posted
stands-for : (x : SubchannelId) (xs : List IntCode) (z : IntCode) → is_for x z ≡ true → stands xs z.set z.subchannel ≡ list_any (is_for x) xs
stands-for x xs z e =
    let p = for-parts x z e in
    ap (λ (n : ℕ). list_any (is_of n z.subchannel) xs) p.0 ∙ ap (λ (n : ℕ). list_any (is_of x.set n) xs) p.1

posted-ahead : (x y : SubchannelId) (w : WaitingRequests) (z : IntCode) → ahead x y w.requests ≡ true → ahead x y (posted w z).requests ≡ true
posted-ahead x y w z e = by (stands w.requests z.set z.subchannel) refl
  where
    other : (b : Bool) → is_for x z ≡ b → stands w.requests z.set z.subchannel ≡ false → b ≡ false
    other false g n = refl
    other true g n = absurd (cc (sym n ∙ stands-for x w.requests z g ∙ ahead-there x y w.requests e))

    by : (b : Bool) → stands w.requests z.set z.subchannel ≡ b → ahead x y (if b then w else record w { requests = w.requests ++ z ∷ [] }).requests ≡ true
    by true n = e
    by false n = behind-ahead x y w.requests z e (other (is_for x z) refl n)

posted-lone : (x : SubchannelId) (w : WaitingRequests) (z : IntCode) → lone x w.requests ≡ true → lone x (posted w z).requests ≡ true
posted-lone x w z e = by (stands w.requests z.set z.subchannel) refl
  where
    by : (b : Bool) → stands w.requests z.set z.subchannel ≡ b → lone x (if b then w else record w { requests = w.requests ++ z ∷ [] }).requests ≡ true
    by true n = e
    by false n = behind-lone x w.requests z e (λ g. sym (stands-for x w.requests z g) ∙ n)

pub all-ahead : (x y : SubchannelId) (olds news : List Subchannel) (w : WaitingRequests) → ahead x y w.requests ≡ true → ahead x y (posted_all olds news w).requests ≡ true
all-ahead x y [] news w e = e
all-ahead x y (old ∷ olds) [] w e = e
all-ahead x y (old ∷ olds) (new ∷ news) w e = all-ahead x y olds news (posted_for old new w) (by (nat_lt old.state.serials.made new.state.serials.made))
  where
    by : (b : Bool) → ahead x y (if b then posted w (request_of new) else w).requests ≡ true
    by true = posted-ahead x y w (request_of new) e
    by false = e

pub all-lone : (x : SubchannelId) (olds news : List Subchannel) (w : WaitingRequests) → lone x w.requests ≡ true → lone x (posted_all olds news w).requests ≡ true
all-lone x [] news w e = e
all-lone x (old ∷ olds) [] w e = e
all-lone x (old ∷ olds) (new ∷ news) w e = all-lone x olds news (posted_for old new w) (by (nat_lt old.state.serials.made new.state.serials.made))
  where
    by : (b : Bool) → lone x (if b then posted w (request_of new) else w).requests ≡ true
    by true = posted-lone x w (request_of new) e
    by false = e

-- two names that have no request in common
pub names-apart : (x y : SubchannelId) (xs : List IntCode) → list_any (is_for x) xs ≡ true → list_any (is_for y) xs ≡ false → (z : IntCode) → is_for x z ≡ true → is_for y z ≡ true → ⊥
names-apart x y xs a n z e f =
    let p = for-parts x z e in
    let q = for-parts y z f in
    cc (sym (ap (λ (k : ℕ). list_any (is_of k x.number) xs) (sym p.0 ∙ q.0) ∙ ap (λ (k : ℕ). list_any (is_of y.set k) xs) (sym p.1 ∙ q.1) ∙ n) ∙ a)

-- the first of a list where one is ahead is not of the other
pub first-ahead : (x y : SubchannelId) (xs : List IntCode) (z : IntCode) → ahead x y xs ≡ true → slice_get xs 0 ≡ Some z → (is_for x z ≡ true → ⊥) → is_for y z ≡ true → ⊥
first-ahead x y [] z e g n f = cc e
first-ahead x y (c ∷ cs) z e g n f =
    let same : c ≡ z = cc g in
    elim (true-if (is_for x c) (not (list_any (is_for x) cs)) (not (is_for y c) && ahead x y cs) e) [
      | inl p ↦ n (sym (ap (is_for x) same) ∙ p.0)
      | inr p ↦ cc (sym (false-not (is_for y c) (and_parts (not (is_for y c)) (ahead x y cs) p.1).0) ∙ ap (is_for y) same ∙ f)
    ]
