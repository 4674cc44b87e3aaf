-- Where the request of a subchannel stands among those that wait.
use Rattle.std.proofs.Common.{◌≡◌, refl, sym, ◌∙◌, ap, subst, ℕ, zero, suc, ◌+◌, ◌<◌, ◌≤◌, ◌==◌, ◌||◌, not, nat_lt, Bool, true, false, Some, List, [], ◌∷◌, ◌++◌, inl, inr, arith}
use Rattle.std.specs.Prelude.{◌⊎◌, slice_get, cond, if◌then◌else◌, min}
use Rattle.std.specs.List.{filter, list_any}
use Rattle.std.proofs.lemmas.Bool.{eqb-true, eq-eqb, and_parts}
use Rattle.std.proofs.lemmas.List.Folds.{list_any-append}
use Rattle.std.proofs.lemmas.Map.Views.{any-filter_same}
use Rattle.zbits.specs.Bits.{bit_of}
use Rattle.scsw_irb.specs.declared.code.IntCode.{IntCode}
use Rattle.interruptions.specs.Requests.{WaitingRequests, is_of, stands, posted, request_dropped, is_enabled, lowest, answer}
use Rattle.channel_config.specs.declared.names.SubchannelId.{SubchannelId}
use Rattle.machine_model.specs.Requests.{request_of, posted_for, posted_all}
use Rattle.subchannel_model.specs.declared.state.Subchannel.{Subchannel}

abbrev pub is_for : SubchannelId → IntCode → Bool
is_for id code = is_of id.set id.number code

abbrev pub asks : SubchannelId → WaitingRequests → Bool
asks id w = list_any (is_for id) w.requests

pub or-right : (a b : Bool) → b ≡ true → (a || b) ≡ true
or-right true b e = refl
or-right false b e = e

pub or-left : (a b : Bool) → a ≡ true → (a || b) ≡ true
or-left true b e = refl
or-left false b e = absurd (cc e)

pub or-parts : (a b : Bool) → (a || b) ≡ true → (a ≡ true) ⊎ (b ≡ true)
or-parts true b e = inl refl
or-parts false b e = inr e

-- of one name alone
pub for-parts : (id : SubchannelId) (code : IntCode) → is_for id code ≡ true → (code.set ≡ id.set) × (code.subchannel ≡ id.number)
for-parts id code e =
    let p = and_parts (code.set == id.set) (code.subchannel == id.number) e in (eqb-true code.set id.set p.0, eqb-true code.subchannel id.number p.1)

-- a request that is posted
pub posted-keeps : (id : SubchannelId) (w : WaitingRequests) (code : IntCode) → asks id w ≡ true → asks id (posted w code) ≡ true
posted-keeps id w code e = by (stands w.requests code.set code.subchannel)
  where
    by : (b : Bool) → asks id (if b then w else record w { requests = w.requests ++ code ∷ [] }) ≡ true
    by true = e
    by false = list_any-append (is_for id) w.requests (code ∷ []) ∙ or-left (asks id w) _ e

posted-own : (id : SubchannelId) (w : WaitingRequests) (code : IntCode) → is_for id code ≡ true → asks id (posted w code) ≡ true
posted-own id w code e = by (stands w.requests code.set code.subchannel) refl
  where
    by : (b : Bool) → stands w.requests code.set code.subchannel ≡ b → asks id (if b then w else record w { requests = w.requests ++ code ∷ [] }) ≡ true
    by true f =
        let p = for-parts id code e in
        ap (λ (n : ℕ). list_any (is_of n id.number) w.requests) (sym p.0) ∙ ap (λ (n : ℕ). list_any (is_of code.set n) w.requests) (sym p.1) ∙ f
    by false f = list_any-append (is_for id) w.requests (code ∷ []) ∙ or-right (asks id w) _ (or-left (is_for id code) false e)

posted-why : (id : SubchannelId) (w : WaitingRequests) (code : IntCode) → asks id (posted w code) ≡ true → (asks id w ≡ true) ⊎ (is_for id code ≡ true)
posted-why id w code = by (stands w.requests code.set code.subchannel)
  where
    one : (is_for id code || false) ≡ true → is_for id code ≡ true
    one e = elim (or-parts (is_for id code) false e) [ inl a ↦ a | inr b ↦ absurd (cc b) ]

    by : (b : Bool) → asks id (if b then w else record w { requests = w.requests ++ code ∷ [] }) ≡ true → (asks id w ≡ true) ⊎ (is_for id code ≡ true)
    by true e = inl e
    by false e =
        elim (or-parts (asks id w) (is_for id code || false) (sym (list_any-append (is_for id) w.requests (code ∷ [])) ∙ e)) [
          | inl a ↦ inl a
          | inr b ↦ inr (one b)
        ]

-- all that are posted
abbrev Rose : SubchannelId → List Subchannel → List Subchannel → Type 0
Rose id olds news = (k : ℕ) × (old : Subchannel) × (new : Subchannel) × (slice_get olds k ≡ Some old) × (slice_get news k ≡ Some new)
    × (old.state.serials.made < new.state.serials.made) × (is_for id (request_of new) ≡ true)

pub all-keep : (id : SubchannelId) (olds news : List Subchannel) (w : WaitingRequests) → asks id w ≡ true → asks id (posted_all olds news w) ≡ true
all-keep id [] news w e = e
all-keep id (old ∷ olds) [] w e = e
all-keep id (old ∷ olds) (new ∷ news) w e = all-keep id olds news (posted_for old new w) (by (nat_lt old.state.serials.made new.state.serials.made))
  where
    by : (b : Bool) → asks id (if b then posted w (request_of new) else w) ≡ true
    by true = posted-keeps id w (request_of new) e
    by false = e

pub all-own : (id : SubchannelId) (olds news : List Subchannel) (w : WaitingRequests) (k : ℕ) (old new : Subchannel) → slice_get olds k ≡ Some old → slice_get news k ≡ Some new →
    nat_lt old.state.serials.made new.state.serials.made ≡ true → is_for id (request_of new) ≡ true → asks id (posted_all olds news w) ≡ true
all-own id [] news w k old new e f rose own = absurd (cc e)
all-own id (x ∷ olds) [] w k old new e f rose own = absurd (cc f)
all-own id (x ∷ olds) (y ∷ news) w zero old new e f rose own =
    let xs : x ≡ old = cc e in
    let ys : y ≡ new = cc f in
    all-keep id olds news (posted_for x y w)
    (subst (λ (b : Bool). asks id (if b then posted w (request_of y) else w) ≡ true)
    (sym (ap (λ (z : Subchannel). nat_lt z.state.serials.made y.state.serials.made) xs ∙ ap (λ (z : Subchannel). nat_lt old.state.serials.made z.state.serials.made) ys ∙ rose))
    (posted-own id w (request_of y) (ap (λ (z : Subchannel). is_for id (request_of z)) ys ∙ own)))
all-own id (x ∷ olds) (y ∷ news) w (suc k) old new e f rose own = all-own id olds news (posted_for x y w) k old new e f rose own

pub all-why : (id : SubchannelId) (olds news : List Subchannel) (w : WaitingRequests) → asks id (posted_all olds news w) ≡ true → (asks id w ≡ true) ⊎ Rose id olds news
all-why id [] news w e = inl e
all-why id (old ∷ olds) [] w e = inl e
all-why id (old ∷ olds) (new ∷ news) w e =
    elim (all-why id olds news (posted_for old new w) e) [
      | inl a ↦ by (nat_lt old.state.serials.made new.state.serials.made) refl a
      | inr r ↦ inr (suc r.0, r.1, r.2, r.3, r.4, r.5, r.6)
    ]
  where
    by : (b : Bool) → nat_lt old.state.serials.made new.state.serials.made ≡ b → asks id (if b then posted w (request_of new) else w) ≡ true →
        (asks id w ≡ true) ⊎ Rose id (old ∷ olds) (new ∷ news)
    by false f a = inl a
    by true f a =
        elim (posted-why id w (request_of new) a) [
          | inl b ↦ inl b
          | inr b ↦ inr (0, old, new, refl, refl, Rattle.std.proofs.lemmas.Bool.ltb-true old.state.serials.made new.state.serials.made f, b)
        ]

-- a request that is dropped
pub dropped-own : (id : SubchannelId) (w : WaitingRequests) → asks id (request_dropped w id.set id.number) ≡ false
dropped-own id w = any-filter_same (is_for id) (λ code. not (is_for id code)) false (λ code e. ap not e) w.requests

pub dropped-other : (id : SubchannelId) (w : WaitingRequests) (set number : ℕ) → ((set ≡ id.set) × (number ≡ id.number) → ⊥) → asks id (request_dropped w set number) ≡ asks id w
dropped-other id w set number other =
    any-filter_same (is_for id) (λ code. not (is_of set number code)) true (λ code e. ap not (apart code e)) w.requests
  where
    apart : (code : IntCode) → is_for id code ≡ true → is_of set number code ≡ false
    apart code e = by (is_of set number code) refl
      where
        by : (b : Bool) → is_of set number code ≡ b → b ≡ false
        by false f = refl
        by true f =
            let p = for-parts id code e in
            let q = and_parts (code.set == set) (code.subchannel == number) f in
            absurd (other (sym (eqb-true code.set set q.0) ∙ p.0, sym (eqb-true code.subchannel number q.1) ∙ p.1))

pub dropped-was : (id : SubchannelId) (w : WaitingRequests) (set number : ℕ) → asks id (request_dropped w set number) ≡ true → asks id w ≡ true
dropped-was id w set number = less w.requests
  where
    less : (xs : List IntCode) → list_any (is_for id) (filter (λ code. not (is_of set number code)) xs) ≡ true → list_any (is_for id) xs ≡ true
    less [] e = e
    less (x ∷ xs) e = by (not (is_of set number x)) e (less xs)
      where
        by : (b : Bool) → list_any (is_for id) (cond b (x ∷ filter (λ code. not (is_of set number code)) xs) (filter (λ code. not (is_of set number code)) xs)) ≡ true →
            (list_any (is_for id) (filter (λ code. not (is_of set number code)) xs) ≡ true → list_any (is_for id) xs ≡ true) → (is_for id x || list_any (is_for id) xs) ≡ true
        by true f rest = elim (or-parts (is_for id x) _ f) [ inl a ↦ or-left (is_for id x) _ a | inr b ↦ or-right (is_for id x) _ (rest b) ]
        by false f rest = or-right (is_for id x) _ (rest f)

-- TEST PENDING INTERRUPTION of all subclasses
enabled-all : (k : ℕ) → k < 8 → (bit_of 0xFF (24 + k) == 1) ≡ true
enabled-all zero e = refl
enabled-all (suc zero) e = refl
enabled-all (suc (suc zero)) e = refl
enabled-all (suc (suc (suc zero))) e = refl
enabled-all (suc (suc (suc (suc zero)))) e = refl
enabled-all (suc (suc (suc (suc (suc zero))))) e = refl
enabled-all (suc (suc (suc (suc (suc (suc zero)))))) e = refl
enabled-all (suc (suc (suc (suc (suc (suc (suc zero))))))) e = refl
enabled-all (suc (suc (suc (suc (suc (suc (suc (suc k)))))))) e = absurd (omega (arith, e))

kept-all : (xs : List IntCode) → filter (is_enabled 0xFF) xs ≡ xs
kept-all [] = refl
kept-all (x ∷ xs) =
    ap (λ (b : Bool). cond b (x ∷ filter (is_enabled 0xFF) xs) (filter (is_enabled 0xFF) xs)) (enabled-all x.subclass x.subclass_fits)
    ∙ ap (λ (ys : List IntCode). x ∷ ys) (kept-all xs)

min-is : (a b : ℕ) → (min a b ≡ a) ⊎ (min a b ≡ b)
min-is a b = by (nat_lt b a) refl
  where
    by : (x : Bool) → nat_lt b a ≡ x → (min a b ≡ a) ⊎ (min a b ≡ b)
    by true e = let l : b < a = Rattle.std.proofs.lemmas.Bool.ltb-true b a e in inr (omega (arith, l))
    by false e = let l : a ≤ b = Rattle.std.proofs.lemmas.Bool.ltb-false b a e in inl (omega (arith, l))

lowest-there : (x : IntCode) (xs : List IntCode) → list_any (λ y. y.subclass == lowest (x ∷ xs)) (x ∷ xs) ≡ true
lowest-there x [] =
    let m : min x.subclass 8 ≡ x.subclass = omega (arith, x.subclass_fits) in or-left _ _ (eq-eqb x.subclass (min x.subclass 8) (sym m))
lowest-there x (y ∷ ys) =
    elim (min-is x.subclass (lowest (y ∷ ys))) [
      | inl a ↦ or-left (x.subclass == lowest (x ∷ (y ∷ ys))) _ (eq-eqb x.subclass (lowest (x ∷ (y ∷ ys))) (sym a))
      | inr b ↦ or-right (x.subclass == lowest (x ∷ (y ∷ ys))) _
          (subst (λ (n : ℕ). list_any (λ z. z.subclass == n) (y ∷ ys) ≡ true) (sym b) (lowest-there y ys))
    ]

first-some : (test : IntCode → Bool) (xs : List IntCode) → list_any test xs ≡ true → (code : IntCode) × (slice_get (filter test xs) 0 ≡ Some code)
first-some test [] e = absurd (cc e)
first-some test (x ∷ xs) e = by (test x) e (first-some test xs)
  where
    by : (b : Bool) → (b || list_any test xs) ≡ true → (list_any test xs ≡ true → (code : IntCode) × (slice_get (filter test xs) 0 ≡ Some code)) →
        (code : IntCode) × (slice_get (cond b (x ∷ filter test xs) (filter test xs)) 0 ≡ Some code)
    by true f rest = (x, refl)
    by false f rest = rest f

pub asked-answer : (id : SubchannelId) (w : WaitingRequests) → asks id w ≡ true → (code : IntCode) × (answer w 0xFF ≡ Some code)
asked-answer id w e = by w.requests e
  where
    by : (xs : List IntCode) → list_any (is_for id) xs ≡ true →
        (code : IntCode) × (slice_get (filter (λ y. y.subclass == lowest (filter (is_enabled 0xFF) xs)) (filter (is_enabled 0xFF) xs)) 0 ≡ Some code)
    by [] f = absurd (cc f)
    by (x ∷ xs) f =
        subst (λ (ys : List IntCode). (code : IntCode) × (slice_get (filter (λ y. y.subclass == lowest ys) ys) 0 ≡ Some code)) (sym (kept-all (x ∷ xs)))
        (first-some (λ y. y.subclass == lowest (x ∷ xs)) (x ∷ xs) (lowest-there x xs))

-- what is given was asked for
pub given-asked : (test : IntCode → Bool) (xs : List IntCode) (code : IntCode) → slice_get (filter test xs) 0 ≡ Some code → (p : IntCode → Bool) → p code ≡ true → list_any p xs ≡ true
given-asked test [] code e p f = absurd (cc e)
given-asked test (x ∷ xs) code e p f = by (test x) e (λ h. given-asked test xs code h p f)
  where
    by : (b : Bool) → slice_get (cond b (x ∷ filter test xs) (filter test xs)) 0 ≡ Some code → (slice_get (filter test xs) 0 ≡ Some code → list_any p xs ≡ true) →
        (p x || list_any p xs) ≡ true
    by true h rest = let same : x ≡ code = cc h in or-left (p x) _ (ap p same ∙ f)
    by false h rest = or-right (p x) _ (rest h)

pub filter-less : (p test : IntCode → Bool) (xs : List IntCode) → list_any p (filter test xs) ≡ true → list_any p xs ≡ true
filter-less p test [] e = e
filter-less p test (x ∷ xs) e = by (test x) e (filter-less p test xs)
  where
    by : (b : Bool) → list_any p (cond b (x ∷ filter test xs) (filter test xs)) ≡ true → (list_any p (filter test xs) ≡ true → list_any p xs ≡ true) → (p x || list_any p xs) ≡ true
    by true f rest = elim (or-parts (p x) _ f) [ inl a ↦ or-left (p x) _ a | inr b ↦ or-right (p x) _ (rest b) ]
    by false f rest = or-right (p x) _ (rest f)

pub answer-asked : (id : SubchannelId) (w : WaitingRequests) (mask : ℕ) (code : IntCode) → answer w mask ≡ Some code → is_for id code ≡ true → asks id w ≡ true
answer-asked id w mask code e f =
    let kept : List IntCode = filter (is_enabled mask) w.requests in
    filter-less (is_for id) (is_enabled mask) w.requests (given-asked (λ y. y.subclass == lowest kept) kept code e (is_for id) f)
