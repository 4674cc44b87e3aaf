-- The entries of groups as their units change.
use Rattle.std.proofs.Common.{◌≡◌, ◌≢◌, refl, sym, subst, ◌∙◌, ap, ℕ, ◌+◌, ◌-◌, ◌<◌, ◌≤◌, ◌==◌, ◌&&◌, ◌||◌, zero, suc, Bool, true, false, not, cond, Option, None, Some, List, [], ◌∷◌, ◌++◌, length, map, take, drop, replicate, get_or, if◌then◌else◌, arith}
use Rattle.std.specs.List.{list_any}
use Rattle.std.specs.Prelude.{slice_get, slice_set, count_by}
use Rattle.std.proofs.lemmas.Bool.{and_right, or_from, or_left, or_right, or_parts, eq-eqb, eqb-true, ne_eqb}
use Rattle.std.proofs.lemmas.List.Folds.{list_any-append}
use Rattle.std.proofs.lemmas.List.Sums.{sum_by-cons, sum_by-set, sum_by-append, sum_by-take-drop, sum_by-drop_more, get_or-le-sum_by}
use Rattle.std.proofs.lemmas.Option.{slice_get_within, slice_get_read, get_or_from_slice_get, same_Some}
use Rattle.std.proofs.Math.Bool.{and-true}
use Rattle.std.specs.Cmp.{both_ways}
use mir.Val.{bool_byte}
use Rattle.std.proofs.Math.Dec.{eqb-suc-zero}
use Rattle.control_units.specs.declared.Member.{Member}
use Rattle.control_units.specs.declared.groups.Group.{Group}
use Rattle.control_units.specs.Units.{any_other, idle_member, member_informed, is_begun_in, is_refused_in, is_owed_at, over_at, refused_at}
use Rattle.control_units.specs.Groups.{idle_group, group_of, AreGroupsOf, changed_at, changed, begun_changed, with_refused, begun_as}

abbrev made : ℕ → Bool → Group
made begun refused = record { begun = begun; refused = refused }

same-group : (b c : ℕ) (r s : Bool) → b ≡ c → r ≡ s → made b r ≡ made c s
same-group b c r s e f = ap (λ (n : ℕ). made n r) e ∙ ap (λ (t : Bool). made c t) f

-- an entry is written
entry-set : (f g : ℕ → Group) (table : List Group) (i : ℕ) (v : Group) → ((k : ℕ) (a : Group) → slice_get table k ≡ Some a → a ≡ f k) → v ≡ g i →
    ((k : ℕ) → k ≢ i → f k ≡ g k) → (k : ℕ) (a : Group) → slice_get (slice_set table i v) k ≡ Some a → a ≡ g k
entry-set f g [] i v t here other k a h = absurd (cc h)
entry-set f g (x ∷ xs) zero v t here other zero a h = sym (same_Some v a h) ∙ here
entry-set f g (x ∷ xs) zero v t here other (suc k) a h = t (suc k) a h ∙ other (suc k) (λ e. absurd (omega (arith, e)))
entry-set f g (x ∷ xs) (suc i) v t here other zero a h = t zero a h ∙ other zero (λ e. absurd (omega (arith, e)))
entry-set f g (x ∷ xs) (suc i) v t here other (suc k) a h =
    entry-set (λ n. f (suc n)) (λ n. g (suc n)) xs i v (λ n. t (suc n)) here (λ n apart. other (suc n) (λ e. apart (omega (arith, e)))) k a h

-- the group of one number changes, and so does its entry, where it has one
changed-entry : (change : Group → Group) (f g : ℕ → Group) (groups : List Group) (n : ℕ) (o : Option Group) → slice_get groups n ≡ o →
    ((k : ℕ) (a : Group) → slice_get groups k ≡ Some a → a ≡ f k) → change (f n) ≡ g n → ((k : ℕ) → k ≢ n → f k ≡ g k) →
    (k : ℕ) (a : Group) → slice_get (changed_at change groups n o) k ≡ Some a → a ≡ g k
changed-entry change f g groups n None is t here other k a h = t k a h ∙ other k (λ e. absurd (cc (e, h, is)))
changed-entry change f g groups n (Some v) is t here other k a h = entry-set f g groups n (change v) t (ap change (t n v is) ∙ here) other k a h

-- a unit changes and passes a test as before
count-set : (test : Member → Bool) (xs : List Member) (i : ℕ) (x new : Member) → slice_get xs i ≡ Some x →
    count_by test (slice_set xs i new) + cond (test x) 1 0 ≡ count_by test xs + cond (test new) 1 0
count-set test xs i x new is =
    let set = sum_by-set (λ (y : Member). cond (test y) 1 0) xs i new new (slice_get_within xs i x is) in
    let at = ap {B = ℕ} (λ (y : Member). cond (test y) 1 0) (get_or_from_slice_get xs i x new is) in
    omega (arith, set, at)

count-same : (test : Member → Bool) (xs : List Member) (i : ℕ) (x new : Member) → slice_get xs i ≡ Some x → test new ≡ test x →
    count_by test xs ≡ count_by test (slice_set xs i new)
count-same test xs i x new is e =
    let set = count-set test xs i x new is in
    let same = ap {B = ℕ} (λ (b : Bool). cond b 1 0) e in
    omega (arith, set, same)

any-same : (test : Member → Bool) (xs : List Member) (i : ℕ) (x new : Member) → slice_get xs i ≡ Some x → test new ≡ test x →
    list_any test xs ≡ list_any test (slice_set xs i new)
any-same test [] i x new is e = absurd (cc is)
any-same test (y ∷ ys) zero x new is e = let same : y ≡ x = cc is in ap (λ (b : Bool). b || list_any test ys) (ap test same ∙ sym e)
any-same test (y ∷ ys) (suc i) x new is e = ap (λ (b : Bool). test y || b) (any-same test ys i x new is e)

any-here : (test : Member → Bool) (xs : List Member) (i : ℕ) (x new : Member) → slice_get xs i ≡ Some x → test new ≡ true →
    list_any test (slice_set xs i new) ≡ true
any-here test [] i x new is e = absurd (cc is)
any-here test (y ∷ ys) zero x new is e = or_left (test new) (list_any test ys) e
any-here test (y ∷ ys) (suc i) x new is e = or_right (test y) (list_any test (slice_set ys i new)) (any-here test ys i x new is e)

-- a unit is of its own group and of no other
of-own : (b : Bool) (group : ℕ) → (b && (group == group)) ≡ b
of-own b group = ap (λ (e : Bool). b && e) (eq-eqb group group refl) ∙ and-true b

of-other : (b : Bool) (group k : ℕ) → k ≢ group → (b && (group == k)) ≡ false
of-other b group k apart = and_right b (group == k) (ne_eqb group k (λ e. apart (sym e)))

-- a unit that is begun counts in its group
begun-some : (members : List Member) (index : ℕ) (m : Member) → slice_get members index ≡ Some m → cond m.begun 1 0 ≤ count_by (is_begun_in m.group) members
begun-some members index m is =
    let one = get_or-le-sum_by (λ (y : Member). cond (is_begun_in m.group y) 1 0) members index m (slice_get_within members index m is) in
    let at = ap {B = ℕ} (λ (y : Member). cond (is_begun_in m.group y) 1 0) (get_or_from_slice_get members index m m is) in
    let own = ap {B = ℕ} (λ (t : Bool). cond t 1 0) (of-own m.begun m.group) in
    omega (arith, one, at, own)

-- a unit is begun, or it is not any more
begun-at : (b : Bool) (members : List Member) (groups : List Group) (index : ℕ) (m : Member) → slice_get members index ≡ Some m → AreGroupsOf members groups →
    AreGroupsOf (slice_set members index (record m { begun = b })) (changed (begun_changed m.begun b) groups m.group)
begun-at b members groups index m is kept =
    let new : Member = record m { begun = b } in
    let later = slice_set members index new in
    let set = count-set (is_begun_in m.group) members index m new is in
    let was = ap {B = ℕ} (λ (t : Bool). cond t 1 0) (of-own m.begun m.group) in
    let comes = ap {B = ℕ} (λ (t : Bool). cond t 1 0) (of-own b m.group) in
    let some = begun-some members index m is in
    changed-entry (begun_changed m.begun b) (group_of members) (group_of later) groups m.group (slice_get groups m.group) refl kept
    (same-group (count_by (is_begun_in m.group) members - cond m.begun 1 0 + cond b 1 0) (count_by (is_begun_in m.group) later) _ _
    (omega (arith, set, was, comes, some)) (any-same (is_refused_in m.group) members index m new is refl))
    (λ k apart. same-group _ _ _ _
    (count-same (is_begun_in k) members index m new is (of-other b m.group k apart ∙ sym (of-other m.begun m.group k apart)))
    (any-same (is_refused_in k) members index m new is refl))

as-set : (b : Bool) (members : List Member) (index : ℕ) (m : Member) → slice_set members index (record m { begun = b }) ≡ begun_as b members index (Some m)
as-set true members index m = refl
as-set false members index m = refl

begun-set : (b : Bool) (members : List Member) (groups : List Group) (index : ℕ) (m : Member) → slice_get members index ≡ Some m → AreGroupsOf members groups →
    AreGroupsOf (begun_as b members index (Some m)) (changed (begun_changed m.begun b) groups m.group)
begun-set b members groups index m is kept =
    subst (λ (ms : List Member). AreGroupsOf ms (changed (begun_changed m.begun b) groups m.group)) (as-set b members index m) (begun-at b members groups index m is kept)

-- a unit is refused
refused-set : (members : List Member) (groups : List Group) (index : ℕ) (m : Member) → slice_get members index ≡ Some m → AreGroupsOf members groups →
    AreGroupsOf (slice_set members index (record m { refused = true })) (changed (with_refused true) groups m.group)
refused-set members groups index m is kept =
    let new : Member = record m { refused = true } in
    changed-entry (with_refused true) (group_of members) (group_of (slice_set members index new)) groups m.group (slice_get groups m.group) refl kept
    (same-group _ _ _ _ (count-same (is_begun_in m.group) members index m new is refl) (sym (any-here (is_refused_in m.group) members index m new is (of-own true m.group))))
    (λ k apart. same-group _ _ _ _ (count-same (is_begun_in k) members index m new is refl)
    (any-same (is_refused_in k) members index m new is (of-other true m.group k apart ∙ sym (of-other m.refused m.group k apart))))

-- the units of a group are informed
begun-informed : (k : ℕ) (x : Member) (b : Bool) → is_begun_in k x ≡ is_begun_in k (if b then record x { refused = false } else x)
begun-informed k x true = refl
begun-informed k x false = refl

refused-informed : (k group : ℕ) (x : Member) (b : Bool) → (x.group == group) ≡ b → k ≢ group → is_refused_in k x ≡ is_refused_in k (if b then record x { refused = false } else x)
refused-informed k group x true e apart = and_right x.refused (x.group == k) (ne_eqb x.group k (λ h. apart (sym h ∙ eqb-true x.group group e)))
refused-informed k group x false e apart = refl

is-informed : (group : ℕ) (x : Member) (b : Bool) → (x.group == group) ≡ b → is_refused_in group (if b then record x { refused = false } else x) ≡ false
is-informed group x true e = refl
is-informed group x false e = and_right x.refused (x.group == group) e

count-map : (test : Member → Bool) (f : Member → Member) (xs : List Member) → ((x : Member) → test x ≡ test (f x)) → count_by test xs ≡ count_by test (map f xs)
count-map test f [] same = refl
count-map test f (x ∷ xs) same =
    let here = ap {B = ℕ} (λ (b : Bool). cond b 1 0) (same x) in
    let old = sum_by-cons (λ (y : Member). cond (test y) 1 0) x xs in
    let new = sum_by-cons (λ (y : Member). cond (test y) 1 0) (f x) (map f xs) in
    let rest = count-map test f xs same in
    omega (arith, here, old, new, rest)

any-map : (test : Member → Bool) (f : Member → Member) (xs : List Member) → ((x : Member) → test x ≡ test (f x)) → list_any test xs ≡ list_any test (map f xs)
any-map test f [] same = refl
any-map test f (x ∷ xs) same = ap (λ (b : Bool). b || list_any test xs) (same x) ∙ ap (λ (b : Bool). test (f x) || b) (any-map test f xs same)

none-map : (test : Member → Bool) (f : Member → Member) (xs : List Member) → ((x : Member) → test (f x) ≡ false) → false ≡ list_any test (map f xs)
none-map test f [] none = refl
none-map test f (x ∷ xs) none = sym (or_from (test (f x)) (list_any test (map f xs)) (none x) (sym (none-map test f xs none)))

all-informed : (members : List Member) (groups : List Group) (group : ℕ) → AreGroupsOf members groups →
    AreGroupsOf (map (member_informed group) members) (changed (with_refused false) groups group)
all-informed members groups group kept =
    let informed = member_informed group in
    changed-entry (with_refused false) (group_of members) (group_of (map informed members)) groups group (slice_get groups group) refl kept
    (same-group _ _ _ _ (count-map (is_begun_in group) informed members (λ x. begun-informed group x (x.group == group)))
    (none-map (is_refused_in group) informed members (λ x. is-informed group x (x.group == group) refl)))
    (λ k apart. same-group _ _ _ _ (count-map (is_begun_in k) informed members (λ x. begun-informed k x (x.group == group)))
    (any-map (is_refused_in k) informed members (λ x. refused-informed k group x (x.group == group) refl apart)))

-- where none is refused, there is nothing to inform
not-refused : (r e : Bool) → e ≡ true → (r && e) ≡ false → r ≡ false
not-refused true e is h = absurd (cc (is, h))
not-refused false e is h = refl

informed-one : (group : ℕ) (x : Member) (b : Bool) → (x.group == group) ≡ b → is_refused_in group x ≡ false → (if b then record x { refused = false } else x) ≡ x
informed-one group x true e h = ap (λ (r : Bool). record x { refused = r }) (sym (not-refused x.refused (x.group == group) e h))
informed-one group x false e h = refl

pub none-informed : (group : ℕ) (xs : List Member) → list_any (is_refused_in group) xs ≡ false → xs ≡ map (member_informed group) xs
none-informed group [] h = refl
none-informed group (x ∷ xs) h =
    let parts = or_parts (is_refused_in group x) (list_any (is_refused_in group) xs) h in
    ap (λ (y : Member). y ∷ xs) (sym (informed-one group x (x.group == group) refl parts.0))
    ∙ ap (λ (ys : List Member). member_informed group x ∷ ys) (none-informed group xs parts.1)

-- at the beginning none is begun or refused
no-count : (test : Member → Bool) (groups : List ℕ) → ((g : ℕ) → test (idle_member g) ≡ false) → 0 ≡ count_by test (map idle_member groups)
no-count test [] none = refl
no-count test (g ∷ gs) none =
    let here = ap {B = ℕ} (λ (b : Bool). cond b 1 0) (none g) in
    let more = sum_by-cons (λ (y : Member). cond (test y) 1 0) (idle_member g) (map idle_member gs) in
    let rest = no-count test gs none in
    omega (arith, here, more, rest)

none-idle : (test : Member → Bool) (groups : List ℕ) → ((g : ℕ) → test (idle_member g) ≡ false) → false ≡ list_any test (map idle_member groups)
none-idle test [] none = refl
none-idle test (g ∷ gs) none = sym (or_from (test (idle_member g)) (list_any test (map idle_member gs)) (none g) (sym (none-idle test gs none)))

entry-idle : (n k : ℕ) (g : Group) → slice_get (replicate n idle_group) k ≡ Some g → g ≡ idle_group
entry-idle zero k g h = absurd (cc h)
entry-idle (suc n) zero g h = sym (same_Some idle_group g h)
entry-idle (suc n) (suc k) g h = entry-idle n k g h

all-idle : (groups : List ℕ) (n : ℕ) → AreGroupsOf (map idle_member groups) (replicate n idle_group)
all-idle groups n k g h =
    entry-idle n k g h ∙ same-group 0 _ false _ (no-count (is_begun_in k) groups (λ x. refl)) (none-idle (is_refused_in k) groups (λ x. refl))

-- whether another unit passes, from a count of all
any-of : (b : Bool) (n : ℕ) (rest : Bool) → not (n == 0) ≡ rest → not (cond b 1 0 + n == 0) ≡ (b || rest)
any-of true n rest e = let more : 1 + n ≡ suc n = omega arith in ap (λ (m : ℕ). not (m == 0)) more ∙ ap not (eqb-suc-zero n)
any-of false n rest e = let z : 0 + n ≡ n = omega arith in ap (λ (m : ℕ). not (m == 0)) z ∙ e

counted-any : (test : Member → Bool) (xs : List Member) → not (count_by test xs == 0) ≡ list_any test xs
counted-any test [] = refl
counted-any test (x ∷ xs) =
    ap (λ (n : ℕ). not (n == 0)) (sum_by-cons (λ (y : Member). cond (test y) 1 0) x xs) ∙ any-of (test x) (count_by test xs) (list_any test xs) (counted-any test xs)

same-zero : (n s t : ℕ) → n ≡ s + t → (n == t) ≡ (s == 0)
same-zero n s t e =
    both_ways (n == t) (s == 0) (λ h. let same = eqb-true n t h in eq-eqb s 0 (omega (arith, same, e))) (λ h. let same = eqb-true s 0 h in eq-eqb n t (omega (arith, same, e)))

pub counted-other : (test : Member → Bool) (xs : List Member) (i : ℕ) (x : Member) → slice_get xs i ≡ Some x → not (count_by test xs == cond (test x) 1 0) ≡ any_other test xs i
counted-other test xs i x is =
    let one : Member → ℕ = λ (y : Member). cond (test y) 1 0 in
    let halves = sum_by-take-drop one xs i in
    let rest = sum_by-drop_more one xs i x (slice_get_within xs i x is) in
    let at = ap one (get_or_from_slice_get xs i x x is) in
    let others = sum_by-append one (take i xs) (drop (i + 1) xs) in
    ap not (same-zero (count_by test xs) (count_by test (take i xs ++ drop (i + 1) xs)) (cond (test x) 1 0) (omega (arith, halves, rest, at, others)))
    ∙ (counted-any test (take i xs ++ drop (i + 1) xs) ∙ list_any-append test (take i xs) (drop (i + 1) xs))

pub entry-other : (members : List Member) (groups : List Group) (index : ℕ) (m : Member) (g : Group) → slice_get members index ≡ Some m → AreGroupsOf members groups →
    slice_get groups m.group ≡ Some g → not (g.begun == cond m.begun 1 0) ≡ any_other (is_begun_in m.group) members index
entry-other members groups index m g is kept at =
    ap (λ (x : Group). not (x.begun == cond m.begun 1 0)) (kept m.group g at)
    ∙ (ap (λ (b : Bool). not (count_by (is_begun_in m.group) members == cond b 1 0)) (sym (of-own m.begun m.group))
    ∙ counted-other (is_begun_in m.group) members index m is)

-- what calls left: the units and the entries, each as informed
groups-at : (members later : List Member) (groups new : List Group) → later ≡ members → new ≡ groups → AreGroupsOf members groups → AreGroupsOf later new
groups-at members later groups new m g kept = subst (λ (ms : List Member). AreGroupsOf ms new) (sym m) (subst (λ (gs : List Group). AreGroupsOf members gs) (sym g) kept)

pub begun-kept : (b : Bool) (members later : List Member) (groups new : List Group) (index : ℕ) (m : Member) → slice_get members index ≡ Some m → AreGroupsOf members groups →
    later ≡ begun_as b members index (slice_get members index) → new ≡ changed (begun_changed m.begun b) groups m.group → AreGroupsOf later new
begun-kept b members later groups new index m is kept l n =
    groups-at (begun_as b members index (Some m)) later (changed (begun_changed m.begun b) groups m.group) new (l ∙ ap (begun_as b members index) is) n (begun-set b members groups index m is kept)

pub refused-kept : (members later : List Member) (groups new : List Group) (index : ℕ) (m : Member) → slice_get members index ≡ Some m → AreGroupsOf members groups →
    later ≡ refused_at members index (slice_get members index) → new ≡ changed (with_refused true) groups m.group → AreGroupsOf later new
refused-kept members later groups new index m is kept l n =
    groups-at (refused_at members index (Some m)) later (changed (with_refused true) groups m.group) new (l ∙ ap (refused_at members index) is) n (refused-set members groups index m is kept)

pub informed-kept : (members later : List Member) (groups new : List Group) (group : ℕ) → AreGroupsOf members groups →
    later ≡ map (member_informed group) members → new ≡ changed (with_refused false) groups group → AreGroupsOf later new
informed-kept members later groups new group kept l n =
    groups-at (map (member_informed group) members) later (changed (with_refused false) groups group) new l n (all-informed members groups group kept)

pub idle-kept : (numbers : List ℕ) (n : ℕ) (members : List Member) (groups : List Group) → members ≡ map idle_member numbers → groups ≡ replicate n idle_group → AreGroupsOf members groups
idle-kept numbers n members groups m g = groups-at (map idle_member numbers) members (replicate n idle_group) groups m g (all-idle numbers n)

-- a unit that is over: what it owes, and what is left
pub owed-is : (members later : List Member) (index : ℕ) (m : Member) (owed : Bool) → slice_get members index ≡ Some m → later ≡ begun_as false members index (slice_get members index) →
    owed ≡ list_any (is_refused_in m.group) later → owed ≡ is_owed_at members (slice_get members index)
owed-is members later index m owed is l o =
    o ∙ (ap (list_any (is_refused_in m.group)) (l ∙ ap (begun_as false members index) is)
    ∙ (sym (any-same (is_refused_in m.group) members index m (record m { begun = false }) is refl) ∙ ap (is_owed_at members) (sym is)))

pub over-is : (members later informed : List Member) (index : ℕ) (m : Member) → slice_get members index ≡ Some m → later ≡ begun_as false members index (slice_get members index) →
    informed ≡ map (member_informed m.group) later → informed ≡ over_at members index (slice_get members index)
over-is members later informed index m is l t = t ∙ (ap (map (member_informed m.group)) (l ∙ ap (begun_as false members index) is) ∙ ap (over_at members index) (sym is))

-- what a look at an index shows
pub seen-at : {A : Type 0} (xs ys : List A) (i k : ℕ) (x : A) → xs ≡ ys → i ≡ k → i < length xs → x ≡ get_or xs i x → slice_get ys k ≡ Some x
seen-at {A} xs ys i k x l n within there =
    ap (λ (j : ℕ). slice_get ys j) (sym n) ∙ (ap (λ (zs : List A). slice_get zs i) (sym l) ∙ slice_get_read xs (length xs) i x refl within there)

pub as-count : (b : Bool) → bool_byte b ≡ cond b 1 0
as-count true = refl
as-count false = refl
