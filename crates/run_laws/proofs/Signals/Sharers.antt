-- What control units keep of their units: which of them a program holds. So a unit that is asked for may be served where none of its
-- group is held.
use Rattle.std.proofs.Common.{◌≡◌, ◌≢◌, refl, sym, ◌∙◌, ap, subst, ℕ, zero, suc, ◌<◌, ◌≤◌, ◌+◌, ◌==◌, ◌&&◌, ◌||◌, nat_lt, Bool, true, false, not, Option, None, Some, is_some, List, [], ◌∷◌, map, take, drop, slice_get, slice_set, if◌then◌else◌, inl, inr, arith}
use Rattle.std.specs.Prelude.{◌⊎◌}
use Rattle.std.specs.List.{list_any}
use Rattle.std.proofs.lemmas.Bool.{eqb-true, eq-eqb, and_parts}
use Rattle.chan_model.specs.declared.names.Side.{Side}
use Rattle.chan_model.specs.Signals.{Down, Up}
use Rattle.chan_model.specs.declared.signal.Down.TheVariants as down
use Rattle.chan_model.specs.declared.signal.OnPath.{OnPath}
use Rattle.chan_model.specs.declared.unit_state.Attention.{Attention}
use Rattle.chan_model.specs.declared.unit_state.Own.{Own}
use Rattle.chan_model.specs.declared.unit_state.Own.TheVariants as own
use Rattle.chan_model.specs.declared.unit_state.UnitState.{UnitState}
use Rattle.chan_model.specs.UnitTable.{UnitStep, unit_after, side_of, raised, selected, telling, noticing, resets, forgetting, unit_takes, is_idle, restarted}
use Rattle.chan_model.specs.Sides.{same_side}
use Rattle.control_units.specs.declared.Member.{Member}
use Rattle.control_units.specs.Units.{any_other, is_begun_in, member_informed, may_serve, may_serve_at, begun_at, over_at}
use Rattle.machine_model.specs.Setups.{group_of}
use Rattle.machine_model.specs.Sharing.{is_asked_for, members_asked, is_let_go, members_over, members_after}
use Rattle.step_laws.proofs.Indices.{set-get, map-get, same-or-not}
use Rattle.run_laws.specs.Devices.{Held, Holding}
use Rattle.run_laws.specs.OneHolder.{Seen, IsFree}
use Rattle.run_laws.proofs.Signals.UnitMoves.{side-own}

-- any element of the first n, or of those from n on
or-parts : (a b : Bool) → (a || b) ≡ true → (a ≡ true) ⊎ (b ≡ true)
or-parts true b e = inl refl
or-parts false b e = inr e

or-none : (a b : Bool) → (a || b) ≡ false → (a ≡ false) × (b ≡ false)
or-none true b e = absurd (cc e)
or-none false b e = (refl, e)

take-any : {A : Type 0} (test : A → Bool) (n : ℕ) (xs : List A) → list_any test (take n xs) ≡ true → (i : ℕ) × (x : A) × (slice_get xs i ≡ Some x) × (i < n) × (test x ≡ true)
take-any test zero xs e = absurd (cc e)
take-any test (suc n) [] e = absurd (cc e)
take-any test (suc n) (x ∷ xs) e =
    elim (or-parts (test x) (list_any test (take n xs)) e) [
      | inl h ↦ (zero, x, refl, omega arith, h)
      | inr h ↦ let r = take-any test n xs h in (suc r.0, r.1, r.2, (let l : r.0 < n = r.3 in omega (arith, l)), r.4)
    ]

drop-any : {A : Type 0} (test : A → Bool) (n : ℕ) (xs : List A) → list_any test (drop n xs) ≡ true → (i : ℕ) × (x : A) × (slice_get xs i ≡ Some x) × (n ≤ i) × (test x ≡ true)
drop-any test zero [] e = absurd (cc e)
drop-any test (suc n) [] e = absurd (cc e)
drop-any test zero (x ∷ xs) e =
    elim (or-parts (test x) (list_any test xs) e) [
      | inl h ↦ (zero, x, refl, omega arith, h)
      | inr h ↦ let r = drop-any test zero xs h in (suc r.0, r.1, r.2, omega arith, r.4)
    ]
drop-any test (suc n) (x ∷ xs) e = let r = drop-any test n xs e in (suc r.0, r.1, r.2, (let l : n ≤ r.0 = r.3 in omega (arith, l)), r.4)

take-none : {A : Type 0} (test : A → Bool) (n : ℕ) (xs : List A) (i : ℕ) (x : A) → list_any test (take n xs) ≡ false → i < n → slice_get xs i ≡ Some x → test x ≡ false
take-none test zero xs i x e l f = absurd (omega (arith, l))
take-none test (suc n) [] i x e l f = absurd (cc f)
take-none test (suc n) (y ∷ ys) zero x e l f = let same : y ≡ x = cc f in sym (ap test same) ∙ (or-none (test y) (list_any test (take n ys)) e).0
take-none test (suc n) (y ∷ ys) (suc i) x e l f = take-none test n ys i x (or-none (test y) (list_any test (take n ys)) e).1 (omega (arith, l)) f

drop-none : {A : Type 0} (test : A → Bool) (n : ℕ) (xs : List A) (i : ℕ) (x : A) → list_any test (drop n xs) ≡ false → n ≤ i → slice_get xs i ≡ Some x → test x ≡ false
drop-none test zero [] i x e l f = absurd (cc f)
drop-none test (suc n) [] i x e l f = absurd (cc f)
drop-none test zero (y ∷ ys) zero x e l f = let same : y ≡ x = cc f in sym (ap test same) ∙ (or-none (test y) (list_any test ys) e).0
drop-none test zero (y ∷ ys) (suc i) x e l f = drop-none test zero ys i x (or-none (test y) (list_any test ys) e).1 (omega arith) f
drop-none test (suc n) (y ∷ ys) zero x e l f = absurd (omega (arith, l))
drop-none test (suc n) (y ∷ ys) (suc i) x e l f = drop-none test n ys i x e (omega (arith, l)) f

other-any : (test : Member → Bool) (members : List Member) (at : ℕ) → any_other test members at ≡ true → (i : ℕ) × (m : Member) × (slice_get members i ≡ Some m) × (test m ≡ true)
other-any test members at e =
    elim (or-parts (list_any test (take at members)) (list_any test (drop (at + 1) members)) e) [
      | inl h ↦ let r = take-any test at members h in (r.0, r.1, r.2, r.4)
      | inr h ↦ let r = drop-any test (at + 1) members h in (r.0, r.1, r.2, r.4)
    ]

before-or-after : (i at : ℕ) → i ≢ at → (i < at) ⊎ (at + 1 ≤ i)
before-or-after zero zero n = absurd (n refl)
before-or-after zero (suc at) n = inl (omega arith)
before-or-after (suc i) zero n = inr (omega arith)
before-or-after (suc i) (suc at) n =
    elim (before-or-after i at (λ e. n (ap suc e))) [
      | inl l ↦ inl (omega (arith, l))
      | inr l ↦ inr (omega (arith, l))
    ]

other-none : (test : Member → Bool) (members : List Member) (at i : ℕ) (m : Member) → any_other test members at ≡ false → i ≢ at → slice_get members i ≡ Some m → test m ≡ false
other-none test members at i m e n f =
    let both = or-none (list_any test (take at members)) (list_any test (drop (at + 1) members)) e in
    elim (before-or-after i at n) [
      | inl l ↦ take-none test at members i m both.0 l f
      | inr l ↦ drop-none test (at + 1) members i m both.1 l f
    ]

-- a unit is begun where a program holds its device
abbrev pub AreBegun : List Member → Seen → Type 0
AreBegun members seen = (i : ℕ) (m : Member) → slice_get members i ≡ Some m → m.begun ≡ is_some (seen i).holder

none-is : (h : Option Held) → is_some h ≡ false → h ≡ None
none-is None e = refl
none-is (Some h) e = absurd (cc e)

not-begun : (b c : Bool) → (b && c) ≡ false → c ≡ true → b ≡ false
not-begun true true e f = absurd (cc e)
not-begun true false e f = absurd (cc f)
not-begun false c e f = refl

not-false : (b : Bool) → not b ≡ true → b ≡ false
not-false true e = absurd (cc e)
not-false false e = refl

get-mapped : (ms : List Member) (i : ℕ) (m : Member) → slice_get ms i ≡ Some m → slice_get (map group_of ms) i ≡ Some m.group
get-mapped [] i m e = absurd (cc e)
get-mapped (x ∷ xs) zero m e = let same : x ≡ m = cc e in ap (λ (y : Member). Some y.group) same
get-mapped (x ∷ xs) (suc i) m e = get-mapped xs i m e

free-where : (members : List Member) (seen : Seen) (at : ℕ) (m : Member) → slice_get members at ≡ Some m → AreBegun members seen → is_some (seen at).holder ≡ false →
    any_other (is_begun_in m.group) members at ≡ false → IsFree (map group_of members) seen at true
free-where members seen at m there begun idle none other same =
    elim (same-or-not other at) [
      | inl e ↦ subst (λ (n : ℕ). (seen n).holder ≡ None) (sym e.0) (none-is (seen at).holder idle)
      | inr n ↦
          let got = map-get group_of members other m.group (same ∙ get-mapped members at m there) in
          let off : got.0.begun ≡ false =
          not-begun got.0.begun (got.0.group == m.group) (other-none (is_begun_in m.group) members at other got.0 none n.0 got.1) (eq-eqb got.0.group m.group got.2) in
          none-is (seen other).holder (sym (begun other got.0 got.1) ∙ off)
    ]

one-held : (members : List Member) (seen : Seen) (at : ℕ) (m : Member) → slice_get members at ≡ Some m → AreBegun members seen →
    any_other (is_begun_in m.group) members at ≡ true → IsFree (map group_of members) seen at false
one-held members seen at m there begun some =
    let got = other-any (is_begun_in m.group) members at some in
    let both = and_parts got.1.begun (got.1.group == m.group) got.3 in
    (got.0, get-mapped members got.0 got.1 got.2 ∙ (ap (λ (g : ℕ). Some g) (eqb-true got.1.group m.group both.1) ∙ sym (get-mapped members at m there)), sym (begun got.0 got.1 got.2) ∙ both.0)

abbrev IsFreeAs : List Member → Seen → ℕ → Bool → Bool → Type 0
IsFreeAs members seen at idle may = IsFree (map group_of members) seen at (idle && may)

free-by : (members : List Member) (seen : Seen) (at : ℕ) (m : Member) (idle other : Bool) → slice_get members at ≡ Some m → AreBegun members seen → is_some (seen at).holder ≡ not idle →
    any_other (is_begun_in m.group) members at ≡ other → IsFreeAs members seen at idle (not other)
free-by members seen at m false other there begun held e = (at, refl, held)
free-by members seen at m true true there begun held e = one-held members seen at m there begun e
free-by members seen at m true false there begun held e = free-where members seen at m there begun held e

pub free-of : (members : List Member) (seen : Seen) (at : ℕ) (m : Member) (idle : Bool) → slice_get members at ≡ Some m → AreBegun members seen → is_some (seen at).holder ≡ not idle →
    IsFree (map group_of members) seen at (idle && may_serve members at)
free-of members seen at m idle there begun held =
    subst (λ (q : Option Member). IsFreeAs members seen at idle (may_serve_at members at q)) (sym there)
    (free-by members seen at m idle (any_other (is_begun_in m.group) members at) there begun held refl)

-- a unit comes to be held where it is asked for and may be served, and only there
select-holds : (u : UnitState) (side : Side) (o : Own) (p t : ℕ) (may fresh above : Bool) → u.own ≡ o → (not fresh && (above && is_idle o)) ≡ true →
    is_idle (unit_after u (if fresh then telling u p else (if above then selected (raised u side t) o side p t may else None))).own ≡ not may
select-holds u side o p t may true above e f = absurd (cc f)
select-holds u side o p t may false false e f = absurd (cc f)
select-holds u side own.Idle p t true false true e f = refl
select-holds u side own.Idle p t false false true e f = ap is_idle (side-own u side _ ∙ e)
select-holds u side (own.Owned k v at) p t may false true e f = absurd (cc f)

pub asked-holds : (u : UnitState) (side : Side) (p : ℕ) (d : Down) (may : Bool) → is_asked_for u side d ≡ true → (is_idle u.own ≡ true) × (is_idle (unit_after u (unit_takes u side p d may)).own ≡ not may)
asked-holds u side p (down.Select t) may e =
    let both = and_parts (not (side_of u side).fresh) (nat_lt (side_of u side).floor t && is_idle u.own) e in
    ((and_parts (nat_lt (side_of u side).floor t) (is_idle u.own) both.1).1, select-holds u side u.own p t may (side_of u side).fresh (nat_lt (side_of u side).floor t) refl e)
asked-holds u side p (down.Command t n code room) may e = absurd (cc e)
asked-holds u side p (down.Grant t c) may e = absurd (cc e)
asked-holds u side p (down.Refuse t c) may e = absurd (cc e)
asked-holds u side p (down.Took t n s room) may e = absurd (cc e)
asked-holds u side p (down.Give bytes t c n s) may e = absurd (cc e)
asked-holds u side p (down.Halt t) may e = absurd (cc e)
asked-holds u side p (down.Release t) may e = absurd (cc e)
asked-holds u side p (down.Reset r b) may e = absurd (cc e)
asked-holds u side p (down.Got a) may e = absurd (cc e)

-- otherwise a unit that none holds stays so
abbrev as_idle : UnitState → UnitState
as_idle u = record u { own = own.Idle }

abbrev StaysIdle : UnitState → Option UnitStep → Type 0
StaysIdle u step = is_idle (unit_after (as_idle u) step).own ≡ true

told-idle : (u : UnitState) (p : ℕ) (b : Bool) (step : Option UnitStep) → (b ≡ false → StaysIdle u step) → StaysIdle u (if b then telling (as_idle u) p else step)
told-idle u p true step f = refl
told-idle u p false step f = f refl

select-idle : (u : UnitState) (side : Side) (p t : ℕ) (may above : Bool) → (above && true) ≡ false → StaysIdle u (if above then selected (raised (as_idle u) side t) own.Idle side p t may else None)
select-idle u side p t may true e = absurd (cc e)
select-idle u side p t may false e = refl

not-asked : (fresh above : Bool) → (not fresh && above) ≡ false → fresh ≡ false → above ≡ false
not-asked true above e f = absurd (cc f)
not-asked false above e f = e

idle-step : (u : UnitState) (b : Bool) (v : UnitState) (sent : Option (OnPath Up)) (x : Option UnitStep) → is_idle v.own ≡ true → StaysIdle u x →
    StaysIdle u (if b then Some (record { state = v; sent = sent }) else x)
idle-step u true v sent x e f = e
idle-step u false v sent x e f = f

got-idle : (u : UnitState) (o : Option Attention) (side : Side) (a : ℕ) → StaysIdle u (forgetting (as_idle u) o side a)
got-idle u None side a = refl
got-idle u (Some x) side a = idle-step u (same_side x.side side && (a == x.number)) _ None None refl refl

abbrev fresh_of : UnitState → Side → Bool
fresh_of u side = (side_of (as_idle u) side).fresh

stays-idle : (u : UnitState) (side : Side) (p : ℕ) (d : Down) (may : Bool) → is_asked_for (as_idle u) side d ≡ false → StaysIdle u (unit_takes (as_idle u) side p d may)
stays-idle u side p (down.Select t) may e =
    told-idle u p (fresh_of u side) _ (λ f. select-idle u side p t may (nat_lt (side_of (as_idle u) side).floor t) (not-asked (fresh_of u side) (nat_lt (side_of (as_idle u) side).floor t && true) e f))
stays-idle u side p (down.Command t n code room) may e = told-idle u p (fresh_of u side) _ (λ f. refl)
stays-idle u side p (down.Grant t c) may e = told-idle u p (fresh_of u side) _ (λ f. refl)
stays-idle u side p (down.Refuse t c) may e = told-idle u p (fresh_of u side) _ (λ f. refl)
stays-idle u side p (down.Took t n s room) may e = told-idle u p (fresh_of u side) _ (λ f. refl)
stays-idle u side p (down.Give bytes t c n s) may e = told-idle u p (fresh_of u side) _ (λ f. refl)
stays-idle u side p (down.Halt t) may e = told-idle u p (fresh_of u side) _ (λ f. refl)
stays-idle u side p (down.Release t) may e = told-idle u p (fresh_of u side) _ (λ f. refl)
stays-idle u side p (down.Reset r b) may e =
    idle-step u (resets (as_idle u) side r b) _ _ (noticing (as_idle u) side p) (ap is_idle (side-own (as_idle u) side (record { floor = r; fresh = false })))
    (told-idle u p (fresh_of u side) None (λ f. refl))
stays-idle u side p (down.Got a) may e = told-idle u p (fresh_of u side) _ (λ f. got-idle u u.attention side a)

idle-is : (o : Own) → is_idle o ≡ true → o ≡ own.Idle
idle-is own.Idle e = refl
idle-is (own.Owned k v at) e = absurd (cc e)

pub idle-stays : (u : UnitState) (side : Side) (p : ℕ) (d : Down) (may : Bool) → is_asked_for u side d ≡ false → is_idle u.own ≡ true → is_idle (unit_after u (unit_takes u side p d may)).own ≡ true
idle-stays u side p d may e idle =
    let same : as_idle u ≡ u = ap (λ (o : Own). record u { own = o }) (sym (idle-is u.own idle)) in
    subst (λ (v : UnitState). is_asked_for v side d ≡ false → is_idle (unit_after v (unit_takes v side p d may)).own ≡ true) same (stays-idle u side p d may) e

-- what control units keep after a unit was changed
abbrev pub AfterIs : List Member → List Member → ℕ → Bool → Type 0
AfterIs members after at b = (i : ℕ) (m : Member) → slice_get after i ≡ Some m → (i ≡ at → m.begun ≡ b) × (i ≢ at → (x : Member) × (slice_get members i ≡ Some x) × (m.begun ≡ x.begun))

pub kept-after : (members : List Member) (at : ℕ) (b : Bool) → ((m : Member) → slice_get members at ≡ Some m → m.begun ≡ b) → AfterIs members members at b
kept-after members at b f = λ i m e. ((λ h. f m (subst (λ (n : ℕ). slice_get members n ≡ Some m) h e)), (λ n. (m, e, refl)))

set-after : (members : List Member) (at : ℕ) (b : Bool) (new : Member) → new.begun ≡ b → AfterIs members (slice_set members at new) at b
set-after members at b new e = λ i m f.
    elim (set-get members at new i m f) [
      | inl p ↦ ((λ h. ap (λ (x : Member). x.begun) p.1 ∙ e), (λ n. absurd (n p.0)))
      | inr p ↦ ((λ h. absurd (p.0 h)), (λ n. (m, p.1, refl)))
    ]

told-begun : (g : ℕ) (x : Member) (b : Bool) → (if b then record x { refused = false } else x).begun ≡ x.begun
told-begun g x true = refl
told-begun g x false = refl

told-after : (members after : List Member) (at g : ℕ) (b : Bool) → AfterIs members after at b → AfterIs members (map (member_informed g) after) at b
told-after members after at g b k = λ i m f.
    let got = map-get (member_informed g) after i m f in
    let same : m.begun ≡ got.0.begun = ap (λ (x : Member). x.begun) (sym got.2) ∙ told-begun g got.0 (got.0.group == g) in
    ((λ h. same ∙ (k i got.0 got.1).0 h), (λ n. let r = (k i got.0 got.1).1 n in (r.0, r.1, same ∙ r.2)))

begun_at-after : (members : List Member) (at : ℕ) (q : Option Member) → slice_get members at ≡ q → AfterIs members (begun_at members at q) at true
begun_at-after members at None e = kept-after members at true (λ m f. absurd (cc (sym e ∙ f)))
begun_at-after members at (Some m) e = set-after members at true (record m { begun = true }) refl

over_at-after : (members : List Member) (at : ℕ) (q : Option Member) → slice_get members at ≡ q → AfterIs members (over_at members at q) at false
over_at-after members at None e = kept-after members at false (λ m f. absurd (cc (sym e ∙ f)))
over_at-after members at (Some m) e = told-after members (slice_set members at (record m { begun = false })) at m.group false (set-after members at false (record m { begun = false }) refl)

refused-after : (members : List Member) (at : ℕ) (q : Option Member) (b : Bool) → slice_get members at ≡ q → ((m : Member) → slice_get members at ≡ Some m → m.begun ≡ b) →
    AfterIs members (elim q [ None ↦ members | Some m ↦ slice_set members at (record m { refused = true }) ]) at b
refused-after members at None b e f = kept-after members at b f
refused-after members at (Some m) b e f = set-after members at b (record m { refused = true }) (f m e)

asked-after : (members : List Member) (at : ℕ) (may idle : Bool) → idle ≡ not may → ((m : Member) → slice_get members at ≡ Some m → m.begun ≡ false) →
    AfterIs members (members_asked members at may) at (not idle)
asked-after members at true idle e f = subst (λ (b : Bool). AfterIs members (members_asked members at true) at (not b)) (sym e) (begun_at-after members at (slice_get members at) refl)
asked-after members at false idle e f = subst (λ (b : Bool). AfterIs members (members_asked members at false) at (not b)) (sym e) (refused-after members at (slice_get members at) false refl f)

ended-after : (members : List Member) (at : ℕ) (old new : Bool) → (old ≡ true → new ≡ true) → ((m : Member) → slice_get members at ≡ Some m → m.begun ≡ not old) →
    AfterIs members (members_over members at (not old && new)) at (not new)
ended-after members at true true f g = kept-after members at false g
ended-after members at true false f g = absurd (cc (f refl))
ended-after members at false true f g = over_at-after members at (slice_get members at) refl
ended-after members at false false f g = kept-after members at true g

pub members-after : (members : List Member) (at : ℕ) (asks : Bool) (u v : UnitState) → ((m : Member) → slice_get members at ≡ Some m → m.begun ≡ not (is_idle u.own)) →
    (asks ≡ true → (is_idle u.own ≡ true) × (is_idle v.own ≡ not (may_serve members at))) → (asks ≡ false → is_idle u.own ≡ true → is_idle v.own ≡ true) →
    AfterIs members (members_after members at asks u v) at (not (is_idle v.own))
members-after members at true u v g asked other =
    asked-after members at (may_serve members at) (is_idle v.own) (asked refl).1 (λ m e. g m e ∙ ap not (asked refl).0)
members-after members at false u v g asked other = ended-after members at (is_idle u.own) (is_idle v.own) (other refl) g

pub begun-after : (members after : List Member) (seen next : Seen) (at : ℕ) (b : Bool) → AreBegun members seen → AfterIs members after at b → is_some (next at).holder ≡ b →
    ((i : ℕ) → i ≢ at → next i ≡ seen i) → AreBegun after next
begun-after members after seen next at b begun k here others = λ i m e.
    elim (same-or-not i at) [
      | inl h ↦ (k i m e).0 h.0 ∙ (sym here ∙ ap (λ (n : ℕ). is_some (next n).holder) (sym h.0))
      | inr n ↦ let r = (k i m e).1 n.0 in r.2 ∙ (begun i r.0 r.1 ∙ ap (λ (x : Holding). is_some x.holder) (sym (others i n.0)))
    ]

pub restarted-after : (members : List Member) (at : ℕ) (u : UnitState) → ((m : Member) → slice_get members at ≡ Some m → m.begun ≡ not (is_idle u.own)) →
    AfterIs members (members_over members at (is_let_go u (restarted u))) at false
restarted-after members at u g = ended-after members at (is_idle u.own) true (λ e. refl) g
