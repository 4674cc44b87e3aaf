-- The channel paths of a subchannel: which of them are up, and which one is lost.
use Rattle.std.proofs.Common.{◌≡◌, ◌≢◌, refl, sym, ◌∙◌, ap, ℕ, zero, suc, ◌+◌, ◌<◌, ◌≤◌, ◌==◌, ◌&&◌, ◌||◌, nat_lt, Bool, true, false, not, Option, None, Some, List, [], ◌∷◌, length, slice_get, slice_set, if◌then◌else◌, inl, inr, arith}
use Rattle.std.specs.Prelude.{◌⊎◌}
use Rattle.std.specs.List.{list_any}
use Rattle.std.proofs.lemmas.Bool.{eqb-true, eq-eqb, ne_eqb, and_parts, and_from, ltb-true, lt-ltb}
use Rattle.std.proofs.lemmas.Map.Keys.{any_passes_from_place}
use Rattle.std.proofs.lemmas.Option.{slice_get_within}
use Rattle.chan_model.specs.PathSets.{is_member}
use Rattle.chan_model.specs.ResetCauses.{is_path}
use Rattle.channel_config.specs.declared.parts.SubchannelSetup.{SubchannelSetup}
use Rattle.channel_config.specs.Setup.{has_number, are_distinct}
use Rattle.subchannel_model.specs.declared.state.Subchannel.{Subchannel}
use Rattle.subchannel_model.specs.Losing.{path_index}
use Rattle.subchannel_model.specs.Indices.{one_later}
use Rattle.subchannel_model.specs.Store.{installed_paths, available_paths}
use Rattle.run_laws.proofs.Machine.PathSets.{each-true, each-from, both-parts}
use Rattle.run_laws.proofs.Machine.SweptPaths.{set-here, set-other}
use Rattle.step_laws.proofs.Indices.{same-or-not}
use Rattle.run_laws.specs.Links.{is_on, has_up, with_up}

-- eight different paths at most
pub record ArePaths (paths : List ℕ) : Type 0 where
  pub few : length paths ≤ 8
  pub distinct : are_distinct paths ≡ true

-- the mask shows which paths are up
abbrev pub IsShownBy : (ℕ → Bool) → List ℕ → List Bool → Type 0
IsShownBy is_up paths available = (p chpid : ℕ) → slice_get paths p ≡ Some chpid → is_member available p ≡ is_up chpid

-- a channel path is at one index
not-again : (x c : ℕ) (xs : List ℕ) (p : ℕ) → are_distinct (x ∷ xs) ≡ true → x ≡ c → slice_get xs p ≡ Some c → ⊥
not-again x c xs p d same e =
    let again : has_number xs x ≡ true = any_passes_from_place (λ m. m == x) xs p c e (eq-eqb c x (sym same)) in
    cc (sym (ap not again) ∙ (and_parts (not (has_number xs x)) (are_distinct xs) d).0)

pub at-once : (xs : List ℕ) (p q c : ℕ) → are_distinct xs ≡ true → slice_get xs p ≡ Some c → slice_get xs q ≡ Some c → p ≡ q
at-once [] p q c d e f = absurd (cc e)
at-once (x ∷ xs) zero zero c d e f = refl
at-once (x ∷ xs) zero (suc q) c d e f = absurd (not-again x c xs q d (cc e) f)
at-once (x ∷ xs) (suc p) zero c d e f = absurd (not-again x c xs p d (cc f) e)
at-once (x ∷ xs) (suc p) (suc q) c d e f = ap suc (at-once xs p q c (and_parts (not (has_number xs x)) (are_distinct xs) d).1 e f)

first-cases : (b : Bool) (o : Option ℕ) (p : ℕ) → (if b then Some 0 else one_later o) ≡ Some p → ((b ≡ true) × (p ≡ zero)) ⊎ ((i : ℕ) × (o ≡ Some i) × (p ≡ suc i))
first-cases true o p e = let z : 0 ≡ p = cc e in inl (refl, omega (arith, z))
first-cases false None p e = absurd (cc e)
first-cases false (Some i) p e = let z : i + 1 ≡ p = cc e in inr (i, refl, omega (arith, z))

pub index-is : (chpid : ℕ) (xs : List ℕ) (p : ℕ) → path_index chpid xs ≡ Some p → slice_get xs p ≡ Some chpid
index-is chpid [] p e = absurd (cc e)
index-is chpid (x ∷ xs) p e =
    elim (first-cases (x == chpid) (path_index chpid xs) p e) [
      | inl h ↦ ap (slice_get (x ∷ xs)) h.1 ∙ ap Some (eqb-true x chpid h.0)
      | inr h ↦ ap (slice_get (x ∷ xs)) h.2 ∙ index-is chpid xs h.0 h.1
    ]

none-cases : (b : Bool) (o : Option ℕ) → (if b then Some 0 else one_later o) ≡ None → (b ≡ false) × (o ≡ None)
none-cases true o e = absurd (cc e)
none-cases false None e = (refl, refl)
none-cases false (Some i) e = absurd (cc e)

pub index-none : (chpid : ℕ) (xs : List ℕ) (q : ℕ) → path_index chpid xs ≡ None → slice_get xs q ≡ Some chpid → ⊥
index-none chpid [] q e f = cc f
index-none chpid (x ∷ xs) zero e f =
    let same : x ≡ chpid = cc f in cc (sym (eq-eqb x chpid same) ∙ (none-cases (x == chpid) (path_index chpid xs) e).0)
index-none chpid (x ∷ xs) (suc q) e f = index-none chpid xs q (none-cases (x == chpid) (path_index chpid xs) e).1 f

-- a path of the subchannel is of a channel path where it is its place
at-path : (paths : List ℕ) (p q chpid : ℕ) (o : Option ℕ) → are_distinct paths ≡ true → slice_get paths p ≡ Some chpid → slice_get paths q ≡ o → is_path o chpid ≡ (q == p)
at-path paths p q chpid None d e f = sym (ne_eqb q p (λ h. cc (sym f ∙ ap (slice_get paths) h ∙ e)))
at-path paths p q chpid (Some c) d e f =
    elim (same-or-not c chpid) [
      | inl h ↦ h.1 ∙ sym (eq-eqb q p (at-once paths q p chpid d (f ∙ ap Some h.0) e))
      | inr n ↦ n.1 ∙ sym (ne_eqb q p (λ h. let same : c ≡ chpid = cc (sym f ∙ ap (slice_get paths) h ∙ e) in n.0 same))
    ]

pub on-path : (setup : SubchannelSetup) (o : Option ℕ) (p chpid : ℕ) → are_distinct setup.paths ≡ true → slice_get setup.paths p ≡ Some chpid → is_on setup o chpid ≡ is_path o p
on-path setup None p chpid d e = refl
on-path setup (Some q) p chpid d e = at-path setup.paths p q chpid (slice_get setup.paths q) d e refl

off-path : (paths : List ℕ) (q chpid : ℕ) (o : Option ℕ) → path_index chpid paths ≡ None → slice_get paths q ≡ o → is_path o chpid ≡ false
off-path paths q chpid None n f = refl
off-path paths q chpid (Some c) n f = ne_eqb c chpid (λ h. index-none chpid paths q n (f ∙ ap Some h))

pub on-none : (setup : SubchannelSetup) (o : Option ℕ) (chpid : ℕ) → path_index chpid setup.paths ≡ None → is_on setup o chpid ≡ false
on-none setup None chpid n = refl
on-none setup (Some q) chpid n = off-path setup.paths q chpid (slice_get setup.paths q) n refl

-- the mask as a channel path goes down or comes up
pub up-here : (chpid c : ℕ) (b : Bool) (is_up : ℕ → Bool) → c ≡ chpid → with_up chpid b is_up c ≡ b
up-here chpid c b is_up e = ap (λ (z : Bool). if z then b else is_up c) (eq-eqb c chpid e)

pub up-other : (chpid c : ℕ) (b : Bool) (is_up : ℕ → Bool) → c ≢ chpid → with_up chpid b is_up c ≡ is_up c
up-other chpid c b is_up n = ap (λ (z : Bool). if z then b else is_up c) (ne_eqb c chpid n)

pub shown-set : (is_up : ℕ → Bool) (b : Bool) (chpid p : ℕ) (paths : List ℕ) (available : List Bool) → ArePaths paths → length available ≡ 8 → path_index chpid paths ≡ Some p → IsShownBy is_up paths available →
    IsShownBy (with_up chpid b is_up) paths (slice_set available p b)
shown-set is_up b chpid p paths available k long e shown = λ q c at.
    elim (same-or-not c chpid) [
      | inl h ↦
          let within : q < length paths = slice_get_within paths q c at in
          let few : length paths ≤ 8 = k.few in
          let same : q ≡ p = at-once paths q p chpid k.distinct (at ∙ ap Some h.0) (index-is chpid paths p e) in
          ap (is_member (slice_set available p b)) same ∙ set-here available p b false (omega (arith, within, few, same, long)) ∙ sym (up-here chpid c b is_up h.0)
      | inr n ↦
          set-other available p b q false (λ h. let same : c ≡ chpid = cc (sym at ∙ ap (slice_get paths) h ∙ index-is chpid paths p e) in n.0 same)
          ∙ shown q c at ∙ sym (up-other chpid c b is_up n.0)
    ]

pub shown-none : (is_up : ℕ → Bool) (b : Bool) (chpid : ℕ) (paths : List ℕ) (available : List Bool) → path_index chpid paths ≡ None → IsShownBy is_up paths available →
    IsShownBy (with_up chpid b is_up) paths available
shown-none is_up b chpid paths available e shown = λ q c at.
    shown q c at ∙ sym (up-other chpid c b is_up (λ h. index-none chpid paths q e (at ∙ ap Some h)))

-- an available path is one of the subchannel, and up
pub there-is : {A : Type 0} (xs : List A) (n : ℕ) → n < length xs → (x : A) × (slice_get xs n ≡ Some x)
there-is [] n l = absurd (omega (arith, l))
there-is (x ∷ xs) zero l = (x, refl)
there-is (x ∷ xs) (suc n) l = there-is xs n (omega (arith, l))

pub member-up : (is_up : ℕ → Bool) (sub : Subchannel) (path : ℕ) → IsShownBy is_up sub.setup.paths sub.state.pmcw.available → is_member (available_paths sub) path ≡ true →
    (chpid : ℕ) × (slice_get sub.setup.paths path ≡ Some chpid) × (is_up chpid ≡ true)
member-up is_up sub path shown e =
    let parts = both-parts (installed_paths sub) sub.state.pmcw.available path e in
    let within : path < length sub.setup.paths = ltb-true path (length sub.setup.paths) (each-true (λ p. nat_lt p (length sub.setup.paths)) path parts.0) in
    let there = there-is sub.setup.paths path within in
    (there.0, there.1, sym (shown path there.0 there.1) ∙ parts.1)

record IsAny (f : ℕ → Bool) (xs : List ℕ) : Type 0 where
  at : ℕ
  value : ℕ
  there : slice_get xs at ≡ Some value
  passes : f value ≡ true

any-more : (f : ℕ → Bool) (x : ℕ) (xs : List ℕ) (b : Bool) → f x ≡ b → (b || list_any f xs) ≡ true → (list_any f xs ≡ true → IsAny f xs) → IsAny f (x ∷ xs)
any-more f x xs true h e more = record { at = zero; value = x; there = refl; passes = h }
any-more f x xs false h e more = let k : IsAny f xs = more e in record { at = suc k.at; value = k.value; there = k.there; passes = k.passes }

any-at : (f : ℕ → Bool) (xs : List ℕ) → list_any f xs ≡ true → IsAny f xs
any-at f [] e = absurd (cc e)
any-at f (x ∷ xs) e = any-more f x xs (f x) refl e (any-at f xs)

pub up-member : (is_up : ℕ → Bool) (sub : Subchannel) → ArePaths sub.setup.paths → IsShownBy is_up sub.setup.paths sub.state.pmcw.available → has_up is_up sub.setup ≡ true →
    (path : ℕ) × ((path < 8) × (is_member (available_paths sub) path ≡ true))
up-member is_up sub k shown e =
    let there : IsAny is_up sub.setup.paths = any-at is_up sub.setup.paths e in
    let path : ℕ = there.at in
    let within : path < length sub.setup.paths = slice_get_within sub.setup.paths path there.value there.there in
    let few : length sub.setup.paths ≤ 8 = k.few in
    let low : path < 8 = omega (arith, within, few) in (
      path,
      (
        low,
        each-from (λ p. is_member (installed_paths sub) p && is_member sub.state.pmcw.available p) path low
            (and_from (is_member (installed_paths sub) path) (is_member sub.state.pmcw.available path)
            (each-from (λ p. nat_lt p (length sub.setup.paths)) path low (lt-ltb path (length sub.setup.paths) within)) (shown path there.value there.there ∙ there.passes)),
      ),
    )

pub member-usable : (set : List Bool) (p : ℕ) → is_member set p ≡ true → slice_get set p ≡ Some true
member-usable [] p e = absurd (cc e)
member-usable (x ∷ xs) zero e = ap Some e
member-usable (x ∷ xs) (suc p) e = member-usable xs p e
