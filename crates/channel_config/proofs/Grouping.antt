-- What a group of units is made of.
use Rattle.std.proofs.Common.{◌≡◌, ℕ, ◌+◌, ◌<◌, ◌≤◌, true, List, [], ◌∷◌, ◌++◌, length, length-take-le, take, get_or, refl, ap, ◌∙◌, arith, suc, zero}
use Rattle.std.specs.Prelude.{Option, Some, slice_set, slice_index_or, unwrap_or}
use Rattle.std.specs.List.{list_all}
use Rattle.std.proofs.lemmas.List.{take_more}
use Rattle.std.proofs.lemmas.Bool.{and_parts}
use Rattle.channel_config.specs.Setup.{may_share, grouped, groups_from}

set-length : {A : Type 0} (xs : List A) (i : ℕ) (x : A) → length (slice_set xs i x) ≡ length xs
set-length [] i x = refl
set-length (y ∷ ys) zero x = refl
set-length (y ∷ ys) (suc i) x = ap (λ (n : ℕ). suc n) (set-length ys i x)

-- there are as many units as there were
pub grouped-length : (shared : List (Option ℕ)) (group : ℕ) (units : List ℕ) → length (grouped shared group units) ≡ length shared
grouped-length shared group [] = refl
grouped-length shared group (unit ∷ units) = grouped-length (slice_set shared unit (Some group)) group units ∙ set-length shared unit (Some group)

alone-known : (shared : List (Option ℕ)) (unit : ℕ) → may_share shared unit ≡ true → unit < length shared
alone-known [] unit h = absurd (cc)
alone-known (x ∷ xs) zero h = omega arith
alone-known (x ∷ xs) (suc unit) h = let rest = alone-known xs unit h in omega arith

-- the first unit of a line that may share is one that there is
pub first-known : (shared : List (Option ℕ)) (units : List ℕ) → 1 ≤ length units → list_all (may_share shared) units ≡ true → slice_index_or units 0 0 < length shared
first-known shared [] some h = absurd (omega arith)
first-known shared (unit ∷ units) some h = alone-known shared unit (and_parts (may_share shared unit) (list_all (may_share shared) units) h).0

grouped-push : (shared : List (Option ℕ)) (group : ℕ) (units : List ℕ) (unit : ℕ) → grouped shared group (units ++ unit ∷ []) ≡ slice_set (grouped shared group units) unit (Some group)
grouped-push shared group [] unit = refl
grouped-push shared group (u ∷ us) unit = grouped-push (slice_set shared u (Some group)) group us unit

pub grouped-next : (shared : List (Option ℕ)) (group : ℕ) (units : List ℕ) (i d : ℕ) → i < length units
    → grouped shared group (take (i + 1) units) ≡ slice_set (grouped shared group (take i units)) (get_or units i d) (Some group)
grouped-next shared group units i d h = ap (grouped shared group) (take_more units i d h) ∙ grouped-push shared group (take i units) (get_or units i d)

groups-push : (first : ℕ) (shared : List (Option ℕ)) (group : Option ℕ)
    → groups_from first (shared ++ group ∷ []) ≡ groups_from first shared ++ unwrap_or group (length shared + first) ∷ []
groups-push first [] group = ap (λ (n : ℕ). unwrap_or group n ∷ []) (omega arith)
groups-push first (x ∷ xs) group = ap (λ ns. unwrap_or x first ∷ ns) (groups-push (first + 1) xs group ∙ ap (λ (n : ℕ). groups_from (first + 1) xs ++ unwrap_or group n ∷ []) (omega arith))

pub groups-next : (shared : List (Option ℕ)) (i : ℕ) (d : Option ℕ) → i < length shared
    → groups_from 0 (take (i + 1) shared) ≡ groups_from 0 (take i shared) ++ unwrap_or (get_or shared i d) i ∷ []
groups-next shared i d h =
    ap (groups_from 0) (take_more shared i d h) ∙ groups-push 0 (take i shared) (get_or shared i d)
    ∙ ap (λ (n : ℕ). groups_from 0 (take i shared) ++ unwrap_or (get_or shared i d) n ∷ []) (omega (arith, length-take-le i shared (omega arith)))
