-- The members of sets of paths.
use Rattle.std.proofs.Common.{◌≡◌, refl, zero, suc, sym, ◌∙◌, ap, ℕ, Bool, true, false, not, ◌&&◌, Option, Some, List}
use Rattle.std.proofs.lemmas.Bool.{eqb-true}
use Rattle.allegiance.specs.declared.path_use.PathUse.{PathUse}
use Rattle.allegiance.specs.PathUse.{keeps_dedicated, is_allowed, allowed_paths, reachable_paths, usable_paths}
use Rattle.chan_model.specs.PathSets.{is_member, each_path, in_both, without}

pub first-holds : (a b : Bool) → (a && b) ≡ true → a ≡ true
first-holds true b h = refl
first-holds false b h = h

pub second-holds : (a b : Bool) → (a && b) ≡ true → b ≡ true
second-holds true b h = h
second-holds false b h = cc

pub member-passes : (f : ℕ → Bool) (path : ℕ) → is_member (each_path f) path ≡ true → f path ≡ true
member-passes f zero h = h
member-passes f (suc zero) h = h
member-passes f (suc (suc zero)) h = h
member-passes f (suc (suc (suc zero))) h = h
member-passes f (suc (suc (suc (suc zero)))) h = h
member-passes f (suc (suc (suc (suc (suc zero))))) h = h
member-passes f (suc (suc (suc (suc (suc (suc zero)))))) h = h
member-passes f (suc (suc (suc (suc (suc (suc (suc zero))))))) h = h
member-passes f (suc (suc (suc (suc (suc (suc (suc (suc n)))))))) h = cc

-- a member of both sets is a member of the first, and so is one of the first set without the second
pub both-first : (a b : List Bool) (path : ℕ) → is_member (in_both a b) path ≡ true → is_member a path ≡ true
both-first a b path h =
    first-holds (is_member a path) (is_member b path) (member-passes (λ p. is_member a p && is_member b p) path h)

pub without-first : (a b : List Bool) (path : ℕ) → is_member (without a b) path ≡ true → is_member a path ≡ true
without-first a b path h =
    first-holds (is_member a path) (not (is_member b path)) (member-passes (λ p. is_member a p && not (is_member b p)) path h)

-- a member of the usable paths is the path of the dedicated allegiance, where one stands
pub usable-keeps : (u : PathUse) (engaged : List Bool) (d path : ℕ) → u.dedicated ≡ Some d → is_member (usable_paths u engaged) path ≡ true → d ≡ path
usable-keeps u engaged d path stands h =
    let reachable : is_member (reachable_paths u) path ≡ true = without-first (reachable_paths u) engaged path h in
    let installed : is_member (in_both (allowed_paths u) u.installed) path ≡ true = both-first (in_both (allowed_paths u) u.installed) u.available path reachable in
    let allowed : is_member (allowed_paths u) path ≡ true = both-first (allowed_paths u) u.installed path installed in
    let keeps : keeps_dedicated u.dedicated path ≡ true =
    second-holds (is_member u.logical path) (keeps_dedicated u.dedicated path) (member-passes (is_allowed u.logical u.dedicated) path allowed) in
    eqb-true d path (sym (ap (λ (o : Option ℕ). keeps_dedicated o path) stands) ∙ keeps)
