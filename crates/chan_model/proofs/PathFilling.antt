-- A set of which paths are put in or taken out one after another.
use Rattle.std.proofs.Common.{◌≡◌, refl, sym, ◌∙◌, ap, ℕ, zero, suc, Bool, true, false, ◌&&◌, List, [], ◌∷◌}
use Rattle.std.specs.Prelude.{slice_set}
use Rattle.chan_model.specs.PathSets.{all_paths, each_path, is_member, members, members_from, no_paths, put_before}

-- of each of these paths, one after another, it is set whether it is in
abbrev pub set_each : (ℕ → Bool) → List Bool → List ℕ → List Bool
set_each f set [] = set
set_each f set (path ∷ paths) = set_each f (slice_set set path (f path)) paths

pub all-set : (f : ℕ → Bool) → set_each f no_paths (members all_paths) ≡ each_path f
all-set f = refl

out-same : (set : List Bool) (path : ℕ) → is_member set path ≡ false → slice_set set path false ≡ set
out-same [] path e = refl
out-same (x ∷ set) zero e = ap (λ (y : Bool). y ∷ set) (sym e)
out-same (x ∷ set) (suc path) e = ap (λ (ys : List Bool). x ∷ ys) (out-same set path e)

one-set : (f : ℕ → Bool) (set : List Bool) (path : ℕ) (is_in : Bool) (rest : List ℕ) → is_member set path ≡ is_in →
    set_each f set (put_before is_in path rest) ≡ set_each f (slice_set set path (is_in && f path)) rest
one-set f set path true rest e = refl
one-set f set path false rest e = ap (λ (s : List Bool). set_each f s rest) (sym (out-same set path e))

abbrev eight : (a b c d e f g h : Bool) → List Bool
eight a b c d e f g h = a ∷ b ∷ c ∷ d ∷ e ∷ f ∷ g ∷ h ∷ []

eight-set : (t : ℕ → Bool) (a b c d e f g h : Bool) → set_each t (eight a b c d e f g h) (members (eight a b c d e f g h)) ≡ each_path (λ p. is_member (eight a b c d e f g h) p && t p)
eight-set t a b c d e f g h =
    let rest : ℕ → List Bool → List ℕ = members_from in
    one-set t (eight a b c d e f g h) 0 a (rest 1 (b ∷ c ∷ d ∷ e ∷ f ∷ g ∷ h ∷ [])) refl
    ∙ one-set t (eight (a && t 0) b c d e f g h) 1 b (rest 2 (c ∷ d ∷ e ∷ f ∷ g ∷ h ∷ [])) refl
    ∙ one-set t (eight (a && t 0) (b && t 1) c d e f g h) 2 c (rest 3 (d ∷ e ∷ f ∷ g ∷ h ∷ [])) refl
    ∙ one-set t (eight (a && t 0) (b && t 1) (c && t 2) d e f g h) 3 d (rest 4 (e ∷ f ∷ g ∷ h ∷ [])) refl
    ∙ one-set t (eight (a && t 0) (b && t 1) (c && t 2) (d && t 3) e f g h) 4 e (rest 5 (f ∷ g ∷ h ∷ [])) refl
    ∙ one-set t (eight (a && t 0) (b && t 1) (c && t 2) (d && t 3) (e && t 4) f g h) 5 f (rest 6 (g ∷ h ∷ [])) refl
    ∙ one-set t (eight (a && t 0) (b && t 1) (c && t 2) (d && t 3) (e && t 4) (f && t 5) g h) 6 g (rest 7 (h ∷ [])) refl
    ∙ one-set t (eight (a && t 0) (b && t 1) (c && t 2) (d && t 3) (e && t 4) (f && t 5) (g && t 6) h) 7 h [] refl

-- the members of a set are all asked: those stay of which it is so
pub members-set : (t : ℕ → Bool) (f : ℕ → Bool) → set_each t (each_path f) (members (each_path f)) ≡ each_path (λ p. is_member (each_path f) p && t p)
members-set t f = eight-set t (f 0) (f 1) (f 2) (f 3) (f 4) (f 5) (f 6) (f 7)
