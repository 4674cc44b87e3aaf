-- Sets of paths, and the masks that control blocks have for them: path 0 is the leftmost bit (SA22-7832, chapter 15).
use Rattle.std.specs.Prelude.{ℕ, ◌+◌, ◌*◌, ◌/◌, ◌^◌, ◌==◌, Bool, true, false, not, ◌&&◌, ◌||◌, List, [], ◌∷◌, replicate, Option, None, Some, slice_index_or, ◌%◌, suc, zero, if◌then◌else◌}
use Rattle.zbits.specs.Bits.{bit_of}
use Rattle.zbits.specs.Layout.{bit_number}

-- the path is in the mask
abbrev pub has_path : ℕ → ℕ → Bool
has_path mask path = bit_of mask (24 + path) == 1

-- for each path, whether it is in the mask
abbrev pub paths_of_mask : ℕ → List Bool
paths_of_mask mask = has_path mask 0 ∷ has_path mask 1 ∷ has_path mask 2 ∷ has_path mask 3 ∷ has_path mask 4 ∷ has_path mask 5 ∷ has_path mask 6 ∷ has_path mask 7 ∷ []

-- the mask of one path, or of none
abbrev pub mask_of_path : Option ℕ → ℕ
mask_of_path None = 0
mask_of_path (Some path) = 128 / 2 ^ path

-- the path is in the set: 1 where it is
abbrev pub path_bit : List Bool → ℕ → ℕ
path_bit set path = bit_number (slice_index_or set path false)

-- the mask of a set of paths
abbrev pub mask_of_paths : List Bool → ℕ
mask_of_paths set =
    128 * path_bit set 0 + 64 * path_bit set 1 + 32 * path_bit set 2 + 16 * path_bit set 3
    + 8 * path_bit set 4 + 4 * path_bit set 5 + 2 * path_bit set 6 + path_bit set 7

-- whether a path is in the set
abbrev pub is_member : List Bool → ℕ → Bool
is_member set path = slice_index_or set path false

-- the set of the paths 0 to 7 of which something is so
abbrev pub each_path : (ℕ → Bool) → List Bool
each_path f = f 0 ∷ f 1 ∷ f 2 ∷ f 3 ∷ f 4 ∷ f 5 ∷ f 6 ∷ f 7 ∷ []

abbrev pub all_paths : List Bool
all_paths = replicate 8 true

abbrev pub no_paths : List Bool
no_paths = replicate 8 false

abbrev pub in_both : List Bool → List Bool → List Bool
in_both a b = each_path (λ p. is_member a p && is_member b p)

abbrev pub without : List Bool → List Bool → List Bool
without a b = each_path (λ p. is_member a p && not (is_member b p))

abbrev pub joined : List Bool → List Bool → List Bool
joined a b = each_path (λ p. is_member a p || is_member b p)

abbrev pub is_any : List Bool → Bool
is_any set =
    is_member set 0 || (is_member set 1 || (is_member set 2 || (is_member set 3
    || (is_member set 4 || (is_member set 5 || (is_member set 6 || is_member set 7))))))

-- of so many paths in cyclic order, counted from a number on, where 0 follows 7, the first that is in the set
abbrev pub cyclic_path : List Bool → ℕ → ℕ → Option ℕ
cyclic_path paths zero from = None
cyclic_path paths (suc n) from = if is_member paths (from % 8) then Some (from % 8) else cyclic_path paths n (from + 1)

-- a path is put before those that follow it, where it is in the set
abbrev pub put_before : Bool → ℕ → List ℕ → List ℕ
put_before true path paths = path ∷ paths
put_before false path paths = paths

-- the paths of a set in order of path numbers, of which the first index of the set is this one
abbrev pub members_from : ℕ → List Bool → List ℕ
members_from path [] = []
members_from path (is_in ∷ set) = put_before is_in path (members_from (path + 1) set)

abbrev pub members : List Bool → List ℕ
members set = members_from 0 set
